-- What is not decided changed nothing.
use Rattle.law_headline.proofs.Vocabulary.{◌≡◌, ◌≢◌, inl, ℕ, ◌==◌, false, List, [], ◌∷◌, ◌++◌, Option, Some, None, refl, sym, ap, subst, ◌∙◌, arith, unwrap_or, nat_tests, append-nil, Opening, Content, Prefix, Row, Verdict, State, record_of, Has}
use Rattle.law_headline.proofs.Vocabulary.{contains_from, Event, server_at, Decided, decisions, number_of, IsNotDecided, AreTheRecords, record_by, decided_once, decisions_are_the_records, decisions_go_on, later_decisions, was_answered, servers_of}
use Rattle.law_headline.proofs.Vocabulary.{home_in}
use Rattle.law_run_machine.proofs.Consistent.{servers_are_consistent}
use Rattle.rep_core.proofs.Effects.{finish_keeps_effect}
use Rattle.run_core.specs.TableOfRun.{table_after_all, table_of}
use Rattle.law_runs.proofs.Standing.{append_has_left}
use Rattle.law_one_table.specs.Effects.{answered_in, copy_at}
use Rattle.law_one_table.specs.Versions.{RowVersions, HadRow, PrefixWas, ContentWas, HoldAt}
use Rattle.law_headline.specs.Nothing.{of_others, table_without, OthersHad, AreOfOthers, ChangedNothing}
use Rattle.law_headline.specs.Laws.{NotDecidedChangeNothing, UndecidedChangeNothing}
use Rattle.run_core.specs.Runs.{run}
use Rattle.file_ops.specs.Rows as rows
use Rattle.rep_core.specs.declared.reply.Verdict.TheVariants as verdict
use Rattle.rep_core.specs.State as state

-- ---- the table

other : (a t : ℕ) → a ≢ t → (a == t) ≡ false
other a t apart = grind (arith, nat_tests)

all_others : (t : ℕ) (all : List Decided) → ((one : Decided) → Has all one → one.t ≢ t) → of_others t all ≡ all
all_others t [] apart = refl
all_others t (one ∷ all) apart = search (other one.t t (apart one (inl refl)), all_others t all, arith)

module _ (given : Opening) (events : List Event) (t : ℕ) (absent : IsNotDecided (decisions given events) t) where
  table_same : (before later : List Event) → events ≡ before ++ later → table_of given before ≡ table_without given before t
  table_same before later parts = sym (ap (table_after_all (rows.opening given)) (all_others t (decisions given before) apart))
    where
      apart : (one : Decided) → Has (decisions given before) one → one.t ≢ t
      apart one has = absent one (contains_from (decisions given events) one
          (subst (λ all. Has all one) (sym (ap (decisions given) parts ∙ decisions_go_on given before later)) (append_has_left (decisions given before) (later_decisions given before later) one has)))

  -- ---- the copies

  not_answered : AreTheRecords given events → answered_in given events t ≡ false
  not_answered records = of (server_at (run given events) home) refl
    where
      home : ℕ
      home = home_in given t

      by : (found : Option Verdict) → record_by (server_at (run given events) home) t ≡ found → was_answered found ≡ false
      by None is = refl
      by (Some verdict.Aborted) is = refl
      by (Some (verdict.Refused refusal)) is = refl
      by (Some (verdict.Answered answers)) is = let decided = records.answered home t answers is in absurd (absent decided.decision decided.there decided.of_it)

      of : (found : Option State) → server_at (run given events) home ≡ found → was_answered (record_of (unwrap_or found (state.opening home given)) t) ≡ false
      of None is = refl
      of (Some st) is = by (record_of st t) (ap (λ found. record_by found t) is)

  -- ---- what is held

  others_had : (z : ℕ) (P : List Event → Row → Type 0) → HadRow given events z P → OthersHad given events t z P
  others_had z h1 had = search (table_same, arith)

  module _ (at : RowVersions) where
    are_of_others : (z : ℕ) (prefix : Prefix) (dver : ℕ) (content : Content) → PrefixWas given at events z prefix → ContentWas given at events z dver content → AreOfOthers given at events t z prefix dver content
    are_of_others z prefix dver content first second = search (others_had, arith)

    changed_nothing : AreTheRecords given events → HoldAt given at events → ChangedNothing given at events t
    changed_nothing records hold = record {
      table = table_same events [] (sym (append-nil events));
      copies = λ z server. sym (finish_keeps_effect (servers_of given (run given events) server).store t false (answered_in given events) z (servers_are_consistent given events server).sound (not_answered records));
      effects = λ z server.
          let copy = copy_at given events z server in
          are_of_others z copy.prefix copy.dver copy.content (hold.copies z server).prefix (hold.copies z server).content;
      caches = λ number actor entry there in'.
          let was = hold.caches number actor entry there in' in
          are_of_others entry.suite entry.prefix entry.dver entry.content was.prefix was.content;
    }

-- ---- the laws

pub not_decided_change_nothing : NotDecidedChangeNothing
not_decided_change_nothing given events versions t can absent =
    changed_nothing given events t absent versions.at (decisions_are_the_records given can.accepted events) (versions.hold events [] (sym (append-nil events)))

pub undecided_change_nothing : UndecidedChangeNothing
undecided_change_nothing given events later versions job cause can there ending =
    not_decided_change_nothing given (events ++ later) versions (number_of job) can ((decided_once given can.accepted events).undecided job cause there ending later)
