-- What a transaction asks a server, its machine of a suite lets it ask.
use Rattle.law_run_machine.proofs.Vocabulary.{◌≡◌, ◌⊎◌, ℕ, true, false, cond, List, ◌∷◌, Option, Some, None, is_some, Ok, Err, refl, sym, ap, ◌∙◌, arith, ◌==◌, ◌≢◌, filter, nat_cmp, false≢true, nat_tests, IsOrdered, Shared, Lock, Part, Request}
use Rattle.law_run_machine.proofs.Vocabulary.{has_prepared, verdict_of, has_map, has_filter, find_some, holds, ReadPoint, GatheredSuite, Suites, suite_of, holds_lock, holds_exclusively, told_at, take_of_changed, take_from, part_of, parts_at, Fixed}
use Rattle.law_run_machine.proofs.Vocabulary.{Task, Proposal, Phase, Preparing, Deciding, asked_for, fetched_for, request_in, changes_of, decision_of, asks_same, Beginning, Change, Entry, World, Told, Verdict, Answered, Refused, Aborted, Event}
use Rattle.law_run_machine.proofs.Vocabulary.{happens, decided, May, ended_as, Decides, AgentSide, change_to, written_from, to_write, decides_first, decides_on, decision_with, decision_in}
use Rattle.rep_core.specs.Store.{is_keep}
use Rattle.rep_core.proofs.IntentionLookups.{get_has}
use Rattle.suite_collect.specs.Collecting.{request_for, Asked, asked_of, Upgrade}
use Rattle.law_server_moves.specs.Preparing.{GoesBy, Sends}
use Rattle.file_exec.specs.declared.changes.Change as executor
use Rattle.rep_core.specs.declared.request.Take.TheVariants as take
use Rattle.rep_core.specs.declared.request.Request.TheVariants as request
use Rattle.law_run_machine.proofs.Own.{Unheard}
use Rattle.law_run_machine.proofs.Stages.{Going, Stage}

-- ---- what a collector asks

-- what is asked for a suite
record AsksFor (task : Task) (suites : Suites) (number server : ℕ) (asked : Request) : Type 0 where
  pub suite : GatheredSuite
  pub there : suite_of suites number ≡ Some suite
  pub question : Asked
  pub comes : question ≡ asked_of suite.collector server
  pub is : request_for task.t number question ≡ asked

pub asks_there : (a b : ℕ) (x y : Request) → ◌≡◌ {A = Option (ℕ × Request)} (Some (a, x)) (Some (b, y)) → a ≡ b
asks_there a b x y same = search arith

-- what was told of each server
abbrev pub ToldAs : ℕ → World → ℕ → Suites → Type 0
ToldAs z w t suites = (i : ℕ) → is_some (w.told i t) ≡ holds Shared (told_at suites z) i

pub told_none : (o : Option Told) → is_some o ≡ false → o ≡ None
told_none o h1 = search arith

-- ---- an upgrade is of a lock that was told of

module _ (z : ℕ) (w : World) (fixed : Fixed) (task : Task) (suites : Suites) (server : ℕ) (told : ToldAs z w task.t suites) where
  pub upgrade_told : (phase : Phase) (t s : ℕ) → request_in fixed task suites phase ≡ Some (server, request.Upgrade t s) → z ≡ s → is_some (w.told server task.t) ≡ true
  upgrade_told phase t s h3 h4 = search arith

-- ---- what is prepared goes by what is to be written

goes_by : (first : ReadPoint) (change : executor.Change) (server : ℕ) → is_keep (take_of_changed first change server) ≡ false → GoesBy (take_of_changed first change server) (change_to first change)
goes_by first change server changes = search arith

-- of a suite of which that much is known
writes : (suite : GatheredSuite) (server : ℕ) (first : Option ReadPoint) (change : Option executor.Change) → is_keep (take_from suite server first change) ≡ false
    → (new : Change) × (written_from first change ≡ Some new) × GoesBy (take_from suite server first change) new
writes suite server (Some first) (Some change) changes =
    elim (holds_exclusively suite server) as (λ b. is_keep (cond b (take_of_changed first change server) take.Keep) ≡ false
    → (new : Change) × (Some (change_to first change) ≡ Some new) × GoesBy (cond b (take_of_changed first change server) take.Keep) new) [
      | true ↦ λ changes. (change_to first change, refl, goes_by first change server changes)
      | false ↦ λ no. absurd (false≢true (sym no))
    ] changes
writes suite server (Some first) None changes = absurd (false≢true (sym changes))
writes suite server None (Some change) changes = absurd (false≢true (sym changes))
writes suite server None None changes = absurd (false≢true (sym changes))

same_number : (a b : ℕ) → (a == b) ≡ true → a ≡ b
same_number a b e = grind (arith, nat_tests)

not_answered : (o : Option Verdict) → (o ≡ None) ⊎ (o ≡ Some Aborted) → o ≢ Some Answered
not_answered o h1 h2 = search arith

sends : (z : ℕ) (w : World) (task : Task) (suites : Suites) (outcome : Proposal) (server : ℕ) (locks : List Lock) → IsOrdered nat_cmp suites → Going w task.t → w.aim task.t ≡ to_write z suites outcome → has_prepared task.t locks ≡ false
    → Sends w locks task.t z (parts_at suites (changes_of outcome) server)
sends z w task suites outcome server locks ordered going aimed first part is =
    let changes = changes_of outcome in
    let found = find_some (λ part. part.suite == z) (parts_at suites changes server) part is in
    let one = has_map (part_of changes server) (filter (λ one. holds_lock one.1 server) suites) part found.0 in
    let there = (has_filter (λ one. holds_lock one.1 server) suites one.0 one.1).0 in
    let here : one.0.0 ≡ z = ap (λ (part : Part). part.suite) one.2 ∙ same_number part.suite z found.1 in
    let suite_is : suite_of suites z ≡ Some one.0.1 = ap (suite_of suites) (sym here) ∙ get_has suites one.0.0 one.0.1 ordered there in
    record {
      first = first;
      unanswered = not_answered (w.verdict task.t) going.verdict;
      fixed = search (writes, arith);
    }

-- ---- what is decided

module _ (start : Beginning) (w : World) (t : ℕ) where
  abbrev ended : Proposal → Verdict
  ended (Ok granted) = Answered
  ended (Err refusal) = Refused

  logs : (outcome : Proposal) (new : Option Change) (found : Option GatheredSuite) → (log : List Entry) × (happens start w (decides_on w t outcome new found) ≡ decided w t (ended outcome) log)
  logs (Ok granted) new None = (_, refl)
  logs (Err refusal) new None = (_, refl)
  logs (Ok granted) new (Some suite) = by new suite.first
    where
      by : (new : Option Change) (first : Option ReadPoint) → (log : List Entry) × (happens start w (decides_first w t (Ok granted) new suite first) ≡ decided w t Answered log)
      by new None = (_, refl)
      by None (Some first) = (_, refl)
      by (Some change) (Some first) = (_, refl)
  logs (Err refusal) new (Some suite) = by new suite.first
    where
      by : (new : Option Change) (first : Option ReadPoint) → (log : List Entry) × (happens start w (decides_first w t (Err refusal) new suite first) ≡ decided w t Refused log)
      by new None = (_, refl)
      by new (Some first) = (_, refl)

ended_so : (task : Task) (outcome : Proposal) (start : Beginning) (w : World) (t : ℕ) → ended start w t outcome ≡ ended_as (verdict_of (decision_of task outcome))
ended_so task outcome start w t = search arith

decides : (start : Beginning) (z : ℕ) (w : World) (task : Task) (suites : Suites) (outcome : Proposal) → (w.verdict task.t ≡ None → May start w (decision_with z w task suites outcome))
    → Decides start w task.t (ended_as (verdict_of (decision_of task outcome))) (decision_with z w task suites outcome)
decides start z w task suites outcome may = search (logs start w task.t outcome (to_write z suites outcome) (suite_of suites z), ended_so task outcome start w task.t, arith)

-- a decision sets no lock, and tells of none
pub decision_unheard : (start : Beginning) (z : ℕ) (w : World) (task : Task) (suites : Suites) (phase : Phase) → Unheard w (happens start w (decision_in z w task suites phase))
decision_unheard start z w task suites phase = search arith

-- ---- the agent's side

module _ (start : Beginning) (z : ℕ) (home : ℕ → ℕ) (locks : List Lock) (w : World) (fixed : Fixed) (task : Task) (suites : Suites) (server : ℕ) (ordered : IsOrdered nat_cmp suites)
    (ungranted : (i : ℕ) → holds Shared (told_at suites z) i ≡ false → w.granted i task.t ≡ false) where
  asks_lock : (number : ℕ) (asked : Request) (decision : Event) → asked_for task number (suite_of suites number) ≡ Some (server, asked) → AgentSide start z home decision server locks w asked
  asks_lock number asked decision is = search arith

  fetches : (number : ℕ) (asked : Request) (decision : Event) (found : Option GatheredSuite) → fetched_for task number found ≡ Some (server, asked) → AgentSide start z home decision server locks w asked
  fetches number asked decision found h4 = search arith

  pub agent_side : (phase : Phase) (asked : Request) → request_in fixed task suites phase ≡ Some (server, asked) → Stage z w task.t suites phase
      → ((outcome : Proposal) → phase ≡ Deciding outcome → w.verdict task.t ≡ None → May start w (decision_with z w task suites outcome))
      → ((now : ℕ) (left : List ℕ) (outcome : Proposal) → phase ≡ Preparing (now ∷ left) outcome → now ≡ server → has_prepared task.t locks ≡ false)
      → AgentSide start z home (decision_in z w task suites phase) server locks w asked
  agent_side phase asked h2 h3 h4 h5 = search (asks_lock, fetches, asks_same, sends, asks_there, decides, arith)
