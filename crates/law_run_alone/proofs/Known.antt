-- Where the locks of a transaction stand, what it knows of a suite is what the suite's register holds; and the register holds what some copy does.
use Rattle.law_run_alone.proofs.Vocabulary.{◌≡◌, ◌≢◌, inl, inr, ℕ, ◌≤◌, true, List, Option, Some, sym, ap, subst, ◌∙◌, arith, and_parts, Content, Opening, is_valid_prefix, is_valid_copy, is_within_limits, Prefix, Replica, all_told, ReadPoint}
use Rattle.law_run_alone.proofs.Vocabulary.{GatheredSuite, suite_of, told_in, TransactionRun, Running, fixed_of, Actor, actor_at, Beginning, Entry, row, prefix_at, GoesWith, IsKnown, effect_held, Inv, beginning, showed, showed_to, known_by}
use Rattle.law_run_alone.proofs.Vocabulary.{OwesKnown, suite_was, known_prefix, known_content, told_to, Agrees, DoingAgrees, valid_was, knows_from_a_quorum, Together}
use Rattle.law_suite_machine.specs.Machine.{Told, Answered, IsQuorum, effect, World}
use Rattle.law_suite_machine.proofs.Rows.{Logged}
use Rattle.law_suite_machine.proofs.Knowing.{within_row}
use Rattle.law_suite_machine.proofs.Conclusions.{quorums_show}
use Rattle.law_headline.proofs.Firsts.{firsts_given}
use Rattle.law_suite_machine.specs.Registers.{Known}
use Rattle.run_core.specs.Worlds as worlds
use Rattle.law_run_alone.proofs.Standing.{Stands}

-- ---- what is known

-- those that showed a copy told of it
showed_told : (known : Known) (o : Option Told) → showed known o ≡ true → (told : Told) × (o ≡ Some told) × (told.copy.prefix.pver ≤ known.prefix.pver) × (told.copy.dver ≤ known.dver)
showed_told known o h2 = search arith

-- a content that goes with the row's prefix at the row's version is the row's
row_content : (start : Beginning) (log : List Entry) → Logged start log → (prefix : Prefix) (d : ℕ) (content : Content) → prefix ≡ (row start log).prefix
    → d ≡ (row start log).dver → GoesWith start log prefix d content → content ≡ (row start log).content
row_content start log h2 prefix d content h6 h7 h8 = search arith

module _ (start : Beginning) (w : World) (inv : Inv start w) (t : ℕ) (stands : Stands w t) (unanswered : w.verdict t ≢ Some Answered) where
  -- a copy that was told of is in effect
  told_effect : (i : ℕ) (told : Told) → w.told i t ≡ Some told → effect w i ≡ told.copy
  told_effect i told is = let stood = stands i told is in effect_held w inv.sound i t stood.0 stood.1 unanswered ∙ inv.sound.shown i t told stood.0 is stood.1

  module _ (known : Known) (owes : OwesKnown start w t known) where
    version_known : known.prefix.pver ≡ (row start w.log).prefix.pver
    version_known =
        let le = owes.was.0 in
        let x = inv.current.reach known.prefix.pver le (showed_to w t known) (subst (λ (p : Prefix). IsQuorum p.votes (showed_to w t known)) (sym owes.was.1) owes.quorum) in
        let a = showed_told known (w.told x.0 t) x.1 in
        let newest = a.2 in
        let same = ap (λ (c : Replica). c.prefix.pver) (told_effect x.0 a.0 a.1) in
        elim (x.2) [ inl lt ↦ absurd (omega arith) | inr e ↦ omega arith ]

    prefix_known : known.prefix ≡ (row start w.log).prefix
    prefix_known = sym owes.was.1 ∙ ap (prefix_at start w.log) version_known ∙ inv.logged.own.0.1

    dver_known : known.dver ≡ (row start w.log).dver
    dver_known =
        let x = inv.current.content (showed_to w t known) (subst (λ (p : Prefix). IsQuorum p.votes (showed_to w t known)) prefix_known owes.quorum) in
        let a = showed_told known (w.told x.0 t) x.1 in
        let greatest = a.3 in
        let same = ap (λ (c : Replica). c.dver) (told_effect x.0 a.0 a.1) in
        let most = within_row start w inv owes.from in
        let from = ap (λ (c : Replica). c.dver) (told_effect owes.from owes.from_told owes.told_from) in
        let of = owes.told_dver in
        let there = x.2 in
        omega arith

    pub is_known : IsKnown (row start w.log) known
    is_known = search (prefix_known, dver_known, row_content, arith)

-- what a transaction knows of a suite that had a quorum
pub known_owed : (given : Opening) (z : ℕ) (w : World) (world : worlds.World) → Together given z w world → (number : ℕ) (actor : Actor) (txn_run : TransactionRun)
    → actor_at world number ≡ Some actor → actor.agent.doing ≡ Some (Running txn_run)
    → (suite : GatheredSuite) (first : ReadPoint) → suite_of txn_run.suites z ≡ Some suite → suite.first ≡ Some first → OwesKnown (beginning z given) w txn_run.task.t (known_by first suite)
known_owed given z w world now number actor txn_run there running suite first found had =
    let was = suite_was z (beginning z given) w actor.agent txn_run suite (now.fits number actor there) running found in
    let prefix = known_prefix z (beginning z given) w txn_run.task.t suite was first had in
    knows_from_a_quorum (beginning z given) w txn_run.task.t suite first (valid_was (beginning z given) w first.prefix now.inv prefix)
    (firsts_given (fixed_of given) actor.agent (now.jobs number actor there) txn_run running z suite found first had) agrees prefix (known_content z (beginning z given) w txn_run.task.t suite was first had)
  where
    here : DoingAgrees z w (Some (Running txn_run))
    here = subst (DoingAgrees z w) running (now.agrees number actor there)

    agrees : Agrees (told_to w txn_run.task.t) (all_told suite.collector)
    agrees = subst (λ o. Agrees (told_to w txn_run.task.t) (told_in o)) found here

-- ---- what the register holds

-- a prefix and a content of valid copies
pub record IsOfValid (held : Replica) : Type 0 where
  pub prefix : is_valid_prefix held.prefix ≡ true
  pub content : is_within_limits held.content ≡ true

module _ (given : Opening) (z : ℕ) (w : World) (world : worlds.World) (now : Together given z w world) where
  abbrev held : Replica
  held = row (beginning z given) w.log

  copy_valid : (i : ℕ) → is_valid_copy (effect w i) ≡ true
  copy_valid i = search arith

  -- all servers are a quorum
  every : IsQuorum held.prefix.votes (λ _. true)
  every = search arith

  pub row_valid : IsOfValid held
  row_valid =
      let shows = quorums_show (beginning z given) w now.inv in
      let prefix = shows.prefix (λ _. true) every in
      let content = shows.content (λ _. true) every in
      record {
        prefix = subst (λ (p : Prefix). is_valid_prefix p ≡ true) prefix.is (parts (effect w prefix.server) (copy_valid prefix.server)).0;
        content = subst (λ c. is_within_limits c ≡ true) content.is.1 (parts (effect w content.server) (copy_valid content.server)).1;
      }
    where
      parts : (copy : Replica) → is_valid_copy copy ≡ true → (is_valid_prefix copy.prefix ≡ true) × (is_within_limits copy.content ≡ true)
      parts copy valid = search (and_parts, arith)
