-- At a decision: its server is up, and the newest prefix that was seen of a suite is that of its row.
use Rattle.law_run_recovers.proofs.Vocabulary.{◌≡◌, ℕ, true, List, Option, Some, None, refl, sym, ap, ◌∙◌, Opening, Prefix, Request, State, reply_of, arith, GatheredSuite, suite_of, Fixed, Task, changes_of, fixed_of, newest_of, IsReady, Event, Step}
use Rattle.law_run_recovers.proofs.Vocabulary.{Actor, World, server_at, asks_at, run, Decided, decided, decided_at, decided_as, decided_by, answer_in, IsAnsweredAsKnown, Beginning, row, prefix_at, beginning, machine_of, row_at, CanBe, Together}
use Rattle.law_run_recovers.proofs.Vocabulary.{holds_after, undecided, votes_of_row, is_up}
use Rattle.law_run_knowledge.proofs.Decided.{suite_was, newest_prefix}
use Rattle.law_headline.proofs.Owing.{owes_known}
use Rattle.law_headline.proofs.Beside.{row_known}
use Rattle.law_suite_machine.specs.Machine as machine
use Rattle.law_run_recovers.proofs.Found.{same_top}
use Rattle.law_run_recovers.proofs.Rows.{row_votes}

module _ (fixed : Fixed) (w : World) (i : ℕ) (actor : Actor) (task : Option Task) (one : Decided) where
  up_at : (found : Option State) (place : Option ℕ) (st : State) (asked : Request) → decided_at found place (decided_as task (answer_in (reply_of st asked))) ≡ Some one → st.up ≡ true
  up_at found place st asked = search arith

  pub decides_up : (asked : ℕ × Request) (found : Option State) → server_at w asked.0 ≡ found → decided_by w task (asks_at fixed w i actor asked found).done.served ≡ Some one → is_up w asked.0 ≡ true
  decides_up asked found h2 h3 = search arith

-- the newest prefix that it saw is the row's
module _ (given : Opening) (all : List Event) (can : CanBe given all) (agent : ℕ) (one : Decided) (is : decided (fixed_of given) (run given all) (Step agent) ≡ Some one) (so : IsAnsweredAsKnown given (run given all) (Step agent) one)
    (z : ℕ) (suite : GatheredSuite) (found : suite_of so.txn_run.suites z ≡ Some suite) (ready : IsReady suite z (changes_of so.outcome)) where
  abbrev start : Beginning
  start = beginning z given

  abbrev w : machine.World
  w = machine_of given z all

  abbrev now : Together given z w (run given all)
  now = holds_after given all can z

  none_yet : w.verdict so.txn_run.task.t ≡ None
  none_yet = undecided given z w (run given all) now.shows agent one is so

  newest_row : newest_of suite ≡ (row start w.log).prefix
  newest_row =
      let t = so.txn_run.task.t in
      let owes = owes_known given z w (run given all) now so.number so.actor so.txn_run so.outcome so.there so.running so.deciding suite found ready.first ready.was in
      let known = (row_known given z w (run given all) now so.number so.actor so.txn_run so.outcome so.there so.running so.deciding none_yet suite ready.first owes).prefix in
      let was = newest_prefix z start w t suite (suite_was z start w so.actor.agent so.txn_run suite (now.fits so.number so.actor so.there) so.running found) now.inv in
      let same = same_top ready.first.prefix.pver (newest_of suite).pver (row start w.log).prefix.pver (ap (λ (prefix : Prefix). prefix.pver) known) ready.not_older was.0 in
      sym was.1 ∙ ap (prefix_at start w.log) same ∙ now.inv.logged.own.0.1

  pub same_version : (newest_of suite).pver ≡ ready.first.prefix.pver
  same_version =
      let owes = owes_known given z w (run given all) now so.number so.actor so.txn_run so.outcome so.there so.running so.deciding suite found ready.first ready.was in
      let known = (row_known given z w (run given all) now so.number so.actor so.txn_run so.outcome so.there so.running so.deciding none_yet suite ready.first owes).prefix in
      ap (λ (prefix : Prefix). prefix.pver) newest_row ∙ sym (ap (λ (prefix : Prefix). prefix.pver) known)

  pub newest_votes : (newest_of suite).votes ≡ votes_of_row (fixed_of given) (row_at given all z)
  newest_votes = ap (λ (prefix : Prefix). prefix.votes) newest_row ∙ row_votes given all can z (row_at given all z) refl
