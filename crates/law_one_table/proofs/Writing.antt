-- A decision leads the table and the registers on to the same rows.
use Rattle.law_one_table.proofs.Vocabulary.{nat_cmp, false≢true, get, IsOrdered, Answer, Refusal, Row, Rows, row_of, KnownSuite, Ended, with_edits, AgreesWith, is_held, Done, exec_of, TellsAt, ReadPoint, GatheredSuite, Suites, suite_of, arith}
use Rattle.law_one_table.proofs.Vocabulary.{known_of, change_of, Granted, Fixed, Task, Proposal, known_from, IsOfSuite, given_by, set_by, answer_as, Came, Beginning, Change, changed, row, World, happens, change_to, written_from, first_of, to_write}
use Rattle.law_one_table.proofs.Vocabulary.{known_by, decides_with, decides_on, decision_with, changes_lead_on}
use Rattle.std.proofs.Common.{◌≡◌, ℕ, true, List, Option, Some, None, refl, sym, ap, subst, ◌∙◌, is_some, Result, Ok, Err}
use Rattle.suite_prefix.specs.declared.lock_mode.LockMode.TheVariants.{Exclusive}
use Rattle.file_exec.proofs.Unset.{changes_are_held}
use Rattle.file_exec.specs.declared.changes.Change as executor
use Rattle.file_exec.specs.Changes as changes
use Rattle.file_exec.specs.Known as known
use Rattle.law_one_table.proofs.Shown.{IsShown, made_sets, leads_on}
use Rattle.law_one_table.proofs.Knowing.{decision_is}

-- the rows after a transaction came to this
abbrev pub rows_after : Rows → Result (Ended (List Answer)) Refusal → Rows
rows_after rows (Ok ended) = with_edits rows ended.edits
rows_after rows (Err refusal) = rows

-- ---- decisions that write nothing

module _ (start : Beginning) (w : World) (t : ℕ) where
  pub refused_keeps : (refusal : Refusal) (new : Option Change) (found : Option GatheredSuite) → row start (happens start w (decides_on w t (Err refusal) new found)).log ≡ row start w.log
  refused_keeps refusal new found = search arith

  pub read_keeps : (granted : Granted) (found : Option GatheredSuite) → row start (happens start w (decides_on w t (Ok granted) None found)).log ≡ row start w.log
  read_keeps granted found = search arith

nothing_written : (first : Option ReadPoint) → written_from first None ≡ None
nothing_written first = search arith

-- ---- any decision

-- a suite that was gathered had a first Current
record HadFirst (suites : Suites) (z : ℕ) : Type 0 where
  pub suite : GatheredSuite
  pub first : ReadPoint
  pub there : suite_of suites z ≡ Some suite
  pub was : suite.first ≡ Some first

had_first : (suites : Suites) (z : ℕ) (it : KnownSuite) → IsOfSuite suites z it → HadFirst suites z
had_first suites z it found = record { suite = found.suite; first = found.first; there = found.there; was = found.was }

module _ (start : Beginning) (z : ℕ) (w : World) (fixed : Fixed) (task : Task) (suites : Suites) (rows : Rows) (agrees : AgreesWith (known_of suites) (row_of rows)) (shown : IsShown (row start w.log) (row_of rows z)) where
  -- a suite that is changed had a first Current
  writes : (granted : Granted) (change : executor.Change) (after : Option Row) → change_of granted.changes z ≡ Some change → HadFirst suites z
      → ((first : ReadPoint) → IsShown (changed (change_to first change) (row start w.log)) after) → IsShown (row start (happens start w (decision_with z w task suites (Ok granted))).log) after
  writes granted change after set found leads =
      let written : to_write z suites (Ok granted) ≡ Some (change_to found.first change) =
      ap (λ found. written_from (first_of found) (change_of granted.changes z)) found.there ∙ ap (λ first. written_from first (change_of granted.changes z)) found.was ∙ ap (written_from (Some found.first)) set in
      subst (λ event. IsShown (row start (happens start w event).log) after)
      (sym (decision_is z w task suites (Ok granted) found.suite found.first found.there found.was ∙ ap (decides_with w task.t (known_by found.first found.suite) (Ok granted)) written))
      (leads found.first)

  held_is_some : (it : Option KnownSuite) → is_held Exclusive it ≡ true → is_some it ≡ true
  held_is_some it h1 = search arith

  by_change : (granted : Granted) (came : Came fixed task suites (Ok granted)) (ended : Ended (List Answer)) → came.result ≡ Ok ended → (o : Option executor.Change) → get nat_cmp (changes.changes_of came.before ended.edits) z ≡ o
      → TellsAt o (row_of rows z) (row_of (with_edits rows ended.edits) z) → IsShown (row start (happens start w (decision_with z w task suites (Ok granted))).log) (row_of (with_edits rows ended.edits) z)
  by_change granted came ended result None is tells = search (set_by, nothing_written, read_keeps, arith)
  by_change granted came ended result (Some change) is tells =
      let set : change_of granted.changes z ≡ Some change = ap (λ all. change_of all z) (came.set ∙ ap (set_by came.before) result) ∙ is in
      let was : exec_of fixed.service came.before task.t task.caller task.ops ≡ Done (Ok ended) = came.was ∙ ap Done result in
      let locked = changes_are_held fixed.service came.before task.t task.caller task.ops ended.given (changes.changes_of came.before ended.edits) z (ap (changes.answered came.before) was) (ap is_some is) in
      writes granted change (row_of (with_edits rows ended.edits) z) set
      (of came.fit.ordered (known.known_of (known_of suites) z) refl (came.still.knows z (held_is_some (known.known_of came.before z) locked)))
      (λ first. leads_on first change (row start w.log) (row_of rows z) (row_of (with_edits rows ended.edits) z) shown tells (made_sets came.before ended.edits z change is))
    where
      of : IsOrdered nat_cmp suites → (it : Option KnownSuite) → known.known_of (known_of suites) z ≡ it → is_some it ≡ true → HadFirst suites z
      of ordered None at some = absurd (false≢true some)
      of ordered (Some it) at some = had_first suites z it (known_from suites z it ordered at)

  by_result : (outcome : Proposal) (came : Came fixed task suites outcome) (result : Result (Ended (List Answer)) Refusal) → came.result ≡ result → answer_as outcome ≡ given_by result
      → IsShown (row start (happens start w (decision_with z w task suites outcome)).log) (row_of (rows_after rows result) z)
  by_result (Ok granted) came (Ok ended) is same =
      by_change granted came ended is (get nat_cmp (changes.changes_of came.before ended.edits) z) refl
      (changes_lead_on fixed.service came.before rows task.t task.caller task.ops ended z (came.still.agrees (row_of rows) agrees) (came.was ∙ ap Done is))
  by_result (Ok granted) came (Err refusal) is same = cc
  by_result (Err why) came (Ok ended) is same = cc
  by_result (Err why) came (Err refusal) is same = subst (λ held. IsShown held (row_of rows z)) (sym (refused_keeps start w task.t why (to_write z suites (Err why)) (suite_of suites z))) shown

  pub decision_leads : (outcome : Proposal) (came : Came fixed task suites outcome) → IsShown (row start (happens start w (decision_with z w task suites outcome)).log) (row_of (rows_after rows came.result) z)
  decision_leads outcome came = by_result outcome came came.result refl came.answered
