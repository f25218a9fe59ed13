-- What a transaction sets of a suite: it makes it only at a number of its own, and else leaves its kind; a content that it sets is within limits; and
-- its lists fit.
use Rattle.law_run_alone.proofs.Vocabulary.{◌≡◌, ℕ, true, false, List, [], ◌∷◌, Option, Some, None, Ok, refl, sym, ap, subst, ◌∙◌, is_some, Result, nat_cmp, false≢true, eqb-true, arith, none-some, same_Some, IsOrdered, get, IsValid, Content, kind_of}
use Rattle.law_run_alone.proofs.Vocabulary.{is_valid_prefix, is_within_limits, Prefix, PrefixKind, LockMode, Exclusive, Answer, Refusal, Row, makes, some, Edits, Ended, head, Known, IsSoAt, AgreesWith, is_held, known_rows, Done, exec_of, ReadPoint}
use Rattle.law_run_alone.proofs.Vocabulary.{GatheredSuite, Suites, suite_of, row_with, known_of, change_of, prefix_kind, Fixed, Task, Proposal, changes_of, FitsAs, told_as, AllGiveValidVotes, edits_fit, same_kind, agrees_itself}
use Rattle.file_exec.proofs.Leading.{changes_by_suite}
use Rattle.file_exec.specs.KnownSuites.{KnownSuite}
use Rattle.file_exec.proofs.Unset.{changes_are_held}
use Rattle.txn_core.proofs.Setting.{known_at}
use Rattle.txn_core.proofs.Growing.{known_from}
use Rattle.law_runs.proofs.Executed.{set_by, Came}
use Rattle.law_headline.proofs.Fair.{FromEdits}
use Rattle.file_exec.specs.declared.changes.Change as executor
use Rattle.file_exec.specs.Changes as changes
use Rattle.file_exec.specs.Known as known
use Rattle.law_run_alone.proofs.FittingLists.{ListsFit, seen_fit, shown_fit}
use Rattle.law_run_alone.proofs.Courses.{IsNumber, AllNumbered, AreSmall, set_small, edits_well}

-- of a suite that is changed
pub record IsOwn (t z : ℕ) (suites : Suites) (first : ReadPoint) (change : executor.Change) : Type 0 where
  pub made : change.made ≡ true → IsNumber t z
  pub kept : change.made ≡ false → prefix_kind (kind_of change.row.content) ≡ first.prefix.kind
  pub small : AreSmall (known_rows (known_of suites)) → change.content ≡ true → is_within_limits change.row.content ≡ true
  pub lists : is_valid_prefix first.prefix ≡ true → ListsFit change.row

-- the row that was known is known still, but for its content
head_before : (mode : LockMode) (before : Option KnownSuite) (row : Option Row) → IsSoAt before row → is_held mode before ≡ true → head (known.row_in before) ≡ head row
head_before mode before row h3 h4 = search arith

-- ---- what edits told

from_edits : (before : Known) (edits : Edits) (z : ℕ) (change : executor.Change) → get nat_cmp (changes.changes_of before edits) z ≡ Some change → FromEdits (known_rows before) z edits change
from_edits before edits z change told = search (changes_by_suite, told_as, same_Some, none-some, arith)

-- what is made has a number of the transaction's
number_of_made : (t : ℕ) (edits : Edits) (z : ℕ) → AllNumbered t edits → some makes edits z ≡ true → IsNumber t z
number_of_made t [] z numbered is = absurd (false≢true is)
number_of_made t (e ∷ edits) z numbered is = search (eqb-true, number_of_made t edits z, arith)

module _ (fixed : Fixed) (task : Task) (suites : Suites) (outcome : Proposal) (z : ℕ) (suite : GatheredSuite) (first : ReadPoint) (change : executor.Change)
    (there : suite_of suites z ≡ Some suite) (was : suite.first ≡ Some first) (set : change_of (changes_of outcome) z ≡ Some change) (c0 : IsValid fixed.service.c0) (valid : AllGiveValidVotes task.ops)
    (fits : (c : Content) → suite.content ≡ Some c → FitsAs first.prefix.kind c) where
  by_edits : (before : Known) → ((rows : ℕ → Option Row) → AgreesWith (known_of suites) rows → AgreesWith before rows) → (ended : Ended (List Answer)) → exec_of fixed.service before task.t task.caller task.ops ≡ Done (Ok ended)
      → get nat_cmp (changes.changes_of before ended.edits) z ≡ Some change → IsOwn task.t z suites first change
  by_edits before agrees ended done told =
      let from = from_edits before ended.edits z change told in
      let rows = known_rows (known_of suites) in
      let now = agrees rows (agrees_itself (known_of suites)) in
      let held = changes_are_held fixed.service before task.t task.caller task.ops ended.given (changes.changes_of before ended.edits) z (ap (changes.answered before) done) (ap is_some told) in
      let shown : rows z ≡ row_with first.prefix.kind first.prefix suite.content = ap known.row_in (known_at suites z suite first there was) in
      let heads = head_before Exclusive (known.known_of before z) (rows z) (now z) held ∙ ap head shown in
      let fit = edits_fit fixed.service before task.t task.caller task.ops ended c0 valid done in
      let well = edits_well task.t rows fixed.service before task.caller task.ops ended now done in
      let met = edits_well task.t (known_rows before) fixed.service before task.caller task.ops ended (agrees_itself before) done in
      subst (IsOwn task.t z suites first) from.told (record {
        made = λ is. number_of_made task.t ended.edits z well.0 is;
        kept = λ none. same_kind suite first (known_rows before) z ended.edits from.row fit from.is fits heads none;
        small = λ small content. set_small ended.edits z (known_rows before z) from.row (well.1 small) content from.is;
        lists = λ valid. seen_fit (known_rows before) ended.edits z fit met.2 (shown_fit suite first (known_rows before z) fits heads valid) from.row from.is;
      })

  by_result : (before : Known) → ((rows : ℕ → Option Row) → AgreesWith (known_of suites) rows → AgreesWith before rows) → (result : Result (Ended (List Answer)) Refusal)
      → exec_of fixed.service before task.t task.caller task.ops ≡ Done result
      → change_of (set_by before result) z ≡ Some change → IsOwn task.t z suites first change
  by_result before h1 result h3 h4 = search (by_edits, none-some, arith)

  pub came_own : Came fixed task suites outcome → IsOwn task.t z suites first change
  came_own came = by_result came.before came.still.agrees came.result came.was (ap (λ all. change_of all z) (sym came.set) ∙ set)

-- ---- what is known is within limits

row_small : (k : PrefixKind) (prefix : Prefix) (content : Option Content) → ((c : Content) → content ≡ Some c → is_within_limits c ≡ true) → (r : Row) → row_with k prefix content ≡ Some r → is_within_limits r.content ≡ true
row_small k prefix content h3 r h5 = search arith

-- where each content is, so is each row that is known
pub known_small : (suites : Suites) → IsOrdered nat_cmp suites → ((n : ℕ) (suite : GatheredSuite) (first : ReadPoint) (c : Content) → suite_of suites n ≡ Some suite
    → suite.first ≡ Some first → suite.content ≡ Some c → is_within_limits c ≡ true)
    → AreSmall (known_rows (known_of suites))
known_small suites ordered small n r = of (known.known_of (known_of suites) n) refl
  where
    of : (it : Option KnownSuite) → known.known_of (known_of suites) n ≡ it → known.row_in it ≡ Some r → is_within_limits r.content ≡ true
    of None at is = absurd (none-some r is)
    of (Some it) at is =
        let found = known_from suites n it ordered at in
        row_small found.first.prefix.kind found.first.prefix found.suite.content (λ c has. small n found.suite found.first c found.there found.was has) r (ap (λ (it : KnownSuite). it.row) found.is ∙ is)
