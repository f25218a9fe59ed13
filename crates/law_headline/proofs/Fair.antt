-- What a transaction is to write leaves what its operations do not set.
use Rattle.law_headline.proofs.Vocabulary.{◌≡◌, ℕ, true, false, cond, List, [], ◌∷◌, Option, Some, None, Ok, refl, sym, ap, subst, ◌∙◌, arith, ◌==◌, ◌||◌, is_some, Result, nat_cmp, false≢true, eqb-true, nat_tests, none-some, same_Some, get, IsValid}
use Rattle.law_headline.proofs.Vocabulary.{Content, Bytes, Names, kind_of, Prefix, PrefixKind, Exclusive, Row, Edits, Ended, seen, head, changes_by_suite, ReadPoint, GatheredSuite, Suites, suite_of, row_with, known_row, known_of, change_of}
use Rattle.law_headline.proofs.Vocabulary.{prefix_kind, Fixed, Task, Proposal, changes_of, IsFair, FitsAs, is_so, told_as, AllGiveValidVotes}
use Rattle.file_ops.specs.declared.answer.Answer.{Answer}
use Rattle.law_runs.proofs.Executed.{set_by, Came}
use Rattle.file_ops.specs.declared.refusal.Refusal.{Refusal}
use Rattle.file_exec.specs.KnownSuites.{KnownSuite}
use Rattle.file_exec.specs.Known.{IsSo, IsSoAt, AgreesWith, is_held, is_opened, known_rows, Done, exec_of}
use Rattle.file_exec.proofs.Unset.{changes_are_held}
use Rattle.file_exec.proofs.VotesRead.{knows_whose_votes}
use Rattle.txn_core.proofs.Setting.{known_at}
use Rattle.suite_prefix.specs.declared.copies.PrefixKind.TheVariants as kind
use Rattle.file_exec.specs.declared.changes.Change as executor
use Rattle.file_exec.specs.Changes as changes
use Rattle.file_exec.specs.Known as known
use Rattle.law_headline.proofs.Editing.{edits_fit}
use Rattle.law_headline.proofs.Setting.{fair, same_content, content_kind}

self : (n : ℕ) → (n == n) ≡ true
self n = grind (arith, nat_tests)

-- ---- what was known when the executor was done

module _ (suites : Suites) (z : ℕ) (suite : GatheredSuite) (first : ReadPoint) (there : suite_of suites z ≡ Some suite) (was : suite.first ≡ Some first) where
  -- rows that are as they are known, but for one suite
  abbrev rows_with : Option Row → ℕ → Option Row
  rows_with row n = cond (n == z) row (known_rows (known_of suites) n)

  agrees_but : (row : Option Row) → IsSo (known_row suite first) row → AgreesWith (known_of suites) (rows_with row)
  agrees_but row so n = search (eqb-true, known_at, arith)

  -- what was known before is so of each row of which what is known now is so
  abbrev IsEarlier : Option KnownSuite → Type 0
  IsEarlier before = (row : Option Row) → IsSo (known_row suite first) row → IsSoAt before row

  earlier : (before : known.Known) → ((rows : ℕ → Option Row) → AgreesWith (known_of suites) rows → AgreesWith before rows) → IsEarlier (known.known_of before z)
  earlier before agrees row so = subst (λ b. IsSoAt (known.known_of before z) (cond b row (known_rows (known_of suites) z))) (self z) (agrees (rows_with row) (agrees_but row so) z)

abbrev shown : GatheredSuite → ReadPoint → Option Row
shown suite first = row_with first.prefix.kind first.prefix suite.content

head_before : (suite : GatheredSuite) (first : ReadPoint) (before : Option KnownSuite) → is_held Exclusive before ≡ true
    → ((row : Option Row) → IsSo (known_row suite first) row → IsSoAt before row) → head (known.row_in before) ≡ head (shown suite first)
head_before suite first before h3 h4 = search arith

-- two contents of a kind, so that a row shows which one it has
abbrev one_content : PrefixKind → Content
one_content kind.Folder = Names []
one_content _ = Bytes []

abbrev other_content : PrefixKind → Content
other_content kind.Absent = Bytes []
other_content kind.File = Bytes (0 ∷ [])
other_content kind.Folder = Names (([], 0) ∷ [])

one_fits : (k : PrefixKind) → FitsAs k (one_content k)
one_fits k = search arith

other_fits : (k : PrefixKind) → FitsAs k (other_content k)
other_fits k = search arith

apart : (k : PrefixKind) (prefix : Prefix) (row : Row) → row_with k prefix (Some (one_content k)) ≡ Some row → row_with k prefix (Some (one_content k)) ≡ row_with k prefix (Some (other_content k)) → ⊥
apart k prefix row h3 h4 = search arith

-- what would be known with a content, of the row with another
abbrev SoWith : GatheredSuite → ReadPoint → Option Content → Content → Type 0
SoWith suite first found c = IsSo (record { mode = suite.mode; row = row_with first.prefix.kind first.prefix found; opened = is_some found }) (row_with first.prefix.kind first.prefix (Some c))

-- where the content was known, it is known now
known_content : (suite : GatheredSuite) (first : ReadPoint) (before : Option KnownSuite) (row : Row) → ((row : Option Row) → IsSo (known_row suite first) row → IsSoAt before row) → is_opened before ≡ true → known.row_in before ≡ Some row
    → (c : Content) × (suite.content ≡ Some c) × (known.row_in before ≡ row_with first.prefix.kind first.prefix (Some c))
known_content suite first None row goes opened there = absurd (false≢true opened)
known_content suite first (Some it) row goes opened there = of suite.content refl
  where
    of : (found : Option Content) → suite.content ≡ found → (c : Content) × (found ≡ Some c) × (it.row ≡ row_with first.prefix.kind first.prefix (Some c))
    of (Some c) at = (c, refl, (goes (shown suite first) (record { head = refl; content = λ _. refl })).content opened ∙ ap (row_with first.prefix.kind first.prefix) at)
    of None at =
        let one = goes (row_with first.prefix.kind first.prefix (Some (one_content first.prefix.kind)))
        (subst (λ found. SoWith suite first found (one_content first.prefix.kind)) (sym at)
        (is_so suite.mode first.prefix.kind first.prefix None (one_content first.prefix.kind) (one_fits first.prefix.kind) (λ x is. cc))) in
        let other = goes (row_with first.prefix.kind first.prefix (Some (other_content first.prefix.kind)))
        (subst (λ found. SoWith suite first found (other_content first.prefix.kind)) (sym at)
        (is_so suite.mode first.prefix.kind first.prefix None (other_content first.prefix.kind) (other_fits first.prefix.kind) (λ x is. cc))) in
        let same = one.content opened in
        absurd (apart first.prefix.kind first.prefix row (sym same ∙ there) (sym same ∙ other.content opened))

-- ---- what edits told

pub record FromEdits (rows : ℕ → Option Row) (z : ℕ) (edits : Edits) (change : executor.Change) : Type 0 where
  pub row : Row
  pub is : seen edits z (rows z) ≡ Some row
  pub told : told_as edits z row ≡ change

from_edits : (before : known.Known) (edits : Edits) (z : ℕ) (change : executor.Change) → get nat_cmp (changes.changes_of before edits) z ≡ Some change → FromEdits (known_rows before) z edits change
from_edits before edits z change told = search (changes_by_suite, told_as, same_Some, none-some, arith)

-- of a suite that is changed: what is not set stays, and so its kind where no content is set
pub record Leaves (suite : GatheredSuite) (first : ReadPoint) (change : executor.Change) : Type 0 where
  pub fair : IsFair suite first change
  pub kind : change.content ≡ false → prefix_kind (kind_of change.row.content) ≡ first.prefix.kind

module _ (fixed : Fixed) (task : Task) (suites : Suites) (outcome : Proposal) (z : ℕ) (suite : GatheredSuite) (first : ReadPoint) (change : executor.Change)
    (there : suite_of suites z ≡ Some suite) (was : suite.first ≡ Some first) (set : change_of (changes_of outcome) z ≡ Some change) (c0 : IsValid fixed.service.c0) (valid : AllGiveValidVotes task.ops)
    (fits : (c : Content) → suite.content ≡ Some c → FitsAs first.prefix.kind c) (votes : IsValid first.prefix.votes) where
  by_edits : (before : known.Known) → ((rows : ℕ → Option Row) → AgreesWith (known_of suites) rows → AgreesWith before rows) → (ended : Ended (List Answer)) → exec_of fixed.service before task.t task.caller task.ops ≡ Done (Ok ended)
      → get nat_cmp (changes.changes_of before ended.edits) z ≡ Some change → Leaves suite first change
  by_edits before agrees ended done told =
      let from = from_edits before ended.edits z change told in
      let goes = earlier suites z suite first there was before agrees in
      let held = changes_are_held fixed.service before task.t task.caller task.ops ended.given (changes.changes_of before ended.edits) z (ap (changes.answered before) done) (ap is_some told) in
      let heads = head_before suite first (known.known_of before z) held goes in
      let fit = edits_fit fixed.service before task.t task.caller task.ops ended c0 valid done in
      let whose = knows_whose_votes fixed.service before task.t task.caller task.ops ended done z in
      subst (Leaves suite first) from.told (record {
        fair = fair suite first (known_rows before) z ended.edits from.row fit from.is fits heads votes (λ none voted.
            let opened : is_opened (known.known_of before z) ≡ true = sym (ap (λ b. b || is_opened (known.known_of before z)) none) ∙ whose voted in
            let r = same_content suite first (known_rows before) z ended.edits from.row fit from.is fits heads none in
            known_content suite first (known.known_of before z) r.0 goes opened r.1);
        kind = content_kind suite first (known_rows before) z ended.edits from.row fit from.is fits heads;
      })

  by_result : (before : known.Known) → ((rows : ℕ → Option Row) → AgreesWith (known_of suites) rows → AgreesWith before rows) → (result : Result (Ended (List Answer)) Refusal)
      → exec_of fixed.service before task.t task.caller task.ops ≡ Done result
      → change_of (set_by before result) z ≡ Some change → Leaves suite first change
  by_result before h1 result h3 h4 = search (by_edits, none-some, arith)

  pub came_fair : Came fixed task suites outcome → Leaves suite first change
  came_fair came = by_result came.before came.still.agrees came.result came.was (ap (λ all. change_of all z) (sym came.set) ∙ set)
