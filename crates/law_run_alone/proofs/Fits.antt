-- A part of a Prepare fits the copy that a server has, where its locks stand and the register is known.
use Rattle.law_run_alone.proofs.Vocabulary.{◌≡◌, ℕ, ◌+◌, Bool, true, false, List, map, Option, Some, None, refl, ap, ◌∙◌, arith, ◌&&◌, ◌||◌, not, nat_lt, is_some, and_parts, and_from, nat_tests, Content, Kind, kind_of, keeps_rules, is_valid_prefix}
use Rattle.law_run_alone.proofs.Vocabulary.{is_valid_copy, is_absent, is_within_limits, version_agrees, is_exclusive, Prefix, Replica, is_keep, may_become, goes_with, Has, is_misplaced, known_rows, ReadPoint, GatheredSuite, Suites, lock_mode}
use Rattle.law_run_alone.proofs.Vocabulary.{known_of, prefix_kind, sets_prefix, one_if, new_prefix, new_copy, take_of_changed, take_from, Beginning, Entry, transaction, IsKnown, row, WasPrefix, GoesWith, known_by}
use Rattle.law_headline.proofs.Fair.{Leaves}
use Rattle.suite_prefix.specs.Tests as tests
use Rattle.rep_core.specs.declared.request.Take.TheVariants as take
use Rattle.file_exec.specs.declared.changes.Change as executor
use Rattle.law_run_alone.proofs.Courses.{AreSmall}
use Rattle.law_run_alone.proofs.Sets.{IsOwn}
use Rattle.law_run_alone.proofs.Grown.{Grown}
use Rattle.law_run_alone.proofs.Known.{IsOfValid}

-- ---- kinds

kind_rules : (k : Kind) (prefix : Prefix) → nat_lt 0 prefix.pver ≡ true → is_misplaced k (is_some prefix.acl.default) ≡ false → keeps_rules (prefix_kind k) prefix ≡ true
kind_rules k prefix h2 h3 = search arith

not_absent : (k : Kind) → not (is_absent (prefix_kind k)) ≡ true
not_absent k = search arith

held_content : (c : Content) → tests.holds (prefix_kind (kind_of c)) c ≡ true
held_content c = search arith

above : (n : ℕ) (b : Bool) → b ≡ true → nat_lt 0 (n + one_if b) ≡ true
above n b is = search arith

-- ---- a change

module _ (start : Beginning) (log : List Entry) (t z : ℕ) (suites : Suites) (suite : GatheredSuite) (first : ReadPoint) (change : executor.Change) (knows : IsKnown (row start log) (known_by first suite)) (leaves : Leaves suite first change)
    (own : IsOwn t z suites first change) (grown : Grown z start log) (valid : IsOfValid (row start log)) (unlogged : Has (map transaction log) t → ⊥) (small : AreSmall (known_rows (known_of suites)))
    (goes : (c : Content) → suite.content ≡ Some c → GoesWith start log first.prefix first.dver c) where
  -- ---- a prefix

  rules_kept : sets_prefix change ≡ true → is_valid_prefix (new_prefix first change) ≡ true
  rules_kept sets = kind_rules (kind_of change.row.content) (new_prefix first change) (above first.prefix.pver (sets_prefix change) sets) (own.lists (ap is_valid_prefix knows.prefix ∙ valid.prefix))

  valid_prefix : (b : Bool) → sets_prefix change ≡ b → is_valid_prefix (new_prefix first change) ≡ true
  valid_prefix b h1 = search (rules_kept, arith)

  -- a copy that was the register's is of the kind of the new prefix, or was never made
  may_be : (copy : Replica) → WasPrefix start log copy.prefix → (b : Bool) → change.made ≡ b → may_become copy.prefix.kind (prefix_kind (kind_of change.row.content)) ≡ true
  may_be copy h1 b h3 = search arith

  prefix_goes : (copy : Replica) → WasPrefix start log copy.prefix → sets_prefix change ≡ true → goes_with (take.Prefix (new_prefix first change)) copy ≡ true
  prefix_goes copy was sets = search (and_from, rules_kept, not_absent, may_be, arith)

  -- ---- a whole copy

  votes_of : (b c : Bool) → b ≡ false → (b || c) ≡ true → c ≡ true
  votes_of b c none some = grind (arith, nat_tests)

  -- the content, where it is not set
  known_content : change.content ≡ false → (change.content || change.votes) ≡ true → suite.content ≡ Some change.row.content
  known_content none whole = leaves.fair.content none (votes_of change.content change.votes none whole)

  agrees_so : (b : Bool) → change.content ≡ b → (change.content || change.votes) ≡ true → version_agrees (new_copy first change) ≡ true
  agrees_so b h1 h2 = search arith

  fits_so : (b : Bool) → change.content ≡ b → (change.content || change.votes) ≡ true → is_within_limits change.row.content ≡ true
  fits_so b h1 h2 = search arith

  whole_goes : (change.content || change.votes) ≡ true → is_valid_copy (new_copy first change) ≡ true
  whole_goes whole =
      and_from (is_valid_prefix (new_prefix first change) && tests.holds (prefix_kind (kind_of change.row.content)) change.row.content && version_agrees (new_copy first change)) (is_within_limits change.row.content)
      (and_from (is_valid_prefix (new_prefix first change) && tests.holds (prefix_kind (kind_of change.row.content)) change.row.content) (version_agrees (new_copy first change))
      (and_from (is_valid_prefix (new_prefix first change)) (tests.holds (prefix_kind (kind_of change.row.content)) change.row.content) (valid_prefix (sets_prefix change) refl) (held_content change.row.content))
      (agrees_so change.content refl whole))
      (fits_so change.content refl whole)

  -- ---- what is taken

  pub changed_goes : (copy : Replica) → WasPrefix start log copy.prefix → (server : ℕ) → goes_with (take_of_changed first change server) copy ≡ true
  changed_goes copy was server = search (whole_goes, and_parts, prefix_goes, arith)

-- ---- a part

either : (a b : Bool) → b ≡ true → ((a || true) && b) ≡ true
either a b h2 = search arith

-- what a server that holds the suite is to take fits, where what it takes of a change fits
pub part_fits : (suite : GatheredSuite) (server : ℕ) (copy : Replica) (first : Option ReadPoint) (change : Option executor.Change)
    → ((one : ReadPoint) (change' : executor.Change) → first ≡ Some one → change ≡ Some change' → goes_with (take_of_changed one change' server) copy ≡ true)
    → ((is_keep (take_from suite server first change) || is_exclusive (lock_mode suite server)) && goes_with (take_from suite server first change) copy) ≡ true
part_fits suite server copy None change goes = refl
part_fits suite server copy (Some first) None goes = refl
part_fits suite server copy (Some first) (Some change) goes = search (either, arith)
