-- What the executor sets of the suites that were gathered.
use Rattle.txn_core.proofs.Vocabulary.{◌≡◌, ℕ, Bool, true, false, cond, List, [], ◌∷◌, Option, Some, refl, sym, ap, ◌∙◌, option_map, nat_cmp, is_at, same_Some, Configuration, Content, Prefix, PrefixKind, LockMode, Exclusive, arith, serves, Answer}
use Rattle.txn_core.proofs.Vocabulary.{Change, ReadPoint, GatheredSuite, Suites, suite_of, row_with, known_row, known_if, known_of, Changes, Fixed, Task, change_of, is_changed, heard_on}
use Rattle.file_ops.specs.Rows.{Row}
use Rattle.file_exec.proofs.Unset.{changes_are_held, unset_votes_stay}
use Rattle.file_exec.specs.declared.executor.Outcome.TheVariants as exec
use Rattle.file_exec.specs.Known as known

-- ---- what is known of a suite

abbrev pub KnownAt : Suites → ℕ → GatheredSuite → ReadPoint → Type 0
KnownAt suites number suite first = known.known_of (known_of suites) number ≡ Some (known_row suite first)

pub known_at : (suites : Suites) (number : ℕ) (suite : GatheredSuite) (first : ReadPoint) → suite_of suites number ≡ Some suite → suite.first ≡ Some first → KnownAt suites number suite first
known_at [] number suite first is was = cc
known_at (e ∷ es) number suite first is was = of (λ is. known_at es number suite first is was) (is_at (nat_cmp number) e.0) refl is
  where
    here : (found : Option ReadPoint) → found ≡ Some first → is_at (nat_cmp number) e.0 ≡ true → known.known_of (known_if e.0 suite found (known_of es)) number ≡ Some (known_row suite first)
    here found h1 h2 = search (same_Some, arith)

    later : (found : Option ReadPoint) → is_at (nat_cmp number) e.0 ≡ false → KnownAt es number suite first → known.known_of (known_if e.0 e.1 found (known_of es)) number ≡ Some (known_row suite first)
    later found h1 h2 = search arith

    of : (suite_of es number ≡ Some suite → KnownAt es number suite first) → (b : Bool) → is_at (nat_cmp number) e.0 ≡ b → cond b (Some e.1) (suite_of es number) ≡ Some suite → KnownAt (e ∷ es) number suite first
    of h0 b h2 h3 = search (same_Some, here, later, arith)

-- ---- what is changed is held

pub changed_held : (fixed : Fixed) (task : Task) (suites : Suites) (answers : List Answer) (changes : Changes) (number : ℕ) (suite : GatheredSuite) (first : ReadPoint) → heard_on fixed task suites ≡ exec.Done answers changes
    → suite_of suites number ≡ Some suite → suite.first ≡ Some first → is_changed changes number ≡ true → suite.mode ≡ Exclusive
changed_held fixed task suites answers changes number suite first is there was changed' =
    exclusive suite.mode (ap (known.is_held Exclusive) (sym (known_at suites number suite first there was))
    ∙ changes_are_held fixed.service (known_of suites) task.t task.caller task.ops answers changes number is changed')
  where
    exclusive : (mode : LockMode) → serves mode Exclusive ≡ true → mode ≡ Exclusive
    exclusive mode h1 = search arith

-- ---- where no votes are set they stay

row_votes : (kind : PrefixKind) (prefix : Prefix) (content : Option Content) (votes : Configuration) → option_map (λ (row : Row). row.votes) (row_with kind prefix content) ≡ Some votes → votes ≡ prefix.votes
row_votes kind prefix content votes h4 = search arith

-- a change that sets no votes has those of the prefix that was known
abbrev pub Keeps : Changes → ℕ → GatheredSuite → Type 0
Keeps changes number suite =
    (change : Change) (first : ReadPoint) → change_of changes number ≡ Some change → suite.first ≡ Some first → change.votes ≡ false → change.row.votes ≡ first.prefix.votes

pub changed_keeps : (fixed : Fixed) (task : Task) (suites : Suites) (answers : List Answer) (changes : Changes) (number : ℕ) (suite : GatheredSuite) → heard_on fixed task suites ≡ exec.Done answers changes
    → suite_of suites number ≡ Some suite → Keeps changes number suite
changed_keeps fixed task suites answers changes number suite is there change first told was none =
    row_votes first.prefix.kind first.prefix suite.content change.row.votes
    (ap (λ held. option_map (λ (row : Row). row.votes) (known.row_in held)) (sym (known_at suites number suite first there was))
    ∙ unset_votes_stay fixed.service (known_of suites) task.t task.caller task.ops answers changes number change is told none)
