-- What a transaction asks for in its order: what it has asked for so far, and what is asked next.
use Rattle.law_run_recovers.proofs.Vocabulary.{◌≡◌, ℕ, Bool, true, false, List, [], ◌∷◌, ◌++◌, Option, Some, None, refl, sym, ap, ◌∙◌, arith, ◌==◌, ◌&&◌, ◌||◌, find, map, list_any, nat_cmp, false≢true, none-some, same_Some, IsOrdered, LockMode}
use Rattle.law_run_recovers.proofs.Vocabulary.{Shared, serves, Has, Need, Hold, Know, KnownSuite, Known, first_unmet, ReadPoint, GatheredSuite, Suites, suite_of, known_row, known_of, has_asked, not_asked, is_held}
use Rattle.txn_core.proofs.Growing.{known_from}
use Rattle.txn_core.proofs.Setting.{known_at}
use Rattle.file_exec.specs.Known as known

-- ---- lists

-- what came so far, the newest first, put back in front of what is left
abbrev pub onto : {X : Type 0} → List X → List X → List X
onto [] left = left
onto (x ∷ so_far) left = onto so_far (x ∷ left)

turned : (a b c : Bool) → (b || (a || c)) ≡ ((a || b) || c)
turned a b c = search arith

-- a test that one of both passes
pub any_onto : {X : Type 0} (p : X → Bool) (so_far left : List X) → list_any p (onto so_far left) ≡ (list_any p so_far || list_any p left)
any_onto p [] left = refl
any_onto p (x ∷ so_far) left = any_onto p so_far (x ∷ left) ∙ turned (p x) (list_any p so_far) (list_any p left)

-- where none that came so far passes a test, the first that does is among what is left
pub find_past : {X Y : Type 0} (g : X → Y) (f : Y → Bool) (so_far left : List X) (later : List Y) → ((x : X) → Has so_far x → f (g x) ≡ false) → find f (map g (onto so_far left) ++ later) ≡ find f (map g left ++ later)
find_past g f [] left later none = refl
find_past g f (x ∷ so_far) left later none = search (find_past g f so_far (x ∷ left) later, arith)

-- ---- what is asked next

or_true : (b : Bool) → (b || true) ≡ true
or_true b = search arith

asks_itself : (asked : List (ℕ × LockMode)) (suite : ℕ) (mode : LockMode) → has_asked ((suite, mode) ∷ asked) suite mode ≡ true
asks_itself asked suite mode = search arith

asks_more : (asked : List (ℕ × LockMode)) (one : ℕ × LockMode) (suite : ℕ) (mode : LockMode) → has_asked asked suite mode ≡ true → has_asked (one ∷ asked) suite mode ≡ true
asks_more asked one suite mode is = ap (λ b. ((one.0 == suite) && serves one.1 mode) || b) is ∙ or_true ((one.0 == suite) && serves one.1 mode)

abbrev pub suite_in : Need → ℕ
suite_in (Hold suite mode) = suite
suite_in (Know suite) = suite

abbrev pub mode_in : Need → LockMode
mode_in (Hold suite mode) = mode
mode_in (Know suite) = Shared

abbrev pub is_hold : Need → Bool
is_hold (Hold suite mode) = true
is_hold (Know suite) = false

-- where it is known to hold what it has asked for, and nothing else
module _ (all : Known) (asked : List (ℕ × LockMode)) (modes : (suite : ℕ) (mode : LockMode) → is_held mode (known.known_of all suite) ≡ has_asked asked suite mode) where
  -- the first lock that it needs and has not is what it asks for next
  pub first_hold : (needed : List Need) (suite : ℕ) (mode : LockMode) → first_unmet all needed ≡ Some (Hold suite mode) → not_asked asked needed ≡ (suite, mode) ∷ not_asked ((suite, mode) ∷ asked) needed
  first_hold [] suite mode is = absurd (none-some _ is)
  first_hold (Hold s m ∷ needed) suite mode is = search (asks_more, same_Some, asks_itself, first_hold needed suite mode, arith)
  first_hold (Know s ∷ needed) suite mode is = search (false≢true, same_Some, first_hold needed suite mode, arith)

  -- and it was not asked for
  pub first_new : (needed : List Need) (suite : ℕ) (mode : LockMode) → first_unmet all needed ≡ Some (Hold suite mode) → has_asked asked suite mode ≡ false
  first_new [] suite mode is = absurd (none-some _ is)
  first_new (Hold s m ∷ needed) suite mode is = search (same_Some, first_new needed suite mode, arith)
  first_new (Know s ∷ needed) suite mode is = search (false≢true, same_Some, first_new needed suite mode, arith)

  -- where all that it needs is known, nothing is left to be asked for
  pub none_left : (needed : List Need) → first_unmet all needed ≡ None → not_asked asked needed ≡ []
  none_left [] is = refl
  none_left (Hold s m ∷ needed) is = search (none-some, none_left needed, arith)
  none_left (Know s ∷ needed) is = search (none-some, none_left needed, arith)

-- ---- in which modes suites are known

-- what is known of a suite, where it had a Current
abbrev pub known_if_first : GatheredSuite → Option ReadPoint → Option KnownSuite
known_if_first suite (Some first) = Some (known_row suite first)
known_if_first suite None = None

abbrev pub known_in : Option GatheredSuite → Option KnownSuite
known_in (Some suite) = known_if_first suite suite.first
known_in None = None

pub known_is : (suites : Suites) → IsOrdered nat_cmp suites → (number : ℕ) → known.known_of (known_of suites) number ≡ known_in (suite_of suites number)
known_is suites ordered number = of (suite_of suites number) refl
  where
    none_but : (found : Option GatheredSuite) → suite_of suites number ≡ found → ((suite : GatheredSuite) (first : ReadPoint) → found ≡ Some suite → suite.first ≡ Some first → ⊥)
        → (it : Option KnownSuite) → known.known_of (known_of suites) number ≡ it → it ≡ None
    none_but found is none None was = refl
    none_but found is none (Some it) was =
        let from = known_from suites number it ordered was in
        absurd (none from.suite from.first (sym is ∙ from.there) from.was)

    first_of : (suite : GatheredSuite) → suite_of suites number ≡ Some suite → (first : Option ReadPoint) → suite.first ≡ first → known.known_of (known_of suites) number ≡ known_if_first suite first
    first_of suite h1 first h3 = search (known_at, none_but, none-some, same_Some, arith)

    of : (found : Option GatheredSuite) → suite_of suites number ≡ found → known.known_of (known_of suites) number ≡ known_in found
    of None is = none_but None is (λ suite first none had. none-some suite none) (known.known_of (known_of suites) number) refl
    of (Some suite) is = first_of suite is suite.first refl

abbrev pub held_if : GatheredSuite → LockMode → Option ReadPoint → Bool
held_if suite mode (Some first) = serves suite.mode mode
held_if suite mode None = false

-- whether a suite is held in a mode, as far as it is known
abbrev pub held_in : LockMode → Option GatheredSuite → Bool
held_in mode (Some suite) = held_if suite mode suite.first
held_in mode None = false

pub held_is : (suites : Suites) → IsOrdered nat_cmp suites → (number : ℕ) (mode : LockMode) → is_held mode (known.known_of (known_of suites) number) ≡ held_in mode (suite_of suites number)
held_is suites ordered number mode = search (known_is, arith)
