-- Places by their two columns.
use Rattle.agent_pool.proofs.Vocabulary.{◌≡◌, ◌≢◌, ⊎_elim, ◌∙◌, ℕ, zero, suc, ◌+◌, ◌<◌, ◌≤◌, Bool, true, false, List, [], ◌∷◌, length, map, slice_set, refl}
use Rattle.agent_pool.proofs.Vocabulary.{ap, sym, arith, replicate, slice_get, slice_index_or, Option, Some, None, same_Some, slice_get_within, JobOutcome}
use Rattle.agent_pool.proofs.Vocabulary.{AreNone, slot_of, slots_of}
use Rattle.agent_pool.proofs.Apart.{same_or}

-- there are as many as outcomes
pub slots_long : (os : List JobOutcome) (fs : List Bool) → length fs ≡ length os → length (slots_of os fs) ≡ length os
slots_long [] fs long = refl
slots_long (o ∷ os) [] long = absurd (omega arith)
slots_long (o ∷ os) (f ∷ fs) long = ap suc (slots_long os fs (omega arith))

pub slots_none : (os : List JobOutcome) (n : ℕ) → AreNone (slots_of os (replicate n false))
slots_none [] n = tt
slots_none (o ∷ os) zero = tt
slots_none (o ∷ os) (suc n) = (refl, slots_none os n)

pub slots_set : (os : List JobOutcome) (fs : List Bool) (k : ℕ) (outcome : JobOutcome) → length fs ≡ length os
    → slots_of (slice_set os k outcome) (slice_set fs k true) ≡ slice_set (slots_of os fs) k (Some outcome)
slots_set [] fs k outcome long = refl
slots_set (o ∷ os) [] k outcome long = absurd (omega arith)
slots_set (o ∷ os) (f ∷ fs) zero outcome long = refl
slots_set (o ∷ os) (f ∷ fs) (suc k) outcome long = ap (λ slots. slot_of f o ∷ slots) (slots_set os fs k outcome (omega arith))

-- what stands at a place that is said to be filled, and at one that is not
pub slot_there : (os : List JobOutcome) (fs : List Bool) (k : ℕ) (f : Bool) → length fs ≡ length os → k < length (slots_of os fs) → slice_index_or fs k f ≡ f → f ≡ true
    → (outcome : JobOutcome) × (slice_get (slots_of os fs) k ≡ Some (Some outcome))
slot_there [] fs k f long low is there = absurd (omega arith)
slot_there (o ∷ os) [] k f long low is there = absurd (omega arith)
slot_there (o ∷ os) (b ∷ fs) zero f long low is there = (o, ap (λ b. Some (slot_of b o)) (is ∙ there))
slot_there (o ∷ os) (b ∷ fs) (suc k) f long low is there = slot_there os fs k f (omega arith) (omega arith) is there

pub slot_free : (os : List JobOutcome) (fs : List Bool) (k : ℕ) (f : Bool) → length fs ≡ length os → k < length (slots_of os fs) → slice_index_or fs k f ≡ f → f ≡ false
    → slice_get (slots_of os fs) k ≡ Some None
slot_free [] fs k f long low is free = absurd (omega arith)
slot_free (o ∷ os) [] k f long low is free = absurd (omega arith)
slot_free (o ∷ os) (b ∷ fs) zero f long low is free = ap (λ b. Some (slot_of b o)) (is ∙ free)
slot_free (o ∷ os) (b ∷ fs) (suc k) f long low is free = slot_free os fs k f (omega arith) (omega arith) is free

-- where each place is filled, the outcomes are those that stand there
pub slots_full : (os : List JobOutcome) (fs : List Bool) → length fs ≡ length os → ((k : ℕ) → slice_get (slots_of os fs) k ≢ Some None)
    → map (λ (outcome : JobOutcome). Some outcome) os ≡ slots_of os fs
slots_full [] fs long full = refl
slots_full (o ∷ os) [] long full = absurd (omega arith)
slots_full (o ∷ os) (true ∷ fs) long full = ap (λ slots. Some o ∷ slots) (slots_full os fs (omega arith) (λ k none. full (suc k) none))
slots_full (o ∷ os) (false ∷ fs) long full = absurd (full 0 refl)

below_or : (k place : ℕ) → k < place + 1 → k ≢ place → k < place
below_or k zero low apart = absurd (apart (omega arith))
below_or zero (suc place) low apart = omega arith
below_or (suc k) (suc place) low apart = let less = below_or k place (omega arith) (λ e. apart (ap suc e)) in omega arith

-- each place so far is filled, and this one is
pub full_further : (slots : List (Option JobOutcome)) (place : ℕ) (outcome : JobOutcome) → slice_get slots place ≡ Some (Some outcome)
    → ((k : ℕ) → k < place → slice_get slots k ≢ Some None) → (k : ℕ) → k < place + 1 → slice_get slots k ≢ Some None
full_further slots place outcome at full k low none =
    ⊎_elim
    (λ (e : k ≡ place). let bad : Some outcome ≡ None = same_Some (Some outcome) None (sym at ∙ (ap (λ n. slice_get slots n) (sym e) ∙ none)) in cc)
    (λ (apart : k ≢ place). full k (below_or k place low apart) none) (same_or k place)

-- all are, where those below their number are
pub full_below : (slots : List (Option JobOutcome)) (place : ℕ) → length slots ≤ place → ((k : ℕ) → k < place → slice_get slots k ≢ Some None) → (k : ℕ) → slice_get slots k ≢ Some None
full_below slots place past full k none = let within = slice_get_within slots k None none in full k (omega arith) none
