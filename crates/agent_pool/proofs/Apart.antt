-- Outcomes stay in order.
use Rattle.agent_pool.proofs.Vocabulary.{◌≡◌, ◌≢◌, ◌⊎◌, ⊎_elim, inl, inr, ℕ, zero, suc, ◌+◌, ◌<◌, ◌≤◌, List, [], ◌∷◌, ◌++◌, map, slice_set, subst, refl, ap}
use Rattle.agent_pool.proofs.Vocabulary.{◌∙◌, sym, arith, Contains, slice_get, Option, Some, None, same_Some, slice_get-get_or, length-take, get_or-take}
use Rattle.agent_pool.proofs.Vocabulary.{Contains-append_left, Contains-append_right, JobDone, JobOutcome, RiseBetween, RiseInPlace, AreApart, AreInOrder}
use Rattle.agent_pool.proofs.Vocabulary.{AreInOrderIn, AreBelow, AreNone, AreOfThese, IsPut, AreDistinct}
use Rattle.std.proofs.Common.{take}

pub same_or : (j i : ℕ) → (j ≡ i) ⊎ (j ≢ i)
same_or zero zero = inl refl
same_or zero (suc i) = inr (λ e. omega arith)
same_or (suc j) zero = inr (λ e. omega arith)
same_or (suc j) (suc i) = ⊎_elim (λ e. inl (ap suc e)) (λ n. inr (λ e. n (omega arith))) (same_or j i)

pub set_here : {A : Type 0} (xs : List A) (i : ℕ) (old new x : A) → slice_get xs i ≡ Some old → slice_get (slice_set xs i new) i ≡ Some x → x ≡ new
set_here [] i old new x was is = cc
set_here (y ∷ xs) zero old new x was is = sym (same_Some new x is)
set_here (y ∷ xs) (suc i) old new x was is = set_here xs i old new x was is

pub set_apart : {A : Type 0} (xs : List A) (i j : ℕ) (new : A) → j ≢ i → slice_get (slice_set xs i new) j ≡ slice_get xs j
set_apart [] i j new apart = refl
set_apart (x ∷ xs) zero zero new apart = absurd (apart refl)
set_apart (x ∷ xs) zero (suc j) new apart = refl
set_apart (x ∷ xs) (suc i) zero new apart = refl
set_apart (x ∷ xs) (suc i) (suc j) new apart = set_apart xs i j new (λ same. apart (ap suc same))

-- what stands in the new places: it stood there, or is the one that was put
pub put_cases : (old new : List (Option JobOutcome)) (place : ℕ) (outcome : JobOutcome) → IsPut old place outcome new → (i : ℕ) (a : JobOutcome) → slice_get new i ≡ Some (Some a)
    → ((i ≡ place) × (a ≡ outcome)) ⊎ ((i ≢ place) × (slice_get old i ≡ Some (Some a)))
put_cases old new place outcome put i a at =
    let there : slice_get (slice_set old place (Some outcome)) i ≡ Some (Some a) = subst (λ xs. slice_get xs i ≡ Some (Some a)) put.is at in
    ⊎_elim (λ (e : i ≡ place). inl (e, same_Some a outcome (set_here old place None (Some outcome) (Some a) put.was (subst (λ k. slice_get (slice_set old place (Some outcome)) k ≡ Some (Some a)) e there))))
    (λ (n : i ≢ place). inr (n, sym (set_apart old place i (Some outcome) n) ∙ there)) (same_or i place)

-- what else is of this agent stands before, and was begun before
stands_before : (numbers : List ℕ) (agent low floor : ℕ) (old : List (Option JobOutcome)) (outcome : JobOutcome) → ¬ (Contains numbers agent) → AreBelow numbers agent low floor old → outcome.agent ≡ agent
    → (j : ℕ) (b : JobOutcome) → slice_get old j ≡ Some (Some b) → outcome.agent ≡ b.agent → (b.count < low) × (j < floor)
stands_before numbers agent low floor old outcome fresh below of j b at same =
    ⊎_elim (λ (h : Contains numbers b.agent). absurd (fresh (subst (λ n. Contains numbers n) (sym same ∙ of) h))) (λ (h : (b.agent ≡ agent) × (b.count < low) × (j < floor)). (h.1, h.2)) (below j b at)

pub put_in_order : (numbers : List ℕ) (agent low floor : ℕ) (old new : List (Option JobOutcome)) (place : ℕ) (outcome : JobOutcome) → ¬ (Contains numbers agent) → AreInOrderIn old → AreBelow numbers agent low floor old
    → IsPut old place outcome new → outcome.agent ≡ agent → low ≤ outcome.count → floor ≤ place → AreInOrderIn new
put_in_order numbers agent low floor old new place outcome fresh order below put of high past i j a b ati atj same before =
    ⊎_elim
    (λ (x : (i ≡ place) × (a ≡ outcome)). ⊎_elim (λ (y : (j ≡ place) × (b ≡ outcome)). absurd (let e = x.0 in let f = y.0 in omega arith))
    (λ (y : (j ≢ place) × (slice_get old j ≡ Some (Some b))).
    let k = stands_before numbers agent low floor old outcome fresh below of j b y.1 (ap (λ (o : JobOutcome). o.agent) (sym x.1) ∙ same) in
    absurd (let e = x.0 in let l = k.1 in omega arith))
    (put_cases old new place outcome put j b atj))
    (λ (x : (i ≢ place) × (slice_get old i ≡ Some (Some a))). ⊎_elim
    (λ (y : (j ≡ place) × (b ≡ outcome)).
    let k = stands_before numbers agent low floor old outcome fresh below of i a x.1 (ap (λ (o : JobOutcome). o.agent) (sym y.1) ∙ sym same) in
    let c = ap (λ (o : JobOutcome). o.count) y.1 in let less = k.0 in omega arith)
    (λ (y : (j ≢ place) × (slice_get old j ≡ Some (Some b))). order i j a b x.1 y.1 same before)
    (put_cases old new place outcome put j b atj))
    (put_cases old new place outcome put i a ati)

pub put_below : (numbers : List ℕ) (agent low floor : ℕ) (old new : List (Option JobOutcome)) (place : ℕ) (outcome : JobOutcome) → AreBelow numbers agent low floor old
    → IsPut old place outcome new → outcome.agent ≡ agent → low ≤ outcome.count → floor ≤ place → AreBelow numbers agent (outcome.count + 1) (place + 1) new
put_below numbers agent low floor old new place outcome below put of high past i a at =
    ⊎_elim (λ (x : (i ≡ place) × (a ≡ outcome)). inr (ap (λ (o : JobOutcome). o.agent) x.1 ∙ of, (let e = ap (λ (o : JobOutcome). o.count) x.1 in omega arith), (let e = x.0 in omega arith)))
    (λ (x : (i ≢ place) × (slice_get old i ≡ Some (Some a))). ⊎_elim (λ h. inl h)
    (λ (h : (a.agent ≡ agent) × (a.count < low) × (i < floor)). inr (h.0, (let less = h.1 in omega arith), (let less = h.2 in omega arith))) (below i a x.1))
    (put_cases old new place outcome put i a at)

pub none_at : (slots : List (Option JobOutcome)) → AreNone slots → (i : ℕ) (a : JobOutcome) → slice_get slots i ≡ Some (Some a) → ⊥
none_at [] none i a e = cc
none_at (s ∷ slots) none zero a e = let h : Some a ≡ None = sym (same_Some s (Some a) e) ∙ none.0 in cc
none_at (s ∷ slots) none (suc i) a e = none_at slots none.1 i a e

some_at : (os : List JobOutcome) (k : ℕ) (o : JobOutcome) → slice_get os k ≡ Some o → slice_get (map (λ o. Some o) os) k ≡ Some (Some o)
some_at [] k o e = cc
some_at (x ∷ os) zero o e = ap Some (ap Some (same_Some x o e))
some_at (x ∷ os) (suc k) o e = some_at os k o e

three : (i j : ℕ) → (i < j) ⊎ ((i ≡ j) ⊎ (j < i))
three zero zero = inr (inl refl)
three zero (suc j) = inl (omega arith)
three (suc i) zero = inr (inr (omega arith))
three (suc i) (suc j) =
    ⊎_elim (λ l. inl (omega arith)) (λ (h : (i ≡ j) ⊎ (j < i)). inr (⊎_elim (λ e. inl (ap suc e)) (λ l. inr (omega arith)) h)) (three i j)

-- the outcomes where all places are filled
pub order_filled : (outcomes : List JobOutcome) → AreInOrderIn (map (λ o. Some o) outcomes) → AreInOrder outcomes
order_filled outcomes order i j a b ati atj same before = order i j a b (some_at outcomes i a ati) (some_at outcomes j b atj) same before

pub apart_filled : (outcomes : List JobOutcome) → AreInOrderIn (map (λ o. Some o) outcomes) → AreApart outcomes
apart_filled outcomes order i j a b ati atj same count =
    ⊎_elim (λ (l : i < j). absurd (let less = order_filled outcomes order i j a b ati atj same l in omega arith))
    (λ (h : (i ≡ j) ⊎ (j < i)). ⊎_elim (λ e. e) (λ (l : j < i). absurd (let less = order_filled outcomes order j i b a atj ati (sym same) l in omega arith)) h)
    (three i j)

-- ---- all that an agent did

open_rise : (low high : ℕ) (d : JobDone) (ds : List JobDone) → RiseBetween low (d ∷ ds) high → (low ≤ d.ran.count) × RiseBetween (d.ran.count + 1) ds high
open_rise low high d ds rise = rise

open_order : (floor roof : ℕ) (d : JobDone) (ds : List JobDone) → RiseInPlace floor (d ∷ ds) roof → (floor ≤ d.place) × RiseInPlace (d.place + 1) ds roof
open_order floor roof d ds order = order

-- what is so at a place of the list of what was done
pub record At (agent : ℕ) (numbers : List ℕ) (high roof : ℕ) (left : List JobDone) (slots : List (Option JobOutcome)) : Type 0 where
  pub low : ℕ
  pub floor : ℕ
  pub rise : RiseBetween low left high
  pub places : RiseInPlace floor left roof
  pub order : AreInOrderIn slots
  pub below : AreBelow numbers agent low floor slots

pub at_next : (agent : ℕ) (numbers : List ℕ) (high roof : ℕ) (left rest : List JobDone) (d : JobDone) (old new : List (Option JobOutcome)) (job : ℕ) → ¬ (Contains numbers agent) → left ≡ d ∷ rest → At agent numbers high roof left old
    → IsPut old d.place (record { job = job; agent = agent; count = d.ran.count; at = d.ran.at }) new → At agent numbers high roof rest new
at_next agent numbers high roof left rest d old new job fresh is at put =
    let rise = open_rise at.low high d rest (subst (λ ds. RiseBetween at.low ds high) is at.rise) in
    let places = open_order at.floor roof d rest (subst (λ ds. RiseInPlace at.floor ds roof) is at.places) in
    let outcome : JobOutcome = record { job = job; agent = agent; count = d.ran.count; at = d.ran.at } in
    record {
      low = d.ran.count + 1;
      floor = d.place + 1;
      rise = rise.1;
      places = places.1;
      order = put_in_order numbers agent at.low at.floor old new d.place outcome fresh at.order at.below put refl rise.0 places.0;
      below = put_below numbers agent at.low at.floor old new d.place outcome at.below put refl rise.0 places.0;
    }

-- one agent's outcomes after those of others
pub of_more : (numbers : List ℕ) (agent upper top : ℕ) (slots : List (Option JobOutcome)) → AreBelow numbers agent upper top slots → AreOfThese (numbers ++ agent ∷ []) slots
of_more numbers agent upper top slots below i a at =
    ⊎_elim (λ h. Contains-append_left numbers (agent ∷ []) a.agent h) (λ (h : (a.agent ≡ agent) × (a.count < upper) × (i < top)). Contains-append_right numbers (agent ∷ []) a.agent (0, omega arith, sym h.0)) (below i a at)

pub below_none : (numbers : List ℕ) (agent low floor : ℕ) (slots : List (Option JobOutcome)) → AreOfThese numbers slots → AreBelow numbers agent low floor slots
below_none numbers agent low floor slots of i a at = inl (of i a at)

-- in a list without a number twice, none stands before itself
pub is_fresh : (numbers : List ℕ) (i n : ℕ) → AreDistinct numbers → slice_get numbers i ≡ Some n → ¬ (Contains (take i numbers) n)
is_fresh numbers i n distinct at has =
    let low : has.0 < i = let short = length-take i numbers in let here = has.1 in omega arith in
    let there : slice_get numbers has.0 ≡ Some n = slice_get-get_or numbers has.0 n (let short = length-take i numbers in let here = has.1 in omega arith) ∙ ap (λ m. Some m) (sym (get_or-take i numbers has.0 n low) ∙ has.2) in
    let same = distinct has.0 i n there at in
    omega arith
