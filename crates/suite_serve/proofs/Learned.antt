-- What agents know of servers, and the stamps that they were told.
use Rattle.suite_serve.proofs.Vocabulary.{◌≡◌, ◌⊎◌, inl, inr, ap, arith, ℕ, zero, suc, ◌+◌, ◌<◌, ◌≤◌, List, [], ◌∷◌, length, refl, slice_index, slice_set}
use Rattle.suite_serve.proofs.Vocabulary.{Contains, length-set, AgentEntry, Begun, Asked, Lacked, Forgot, Ended, Learns}

-- what is in a list is its first, or in the rest
pub contains_or : {A : Type 0} (x : A) (xs : List A) (y : A) → Contains (x ∷ xs) y → (x ≡ y) ⊎ Contains xs y
contains_or x xs y (zero, low, is) = inl is
contains_or x xs y (suc place, low, is) = inr (place, omega arith, is)

set_at : (xs : List ℕ) (at stamp : ℕ) → at < length xs → slice_index (slice_set xs at stamp) at ≡ stamp
set_at [] at stamp low = absurd (omega arith)
set_at (x ∷ xs) zero stamp low = refl
set_at (x ∷ xs) (suc at) stamp low = set_at xs at stamp (omega arith)

-- a later stamp that is known of one server leaves no lesser one of any
set_rises : (xs : List ℕ) (at stamp server : ℕ) → slice_index xs at < stamp → slice_index xs server ≤ slice_index (slice_set xs at stamp) server
set_rises [] at stamp server less = omega arith
set_rises (x ∷ xs) zero stamp zero less = omega arith
set_rises (x ∷ xs) zero stamp (suc server) less = omega arith
set_rises (x ∷ xs) (suc at) stamp zero less = omega arith
set_rises (x ∷ xs) (suc at) stamp (suc server) less = set_rises xs at stamp server less

-- what is known of a server never falls
known_rises : (entries : List AgentEntry) (old new : List ℕ) (server : ℕ) → Learns old entries new → slice_index old server ≤ slice_index new server
known_rises [] old new server learns = let same = ap (λ (known : List ℕ). slice_index known server) learns in omega arith
known_rises (Begun job ∷ entries) old new server learns = known_rises entries old new server learns
known_rises (Asked at stamp ∷ entries) old new server learns =
    let here = set_rises old at stamp server learns.1 in
    let later = known_rises entries (slice_set old at stamp) new server learns.2 in
    omega arith
known_rises (Lacked at lack ∷ entries) old new server learns = known_rises entries old new server learns
known_rises (Forgot site ∷ entries) old new server learns = known_rises entries old new server learns
known_rises (Ended outcome ∷ entries) old new server learns = known_rises entries old new server learns

-- no stamp that was told is above what is known then
pub told_known : (entries : List AgentEntry) (old new : List ℕ) (server stamp : ℕ) → Learns old entries new → Contains entries (Asked server stamp) → stamp ≤ slice_index new server
told_known [] old new server stamp learns has = let low = has.1 in absurd (omega arith)
told_known (Begun job ∷ entries) old new server stamp learns has =
    elim (contains_or (Begun job) entries (Asked server stamp) has) [
      | inl same ↦ cc
      | inr later ↦ told_known entries old new server stamp learns later
    ]
told_known (Asked at first ∷ entries) old new server stamp learns has =
    elim (contains_or (Asked at first) entries (Asked server stamp) has) [
      | inl same ↦
          let there : at ≡ server = cc in
          let is : first ≡ stamp = cc in
          let put = set_at old at first learns.0 in
          let after = known_rises entries (slice_set old at first) new at learns.2 in
          let moved = ap (λ (s : ℕ). slice_index new s) there in
          omega arith
      | inr later ↦ told_known entries (slice_set old at first) new server stamp learns.2 later
    ]
told_known (Lacked at lack ∷ entries) old new server stamp learns has =
    elim (contains_or (Lacked at lack) entries (Asked server stamp) has) [
      | inl same ↦ cc
      | inr later ↦ told_known entries old new server stamp learns later
    ]
told_known (Forgot site ∷ entries) old new server stamp learns has =
    elim (contains_or (Forgot site) entries (Asked server stamp) has) [
      | inl same ↦ cc
      | inr later ↦ told_known entries old new server stamp learns later
    ]
told_known (Ended outcome ∷ entries) old new server stamp learns has =
    elim (contains_or (Ended outcome) entries (Asked server stamp) has) [
      | inl same ↦ cc
      | inr later ↦ told_known entries old new server stamp learns later
    ]

-- a server gave a stamp later than what was known of it
pub record IsLater (known : List ℕ) (server stamp : ℕ) : Type 0 where
  pub there : server < length known
  pub above : slice_index known server < stamp

-- each stamp that is told is later than what was known before
pub told_later : (entries : List AgentEntry) (old new : List ℕ) (server stamp : ℕ) → Learns old entries new → Contains entries (Asked server stamp) → IsLater old server stamp
told_later [] old new server stamp learns has = let low = has.1 in absurd (omega arith)
told_later (Begun job ∷ entries) old new server stamp learns has =
    elim (contains_or (Begun job) entries (Asked server stamp) has) [
      | inl same ↦ cc
      | inr later ↦ told_later entries old new server stamp learns later
    ]
told_later (Asked at first ∷ entries) old new server stamp learns has =
    elim (contains_or (Asked at first) entries (Asked server stamp) has) [
      | inl same ↦
          let there : at ≡ server = cc in
          let is : first ≡ stamp = cc in
          let moved = ap (λ (s : ℕ). slice_index old s) there in
          let low = learns.0 in
          let above = learns.1 in
          record { there = omega arith; above = omega arith }
      | inr later ↦
          let after = told_later entries (slice_set old at first) new server stamp learns.2 later in
          let there = after.there in
          let above = after.above in
          let long = length-set old at first in
          let here = set_rises old at first server learns.1 in
          record { there = omega arith; above = omega arith }
    ]
told_later (Lacked at lack ∷ entries) old new server stamp learns has =
    elim (contains_or (Lacked at lack) entries (Asked server stamp) has) [
      | inl same ↦ cc
      | inr later ↦ told_later entries old new server stamp learns later
    ]
told_later (Forgot site ∷ entries) old new server stamp learns has =
    elim (contains_or (Forgot site) entries (Asked server stamp) has) [
      | inl same ↦ cc
      | inr later ↦ told_later entries old new server stamp learns later
    ]
told_later (Ended outcome ∷ entries) old new server stamp learns has =
    elim (contains_or (Ended outcome) entries (Asked server stamp) has) [
      | inl same ↦ cc
      | inr later ↦ told_later entries old new server stamp learns later
    ]
