-- A list kept in an array of a fixed number of places, whose rest is a filler.
use Rattle.std.specs.Prelude.{◌≡◌, ℕ, ◌-◌, ◌≤◌, List, ◌++◌, length, take, drop, replicate}
use Rattle.std.proofs.Common.{◌∙◌, ap, sym, length-append, arith}
use Rattle.std.proofs.lemmas.List.{take-append-drop, length-take-le, drop-replicate, length-replicate}
use Rattle.std.proofs.Math.Seq.{drop-append_seam}

-- the array has this many places, and the filler after the first n
pub record IsPadded {X : Type 0} (places : ℕ) (filler : X) (n : ℕ) (array : List X) : Type 0 where
  pub all_places : length array ≡ places
  pub fits : n ≤ places
  pub filled : drop n array ≡ replicate (places - n) filler

-- a list, padded
abbrev pub padded : {X : Type 0} → ℕ → X → List X → List X
padded places filler list = list ++ replicate (places - length list) filler

-- the length of what is kept
pub kept_length : {X : Type 0} (places : ℕ) (filler : X) (n : ℕ) (array : List X) → IsPadded places filler n array → length (take n array) ≡ n
kept_length places filler n array h = length-take-le n array (omega (arith, h.all_places, h.fits))

-- what is kept, padded, is the array
pub padded-take : {X : Type 0} (places : ℕ) (filler : X) (n : ℕ) (array : List X) → IsPadded places filler n array → padded places filler (take n array) ≡ array
padded-take places filler n array h =
    ap (λ k. take n array ++ replicate (places - k) filler) (kept_length places filler n array h)
    ∙ ap (λ rest. take n array ++ rest) (sym h.filled)
    ∙ take-append-drop n array

-- a list written over the front of fillers
pub padded_front : {X : Type 0} (places : ℕ) (filler : X) (list : List X) → length list ≤ places
    → IsPadded places filler (length list) (list ++ drop (length list) (replicate places filler))
padded_front places filler list fits = record {
  all_places = rw (length-append, drop-replicate, length-replicate) (omega arith);
  fits = fits;
  filled = drop-append_seam list (drop (length list) (replicate places filler)) ∙ drop-replicate (length list) places filler;
}
