-- A list of at most 64 bytes, kept in an array of 64 whose rest is zeros.
use Rattle.std.specs.Prelude.{◌≡◌, ℕ, ◌-◌, ◌≤◌, List, ◌++◌, length, take, drop, replicate}
use Rattle.std.proofs.Common.{◌∙◌, ap, sym, length-append, arith}
use Rattle.std.proofs.lemmas.List.{take-append-drop, length-take-le, drop-replicate, length-replicate}
use Rattle.std.proofs.Math.Seq.{drop-append_seam}
use Rattle.suite_content.specs.declared.name.Name.TheInside.{Inside}

-- the array has 64 places, and zeros after the first n
pub record IsPadded (n : ℕ) (array : List ℕ) : Type 0 where
  pub places : length array ≡ 64
  pub fits : n ≤ 64
  pub zeros : drop n array ≡ replicate (64 - n) 0

-- a list, padded
abbrev pub padded : List ℕ → List ℕ
padded list = list ++ replicate (64 - length list) 0

-- the length of what is kept
pub kept_length : (n : ℕ) (array : List ℕ) → IsPadded n array → length (take n array) ≡ n
kept_length n array h = length-take-le n array (omega (arith, h.places, h.fits))

-- what is kept, padded, is the array
pub padded-take : (n : ℕ) (array : List ℕ) → IsPadded n array → padded (take n array) ≡ array
padded-take n array h =
    ap (λ k. take n array ++ replicate (64 - k) 0) (kept_length n array h) ∙ ap (λ rest. take n array ++ rest) (sym h.zeros) ∙ take-append-drop n array

-- a list written over the front of 64 zeros
pub padded_front : (list : List ℕ) → length list ≤ 64 → IsPadded (length list) (list ++ drop (length list) (replicate 64 0))
padded_front list h = record {
  places = rw (length-append, drop-replicate, length-replicate) (omega arith);
  fits = h;
  zeros = drop-append_seam list (drop (length list) (replicate 64 0)) ∙ drop-replicate (length list) 64 0;
}

-- a name's fields from its bytes
pub fields_back : (n : Inside) → IsPadded n.count n.array → let back : Inside = record { array = padded (take n.count n.array); count = length (take n.count n.array) } in back ≡ n
fields_back n h =
    let fields : List ℕ → ℕ → Inside = λ array count. record { array = array; count = count } in
    ap (λ array. fields array (length (take n.count n.array))) (padded-take n.count n.array h) ∙ ap (fields n.array) (kept_length n.count n.array h)
