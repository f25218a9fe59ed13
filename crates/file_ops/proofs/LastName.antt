-- The last name of a path.
use Rattle.file_ops.proofs.Vocabulary.{◌≡◌, ℕ, ◌-◌, Bor, List, [], ◌∷◌, ◌++◌, length, length-append, Option, Some, None, Ok, Err, refl, sym, ap, ◌∙◌, arith, slice_get, MatchOption, ok_or, IsLastAndRest, ok_map, last_name, plain_named}
use Rattle.std.proofs.Math.Seq.{take-append_seam}
use Rattle.file_ops.specs.declared.refusal.Why.TheVariants as why

no_last : (names : List (List ℕ)) → length names ≡ 0 → last_name names ≡ Err why.BadPath
no_last [] none = refl
no_last (name ∷ names) none = absurd (omega arith)

at_end : (rest : List (List ℕ)) (name : List ℕ) → slice_get (rest ++ name ∷ []) (length rest) ≡ Some name
at_end [] name = refl
at_end (first ∷ rest) name = at_end rest name

behind : (rest : List (List ℕ)) (name : List ℕ) → last_name (rest ++ name ∷ []) ≡ Ok (record { folders = rest; name = name })
behind rest name = search (length-append rest (name ∷ []), at_end rest name, take-append_seam rest (name ∷ []), arith)

-- what splitting the last name off gives
pub last_name-split : (names : List (List ℕ)) (split : Option (Bor (List ℕ) × Bor (List (List ℕ))))
    → MatchOption split (length names ≡ 0) (λ p. IsLastAndRest names p.0.now p.1.now) → ok_map plain_named (ok_or split why.BadPath) ≡ last_name names
last_name-split names None none = sym (no_last names none)
last_name-split names (Some parts) is = sym (ap last_name is.0 ∙ behind parts.1.now parts.0.now)
