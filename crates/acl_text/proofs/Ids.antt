-- The numbers of a caller's groups, read one after the other.
use Rattle.acl_text.proofs.Vocabulary.{◌≡◌, ℕ, ◌⊎◌, inl, inr, List, [], ◌∷◌, ◌++◌, map, Option, Some, None, option_map, refl, ◌∙◌, number_up_to, ids_in, max_id, arith}

-- the numbers, where each is one
abbrev pub all_numbers : List (Option ℕ) → Option (List ℕ)
all_numbers [] = Some []
all_numbers (None ∷ numbers) = None
all_numbers (Some number ∷ numbers) = option_map (λ more. number ∷ more) (all_numbers numbers)

-- the numbers, where some were read already
abbrev pub ids_after : List ℕ → List (Option ℕ) → Option (List ℕ)
ids_after front numbers = option_map (λ more. front ++ more) (all_numbers numbers)

cases_number : (number : Option ℕ) → (number ≡ None) ⊎ ((value : ℕ) × (number ≡ Some value))
cases_number None = inl refl
cases_number (Some value) = inr (value, refl)

cases_numbers : (numbers : Option (List ℕ)) → (numbers ≡ None) ⊎ ((values : List ℕ) × (numbers ≡ Some values))
cases_numbers None = inl refl
cases_numbers (Some values) = inr (values, refl)

-- the parts' numbers are those that are read
ids_by_numbers : (parts : List (List ℕ)) → all_numbers (map (number_up_to max_id) parts) ≡ ids_in parts
ids_by_numbers [] = refl
ids_by_numbers (part ∷ parts) = search (cases_number, cases_numbers, ids_by_numbers parts, arith)

after_none : (numbers : Option (List ℕ)) → option_map (λ more. [] ++ more) numbers ≡ numbers
after_none numbers = search arith

-- where none was read
pub ids_at_first : (parts : List (List ℕ)) → ids_after [] (map (number_up_to max_id) parts) ≡ ids_in parts
ids_at_first parts = after_none (all_numbers (map (number_up_to max_id) parts)) ∙ ids_by_numbers parts
