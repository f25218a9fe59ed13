-- The three characters of permissions, over all eight sets, with or without white space after them.
use Rattle.acl_text.proofs.Vocabulary.{◌≡◌, ℕ, ◌&&◌, Bool, true, false, not, if◌then◌else◌, List, [], ◌∷◌, ◌++◌, eqb, list_all, digit_of, trimmed, colon, parts, are_permissions, permission_digit, arith}

-- the characters of r, w and x
abbrev pub three : Bool → Bool → Bool → List ℕ
three r w x = (if r then 114 else 45) ∷ (if w then 119 else 45) ∷ (if x then 120 else 45) ∷ []

-- a tab, or nothing
abbrev pub tail : Bool → List ℕ
tail true = 9 ∷ []
tail false = []

-- bytes that cut no text into items
abbrev pub is_plain : ℕ → Bool
is_plain b = not (eqb b 10) && not (eqb b 35) && not (eqb b 44)

pub record LetterFacts (r w x t : Bool) : Type 0 where
  pub permissions : are_permissions (three r w x) ≡ true
  pub digit : permission_digit (three r w x) ≡ digit_of r w x
  pub one_field : parts colon (three r w x ++ tail t) ≡ (three r w x ++ tail t) ∷ []
  pub trims : trimmed (three r w x ++ tail t) ≡ three r w x
  pub plain : list_all is_plain (three r w x ++ tail t) ≡ true

pub letter_facts : (r w x t : Bool) → LetterFacts r w x t
letter_facts r w x t = search arith
