-- Lists that are gone through, one thing after another.
use Rattle.std.specs.Prelude.{◌≡◌, ◌⊎◌, List, [], ◌∷◌, ◌++◌}

-- what was in front is gone
pub record GoesOn {A : Type 0} (all rest was now : List A) : Type 0 where
  pub front : List A
  pub parts : all ≡ front ++ rest
  pub went : now ≡ was ++ front

-- it is the first of what is left, or one more of those that are not there
abbrev pub Meets : {A : Type 0} → List A → A → List A → List A → List A → Type 0
Meets rest x later was now = ((rest ≡ x ∷ later) × (now ≡ was)) ⊎ ((later ≡ rest) × (now ≡ was ++ x ∷ []))
