-- What changed from one list to another.
use Rattle.std.specs.Prelude.{◌≡◌, ◌⊎◌, List, [], ◌∷◌, ◌++◌}

-- the first of a list is this, and of what follows it this is so
abbrev pub IsNext : {A : Type 0} → A → List A → (List A → Type 0) → Type 0
IsNext x [] Then = ⊥
IsNext x (first ∷ more) Then = (first ≡ x) × Then more

-- A list is parted into two: each of its things, in its order, is the next of what stays, or the next of what is apart from that.
abbrev pub IsParted : {A : Type 0} → List A → List A → List A → Type 0
IsParted [] kept apart = (kept ≡ []) × (apart ≡ [])
IsParted (x ∷ all) kept apart = IsNext x kept (λ more. IsParted all more apart) ⊎ IsNext x apart (λ more. IsParted all kept more)

-- Between an old and a new list, in which things stand in an order of their own: these went, these came, and the rest stayed. So who takes the first from the
-- old list, and puts the others in their places, has the new one.
pub record IsChange {A : Type 0} (old new gone came : List A) : Type 0 where
  pub kept : List A
  pub before : IsParted old kept gone
  pub after : IsParted new kept came

-- The same where what came stands behind all that stayed.
pub record IsEndChange {A : Type 0} (old new gone came : List A) : Type 0 where
  pub kept : List A
  pub before : IsParted old kept gone
  pub after : new ≡ kept ++ came
