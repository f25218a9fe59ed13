-- Lists that are parted, a thing more.
use Rattle.std.proofs.Common.{List, [], ◌∷◌, ◌++◌, append_assoc, append-nil, inl, inr, refl, subst, sym}
use Rattle.event_json.specs.Changes.{IsNext, IsParted}

next_map : {A : Type 0} (x : A) (xs : List A) (F G : List A → Type 0) → ((more : List A) → F more → G more) → IsNext x xs F → IsNext x xs G
next_map x [] F G f next = absurd next
next_map x (y ∷ ys) F G f next = (next.0, f ys next.1)

next_end : {A : Type 0} (x : A) (xs zs : List A) (F G : List A → Type 0) → ((more : List A) → F more → G (more ++ zs)) → IsNext x xs F → IsNext x (xs ++ zs) G
next_end x [] zs F G f next = absurd next
next_end x (y ∷ ys) zs F G f next = (next.0, f ys next.1)

-- one more that stays
pub parted_stay : {A : Type 0} (all kept apart : List A) (x : A) → IsParted all kept apart → IsParted (all ++ x ∷ []) (kept ++ x ∷ []) apart
parted_stay [] kept apart x p = subst (λ ks. IsParted (x ∷ []) (ks ++ x ∷ []) apart) (sym p.0) (inl (refl, (refl, p.1)))
parted_stay (y ∷ all) kept apart x p = elim p [
  | inl a ↦ inl (next_end y kept (x ∷ []) (λ more. IsParted all more apart) (λ more. IsParted (all ++ x ∷ []) more apart) (λ more q. parted_stay all more apart x q) a)
  | inr b ↦ inr (next_map y apart (λ more. IsParted all kept more) (λ more. IsParted (all ++ x ∷ []) (kept ++ x ∷ []) more) (λ more q. parted_stay all kept more x q) b)
]

-- one more that is apart
pub parted_go : {A : Type 0} (all kept apart : List A) (x : A) → IsParted all kept apart → IsParted (all ++ x ∷ []) kept (apart ++ x ∷ [])
parted_go [] kept apart x p = subst (λ ks. IsParted (x ∷ []) kept (ks ++ x ∷ [])) (sym p.1) (inr (refl, (p.0, refl)))
parted_go (y ∷ all) kept apart x p = elim p [
  | inl a ↦ inl (next_map y kept (λ more. IsParted all more apart) (λ more. IsParted (all ++ x ∷ []) more (apart ++ x ∷ [])) (λ more q. parted_go all more apart x q) a)
  | inr b ↦ inr (next_end y apart (x ∷ []) (λ more. IsParted all kept more) (λ more. IsParted (all ++ x ∷ []) kept more) (λ more q. parted_go all kept more x q) b)
]

-- more that are apart
pub parted_all : {A : Type 0} (all kept apart xs : List A) → IsParted all kept apart → IsParted (all ++ xs) kept (apart ++ xs)
parted_all all kept apart [] p = subst (λ ys. IsParted ys kept (apart ++ [])) (sym (append-nil all)) (subst (λ ys. IsParted all kept ys) (sym (append-nil apart)) p)
parted_all all kept apart (x ∷ xs) p =
    subst (λ ys. IsParted ys kept (apart ++ x ∷ xs)) (append_assoc all (x ∷ []) xs)
    (subst (λ ys. IsParted ((all ++ x ∷ []) ++ xs) kept ys) (append_assoc apart (x ∷ []) xs)
    (parted_all (all ++ x ∷ []) kept (apart ++ x ∷ []) xs (parted_go all kept apart x p)))
