use Rattle.run_certify.proofs.Vocabulary.{◌≡◌, ℕ, zero, suc, List, [], ◌∷◌, map, slice_set, Some, refl, ap, option_copied}
use Rattle.run_certify.proofs.begun.put_job.Goals as goal

map_set : {A B : Type 0} (f : A → B) (xs : List A) (i : ℕ) (x : A) → map f (slice_set xs i x) ≡ slice_set (map f xs) i (f x)
map_set f [] i x = refl
map_set f (y ∷ xs) zero x = refl
map_set f (y ∷ xs) (suc i) x = ap (λ ys. f y ∷ ys) (map_set f xs i x)

pub returns-then-place-len : goal.returns-then-place-len
returns-then-place-len c = map_set option_copied c.args.jobs.now.items c.args.place (Some c.args.job)
