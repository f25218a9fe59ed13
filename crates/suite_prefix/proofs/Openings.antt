-- Votes that list no server beyond those that there are.
use Rattle.suite_prefix.proofs.Vocabulary.{◌≡◌, ℕ, ◌<◌, false, List, arith, All, nat_le, list_any, nat_tests, Representative}
use Rattle.std.proofs.lemmas.List.Folds.{list_any_none}

pub none_unknown : (servers : ℕ) (reps : List Representative) → All (λ rep. rep.0 < servers) reps → list_any (λ rep. nat_le servers rep.0) reps ≡ false
none_unknown servers reps known = list_any_none (λ rep. nat_le servers rep.0) reps (λ i d in_list. let below = known i d in_list in grind (arith, nat_tests))
