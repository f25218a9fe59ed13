use Rattle.weak_cache.proofs.Vocabulary.{ℕ, refl, get_or-replicate, length-replicate}
use Rattle.weak_cache.proofs.tally.Sums.new.Goals as goal

pub returns : goal.returns
returns c =
    let none : ℕ = 0 in
    record {
      count = refl;
      sum = refl;
      sites = λ site small. get_or-replicate 16 site none none small;
      all = length-replicate 16 none;
    }
