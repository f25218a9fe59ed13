use Rattle.weak_cache.proofs.Vocabulary.{ap, arith, slice_index}
use Rattle.weak_cache.proofs.Counting.{sites_within}
use Rattle.weak_cache.proofs.tally.Sums.add.Goals as goal

pub overflow_add-self-3 : goal.overflow_add-self-3
overflow_add-self-3 c =
    let h = c.requires.room in
    record { fits = omega (arith, ap (slice_index c.args.self.now.sites) c.from.ensures, sites_within c.args.self.now h.0 c.args.site c.requires.site h.1, h.2) }
