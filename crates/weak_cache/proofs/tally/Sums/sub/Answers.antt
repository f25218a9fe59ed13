use Rattle.weak_cache.proofs.Vocabulary.{◌<◌, ap, arith, slice_index}
use Rattle.weak_cache.proofs.Counting.{counted_between, tally_less}
use Rattle.weak_cache.proofs.tally.Sums.sub.Goals as goal

pub overflow_sub-self-2 : goal.overflow_sub-self-2
overflow_sub-self-2 c =
    let h = c.requires.counted in
    let small : h.entry.site < 16 = omega (arith, c.requires.site, h.is.own_site) in
    omega (arith, (counted_between c.args.self.now h.newer h.entry h.older small h.counted).0, h.is.own_size)

pub overflow_sub-self-3 : goal.overflow_sub-self-3
overflow_sub-self-3 c =
    let h = c.requires.counted in
    let small : h.entry.site < 16 = omega (arith, c.requires.site, h.is.own_site) in
    omega (arith, (counted_between c.args.self.now h.newer h.entry h.older small h.counted).1, h.is.own_size, ap (slice_index c.args.self.now.sites) c.from.ensures, ap (slice_index c.args.self.now.sites) h.is.own_site)

pub returns : goal.returns
returns c = λ newer entry older counted is.
    let small : entry.site < 16 = omega (arith, c.requires.site, is.own_site) in
    tally_less c.args.self.now newer entry older c.args.site c.args.size c.from.result c.from.ensures small is counted
