use Rattle.weak_cache.proofs.Vocabulary.{sym, ap, arith, sum_of, values}
use Rattle.weak_cache.proofs.Oldest.{none_beyond}
use Rattle.weak_cache.proofs.kept.Kept.sum_at.Goals as goal

pub returns-then-site-ge-MAX_SITES : goal.returns-then-site-ge-MAX_SITES
returns-then-site-ge-MAX_SITES c =
    let all = c.args.self.now.shelf.entries in
    sym (ap sum_of (none_beyond c.args.site all c.requires.sited c.is_valid.ensures.sites (omega (arith, c.if-site-ge-MAX_SITES.true))))

pub returns : goal.returns
returns c = c.sum_at.ensures (values c.args.self.now.shelf.entries) c.requires.counted
