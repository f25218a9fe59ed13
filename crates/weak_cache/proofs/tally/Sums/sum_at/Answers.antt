use Rattle.weak_cache.proofs.Vocabulary.{◌∙◌, ap, slice_index}
use Rattle.weak_cache.proofs.tally.Sums.sum_at.Goals as goal

pub returns : goal.returns
returns c = λ cache h. ap (slice_index c.args.self.now.sites) c.from.ensures ∙ h.sites c.args.site c.requires.site
