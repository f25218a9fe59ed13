use Rattle.weak_cache.proofs.Vocabulary.{◌∙◌, ap, entry_of, Limited, new_entry}
use Rattle.weak_cache.proofs.Beside.{kept_other}
use Rattle.weak_cache.proofs.cache.WeakCache.other_beside.Goals as goal

pub returns-in_default : goal.returns-in_default
returns-in_default c =
    c.find.ensures
    ∙ ap (λ (v : Limited). entry_of v.entries c.args.site c.args.suite) c.self.view_is
    ∙ kept_other c.args.self.now.limits (new_entry c.args.new) c.args.self.now.entries c.args.site c.args.suite c.in_default.ensures c.requires
