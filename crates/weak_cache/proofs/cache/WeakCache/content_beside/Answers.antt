use Rattle.weak_cache.proofs.Vocabulary.{sym, ap, ◌∙◌, option_copied, at_version, new_entry}
use Rattle.weak_cache.proofs.Beside.{none_own}
use Rattle.weak_cache.proofs.cache.WeakCache.content_beside.Goals as goal

pub returns-in_err-size_in_room : goal.returns-in_err-size_in_room
returns-in_err-size_in_room c =
    ap option_copied c.from_residual-in_err-size_in_room.ensures
    ∙ ap (at_version c.args.dver) (none_own c.args.self.now.limits (new_entry c.args.new) c.args.self.now.entries c.args.site c.args.suite c.in_err-size_in_room.ensures (sym c.is_of.ensures ∙ c.if-not-is_of.false))
