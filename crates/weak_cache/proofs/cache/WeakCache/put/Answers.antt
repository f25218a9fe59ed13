use Rattle.weak_cache.proofs.Vocabulary.{◌≡◌, ◌∷◌, true, ◌∙◌, ap, Entry, Limits, Limited, has_room}
use Rattle.weak_cache.proofs.Fewer.{fewer_filter, within_fewer}
use Rattle.weak_cache.proofs.Puts.{beside, put_steps, within_put}
use Rattle.weak_cache.proofs.Answered.{either}
use Rattle.weak_cache.proofs.cache.WeakCache.put.Goals as goal

pub invariant_of-self : goal.invariant_of-self
invariant_of-self c = rw c.remove.ensures (within_fewer _ _ c.self.inside.entries c.self.invariant (fewer_filter _ _))

pub invariant_of-self-2 : goal.invariant_of-self-2
invariant_of-self-2 c =
    let items = c.self.inside.entries in
    let limits : Limits = record { budget = c.self.inside.budget; quota = c.self.inside.quota; slots = c.self.inside.slots } in
    let entry : Entry = record { site = c.args.site; suite = c.args.suite; prefix = c.args.prefix; dver = c.args.dver; content = c.args.content } in
    let room : has_room limits c.args.content ≡ true = ap (λ (v : Limited). has_room v.limits c.args.content) c.self.view_is ∙ c.in-Some.ensures.0 in
    either c.put.result _ _ (λ all.
    let kept : c.put.new.self ≡ entry ∷ beside limits entry items = all ∙ put_steps limits entry items room in
    rw kept (within_put limits entry items room c.self.invariant)) c.put.ensures.ok _ (λ same. rw same c.self.invariant) c.put.ensures.err
