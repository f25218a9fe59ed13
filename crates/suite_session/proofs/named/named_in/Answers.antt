use Rattle.suite_session.proofs.Vocabulary.{◌||◌, ◌==◌, ◌∙◌, ap, subst, sym, server_at, has, named_by, AreTold}
use Rattle.suite_session.specs.Places.{named_in}
use Rattle.suite_session.proofs.Naming.{has_append, none_told, or_false}
use Rattle.suite_session.proofs.OneMore.{named_more, root_named}
use Rattle.suite_session.proofs.named.named_in.Goals as goal

pub loop-number-init : goal.loop-number-init
loop-number-init c =
    let world = c.args.service.now.world.world in
    let count = c.args.service.now.settings.servers in (
      subst (λ folders. AreTold world count folders c.add.new.numbers.keys) (sym c.new-2.ensures.empty) (none_told world count c.add.new.numbers.keys),
      λ one.
          c.in_ok-add.ensures one
          ∙ ap (λ keys. has keys one || (0 == one)) c.new.ensures.empty
          ∙ or_false (0 == one)
          ∙ ap (λ numbers. has numbers one) (sym (root_named world count)),
    )

pub loop-number-preserved : goal.loop-number-preserved
loop-number-preserved c =
    let world = c.args.service.now.world.world in
    let count = c.args.service.now.settings.servers in
    let before = named_in world count c.loop-number.number in
    let more = named_by world count (server_at world c.loop-number.number) in (
      c.in_ok-add_named_at.ensures.told,
      λ one.
          c.in_ok-add_named_at.ensures.numbers one
          ∙ ap (λ b. b || has more one) (c.loop-number.invariant.1 one)
          ∙ sym (has_append before more one)
          ∙ ap (λ numbers. has numbers one) (sym (named_more world count c.loop-number.number)),
    )
