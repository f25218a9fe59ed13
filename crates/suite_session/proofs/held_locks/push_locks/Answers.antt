use Rattle.suite_session.proofs.Vocabulary.{◌++◌, ◌∙◌, ap, sym, append_assoc, append-nil, server_at, locks_by}
use Rattle.suite_session.specs.HeldLocks.{locks_text}
use Rattle.suite_session.proofs.OneMore.{locks_more, none_locked}
use Rattle.suite_session.proofs.held_locks.push_locks.Goals as goal

pub loop-number-init : goal.loop-number-init
loop-number-init c = rw (none_locked c.args.service.now.settings c.args.service.now.world.world) (sym (append-nil c.args.text.now.items))

pub loop-number-preserved : goal.loop-number-preserved
loop-number-preserved c =
    let given = c.args.service.now.settings in
    let world = c.args.service.now.world.world in
    let line = locks_by given world c.loop-number.number (server_at world c.loop-number.number) in
    let lines = locks_text given world c.loop-number.number in
    c.in_ok-push_locks_at.ensures
    ∙ ap (λ text. text ++ line) c.loop-number.invariant
    ∙ append_assoc c.args.text.now.items lines line
    ∙ ap (λ more. c.args.text.now.items ++ more) (sym (locks_more given world c.loop-number.number))
