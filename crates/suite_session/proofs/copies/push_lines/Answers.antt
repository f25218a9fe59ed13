use Rattle.suite_session.proofs.Vocabulary.{◌++◌, ◌∙◌, ap, sym, append_assoc, append-nil, standing_at, standing_line}
use Rattle.suite_session.specs.Copies.{standing_lines}
use Rattle.suite_session.proofs.OneMore.{none_standing, standing_more}
use Rattle.suite_session.proofs.copies.push_lines.Goals as goal

pub loop-number-init : goal.loop-number-init
loop-number-init c = rw (none_standing c.args.path.now c.args.sought c.args.service.now.world.world) (sym (append-nil c.args.text.now.items))

pub loop-number-preserved : goal.loop-number-preserved
loop-number-preserved c =
    let world = c.args.service.now.world.world in
    let line = standing_line c.args.path.now c.args.sought (standing_at world c.args.sought.suite c.loop-number.number) in
    let lines = standing_lines c.args.path.now c.args.sought world c.loop-number.number in
    c.in_ok-push_line.ensures
    ∙ ap (λ one. c.loop-number.text.items ++ standing_line c.args.path.now c.args.sought one) c.in_ok-one.ensures
    ∙ ap (λ text. text ++ line) c.loop-number.invariant
    ∙ append_assoc c.args.text.now.items lines line
    ∙ ap (λ more. c.args.text.now.items ++ more) (sym (standing_more c.args.path.now c.args.sought world c.loop-number.number))
