use Rattle.suite_content.specs.Names.{IsName}
use Rattle.suite_prefix.proofs.Names.{tail_iff}
use Rattle.suite_prefix.proofs.shapes.Names.are_names.Goals as goal

pub loop-name-preserved : goal.loop-name-preserved
loop-name-preserved c =
    tail_iff (λ entry. IsName entry.0) (c.in-Some.name.now, c.in-Some.field-0-0-1) c.in-Some.rest c.loop-name.others c.args.self.now c.in-Some.ensures (c.is_name.ensures.0 c.if-not-is_name.false) c.loop-name.invariant
