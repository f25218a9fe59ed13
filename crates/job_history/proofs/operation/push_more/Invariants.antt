use Rattle.std.proofs.Common.{◌≡◌, ◌++◌, drop, codes}
use Rattle.std.specs.List.{flat_map}
use Rattle.job_history.specs.Operations.{op_text}
use Rattle.job_history.proofs.operation.push_more.Given as goal

abbrev pub invariant-loop-op : goal.invariant-loop-op
invariant-loop-op l =
    l.text.items ++ flat_map (λ next. codes " ; " ++ op_text l.c0 next) (drop l.op-index l.ops)
    ≡ l.fn.text.items ++ flat_map (λ next. codes " ; " ++ op_text l.c0 next) l.ops
