use Rattle.run_core.proofs.Vocabulary.{refl, sym, ap, ◌∙◌, Some, Result, Err, Reply, Lack, Stamped, slice_get_read}
use Rattle.run_core.proofs.Operating.{full_for_operator, served_for_operator}
use Rattle.run_core.proofs.operator.operate.Goals as goal

pub returns-in_default-serve-clause-ok : goal.returns-in_default-serve-clause-ok
returns-in_default-serve-clause-ok c =
    let item = c.in-Some.ensures.item in
    let there = slice_get_read _ _ _ _ refl item.3.0 item.1 ∙ ap Some (sym c.host.view_is) in
    let left = c.in_default-serve.ensures in
    let err : Lack → Result (Stamped Reply) Lack = λ lack. Err lack in
    λ agents. (full_for_operator err _ c.args.server c.from.result c.host.inside.server.state _ c.args.order c.request.result c.in_default-serve.field-0 agents c.from.ensures there c.request.ensures left.full.0 left.memory left.err)

pub returns-clause-ok : goal.returns-clause-ok
returns-clause-ok c =
    let item = c.in-Some.ensures.item in
    let there = slice_get_read _ _ _ _ refl item.3.0 item.1 ∙ ap Some (sym c.host.view_is) in
    let left = c.in-Ok.ensures in
    λ agents. served_for_operator _ c.args.server c.from.result c.host.inside.server.state _ c.args.order c.request.result c.request.result c.in-Ok.reply agents c.from.ensures there c.request.ensures c.request.ensures
    (λ full. let clash = left.full.1 full in cc) left.state left.reply
