use Rattle.txn_core.proofs.Vocabulary.{◌≡◌, ◌-◌, ap, ◌∙◌, arith, rules, tests, Lock}
use Rattle.std.specs.VecDeque.Iter.{deque_iter_rest}
use Rattle.std.proofs.lemmas.Iterator.Consumers.{YieldsList-from_deque}
use Rattle.std.proofs.lemmas.Iterator.Search.{any_from_yields_List}
use Rattle.std.proofs.Common.{take}
use Rattle.txn_core.proofs.sweep_run.has_prepared.Goals as goal

pub returns : goal.returns
returns c =
    let own = take c.args.own c.args.others.now.items in
    let all : c.args.own - 0 ≡ c.args.own = omega arith in
    let rest : deque_iter_rest c.range.result ≡ own = c.range.ensures.rest ∙ ap (λ n. take n c.args.others.now.items) all in
    any_from_yields_List (λ (other : Lock). other.prepared) _ _ c.any.result c.any.ensures.ran (YieldsList-from_deque own rest) (λ x b q k. search (rules, tests))
