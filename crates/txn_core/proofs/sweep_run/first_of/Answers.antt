use Rattle.txn_core.proofs.Vocabulary.{◌≤◌, length, sym, ◌∙◌, arith, rules, IsPartitionPoint-from_clause}
use Rattle.txn_core.proofs.Firsts.{up_to, own_pass, order_behind, first_breaks, first_resolves, order_left}
use Rattle.txn_core.proofs.sweep_run.first_of.Goals as goal

pub returns-then-not-is_prepared-clause-value : goal.returns-then-not-is_prepared-clause-value
returns-then-not-is_prepared-clause-value c =
    let lock = c.in_ok-lock.lock in
    let rest = c.pop_front.new.self.items in
    let behind = order_behind lock rest c.args.locks.now.items c.in_ok-lock.ensures.items c.requires in
    let within : c.partition_point-own.result ≤ length rest = omega arith in
    let point = IsPartitionPoint-from_clause (up_to lock.t) rest c.partition_point-own.result c.partition_point-own.ensures.partitioned (own_pass lock.t rest behind) (λ a r f' k. search rules) in
    first_breaks lock rest c.args.locks.now.items c.partition_point-own.result c.in_ok-lock.ensures.items c.requires within point (sym c.is_prepared.ensures ∙ c.if-not-is_prepared.true)

pub returns-clause-value : goal.returns-clause-value
returns-clause-value c =
    let lock = c.in_ok-lock.lock in
    let rest = c.pop_front.new.self.items in
    let behind = order_behind lock rest c.args.locks.now.items c.in_ok-lock.ensures.items c.requires in
    let within : c.partition_point-own.result ≤ length rest = omega arith in
    let point = IsPartitionPoint-from_clause (up_to lock.t) rest c.partition_point-own.result c.partition_point-own.ensures.partitioned (own_pass lock.t rest behind) (λ a r f' k. search rules) in
    first_resolves lock rest c.args.locks.now.items c.partition_point-own.result c.in_ok-lock.ensures.items c.requires within point c.let_go.new.locks.items c.let_go.ensures (sym c.is_prepared.ensures ∙ c.if-not-is_prepared.false)

pub returns-clause-order : goal.returns-clause-order
returns-clause-order c =
    let lock = c.in_ok-lock.lock in
    let rest = c.pop_front.new.self.items in
    let behind = order_behind lock rest c.args.locks.now.items c.in_ok-lock.ensures.items c.requires in
    let within : c.partition_point-own.result ≤ length rest = omega arith in
    let point = IsPartitionPoint-from_clause (up_to lock.t) rest c.partition_point-own.result c.partition_point-own.ensures.partitioned (own_pass lock.t rest behind) (λ a r f' k. search rules) in
    order_left lock rest c.args.locks.now.items c.partition_point-own.result c.in_ok-lock.ensures.items c.requires within point c.let_go.new.locks.items c.let_go.ensures
