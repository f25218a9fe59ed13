use Rattle.std.proofs.Common.{◌<◌, ◌≤◌, length, sym, ◌∙◌, arith}
use Rattle.rep_core.proofs.Searching.{has_lock-at, has_lock-end}
use Rattle.rep_core.proofs.few_locks.is_own_at.Goals as goal

pub returns-then-at-locks-clause-has : goal.returns-then-at-locks-clause-has
returns-then-at-locks-clause-has c =
    let within : c.args.at < length c.args.locks.now = omega (arith, c.if-at-locks.true) in
    c.is_own.ensures ∙ sym (has_lock-at c.args.t c.args.suite c.args.locks.now c.args.at _ c.requires.rising c.requires.place within)

pub returns-else-at-locks-clause-has : goal.returns-else-at-locks-clause-has
returns-else-at-locks-clause-has c =
    let over : length c.args.locks.now ≤ c.args.at = omega (arith, c.if-at-locks.false) in
    sym (has_lock-end c.args.t c.args.suite c.args.locks.now c.args.at c.requires.rising c.requires.place over)
