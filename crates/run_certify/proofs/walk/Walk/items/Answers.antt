use Rattle.run_certify.proofs.Vocabulary.{[], ◌<◌, Ok, ap, sym, subst, err_from_is_err_and, Mismatch, Goes, Walked}
use Rattle.run_certify.proofs.Going.{item_fails, item_goes, left_in, taken_less, told_on, unmerged_fails}
use Rattle.run_certify.proofs.Walking.{goes_nowhere}
use Rattle.run_certify.proofs.walk.Walk.items.Goals as goal

pub loop-server-init : goal.loop-server-init
loop-server-init c = goes_nowhere c.args.self.now []

pub returns-in_err-server-clause-mismatch : goal.returns-in_err-server-clause-mismatch
returns-in_err-server-clause-mismatch c =
    let p = err_from_is_err_and c.from_residual.result c.from_residual.ensures.1 in
    rw (p.1, p.2) (λ is. unmerged_fails c.args.self.now c.loop-server.self c.loop-server.invariant (c.in_err-server.ensures.mismatch (told_on c.in_err-server.field-0.0 Mismatch is)))

pub returns-in_default-clause-ok : goal.returns-in_default-clause-ok
returns-in_default-clause-ok c = subst (λ (now : Walked). Goes c.args.self.now [] now []) (sym (c.in_ok-server.ensures.same (ap (λ next. Ok next) c.in_default.is))) c.loop-server.invariant

pub loop-server-smaller : goal.loop-server-smaller
loop-server-smaller c =
    subst (λ histories. left_in histories < left_in c.loop-server.self.histories) (sym c.in_ok-item.ensures.histories)
    (taken_less c.loop-server.self.histories c.next_item.new.self.histories c.in-Some.server c.in-Some.item.now (rw c.in-Some.is at c.in_ok-server.ensures.taken).taken)

pub loop-server-preserved : goal.loop-server-preserved
loop-server-preserved c =
    item_goes c.args.self.now c.loop-server.self c.next_item.new.self c.item.new.self c.in-Some.server c.in-Some.item.now c.loop-server.invariant (rw c.in-Some.is at c.in_ok-server.ensures.taken) c.in_ok-item.ensures.ok

pub returns-in_err-item-clause-mismatch : goal.returns-in_err-item-clause-mismatch
returns-in_err-item-clause-mismatch c =
    let p = err_from_is_err_and c.from_residual-in_err-item.result c.from_residual-in_err-item.ensures.1 in
    rw (p.1, p.2)
    (λ is. item_fails c.args.self.now c.loop-server.self c.next_item.new.self c.in-Some.server c.in-Some.item.now c.loop-server.invariant (rw c.in-Some.is at c.in_ok-server.ensures.taken) (c.in_err-item.ensures.mismatch is))
