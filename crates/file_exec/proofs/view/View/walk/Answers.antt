use Rattle.file_exec.proofs.Steps.{in_other_words, stops}
use Rattle.file_exec.proofs.Walking.{next_step, leads_on}
use Rattle.file_exec.proofs.view.View.walk.Goals as goal

pub returns-in_err-next-clause-suite : goal.returns-in_err-next-clause-suite
returns-in_err-next-clause-suite c =
    let known = c.args.self.known.now.suites in
    let edits = c.args.self.log.now in
    in_other_words (next_step known edits c.args.caller.now c.args.names.now c.loop-point.point.depth c.loop-point.point.suite c.loop-point.invariant _ c.loop-point-test.true c.index-names-point.is)
    (stops _ c.in_err-next.ensures c.from_residual.ensures)

pub loop-point-preserved : goal.loop-point-preserved
loop-point-preserved c =
    leads_on c.args.self.known.now.suites c.args.self.log.now c.args.caller.now c.args.names.now c.loop-point.point.depth c.loop-point.point.suite c.loop-point.invariant _
    c.in_ok-next.next c.loop-point-test.true c.index-names-point.is c.in_ok-next.ensures.told
