use Rattle.run_certify.proofs.Vocabulary.{[], sym, subst, ◌∙◌, arith, err_from_is_err_and, AreAllPlayed}
use Rattle.run_certify.proofs.Going.{none_at_all, start_far}
use Rattle.run_certify.proofs.Walking.{fails_further, goes_further}
use Rattle.run_certify.proofs.walk.Walk.rest.Goals as goal

pub loop-agent-init : goal.loop-agent-init
loop-agent-init c = start_far c.args.self.now 0 (λ i low. absurd (omega arith))

pub rest_of-requires-clause-played : goal.rest_of-requires-clause-played
rest_of-requires-clause-played c = subst AreAllPlayed (sym c.loop-agent.invariant.histories) c.requires

pub rest_of-requires-clause-before : goal.rest_of-requires-clause-before
rest_of-requires-clause-before c = c.loop-agent.invariant.before

pub returns-in_err-rest_of-clause-mismatch : goal.returns-in_err-rest_of-clause-mismatch
returns-in_err-rest_of-clause-mismatch c =
    let p = err_from_is_err_and c.from_residual.result c.from_residual.ensures.1 in
    rw (p.1, p.2) (λ is. fails_further c.args.self.now c.loop-agent.self [] [] c.loop-agent.invariant.goes (c.in_err-rest_of.ensures.mismatch is))

pub loop-agent-preserved : goal.loop-agent-preserved
loop-agent-preserved c = record {
  goes = goes_further c.args.self.now c.loop-agent.self c.rest_of.new.self [] [] [] c.loop-agent.invariant.goes c.in_ok-rest_of.ensures.ok;
  histories = c.in_ok-rest_of.ensures.histories ∙ c.loop-agent.invariant.histories;
  before = c.in_ok-rest_of.ensures.used;
  long = c.in_ok-rest_of.ensures.long ∙ c.loop-agent.invariant.long;
}

pub returns-clause-ok : goal.returns-clause-ok
returns-clause-ok c = c.loop-agent.invariant.goes

pub returns-clause-used : goal.returns-clause-used
returns-clause-used c =
    none_at_all c.loop-agent.self.unused c.loop-agent.agent
    (let long = c.loop-agent.invariant.long in let test = c.loop-agent-test.false in let all = c.transcripts-agent-end.ensures in omega (arith, long, test, all))
    c.loop-agent.invariant.before

pub returns-clause-histories : goal.returns-clause-histories
returns-clause-histories c = c.loop-agent.invariant.histories
