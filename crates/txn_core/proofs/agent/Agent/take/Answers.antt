use Rattle.txn_core.proofs.Vocabulary.{rules, refl, ending_of}
use Rattle.txn_core.specs.Standing.{response_of}
use Rattle.txn_core.proofs.ResponseTaken.{Came, run_replied, run_lacked, sweep_replied, sweep_lacked, idle_told, ended_stands}
use Rattle.txn_core.proofs.agent.Agent.take.Goals as goal
use Rattle.txn_core.proofs.agent.Agent.take.Goals.{in-Some-Running+in-Ok+in_ok-flow-in-Ok, in-Some-Running+in-Err, in-Some-RunningSweep+in-Ok-came+in_ok-flow-in-Ok-came, in-Some-RunningSweep+in-Err-came, in-None}

on : (c : goal.In_default) → Came c.args.self.now (response_of c.args.came) (ending_of c.match-self.flow) c.match-self.self-inside
on c =
    elim c.match-self.branch [
      | in-Some-Running+in-Ok+in_ok-flow-in-Ok w ↦ run_replied c.self.view_is c.self.invariant w.flow-is w.in-Ok.is w.in-Some-Running.is w.in-Some-Running.field-0-is w.in_ok-flow-in-Ok.ensures.ok w.self-inside-is
      | in-Some-Running+in-Err w ↦ run_lacked c.self.view_is c.self.invariant w.flow-is w.in-Err.is w.in-Some-Running.is w.in-Some-Running.field-0-is w.on_lack.ensures.steps w.on_lack.ensures.resources w.self-inside-is
      | in-Some-RunningSweep+in-Ok-came+in_ok-flow-in-Ok-came w ↦
          sweep_replied c.self.view_is c.self.invariant w.flow-is w.in-Ok-came.is w.in-Some-RunningSweep.is w.in-Some-RunningSweep.field-0-is w.in_ok-flow-in-Ok-came.ensures.ok w.self-inside-is
      | in-Some-RunningSweep+in-Err-came w ↦ sweep_lacked c.self.view_is c.self.invariant w.flow-is w.in-Err-came.is w.in-Some-RunningSweep.is w.in-Some-RunningSweep.field-0-is w.on_lack-in-Err-came.ensures w.self-inside-is
      | in-None w ↦ idle_told c.self.view_is c.self.invariant w.flow-is c.args.came w.in-None.is refl w.self-inside-is
    ]

pub returns-in_default-clause-ok : goal.returns-in_default-clause-ok
returns-in_default-clause-ok c = let came = on c in search rules

pub returns-in_default-clause-new : goal.returns-in_default-clause-new
returns-in_default-clause-new c = let came = on c in search rules

ended : (c : goal.After-begin_anew) → Came c.args.self.now (response_of c.args.came) (ending_of c.match-self.flow) c.match-self.self-inside
ended c =
    elim c.match-self.branch [
      | in-Some-Running+in-Ok+in_ok-flow-in-Ok w ↦ run_replied c.self.view_is c.self.invariant w.flow-is w.in-Ok.is w.in-Some-Running.is w.in-Some-Running.field-0-is w.in_ok-flow-in-Ok.ensures.ok w.self-inside-is
      | in-Some-Running+in-Err w ↦ run_lacked c.self.view_is c.self.invariant w.flow-is w.in-Err.is w.in-Some-Running.is w.in-Some-Running.field-0-is w.on_lack.ensures.steps w.on_lack.ensures.resources w.self-inside-is
      | in-Some-RunningSweep+in-Ok-came+in_ok-flow-in-Ok-came w ↦
          sweep_replied c.self.view_is c.self.invariant w.flow-is w.in-Ok-came.is w.in-Some-RunningSweep.is w.in-Some-RunningSweep.field-0-is w.in_ok-flow-in-Ok-came.ensures.ok w.self-inside-is
      | in-Some-RunningSweep+in-Err-came w ↦ sweep_lacked c.self.view_is c.self.invariant w.flow-is w.in-Err-came.is w.in-Some-RunningSweep.is w.in-Some-RunningSweep.field-0-is w.on_lack-in-Err-came.ensures w.self-inside-is
      | in-None w ↦ idle_told c.self.view_is c.self.invariant w.flow-is c.args.came w.in-None.is refl w.self-inside-is
    ]

pub invariant_of-self-in-Ended : goal.invariant_of-self-in-Ended
invariant_of-self-in-Ended c = ended_stands _ _ _ _ _ (ended c) c.begin_anew.ensures

pub returns-in-Ended-clause-ok : goal.returns-in-Ended-clause-ok
returns-in-Ended-clause-ok c = let came = ended c in search rules

pub returns-in-Ended-clause-new : goal.returns-in-Ended-clause-new
returns-in-Ended-clause-new c = let came = ended c in search rules
