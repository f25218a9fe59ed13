use Rattle.std.proofs.Common.{◌≡◌}
use Rattle.run_core.specs.declared.event.Event.TheVariants as event
use Rattle.suite_play.proofs.Ended.{SoFar}
use Rattle.suite_play.proofs.player.push_steps.Given as goal

-- so many steps were played, and the event is a step of this agent
abbrev pub invariant-loop-left : goal.invariant-loop-left
invariant-loop-left l = record {
  played : SoFar l.fn.world l.agent l.count l.world l.left l.ended;
  event : l.event ≡ event.Step l.agent;
}

abbrev pub decreases-loop-left : goal.decreases-loop-left
decreases-loop-left l = l.left
