use Rattle.run_core.proofs.Vocabulary.{◌≡◌, take, fixed_of, after, dones, outcomes}
use Rattle.run_core.proofs.world.World.play.Given as goal

abbrev pub invariant-loop-event : goal.invariant-loop-event
invariant-loop-event l = record {
  given : l.self.given ≡ l.fn.self.given;
  played : l.played ≡ l.event-index;
  world : l.self.world ≡ after (fixed_of l.fn.self.given) l.fn.self.world (take l.event-index l.events);
  outcomes : l.outcomes.items ≡ outcomes (dones (fixed_of l.fn.self.given) l.fn.self.world (take l.event-index l.events));
}
