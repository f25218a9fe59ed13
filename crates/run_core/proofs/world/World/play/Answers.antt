use Rattle.run_core.proofs.Vocabulary.{◌<◌, length, refl, ◌∙◌, arith}
use Rattle.run_core.proofs.Exchanging.{or_nothing}
use Rattle.run_core.proofs.Playing.{world_played, outcomes_played}
use Rattle.run_core.proofs.Wanting.{stops_before, stops_behind}
use Rattle.run_core.proofs.world.World.play.Goals as goal

pub loop-event-preserved : goal.loop-event-preserved
loop-event-preserved c =
    let so_far = c.loop-event.invariant in
    let stepped = c.in-Ok.ensures in
    let kept = c.in-Ok-keep.ensures.ok in
    let within : c.loop-event.event-index < length c.args.events.now = omega arith in
    record {
      given = stepped.given ∙ so_far.given;
      played = omega arith;
      world = world_played c.args.self.now.given c.loop-event.self.given c.args.self.now.world c.loop-event.self.world c.advance.new.self.world c.args.events.now c.loop-event.event-index c.loop-event.event-index c.event-item.result
          within so_far.given refl so_far.world c.event-item.is stepped.ok.world_is;
      outcomes = outcomes_played c.args.self.now.given c.loop-event.self.given c.args.self.now.world c.loop-event.self.world c.args.events.now c.loop-event.event-index
          c.event-item.result c.advance.new.ended c.loop-event.outcomes.items c.keep.new.outcomes.items
          within so_far.given so_far.world c.event-item.is (stepped.ok.told.ended_is ∙ or_nothing _) so_far.outcomes kept;
    }

pub returns-in_default-keep-clause-stopped : goal.returns-in_default-keep-clause-stopped
returns-in_default-keep-clause-stopped c =
    let so_far = c.loop-event.invariant in
    let stepped = c.in-Ok.ensures in
    let within : c.loop-event.event-index < length c.args.events.now = omega arith in
    world_played c.args.self.now.given c.loop-event.self.given c.args.self.now.world c.loop-event.self.world c.advance.new.self.world c.args.events.now c.loop-event.event-index c.loop-event.played c.event-item.result
    within so_far.given so_far.played so_far.world c.event-item.is stepped.ok.world_is

pub returns-in_default-clause-memory : goal.returns-in_default-clause-memory
returns-in_default-clause-memory c =
    let so_far = c.loop-event.invariant in
    let within : c.loop-event.event-index < length c.args.events.now = omega arith in
    stops_before c.args.self.now.given c.loop-event.self.given c.args.self.now.world c.loop-event.self.world c.args.events.now c.loop-event.event-index c.loop-event.played c.event-item.result
    within so_far.given so_far.played so_far.world c.event-item.is c.in_default.ensures.memory

pub returns-in_default-keep-clause-memory : goal.returns-in_default-keep-clause-memory
returns-in_default-keep-clause-memory c =
    let so_far = c.loop-event.invariant in
    let within : c.loop-event.event-index < length c.args.events.now = omega arith in
    stops_behind c.args.self.now.given c.loop-event.self.given c.args.self.now.world c.loop-event.self.world c.args.events.now c.loop-event.event-index c.loop-event.played c.event-item.result c.advance.new.ended
    within so_far.given so_far.played so_far.world c.event-item.is (c.in-Ok.ensures.ok.told.ended_is ∙ or_nothing _) c.in_default-keep.ensures.memory
