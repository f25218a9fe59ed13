-- The run of a world, as the walk speaks of it.
use Rattle.run_certify.proofs.Vocabulary.{Bool, List, Option, Fixed, Event, World, step, Decided, AgentEntry, ItemAt, has_sense, asker, entries_by, served_as}
use Rattle.run_core.specs.Decisions as decisions

module _ (fixed : Fixed) where
  abbrev pub next : World → Event → World
  next w event = (step fixed w event).world

  abbrev pub sense : World → Event → Bool
  sense w event = has_sense fixed w event

  abbrev pub serves : World → Event → Option ItemAt
  serves w event = served_as (asker event) (step fixed w event).done.served

  abbrev pub puts : World → Event → List AgentEntry
  puts w event = entries_by fixed w event (step fixed w event).done

  abbrev pub decides : World → Event → Option Decided
  decides w event = decisions.decided fixed w event
