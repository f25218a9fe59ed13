-- The fields of `World` as contracts see them.
use Rattle.txn_core.specs.Agents.{fixed_of}
use Rattle.run_core.specs.declared.world.World.TheInside.{Inside}
use Rattle.run_core.specs.Opened.{Opened}
use Rattle.run_core.specs.code.Seats.{AreOf, world_of}

abbrev pub opened_of : Inside → Opened
opened_of fields = record { given = fields.settings; world = world_of fields.servers.items fields.seats.items }

abbrev pub IsOfOneService : Inside → Type 0
IsOfOneService fields = AreOf (fixed_of fields.settings) fields.seats.items
