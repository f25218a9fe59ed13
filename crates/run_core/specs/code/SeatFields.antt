-- The fields of `WorldAgent` as contracts see them.
use Rattle.run_core.specs.declared.seat.WorldAgent.TheInside.{Inside}
use Rattle.run_core.specs.code.Seats.{Seated}

abbrev pub seated_of : Inside → Seated
seated_of fields = record {
  fixed = fields.agent.fixed;
  actor = record { agent = fields.agent.state; stamp = fields.stamp; steps = fields.steps };
}
