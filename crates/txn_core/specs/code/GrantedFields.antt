-- The fields of `Granted` as contracts see them.
use Rattle.txn_core.specs.declared.granted.Granted.TheInside.{Inside}
use Rattle.txn_core.specs.Doing.{Granted}

abbrev pub granted_of : Inside → Granted
granted_of fields = record { answers = fields.answers; changes = fields.changes }
