-- What a server holds, as contracts see it.
use Rattle.rep_core.specs.declared.server.Server.TheInside.{Inside}
use Rattle.rep_core.specs.State.{State}

abbrev pub state_of : Inside → State
state_of fields = record {
  store = fields.store.store;
  locks = fields.locks.locks;
  verdicts = fields.verdicts.pairs;
  audit = fields.audit.items;
  stamp = fields.stamp;
  up = fields.up;
}
