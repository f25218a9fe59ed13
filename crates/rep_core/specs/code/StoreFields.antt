-- The fields of a `Store` as contracts see them.
use Rattle.std.specs.Prelude.{◌-◌, min, length}
use Rattle.rep_core.specs.declared.store.Store.TheInside.{Inside}
use Rattle.rep_core.specs.Store.{Store}
use Rattle.rep_core.specs.code.Holding.{Storing}
use Rattle.rep_core.specs.code.Planning.{copies_in, forms_in, intentions_in}

abbrev pub store_of : Inside → Store
store_of fields = record {
  c0 = fields.absent.votes;
  copies = copies_in fields.copies.pairs;
  forms = forms_in fields.copies.pairs;
  intentions = intentions_in fields.intentions.pairs;
}

-- room for intentions, and beside what is kept for the intentions there are, room for their copies
abbrev pub storing_of : Inside → Storing
storing_of fields = record { store = store_of fields; room = min fields.intentions.room (fields.copies.room - length fields.intentions.pairs) }
