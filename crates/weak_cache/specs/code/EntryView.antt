-- The fields of an entry as contracts see them.
use Rattle.weak_cache.specs.declared.entry.SizedEntry.TheInside.{Inside}
use Rattle.weak_cache.specs.Entries.{Entry}

abbrev pub entry_in : Inside → Entry
entry_in fields = record { site = fields.site; suite = fields.suite; prefix = fields.prefix; dver = fields.dver; content = fields.content }
