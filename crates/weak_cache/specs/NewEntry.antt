-- An entry that may be put, as the cache would keep it.
use Rattle.weak_cache.specs.declared.cache.NewEntry.{NewEntry}
use Rattle.weak_cache.specs.Entries.{Entry}

abbrev pub new_entry : NewEntry → Entry
new_entry new = record { site = new.site; suite = new.suite; prefix = new.prefix.now; dver = new.dver; content = new.content.now }
