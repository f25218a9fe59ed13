-- The suites that a Prepare adds to those of a server.
use Rattle.std.specs.Prelude.{Bool, ◌&&◌, not, is_some}
use Rattle.std.specs.Ordering.{nat_cmp}
use Rattle.sorted_map.specs.SortedMap.{get}
use Rattle.rep_core.specs.declared.request.Part.{Part}
use Rattle.rep_core.specs.Store.{Store, is_keep, has_copy}

-- whether a part takes a suite of which there is neither a copy nor an intention
abbrev pub takes_new : Store → Part → Bool
takes_new store part = not (is_keep part.take) && not (has_copy store part.suite) && not (is_some (get nat_cmp store.intentions part.suite))
