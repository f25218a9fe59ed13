use Rattle.std.proofs.Common.{◌≡◌, ◌++◌, map}
use Rattle.event_json.specs.Entries.{kept_in, kept_of}
use Rattle.event_json.proofs.entries.kept_in.Given as goal

abbrev pub invariant-loop-site : goal.invariant-loop-site
invariant-loop-site l = l.all.items ++ map (kept_of l.cache.entries) l.site-iterator ≡ kept_in l.cache.entries
