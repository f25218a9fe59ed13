use Rattle.std.proofs.Common.{◌≡◌, ◌++◌, [], drop}
use Rattle.std.specs.List.{filter_map}
use Rattle.event_json.specs.code.Owning.{kept_by, parted_by}
use Rattle.event_json.proofs.servers.push_kept_by.Given as goal

abbrev pub invariant-loop-lock : goal.invariant-loop-lock
invariant-loop-lock l =
    l.text.items ++ parted_by l.between (filter_map (kept_by l.t l.copies) (drop l.lock-index l.locks))
    ≡ l.fn.text.items ++ parted_by [] (filter_map (kept_by l.t l.copies) l.locks)
