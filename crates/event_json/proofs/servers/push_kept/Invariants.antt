use Rattle.std.proofs.Common.{◌≡◌, ◌++◌, [], drop}
use Rattle.event_json.specs.code.Owning.{parted_by}
use Rattle.event_json.proofs.servers.push_kept.Given as goal

abbrev pub invariant-loop-own : goal.invariant-loop-own
invariant-loop-own l =
    l.text.items ++ parted_by l.between (drop l.own-index l.copies)
    ≡ l.fn.text.items ++ parted_by [] l.copies
