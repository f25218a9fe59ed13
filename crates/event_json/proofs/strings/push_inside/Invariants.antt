use Rattle.std.proofs.Common.{◌≡◌, ◌++◌, drop}
use Rattle.std.specs.List.{flat_map}
use Rattle.event_json.specs.Strings.{byte_text}
use Rattle.event_json.proofs.strings.push_inside.Given as goal

abbrev pub invariant-loop-byte : goal.invariant-loop-byte
invariant-loop-byte l =
    l.text.items ++ flat_map byte_text (drop l.byte-index l.bytes)
    ≡ l.fn.text.items ++ flat_map byte_text l.bytes
