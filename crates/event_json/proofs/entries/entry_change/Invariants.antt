use Rattle.std.proofs.Common.{take}
use Rattle.event_json.proofs.Changing.{IsEnding}
use Rattle.event_json.proofs.entries.entry_change.Given as goal

abbrev pub invariant-loop-kept : goal.invariant-loop-kept
invariant-loop-kept l = IsEnding (take l.kept-index l.old) l.new l.came l.gone.items
