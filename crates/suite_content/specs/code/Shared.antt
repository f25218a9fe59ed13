-- What is held behind a shared pointer, where there is one.
use Rattle.std.specs.Prelude.{ℕ, List, [], Option, Some, None}
use Rattle.std.specs.declared.sync.Arc.{Arc}
use Rattle.std.specs.declared.sync.ArcSlice.{ArcSlice}
use Rattle.sorted_map.specs.Roomy.{Roomy}
use Rattle.std.specs.Arc.{arc_value, arc_slice_items}

abbrev pub bytes_of : {Z : Type 0} → Option (ArcSlice ℕ Z) → List ℕ
bytes_of None = []
bytes_of (Some shared) = arc_slice_items shared

abbrev pub names_of : {Z : Type 0} → Option (Arc (Roomy (List ℕ) ℕ) Z) → List (List ℕ × ℕ)
names_of None = []
names_of (Some shared) = (arc_value shared).pairs
