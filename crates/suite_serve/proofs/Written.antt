-- Text that was gathered, and is written at last.
use Rattle.suite_serve.proofs.Vocabulary.{◌∙◌, ℕ, List, [], ◌++◌, Option, Adds, adds_both, WroteSoFar}
use Rattle.std.proofs.Common.{append-nil}

pub wrote_then : (told now after : Option (List ℕ)) (whole gathered : List ℕ) → WroteSoFar told whole gathered now → Adds now gathered after → WroteSoFar told whole [] after
wrote_then told now after whole gathered so added = record {
  front = so.front ++ gathered;
  cut = append-nil (so.front ++ gathered) ∙ so.cut;
  added = adds_both told now after so.front gathered so.added added;
}
