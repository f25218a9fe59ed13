use Rattle.rep_core.proofs.Vocabulary.{◌≡◌, ◌<◌, ℕ, length, pairs_at}
use Rattle.rep_core.proofs.verdicts.copied_each.Given as goal

abbrev pub invariant-loop-own : goal.invariant-loop-own
invariant-loop-own l = record {
  len : length l.copies.items ≡ l.own-index;
  same : (k : ℕ) → k < l.own-index → pairs_at l.copies.items k ≡ pairs_at l.maps k;
}
