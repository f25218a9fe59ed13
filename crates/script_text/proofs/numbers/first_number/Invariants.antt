use Rattle.script_text.proofs.Vocabulary.{◌≡◌, ◌≤◌, ◌-◌, ℕ, drop, map, eqb, length, slice_split, number_up_to}
use Rattle.script_text.proofs.Fronts.{numbers_from}
use Rattle.script_text.proofs.numbers.first_number.Given as goal

abbrev pub invariant-loop-end : goal.invariant-loop-end
invariant-loop-end l = record {
  within : l.end ≤ length l.word;
  none : l.end ≡ 0 → l.value ≡ 0;
  read : numbers_from l.end l.value l.limit (slice_split (λ (b : ℕ). eqb b l.separator) (drop l.end l.word)) ≡ map (number_up_to l.limit) (slice_split (λ (b : ℕ). eqb b l.separator) l.word);
}

abbrev pub decreases-loop-end : goal.decreases-loop-end
decreases-loop-end l = length l.word - l.end
