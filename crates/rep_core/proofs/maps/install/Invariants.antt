use Rattle.rep_core.proofs.Vocabulary.{◌≡◌, ◌-◌, ◌≤◌, true, length, take, drop, not, list_all, Configuration, without_intentions, with_copies, with_forms, Leaves, copies_in, forms_in, intentions_in}
use Rattle.rep_core.proofs.Intentions.{is_of}
use Rattle.rep_core.proofs.maps.install.Given as goal

abbrev pub invariant-loop-place : goal.invariant-loop-place
invariant-loop-place l = record {
  copies : (c0 : Configuration) → with_copies c0 l.t (drop l.place (intentions_in l.intentions.pairs)) (copies_in l.copies.pairs) ≡ with_copies c0 l.t (intentions_in l.initial.intentions.pairs) (copies_in l.initial.copies.pairs);
  forms : with_forms l.t (drop l.place (intentions_in l.intentions.pairs)) (forms_in l.copies.pairs) ≡ with_forms l.t (intentions_in l.initial.intentions.pairs) (forms_in l.initial.copies.pairs);
  others : without_intentions l.t (intentions_in l.intentions.pairs) ≡ without_intentions l.t (intentions_in l.initial.intentions.pairs);
  passed : list_all (λ pair. not (is_of l.t pair)) (take l.place (intentions_in l.intentions.pairs)) ≡ true;
  leaves : Leaves (copies_in l.copies.pairs) l.intentions.pairs;
  within : l.place ≤ length l.intentions.pairs;
  room : length l.intentions.pairs ≤ l.copies.room;
}

abbrev pub decreases-loop-place : goal.decreases-loop-place
decreases-loop-place l = length l.intentions.pairs - l.place
