use Rattle.run_certify.proofs.Vocabulary.{◌≡◌, ◌+◌, ◌<◌, take, parts_in}
use Rattle.run_certify.proofs.fulls.can_be_full.Given as goal

abbrev pub invariant-loop-item : goal.invariant-loop-item
invariant-loop-item l = record {
  asked : l.left + parts_in (take l.item-index l.items) ≡ 3840;
  some : 0 < l.left;
}
