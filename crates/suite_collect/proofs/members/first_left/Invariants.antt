use Rattle.suite_collect.proofs.Vocabulary.{◌≡◌, drop, find, contains, is_left_by}
use Rattle.suite_collect.proofs.members.first_left.Given as goal

abbrev pub invariant-loop-server : goal.invariant-loop-server
invariant-loop-server l =
    find (is_left_by (contains l.holders) (contains l.refused)) (drop l.server-index l.server-items) ≡ find (is_left_by (contains l.holders) (contains l.refused)) l.server-items
