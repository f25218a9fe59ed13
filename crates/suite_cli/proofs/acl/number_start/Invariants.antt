use Rattle.std.proofs.Common.{◌≡◌, ◌+◌, ◌-◌, ◌≤◌, eqb, not, length, take}
use Rattle.std.specs.List.{suffix_len}
use Rattle.suite_cli.proofs.acl.number_start.Given as goal

abbrev pub invariant-loop-start : goal.invariant-loop-start
invariant-loop-start l = record {
  inside : l.start ≤ length l.text;
  seen : suffix_len (λ (byte : _). not (eqb byte 61)) l.text ≡ (length l.text - l.start) + suffix_len (λ byte. not (eqb byte 61)) (take l.start l.text);
}

abbrev pub decreases-loop-start : goal.decreases-loop-start
decreases-loop-start l = l.start
