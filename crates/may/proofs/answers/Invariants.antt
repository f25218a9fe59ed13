use Rattle.std.proofs.Common.{◌≡◌, ◌≤◌, ◌+◌, ◌^◌, length}
use Rattle.may.specs.Answers.{answers_from, output_of}
use Rattle.may.proofs.answers.Given as goal

abbrev pub invariant-loop-line : goal.invariant-loop-line
invariant-loop-line l = record {
  room : l.number + length l.line-iterator ≤ 2 ^ 60;
  answered : answers_from l.number l.text.items l.line-iterator ≡ output_of l.input;
}
