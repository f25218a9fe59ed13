use Rattle.std.proofs.Common.{◌≡◌, ◌+◌, drop, map}
use Rattle.suite_cli.specs.Names.{names_from}
use Rattle.suite_script.specs.Scripts.{no_names}
use Rattle.suite_cli.proofs.acl.read_names.Given as goal

abbrev pub invariant-loop-word : goal.invariant-loop-word
invariant-loop-word l = record {
  same : names_from l.place l.names (map (λ word. word.now) (drop l.word-index l.words)) ≡ names_from 1 no_names (map (λ word. word.now) l.words);
  place : l.place ≡ l.word-index + 1;
}
