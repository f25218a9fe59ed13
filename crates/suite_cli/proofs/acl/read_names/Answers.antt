use Rattle.std.proofs.Common.{◌∙◌, sym, [], arith}
use Rattle.suite_cli.proofs.NameWords.{goes_on, stops_at}
use Rattle.suite_cli.proofs.acl.read_names.Goals as goal

pub returns-then-not-branch : goal.returns-then-not-branch
returns-then-not-branch c =
    sym c.loop-word.invariant.same
    ∙ stops_at c.loop-word.place c.loop-word.names c.add_name.new.names c.args.words.now c.loop-word.word-index (record { ref_ptr = (0, 0); now = [] }) c.in_ok-add_name.field-0 c.loop-word-test.true
    (rw c.as_bytes.ensures.value at c.in_ok-add_name.ensures) c.if-not-branch.true

pub loop-word-preserved : goal.loop-word-preserved
loop-word-preserved c = record {
  same =
      sym (goes_on c.loop-word.place c.loop-word.names c.add_name.new.names c.args.words.now c.loop-word.word-index (record { ref_ptr = (0, 0); now = [] }) c.in_ok-add_name.field-0 c.loop-word-test.true
      (rw c.as_bytes.ensures.value at c.in_ok-add_name.ensures) c.if-not-branch.false)
      ∙ c.loop-word.invariant.same;
  place = let place = c.loop-word.invariant.place in omega (arith, place);
}
