use Rattle.file_ops.proofs.Vocabulary.{sym, ap, option_map, ◌∙◌, names_of, text_of}
use Rattle.file_ops.proofs.PathTexts.{read_back, written_back}
use Rattle.file_ops.proofs.path.PathText.new.Goals as goal
use Rattle.file_ops.proofs.path.PathText.new.Goals.{in-Some, in-None+in_ok-from_slice-in-None}

pub invariant_of-result : goal.invariant_of-result
invariant_of-result c = elim c.match-branch-2.branch [
  | in-Some w ↦ rw w.reading-is (read_back c.args.text.now w.in-Some.names.items (sym c.in_ok-names.ensures ∙ ap (option_map (λ names. names.items)) w.in-Some.is))
  | in-None+in_ok-from_slice-in-None w ↦ rw w.reading-is (ap names_of w.in_ok-from_slice-in-None.ensures.items ∙ sym c.in_ok-names.ensures ∙ ap (option_map (λ names. names.items)) w.in-None.is)
]

pub returns : goal.returns
returns c = elim c.match-branch-2.branch [
  | in-Some w ↦ ap text_of w.reading-is ∙ written_back c.args.text.now w.in-Some.names.items (sym c.in_ok-names.ensures ∙ ap (option_map (λ names. names.items)) w.in-Some.is)
  | in-None+in_ok-from_slice-in-None w ↦ ap text_of w.reading-is ∙ w.in_ok-from_slice-in-None.ensures.items
]
