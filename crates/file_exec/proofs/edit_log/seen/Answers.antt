use Rattle.file_exec.proofs.Vocabulary.{◌||◌, Bool, false, sym, ◌∙◌, subst, is_set}
use Rattle.file_exec.specs.code.Overlay.{seen_row, IsWholeIf}
use Rattle.std.specs.Option.{option_map}
use Rattle.file_exec.proofs.Leading.{untouched, untouched_unset}
use Rattle.file_exec.proofs.edit_log.seen.Goals as goal

pub returns-else-touches-clause-row : goal.returns-else-touches-clause-row
returns-else-touches-clause-row c = sym (untouched c.args.edits.now c.args.suite (option_map seen_row c.args.row) (sym c.touches.ensures ∙ c.if-touches.false))

pub returns-else-touches-clause-whole : goal.returns-else-touches-clause-whole
returns-else-touches-clause-whole c = λ opened whole.
    subst (λ (set : Bool). IsWholeIf (set || opened) c.args.row) (sym (untouched_unset c.args.edits.now c.args.suite (sym c.touches.ensures ∙ c.if-touches.false))) whole
