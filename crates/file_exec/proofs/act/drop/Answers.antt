use Rattle.file_exec.proofs.Vocabulary.{refl, sym, ap, Names, SetContent}
use Rattle.file_exec.proofs.Holding.{parent_reached}
use Rattle.file_exec.proofs.Steps.{goes, stops, unset, ruled, overruled, same_set, after_set, stopped_set}
use Rattle.file_exec.proofs.act.drop.Goals as goal

pub returns-in_err-parent-clause-answer : goal.returns-in_err-parent-clause-answer
returns-in_err-parent-clause-answer c = ruled _ (sym c.in_ok-name.ensures) (stops _ c.in_err-parent.ensures.parent c.from_residual-in_err-parent.ensures)

pub returns-in_err-number-clause-answer : goal.returns-in_err-number-clause-answer
returns-in_err-number-clause-answer c = ruled _ (sym c.in_ok-name.ensures) (goes _ c.in_ok-parent.ensures.parent (overruled _ (sym c.in_err-number.ensures) c.from_residual-in_err-number.ensures))

pub returns-in_err-refuse_used-clause-answer : goal.returns-in_err-refuse_used-clause-answer
returns-in_err-refuse_used-clause-answer c = ruled _ (sym c.in_ok-name.ensures) (goes _ c.in_ok-parent.ensures.parent (ruled _ (sym c.in_ok-number.ensures) (stops _ c.in_err-refuse_used.ensures c.from_residual-in_err-refuse_used.ensures)))

pub returns-in_err-set-clause-answer : goal.returns-in_err-set-clause-answer
returns-in_err-set-clause-answer c = ruled _ (sym c.in_ok-name.ensures) (goes _ c.in_ok-parent.ensures.parent
    (ruled _ (sym c.in_ok-number.ensures) (goes _ c.in_ok-refuse_used.ensures
    (stopped_set refl (same_set (ap (λ x. SetContent (Names x)) c.in_ok-entries.ensures) c.in_err-set.ensures.set) c.from_residual-in_err-set.ensures))))

pub returns-clause-answer : goal.returns-clause-answer
returns-clause-answer c = ruled _ (sym c.in_ok-name.ensures) (goes _ c.in_ok-parent.ensures.parent
    (ruled _ (sym c.in_ok-number.ensures) (goes _ c.in_ok-refuse_used.ensures
    (after_set (same_set (ap (λ x. SetContent (Names x)) c.in_ok-entries.ensures) c.in_ok-set.ensures.set) (record { told = refl })))))

pub returns-in_err-entries-clause-answer : goal.returns-in_err-entries-clause-answer
returns-in_err-entries-clause-answer c =
    ruled _ (sym c.in_ok-name.ensures) (goes _ c.in_ok-parent.ensures.parent
    (ruled _ (sym c.in_ok-number.ensures)
    (goes _ c.in_ok-refuse_used.ensures (unset (parent_reached c.args.transaction.caller.now c.in_ok-name.folders.now c.in_ok-parent.ensures.parent) refl
    c.from_residual-in_err-entries.ensures))))
