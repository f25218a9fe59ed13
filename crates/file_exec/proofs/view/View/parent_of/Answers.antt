use Rattle.file_exec.proofs.Vocabulary.{◌≡◌, refl, sym, ap, ◌∙◌, Identity, Perms, Object, permit, to_change, seen_place}
use Rattle.file_exec.proofs.Steps.{goes, stops, ruled, overruled}
use Rattle.file_exec.proofs.view.View.parent_of.Goals as goal

wanted : (caller : Identity) (place : Object) {perms : Perms} → perms ≡ to_change → permit caller place to_change ≡ permit caller place perms
wanted caller place is = ap (λ wanted. permit caller place wanted) (sym is)

pub returns-in_err-place-clause-parent : goal.returns-in_err-place-clause-parent
returns-in_err-place-clause-parent c = stops _ c.in_err-place.ensures.place c.from_residual.ensures

pub returns-in_err-require_folder-clause-parent : goal.returns-in_err-require_folder-clause-parent
returns-in_err-require_folder-clause-parent c = goes _ c.in_ok-place.ensures.place (overruled _ (sym c.in_err-require_folder.ensures) c.from_residual-in_err-require_folder.ensures)

pub returns-in_err-permit-clause-parent : goal.returns-in_err-permit-clause-parent
returns-in_err-permit-clause-parent c = goes _ c.in_ok-place.ensures.place
    (ruled _ (sym c.in_ok-require_folder.ensures) (overruled _ (wanted c.args.caller.now (seen_place c.in_ok-place.place) c.to_change.ensures ∙ sym c.in_err-permit.ensures)
    c.from_residual-in_err-permit.ensures))

pub returns-in_err-names-clause-parent : goal.returns-in_err-names-clause-parent
returns-in_err-names-clause-parent c = goes _ c.in_ok-place.ensures.place
    (ruled _ (sym c.in_ok-require_folder.ensures) (ruled _ (wanted c.args.caller.now (seen_place c.in_ok-place.place) c.to_change.ensures ∙ sym c.in_ok-permit.ensures)
    (stops _ c.in_err-names.ensures c.from_residual-in_err-names.ensures)))

pub returns-clause-parent : goal.returns-clause-parent
returns-clause-parent c = goes _ c.in_ok-place.ensures.place (ruled _ (sym c.in_ok-require_folder.ensures)
    (ruled _ (wanted c.args.caller.now (seen_place c.in_ok-place.place) c.to_change.ensures ∙ sym c.in_ok-permit.ensures) (goes _ c.in_ok-names.ensures (record { told = refl }))))
