use Rattle.file_exec.proofs.Vocabulary.{◌≡◌, refl, sym, ap, ◌∙◌, Bool, Result, is_some, Lists, Kind, Why, is_misplaced, refuse_if, SetAcl}
use Rattle.file_ops.specs.declared.refusal.Why.TheVariants as why
use Rattle.file_exec.proofs.Holding.{owns}
use Rattle.file_exec.proofs.Steps.{goes, stops, ruled, overruled, unset, same_set, after_set, stopped_set}
use Rattle.file_exec.proofs.act.set_acl.Goals as goal

placed : (kind : Kind) (acl : Lists) {given : Bool} {result : Result (Unit {0}) Why} → given ≡ is_some acl.default → result ≡ refuse_if (is_misplaced kind given) why.DefaultOnFile
    → refuse_if (is_misplaced kind (is_some acl.default)) why.DefaultOnFile ≡ result
placed kind acl same is = ap (λ given. refuse_if (is_misplaced kind given) why.DefaultOnFile) (sym same) ∙ sym is

pub returns-in_err-place-clause-answer : goal.returns-in_err-place-clause-answer
returns-in_err-place-clause-answer c = stops _ c.in_err-place.ensures.place c.from_residual.ensures

pub returns-in_err-require_placed-clause-answer : goal.returns-in_err-require_placed-clause-answer
returns-in_err-require_placed-clause-answer c = goes _ c.in_ok-place.ensures.place (overruled _ (placed _ c.args.acl.now c.is_some.ensures c.in_err-require_placed.ensures) c.from_residual-in_err-require_placed.ensures)

pub returns-in_err-acl-clause-answer : goal.returns-in_err-acl-clause-answer
returns-in_err-acl-clause-answer c =
    goes _ c.in_ok-place.ensures.place (ruled _ (placed _ c.args.acl.now c.is_some.ensures c.in_ok-require_placed.ensures)
    (unset (owns c.args.transaction.caller.now c.args.names.now c.in_ok-place.ensures.place) refl c.from_residual-in_err-acl.ensures))

pub returns-in_err-set-clause-answer : goal.returns-in_err-set-clause-answer
returns-in_err-set-clause-answer c =
    let copied : c.in_ok-acl.acl ≡ c.args.acl.now = c.in_ok-acl.ensures.cases in
    goes _ c.in_ok-place.ensures.place (ruled _ (placed _ c.args.acl.now c.is_some.ensures c.in_ok-require_placed.ensures)
    (stopped_set refl (same_set (ap (λ x. SetAcl x) copied) c.in_err-set.ensures.set) c.from_residual-in_err-set.ensures))

pub returns-clause-answer : goal.returns-clause-answer
returns-clause-answer c =
    let copied : c.in_ok-acl.acl ≡ c.args.acl.now = c.in_ok-acl.ensures.cases in
    goes _ c.in_ok-place.ensures.place (ruled _ (placed _ c.args.acl.now c.is_some.ensures c.in_ok-require_placed.ensures) (after_set (same_set (ap (λ x. SetAcl x) copied) c.in_ok-set.ensures.set) (record { told = refl })))
