use Rattle.file_exec.proofs.Vocabulary.{◌≡◌, refl, sym, ap, ◌∙◌, Bool, Result, Option, Identity, Configuration, Kind, Init, Why, Service, votes_of_new, gives_default, is_misplaced, refuse_if, Give}
use Rattle.file_ops.specs.declared.answer.Answer.TheVariants as answer
use Rattle.file_ops.specs.declared.refusal.Why.TheVariants as why
use Rattle.file_exec.proofs.Holding.{parent_reached, looked_at}
use Rattle.file_exec.proofs.Steps.{goes, stops, stops_last, unset_both, ruled, overruled, same_both}
use Rattle.file_exec.proofs.act.make.Goals as goal

voted : {service service' : Service} (given : Option Configuration) {votes : Result Configuration Why} → service' ≡ service → votes ≡ votes_of_new service' given → votes_of_new service given ≡ votes
voted given same is = ap (λ service. votes_of_new service given) (sym same) ∙ sym is

placed : (kind : Kind) (init : Init) {given : Bool} {result : Result (Unit {0}) Why} → given ≡ gives_default init → result ≡ refuse_if (is_misplaced kind given) why.DefaultOnFile
    → refuse_if (is_misplaced kind (gives_default init)) why.DefaultOnFile ≡ result
placed kind init same is = ap (λ given. refuse_if (is_misplaced kind given) why.DefaultOnFile) (sym same) ∙ sym is

pub returns-in_err-votes-clause-answer : goal.returns-in_err-votes-clause-answer
returns-in_err-votes-clause-answer c = ruled _ (sym c.in_ok-name.ensures) (overruled _ (voted c.args.new.given.now c.service.ensures c.in_err-votes.ensures) c.from_residual-in_err-votes.ensures)

pub returns-in_err-require_placed-clause-answer : goal.returns-in_err-require_placed-clause-answer
returns-in_err-require_placed-clause-answer c = ruled _ (sym c.in_ok-name.ensures)
    (ruled _ (voted c.args.new.given.now c.service.ensures c.in_ok-votes.ensures)
    (overruled _ (placed c.args.new.kind c.args.new.init.now c.gives_default.ensures c.in_err-require_placed.ensures) c.from_residual-in_err-require_placed.ensures))

pub returns-in_err-parent-clause-answer : goal.returns-in_err-parent-clause-answer
returns-in_err-parent-clause-answer c = ruled _ (sym c.in_ok-name.ensures)
    (ruled _ (voted c.args.new.given.now c.service.ensures c.in_ok-votes.ensures)
    (ruled _ (placed c.args.new.kind c.args.new.init.now c.gives_default.ensures c.in_ok-require_placed.ensures)
    (stops _ c.in_err-parent.ensures.parent c.from_residual-in_err-parent.ensures)))

pub returns-in_err-require_absent-clause-answer : goal.returns-in_err-require_absent-clause-answer
returns-in_err-require_absent-clause-answer c = ruled _ (sym c.in_ok-name.ensures)
    (ruled _ (voted c.args.new.given.now c.service.ensures c.in_ok-votes.ensures)
    (ruled _ (placed c.args.new.kind c.args.new.init.now c.gives_default.ensures c.in_ok-require_placed.ensures)
    (goes _ c.in_ok-parent.ensures.parent (overruled _ (sym c.in_err-require_absent.ensures) c.from_residual-in_err-require_absent.ensures))))

pub returns-in_err-require_room-clause-answer : goal.returns-in_err-require_room-clause-answer
returns-in_err-require_room-clause-answer c = ruled _ (sym c.in_ok-name.ensures)
    (ruled _ (voted c.args.new.given.now c.service.ensures c.in_ok-votes.ensures)
    (ruled _ (placed c.args.new.kind c.args.new.init.now c.gives_default.ensures c.in_ok-require_placed.ensures)
    (goes _ c.in_ok-parent.ensures.parent (ruled _ (sym c.in_ok-require_absent.ensures)
    (overruled _ (sym c.in_err-require_room.ensures) c.from_residual-in_err-require_room.ensures)))))

pub returns-in_err-look-clause-answer : goal.returns-in_err-look-clause-answer
returns-in_err-look-clause-answer c = ruled _ (sym c.in_ok-name.ensures) (ruled _ (voted c.args.new.given.now c.service.ensures c.in_ok-votes.ensures)
    (ruled _ (placed c.args.new.kind c.args.new.init.now c.gives_default.ensures c.in_ok-require_placed.ensures)
    (goes _ c.in_ok-parent.ensures.parent (ruled _ (sym c.in_ok-require_absent.ensures)
    (ruled _ (sym c.in_ok-require_room.ensures) (stops _ c.in_err-look.ensures.row c.from_residual-in_err-look.ensures))))))

pub returns-in_err-named-clause-answer : goal.returns-in_err-named-clause-answer
returns-in_err-named-clause-answer c = ruled _ (sym c.in_ok-name.ensures)
    (ruled _ (voted c.args.new.given.now c.service.ensures c.in_ok-votes.ensures)
    (ruled _ (placed c.args.new.kind c.args.new.init.now c.gives_default.ensures c.in_ok-require_placed.ensures)
    (goes _ c.in_ok-parent.ensures.parent (ruled _ (sym c.in_ok-require_absent.ensures)
    (ruled _ (sym c.in_ok-require_room.ensures)
    (goes _ c.in_ok-look.ensures.row (unset_both (parent_reached c.args.transaction.caller.now c.in_ok-name.folders.now c.in_ok-parent.ensures.parent)
    (looked_at c.in_ok-look.ensures.row) refl c.from_residual-in_err-named.ensures)))))))

pub returns-in_err-set_both-clause-answer : goal.returns-in_err-set_both-clause-answer
returns-in_err-set_both-clause-answer c = ruled _ (sym c.in_ok-name.ensures)
    (ruled _ (voted c.args.new.given.now c.service.ensures c.in_ok-votes.ensures)
    (ruled _ (placed c.args.new.kind c.args.new.init.now c.gives_default.ensures c.in_ok-require_placed.ensures)
    (goes _ c.in_ok-parent.ensures.parent (ruled _ (sym c.in_ok-require_absent.ensures)
    (ruled _ (sym c.in_ok-require_room.ensures)
    (goes _ c.in_ok-look.ensures.row (stops_last (λ _. answer.Made c.args.new.number)
    (same_both c.in_ok-named.ensures.named c.in_ok-named.ensures.made c.in_err-set_both.ensures.set) c.from_residual-in_err-set_both.ensures)))))))

pub returns-clause-answer : goal.returns-clause-answer
returns-clause-answer c = ruled _ (sym c.in_ok-name.ensures) (ruled _ (voted c.args.new.given.now c.service.ensures c.in_ok-votes.ensures)
    (ruled _ (placed c.args.new.kind c.args.new.init.now c.gives_default.ensures c.in_ok-require_placed.ensures)
    (goes _ c.in_ok-parent.ensures.parent (ruled _ (sym c.in_ok-require_absent.ensures)
    (ruled _ (sym c.in_ok-require_room.ensures)
    (goes _ c.in_ok-look.ensures.row (goes (λ _. Give (answer.Made c.args.new.number))
    (same_both c.in_ok-named.ensures.named c.in_ok-named.ensures.made c.in_ok-set_both.ensures.set) (record { told = refl }))))))))
