use Rattle.file_exec.proofs.Vocabulary.{◌≡◌, refl, sym, ap, ◌∙◌, Result, Configuration, Why, Service, known_votes}
use Rattle.file_exec.proofs.Steps.{goes, stops, ruled, overruled, after_set, stopped_set}
use Rattle.file_exec.proofs.act.set_votes.Goals as goal

voted : {service service' : Service} (given : Configuration) {votes : Result Configuration Why} → service' ≡ service → votes ≡ known_votes service' given → known_votes service given ≡ votes
voted given same is = ap (λ service. known_votes service given) (sym same) ∙ sym is

pub returns-in_err-votes-clause-answer : goal.returns-in_err-votes-clause-answer
returns-in_err-votes-clause-answer c = overruled _ (voted c.args.given.now c.service-service.ensures c.in_err-votes.ensures) c.from_residual.ensures

pub returns-in_err-place-clause-answer : goal.returns-in_err-place-clause-answer
returns-in_err-place-clause-answer c = ruled _ (voted c.args.given.now c.service-service.ensures c.in_ok-votes.ensures) (stops _ c.in_err-place.ensures.place c.from_residual-in_err-place.ensures)

pub returns-in_err-content_of-clause-answer : goal.returns-in_err-content_of-clause-answer
returns-in_err-content_of-clause-answer c = ruled _ (voted c.args.given.now c.service-service.ensures c.in_ok-votes.ensures)
    (goes _ c.in_ok-place.ensures.place (stops _ c.in_err-content_of.ensures c.from_residual-in_err-content_of.ensures))

pub returns-in_err-set-clause-answer : goal.returns-in_err-set-clause-answer
returns-in_err-set-clause-answer c = ruled _ (voted c.args.given.now c.service-service.ensures c.in_ok-votes.ensures)
    (goes _ c.in_ok-place.ensures.place (goes _ c.in_ok-content_of.ensures (stopped_set refl c.in_err-set.ensures.set c.from_residual-in_err-set.ensures)))

pub returns-clause-answer : goal.returns-clause-answer
returns-clause-answer c = ruled _ (voted c.args.given.now c.service-service.ensures c.in_ok-votes.ensures) (goes _ c.in_ok-place.ensures.place (goes _ c.in_ok-content_of.ensures (after_set c.in_ok-set.ensures.set (record { told = refl }))))
