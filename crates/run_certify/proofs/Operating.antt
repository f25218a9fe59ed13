-- An item of the operator's is played.
use Rattle.run_certify.proofs.Vocabulary.{◌≡◌, ◌⊎◌, ⊎_elim, ℕ, ◌≤◌, true, false, true≢false, [], ◌∷◌, length, refl, ap, ◌∙◌, sym, arith, Option, Some, None, Request, Fixed, fixed_of, Done, Event, Crash, Return, decided, has_sense, Stepped, World}
use Rattle.run_certify.proofs.Vocabulary.{step, Item, counts_after, jobs_after, ItemAt, agent_of, asker, served_as, operated, at_server, Fails, Goes, IsEvent, IsSound, Walked}
use Rattle.rep_core.specs.declared.request.Request.TheVariants as request
use Rattle.run_certify.proofs.Deciding.{decides_nothing}
use Rattle.run_certify.proofs.Facts.{no_crash, no_return}
use Rattle.run_certify.proofs.Events.{event_after}
use Rattle.run_certify.proofs.Lengths as lengths
use Rattle.run_certify.proofs.Walking.{operated_fails, operated_goes, operator_fails}

pub which : (server : ℕ) (asked : Request) (event : Event) → operated server asked ≡ event ∷ [] → (event ≡ Crash server) ⊎ (event ≡ Return server)
which server asked event h3 = search arith

-- it was served, so it has sense
pub operator_sense : (fixed : Fixed) (world : World) (server : ℕ) (asked : Request) (event : Event) (who : Option ℕ) (one : ItemAt) → operated server asked ≡ event ∷ [] → served_as who (step fixed world event).done.served ≡ Some one
    → has_sense fixed world event ≡ true
operator_sense fixed world server asked event who one spells served = search arith

pub nobody_asks : (server : ℕ) (asked : Request) (event : Event) → operated server asked ≡ event ∷ [] → (agent_of event ≡ None) × (asker event ≡ None)
nobody_asks server asked event spells = search arith

pub operate_goes : (was now : Walked) (server : ℕ) (item : Item) (event : Event) (done : Done) → item.agent ≡ None → operated server item.request.value ≡ event ∷ [] → IsEvent was event done now
    → served_as item.agent done.served ≡ Some (at_server server item) → Goes was (at_server server item ∷ []) now []
operate_goes was now server item event done of spells played served =
    let fixed : Fixed = fixed_of was.given in
    let nobody = nobody_asks server item.request.value event spells in
    let by_it : served_as item.agent (step fixed was.world event).done.served ≡ Some (at_server server item) = ap (λ (s : Stepped). served_as item.agent s.done.served) played.is ∙ served in
    let shown = ap (λ who. served_as who (step fixed was.world event).done.served) (nobody.1 ∙ sym of) ∙ by_it in
    operated_goes was now (at_server server item) event of spells nobody.0 (λ _. operator_sense fixed was.world server item.request.value event item.agent (at_server server item) spells by_it) shown
    (silent fixed was.world server item.request.value event spells) (event_after was now event done played jobs counts)
  where
    silent : (fixed : Fixed) (world : World) (server : ℕ) (asked : Request) (event : Event) → operated server asked ≡ event ∷ [] → decided fixed world event ≡ None
    silent fixed world server asked event spells = search (decides_nothing, which, arith)

    jobs : jobs_after was.begun.jobs event ≡ was.begun.jobs
    jobs = ⊎_elim (λ (e : event ≡ Crash server). ap (λ v. jobs_after was.begun.jobs v) e) (λ (e : event ≡ Return server). ap (λ v. jobs_after was.begun.jobs v) e) (which server item.request.value event spells)

    counts : counts_after was.begun.counts event ≡ was.begun.counts
    counts = ⊎_elim (λ (e : event ≡ Crash server). ap (λ v. counts_after was.begun.counts v) e) (λ (e : event ≡ Return server). ap (λ v. counts_after was.begun.counts v) e) (which server item.request.value event spells)

pub operate_otherwise : (was now : Walked) (server : ℕ) (item : Item) (event : Event) (done : Done) → item.agent ≡ None → operated server item.request.value ≡ event ∷ [] → IsEvent was event done now
    → (served_as item.agent done.served ≡ Some (at_server server item) → ⊥) → Fails was (at_server server item ∷ [])
operate_otherwise was now server item event done of spells played other = search arith

-- its number is above those that servers have
pub operator_far : (was : Walked) (server : ℕ) (item : Item) → item.agent ≡ None → 256 ≤ server → Fails was (at_server server item ∷ [])
operator_far was server item of far = by_request item.request.value refl
  where
    past : IsSound was → length was.world.servers ≤ server
    past sound = let e = (lengths.counts was.given was.world was.begun.jobs sound.played).0 in let l = sound.accepted.some_servers.1 in omega arith

    by_request : (asked : Request) → item.request.value ≡ asked → Fails was (at_server server item ∷ [])
    by_request request.Crash e = operated_fails was (at_server server item) (Crash server) of (ap (λ r. operated server r) e) (λ sound sense same. true≢false (sym sense ∙ no_crash (fixed_of was.given) was.world server (past sound)))
    by_request request.Return e = operated_fails was (at_server server item) (Return server) of (ap (λ r. operated server r) e) (λ sound sense same. true≢false (sym sense ∙ no_return (fixed_of was.given) was.world server (past sound)))
    by_request _ e = operator_fails was (at_server server item) of (ap (λ r. operated server r) e)
