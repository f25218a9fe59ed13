-- The laws of all runs, from what every event keeps.
use Rattle.law_runs.proofs.Vocabulary.{◌≡◌, ℕ, zero, suc, ◌+◌, ◌<◌, false, List, [], ◌∷◌, ◌++◌, Option, Some, None, refl, sym, ap, subst, ◌∙◌, arith, ◌*◌, ◌%◌, slice_get, Contains, Ok, Err, nat_tests, none-some, same_Some, Opening, IsAccepted, State}
use Rattle.law_runs.proofs.Vocabulary.{Verdict, Has, has_from, contains_from, Ending, Answered, Refused, Swept, Undecided, home_of, Agent, fixed_of, Event, EndedJob, Actor, World, opening, servers_from, actors_from, server_at, after, dones, outcomes}
use Rattle.law_runs.proofs.Vocabulary.{run, Decided, decisions, decisions_from, dones-append, outcomes-append, decisions_from-append, ended, IsDecidedAs, DecidedOnce, record_by, DecisionsAreTheRecords, denials_at, AuditIsTheDenials, AnsweredBefore}
use Rattle.law_runs.specs.Numbers.{number_of, was_begun}
use Rattle.law_runs.specs.Claims.{verdict_of}
use Rattle.rep_core.specs.declared.reply.Verdict.TheVariants as verdict
use Rattle.txn_core.specs.Agents as agent
use Rattle.law_runs.proofs.Standing.{Answer', In, NotIn, Recorded, append_has_left, verdict_as}
use Rattle.law_runs.proofs.Agents.{EndStands, AreAt}
use Rattle.law_runs.proofs.Worlds.{agent_of, agent_at, Holds, run_holds}
use Rattle.law_runs.proofs.Order.{stands_first, same_decision, apart_distinct}

-- ---- the opening

fresh_servers : (given : Opening) (start count s : ℕ) (st : State) → slice_get (servers_from given start count) s ≡ Some st → (st.verdicts ≡ []) × (st.audit ≡ [])
fresh_servers given start zero s st is = absurd (none-some st is)
fresh_servers given start (suc count) zero st is = search (same_Some, arith)
fresh_servers given start (suc count) (suc s) st is = fresh_servers given (start + 1) count s st is

fresh_actors : (start count i : ℕ) (actor : Actor) → slice_get (actors_from start count) i ≡ Some actor → (actor.agent ≡ agent.opening (start + i)) × (i < count)
fresh_actors start zero i actor is = absurd (none-some actor is)
fresh_actors start (suc count) zero actor is = search (same_Some, arith)
fresh_actors start (suc count) (suc i) actor is = search (fresh_actors (start + 1) count i actor is, arith)

pub agent_in : (found : Option Actor) (a : Agent) → agent_of found ≡ Some a → (actor : Actor) × (found ≡ Some actor) × (actor.agent ≡ a)
agent_in found a h2 = search arith

pub fresh_agents : (given : Opening) (i : ℕ) (a : Agent) → agent_at (opening given) i ≡ Some a → (a ≡ agent.opening i) × (i < given.agents)
fresh_agents given i a is = search (agent_in, fresh_actors, arith)

pub holds_at_first : (given : Opening) → IsAccepted given → Holds (fixed_of given) (opening given) [] []
holds_at_first given accepted = search (none-some, fresh_servers, fresh_agents, arith)

-- what holds of every run
pub holds_of : (given : Opening) → IsAccepted given → (events : List Event) → Holds (fixed_of given) (run given events) (decisions given events) (ended given events)
holds_of given accepted events = run_holds (fixed_of given) events (opening given) [] [] (holds_at_first given accepted)

-- ---- a run goes on

-- what is decided later
pub later_decisions : Opening → List Event → List Event → List Decided
later_decisions given events later = decisions_from (fixed_of given) (run given events) later

pub decisions_go_on : (given : Opening) (events later : List Event) → decisions given (events ++ later) ≡ decisions given events ++ later_decisions given events later
unfolding later_decisions
decisions_go_on given events later = decisions_from-append (fixed_of given) (opening given) events later

ended_still : (given : Opening) (events later : List Event) (job : EndedJob) → Has (ended given events) job → Has (ended given (events ++ later)) job
ended_still given events later job has = search (dones-append, outcomes-append, append_has_left, arith)

-- ---- decided once

pub ends_as : (given : Opening) (accepted : IsAccepted given) (events : List Event) (job : EndedJob) (ending : Ending) → Contains (ended given events) job → job.ending ≡ ending → EndStands (decisions given events) (number_of job) ending
ends_as given accepted events job ending there is = search (holds_of given accepted events, has_from (ended given events) job there, arith)

decided_as : (all : List Decided) (t : ℕ) (answer : Answer') → In all t answer → IsDecidedAs all t answer
decided_as all t answer is = record { decision = is.decision; there = contains_from all is.decision is.there; of_it = is.of_it; answered = is.answered }

pub decided_once : DecidedOnce
decided_once given accepted events = record {
  once = apart_distinct (decisions given events) (holds_of given accepted events).once;
  answered = λ job answers there is. decided_as (decisions given events) (number_of job) (Ok answers) (ends_as given accepted events job (Answered answers) there is);
  refused = λ job refusal there is. decided_as (decisions given events) (number_of job) (Err refusal) (ends_as given accepted events job (Refused refusal) there is);
  undecided = λ job cause there is later one in' same.
      ends_as given accepted (events ++ later) job (Undecided cause) (contains_from (ended given (events ++ later)) job (ended_still given events later job (has_from (ended given events) job there))) is
      one (has_from (decisions given (events ++ later)) one in') same;
}

-- ---- a decision is its home's record

same_verdict : (answer : Answer') → verdict_as answer ≡ verdict_of answer
same_verdict answer = search arith

pub decisions_are_the_records : DecisionsAreTheRecords
decisions_are_the_records given accepted events = record {
  kept = λ one there.
      let home = holds.servers.kept one (has_from ds one there) in
      ap (λ found. record_by found one.t) home.at ∙ home.is ∙ ap Some (same_verdict one.answer);
  answered = λ server t answers is. decided_as ds t (Ok answers) (recorded_of server t (verdict.Answered answers) (server_at (run given events) server) refl is);
  refused = λ server t refusal is. decided_as ds t (Err refusal) (recorded_of server t (verdict.Refused refusal) (server_at (run given events) server) refl is);
}
  where
    ds : List Decided
    ds = decisions given events

    holds : Holds (fixed_of given) (run given events) (decisions given events) (ended given events)
    holds = holds_of given accepted events

    recorded_of : (server t : ℕ) (v : Verdict) (found : Option State) → server_at (run given events) server ≡ found → record_by found t ≡ Some v → Recorded (decisions given events) t v
    recorded_of server t v None at is = absurd (none-some v is)
    recorded_of server t v (Some st) at is = holds.servers.recorded server st t v at is

-- ---- the audit is the denials

-- where there is no server, it is no home
no_denials : (given : Opening) (server : ℕ) (ds : List Decided) → ((d : Decided) → Has ds d → home_of (fixed_of given).service d.t ≡ server → ⊥) → [] ≡ denials_at (fixed_of given).service server ds
no_denials given server [] apart = refl
no_denials given server (d ∷ ds) apart = search (nat_tests, no_denials given server ds, arith)

pub audit_is_the_denials : AuditIsTheDenials
audit_is_the_denials given accepted events server = search (holds_of given accepted events, no_denials, none-some, arith)

-- ---- answered before, decided before

pub rest_of : (place index : ℕ) → index < 64 → (64 * place + index) % 64 ≡ index
rest_of place index small = omega arith

-- what was not begun was not decided
not_begun_not_in : (given : Opening) (world : World) (ds : List Decided) (t : ℕ) → AreAt (agent_at world) ds → was_begun world t ≡ false → NotIn ds t
not_begun_not_in given world ds t holds not_begun d has same = search arith

-- a decision of a job that ended so far was made so far
decided_by_then : (given : Opening) (accepted : IsAccepted given) (events later : List Event) (job : EndedJob) (first : Decided) → Contains (ended given events) job
    → number_of job ≡ first.t → Has (decisions given (events ++ later)) first → Has (decisions given events) first
decided_by_then given accepted events later job first there same has = of job.ending refl
  where
    all : List Decided
    all = decisions given (events ++ later)

    found : (answer : Answer') → In (decisions given events) (number_of job) answer → Has (decisions given events) first
    found answer is =
        subst (Has (decisions given events))
        (same_decision (decisions given (events ++ later)) is.decision first (holds_of given accepted (events ++ later)).once
        (subst (λ ds. Has ds is.decision) (sym (decisions_go_on given events later)) (append_has_left (decisions given events) (later_decisions given events later) is.decision is.there))
        has (is.of_it ∙ same))
        is.there

    over : (ending : Ending) → job.ending ≡ ending → EndStands (decisions given (events ++ later)) (number_of job) ending
    over ending is = ends_as given accepted (events ++ later) job ending (contains_from (ended given (events ++ later)) job (ended_still given events later job (has_from (ended given events) job there))) is

    of : (ending : Ending) → job.ending ≡ ending → Has (decisions given events) first
    of (Answered answers) is = found (Ok answers) (ends_as given accepted events job (Answered answers) there is)
    of (Refused refusal) is = found (Err refusal) (ends_as given accepted events job (Refused refusal) there is)
    of (Swept broken finished left) is = absurd (over (Swept broken finished left) is first has (sym same))
    of (Undecided cause) is = absurd (over (Undecided cause) is first has (sym same))

pub answered_before : AnsweredBefore
answered_before given accepted events later job first second there same new stands before after is =
    contains_from before first (stands_first (decisions given events) (later_decisions given events later) before after first second
    (decided_by_then given accepted events later job first there same (has_from (decisions given (events ++ later)) first stands))
    (not_begun_not_in given (run given events) (decisions given events) second.t (holds_of given accepted events).agents new)
    (sym (decisions_go_on given events later) ∙ is))
