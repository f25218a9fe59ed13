-- What an agent makes of a response: it stays with its task, and ends it as the home said.
use Rattle.law_runs.proofs.Vocabulary.{◌≡◌, ℕ, false, cond, List, [], ◌∷◌, Some, refl, sym, subst, Request, Verdict, Reply, Cache, Suites, Response, Replied, Lacked, Cause, Ending, Undecided, arith, Fixed, Task, home_of, Proposal, Phase, Gathering}
use Rattle.law_runs.proofs.Vocabulary.{Fetching, Widening, Preparing, Deciding, Finishing, TransactionRun, After, GoesOn, Ends, execute, tell_end, give_up, prepare, locked_at, lack_cause, prepared, after_response, request_in, decision_of, verdict_in}
use Rattle.law_runs.proofs.Vocabulary.{ending_by, cause_of_abort, is_decide, said_by, asks_same, asked_as, fetched_as}
use Rattle.txn_core.proofs.Walk.{IsEarly, goes_response, goes_execute}
use Rattle.rep_core.specs.declared.request.Request.TheVariants as request
use Rattle.rep_core.specs.declared.reply.Verdict.TheVariants as verdict

-- a transaction of which this was said ends so
abbrev pub EndsAs : Verdict → Ending → Type 0
EndsAs v ending = (cause : Cause) × (ending ≡ ending_by v cause)

-- what was said, as a phase has it: Aborted until the home has said something
abbrev pub Tells : Verdict → Phase → Type 0
Tells v (Finishing servers told ending) = (told ≡ v) × EndsAs v ending
Tells v _ = v ≡ verdict.Aborted

-- what a response leaves: the same task and what was said, or its end
abbrev pub Leaves : Task → Verdict → After TransactionRun → Type 0
Leaves task v (GoesOn txn_run) = (txn_run.task ≡ task) × Tells v txn_run.phase
Leaves task v (Ends ending) = EndsAs v ending

leaves_end : (task : Task) (cache : Cache) (suites : Suites) (v : Verdict) (ending : Ending) (servers : List ℕ) → EndsAs v ending → Leaves task v (tell_end task cache suites v ending servers).after
leaves_end task cache suites v ending servers h6 = search arith

leaves_give_up : (task : Task) (cache : Cache) (suites : Suites) (cause : Cause) → Leaves task verdict.Aborted (give_up task cache suites cause).after
leaves_give_up task cache suites cause = leaves_end task cache suites verdict.Aborted (Undecided cause) (locked_at suites) (cause, refl)

leaves_prepare : (task : Task) (cache : Cache) (suites : Suites) (outcome : Proposal) (servers : List ℕ) → Leaves task verdict.Aborted (prepare task cache suites outcome servers).after
leaves_prepare task cache suites outcome servers = search arith

leaves_early : (task : Task) (suites : Suites) (phase : Phase) → IsEarly phase → Leaves task verdict.Aborted (GoesOn (record { task = task; suites = suites; phase = phase }))
leaves_early task suites phase h3 = search arith

leaves_prepares : (task : Task) (cache : Cache) (suites : Suites) (outcome : Proposal) → Leaves task verdict.Aborted (prepare task cache suites outcome (locked_at suites)).after
leaves_prepares task cache suites outcome = leaves_prepare task cache suites outcome (locked_at suites)

leaves_response_early : (fixed : Fixed) (task : Task) (cache : Cache) (suites : Suites) (phase : Phase) (server : ℕ) (asked : Request) (response : Response) → IsEarly phase
    → Leaves task verdict.Aborted (after_response fixed (record { task = task; suites = suites; phase = phase }) cache server asked response).after
leaves_response_early fixed task cache suites phase server asked response is =
    goes_response task (Leaves task verdict.Aborted) (leaves_early task) (leaves_give_up task) (leaves_prepares task) fixed cache suites phase server asked response is

-- a transaction that begins
pub leaves_begin : (fixed : Fixed) (task : Task) (cache : Cache) → Leaves task verdict.Aborted (execute fixed task (record { suites = []; cache = cache })).after
leaves_begin fixed task cache = goes_execute task (Leaves task verdict.Aborted) (leaves_early task) (leaves_give_up task) (leaves_prepares task) fixed (record { suites = []; cache = cache })

leaves_prepared : (task : Task) (cache : Cache) (suites : Suites) (outcome : Proposal) (server : ℕ) (left : List ℕ) (said : Reply) → Leaves task verdict.Aborted (prepared task cache suites outcome server left said).after
leaves_prepared task cache suites outcome server left said = search (leaves_prepare, leaves_give_up, arith)

-- a response on anything but a Decide says nothing of how it ends
calm : (task : Task) (asked : Request) (response : Response) (v : Verdict) (after : After TransactionRun) → is_decide asked ≡ false → v ≡ verdict.Aborted
    → Leaves task verdict.Aborted after → Leaves task (cond (is_decide asked) (said_by response v) v) after
calm task asked response v after other aborted leaves = search arith

pub leaves_response : (fixed : Fixed) (task : Task) (cache : Cache) (suites : Suites) (phase : Phase) (server : ℕ) (asked : Request) (response : Response) (v : Verdict)
    → request_in fixed task suites phase ≡ Some (server, asked) → Tells v phase
    → Leaves task (cond (is_decide asked) (said_by response v) v) (after_response fixed (record { task = task; suites = suites; phase = phase }) cache server asked response).after
leaves_response fixed task cache suites (Gathering number) server asked response v is tells = search (calm, asked_as, leaves_response_early, arith)
leaves_response fixed task cache suites (Fetching number) server asked response v is tells = search (calm, fetched_as, leaves_response_early, arith)
leaves_response fixed task cache suites (Widening (number ∷ left) granted) server asked response v is tells = search (calm, asked_as, leaves_response_early, arith)
leaves_response fixed task cache suites (Preparing (now ∷ left) outcome) server asked response v is tells = search (asks_same, calm, leaves_prepared, leaves_give_up, arith)
leaves_response fixed task cache suites (Deciding outcome) server asked response v is tells =
    let same = asks_same (home_of fixed.service task.t) server (request.Decide task.t (decision_of task outcome)) asked is in
    subst (λ asked. Leaves task (cond (is_decide asked) (said_by response v) v) (after_response fixed (record { task = task; suites = suites; phase = Deciding outcome }) cache server asked response).after) same
    (subst (λ v. Leaves task (said_by response v) (after_response fixed (record { task = task; suites = suites; phase = Deciding outcome }) cache server
    (request.Decide task.t (decision_of task outcome)) response).after) (sym tells) (of response))
  where
    of : (response : Response) → Leaves task (said_by response verdict.Aborted)
        (after_response fixed (record { task = task; suites = suites; phase = Deciding outcome }) cache server (request.Decide task.t (decision_of task outcome)) response).after
    of (Replied said) =
        leaves_end task cache suites (verdict_in said verdict.Aborted) (ending_by (verdict_in said verdict.Aborted) (cause_of_abort said)) (locked_at suites) (cause_of_abort said, refl)
    of (Lacked lacked) = leaves_give_up task cache suites (lack_cause server lacked)
leaves_response fixed task cache suites (Finishing (now ∷ left) told ending) server asked response v is tells = search (asks_same, leaves_end, arith)
leaves_response fixed task cache suites other server asked response v is tells = cc
