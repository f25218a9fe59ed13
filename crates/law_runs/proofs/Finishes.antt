-- A Finish says how its transaction ended; and whose Finish was served before a transaction was decided, was decided before it.
use Rattle.law_runs.proofs.Vocabulary.{◌≡◌, ℕ, Bool, true, false, List, [], ◌∷◌, ◌++◌, append_assoc, Option, Some, None, refl, sym, ap, subst, ◌∙◌, arith, ◌==◌, not, Ok, Err, Contains, and_parts, false≢true, nat_tests, none-some, same_Some, Service}
use Rattle.law_runs.proofs.Vocabulary.{Opening, IsAccepted, Request, Verdict, Lock, record_of, Has, has_from, contains_from, Ending, Suites, home_of, Fixed, Task, Phase, Finishing, TransactionRun, SweepRun, Doing, Running}
use Rattle.law_runs.proofs.Vocabulary.{RunningSweep, Sweeping, Telling, request_in, asked_now, next_in, next_of, fixed_of, Event, Served, Actor, World, opening, server_at, actor_at}
use Rattle.law_runs.proofs.Vocabulary.{step, after, dones, run, Decided, decisions, after-append, names, may_sweep, IsDecidedAs}
use Rattle.rep_core.specs.Laws.{is_finish}
use Rattle.law_runs.specs.Finishes.{EndedSo, FinishIsAfter, asks_for_itself, FinishedBefore, FinishedChangesAreMet, SomeRunsFinish}
use Rattle.run_core.specs.declared.done.Done.{Done}
use Rattle.rep_core.specs.declared.request.Request.TheVariants as request
use Rattle.rep_core.specs.declared.reply.Verdict.TheVariants as verdict
use Rattle.law_runs.proofs.Moves.{sent, unstamped, what_of, of_operator, by_moves}
use Rattle.law_runs.proofs.Standing.{Answer', In, NotIn, Stands, append_has_left, verdict_as}
use Rattle.law_runs.proofs.Asking.{asks_in_its_name, asks_to_sweep}
use Rattle.law_runs.proofs.Words.{Tells}
use Rattle.law_runs.proofs.Agents.{IsAt}
use Rattle.law_runs.proofs.Worlds.{agent_of, agent_at}
use Rattle.law_runs.proofs.Order.{stands_first, same_decision}
use Rattle.law_runs.proofs.Conclusions.{holds_of, later_decisions, decisions_go_on}
use Rattle.law_runs.proofs.Ruled.{Ruled, IsTold, TellsRules, run_goes, all_tell}
use Rattle.law_runs.proofs.Closed.{IsTelling, TellsEnd, never}

-- ---- who asks a Finish

itself : (t : ℕ) → (t == t) ≡ true
itself t = grind (arith, nat_tests)

-- a transaction asks it that tells its end
record Finishes (task : Task) (phase : Phase) (t : ℕ) (v : Verdict) : Type 0 where
  servers : List ℕ
  ending : Ending
  finishing : phase ≡ Finishing servers v ending
  of_it : task.t ≡ t

finishes : (fixed : Fixed) (task : Task) (suites : Suites) (phase : Phase) (server t : ℕ) (v : Verdict) → request_in fixed task suites phase ≡ Some (server, request.Finish t v) → Finishes task phase t v
finishes fixed task suites phase server t v h7 = search arith

-- or a sweep, that tells of it
record TellsOf (now : Sweeping) (t : ℕ) (v : Verdict) : Type 0 where
  locks : List Lock
  telling : now ≡ Telling t v locks

tells_of : (service : Service) (sweep_run : SweepRun) (now : Sweeping) (t : ℕ) (v : Verdict) → (asked_now service sweep_run now).1 ≡ request.Finish t v → TellsOf now t v
tells_of service sweep_run now t v h5 = search arith

-- ---- it says how its transaction ended

is_decided : (all : List Decided) (t : ℕ) (answer : Answer') → In all t answer → IsDecidedAs all t answer
is_decided all t answer is = record { decision = is.decision; there = contains_from all is.decision is.there; of_it = is.of_it; answered = is.answered }

not_aborted : (answer : Answer') → verdict_as answer ≡ verdict.Aborted → ⊥
not_aborted answer h1 = search arith

module _ (given : Opening) (accepted : IsAccepted given) (events : List Event) where
  abbrev ds : List Decided
  ds = decisions given events

  ended_so : (t : ℕ) (v : Verdict) → Stands ds t v → (v ≡ verdict.Aborted → (later : List Event) → NotIn (decisions given (events ++ later)) t) → EndedSo given events t v
  ended_so t (verdict.Answered answers) stands never' = is_decided ds t (Ok answers) stands
  ended_so t (verdict.Refused refusal) stands never' = is_decided ds t (Err refusal) stands
  ended_so t verdict.Aborted stands never' = λ later one there same. never' refl later one (has_from (decisions given (events ++ later)) one there) same

  -- what is recorded as Aborted is never decided
  aborted_never : (t : ℕ) → Ruled (fixed_of given) (server_at (run given events)) t verdict.Aborted → (later : List Event) → NotIn (decisions given (events ++ later)) t
  aborted_never t ruled later one has same =
      let fixed = fixed_of given in
      let then = (run_goes fixed later (run given events) (all_tell given events)).rules t verdict.Aborted ruled in
      let kept = (holds_of given accepted (events ++ later)).servers.kept one has in
      let next : run given (events ++ later) ≡ after fixed (run given events) later = after-append fixed (opening given) events later in
      let st : kept.st ≡ then.st = same_Some kept.st then.st (sym kept.at ∙ (λ i. server_at (next i) (home_of fixed.service (same i))) ∙ then.at) in
      not_aborted one.answer (same_Some (verdict_as one.answer) verdict.Aborted (sym kept.is ∙ (λ i. record_of (st i) (same i)) ∙ then.is))

  ruled_so : (t : ℕ) (v : Verdict) → Ruled (fixed_of given) (server_at (run given events)) t v → EndedSo given events t v
  ruled_so t (verdict.Answered answers) ruled = is_decided ds t (Ok answers) ((holds_of given accepted events).servers.recorded (home_of (fixed_of given).service t) ruled.st t (verdict.Answered answers) ruled.at ruled.is)
  ruled_so t (verdict.Refused refusal) ruled = is_decided ds t (Err refusal) ((holds_of given accepted events).servers.recorded (home_of (fixed_of given).service t) ruled.st t (verdict.Refused refusal) ruled.at ruled.is)
  ruled_so t verdict.Aborted ruled = λ later one there same. aborted_never t ruled later one (has_from (decisions given (events ++ later)) one there) same

  module _ (number : ℕ) (actor : Actor) (there : actor_at (run given events) number ≡ Some actor) where
    at : agent_at (run given events) number ≡ Some actor.agent
    at = ap agent_of there

    runs : (txn_run : TransactionRun) → actor.agent.doing ≡ Some (Running txn_run) → IsAt ds number actor.agent.count (Some (Running txn_run))
    runs txn_run running = subst (IsAt ds number actor.agent.count) running ((holds_of given accepted events).agents.at number actor.agent at)

    in_course : (txn_run : TransactionRun) (server t : ℕ) (v : Verdict) → actor.agent.doing ≡ Some (Running txn_run)
        → request_in (fixed_of given) txn_run.task txn_run.suites txn_run.phase ≡ Some (server, request.Finish t v) → EndedSo given events t v
    in_course txn_run server t v running is =
        let ends = finishes (fixed_of given) txn_run.task txn_run.suites txn_run.phase server t v is in
        let runs = runs txn_run running in
        let tells : Tells runs.said (Finishing ends.servers v ends.ending) = subst (Tells runs.said) ends.finishing runs.tells in
        let stands : Stands ds t v = subst (Stands ds t) (sym tells.0) (subst (λ t. Stands ds t runs.said) ends.of_it runs.stands) in
        let last = runs.last in
        ended_so t v stands (λ aborted later. never given accepted t number runs.place (sym ends.of_it ∙ runs.numbered) later events (record {
          agent = actor.agent;
          at = at;
          closed = record { before = omega (arith, last); telling = λ _. subst TellsEnd (sym running) (subst IsTelling (sym ends.finishing) tt) };
          none = subst (Stands ds t) aborted stands;
        }))

    in_round : (sweep_run : SweepRun) (server t : ℕ) (v : Verdict) → actor.agent.doing ≡ Some (RunningSweep sweep_run) → asked_now (fixed_of given).service sweep_run sweep_run.now ≡ (server, request.Finish t v) → EndedSo given events t v
    in_round sweep_run server t v running is =
        let tells = tells_of (fixed_of given).service sweep_run sweep_run.now t v (ap (λ (asked : ℕ × Request). asked.1) is) in
        ruled_so t v (subst (IsTold (fixed_of given) (server_at (run given events))) tells.telling
        (subst (TellsRules (fixed_of given) (server_at (run given events))) running (all_tell given events number actor.agent at)))

    by_doing : (server t : ℕ) (v : Verdict) (doing : Option Doing) → actor.agent.doing ≡ doing → next_in (fixed_of given) doing ≡ Some (server, request.Finish t v) → EndedSo given events t v
    by_doing server t v (Some (Running txn_run)) running is = in_course txn_run server t v running is
    by_doing server t v (Some (RunningSweep sweep_run)) running is = in_round sweep_run server t v running (same_Some (asked_now (fixed_of given).service sweep_run sweep_run.now) (server, request.Finish t v) is)
    by_doing server t v None running is = absurd (none-some (server, request.Finish t v) is)

-- ---- what is served, an agent asked, or the operator

record IsAsked (fixed : Fixed) (world : World) (what : Served) : Type 0 where
  number : ℕ
  actor : Actor
  there : actor_at world number ≡ Some actor
  next : next_of fixed actor.agent ≡ Some (what.server, what.request.value)

-- a request that no operator makes
serves : (fixed : Fixed) (world : World) (what : Served) (p : Request → Bool) → p request.Crash ≡ false → p request.Return ≡ false → p what.request.value ≡ true
    → (event : Event) → (step fixed world event).done.served ≡ Some what → IsAsked fixed world what
serves fixed world what p crash return named = by_moves fixed world (λ _ stepped. stepped.done.served ≡ Some what → IsAsked fixed world what) (record {
  nothing = λ event same. absurd (none-some what same);
  begins = λ number actor job is same. absurd (none-some what same);
  forgets = λ number actor site is same. absurd (none-some what same);
  answers = λ number actor asked st is next there room same.
      record { number = number; actor = actor; there = is; next = next ∙ ap (λ (what : Served). Some (what.server, what.request.value)) (same_Some (what_of asked.0 st (sent actor asked.1)) what same) };
  lacks = λ event number actor asked why by is next same. absurd (none-some what same);
  operates = λ event server asked st by there room same.
      absurd (false≢true (sym (of_operator (λ asked. p asked ≡ false) crash return event server asked by) ∙ ap (λ (what : Served). p what.request.value) (same_Some (what_of server st (unstamped asked)) what same) ∙ named));
})

finish_asked : (given : Opening) → IsAccepted given → (events : List Event) (number : ℕ) (actor : Actor) (server t : ℕ) (v : Verdict)
    → actor_at (run given events) number ≡ Some actor → next_of (fixed_of given) actor.agent ≡ Some (server, request.Finish t v) → EndedSo given events t v
finish_asked given accepted events number actor server t v there next = by_doing given accepted events number actor there server t v actor.agent.doing refl next

finish_served : (given : Opening) → IsAccepted given → (events : List Event) (event : Event) (what : Served) (t : ℕ) (v : Verdict)
    → (step (fixed_of given) (run given events) event).done.served ≡ Some what → what.request.value ≡ request.Finish t v → EndedSo given events t v
finish_served given accepted events event what t v is finish =
    let asked = serves (fixed_of given) (run given events) what (is_finish t) refl refl (ap (is_finish t) finish ∙ itself t) event is in
    finish_asked given accepted events asked.number asked.actor what.server t v asked.there (asked.next ∙ ap (λ request. Some (what.server, request)) finish)

pub finish_is_after : FinishIsAfter
finish_is_after = record { asked = finish_asked; served = finish_served }

-- ---- a request of its own, before its end

-- what two transactions are named in is of one
one_named : (a b : ℕ) (asked : Request) → names a asked ≡ true → names b asked ≡ true → a ≡ b
one_named a b asked h3 h4 = search arith

-- until it tells its end the home has said nothing
said_nothing : (fixed : Fixed) (task : Task) (suites : Suites) (phase : Phase) (server : ℕ) (asked : Request) (said : Verdict)
    → request_in fixed task suites phase ≡ Some (server, asked) → may_sweep asked ≡ false → Tells said phase → said ≡ verdict.Aborted
said_nothing fixed task suites phase server asked said h7 h8 h9 = search arith

not_both : (b : Bool) → not b ≡ true → b ≡ false
not_both b h1 = search arith

module _ (given : Opening) (accepted : IsAccepted given) (events : List Event) (number : ℕ) (actor : Actor) (there : actor_at (run given events) number ≡ Some actor)
    (t server : ℕ) (asked : Request) (own : asks_for_itself t asked ≡ true) where
  undecided_in : (doing : Option Doing) → actor.agent.doing ≡ doing → next_in (fixed_of given) doing ≡ Some (server, asked) → NotIn (decisions given events) t
  undecided_in (Some (Running txn_run)) running is =
      let parts = and_parts (names t asked) (not (may_sweep asked)) own in
      let runs = runs given accepted events number actor there txn_run running in
      let same : txn_run.task.t ≡ t = one_named txn_run.task.t t asked (asks_in_its_name (fixed_of given) txn_run.task txn_run.suites txn_run.phase server asked is) parts.0 in
      let nothing = said_nothing (fixed_of given) txn_run.task txn_run.suites txn_run.phase server asked runs.said is (not_both (may_sweep asked) parts.1) runs.tells in
      subst (NotIn (decisions given events)) same (subst (Stands (decisions given events) txn_run.task.t) nothing runs.stands)
  undecided_in (Some (RunningSweep sweep_run)) running is = search (and_parts, false≢true, not_both, same_Some, asks_to_sweep, arith)
  undecided_in None running is = absurd (none-some (server, asked) is)

undecided_yet : (given : Opening) → IsAccepted given → (events : List Event) (event : Event) (what : Served) (t : ℕ)
    → (step (fixed_of given) (run given events) event).done.served ≡ Some what → asks_for_itself t what.request.value ≡ true → NotIn (decisions given events) t
undecided_yet given accepted events event what t is own = search (serves (fixed_of given) (run given events) what (asks_for_itself t) refl refl own event is, undecided_in, arith)

-- ---- in one history

-- the events before that of a part of what was done, and those after it
record Split (fixed : Fixed) (world : World) (events : List Event) (one : Done) (later : List Done) : Type 0 where
  firsts : List Event
  event : Event
  rest : List Event
  is : events ≡ firsts ++ event ∷ rest
  done : (step fixed (after fixed world firsts) event).done ≡ one
  later' : dones fixed (step fixed (after fixed world firsts) event).world rest ≡ later

split : (fixed : Fixed) (events : List Event) (world : World) (before : List Done) (one : Done) (later : List Done) → dones fixed world events ≡ before ++ one ∷ later → Split fixed world events one later
split fixed [] world [] one later is = absurd cc
split fixed [] world (first ∷ before) one later is = absurd cc
split fixed (event ∷ events) world [] one later is = record {
  firsts = [];
  event = event;
  rest = events;
  is = refl;
  done = heads (step fixed world event).done one (dones fixed (step fixed world event).world events) later is;
  later' = tails (step fixed world event).done one (dones fixed (step fixed world event).world events) later is;
}
  where
    heads : (a b : Done) (xs ys : List Done) → a ∷ xs ≡ b ∷ ys → a ≡ b
    heads a b xs ys is = cc

    tails : (a b : Done) (xs ys : List Done) → a ∷ xs ≡ b ∷ ys → xs ≡ ys
    tails a b xs ys is = cc
split fixed (event ∷ events) world (first ∷ before) one later is =
    let rest = split fixed events (step fixed world event).world before one later (tails (step fixed world event).done first (dones fixed (step fixed world event).world events) (before ++ one ∷ later) is) in
    record { firsts = event ∷ rest.firsts; event = rest.event; rest = rest.rest; is = ap (λ events. event ∷ events) rest.is; done = rest.done; later' = rest.later' }
  where
    tails : (a b : Done) (xs ys : List Done) → a ∷ xs ≡ b ∷ ys → xs ≡ ys
    tails a b xs ys is = cc

-- a decision that stands in a run stands after these of its events, where its transaction ended so then
stood_then : (given : Opening) → IsAccepted given → (events later : List Event) (first : Decided) (v : Verdict) → Has (decisions given (events ++ later)) first → EndedSo given events first.t v → Has (decisions given events) first
stood_then given accepted events later first v has ended = of v ended
  where
    found : (answer : Answer') → IsDecidedAs (decisions given events) first.t answer → Has (decisions given events) first
    found answer is =
        let there = has_from (decisions given events) is.decision is.there in
        subst (Has (decisions given events))
        (same_decision (decisions given (events ++ later)) is.decision first (holds_of given accepted (events ++ later)).once
        (subst (λ ds. Has ds is.decision) (sym (decisions_go_on given events later)) (append_has_left (decisions given events) (later_decisions given events later) is.decision there))
        has is.of_it)
        there

    of : (v : Verdict) → EndedSo given events first.t v → Has (decisions given events) first
    of (verdict.Answered answers) is = found (Ok answers) is
    of (verdict.Refused refusal) is = found (Err refusal) is
    of verdict.Aborted is = absurd (is later first (contains_from (decisions given (events ++ later)) first has) refl)

pub finished_before : FinishedBefore
finished_before given accepted events before between after' one two finish asked v first second done first_served finishes' second_served own there =
    let fixed = fixed_of given in
    let a = split fixed events (opening given) before one (between ++ two ∷ after') done in
    let b = split fixed a.rest (step fixed (run given a.firsts) a.event).world between two after' a.later' in
    let mid = a.firsts ++ a.event ∷ b.firsts in
    let whole : events ≡ a.firsts ++ a.event ∷ a.rest = a.is in
    let parts : events ≡ mid ++ b.event ∷ b.rest = a.is ∙ ap (λ rest. a.firsts ++ a.event ∷ rest) b.is ∙ sym (append_assoc a.firsts (a.event ∷ b.firsts) (b.event ∷ b.rest)) in
    let ended = finish_served given accepted a.firsts a.event finish first.t v (ap (λ (done : Done). done.served) a.done ∙ first_served) finishes' in
    let stood = stood_then given accepted a.firsts (a.event ∷ a.rest) first v (subst (λ events. Has (decisions given events) first) whole (has_from (decisions given events) first there)) ended in
    let stands = subst (λ ds. Has ds first) (sym (decisions_go_on given a.firsts (a.event ∷ b.firsts))) (append_has_left (decisions given a.firsts) (later_decisions given a.firsts (a.event ∷ b.firsts)) first stood) in
    let world : run given mid ≡ after fixed (step fixed (run given a.firsts) a.event).world b.firsts = after-append fixed (opening given) a.firsts (a.event ∷ b.firsts) in
    let new = undecided_yet given accepted mid b.event asked second.t (ap (λ world. (step fixed world b.event).done.served) world ∙ ap (λ (done : Done). done.served) b.done ∙ second_served) own in
    λ left right is. contains_from left first
    (stands_first (decisions given mid) (later_decisions given mid (b.event ∷ b.rest)) left right first second stands new
    (sym (decisions_go_on given mid (b.event ∷ b.rest)) ∙ sym (ap (decisions given) parts) ∙ is))

pub finished_changes_are_met : FinishedChangesAreMet
finished_changes_are_met given accepted events before between after' one two finish asked t answers second done first_served finishes' second_served own =
    let a = split (fixed_of given) events (opening given) before one (between ++ two ∷ after') done in
    let ended : IsDecidedAs (decisions given a.firsts) t (Ok answers) = finish_served given accepted a.firsts a.event finish t (verdict.Answered answers) (ap (λ (done : Done). done.served) a.done ∙ first_served) finishes' in
    let there : Contains (decisions given events) ended.decision =
    contains_from (decisions given events) ended.decision (subst (λ ds. Has ds ended.decision) (sym (decisions_go_on given a.firsts (a.event ∷ a.rest)) ∙ sym (ap (decisions given) a.is))
    (append_has_left (decisions given a.firsts) (later_decisions given a.firsts (a.event ∷ a.rest)) ended.decision (has_from (decisions given a.firsts) ended.decision ended.there))) in
    record {
      change = ended.decision;
      there = there;
      of_it = ended.of_it;
      answered = ended.answered;
      before = finished_before given accepted events before between after' one two finish asked (verdict.Answered answers) ended.decision second done first_served
          (finishes' ∙ ap (λ t. request.Finish t (verdict.Answered answers)) (sym ended.of_it)) second_served own there;
    }

-- ---- the laws speak of something

pub some_runs_finish : SomeRunsFinish
some_runs_finish = record { of_answered = refl; of_swept = refl; of_overruled = refl; asked_then = refl }
