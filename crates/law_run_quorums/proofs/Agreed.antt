-- In every run collectors hold what machines told: event by event.
use Rattle.law_run_quorums.proofs.Vocabulary.{same_Some, Request, told_at, Fixed, TransactionRun, Doing, Running, RunningSweep, After, after_response, request_of, Agent, next_in, take_in, left, Leaves, heard_by, hears_response, Actor, actor_at}
use Rattle.law_run_quorums.proofs.Vocabulary.{World, Quiet, InCourse, IsDoing, AllLinked, numbered_at, Others, set_here, set_apart, same_or, told_to, Agrees, DoingAgrees, AllAgree}
use Rattle.txn_core.specs.declared.response.Response.{Response}
use Rattle.std.proofs.Common.{◌≡◌, ℕ, ◌+◌, ◌<◌, List, Option, Some, None, refl, sym, ap, subst, ◌∙◌, arith, ◌*◌, slice_get, slice_set}
use Rattle.suite_collect.specs.declared.told.Told as collect
use Rattle.run_core.specs.Worlds as worlds

-- ---- what others do leaves it

quiet_agrees : (w later : World) (t : ℕ) (list : List collect.Told) → Quiet w later t → Agrees (told_to w t) list → Agrees (told_to later t) list
quiet_agrees w later t list quiet agrees = subst (λ told. Agrees told list) (λ n i. sym (quiet.told i) n) agrees

doing_quiet : (z : ℕ) (w later : World) (n count : ℕ) (doing : Option Doing) → n < 64 → IsDoing z w n count doing → ((u place : ℕ) → u ≡ 64 * place + n → Quiet w later u) → DoingAgrees z w doing → DoingAgrees z later doing
doing_quiet z w later n count (Some (Running txn_run)) small is others agrees =
    let at = numbered_at txn_run.task.t n count is.numbered small in
    quiet_agrees w later txn_run.task.t (told_at txn_run.suites z) (others txn_run.task.t at.0 at.1) agrees
doing_quiet z w later n count (Some (RunningSweep sweep_run)) small is others agrees = tt
doing_quiet z w later n count None small is others agrees = tt

-- one agent changes, and the machine
pub all_agree : (z : ℕ) (w later : World) (world : worlds.World) (n : ℕ) (old new : Actor) → actor_at world n ≡ Some old → AllLinked z w world → AllAgree z w world → DoingAgrees z later new.agent.doing → Others w later n
    → (m : ℕ) (x : Actor) → slice_get (slice_set world.agents n new) m ≡ Some x → DoingAgrees z later x.agent.doing
all_agree z w later world n old new there linked all now others m x is =
    same_or (DoingAgrees z later x.agent.doing) m n
    (λ same.
    let x_is : new ≡ x = same_Some new x (sym (set_here world.agents n old new there) ∙ ap (slice_get (slice_set world.agents n new)) (sym same) ∙ is) in
    subst (λ (x : Actor). DoingAgrees z later x.agent.doing) x_is now)
    (λ apart.
    let at = sym (set_apart world.agents n m new apart) ∙ is in
    let was = linked m x at in
    doing_quiet z w later m x.agent.count x.agent.doing was.0 was.1.doing (λ u place is. others u m place is was.0 apart) (all m x at))

-- ---- a turn

same_number : (a b count n : ℕ) → a + 64 ≡ 64 * count + n → b + 64 ≡ 64 * count + n → a ≡ b
same_number a b count n x y = omega arith

-- what the response leaves of a transaction holds what the machine told by then
running_left : (z : ℕ) (w later : World) (n count : ℕ) (fixed : Fixed) (agent : Agent) (before : TransactionRun) (asked : ℕ × Request) (response : Response) → request_of fixed before ≡ Some asked → InCourse z w n count before
    → Agrees (told_to later before.task.t) (heard_by z (told_at before.suites z) asked.0 asked.1 response) → IsDoing z later n count (left Running (after_response fixed before agent.cache asked.0 asked.1 response).after)
    → DoingAgrees z later (left Running (after_response fixed before agent.cache asked.0 asked.1 response).after)
running_left z w later n count fixed agent before asked response is in' agrees doing =
    let hears = hears_response (told_at before.suites) fixed before.task agent.cache before.suites before.phase asked.0 asked.1 response (in'.ordered, λ number. refl) is in
    of (after_response fixed before agent.cache asked.0 asked.1 response).after hears.lists hears.leaves (hears.are z) doing
  where
    of : (after : After TransactionRun) (lists : ℕ → List collect.Told) → Leaves lists after → lists z ≡ heard_by z (told_at before.suites z) asked.0 asked.1 response
        → IsDoing z later n count (left Running after) → DoingAgrees z later (left Running after)
    of after lists h2 h3 h4 = search (same_number, arith)

-- and so of any agent, where the machine told it so of what it asked
pub take_agrees : (z : ℕ) (w later : World) (n count : ℕ) (fixed : Fixed) (agent : Agent) (response : Response) (doing : Option Doing) (asked : ℕ × Request) → next_in fixed doing ≡ Some asked → IsDoing z w n count doing
    → ((before : TransactionRun) → doing ≡ Some (Running before) → Agrees (told_to later before.task.t) (heard_by z (told_at before.suites z) asked.0 asked.1 response))
    → IsDoing z later n count (take_in fixed agent response doing (Some asked)).agent.doing → DoingAgrees z later (take_in fixed agent response doing (Some asked)).agent.doing
take_agrees z w later n count fixed agent response (Some (Running before)) asked is in' agrees doing = running_left z w later n count fixed agent before asked response is in' (agrees before refl) doing
take_agrees z w later n count fixed agent response (Some (RunningSweep sweep_run)) asked is in' agrees doing = search arith
take_agrees z w later n count fixed agent response None asked is in' agrees doing = absurd cc
