-- What an agent's cache keeps, and from where.
use Rattle.txn_core.proofs.Vocabulary.{◌≡◌, ℕ, true, false, Bool, cond, ◌⊎◌, inl, inr, List, [], Option, Some, None, refl, sym, ap, subst, ◌∙◌, ◌+◌, ◌&&◌, nat_lt, same_Some, Request, Entry, has_to, entries_come_from_puts, ReadPoint, Response, Job}
use Rattle.txn_core.proofs.Vocabulary.{Transaction, Sweep, Fixed, Task, Fetching, TransactionRun, Doing, Running, RunningSweep, request_in, fetched_for, fetched_at, Agent, Event, Take, next_in, next_of, take_in, take, begin, started, is_idle}
use Rattle.txn_core.proofs.Vocabulary.{has_sense, max_jobs, after_all, of_job, task_of, FirstGave, IsFetched, CachesWhatWasFetched}
use Rattle.weak_cache.proofs.Origins.{Has, has_from}
use Rattle.txn_core.proofs.Gathers.{Kept}
use Rattle.txn_core.proofs.Causes.{started_from, Stands}
use Rattle.txn_core.proofs.Cached.{PutBy, execute_has, response_has}
use Rattle.txn_core.proofs.Upheld.{Begins, Started, started_is, Runs, DoingStands, after-append, stands_after}

module _ (fixed : Fixed) (agent : Agent) (job : Job) (events : List Event) (response : Response) where
  -- what a response puts was fetched
  put_fetched : (running : TransactionRun) (asked : ℕ × Request) (x : Entry) → next_of fixed (after_all fixed (begin fixed agent job) events) ≡ Some asked
      → request_in fixed running.task running.suites running.phase ≡ Some asked → Runs fixed agent job events running
      → PutBy fixed running.task running.suites running.phase response x → IsFetched fixed agent job events response x
  put_fetched running asked x next is runs put = subst (IsFetched fixed agent job events response) (sym put.is) (record {
    caller = runs.caller;
    site = runs.site;
    ops = runs.ops;
    transaction = runs.transaction;
    at = ap (λ (task : Task). task.site) runs.task;
    start = put.suite.collector.start;
    gathered = started_is fixed agent job events put.number put.suite.collector.start kept.start;
    first = put.first;
    gave = subst (FirstGave put.suite.collector.start put.number (of_job fixed agent job events)) (same_Some kept.first.first put.first (sym kept.first.was ∙ put.was)) kept.first.gave;
    t = running.task.t;
    asked = next ∙ sym is ∙ ap (request_in fixed running.task running.suites) put.fetching ∙ ap (fetched_for running.task put.number) put.there ∙ ap (λ first. fetched_at' first) put.was;
    prefix = refl;
    dver = refl;
    told = (put.dver, put.told);
  })
    where
      fetched_at' : Option ReadPoint → Option (ℕ × Request)
      fetched_at' first = fetched_at running.task put.number first

      stands : Stands fixed running.task (Started fixed agent job events) (Started fixed agent job events) (Begins fixed agent job events) (of_job fixed agent job events) running.suites (Fetching put.number)
      stands = subst (Stands fixed running.task (Started fixed agent job events) (Started fixed agent job events) (Begins fixed agent job events) (of_job fixed agent job events) running.suites) put.fetching (runs.stands asked is)

      kept : Kept fixed running.task (started_from (Started fixed agent job events)) (of_job fixed agent job events) put.number put.suite
      kept = stands.1 put.number put.suite put.there

  told_has : (doing : Option Doing) (asked : Option (ℕ × Request)) (x : Entry) → (after_all fixed (begin fixed agent job) events).doing ≡ doing
      → next_of fixed (after_all fixed (begin fixed agent job) events) ≡ asked → next_in fixed doing ≡ asked
      → DoingStands fixed agent job events doing → Has (take_in fixed (after_all fixed (begin fixed agent job) events) response doing asked).agent.cache x
      → Has (after_all fixed (begin fixed agent job) events).cache x ⊎ IsFetched fixed agent job events response x
  told_has (Some (Running running)) (Some asked) x was next is stands has =
      elim (response_has fixed running.task (after_all fixed (begin fixed agent job) events).cache running.suites x running.phase asked.0 asked.1 response has) [
        | inl before ↦ inl before
        | inr put ↦ inr (put_fetched running asked x next is stands put)
      ]
  told_has (Some (Running running)) None x was next is stands has = inl has
  told_has (Some (RunningSweep sweep_run)) (Some asked) x was next is stands has = inl has
  told_has (Some (RunningSweep sweep_run)) None x was next is stands has = inl has
  told_has None (Some asked) x was next is stands has = inl has
  told_has None None x was next is stands has = inl has

begun_has : (fixed : Fixed) (agent : Agent) (job : Job) (x : Entry) → Has (begin fixed agent job).cache x → Has agent.cache x
begun_has fixed agent job x has = of (is_idle agent.doing && has_sense fixed job && nat_lt agent.count max_jobs) has
  where
    at : (job : Job) → Has (started fixed agent job).cache x → Has agent.cache x
    at (Transaction caller site ops) has = execute_has fixed (task_of agent caller site ops) (record { suites = []; cache = agent.cache }) x has
    at (Sweep server) has = has

    of : (b : Bool) → Has (cond b (record (started fixed agent job) { count = agent.count + 1 }) agent).cache x → Has agent.cache x
    of true has = at job has
    of false has = has

pub caches_what_was_fetched : CachesWhatWasFetched
caches_what_was_fetched = record {
  begun = λ fixed agent job entry there. has_to agent.cache entry (begun_has fixed agent job entry (has_from _ entry there));
  told = λ fixed agent job events response entry idle there.
      let now = after_all fixed (begin fixed agent job) events in
      let has : Has (take fixed now response).agent.cache entry = subst (λ (agent : Agent). Has agent.cache entry) (after-append fixed (begin fixed agent job) events (Take response)) (has_from _ entry there) in
      elim (told_has fixed agent job events response now.doing (next_of fixed now) entry refl refl refl (stands_after fixed agent job events idle) has) [
        | inl before ↦ inl (has_to now.cache entry before)
        | inr fetched ↦ inr fetched
      ];
  forgotten = λ agent site entry there. entries_come_from_puts.forgotten site agent.cache entry there;
}
