-- Where no sweep begins, who is busy runs a transaction; and where every agent was idle, one that began there.
use Rattle.law_run_recovers.proofs.Vocabulary.{all_idle, List, None, Option, Some, [], ap, append-nil, append_assoc, cond, false, is_some, refl, subst, sym, true, ℕ, ◌++◌, ◌∙◌, ◌∷◌, ◌≡◌, eqb-true, false≢true, busy, Identity, arith, Op, CanBe}
use Rattle.law_run_recovers.proofs.Vocabulary.{Running, names_mine, names, can_front, run_more, all_none, doing_at, doing_of, BeginsNone, event_doing, none_begins, begins_job, holds_of, same_or, agent_of, Request, Decided, IsAt, IsMine, Leaves}
use Rattle.law_run_recovers.proofs.Vocabulary.{leaves_response, decisions, run, Actor, World, actor_at, step, Event, Begin, Opening, Agent, fixed_of, is_idle, is_decide, said_by, after_response, left, next_in, next_of, take_in, Doing, Task}
use Rattle.law_run_recovers.proofs.Vocabulary.{TransactionRun, After, GoesOn, Job, Sweep, Transaction, Response, Begun, running_in, runs}
use Rattle.law_run_recovers.proofs.AtWork.{mine_where}
use Rattle.law_run_recovers.proofs.BesideUnmet.{begins_there, job_same, onward}
use Rattle.law_run_recovers.proofs.Open.{begun_runs}
use Rattle.law_run_recovers.proofs.Picks.{along}

pub asks_busy : (given : Opening) (agent : Agent) (asked : ℕ × Request) → next_of (fixed_of given) agent ≡ Some asked → is_idle agent.doing ≡ false
asks_busy given agent asked = busy (fixed_of given) agent.doing asked

-- ---- who runs a transaction and takes a response runs it still, or nothing

mine_left : (t : ℕ) (task : Task) (after : After TransactionRun) → ((more : TransactionRun) → after ≡ GoesOn more → more.task ≡ task) → task.t ≡ t → IsMine t (left Running after)
mine_left t task after h3 h4 = search arith

pub mine_taken : (given : Opening) (ds : List Decided) (i t : ℕ) (agent : Agent) (response : Response) (asked : ℕ × Request) (doing : Option Doing)
    → next_in (fixed_of given) doing ≡ Some asked → IsAt ds i agent.count doing → runs t doing ≡ true
    → IsMine t (take_in (fixed_of given) agent response doing (Some asked)).agent.doing
mine_taken given ds i t agent response asked (Some (Running txn_run)) next at is =
    mine_left t txn_run.task (after_response (fixed_of given) txn_run agent.cache asked.0 asked.1 response).after
    (λ more goes. (subst (Leaves txn_run.task (cond (is_decide asked.1) (said_by response at.said) at.said)) goes
    (leaves_response (fixed_of given) txn_run.task agent.cache txn_run.suites txn_run.phase asked.0 asked.1 response at.said next at.tells)).0)
    (eqb-true txn_run.task.t t is)
mine_taken given ds i t agent response asked other next at is = absurd (false≢true is)

pub mine_runs : (t : ℕ) (doing : Option Doing) → IsMine t doing → is_idle doing ≡ false → runs t doing ≡ true
mine_runs t doing h2 h3 = search arith

-- one that was begun before is run now, by an agent that has this to do
pub record Busy (given : Opening) (events so_far : List Event) (i : ℕ) (doing : Option Doing) : Type 0 where
  pub one : Begun given events so_far
  pub who : one.agent ≡ i
  pub runs_it : runs one.t doing ≡ true

record BeganHere (given : Opening) (events so_far : List Event) (i t : ℕ) : Type 0 where
  one : Begun given events so_far
  who : one.agent ≡ i
  number : one.t ≡ t

module _ (given : Opening) (events later : List Event) (can : CanBe given (events ++ later))
    (unswept : (so_far rest : List Event) (k server : ℕ) → later ≡ so_far ++ Begin k (Sweep server) ∷ rest → is_some (begins_job given (run given (events ++ so_far)) (Begin k (Sweep server))) ≡ false) where
  can_at : (so_far rest : List Event) → later ≡ so_far ++ rest → CanBe given (events ++ so_far)
  can_at so_far rest split = can_front given (events ++ so_far) rest (subst (CanBe given) (ap (λ later. events ++ later) split ∙ sym (append_assoc events so_far rest)) can)

  run_next : (so_far : List Event) (event : Event) → run given (events ++ (so_far ++ event ∷ [])) ≡ (step (fixed_of given) (run given (events ++ so_far)) event).world
  run_next so_far event = ap (run given) (sym (append_assoc events so_far (event ∷ []))) ∙ run_more given (events ++ so_far) event

  -- who is busy runs a transaction, of which this is so
  module _ (Of : List Event → ℕ → ℕ → Type 0) (goes_on_so : (so_far : List Event) (event : Event) (i t : ℕ) → Of so_far i t → Of (so_far ++ event ∷ []) i t)
      (new_so : (so_far rest : List Event) (k t : ℕ) (caller : Identity) (site : ℕ) (ops : List Op) → begins_job given (run given (events ++ so_far)) (Begin k (Transaction caller site ops)) ≡ Some (t, Transaction caller site ops)
      → Of (so_far ++ Begin k (Transaction caller site ops) ∷ []) k t) where
    pub record BusyWith (so_far : List Event) (i : ℕ) (doing : Option Doing) : Type 0 where
      pub t : ℕ
      pub so : Of so_far i t
      pub runs_it : runs t doing ≡ true

    abbrev pub BusyAt : List Event → Type 0
    BusyAt so_far = (i : ℕ) (here : Actor) → actor_at (run given (events ++ so_far)) i ≡ Some here → is_idle here.agent.doing ≡ false → BusyWith so_far i here.agent.doing

    module _ (so_far rest : List Event) (event : Event) (split : later ≡ so_far ++ event ∷ rest) (busy_so : BusyAt so_far) where
      abbrev w : World
      w = run given (events ++ so_far)

      abbrev BusyNow : ℕ → Option Doing → Type 0
      BusyNow i doing = is_idle doing ≡ false → BusyWith (so_far ++ event ∷ []) i doing

      -- who begins nothing
      goes_on : (i : ℕ) → BeginsNone given i (run given (events ++ so_far)) event → BusyNow i (doing_at (step (fixed_of given) (run given (events ++ so_far)) event).world i)
      goes_on i none = event_doing given (BusyNow i) i w takes (now (actor_at w i) refl) event none
        where
          takes : (actor : Actor) (asked : ℕ × Request) (response : Response) → actor_at (run given (events ++ so_far)) i ≡ Some actor → next_of (fixed_of given) actor.agent ≡ Some asked
              → BusyNow i (take_in (fixed_of given) actor.agent response actor.agent.doing (Some asked)).agent.doing
          takes actor asked response at next busy =
              let was = busy_so i actor at (asks_busy given actor.agent asked next) in
              record {
                t = was.t;
                so = goes_on_so so_far event i was.t was.so;
                runs_it = mine_runs was.t (take_in (fixed_of given) actor.agent response actor.agent.doing (Some asked)).agent.doing
                    (mine_taken given (decisions given (events ++ so_far)) i was.t actor.agent response asked actor.agent.doing next
                    ((holds_of given can.accepted (events ++ so_far)).agents.at i actor.agent (ap agent_of at)) was.runs_it) busy;
              }

          now : (found : Option Actor) → actor_at (run given (events ++ so_far)) i ≡ found → BusyNow i (doing_of found)
          now None at busy = absurd (false≢true (sym busy))
          now (Some actor) at busy =
              let was = busy_so i actor at busy in
              record { t = was.t; so = goes_on_so so_far event i was.t was.so; runs_it = was.runs_it }

      -- who begins a transaction runs it
      begins_it : (k : ℕ) (caller : Identity) (site : ℕ) (ops : List Op) → event ≡ Begin k (Transaction caller site ops) → (t : ℕ)
          → begins_job given (run given (events ++ so_far)) (Begin k (Transaction caller site ops)) ≡ Some (t, Transaction caller site ops)
          → (i : ℕ) (here : Actor) → actor_at (step (fixed_of given) (run given (events ++ so_far)) event).world i ≡ Some here → i ≡ k → BusyWith (so_far ++ event ∷ []) i here.agent.doing
      begins_it k caller site ops is t begins i here there same =
          let actor = begins_there given w k t (Transaction caller site ops) begins in
          let can = subst (λ all. CanBe given all) (sym (append_assoc events so_far (event ∷ [])) ∙ ap (λ event. (events ++ so_far) ++ event ∷ []) is)
          (can_at (so_far ++ event ∷ []) rest (split ∙ sym (append_assoc so_far (event ∷ []) rest))) in
          let runs_now = begun_runs given (events ++ so_far) [] k t caller site ops actor.0 can actor.1 begins in
          record {
            t = t;
            so = subst (λ event. Of (so_far ++ event ∷ []) i t) (sym is) (subst (λ i. Of (so_far ++ Begin k (Transaction caller site ops) ∷ []) i t) (sym same) (new_so so_far rest k t caller site ops begins));
            runs_it = ap (running_in t) (sym there ∙ ap (λ i. actor_at (step (fixed_of given) w event).world i) same ∙ ap (λ event. actor_at (step (fixed_of given) w event).world k) is) ∙ runs_now;
          }

      busy_now : (i : ℕ) (here : Actor) → actor_at (step (fixed_of given) (run given (events ++ so_far)) event).world i ≡ Some here → is_idle here.agent.doing ≡ false → BusyWith (so_far ++ event ∷ []) i here.agent.doing
      busy_now i here there busy = of event refl
        where
          none_so : BeginsNone given i (run given (events ++ so_far)) event → BusyWith (so_far ++ event ∷ []) i here.agent.doing
          none_so none = subst (BusyNow i) (ap doing_of there) (goes_on i none) busy

          -- one begins
          by : (k : ℕ) (job : Job) → event ≡ Begin k job → (found : Option (ℕ × Job)) → begins_job given (run given (events ++ so_far)) (Begin k job) ≡ found → BusyWith (so_far ++ event ∷ []) i here.agent.doing
          by k job h2 found h4 = search (none_so, none_begins, false≢true, begins_it, job_same, same_or, arith)

          of : (same : Event) → event ≡ same → BusyWith (so_far ++ event ∷ []) i here.agent.doing
          of (Begin k job) is = by k job is (begins_job given w (Begin k job)) refl
          of other is = none_so (subst (BeginsNone given i w) (sym is) tt)

      busy_next : BusyAt (so_far ++ event ∷ [])
      busy_next i here there busy = busy_now i here (ap (λ w. actor_at w i) (sym (run_next so_far event)) ∙ there) busy

    pub busy_by : BusyAt [] → (so_far rest : List Event) → later ≡ so_far ++ rest → BusyAt so_far
    busy_by first = along later BusyAt (λ so_far rest event split busy. busy_next so_far rest event split busy) first

  -- ---- where every agent was idle

  module _ (idle : all_idle (run given events) ≡ true) where
    began_on : (so_far : List Event) (event : Event) (i t : ℕ) → BeganHere given events so_far i t → BeganHere given events (so_far ++ event ∷ []) i t
    began_on so_far event i t was = record { one = onward given events so_far (event ∷ []) was.one; who = was.who; number = was.number }

    began_now : (so_far rest : List Event) (k t : ℕ) (caller : Identity) (site : ℕ) (ops : List Op) → begins_job given (run given (events ++ so_far)) (Begin k (Transaction caller site ops)) ≡ Some (t, Transaction caller site ops)
        → BeganHere given events (so_far ++ Begin k (Transaction caller site ops) ∷ []) k t
    began_now so_far rest k t caller site ops begins = record {
      one = record { before = so_far; after = []; agent = k; t = t; caller = caller; site = site; ops = ops; parts = refl; begins = begins };
      who = refl;
      number = refl;
    }

    none_busy : (i : ℕ) (here : Actor) → actor_at (run given (events ++ [])) i ≡ Some here → is_idle here.agent.doing ≡ false → ⊥
    none_busy i here there busy =
        false≢true (sym busy ∙ ap is_idle (sym (ap doing_of (ap (λ all. actor_at (run given all) i) (sym (append-nil events)) ∙ there)) ∙ all_none (run given events).agents idle i))

    pub busy_at : (so_far rest : List Event) → later ≡ so_far ++ rest → (i : ℕ) (here : Actor) → actor_at (run given (events ++ so_far)) i ≡ Some here → is_idle here.agent.doing ≡ false → Busy given events so_far i here.agent.doing
    busy_at so_far rest split i here there busy =
        let it = busy_by (BeganHere given events) began_on began_now (λ i here there busy. absurd (none_busy i here there busy)) so_far rest split i here there busy in
        record { one = it.so.one; who = it.so.who; runs_it = ap (λ t. runs t here.agent.doing) it.so.number ∙ it.runs_it }

    -- ---- who asks

    module _ (so_far rest : List Event) (split : later ≡ so_far ++ rest) (i : ℕ) (here : Actor) (there : actor_at (run given (events ++ so_far)) i ≡ Some here) (asked : ℕ × Request)
        (next : next_of (fixed_of given) here.agent ≡ Some asked) where
      pub busy_one : Busy given events so_far i here.agent.doing
      busy_one = busy_at so_far rest split i here there (asks_busy given here.agent asked next)

      pub one_named : names busy_one.one.t asked.1 ≡ true
      one_named = names_mine (fixed_of given) busy_one.one.t here.agent.doing asked (mine_where busy_one.one.t here.agent.doing busy_one.runs_it) next
