-- What an event serves, if anything; and that whoever has a lock at a server was told so there.
use Rattle.law_run_recovers.proofs.Vocabulary.{◌≡◌, ◌⊎◌, inl, inr, ⊎_elim, ℕ, Bool, true, false, cond, List, Option, Some, None, refl, sym, ap, subst, ◌∙◌, ◌==◌, ◌&&◌, not, filter, map, slice_get, slice_set, LockMode, Exclusive, Replica, arith, Lock}
use Rattle.law_run_recovers.proofs.Vocabulary.{Request, Reply, Verdict, Stamped, AuditItem, in_the_way, has_lock, raised, raised_lock, with_lock, before, prepared_lock, is_own, copy_of, intended, State, record_of, is_full, served, answer_of, Has}
use Rattle.law_run_recovers.proofs.Vocabulary.{has_filter, has_between, has_map, Fixed, Event, Served, World, Stepped, server_at}
use Rattle.law_run_recovers.proofs.Vocabulary.{step, same_or, puts_in, locks_in, locks_at}
use Rattle.law_runs.proofs.Moves.{sent, unstamped, by_moves}
use Rattle.rep_core.specs.Service.{after, reply_of, reply_up, reply_down, after_up, after_down, after_locking, locking_reply, held, after_record, prepares}
use Rattle.rep_core.specs.declared.request.Request.TheVariants as request

-- ---- one server

-- a lock of the same transaction was there
pub record Was (locks : List Lock) (t : ℕ) : Type 0 where
  pub lock : Lock
  pub has : Has locks lock
  pub of_it : lock.t ≡ t

pub record IsTold (t : ℕ) (asked : Request) (said : Reply) : Type 0 where
  pub suite : ℕ
  pub mode : LockMode
  pub copy : Replica
  pub poll : asked ≡ request.Poll t suite mode
  pub reply : said ≡ held copy

-- one on the same suite was
pub record On (locks : List Lock) (t z : ℕ) : Type 0 where
  pub lock : Lock
  pub has : Has locks lock
  pub of_it : lock.t ≡ t
  pub on_it : lock.suite ≡ z

abbrev Grows : State → Request → List Lock → Type 0
Grows st asked new = (lock : Lock) → Has new lock → On st.locks lock.t lock.suite ⊎ ((told : IsTold lock.t asked (reply_of st asked)) × (told.suite ≡ lock.suite))

was_here : (locks : List Lock) (lock : Lock) → Has locks lock → On locks lock.t lock.suite
was_here locks lock has = record { lock = lock; has = has; of_it = refl; on_it = refl }

same_grows : (st : State) (asked : Request) (new : List Lock) → new ≡ st.locks → Grows st asked new
same_grows st asked new same lock has = inl (was_here st.locks lock (subst (λ locks. Has locks lock) same has))

filter_grows : (st : State) (asked : Request) (p : Lock → Bool) → Grows st asked (filter p st.locks)
filter_grows st asked p lock has = inl (was_here st.locks lock (has_filter p st.locks lock has).0)

map_grows : (st : State) (asked : Request) (f : Lock → Lock) → ((lock : Lock) → ((f lock).t ≡ lock.t) × ((f lock).suite ≡ lock.suite)) → Grows st asked (map f st.locks)
map_grows st asked f same lock has = search (has_map, arith)

record_same : (old : Option Verdict) (t : ℕ) (v : Verdict) (item : Option AuditItem) (st : State) → (after_record old t v item st).locks ≡ st.locks
record_same old t v item st = search arith

poll_grows : (st : State) (t suite : ℕ) (mode : LockMode) → st.up ≡ true → (other : Option Lock) → in_the_way t suite mode st.locks ≡ other → Grows st (request.Poll t suite mode) (after_locking other t suite mode st).locks
poll_grows st t suite mode up (Some other) is = same_grows st (request.Poll t suite mode) st.locks refl
poll_grows st t suite mode up None is =
    elim (has_lock t suite st.locks) as (λ b. Grows st (request.Poll t suite mode) (cond b (raised t suite mode st.locks) (with_lock (record { t = t; suite = suite; mode = mode; prepared = false }) st.locks))) [
      | true ↦ map_grows st (request.Poll t suite mode) (raised_lock t suite mode) (λ lock. (refl, refl))
      | false ↦ λ lock has. ⊎_elim
          (λ old. inl (was_here st.locks lock old))
          (λ new. inr (
            record {
              suite = suite;
              mode = mode;
              copy = copy_of st.store suite;
              poll = ap (λ t. request.Poll t suite mode) (ap (λ (lock : Lock). lock.t) new);
              reply = ap (λ b. cond b (reply_up st (request.Poll t suite mode)) (reply_down (request.Poll t suite mode))) up ∙ ap (λ other. locking_reply other (copy_of st.store suite)) is;
            },
            ap (λ (lock : Lock). lock.suite) new,
          ))
          (has_between (λ other. before other (record { t = t; suite = suite; mode = mode; prepared = false })) st.locks (record { t = t; suite = suite; mode = mode; prepared = false }) lock has)
    ]

upgrade_grows : (st : State) (t suite : ℕ) → has_lock t suite st.locks ≡ true → (other : Option Lock) → Grows st (request.Upgrade t suite) (after_locking other t suite Exclusive st).locks
upgrade_grows st t suite has (Some other) = same_grows st (request.Upgrade t suite) st.locks refl
upgrade_grows st t suite has None = search (map_grows st (request.Upgrade t suite) (raised_lock t suite Exclusive) (λ lock. (refl, refl)), arith)

up_grows : (st : State) (asked : Request) → st.up ≡ true → Grows st asked (after_up st asked).locks
up_grows st (request.Poll t suite mode) up = poll_grows st t suite mode up (in_the_way t suite mode st.locks) refl
up_grows st (request.Upgrade t suite) up = search (upgrade_grows, same_grows, arith)
up_grows st (request.Fetch t suite) up = same_grows st (request.Fetch t suite) st.locks refl
up_grows st (request.Prepare t parts) up =
    elim (prepares st t parts) as (λ b. Grows st (request.Prepare t parts) (cond b (record st { store = intended t parts st.store; locks = map (prepared_lock t parts) st.locks }) st).locks) [
      | true ↦ map_grows st (request.Prepare t parts) (prepared_lock t parts) (λ lock. (refl, refl))
      | false ↦ same_grows st (request.Prepare t parts) st.locks refl
    ]
up_grows st (request.Decide t decision) up = same_grows st (request.Decide t decision) _ (record_same (record_of st t) t _ _ st)
up_grows st (request.Resolve t) up = same_grows st (request.Resolve t) _ (record_same (record_of st t) t _ _ st)
up_grows st (request.Finish t verdict) up = filter_grows st (request.Finish t verdict) (λ lock. not (lock.t == t))
up_grows st (request.Break t suite) up = filter_grows st (request.Break t suite) (λ lock. not (is_own t suite lock && not lock.prepared))
up_grows st request.Locks up = same_grows st request.Locks st.locks refl
up_grows st request.Crash up = filter_grows st request.Crash (λ lock. lock.prepared)
up_grows st request.Return up = same_grows st request.Return st.locks refl

down_same : (st : State) (asked : Request) → (after_down st asked).locks ≡ st.locks
down_same st asked = search arith

after_grows : (st : State) (asked : Request) → Grows st asked (after st asked).locks
after_grows st asked = grind (up_grows, same_grows, down_same, arith)

-- ---- one event

-- a server served a request
pub record Serves (w : World) (stepped : Stepped) : Type 0 where
  pub target : ℕ
  pub st : State
  pub asked : Stamped Request
  pub at : server_at w target ≡ Some st
  pub servers : stepped.world.servers ≡ slice_set w.servers target (served st asked)
  pub done : stepped.done.served ≡ Some (record { server = target; request = asked; reply = answer_of st asked })
  pub room : is_full st asked ≡ false

abbrev pub Serving : World → Stepped → Type 0
Serving w stepped = (stepped.world.servers ≡ w.servers) ⊎ Serves w stepped

module _ (fixed : Fixed) (w : World) where
  pub event_serves : (event : Event) → Serving w (step fixed w event)
  event_serves = by_moves fixed w (λ event stepped. Serving w stepped) (record {
    nothing = λ event. inl refl;
    begins = λ number actor job there. inl refl;
    forgets = λ number actor site there. inl refl;
    answers = λ number actor asked st there next at room. inr (record { target = asked.0; st = st; asked = sent actor asked.1; at = at; servers = refl; done = refl; room = room });
    lacks = λ event number actor asked why by there next. inl refl;
    operates = λ event server asked st by there room. inr (record { target = server; st = st; asked = unstamped asked; at = there; servers = refl; done = refl; room = room });
  })

  -- who has a lock after it had one before, or was told so in it
  pub record Told (event : Event) (t server : ℕ) : Type 0 where
    pub what : Served
    pub served : (step fixed w event).done.served ≡ Some what
    pub at : what.server ≡ server
    pub told : IsTold t what.request.value what.reply.value

  served_locks : (stepped : Stepped) (serves : Serves w stepped) (server : ℕ) → server ≡ serves.target → locks_at stepped.world server ≡ (after serves.st serves.asked.value).locks
  served_locks stepped serves server here = search (slice_get, slice_set, puts_in, arith)

  other_locks : (stepped : Stepped) (serves : Serves w stepped) (server : ℕ) → (server ≡ serves.target → ⊥) → locks_at stepped.world server ≡ locks_at w server
  other_locks stepped serves server apart =
      ap (λ servers. locks_in (slice_get servers server)) serves.servers
      ∙ ap locks_in ((puts_in w.servers serves.target serves.st (served serves.st serves.asked) serves.at).apart server apart)

  told_here : (event : Event) (server t z : ℕ) (serves : Serves w (step fixed w event)) → server ≡ serves.target → (on : On (locks_at (step fixed w event).world server) t z)
      → On serves.st.locks on.lock.t on.lock.suite ⊎ ((told : IsTold on.lock.t serves.asked.value (reply_of serves.st serves.asked.value)) × (told.suite ≡ on.lock.suite))
      → On (locks_at w server) t z ⊎ ((told : Told event t server) × (told.told.suite ≡ z))
  told_here event server t z serves here on (inl old) = search arith
  told_here event server t z serves here on (inr told) =
      inr (
        record {
          what = record { server = serves.target; request = serves.asked; reply = answer_of serves.st serves.asked };
          served = serves.done;
          at = sym here;
          told = record { suite = told.0.suite; mode = told.0.mode; copy = told.0.copy; poll = told.0.poll ∙ ap (λ t. request.Poll t told.0.suite told.0.mode) on.of_it; reply = told.0.reply };
        },
        told.1 ∙ on.on_it,
      )

  served_told : (event : Event) (server t z : ℕ) (serves : Serves w (step fixed w event)) → On (locks_at (step fixed w event).world server) t z → On (locks_at w server) t z ⊎ ((told : Told event t server) × (told.told.suite ≡ z))
  served_told event server t z serves on = ⊎_elim
      (λ here. told_here event server t z serves here on (after_grows serves.st serves.asked.value on.lock (subst (λ locks. Has locks on.lock) (served_locks (step fixed w event) serves server here) on.has)))
      (λ apart. inl (subst (λ locks. On locks t z) (other_locks (step fixed w event) serves server apart) on))
      (same_or server serves.target)

  pub told_on : (event : Event) (server t z : ℕ) → On (locks_at (step fixed w event).world server) t z → On (locks_at w server) t z ⊎ ((told : Told event t server) × (told.told.suite ≡ z))
  told_on event server t z on = ⊎_elim
      (λ same. inl (subst (λ servers. On (locks_in (slice_get servers server)) t z) same on))
      (λ serves. served_told event server t z serves on)
      (event_serves event)

  pub lock_told : (event : Event) (server t : ℕ) → Was (locks_at (step fixed w event).world server) t → Was (locks_at w server) t ⊎ Told event t server
  lock_told event server t was = ⊎_elim
      (λ old. inl (record { lock = old.lock; has = old.has; of_it = old.of_it }))
      (λ told. inr told.0)
      (told_on event server t was.lock.suite (record { lock = was.lock; has = was.has; of_it = was.of_it; on_it = refl }))
