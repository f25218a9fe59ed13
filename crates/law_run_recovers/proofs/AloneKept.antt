-- What a transaction that goes alone leaves where its home was down: nothing is decided, and stored copies are as they were; servers are up that were.
use Rattle.law_run_recovers.proofs.Vocabulary.{◌≡◌, inl, ℕ, ◌+◌, Bool, true, false, List, [], ◌∷◌, ◌++◌, append-nil, length, Option, Some, None, refl, sym, ap, subst, ◌∙◌, ◌*◌, ◌==◌, ◌||◌, not, Contains, false≢true, eqb-true, same_Some, arith}
use Rattle.law_run_recovers.proofs.Vocabulary.{Identity, Opening, Replica, Lock, Request, Verdict, is_answered, copy_of, State, Has, has_from, Op, Transaction, home_of, fixed_of, next_of, or_right, Event, Begin, Step, Crash, Return, Actor, World}
use Rattle.law_run_recovers.proofs.Vocabulary.{server_at, actor_at, run, decisions, decisions_from, table_of, table_after_all, decisions_from-append, EndedSo, names, by_step, finish_is_after, so_many, IsOwnAt, names_mine, AllAt, MayAsk, asks_servers}
use Rattle.law_run_recovers.proofs.Vocabulary.{up_in, is_up, up_free, locks_in, shown_in, shown_at, GoesAlone, begun_world, world_after}
use Rattle.rep_core.specs.declared.request.Request.TheVariants as request
use Rattle.rep_core.specs.declared.reply.Verdict.TheVariants as verdict
use Rattle.file_ops.specs.Rows as rows
use Rattle.law_run_alone.proofs.Goes as alone
use Rattle.law_run_recovers.proofs.AmongAt.{can_so_far}
use Rattle.law_run_recovers.proofs.AmongEnds.{Over}
use Rattle.law_run_recovers.proofs.AmongLeft.{HasNone, none_left}
use Rattle.law_run_recovers.proofs.AloneLaws.{steadily, calm}
use Rattle.law_run_recovers.proofs.DecidedSince.{none_since, not_before}
use Rattle.law_run_recovers.proofs.HadVotes.{none_decided}
use Rattle.law_run_recovers.proofs.Keeps.{run_at, after_append}
use Rattle.law_run_recovers.proofs.Open.{Here, here_at, is_calm, its_begin, alone_is_unmet, unmet_is_among_locks, begun_servers, stands_open}
use Rattle.law_run_recovers.proofs.Picks.{along}
use Rattle.law_run_recovers.proofs.Free.{all_from}
use Rattle.law_run_recovers.proofs.Stand.{copy_ways}

-- a request that tells no answer
abbrev Spares : Request → Type 0
Spares asked = (t : ℕ) (v : Verdict) → asked ≡ request.Finish t v → is_answered v ≡ false

-- ---- lists

some_not : {X : Type 0} (x : X) (xs : List X) → x ∷ xs ≡ [] → ⊥
some_not x xs is = cc

front_none : {X : Type 0} (xs ys : List X) → xs ++ ys ≡ [] → xs ≡ []
front_none [] ys is = refl
front_none (x ∷ xs) ys is = absurd (some_not x (xs ++ ys) is)

none_locked : (locks : List Lock) → ((lock : Lock) → Has locks lock → ⊥) → (length locks == 0) ≡ true
none_locked [] none = refl
none_locked (lock ∷ locks) none = absurd (none lock (inl refl))

module _ (given : Opening) (events later : List Event) (agent t : ℕ) (caller : Identity) (site : ℕ) (ops : List Op) (actor : Actor) (goes : GoesAlone given events later agent t caller site ops actor) where
  abbrev first : World
  first = run given events

  abbrev world_at : List Event → World
  world_at so_far = world_after given events agent caller site ops so_far

  abbrev all : List Event → List Event
  all so_far = events ++ Begin agent (Transaction caller site ops) ∷ so_far

  abbrev last_world : World
  last_world = world_after given events agent caller site ops later

  begun_number : 64 * actor.agent.count + agent ≡ t
  begun_number = (its_begin given events later agent t caller site ops actor goes.can goes.there goes.begins).0

  pub run_so : (so_far : List Event) → world_after given events agent caller site ops so_far ≡ run given (events ++ Begin agent (Transaction caller site ops) ∷ so_far)
  run_so = run_at given events later agent t caller site ops actor goes.can goes.there goes.begins

  -- ---- servers

  -- servers are up that were
  pub up_same : (i : ℕ) → is_up last_world i ≡ is_up first i
  up_same i = (stands_open given events later agent t caller site ops actor goes last_world [] [] (λ server. true) (here_at given events later agent t caller site ops actor goes later [] (sym (append-nil later)))).up i refl

  pub many : length last_world.servers ≡ length first.servers
  many = ap (λ (w : World). length w.servers) (run_so later) ∙ (so_many given (all later)).0 ∙ sym (so_many given events).0

  -- once it has ended no server that is up has a lock
  pub free_then : Over given events later agent t caller site ops actor (steadily given events later agent t caller site ops actor goes) later → up_free last_world ≡ true
  free_then over = all_from (λ (st : State). not st.up || (length st.locks == 0)) last_world.servers (λ i st at. of i st at st.up refl (here.g.owns.servers i st at))
    where
      here : Here given events later agent t caller site ops actor goes last_world []
      here = here_at given events later agent t caller site ops actor goes later [] (sym (append-nil later))

      none : HasNone given events later agent t caller site ops actor (unmet_is_among_locks given events later agent t caller site ops actor (alone_is_unmet given events later agent t caller site ops actor goes)) later
      none = none_left given events later agent t caller site ops actor (unmet_is_among_locks given events later agent t caller site ops actor (alone_is_unmet given events later agent t caller site ops actor goes)) over

      by : (i : ℕ) (st : State) → server_at last_world i ≡ Some st → st.up ≡ true → (b : Bool) → IsOwnAt b t st → (lock : Lock) → Has st.locks lock → ⊥
      by i st at up true own lock has =
          none i lock.suite (record { lock = lock; has = subst (λ found. Has (locks_in found) lock) (sym at) has; of_it = own.1 lock has; on_it = refl })
      by i st at up false own lock has = false≢true (sym own.0 ∙ up)

      of : (i : ℕ) (st : State) → server_at last_world i ≡ Some st → (b : Bool) → st.up ≡ b → IsOwnAt (is_up first i) t st → (not st.up || (length st.locks == 0)) ≡ true
      of i st at true is own = or_right (not st.up) (length st.locks == 0) (none_locked st.locks (by i st at is (is_up first i) own))
      of i st at false is own = ap (λ b. not b || (length st.locks == 0)) is

  -- ---- where its home was down

  module _ (down : is_up (run given events) (home_of (fixed_of given).service t) ≡ false) where
    none_so_far : (so_far rest : List Event) → later ≡ so_far ++ rest → decisions_from (fixed_of given) (begun_world given events agent caller site ops) so_far ≡ []
    none_so_far so_far rest split =
        front_none (decisions_from (fixed_of given) (begun_world given events agent caller site ops) so_far) (decisions_from (fixed_of given) (world_at so_far) rest)
        (sym (decisions_from-append (fixed_of given) (begun_world given events agent caller site ops) so_far rest) ∙ ap (decisions_from (fixed_of given) (begun_world given events agent caller site ops)) (sym split)
        ∙ none_decided given events later agent t caller site ops actor goes down)

    -- nothing is decided
    pub decisions_same : (so_far rest : List Event) → later ≡ so_far ++ rest → decisions given (events ++ Begin agent (Transaction caller site ops) ∷ so_far) ≡ decisions given events
    decisions_same so_far rest split = search (none_since, can_so_far, steadily, begun_number, none_so_far, arith)

    pub table_same : table_of given (events ++ Begin agent (Transaction caller site ops) ∷ later) ≡ table_of given events
    table_same = ap (table_after_all (rows.opening given)) (decisions_same later [] (sym (append-nil later)))

    -- what is finished was not answered
    spares : (so_far rest : List Event) → later ≡ so_far ++ rest → (here : Actor) → actor_at (world_after given events agent caller site ops so_far) agent ≡ Some here
        → (asked : ℕ × Request) → next_of (fixed_of given) here.agent ≡ Some asked → Spares asked.1
    spares so_far rest split here there asked next n v is =
        of v (finish_is_after.asked given goes.can.accepted (all so_far) agent here asked.0 n v (ap (λ w. actor_at w agent) (sym (run_so so_far)) ∙ there) (next ∙ ap (λ value. Some (asked.0, value)) is))
      where
        its : names t asked.1 ≡ true
        its = names_mine (fixed_of given) t here.agent.doing asked
            (alone.own_mine given (is_up (run given events)) t agent (world_at so_far) rest (here_at given events later agent t caller site ops actor goes so_far rest split).g here there) next

        same : n ≡ t
        same = eqb-true n t (ap (names t) (sym is) ∙ its)

        of : (v : Verdict) → EndedSo given (events ++ Begin agent (Transaction caller site ops) ∷ so_far) n v → is_answered v ≡ false
        of (verdict.Answered answers) ended =
            absurd (not_before given events later agent t caller site ops actor goes.can goes.there begun_number ended.decision
            (has_from (decisions given events) ended.decision (subst (λ all. Contains all ended.decision) (decisions_same so_far rest split) ended.there)) (ended.of_it ∙ same))
        of other ended = refl

    abbrev Stored : ℕ → State → Type 0
    Stored i st = (old : State) → server_at (run given events) i ≡ Some old → (z : ℕ) → copy_of st.store z ≡ copy_of old.store z

    -- stored copies are as they were
    stored_at : (so_far rest : List Event) → later ≡ so_far ++ rest → AllAt Stored (world_after given events agent caller site ops so_far)
    stored_at = along later (λ so_far. AllAt Stored (world_after given events agent caller site ops so_far))
        (λ so_far rest event split stored. subst (AllAt Stored) (sym (after_append (fixed_of given) so_far (event ∷ []) (begun_world given events agent caller site ops)))
        (asks_servers (fixed_of given) Stored (λ i asked. Spares asked) (λ i st asked spares same old at z.
        by_step st _ (copy_ways st z) (λ asked new stamp stays. stays) asked (λ n v is answered up. absurd (false≢true (sym (spares n v is) ∙ answered))) ∙ same old at z) (world_at so_far) stored event (may so_far rest event split)))
        (λ i st at old was z. ap (λ (st : State). copy_of st.store z) (same_Some st old (sym at ∙ begun_servers given events later agent t caller site ops actor goes.can goes.there goes.begins i ∙ was)))
      where
        crash_not : Spares request.Crash
        crash_not n v is = cc

        return_not : Spares request.Return
        return_not n v is = cc

        may : (so_far rest : List Event) (event : Event) → later ≡ so_far ++ event ∷ rest → MayAsk (fixed_of given) (λ i asked. Spares asked) (world_after given events agent caller site ops so_far) event
        may so_far rest (Step i) split = λ here asked is next.
            let own = is_calm given (is_up (run given events)) agent (world_at so_far) (Step i) (calm given events later agent t caller site ops actor goes so_far rest (Step i) split) here asked is next in
            spares so_far (Step i ∷ rest) split here (ap (actor_at (world_at so_far)) (sym own) ∙ is) asked next
        may so_far rest (Crash server) split = crash_not
        may so_far rest (Return server) split = return_not
        may so_far rest another split = tt

    pub shown_then : (z i : ℕ) → is_up first i ≡ true → shown_at (fixed_of given) last_world z i ≡ shown_at (fixed_of given) first z i
    shown_then z i up = of (server_at last_world i) refl (server_at first i) refl up (up_same i)
      where
        of : (found : Option State) → server_at last_world i ≡ found → (was : Option State) → server_at first i ≡ was → up_in was ≡ true → up_in found ≡ up_in was → shown_in (fixed_of given) found z ≡ shown_in (fixed_of given) was z
        of (Some st) at (Some old) was up same = ap (λ (copy : Replica). copy.prefix) (stored_at later [] (sym (append-nil later)) i st at old was z)
        of None at (Some old) was up same = absurd (false≢true (same ∙ up))
        of found at None was up same = absurd (false≢true up)
