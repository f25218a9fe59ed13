-- An event that takes nothing of a transaction leaves the locks standing that it was told of, whoever asks for it.
use Rattle.law_run_recovers.proofs.Vocabulary.{◌≡◌, ℕ, Bool, true, false, List, [], ◌∷◌, ◌++◌, Option, Some, None, refl, sym, ap, subst, ◌∙◌, ◌==◌, ◌&&◌, ◌||◌, not, cond, find, unwrap_or, list_any, false≢true, and_parts, eqb-true, none-some, arith}
use Rattle.law_run_recovers.proofs.Vocabulary.{Opening, Lock, Request, Reply, is_own, lock_at, State, reply_of, find_some, has_any, Replied, Lacked, fixed_of, begin, take, Served, Event, server_at}
use Rattle.law_run_recovers.proofs.Vocabulary.{step, Beginning, Inv, ended_as, hold_of, ShowsAt, Shows, beginning, decision_by, own_events, run-append}
use Rattle.law_run_recovers.proofs.Vocabulary.{Stands, Spares, AllSpare, stands_all, spare_begun, spare_own, spare_decision, spare_moves, takes, drops, and_from, or_parts, eq-eqb}
use Rattle.law_suite_machine.specs.Conditions.{Obeys}
use Rattle.law_suite_machine.specs.Events.{kept, lost, finished, run}
use Rattle.law_suite_machine.proofs.Steps.{all_steps}
use Rattle.law_server_moves.specs.Moves.{left_by_break, left_by_crash, moves, hears, is_prepared}
use Rattle.law_suite_machine.specs.Machine.{Hold, Verdict, World}
use Rattle.law_run_machine.specs.Machines.{moved, home_in, servers_of, begin_events, response_events, events_of}
use Rattle.law_runs.proofs.Moves.{sent, unstamped, what_of}
use Rattle.law_run_machine.proofs.Asked.{exchanged, hears_as}
use Rattle.law_run_machine.proofs.Joining.{obeys_first}
use Rattle.law_run_machine.proofs.Moves.{by_moves}
use Rattle.run_core.specs.Worlds.{Stepped}
use Rattle.rep_core.specs.declared.request.Request.TheVariants as request
use Rattle.rep_core.specs.declared.reply.Reply.TheVariants as reply
use Rattle.rep_core.specs.declared.reply.Verdict as replied
use Rattle.rep_core.specs.State as state
use Rattle.run_core.specs.Worlds as worlds
use Rattle.law_suite_machine.specs.Events as machine
use Rattle.law_run_recovers.proofs.Aside.{both_false}

-- ---- locks at a server

none_any : {X : Type 0} (p q : X → Bool) (xs : List X) → ((x : X) → q x ≡ true → p x ≡ true) → list_any p xs ≡ false → find q xs ≡ None
none_any p q [] so is = refl
none_any p q (x ∷ xs) so is = search (or_parts, false≢true, none_any p q xs so, arith)

own_t : (t z : ℕ) (lock : Lock) → is_own t z lock ≡ true → (lock.t == t) ≡ true
own_t t z lock is = (and_parts (lock.t == t) (lock.suite == z) is).0

-- the lock that is found is prepared, where no unprepared one is
found_prepared : (t z : ℕ) (p : Lock → Bool) (locks : List Lock) → ((lock : Lock) → is_own t z lock ≡ true → lock.prepared ≡ false → p lock ≡ true) → list_any p locks ≡ false
    → (h : Hold) → hold_of (lock_at t z locks) ≡ Some h → is_prepared (hold_of (lock_at t z locks)) ≡ true
found_prepared t z p locks so none h is = of (lock_at t z locks) refl is
  where
    of : (found : Option Lock) → lock_at t z locks ≡ found → hold_of found ≡ Some h → is_prepared (hold_of found) ≡ true
    of None found is = absurd (none-some h is)
    of (Some lock) found is = by lock.prepared refl
      where
        by : (b : Bool) → lock.prepared ≡ b → b ≡ true
        by true is = refl
        by false unprepared =
            let there = find_some (is_own t z) locks lock found in
            absurd (false≢true (sym none ∙ has_any p locks lock there.0 (so lock there.1 unprepared)))

-- ---- on the machine

module _ (w : World) (t : ℕ) (stands : Stands w t) where
  stands_finish : (i u : ℕ) (v : Verdict) → (t ≡ u → w.lock i t ≡ None) → Stands (finished w i u v) t
  stands_finish i u v none j told is = search arith

  stands_lose : (keep : ℕ → ℕ → Bool) → ((j : ℕ) (h : Hold) → w.lock j t ≡ Some h → keep j t ≡ true) → Stands (lost w keep) t
  stands_lose keep so j told is = let stood = stands j told is in (stood.0, ap (λ b. kept b (w.lock j t)) (so j stood.0 stood.1) ∙ stood.1, stood.2)

or_kept : (a b c : Bool) → (a ≡ true → b ≡ true → c ≡ true) → (not (a && b) || c) ≡ true
or_kept a b c h3 = search arith

or_there : (a c : Bool) → (a ≡ true → c ≡ true) → (not a || c) ≡ true
or_there a c h2 = search arith

-- what is taken from a server that has this of the suite
module _ (z t i : ℕ) (w : World) (st : State) (shows : ShowsAt z st w i) (stands : Stands w t) where
  finish_stands : (u : ℕ) (v : replied.Verdict) (verdict : Verdict) → takes t st (request.Finish u v) ≡ false → Stands (finished w i u verdict) t
  finish_stands u v verdict calm = search (stands_finish, none_any, own_t, both_false, eq-eqb, arith)

  break_stands : (u : ℕ) → takes t st (request.Break u z) ≡ false → Stands (lost w (left_by_break w i u)) t
  break_stands u calm = search (stands_lose, or_kept, eqb-true, found_prepared, and_from, both_false, eq-eqb, arith)

  crash_stands : drops t st request.Crash ≡ false → Stands (lost w (left_by_crash w i)) t
  crash_stands calm = search (stands_lose, or_there, eqb-true, found_prepared, and_from, own_t, arith)

  -- a reply to a request that takes nothing
  module _ (start : Beginning) (inv : Inv start w) (home : ℕ → ℕ) (decision : machine.Event) (spares : Spares decision) where
    abbrev events_at : Request → Reply → List machine.Event
    events_at asked said = moves z home decision i w asked said

    abbrev After : Request → Reply → Type 0
    After asked said = Obeys start w (events_at asked said) → Stands (run start w (events_at asked said)) t

    plain : (asked : Request) (said : Reply) → AllSpare (events_at asked said) → After asked said
    plain asked said all may = stands_all start w inv (events_at asked said) may t all stands

    pub moves_stand : (asked : Request) (said : Reply) → (said ≡ reply.Done → (takes t st asked ≡ false) × (drops t st asked ≡ false)) → After asked said
    moves_stand (request.Poll u suite mode) said calm may = plain (request.Poll u suite mode) said (spare_moves z home decision spares i w (request.Poll u suite mode) said refl) may
    moves_stand (request.Upgrade u suite) said calm may = plain (request.Upgrade u suite) said (spare_moves z home decision spares i w (request.Upgrade u suite) said refl) may
    moves_stand (request.Fetch u suite) said calm may = plain (request.Fetch u suite) said (spare_moves z home decision spares i w (request.Fetch u suite) said refl) may
    moves_stand (request.Prepare u parts) said calm may = plain (request.Prepare u parts) said (spare_moves z home decision spares i w (request.Prepare u parts) said refl) may
    moves_stand (request.Decide u decided) said calm may = plain (request.Decide u decided) said (spare_moves z home decision spares i w (request.Decide u decided) said refl) may
    moves_stand (request.Resolve u) said calm may = plain (request.Resolve u) said (spare_moves z home decision spares i w (request.Resolve u) said refl) may
    moves_stand request.Locks said calm may = plain request.Locks said (spare_moves z home decision spares i w request.Locks said refl) may
    moves_stand request.Return said calm may = plain request.Return said (spare_moves z home decision spares i w request.Return said refl) may
    moves_stand (request.Finish u v) reply.Done calm may = finish_stands u v (ended_as v) (calm refl).0
    moves_stand (request.Break u suite) reply.Done calm may =
        elim (z == suite) as (λ b. (z == suite) ≡ b → Stands (run start w (cond b (machine.Lose (left_by_break w i u) ∷ []) [])) t) [
          | true ↦ λ same. break_stands u (subst (λ s. takes t st (request.Break u s) ≡ false) (sym (eqb-true z suite same)) (calm refl).0)
          | false ↦ λ _. stands
        ] refl
    moves_stand request.Crash reply.Done calm may = crash_stands (calm refl).1
    moves_stand another other calm may = stands

    -- and its agent hears
    pub exchange_stands : (asked : Request) (said : Reply) → (said ≡ reply.Done → (takes t st asked ≡ false) × (drops t st asked ≡ false)) → Obeys start w (exchanged z home decision i w asked said)
        → Stands (run start w (exchanged z home decision i w asked said)) t
    exchange_stands asked said calm may =
        let parts = obeys_first start w (events_at asked said) (hears z i asked said) may in
        subst (λ w. Stands w t) (sym (run-append start w (events_at asked said) (hears z i asked said)))
        (stands_all start (run start w (events_at asked said)) (all_steps start w inv (events_at asked said) parts.0) (hears z i asked said) parts.1 t
        (hears_as z i AllSpare asked said (λ _. tt) (λ t exclusive _ _. (tt, tt))) (moves_stand asked said calm parts.0))

-- ---- in a world

-- nothing is taken by what a server is asked that is up
abbrev pub Untaken : ℕ → State → Request → Type 0
Untaken t st asked = st.up ≡ true → (takes t st asked ≡ false) × (drops t st asked ≡ false)

untaken_done : (t : ℕ) (st : State) (asked : Request) → Untaken t st asked → reply_of st asked ≡ reply.Done → (takes t st asked ≡ false) × (drops t st asked ≡ false)
untaken_done t st asked untaken = search arith

-- In an event what is served takes nothing of a transaction.
abbrev pub TakesNothing : Opening → ℕ → worlds.World → Event → Type 0
TakesNothing given t world event = (what : Served) (st : State) → (step (fixed_of given) world event).done.served ≡ Some what → server_at world what.server ≡ Some st → Untaken t st what.request.value

module _ (given : Opening) (z t : ℕ) (w : World) (world : worlds.World) (inv : Inv (beginning z given) w) (shows : Shows z (home_in given) (servers_of given world) w) (stands : Stands w t) where
  shows_at : (i : ℕ) (st : State) → server_at world i ≡ Some st → ShowsAt z st w i
  shows_at i st at = subst (λ st. ShowsAt z st w i) (ap (λ found. unwrap_or found (state.opening i given)) at) (shows.at i)

  spared : (events : List machine.Event) → AllSpare events → Obeys (beginning z given) w events → Stands (run (beginning z given) w events) t
  spared events all may = stands_all (beginning z given) w inv events may t all stands

  abbrev SparesIt : Stepped → Type 0
  SparesIt stepped = (what : Served) (st : State) → stepped.done.served ≡ Some what → server_at world what.server ≡ Some st → Untaken t st what.request.value

  -- The locks that a transaction was told of stand after any event that takes nothing of it.
  pub untaken_stands : (event : Event) → SparesIt (step (fixed_of given) world event) → Obeys (beginning z given) w (events_of given z w world event) → Stands (moved given z w world event) t
  untaken_stands = by_moves given z w world (λ _ _ events stepped. SparesIt stepped → Obeys (beginning z given) w events → Stands (run (beginning z given) w events) t) (record {
    nothing = λ event calm may. stands;
    begins = λ number actor job there calm may. spared (begin_events given z job (Some actor)) (spare_begun z actor.agent.doing (begin (fixed_of given) actor.agent job).doing) may;
    forgets = λ number actor site there calm may. stands;
    answers = λ number actor asked st there next at room calm may.
        let said = reply_of st asked.1 in
        let first = exchanged z (home_in given) (decision_by z w actor.agent.doing) asked.0 w asked.1 said in
        let own = own_events z actor.agent.doing (take (fixed_of given) actor.agent (Replied said)) in
        let parts = obeys_first (beginning z given) w first own may in
        subst (λ w. Stands w t) (sym (run-append (beginning z given) w first own))
        (stands_all (beginning z given) (run (beginning z given) w first) (all_steps (beginning z given) w inv first parts.0) own parts.1 t (spare_own z actor.agent.doing (take (fixed_of given) actor.agent (Replied said)))
        (exchange_stands z t asked.0 w st (shows_at asked.0 st at) stands (beginning z given) inv (home_in given) (decision_by z w actor.agent.doing) (spare_decision z w actor.agent.doing) asked.1 said
        (untaken_done t st asked.1 (calm (what_of asked.0 st (sent actor asked.1)) st refl at)) parts.0));
    lacks = λ event number actor asked why by there next calm may. spared (response_events given z actor (Lacked why)) (spare_own z actor.agent.doing (take (fixed_of given) actor.agent (Lacked why))) may;
    operates = λ event server asked st by there room calm may.
        moves_stand z t server w st (shows_at server st there) stands (beginning z given) inv (home_in given) (decision_by z w None) (spare_decision z w None) asked (reply_of st asked)
        (untaken_done t st asked (calm (what_of server st (unstamped asked)) st refl there)) may;
  })
