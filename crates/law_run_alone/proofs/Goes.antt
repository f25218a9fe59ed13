-- A transaction whose agent alone asks servers, with the machine of each suite, at any moment: what it asks finds the locks that it stands on, and what it is replied is free.
use Rattle.law_run_alone.proofs.Vocabulary.{◌≡◌, ℕ, Bool, true, false, List, [], ◌∷◌, ◌++◌, append_assoc, Option, Some, refl, sym, ap, subst, ◌∙◌, Identity, IsValid, Opening, Op, Request, is_lost, copy_of, State, reply_of, arith, Transaction, Fixed}
use Rattle.law_run_alone.proofs.Vocabulary.{TransactionRun, Doing, Running, stands_on_locks, fixed_of, next_of, Event, Begin, Actor, server_at, actor_at, step, run, decisions, names, ended, Holds, holds_of, machine_of, CanBe, begins_job}
use Rattle.law_one_table.proofs.Running.{machine_one}
use Rattle.law_suite_machine.specs.Machine.{World}
use Rattle.law_run_machine.specs.Machines.{moved}
use Rattle.law_run_machine.proofs.Following.{event_comes}
use Rattle.law_headline.proofs.Together.{goes_on}
use Rattle.rep_core.specs.declared.reply.Verdict.TheVariants as verdict
use Rattle.run_core.specs.Worlds as worlds
use Rattle.law_run_alone.proofs.Own.{IsOwnAt, up_where}
use Rattle.law_run_alone.proofs.Turns.{doing_of}
use Rattle.law_run_alone.proofs.Owns.{IsMine, Owns, IsCalm, names_mine, event_owns, begun_owns}
use Rattle.law_run_alone.proofs.Votes.{copy_valid}
use Rattle.law_run_alone.proofs.Walks.{AllServers, MayAsk, asks_servers}
use Rattle.law_run_alone.proofs.Named.{no_record}
use Rattle.law_run_alone.proofs.Unswept.{is_resolve, Unswept, stays_unswept}
use Rattle.law_run_alone.proofs.Exchanged.{IsFree}
use Rattle.law_run_alone.proofs.Unhindered.{AllConsistent, all_consistent, free_reply}
use Rattle.law_run_alone.proofs.Reached.{can_front, run_more}
use Rattle.law_run_alone.proofs.Holding.{PhaseStands, DoingStands, event_stands}
use Rattle.law_run_alone.proofs.Whole.{Carried, next_machines, carried_next, carried_by}
use Rattle.law_run_alone.proofs.Requests.{not_lost, stands_where}
use Rattle.law_run_alone.proofs.Untold.{AllStand, begun_stands, started_untold}

module _ (given : Opening) (up : ℕ → Bool) (t turn : ℕ) where
  abbrev fixed : Fixed
  fixed = fixed_of given

  -- where these events are to come
  pub record Goes (w : worlds.World) (later : List Event) : Type 0 where
    pub owns : Owns up w t turn
    pub unswept : AllServers (Unswept t) w
    pub machines : ℕ → World
    pub carried : Carried given machines w later
    pub stand : AllStand machines w t turn
    pub all : List Event
    pub run_is : w ≡ run given all
    pub machines_are : (z : ℕ) → machines z ≡ machine_of given z all
    pub can : CanBe given (all ++ later)

  module _ (w : worlds.World) (later : List Event) (g : Goes w later) where
    pub holds_at : Holds fixed w (decisions given g.all) (ended given g.all)
    holds_at = subst (λ w. Holds fixed w (decisions given g.all) (ended given g.all)) (sym g.run_is) (holds_of given g.can.accepted g.all)

    copies : (i : ℕ) (st : State) → server_at w i ≡ Some st → (z : ℕ) → IsValid (copy_of st.store z).prefix.votes
    copies = subst (λ w. (i : ℕ) (st : State) → server_at w i ≡ Some st → (z : ℕ) → IsValid (copy_of st.store z).prefix.votes) (sym g.run_is) (copy_valid given g.all (can_front given g.all later g.can))

    consistent : AllConsistent w
    consistent = subst AllConsistent (sym g.run_is) (all_consistent given g.all)

    -- ---- what it asks

    module _ (here : Actor) (there : actor_at w turn ≡ Some here) where
      pub own_mine : IsMine t here.agent.doing
      own_mine = subst (IsMine t) (ap doing_of there) g.owns.mine

      pub record OfCourse : Type 0 where
        pub txn_run : TransactionRun
        pub running : here.agent.doing ≡ Some (Running txn_run)
        pub same : txn_run.task.t ≡ t

      course_of : (asked : ℕ × Request) → next_of fixed here.agent ≡ Some asked → (doing : Option Doing) → here.agent.doing ≡ doing → IsMine t doing → OfCourse
      course_of asked h1 doing h3 h4 = search arith

      module _ (asked : ℕ × Request) (st : State) (next : next_of fixed here.agent ≡ Some asked) (at : server_at w asked.0 ≡ Some st) where
        pub own_course : OfCourse
        own_course = course_of asked next here.agent.doing refl own_mine

        pub own_server : IsOwnAt (up asked.0) t st
        own_server = g.owns.servers asked.0 st at

        pub own_named : names t asked.1 ≡ true
        own_named = names_mine fixed t here.agent.doing asked own_mine next

        stands : (c : OfCourse) (z : ℕ) → PhaseStands (g.machines z) c.txn_run.task.t c.txn_run.phase
        stands c z = subst (λ t. PhaseStands (g.machines z) t c.txn_run.phase) (sym c.same) (subst (DoingStands (g.machines z) t) c.running (g.stand z here there))

        own_kept : is_lost (reply_of st asked.1) ≡ false
        own_kept = not_lost given g.can.c0 w later g.machines g.carried turn here own_course.txn_run there own_course.running (stands own_course) asked next st at

        pub own_up : stands_on_locks asked.1 ≡ true → up asked.0 ≡ true
        own_up on =
            let some = stands_where given g.can.c0 w later g.machines g.carried turn here own_course.txn_run there own_course.running (stands own_course) asked next on st at in
            up_where (up asked.0) t st own_server some.lock some.has (some.of_it ∙ own_course.same)

        -- its reply is free
        pub own_free : IsFree (up asked.0) asked.1 (reply_of st asked.1)
        own_free = free_reply (up asked.0) t st asked.1 own_named own_server (consistent asked.0 st at) (copies asked.0 st at) (g.unswept asked.0 st at) own_kept own_up

  -- ---- one event

  module _ (w : worlds.World) (event : Event) (later : List Event) (g : Goes w (event ∷ later)) (calm : IsCalm given up turn w event) where
    pub no_resolve : (event : Event) → IsCalm given up turn w event → MayAsk fixed (λ _ asked. is_resolve asked ≡ false) w event
    no_resolve event h1 = search arith

    abbrev pub goes_next : Goes (step fixed w event).world later
    goes_next = record {
      owns = event_owns given up t turn w (decisions given g.all) (ended given g.all) (holds_at w (event ∷ later) g) g.owns event calm;
      unswept = asks_servers fixed (λ _. Unswept t) (λ _ asked. is_resolve asked ≡ false) (λ _. stays_unswept t) w g.unswept event (no_resolve event calm);
      machines = next_machines given g.machines w event;
      carried = carried_next given g.can.c0 g.machines w event later g.carried;
      stand = λ z.
          let now = (g.carried.whole z).together in
          let keeps = (goes_on given z (g.machines z) w now event (g.carried.owes z).0).0 in
          event_stands given up t turn w z (g.machines z) now.inv (g.stand z) event (event_comes given z (g.machines z) w now.inv now.shows now.all event keeps).obeys calm;
      all = g.all ++ event ∷ [];
      run_is = ap (λ w. (step fixed w event).world) g.run_is ∙ sym (run_more given g.all event);
      machines_are = λ z.
          ap (λ old. moved given z old w event) (g.machines_are z) ∙ ap (λ w. moved given z (machine_of given z g.all) w event) g.run_is ∙ sym (machine_one given z g.all event);
      can = subst (CanBe given) (sym (append_assoc g.all (event ∷ []) later)) g.can;
    }

  -- ---- from its begin on

  module _ (events later : List Event) (caller : Identity) (site : ℕ) (ops : List Op) (can : CanBe given (events ++ Begin turn (Transaction caller site ops) ∷ later))
      (begins : begins_job given (run given events) (Begin turn (Transaction caller site ops)) ≡ Some (t, Transaction caller site ops)) (servers : (i : ℕ) (st : State) → server_at (run given events) i ≡ Some st → IsOwnAt (up i) t st) where
    abbrev pub event : Event
    event = Begin turn (Transaction caller site ops)

    abbrev pub old : ℕ → World
    old z = machine_of given z events

    pub first_owns : Owns up (step fixed (run given events) event).world t turn
    first_owns = begun_owns given up (run given events) (decisions given events) (ended given events) (holds_of given can.accepted events) turn t caller site ops servers (actor_at (run given events) turn) refl begins

    pub first_carried : Carried given (next_machines given old (run given events) event) (step fixed (run given events) event).world later
    first_carried = carried_next given can.c0 old (run given events) event later (carried_by given events (event ∷ later) can)

    abbrev pub goes_first : Goes (step fixed (run given events) event).world later
    goes_first = record {
      owns = first_owns;
      unswept = asks_servers fixed (λ _. Unswept t) (λ _ asked. is_resolve asked ≡ false) (λ _. stays_unswept t) (run given events)
          (λ i st at aborted. no_record given can.accepted events turn t (Transaction caller site ops) begins i st at verdict.Aborted aborted) event tt;
      machines = next_machines given old (run given events) event;
      carried = first_carried;
      stand = begun_stands given (next_machines given old (run given events) event) (step fixed (run given events) event).world later t turn first_owns.mine first_carried
          (started_untold given (run given events) turn t caller site ops (actor_at (run given events) turn) refl begins);
      all = events ++ event ∷ [];
      run_is = sym (run_more given events event);
      machines_are = λ z. sym (machine_one given z events event);
      can = subst (CanBe given) (sym (append_assoc events (event ∷ []) later)) can;
    }
