-- Transactions that begin in a calm run: where each asks for a lock, what it had before, and that each lock in its name was granted to it.
use Rattle.law_run_recovers.proofs.Vocabulary.{◌*◌, false≢true, all_idle, no_locks, holds_of, ◌<◌, Bool, ◌+◌, CanBe, agent_of, agent_at, Agent, List, None, Option, Some, [], ap, append-nil, append_assoc, arith, false, length, refl, subst, suc, sym}
use Rattle.law_run_recovers.proofs.Vocabulary.{true, ℕ, ⊎_elim, ◌++◌, ◌==◌, ◌∙◌, ◌∷◌, ◌≡◌, ◌⊎◌, eq-eqb, after, eqb-true, none-some, same_Some, cons_option, at_has, has_append, IsNotDecided, Has, all_at, has_from, State, Lock, decisions_from-append}
use Rattle.law_run_recovers.proofs.Vocabulary.{Decided, decided, decisions, decisions_from, run, Actor, World, actor_at, opening, server_at, step, Served, Event, Begin, Crash, Forget, Lack, Return, Step, mode_of, serves, Opening, LockMode, fixed_of}
use Rattle.law_run_recovers.proofs.Vocabulary.{next_of, is_decide, Job, Transaction, Begun, votes_now, asks_for, begun_world, world_after, serves_itself, Rises, agents_ask_for_themselves, counts_rise, AsksForItself, AsksToSweep, all_named, not_begun}
use Rattle.law_run_recovers.proofs.Vocabulary.{no_decide}
use Rattle.law_run_recovers.proofs.AmongCourse.{head_or, tail_or}
use Rattle.law_run_recovers.proofs.BesideUnmet.{begins_there}
use Rattle.law_run_recovers.proofs.Busy.{busy_one, one_named}
use Rattle.law_run_recovers.proofs.Keeps.{IsAtWork, after_append, step_asks}
use Rattle.law_run_recovers.proofs.Open.{its_begin}
use Rattle.law_run_recovers.proofs.Sides.{compared, its_agent, names_one}
use Rattle.law_run_recovers.proofs.MeetCalm.{Fair, Calm, IsOurs, calm_front, ours_front, unswept}
use Rattle.law_run_recovers.proofs.MeetLocks.{owned_at}
use Rattle.law_run_recovers.proofs.MeetQuiet.{GoesQuietly}
use Rattle.law_run_recovers.proofs.MeetReach.{Reached, reached_wider, reaches_now}
use Rattle.law_run_recovers.proofs.MeetRun.{its_actor, goes_of, never_decides, rest_of_last, run_is}
use Rattle.law_run_recovers.proofs.MeetTold.{for_lock, for_lock_named, says_held, asks_at_work, grants, some_step, found_in, there_in, four_from}
use Rattle.law_run_recovers.proofs.MeetUndecided.{not_decided_at_work, lock_decides_none}

-- ---- lists

pub cancel : {X : Type 0} (xs ys zs : List X) → xs ++ ys ≡ xs ++ zs → ys ≡ zs
cancel [] ys zs is = is
cancel (x ∷ xs) ys zs is = cancel xs ys zs (ap tail_or is)

-- ---- events that begin

abbrev pub agent_in : Event → ℕ
agent_in (Begin i job) = i
agent_in (Step i) = i
agent_in (Crash server) = server
agent_in (Return server) = server
agent_in (Forget i site) = i
agent_in (Lack i why) = i

-- where a transaction begins, and its moments from there on
abbrev pub its_event : (given : Opening) (events later : List Event) → Begun given events later → Event
its_event given events later who = Begin who.agent (Transaction who.caller who.site who.ops)

abbrev pub moment : (given : Opening) (events later : List Event) → Begun given events later → List Event → List Event
moment given events later who mid = who.before ++ Begin who.agent (Transaction who.caller who.site who.ops) ∷ mid

-- two that begin at one place are one
pub record IsSame (given : Opening) (events later : List Event) (b who : Begun given events later) : Type 0 where
  pub event : Begin b.agent (Transaction b.caller b.site b.ops) ≡ Begin who.agent (Transaction who.caller who.site who.ops)
  pub t : b.t ≡ who.t
  pub after : b.after ≡ who.after

pub same_place : (given : Opening) (events later : List Event) (b who : Begun given events later) → b.before ≡ who.before → IsSame given events later b who
same_place given events later b who same = search (tail_or, cancel, head_or, same_Some, arith)

-- who granted a transaction a lock in a part of a run
abbrev pub held_in : Opening → List Event → List Event → ℕ → ℕ → ℕ → LockMode → ℕ → Bool
held_in given events part agent t z mode server = some_step (grants t z mode server) agent (fixed_of given) (run given events) part

pub world_in : (given : Opening) (events part : List Event) → after (fixed_of given) (run given events) part ≡ run given (events ++ part)
world_in given events part = sym (after_append (fixed_of given) events part (opening given))

-- where no server has a lock as these events begin
pub none_first : (given : Opening) (events : List Event) → no_locks (run given events) ≡ true → (s : ℕ) (st : State) → server_at (run given (events ++ [])) s ≡ Some st → (lock : Lock) → Has st.locks lock → ⊥
none_first given events free s st at lock has =
    of st.locks (all_at (λ (st : State). length st.locks == 0) (run given events).servers st free (at_has (run given events).servers s st (ap (λ all. server_at (run given all) s) (sym (append-nil events)) ∙ at))) lock has
  where
    of : (locks : List Lock) → (length locks == 0) ≡ true → (lock : Lock) → Has locks lock → ⊥
    of [] is lock has = has
    of (one ∷ locks) is lock has = let some : suc (length locks) ≡ 0 = eqb-true (suc (length locks)) 0 is in omega (arith, some)

-- ---- who asks

module _ (given : Opening) (events later : List Event) where
  -- a step of an agent is of a transaction, at a moment of it
  pub record Place (who : Begun given events later) (so_far : List Event) (i t : ℕ) : Type 0 where
    pub mid : List Event
    pub parts : so_far ≡ who.before ++ Begin who.agent (Transaction who.caller who.site who.ops) ∷ mid
    pub who_is : i ≡ who.agent
    pub number : t ≡ who.t

  -- who asks for a lock in a name is one that began, where every agent was idle
  module _ (part rest : List Event) (whole : later ≡ part ++ rest) (fair : Fair given events part) (idle : all_idle (run given events) ≡ true) (so_far back : List Event) (i : ℕ) (split : part ≡ so_far ++ Step i ∷ back) (what : Served)
      (served : (step (fixed_of given) (run given (events ++ so_far)) (Step i)).done.served ≡ Some what) (t z : ℕ) (lock : for_lock t z what.request.value ≡ true) where
    abbrev pub w : World
    w = run given (events ++ so_far)

    pub asks : (here : Actor) × (actor_at (run given (events ++ so_far)) i ≡ Some here) × (next_of (fixed_of given) here.agent ≡ Some (what.server, what.request.value))
    asks = step_asks (fixed_of given) w i (actor_at w i) what served

    abbrev pub b : Begun given events so_far
    b = (busy_one given events part fair.can (unswept given events part fair) idle so_far (Step i ∷ back) split i asks.0 asks.1 (what.server, what.request.value) asks.2).one

    who_asks : b.agent ≡ i
    who_asks = (busy_one given events part fair.can (unswept given events part fair) idle so_far (Step i ∷ back) split i asks.0 asks.1 (what.server, what.request.value) asks.2).who

    numbered : b.t ≡ t
    numbered = names_one b.t t what.request.value (one_named given events part fair.can (unswept given events part fair) idle so_far (Step i ∷ back) split i asks.0 asks.1 (what.server, what.request.value) asks.2) (for_lock_named t z what.request.value lock).0

    abbrev pub third : Begun given events later
    third = record {
      before = b.before;
      after = b.after ++ Step i ∷ (back ++ rest);
      agent = b.agent;
      t = b.t;
      caller = b.caller;
      site = b.site;
      ops = b.ops;
      parts = whole ∙ ap (λ part. part ++ rest) split ∙ append_assoc so_far (Step i ∷ back) rest ∙ ap (λ xs. xs ++ Step i ∷ (back ++ rest)) b.parts
          ∙ append_assoc b.before (Begin b.agent (Transaction b.caller b.site b.ops) ∷ b.after) (Step i ∷ (back ++ rest));
      begins = b.begins;
    }

    -- as one that begins where it does
    pub place_of : (who : Begun given events later) → third.before ≡ who.before → Place who so_far i t
    place_of who is =
        let same = same_place given events later third who is in
        record {
          mid = b.after;
          parts = b.parts ∙ ap (λ before. before ++ Begin b.agent (Transaction b.caller b.site b.ops) ∷ b.after) is ∙ ap (λ event. who.before ++ event ∷ b.after) same.event;
          who_is = sym who_asks ∙ ap agent_in same.event;
          number = sym numbered ∙ same.t;
        }

  -- what it asks for it asks for on the table of the first world, and had before what it asks for before
  module _ (part : List Event) {still : ℕ → Type 0} (calm : Calm given events part still) (who : Begun given events later) (ours : IsOurs given events part still who.agent who.t who.caller who.ops) (so_far back : List Event) (i : ℕ) (split : part ≡ so_far ++ Step i ∷ back) (what : Served)
      (served : (step (fixed_of given) (run given (events ++ so_far)) (Step i)).done.served ≡ Some what) (t z : ℕ) (lock : for_lock t z what.request.value ≡ true) (at : Place who so_far i t) where
    -- up to there
    abbrev cut : List Event
    cut = so_far ++ Step i ∷ []

    cut_is : part ≡ (so_far ++ Step i ∷ []) ++ back
    cut_is = split ∙ sym (append_assoc so_far (Step i ∷ []) back)

    cut_calm : Calm given events (so_far ++ Step i ∷ []) still
    cut_calm = calm_front given events cut back still (subst (λ part. Calm given events part still) cut_is calm)

    abbrev mid : List Event
    mid = at.mid ++ Step who.agent ∷ []

    abbrev its : Begun given events (so_far ++ Step i ∷ [])
    its = record {
      before = who.before;
      after = at.mid ++ Step who.agent ∷ [];
      agent = who.agent;
      t = who.t;
      caller = who.caller;
      site = who.site;
      ops = who.ops;
      parts = ap (λ i. so_far ++ Step i ∷ []) at.who_is ∙ ap (λ xs. xs ++ Step who.agent ∷ []) at.parts ∙ append_assoc who.before (its_event given events later who ∷ at.mid) (Step who.agent ∷ []);
      begins = who.begins;
    }

    cut_ours : IsOurs given events (so_far ++ Step i ∷ []) still who.agent who.t who.caller who.ops
    cut_ours = ours_front given events part cut back still who.agent who.t who.caller who.ops cut_is ours

    goes : GoesQuietly given events (events ++ who.before) (at.mid ++ Step who.agent ∷ []) who.agent who.t who.caller who.site who.ops (its_actor given events (so_far ++ Step i ∷ []) cut_calm its).0
    goes = goes_of given events cut cut_calm its cut_ours

    world_is : world_after given (events ++ who.before) who.agent who.caller who.site who.ops at.mid ≡ run given (events ++ so_far)
    world_is = run_is given events cut cut_calm its at.mid ∙ ap (λ xs. run given (events ++ xs)) (sym at.parts)

    served_then : (step (fixed_of given) (world_after given (events ++ who.before) who.agent who.caller who.site who.ops at.mid) (Step who.agent)).done.served ≡ Some what
    served_then = ap (λ w. (step (fixed_of given) w (Step who.agent)).done.served) world_is ∙ ap (λ i. (step (fixed_of given) (run given (events ++ so_far)) (Step i)).done.served) (sym at.who_is) ∙ served

    lock_then : for_lock who.t z what.request.value ≡ true
    lock_then = subst (λ t. for_lock t z what.request.value ≡ true) at.number lock

    -- it is at work there, and so was not decided before
    pub works_then : IsAtWork (world_after given (events ++ who.before) who.agent who.caller who.site who.ops at.mid) who.agent who.t
    works_then =
        asks_at_work given events (events ++ who.before) mid who.agent who.t who.caller who.site who.ops (its_actor given events cut cut_calm its).0 goes at.mid [] refl what served_then z lock_then

    undecided_then : IsNotDecided (decisions given (events ++ (so_far ++ Step i ∷ []))) who.t
    undecided_then d there same = ⊎_elim before now parted'
      where
        whole_is : (events ++ who.before) ++ Begin who.agent (Transaction who.caller who.site who.ops) ∷ at.mid ≡ events ++ so_far
        whole_is = append_assoc events who.before (its_event given events later who ∷ at.mid) ∙ ap (λ all. events ++ all) (sym at.parts)

        parted' : Has (decisions given (events ++ so_far)) d ⊎ Has (decisions_from (fixed_of given) (run given (events ++ so_far)) (Step i ∷ [])) d
        parted' =
            has_append (decisions given (events ++ so_far)) (decisions_from (fixed_of given) (run given (events ++ so_far)) (Step i ∷ [])) d
            (subst (λ list. Has list d) (decisions_from-append (fixed_of given) (opening given) (events ++ so_far) (Step i ∷ []))
            (subst (λ all. Has (decisions given all) d) (sym (append_assoc events so_far (Step i ∷ []))) (has_from (decisions given (events ++ cut)) d there)))

        before : Has (decisions given (events ++ so_far)) d → ⊥
        before has =
            not_decided_at_work given (events ++ who.before) mid who.agent who.t who.caller who.site who.ops (its_actor given events cut cut_calm its).0 goes.can goes.there goes.begins at.mid works_then
            d (subst (λ all. Has (decisions given all) d) (sym whole_is) has) same

        asks_not : is_decide what.request.value ≡ false
        asks_not = lock_decides_none t z what.request.value lock

        now : Has (decisions_from (fixed_of given) (run given (events ++ so_far)) (Step i ∷ [])) d → ⊥
        now has = of (decided (fixed_of given) (run given (events ++ so_far)) (Step i)) refl has
          where
            none : decided (fixed_of given) (run given (events ++ so_far)) (Step i) ≡ None
            none = search (no_decide, asks_not, arith)

            of : (found : Option Decided) → decided (fixed_of given) (run given (events ++ so_far)) (Step i) ≡ found → Has (cons_option found []) d → ⊥
            of found h1 h2 = search (none-some, none, arith)

    pub reached_then : Reached (votes_now given events) (asks_for given events who.t who.caller who.ops) (held_in given events part who.agent who.t) (z, mode_of what.request.value)
    reached_then =
        reached_wider (votes_now given events) (asks_for given events who.t who.caller who.ops) _ (held_in given events part who.agent who.t)
        (λ y mode server is. held_before y mode server is) (z, mode_of what.request.value)
        (reaches_now given events (events ++ who.before) mid who.agent who.t who.caller who.site who.ops (its_actor given events cut cut_calm its).0 goes (never_decides given events cut cut_calm its cut_ours undecided_then)
        at.mid [] refl what served_then z lock_then)
      where
        -- what it was granted since its begin it was granted in the part
        held_before : (y : ℕ) (mode : LockMode) (server : ℕ) → some_step (grants who.t y mode server) who.agent (fixed_of given) (begun_world given (events ++ who.before) who.agent who.caller who.site who.ops) (at.mid ++ Step who.agent ∷ []) ≡ true
            → held_in given events part who.agent who.t y mode server ≡ true
        held_before y mode server is =
            let p = grants who.t y mode server in
            let f = found_in p who.agent (fixed_of given) (begun_world given (events ++ who.before) who.agent who.caller who.site who.ops) mid is in
            let front = moment given events later who f.front in
            let all : part ≡ front ++ Step who.agent ∷ (f.back ++ back) =
            cut_is ∙ ap (λ xs. xs ++ back) (its.parts ∙ ap (λ after. who.before ++ its_event given events later who ∷ after) f.parts ∙ sym (append_assoc who.before (its_event given events later who ∷ f.front) (Step who.agent ∷ f.back)))
            ∙ append_assoc front (Step who.agent ∷ f.back) back in
            subst (λ part. some_step p who.agent (fixed_of given) (run given events) part ≡ true) (sym all)
            (there_in p who.agent (fixed_of given) front (f.back ++ back) (run given events) f.what
            (ap (λ w. (step (fixed_of given) w (Step who.agent)).done.served) (world_in given events front ∙ sym (run_is given events cut cut_calm its f.front)) ∙ f.served) f.is)

    -- and who grants it holds it so
    pub held_then : says_held what.reply.value ≡ true → held_in given events part who.agent who.t z (mode_of what.request.value) what.server ≡ true
    held_then held' =
        subst (λ part. some_step (grants who.t z (mode_of what.request.value) what.server) who.agent (fixed_of given) (run given events) part ≡ true) (sym (split ∙ ap (λ i. so_far ++ Step i ∷ back) at.who_is))
        (there_in (grants who.t z (mode_of what.request.value) what.server) who.agent (fixed_of given) so_far back (run given events) what
        (ap (λ w. (step (fixed_of given) w (Step who.agent)).done.served) (world_in given events so_far) ∙ ap (λ i. (step (fixed_of given) (run given (events ++ so_far)) (Step i)).done.served) (sym at.who_is) ∙ served)
        (four_from (what.server == what.server) (for_lock who.t z what.request.value) (says_held what.reply.value) (serves (mode_of what.request.value) (mode_of what.request.value)) (eq-eqb what.server what.server refl)
        lock_then held' (serves_itself (mode_of what.request.value))))

-- ---- counts

rises : (given : Opening) (events : List Event) (w : World) → Rises (agent_at w) (agent_at (after (fixed_of given) w events))
rises given [] w i a at = (a, at, omega arith)
rises given (event ∷ events) w i a at =
    let one = counts_rise (fixed_of given) w event i a at in
    let more = rises given events (step (fixed_of given) w event).world i one.0 one.1 in
    let first = one.2 in
    let then' = more.2 in
    (more.0, more.1, omega (arith, first, then'))

module _ (given : Opening) (events later : List Event) (can : CanBe given (events ++ later)) where
  -- what has begun was not begun before it began
  not_before : (who : Begun given events later) (so_far more : List Event) → who.before ≡ so_far ++ more → (i : ℕ) (here : Actor) → actor_at (run given (events ++ so_far)) i ≡ Some here → i ≡ who.agent
      → who.t + 64 ≡ 64 * here.agent.count + i → ⊥
  not_before who so_far more is i here there same last =
      let a = begins_there given (run given (events ++ who.before)) who.agent who.t (Transaction who.caller who.site who.ops) who.begins in
      let first = (its_begin given (events ++ who.before) who.after who.agent who.t who.caller who.site who.ops a.0
      (subst (CanBe given) (ap (λ later. events ++ later) who.parts ∙ sym (append_assoc events who.before (Begin who.agent (Transaction who.caller who.site who.ops) ∷ who.after))) can) a.1 who.begins).0 in
      let risen = rises given more (run given (events ++ so_far)) i here.agent (ap agent_of there) in
      let world : after (fixed_of given) (run given (events ++ so_far)) more ≡ run given (events ++ who.before) =
      world_in' (events ++ so_far) more ∙ ap (run given) (append_assoc events so_far more ∙ ap (λ before. events ++ before) (sym is)) in
      let now : risen.0 ≡ a.0.agent = same_Some risen.0 a.0.agent (sym risen.1 ∙ ap (λ w. agent_at w i) world ∙ ap (agent_at (run given (events ++ who.before))) same ∙ ap agent_of a.1) in
      let counts : risen.0.count ≡ a.0.agent.count = ap (λ (a : Agent). a.count) now in
      let up = risen.2 in
      omega (arith, last, first, counts, up, same)
    where
      world_in' : (all more : List Event) → after (fixed_of given) (run given all) more ≡ run given (all ++ more)
      world_in' all more = sym (after_append (fixed_of given) all more (opening given))

  -- who asks for a lock in its name does so at a moment of it
  pub place : (part rest : List Event) → later ≡ part ++ rest → Fair given events part → (so_far back : List Event) (i : ℕ) → part ≡ so_far ++ Step i ∷ back → (what : Served)
      → (step (fixed_of given) (run given (events ++ so_far)) (Step i)).done.served ≡ Some what → (t z : ℕ) → for_lock t z what.request.value ≡ true → (who : Begun given events later) → t ≡ who.t → Place given events later who so_far i t
  place part rest whole fair so_far back i split what served t z lock who same =
      ⊎_elim
      (λ here. absurd (not_step i who.agent (Transaction who.caller who.site who.ops) here.1))
      (λ apart. ⊎_elim
      (λ early. absurd (not_before who so_far (Step i ∷ early.0) early.1 i asks'.0 asks'.1 agents last))
      (λ late. record { mid = late.0; parts = late.1; who_is = agents; number = same })
      apart)
      (compared so_far who.before (Step i) (its_event given events later who) (back ++ rest) who.after
      (sym (append_assoc so_far (Step i ∷ back) rest) ∙ ap (λ part. part ++ rest) (sym split) ∙ sym whole ∙ who.parts))
    where
      not_step : (i k : ℕ) (job : Job) → Step i ≡ Begin k job → ⊥
      not_step i k job is = cc

      asks' : (here : Actor) × (actor_at (run given (events ++ so_far)) i ≡ Some here) × (next_of (fixed_of given) here.agent ≡ Some (what.server, what.request.value))
      asks' = step_asks (fixed_of given) (run given (events ++ so_far)) i (actor_at (run given (events ++ so_far)) i) what served

      itself : AsksForItself given i asks'.0.agent what.server what.request.value
      itself = ⊎_elim
          (λ own. own)
          (λ (sweeps : AsksToSweep asks'.0.agent what.request.value). absurd (false≢true (sym (for_lock_named t z what.request.value lock).2 ∙ sweeps.swept)))
          (agents_ask_for_themselves given can.accepted (events ++ so_far) i asks'.0 what.server what.request.value asks'.1 asks'.2)

      number : itself.task.t ≡ who.t
      number = names_one itself.task.t t what.request.value itself.named (for_lock_named t z what.request.value lock).0 ∙ same

      small : i < 64
      small = (holds_of given can.accepted (events ++ so_far)).agents.small i asks'.0.agent (ap agent_of asks'.1)

      last : who.t + 64 ≡ 64 * asks'.0.agent.count + i
      last = let is = itself.last in let same' = number in omega (arith, is, same')

      agents : i ≡ who.agent
      agents =
          sym (rest_of_last who.t asks'.0.agent.count i last small) ∙ its_agent given can.accepted (events ++ who.before) who.agent who.t (Transaction who.caller who.site who.ops) who.begins

  -- and no server has a lock of it as these events begin
  pub none_yet : (who : Begun given events later) (s : ℕ) (st : State) → server_at (run given (events ++ [])) s ≡ Some st → (lock : Lock) → Has st.locks lock → lock.t ≡ who.t → ⊥
  none_yet who s st at lock has same =
      let named = (all_named given can.accepted events s st (ap (λ all. server_at (run given all) s) (sym (append-nil events)) ∙ at)).locks lock has in
      let risen = rises given who.before (run given events) named.index named.agent named.at in
      let rising = named.before in
      let more = risen.2 in
      not_begun given can.accepted (events ++ who.before) who.agent who.t (Transaction who.caller who.site who.ops) who.begins
      (record {
        index = named.index;
        agent = risen.0;
        at = ap (λ w. agent_at w named.index) (after_append (fixed_of given) events who.before (opening given)) ∙ risen.1;
        place = named.place;
        numbered = sym same ∙ named.numbered;
        before = omega (arith, rising, more);
      })

  -- ---- a part of the run

  module _ (part rest : List Event) (whole : later ≡ part ++ rest) {still : ℕ → Type 0} (calm : Calm given events part still) (who : Begun given events later) (ours : IsOurs given events part still who.agent who.t who.caller who.ops) where
    -- a lock that it was granted
    pub record IsGranted (s t z : ℕ) (mode : LockMode) : Type 0 where
      pub number : t ≡ who.t
      pub reached : Reached (votes_now given events) (asks_for given events who.t who.caller who.ops) (held_in given events part who.agent who.t) (z, mode)
      pub held : held_in given events part who.agent who.t z mode s ≡ true

    pub granted_now : (so_far back : List Event) (i : ℕ) → part ≡ so_far ++ Step i ∷ back → (what : Served) → (step (fixed_of given) (run given (events ++ so_far)) (Step i)).done.served ≡ Some what
        → (t z : ℕ) → for_lock t z what.request.value ≡ true → says_held what.reply.value ≡ true → t ≡ who.t → IsGranted what.server t z (mode_of what.request.value)
    granted_now so_far back i split what served t z lock held' same = search (place, reached_then, held_then, arith)

    -- each of its locks it was granted
    pub all_granted : (so_far back : List Event) → part ≡ so_far ++ back → (s : ℕ) (st : State) → server_at (run given (events ++ so_far)) s ≡ Some st → (lock : Lock) → Has st.locks lock
        → lock.t ≡ who.t → IsGranted s lock.t lock.suite lock.mode
    all_granted so_far back split s st at lock has =
        owned_at given events part calm.fair (λ s t z mode. t ≡ who.t → IsGranted s t z mode)
        (λ so_far back i split what served t z lock held' same. granted_now so_far back i split what served t z lock held' same)
        (λ s st at lock has same. absurd (none_yet who s st at lock has same)) so_far back split s st at lock has

-- one, as it goes in a part
abbrev pub in_part : (given : Opening) (events later part : List Event) (who : Begun given events later) (after : List Event) → part ≡ who.before ++ Begin who.agent (Transaction who.caller who.site who.ops) ∷ after → Begun given events part
in_part given events later part who after parts = record { before = who.before; after = after; agent = who.agent; t = who.t; caller = who.caller; site = who.site; ops = who.ops; parts = parts; begins = who.begins }
