-- One try of a transaction where its votes are up: it is decided where its home is up, and leaves all as it was where it is not.
use Rattle.law_run_recovers.proofs.Vocabulary.{◌≡◌, ◌⊎◌, inl, inr, ⊎_elim, ℕ, ◌+◌, true, false, cond, List, [], ◌∷◌, ◌++◌, append-nil, length, Some, None, is_some, refl, sym, ap, subst, ◌∙◌, ◌&&◌, not, none_of as idle_none, false≢true, arith}
use Rattle.law_run_recovers.proofs.Vocabulary.{none-some, same_Some, Identity, Opening, Prefix, Op, reply_of, Cache, Transaction, home_of, after_reply, Agent, fixed_of, begin, started, Event, Begin, Step, Actor, World, actor_at, has_no_job, step}
use Rattle.law_run_recovers.proofs.Vocabulary.{dones, outcomes, run, table_of, machine_of, all_keep, all_consistent, is_up, up_free, Demand, first_short, is_met, all_met, led_to, led_to_by, newer_from, MayStart, VotesAreUp, GoesAlone, answer_on}
use Rattle.law_run_recovers.proofs.Vocabulary.{OneIsDecided, begun_world, world_after}
use Rattle.law_one_table.proofs.Effects as effects
use Rattle.law_run_recovers.proofs.AloneKept.{up_same, many, free_then, table_same, shown_then}
use Rattle.law_run_recovers.proofs.AloneLaws.{steadily, calm, now_at, own_then}
use Rattle.law_run_recovers.proofs.AmongCourse.{Course, RunsIt, runs_it, course_runs, next_is, apart_on}
use Rattle.law_run_recovers.proofs.AmongEnds.{Over}
use Rattle.law_run_recovers.proofs.AmongLeft.{left_at}
use Rattle.law_run_recovers.proofs.AmongOver.{over_then}
use Rattle.law_run_recovers.proofs.AmongBegin.{begun, first_course}
use Rattle.law_run_recovers.proofs.AmongStep.{here_is, own_on, there_then}
use Rattle.law_run_recovers.proofs.Apart.{event_apart}
use Rattle.law_run_recovers.proofs.Aside.{Aside, event_aside}
use Rattle.law_run_recovers.proofs.Found.{all_answer}
use Rattle.law_run_recovers.proofs.Hinted.{execute_hints, reply_hints}
use Rattle.law_run_recovers.proofs.Led.{rules_of}
use Rattle.law_run_recovers.proofs.NearGround.{its, first_asked, sight, Known, ground, can_first}
use Rattle.law_run_recovers.proofs.Open.{alone_is_unmet, begun_actor, begun_there, clear_first, near_alone, near_among, plain_way, unmet_is_among_locks}
use Rattle.law_run_recovers.proofs.Polled.{Sight, finds_at}
use Rattle.law_run_recovers.proofs.Rows.{start_was}
use Rattle.law_run_recovers.proofs.SameDemands.{HintsLed, hints_alike, same_so_far, still_up}
use Rattle.law_run_recovers.proofs.Steady.{GoesSteadily, never_hindered}
use Rattle.law_run_recovers.proofs.StepsServed.{OwnTook, own_took}
use Rattle.law_run_recovers.proofs.UnmetLaws.{open_where_free, unmet_by_votes}
use Rattle.law_run_recovers.proofs.Picks.{along}
use Rattle.law_run_recovers.proofs.Unmoved.{decided_ending}

-- ---- how it ends

none_of : (all : List Demand) → all_met all ≡ true → first_short all ≡ None
none_of [] met = refl
none_of (one ∷ all) met =
    elim (is_met one) as (λ b. (b && all_met all) ≡ true → cond (not b) (Some one) (first_short all) ≡ None) [
      | true ↦ λ met. none_of all met
      | false ↦ λ met. absurd (false≢true met)
    ] met

-- ---- one try

module _ (given : Opening) (events later : List Event) (agent t : ℕ) (caller : Identity) (site : ℕ) (ops : List Op) (actor : Actor) (goes : GoesAlone given events later agent t caller site ops actor) where
  abbrev world_at : List Event → World
  world_at so_far = world_after given events agent caller site ops so_far

  abbrev pub steady_so : GoesSteadily given events later agent t caller site ops actor
  steady_so = steadily given events later agent t caller site ops actor goes

  abbrev its_sight : Sight
  its_sight = sight given events later agent t caller site ops actor steady_so

  -- ---- what its site is hinted

  -- what it was as it began, or where a suite was found
  abbrev LedTo : Cache → Type 0
  LedTo now = HintsLed (λ z start. led_to_by (fixed_of given) (run given events) (finds_at its_sight z) z start) (fixed_of given) actor.agent.cache site now

  -- its agent is idle
  record IsIdle (so_far : List Event) : Type 0 where
    here : Actor
    there : actor_at (world_after given events agent caller site ops so_far) agent ≡ Some here
    none : here.agent.doing ≡ None
    led : LedTo here.agent.cache

  abbrev CourseAt : List Event → Type 0
  CourseAt so_far = Course given events later agent t caller site ops actor steady_so so_far

  abbrev Along : List Event → Type 0
  Along so_far = ((c : CourseAt so_far) × LedTo c.here.agent.cache) ⊎ IsIdle so_far

  along_first : Along []
  along_first = inl (
    first_course given events later agent t caller site ops actor steady_so,
    subst (λ (here : Actor). LedTo here.agent.cache) here_so
        (subst (λ (a : Agent). LedTo a.cache) (sym begin_is)
        (execute_hints (fixed_of given) (run given events) its_sight (table_of given events) (its given events later agent t caller site ops actor steady_so) actor.agent.cache
        (Known given events later agent t caller site ops actor steady_so) (ground given events later agent t caller site ops actor steady_so)
        (record { suites = []; cache = actor.agent.cache }) (λ z prefix hinted. inl hinted))),
  )
    where
      begin_is : begin (fixed_of given) actor.agent (Transaction caller site ops) ≡ record (started (fixed_of given) actor.agent (Transaction caller site ops)) { count = actor.agent.count + 1 }
      begin_is = search (begun, arith)

      here_so : begun_actor given events later agent t caller site ops actor goes.can goes.there goes.begins ≡ (first_course given events later agent t caller site ops actor steady_so).here
      here_so = search (same_Some, begun_there, first_course, arith)

  module _ (so_far rest : List Event) (event : Event) (split : later ≡ so_far ++ event ∷ rest) where
    next_so : world_after given events agent caller site ops (so_far ++ event ∷ []) ≡ (step (fixed_of given) (world_after given events agent caller site ops so_far) event).world
    next_so = next_is given events later agent t caller site ops actor steady_so so_far event

    aside_or : Aside agent (world_after given events agent caller site ops so_far) (step (fixed_of given) (world_after given events agent caller site ops so_far) event)
        ⊎ ((event ≡ Step agent) × (is_some (step (fixed_of given) (world_after given events agent caller site ops so_far) event).done.served ≡ true))
    aside_or = event_aside given agent (world_at so_far) event (calm given events later agent t caller site ops actor goes so_far rest event split)

    -- who is idle stays so
    idle_on : IsIdle so_far → Along (so_far ++ event ∷ [])
    idle_on idle = search (next_so, own_took, none-some, aside_or, arith)

    module _ (c : CourseAt so_far) (led : LedTo c.here.agent.cache) where
      -- another's event leaves it as it was
      apart_then : (on : CourseAt (so_far ++ event ∷ [])) → (event ≡ Step agent → ⊥) → Along (so_far ++ event ∷ [])
      apart_then on other = ⊎_elim
          (λ aside. inl (on, subst (λ (here : Actor). LedTo here.agent.cache) (same_Some c.here on.here (sym c.there ∙ sym aside.actor ∙ ap (λ w. actor_at w agent) (sym next_so) ∙ on.there)) led))
          (λ own. absurd (other own.0))
          aside_or

      own_then' : (own : event ≡ Step agent) → is_some (step (fixed_of given) (world_after given events agent caller site ops so_far) event).done.served ≡ true → Along (so_far ++ event ∷ [])
      own_then' own served = subst (λ event. Along (so_far ++ event ∷ [])) (sym own)
          (⊎_elim
          (λ on. inl (on.0, subst (λ (here : Actor). LedTo here.agent.cache) (same_Some took.new on.0.here (sym there_so ∙ on.0.there)) led_then))
          (λ ended. inr (record { here = took.new; there = there_so; none = idle_none took.new.agent.doing ended.3; led = led_then }))
          (own_on given events later agent t caller site ops actor steady_so so_far rest split' c runs took))
        where
          split' : later ≡ so_far ++ Step agent ∷ rest
          split' = split ∙ ap (λ event. so_far ++ event ∷ rest) own

          took : OwnTook (fixed_of given) (world_after given events agent caller site ops so_far) agent c.here c.there (step (fixed_of given) (world_after given events agent caller site ops so_far) (Step agent))
          took = search (own_took, arith)

          runs : RunsIt given events later agent t caller site ops actor steady_so so_far c
          runs = runs_it given events later agent t caller site ops actor steady_so so_far c

          there_so : actor_at (world_after given events agent caller site ops (so_far ++ Step agent ∷ [])) agent ≡ Some took.new
          there_so = there_then given events later agent t caller site ops actor steady_so so_far rest split' c runs took

          led_then : LedTo took.new.agent.cache
          led_then =
              subst (λ (a : Agent). LedTo a.cache) (sym (here_is given events later agent t caller site ops actor steady_so so_far rest split' c runs took))
              (subst (λ task. LedTo (after_reply (fixed_of given) task c.here.agent.cache runs.txn_run.suites runs.txn_run.phase took.asked.0 took.asked.1 (reply_of took.st took.asked.1)).cache) (sym runs.at.0)
              (reply_hints (fixed_of given) (run given events) its_sight (table_of given events) (its given events later agent t caller site ops actor steady_so) actor.agent.cache
              (Known given events later agent t caller site ops actor steady_so) (ground given events later agent t caller site ops actor steady_so)
              c.here.agent.cache led took.asked.0 took.asked.1 (reply_of took.st took.asked.1) runs.txn_run.suites runs.txn_run.phase runs.at.1))

      course_on : Along (so_far ++ event ∷ [])
      course_on = ⊎_elim
          (λ apart. apart_then (apart_on given events later agent t caller site ops actor steady_so so_far rest event split c apart.0 apart.1).0 apart.1)
          (λ own. own_then' own.0 own.1)
          (event_apart given agent (world_at so_far) c.here c.there c.busy event
          (never_hindered given events later agent t caller site ops actor
          (unmet_is_among_locks given events later agent t caller site ops actor (alone_is_unmet given events later agent t caller site ops actor goes)) so_far rest event split
          (course_runs given events later agent t caller site ops actor steady_so so_far c)))

    along_on : Along so_far → Along (so_far ++ event ∷ [])
    along_on h0 = grind (course_on, idle_on, arith)

  along_at : Along later
  along_at = along later Along along_on along_first later [] (sym (append-nil later))

  -- ---- once it is idle

  module _ (idle : has_no_job (actor_at (world_after given events agent caller site ops later) agent) ≡ true) where
    not_running : CourseAt later → ⊥
    not_running c = false≢true (sym c.busy ∙ ap has_no_job (sym c.there) ∙ idle)

    over : Over given events later agent t caller site ops actor steady_so later
    over = ⊎_elim (λ on. absurd (not_running on.0)) (λ left. left.0)
        (left_at given events later agent t caller site ops actor (unmet_is_among_locks given events later agent t caller site ops actor (alone_is_unmet given events later agent t caller site ops actor goes)) later []
        (sym (append-nil later)))

    at_end : IsIdle later
    at_end = ⊎_elim (λ on. absurd (not_running on.0)) (λ idle. idle) along_at

    module _ (met : VotesAreUp (fixed_of given) (run given events) (table_of given events) actor.agent.cache t site caller ops) where
      -- where its home is up it is decided
      pub ends_decided : is_up (run given events) (home_of (fixed_of given).service t) ≡ true → OneIsDecided (outcomes (dones (fixed_of given) (begun_world given events agent caller site ops) later)) agent
      ends_decided up =
          let it = over_then given events later agent t caller site ops actor steady_so over in
          let by = unmet_by_votes given events later agent t caller site ops actor (alone_is_unmet given events later agent t caller site ops actor goes) it.job it.ends in
          let home = is_up (run given events) (home_of (fixed_of given).service t) in
          let answer = answer_on (table_of given events) t caller ops in
          record {
            job = it.job;
            there = it.ends.there;
            of_it = own_then given events later agent t caller site ops actor goes it.job it.ends;
            decided = search (none_of, decided_ending, arith);
          }

    -- what is there then
    pub record Left : Type 0 where
      pub here : Actor
      pub there : actor_at (world_after given events agent caller site ops later) agent ≡ Some here
      pub count : here.agent.count ≡ actor.agent.count + 1
      pub is_free : up_free (world_after given events agent caller site ops later) ≡ true
      pub up : (i : ℕ) → is_up (world_after given events agent caller site ops later) i ≡ is_up (run given events) i
      pub votes : (t' : ℕ) → VotesAreUp (fixed_of given) (run given events) (table_of given events) actor.agent.cache t' site caller ops
          → VotesAreUp (fixed_of given) (world_after given events agent caller site ops later) (table_of given (events ++ Begin agent (Transaction caller site ops) ∷ later)) here.agent.cache t' site caller ops

    -- where it is not, all is left as it was
    module _ (down : is_up (run given events) (home_of (fixed_of given).service t) ≡ false) where
      count_so : at_end.here.agent.count ≡ actor.agent.count + 1
      count_so =
          let now = now_at given events later agent t caller site ops actor goes later [] (sym (append-nil later)) in
          ap (λ (here : Actor). here.agent.count) (same_Some at_end.here now.here (sym at_end.there ∙ now.there)) ∙ now.count_is

      -- all are open to it that are up
      open_all : (z i : ℕ) → finds_at (sight given events later agent t caller site ops actor steady_so) z i ≡ is_up (run given events) i
      open_all z i = search (first_asked, near_among, alone_is_unmet, near_alone, open_where_free, plain_way, clear_first, arith)

      led_last : (z : ℕ) (start : Prefix) → MayStart (fixed_of given) actor.agent.cache site z start → newer_from (fixed_of given) (run given events) z (led_to (fixed_of given) (run given events) z start) ≡ None
      led_last z start may =
          let kept = all_keep given events (can_first given events later agent t caller site ops actor steady_so) in
          let inv = effects.inv given events kept z in
          (rules_of given z (machine_of given z events) (run given events) inv (is_up (run given events))
          (all_answer given z (machine_of given z events) (run given events) inv (effects.follows given events kept z).shows (all_consistent given events) goes.free) start
          (start_was given events (can_first given events later agent t caller site ops actor steady_so) z agent site actor start goes.there may)).last

      led_so : HintsLed (λ z start. led_to (fixed_of given) (run given events) z start) (fixed_of given) actor.agent.cache site at_end.here.agent.cache
      led_so =
          hints_alike (λ z start. led_to_by (fixed_of given) (run given events) (finds_at its_sight z) z start) (λ z start. led_to (fixed_of given) (run given events) z start) (fixed_of given) actor.agent.cache site at_end.here.agent.cache
          (λ z start. same_so_far (fixed_of given) (run given events) (run given events) (is_up (run given events)) (finds_at its_sight z) (open_all z) (λ z i up. refl) (length (run given events).servers) z start) at_end.led

      pub left_so : Left
      left_so = record {
        here = at_end.here;
        there = at_end.there;
        count = count_so;
        is_free = free_then given events later agent t caller site ops actor goes over;
        up = up_same given events later agent t caller site ops actor goes;
        votes = λ t' votes.
            subst (λ table. VotesAreUp (fixed_of given) (world_at later) table at_end.here.agent.cache t' site caller ops) (sym (table_same given events later agent t caller site ops actor goes down))
            (still_up (fixed_of given) (run given events) (world_at later) (many given events later agent t caller site ops actor goes) (up_same given events later agent t caller site ops actor goes)
            (shown_then given events later agent t caller site ops actor goes down) (table_of given events) actor.agent.cache at_end.here.agent.cache t' site caller ops led_last led_so votes);
      }
