-- What was decided of a transaction that goes steadily had its home up and its votes open, whether or not its agent went on to the end.
use Rattle.law_run_recovers.proofs.Vocabulary.{◌≡◌, ◌⊎◌, inl, inr, ⊎_elim, ℕ, ◌<◌, true, List, [], ◌∷◌, ◌++◌, append_assoc, Option, Some, None, is_some, Result, refl, sym, ap, subst, ◌∙◌, arith, ◌+◌, ◌*◌, ◌==◌, ◌&&◌, find, Contains, list_any}
use Rattle.law_run_recovers.proofs.Vocabulary.{cons_option, false≢true, eqb-true, eq-eqb, none-some, same_Some, Identity, Opening, LockMode, serves, Answer, Refusal, Op, Has, has_from, has_any, Request, Ending, Transaction, ReadPoint, GatheredSuite}
use Rattle.law_run_recovers.proofs.Vocabulary.{suite_of, Running, home_of, request_in, decision_of, Agent, fixed_of, next_in, next_of, EndedJob, Event, Begin, Step, Actor, World, server_at, actor_at, asks_at, asks, steps_once, step, run, Decided}
use Rattle.law_run_recovers.proofs.Vocabulary.{decided, decided_by, decisions, decisions_from, task_of, task_at, table_of, IsAnsweredAsKnown, Runs, IsAt, EndStands, same_place, answers_follow_knowledge, holds_of, In, agent_of, agent_at, is_decided}
use Rattle.law_run_recovers.proofs.Vocabulary.{is_up, runs, world_after, first_wanting, has_votes_open, is_gathered, GathersItsAsks, has_asked, locks_asked, asks_for, wants, answer_on, EndsThen, WasDecidedThen, Always, AreAnsweredAsBegun}
use Rattle.law_run_recovers.proofs.Vocabulary.{GatherTheirAsks, GoesAmongLocks, HadVotesOpen, UnmetHadVotesUpAt, any_has, begun_world}
use Rattle.rep_core.specs.declared.request.Request.TheVariants as request
use Rattle.txn_core.specs.Doing as doing
use Rattle.law_run_recovers.proofs.Steady.{GoesSteadily, steady}
use Rattle.law_run_recovers.proofs.AmongLaws.{none_in, all_is, first_same, rows_met, among_had}
use Rattle.law_run_recovers.proofs.Asking.{held_if, held_in}
use Rattle.law_run_recovers.proofs.AtDecision.{decides_up}
use Rattle.law_run_recovers.proofs.Deciding.{answer_as, decides_answer}
use Rattle.law_run_recovers.proofs.DecidedSince.{stood_since}
use Rattle.law_run_recovers.proofs.Keeps.{at_work, run_at}
use Rattle.law_run_recovers.proofs.NearGround.{its, sight, number}
use Rattle.law_run_recovers.proofs.Open.{its_begin, unmet_is_among_locks}
use Rattle.law_run_recovers.proofs.Stands.{unmet, wants_of, HasAll}
use Rattle.law_run_recovers.proofs.Still.{IsOpen, IsOpenPhase}
use Rattle.law_run_recovers.proofs.AmongCourse.{Course, StandsIn, PhaseIn, next_is}
use Rattle.law_run_recovers.proofs.AmongEnds.{Over, small_at, over_on, state_on as course_on}
use Rattle.law_run_recovers.proofs.AmongOver.{ended_has}
use Rattle.law_run_recovers.proofs.AmongBegin.{first_course}
use Rattle.law_run_recovers.proofs.UnmetLaws.{open_is_more}

module _ (given : Opening) (events later : List Event) (agent t : ℕ) (caller : Identity) (site : ℕ) (ops : List Op) (actor : Actor) (goes : GoesSteadily given events later agent t caller site ops actor) where
  abbrev world_at : List Event → World
  world_at so_far = world_after given events agent caller site ops so_far

  abbrev State : List Event → Type 0
  State so_far = Course given events later agent t caller site ops actor goes so_far ⊎ Over given events later agent t caller site ops actor goes so_far

  abbrev HadAll : Type 0
  HadAll = has_votes_open given events t caller ops ≡ true

  -- it goes on, or has ended
  state_on : (so_far rest : List Event) (event : Event) → later ≡ so_far ++ event ∷ rest → State so_far → State (so_far ++ event ∷ [])
  state_on so_far rest event split (inr over) = inr (over_on given events later agent t caller site ops actor goes so_far event over)
  state_on so_far rest event split (inl c) = course_on given events later agent t caller site ops actor goes so_far rest event split c

  -- ---- at its decision

  module _ (so_far rest : List Event) (event : Event) (split : later ≡ so_far ++ event ∷ rest) (one : Decided) (is : decided (fixed_of given) (world_after given events agent caller site ops so_far) event ≡ Some one)
      (of_it : one.t ≡ t) where
    abbrev all : List Event
    all = events ++ Begin agent (Transaction caller site ops) ∷ so_far

    same_run : world_after given events agent caller site ops so_far ≡ run given (events ++ Begin agent (Transaction caller site ops) ∷ so_far)
    same_run = run_at given events later agent t caller site ops actor goes.can goes.there goes.begins so_far

    so : IsAnsweredAsKnown given (run given (events ++ Begin agent (Transaction caller site ops) ∷ so_far)) event one
    so = answers_follow_knowledge given all event one (ap (λ w. decided (fixed_of given) w event) (sym same_run) ∙ is)

    there : actor_at (world_after given events agent caller site ops so_far) so.number ≡ Some so.actor
    there = ap (λ w. actor_at w so.number) same_run ∙ so.there

    its_number : so.txn_run.task.t ≡ t
    its_number = sym so.t ∙ of_it

    at : Runs (decisions given (events ++ Begin agent (Transaction caller site ops) ∷ so_far)) so.number so.actor.agent.count so.txn_run
    at = subst (IsAt (decisions given all) so.number so.actor.agent.count) so.running
        ((holds_of given goes.can.accepted all).agents.at so.number so.actor.agent (ap agent_of so.there))

    -- it is its agent's own step
    own : so.number ≡ agent
    own =
        let small = small_at given events later agent t caller site ops actor goes so_far so.number so.actor.agent (ap agent_of there) in
        let begun = (its_begin given events later agent t caller site ops actor goes.can goes.there goes.begins).0 in
        (same_place at.place actor.agent.count so.number agent (sym at.numbered ∙ its_number ∙ sym begun) small small_own).1
      where
        small_own : agent < 64
        small_own = (holds_of given goes.can.accepted events).agents.small agent actor.agent (ap agent_of goes.there)

    here : actor_at (world_after given events agent caller site ops so_far) agent ≡ Some so.actor
    here = ap (actor_at (world_after given events agent caller site ops so_far)) (sym own) ∙ there

    abbrev home : ℕ
    home = home_of (fixed_of given).service so.txn_run.task.t

    abbrev what : ℕ × Request
    what = (home, request.Decide so.txn_run.task.t (decision_of so.txn_run.task so.outcome))

    served_so : decided_by (world_after given events agent caller site ops so_far) (task_of so.actor.agent.doing)
        (asks_at (fixed_of given) (world_after given events agent caller site ops so_far) agent so.actor what (server_at (world_after given events agent caller site ops so_far) home)).done.served ≡ Some one
    served_so =
        let w = world_at so_far in
        let asked : next_of (fixed_of given) so.actor.agent ≡ Some what = ap (next_in (fixed_of given)) so.running ∙ ap (request_in (fixed_of given) so.txn_run.task so.txn_run.suites) so.deciding in
        sym (ap (λ asked. decided_by w (task_of so.actor.agent.doing) (asks (fixed_of given) w agent so.actor asked).done.served) asked)
        ∙ sym (ap (λ found. decided_by w (task_at found) (steps_once (fixed_of given) w agent found).done.served) here)
        ∙ ap (λ event. decided (fixed_of given) w event) (sym (so.step ∙ ap Step own)) ∙ is

    home_now : is_up (world_after given events agent caller site ops so_far) (home_of (fixed_of given).service t) ≡ true
    home_now =
        let w = world_at so_far in
        ap (λ n. is_up w (home_of (fixed_of given).service n)) (sym its_number)
        ∙ decides_up (fixed_of given) w agent so.actor (task_of so.actor.agent.doing) one what (server_at w home) refl served_so

    -- its home is up where it was
    home_same : is_up (world_after given events agent caller site ops so_far) (home_of (fixed_of given).service t) ≡ is_up (run given events) (home_of (fixed_of given).service t)
    home_same =
        let w = world_at so_far in
        let work = at_work w agent t so.actor here (subst IsOpen (sym so.running) (subst IsOpenPhase (sym so.deciding) tt)) (ap (runs t) so.running ∙ eq-eqb so.txn_run.task.t t its_number) in
        let next : next_of (fixed_of given) so.actor.agent ≡ Some what = ap (next_in (fixed_of given)) so.running ∙ ap (request_in (fixed_of given) so.txn_run.task so.txn_run.suites) so.deciding in
        let near : goes.near home ≡ true = ap (λ n. goes.near (home_of (fixed_of given).service n)) its_number ∙ goes.are_near.home in
        subst (λ n. is_up w (home_of (fixed_of given).service n) ≡ is_up (run given events) (home_of (fixed_of given).service n)) its_number
        (goes.same so_far rest so.actor what (split ∙ ap (λ event. so_far ++ event ∷ rest) (so.step ∙ ap Step own)) work here next near tt).up

    -- it is answered as it was to be
    answer_so : one.answer ≡ answer_as so.outcome
    answer_so =
        let w = world_at so_far in
        decides_answer (fixed_of given) w agent so.actor so.txn_run.task so.outcome one home (server_at w home) refl
        (subst (λ doing. decided_by (world_after given events agent caller site ops so_far) (task_of doing)
        (asks_at (fixed_of given) (world_after given events agent caller site ops so_far) agent so.actor what (server_at (world_after given events agent caller site ops so_far) home)).done.served ≡ Some one) so.running served_so)

    all_had : Course given events later agent t caller site ops actor goes so_far
        → HasAll (fixed_of given) (run given events) (sight given events later agent t caller site ops actor goes) (table_of given events) (its given events later agent t caller site ops actor goes)
        actor.agent.cache so.txn_run.suites (answer_as so.outcome)
    all_had c =
        let same = same_Some c.here so.actor (sym c.there ∙ here) in
        let stands : StandsIn given events later agent t caller site ops actor goes c.here.agent.cache (Some (Running so.txn_run)) =
        subst (StandsIn given events later agent t caller site ops actor goes c.here.agent.cache) (ap (λ (a : Actor). a.agent.doing) same ∙ so.running) c.stands in
        as_all (subst (PhaseIn given events later agent t caller site ops actor goes so.txn_run.suites c.here.agent.cache) so.deciding stands.1)
      where
        as_all : PhaseIn given events later agent t caller site ops actor goes so.txn_run.suites c.here.agent.cache (doing.Deciding so.outcome)
            → HasAll (fixed_of given) (run given events) (sight given events later agent t caller site ops actor goes) (table_of given events) (its given events later agent t caller site ops actor goes)
            actor.agent.cache so.txn_run.suites (answer_as so.outcome)
        as_all has = of so.outcome has
          where
            of : (outcome : doing.Proposal) → PhaseIn given events later agent t caller site ops actor goes so.txn_run.suites c.here.agent.cache (doing.Deciding outcome)
                → HasAll (fixed_of given) (run given events) (sight given events later agent t caller site ops actor goes) (table_of given events) (its given events later agent t caller site ops actor goes)
                actor.agent.cache so.txn_run.suites (answer_as outcome)
            of outcome h1 = search arith

    course_answered : Course given events later agent t caller site ops actor goes so_far → one.answer ≡ answer_on (table_of given events) t caller ops
    course_answered c = answer_so ∙ (all_had c).answer_is ∙ ap (λ n. answer_on (table_of given events) n caller ops) (number given events later agent t caller site ops actor goes)

    -- and has gathered what it asks for
    course_gathered : Course given events later agent t caller site ops actor goes so_far → (z : ℕ) (mode : LockMode) → is_gathered mode (suite_of so.txn_run.suites z) ≡ has_asked (asks_for given events t caller ops) z mode
    course_gathered c z mode =
        held_so (suite_of so.txn_run.suites z) ∙ (all_had c).gathered z mode ∙ ap (λ n. has_asked (locks_asked (table_of given events) n caller ops) z mode) (number given events later agent t caller site ops actor goes)
      where
        of_first : (suite : GatheredSuite) (first : Option ReadPoint) → (is_some first && serves suite.mode mode) ≡ held_if suite mode first
        of_first suite first = search arith

        held_so : (found : Option GatheredSuite) → is_gathered mode found ≡ held_in mode found
        held_so found = search (of_first, arith)

    gathers_so : Course given events later agent t caller site ops actor goes so_far → GathersItsAsks given events later agent t caller site ops
    gathers_so c = record {
      before = so_far;
      after = rest;
      parts = split ∙ ap (λ event. so_far ++ event ∷ rest) (so.step ∙ ap Step own);
      one = one;
      decides = ap (λ event. decided (fixed_of given) (run given (events ++ Begin agent (Transaction caller site ops) ∷ so_far)) event) (sym (so.step ∙ ap Step own)) ∙ ap (λ w. decided (fixed_of given) w event) (sym same_run) ∙ is;
      of_it = of_it;
      at_decision = so.actor;
      there = ap (actor_at (run given (events ++ Begin agent (Transaction caller site ops) ∷ so_far))) (sym own) ∙ so.there;
      txn_run = so.txn_run;
      running = so.running;
      suites = course_gathered c;
    }

    course_had : Course given events later agent t caller site ops actor goes so_far → HadAll
    course_had c =
        let has = all_had c in
        let none : first_wanting (run given events) t (wants (fixed_of given) (run given events) (table_of given events) t caller ops has.start) ≡ None =
        sym (first_same given events later agent t caller site ops actor goes has.start has.from)
        ∙ subst (λ n. find (unmet (sight given events later agent t caller site ops actor goes))
        (wants_of (fixed_of given) (run given events) (sight given events later agent t caller site ops actor goes) (table_of given events) n caller ops has.start) ≡ None)
        (number given events later agent t caller site ops actor goes) has.none in
        let rows = rows_met given events later agent t caller site ops actor goes has.start has.from
        (all_is (run given events) t (wants (fixed_of given) (run given events) (table_of given events) t caller ops has.start) ∙ ap none_in none) in
        ap (λ b. b && is_up (run given events) (home_of (fixed_of given).service t)) rows ∙ sym home_same ∙ home_now

    -- it is not after its end
    pub over_not : Over given events later agent t caller site ops actor goes so_far → ⊥
    over_not over =
        let was = (holds_of given goes.can.accepted all).over over.0 over.1 in
        let small_was = (holds_of given goes.can.accepted all).agents.small over.0.agent was.agent was.at in
        let small = small_at given events later agent t caller site ops actor goes so_far so.number so.actor.agent (ap agent_of there) in
        let places = same_place over.0.count at.place over.0.agent so.number (over.2 ∙ sym its_number ∙ at.numbered) small_was small in
        let same : was.agent ≡ so.actor.agent = same_Some was.agent so.actor.agent (sym was.at ∙ ap (agent_at (run given all)) places.1 ∙ ap agent_of so.there) in
        let counts : was.agent.count ≡ so.actor.agent.count = ap (λ (a : Agent). a.count) same in
        let last = at.last in
        let place = places.0 in
        let idle = was.idle (omega (arith, counts, last, place)) in
        none-some (Running so.txn_run) (sym idle ∙ ap (λ (a : Agent). a.doing) same ∙ so.running)

    pub had_then : State so_far → HadAll
    had_then state = ⊎_elim (λ c. course_had c) (λ over. absurd (over_not over)) state

    pub gathered_then : State so_far → GathersItsAsks given events later agent t caller site ops
    gathered_then state = ⊎_elim (λ c. gathers_so c) (λ over. absurd (over_not over)) state

    pub answered_then : State so_far → one.answer ≡ answer_on (table_of given events) t caller ops
    answered_then state = ⊎_elim (λ c. course_answered c) (λ over. absurd (over_not over)) state

  -- ---- all along

  -- what is so in a step in which it is decided is so, wherever that is
  module _ (Q : Decided → Type 0) (each : (so_far rest : List Event) (event : Event) → later ≡ so_far ++ event ∷ rest → (one : Decided) → decided (fixed_of given)
      (world_after given events agent caller site ops so_far) event ≡ Some one → one.t ≡ t → State so_far → Q one) where
    decided_in : (rest so_far : List Event) → later ≡ so_far ++ rest → State so_far → (one : Decided) → Has (decisions_from (fixed_of given) (world_after given events agent caller site ops so_far) rest) one → one.t ≡ t → Q one
    decided_in [] so_far split state one has of_it = absurd has
    decided_in (event ∷ rest) so_far split state one has of_it =
        of (decided (fixed_of given) (world_after given events agent caller site ops so_far) event) refl
        (λ has. decided_in rest (so_far ++ event ∷ []) (split ∙ sym (append_assoc so_far (event ∷ []) rest)) (state_on so_far rest event split state) one
        (subst (λ w. Has (decisions_from (fixed_of given) w rest) one) (sym (next_is given events later agent t caller site ops actor goes so_far event)) has) of_it) has
      where
        of : (found : Option Decided) → decided (fixed_of given) (world_after given events agent caller site ops so_far) event ≡ found
            → (Has (decisions_from (fixed_of given) (step (fixed_of given) (world_after given events agent caller site ops so_far) event).world rest) one → Q one)
            → Has (cons_option found (decisions_from (fixed_of given) (step (fixed_of given) (world_after given events agent caller site ops so_far) event).world rest)) one → Q one
        of found h1 h2 h3 = search arith

    decided_all : (one : Decided) → Has (decisions_from (fixed_of given) (begun_world given events agent caller site ops) later) one → one.t ≡ t → Q one
    decided_all = decided_in later [] refl (inl (first_course given events later agent t caller site ops actor goes))

  pub answered_begun : (one : Decided) → Contains (decisions given (events ++ Begin agent (Transaction caller site ops) ∷ later)) one → one.t ≡ t → one.answer ≡ answer_on (table_of given events) t caller ops
  answered_begun one there of_it =
      decided_all (λ one. one.answer ≡ answer_on (table_of given events) t caller ops) answered_then one
      (stood_since given events later agent t caller site ops actor goes.can goes.there (its_begin given events later agent t caller site ops actor goes.can goes.there goes.begins).0 one
      (has_from (decisions given (events ++ Begin agent (Transaction caller site ops) ∷ later)) one there) of_it) of_it

  pub decided_where : (P : Type 0) → ((so_far rest : List Event) (event : Event) → later ≡ so_far ++ event ∷ rest → (one : Decided) → decided (fixed_of given)
      (world_after given events agent caller site ops so_far) event ≡ Some one → one.t ≡ t → State so_far → P)
      → list_any (λ (one : Decided). one.t == t) (decisions given (events ++ Begin agent (Transaction caller site ops) ∷ later)) ≡ true → P
  decided_where P each some =
      let it = any_has (λ (one : Decided). one.t == t) (decisions given (events ++ Begin agent (Transaction caller site ops) ∷ later)) some in
      let of_it = eqb-true it.0.t t it.2 in
      decided_all (λ one. P) each it.0
      (stood_since given events later agent t caller site ops actor goes.can goes.there (its_begin given events later agent t caller site ops actor goes.can goes.there goes.begins).0 it.0 it.1 of_it) of_it

  pub stood_had : list_any (λ (one : Decided). one.t == t) (decisions given (events ++ Begin agent (Transaction caller site ops) ∷ later)) ≡ true → HadAll
  stood_had some = decided_where HadAll had_then some

  pub stood_gathered : list_any (λ (one : Decided). one.t == t) (decisions given (events ++ Begin agent (Transaction caller site ops) ∷ later)) ≡ true → GathersItsAsks given events later agent t caller site ops
  stood_gathered some = decided_where (GathersItsAsks given events later agent t caller site ops) gathered_then some

  -- what ended decided stands among the decisions
  pub ended_stands : (job : EndedJob) → EndsThen given events later agent t caller site ops job → is_decided job.ending ≡ true
      → list_any (λ (one : Decided). one.t == t) (decisions given (events ++ Begin agent (Transaction caller site ops) ∷ later)) ≡ true
  ended_stands job ends = of job.ending ((holds_of given goes.can.accepted (events ++ Begin agent (Transaction caller site ops) ∷ later)).over job (ended_has given events later agent t caller site ops actor goes job ends)).stands
    where
      stands : (answer : Result (List Answer) Refusal) → In (decisions given (events ++ Begin agent (Transaction caller site ops) ∷ later)) (64 * job.count + job.agent) answer
          → list_any (λ (one : Decided). one.t == t) (decisions given (events ++ Begin agent (Transaction caller site ops) ∷ later)) ≡ true
      stands answer is = search (has_any, eq-eqb, arith)

      of : (ended : Ending) → EndStands (decisions given (events ++ Begin agent (Transaction caller site ops) ∷ later)) (64 * job.count + job.agent) ended → is_decided ended ≡ true
          → list_any (λ (one : Decided). one.t == t) (decisions given (events ++ Begin agent (Transaction caller site ops) ∷ later)) ≡ true
      of ended h1 h2 = search (stands, false≢true, arith)

  pub was_had : WasDecidedThen given events later agent t caller site ops → has_votes_open given events t caller ops ≡ true
  was_had was = ⊎_elim (λ some. stood_had some) (λ it. among_had given events later agent t caller site ops actor goes it.0 it.1 it.2) was

  pub was_gathered : WasDecidedThen given events later agent t caller site ops → GathersItsAsks given events later agent t caller site ops
  was_gathered was = ⊎_elim (λ some. stood_gathered some) (λ it. stood_gathered (ended_stands it.0 it.1 it.2)) was

pub among_locks_gather_their_asks : Always (GatherTheirAsks GoesAmongLocks)
among_locks_gather_their_asks given events later agent t caller site ops actor goes was = search (was_gathered, steady, arith)

pub among_locks_are_answered_as_begun : Always (AreAnsweredAsBegun GoesAmongLocks)
among_locks_are_answered_as_begun given events later agent t caller site ops actor goes one there of_it = search (answered_begun, steady, arith)

pub among_locks_had_votes_open : Always (HadVotesOpen GoesAmongLocks)
among_locks_had_votes_open given events later agent t caller site ops actor goes was = search (was_had, steady, arith)

pub unmet_had_votes_up : Always UnmetHadVotesUpAt
unmet_had_votes_up given events later agent t caller site ops actor goes was = search (open_is_more, among_locks_had_votes_open, unmet_is_among_locks, arith)
