-- A step of a transaction that is not served, or of which its agent is told so, once its end is fixed: it goes on to tell its end.
use Rattle.law_run_recovers.proofs.Vocabulary.{◌≡◌, ◌⊎◌, inl, inr, ℕ, Bool, true, false, List, [], ◌∷◌, ◌++◌, Some, refl, sym, ap, subst, ◌∙◌, arith, ◌-◌, ◌||◌, false≢true, none-some, Identity, Opening, Op, Verdict, Ending, Transaction, Task, Phase}
use Rattle.law_run_recovers.proofs.Vocabulary.{Finishing, TransactionRun, Running, After, GoesOn, Ends, after_lack, Agent, Taken, fixed_of, is_idle, next_of, left, end_of, with_step, take_in, take, begin, after-append, Event, EndedJob, Actor, World}
use Rattle.law_run_recovers.proofs.Vocabulary.{actor_at, one_more, outcome_of, step, Stepped, ended, number_of, take_keeps, world_after, hinders_itself, robs, Lacked, nat_tests}
use Rattle.txn_core.specs.Transactions.{Step as CourseStep}
use Rattle.txn_core.specs.Agents as agents
use Rattle.law_run_recovers.proofs.Steady.{GoesSteadily}
use Rattle.law_run_recovers.proofs.Early.{ending_in}
use Rattle.law_run_recovers.proofs.NearGround.{its}
use Rattle.law_run_recovers.proofs.Still.{IsOpenPhase}
use Rattle.law_run_recovers.proofs.AmongCourse.{Course, RunsIt, PhaseIn, StandsIn, Right, next_is, spared_on, locks_on as answered_on, TellsNone, open_works, runs_it, shown_on}
use Rattle.law_run_recovers.proofs.AmongBegin.{Good, begun, right_end, stands_left}
use Rattle.law_run_recovers.proofs.Lacking.{Lacking, Nothing}

module _ (given : Opening) (events later : List Event) (agent t : ℕ) (caller : Identity) (site : ℕ) (ops : List Op) (actor : Actor) (goes : GoesSteadily given events later agent t caller site ops actor) where
  abbrev its_task : Task
  its_task = its given events later agent t caller site ops actor goes

  abbrev world_at : List Event → World
  world_at so_far = world_after given events agent caller site ops so_far

  module _ (so_far rest : List Event) (event : Event) (split : later ≡ so_far ++ event ∷ rest) (c : Course given events later agent t caller site ops actor goes so_far)
      (hinders : hinders_itself given agent (world_after given events agent caller site ops so_far) event ≡ true) where
    its_run : RunsIt given events later agent t caller site ops actor goes so_far c
    its_run = runs_it given events later agent t caller site ops actor goes so_far c

    -- its end is fixed then
    pub record Tells : Type 0 where
      pub r : RunsIt given events later agent t caller site ops actor goes so_far c
      pub servers : List ℕ
      pub v : Verdict
      pub ending : Ending
      pub is : r.txn_run.phase ≡ Finishing servers v ending

    pub tells_now : Tells
    tells_now = of its_run.txn_run.phase refl
      where
        calm_so : (a b : Bool) → (a || b) ≡ false → a ≡ false
        calm_so a b is = grind (arith, nat_tests)

        not_open : IsOpenPhase its_run.txn_run.phase → Tells
        not_open open' =
            let w = world_at so_far in
            absurd (false≢true
            (sym (calm_so (hinders_itself given agent w event) (robs given agent t w event) (goes.free_hand so_far rest event split (open_works given events later agent t caller site ops actor goes so_far c its_run open'))) ∙ hinders))

        of : (phase : Phase) → its_run.txn_run.phase ≡ phase → Tells
        of (Finishing servers v ending) is = record { r = its_run; servers = servers; v = v; ending = ending; is = is }
        of other is = not_open (subst IsOpenPhase (sym is) tt)

    module _ (lacks : Lacking given agent (world_after given events agent caller site ops so_far) c.here c.there (step (fixed_of given) (world_after given events agent caller site ops so_far) event)) where
      abbrev r' : RunsIt given events later agent t caller site ops actor goes so_far c
      r' = tells_now.r

      abbrev lack_step : Task → Phase → CourseStep
      lack_step task phase = after_lack task c.here.agent.cache r'.txn_run.suites phase lacks.asked.0 lacks.why

      lack_taken : take (fixed_of given) c.here.agent (Lacked lacks.why) ≡ with_step c.here.agent (lack_step r'.txn_run.task r'.txn_run.phase)
      lack_taken =
          ap (λ doing. take_in (fixed_of given) c.here.agent (Lacked lacks.why) doing (next_of (fixed_of given) c.here.agent)) r'.running
          ∙ ap (take_in (fixed_of given) c.here.agent (Lacked lacks.why) (Some (Running r'.txn_run))) lacks.next

      -- it tells the next server, or has told all
      good_lack : Good given events later agent t caller site ops actor goes (lack_step r'.txn_run.task r'.txn_run.phase)
      good_lack =
          subst (λ phase. Good given events later agent t caller site ops actor goes (lack_step r'.txn_run.task phase)) (sym tells_now.is)
          (subst (λ task. Good given events later agent t caller site ops actor goes (lack_step task (Finishing tells_now.servers tells_now.v tells_now.ending))) (sym r'.at.0)
          (of tells_now.servers (subst (PhaseIn given events later agent t caller site ops actor goes r'.txn_run.suites c.here.agent.cache) tells_now.is r'.at.1)))
        where
          of : (servers : List ℕ) → PhaseIn given events later agent t caller site ops actor goes r'.txn_run.suites c.here.agent.cache (Finishing servers tells_now.v tells_now.ending)
              → Good given events later agent t caller site ops actor goes (lack_step its_task (Finishing servers tells_now.v tells_now.ending))
          of servers h1 = search arith

      here_lack : lacks.new.agent ≡ (with_step c.here.agent (lack_step r'.txn_run.task r'.txn_run.phase)).agent
      here_lack = lacks.took ∙ ap (λ (taken : Taken). taken.agent) lack_taken

      -- how it ends, where it ends so
      pub lack_right : (one : EndedJob) → (step (fixed_of given) (world_after given events agent caller site ops so_far) event).done.outcome ≡ Some one → Right given events later agent t caller site ops actor goes one.ending
      lack_right one is =
          right_end given events later agent t caller site ops actor goes (lack_step r'.txn_run.task r'.txn_run.phase) good_lack one.ending
          (sym (ap (λ (taken : Taken). taken.ending) lack_taken) ∙ ending_in agent c.here (take (fixed_of given) c.here.agent (Lacked lacks.why)).ending one (sym lacks.ended ∙ is))

      none_told : TellsNone given events later agent t caller site ops actor goes so_far event
      none_told server told = none-some told.what (sym lacks.none ∙ told.served)

      -- it goes on, and was told this; or its job has ended
      abbrev pub LackOn : Type 0
      LackOn = ((on : Course given events later agent t caller site ops actor goes (so_far ++ event ∷ [])) × (on.told ≡ c.told ++ agents.Take (Lacked lacks.why) ∷ []))
          ⊎ ((one : EndedJob) × ((step (fixed_of given) (world_after given events agent caller site ops so_far) event).done.outcome ≡ Some one) × (number_of one ≡ t))

      pub lack_on : LackOn
      lack_on = of (lack_step r'.txn_run.task r'.txn_run.phase).after refl
        where
          number_ended : (one : EndedJob) → one.agent ≡ agent → one.count ≡ c.here.agent.count - 1 → number_of one ≡ t
          number_ended one at count = grind (begun, arith)

          of : (after : After TransactionRun) → (lack_step r'.txn_run.task r'.txn_run.phase).after ≡ after → LackOn
          of (GoesOn more) is = inl (
            record {
              here = lacks.new;
              there = ap (λ w. actor_at w agent) (next_is given events later agent t caller site ops actor goes so_far event) ∙ lacks.now;
              stands =
                  subst (λ (a : Agent). StandsIn given events later agent t caller site ops actor goes a.cache a.doing) (sym here_lack)
                  (stands_left given events later agent t caller site ops actor goes (lack_step r'.txn_run.task r'.txn_run.phase) good_lack);
              busy = ap (λ (a : Agent). is_idle a.doing) here_lack ∙ ap (λ after. is_idle (left Running after)) is;
              told = c.told ++ agents.Take (Lacked lacks.why) ∷ [];
              is =
                  lacks.took ∙ ap (λ a. (take (fixed_of given) a (Lacked lacks.why)).agent) c.is
                  ∙ sym (after-append (fixed_of given) (begin (fixed_of given) actor.agent (Transaction caller site ops)) c.told (agents.Take (Lacked lacks.why)));
              count = ap (λ (a : Agent). a.count) lacks.took ∙ (take_keeps (fixed_of given) c.here.agent (Lacked lacks.why) c.here.agent.doing (next_of (fixed_of given) c.here.agent)).1 ∙ c.count;
              locks = answered_on given events later agent t caller site ops actor goes so_far rest event split c (λ server z told same. absurd (none_told server told));
              shown = shown_on given events later agent t caller site ops actor goes so_far rest event split c (λ server z told same. absurd (none_told server told));
              spared = spared_on given events later agent t caller site ops actor goes so_far rest event split c;
            },
            refl,
          )
          of (Ends ended) is = inr (the_one, lacks.ended ∙ ap (outcome_of agent c.here) (ap (λ (taken : Taken). taken.ending) lack_taken ∙ ap end_of is), number_ended the_one refl refl)
            where
              the_one : EndedJob
              the_one = record { agent = agent; count = c.here.agent.count - 1; steps = one_more c.here.steps; ending = ended }

    -- nothing comes of it
    pub quiet_on : Nothing given agent (world_after given events agent caller site ops so_far) c.here c.there (step (fixed_of given) (world_after given events agent caller site ops so_far) event)
        → (on : Course given events later agent t caller site ops actor goes (so_far ++ event ∷ [])) × (on.told ≡ c.told)
    quiet_on nothing = (
      record {
        here = c.here;
        there = ap (λ w. actor_at w agent) (next_is given events later agent t caller site ops actor goes so_far event) ∙ ap (λ (stepped : Stepped). actor_at stepped.world agent) nothing.is ∙ c.there;
        stands = c.stands;
        busy = c.busy;
        told = c.told;
        is = c.is;
        count = c.count;
        locks = answered_on given events later agent t caller site ops actor goes so_far rest event split c (λ server z told same. absurd (none_told server told));
        shown = shown_on given events later agent t caller site ops actor goes so_far rest event split c (λ server z told same. absurd (none_told server told));
        spared = spared_on given events later agent t caller site ops actor goes so_far rest event split c;
      },
      refl,
    )
      where
        none_told : TellsNone given events later agent t caller site ops actor goes so_far event
        none_told server told = none-some told.what (sym (ap (λ (stepped : Stepped). stepped.done.served) nothing.is) ∙ told.served)
