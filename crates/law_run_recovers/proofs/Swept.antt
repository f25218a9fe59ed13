-- A sweep alone, from its begin on: as long as it goes on, and where it ended.
use Rattle.law_run_recovers.proofs.Vocabulary.{◌≡◌, ◌⊎◌, inl, inr, ⊎_elim, ℕ, ◌+◌, true, false, cond, List, [], ◌∷◌, Option, Some, None, is_some, refl, sym, ap, subst, ◌∙◌, arith, ◌*◌, ◌&&◌, not, nat_lt, slice_set, cons_option, false≢true, and_parts}
use Rattle.law_run_recovers.proofs.Vocabulary.{not-true, none-some, same_Some, Opening, rise, Has, has_from, Ending, Sweep, Fixed, Listing, SweepRun, RunningSweep, After, Agent, fixed_of, is_idle, has_sense, max_jobs, left, end_of, begin, started}
use Rattle.law_run_recovers.proofs.Vocabulary.{Event, Begin, Step, EndedJob, Actor, World, Stepped, opening, actor_at, outcome_of, becomes, step, after, dones, outcomes, run, begins_now, puts_in, begins_job, with_job, all_consistent, is_up, locks_at}
use Rattle.law_run_recovers.proofs.Vocabulary.{hinders, unhindered_from, Always, SweepsLeaveDoubtsAt}
use Rattle.run_core.proofs.Appending.{after-append}
use Rattle.law_run_recovers.proofs.Aside.{Aside, event_aside}
use Rattle.law_run_recovers.proofs.Doubts.{filter_all}
use Rattle.law_run_recovers.proofs.OwnStep.{Went, then_does, own_step}
use Rattle.law_run_recovers.proofs.Sweeps.{Sweeps, Finished, Then, step_then}

module _ (given : Opening) (agent : ℕ) (first : World) (s : ℕ) (up : is_up first s ≡ true) (rises : rise (locks_at first s) ≡ true) where
  abbrev fixed : Fixed
  fixed = fixed_of given

  abbrev IsSweeping : World → SweepRun → Type 0
  IsSweeping w sweep_run = Sweeps fixed first s up rises w sweep_run

  abbrev pub HasFinished : World → Ending → Type 0
  HasFinished w ending = Finished fixed first s up rises w ending

  -- the agent sweeps; or it has swept, and is idle
  pub record Busy (w : World) : Type 0 where
    pub actor : Actor
    pub there : actor_at w agent ≡ Some actor
    pub sweep_run : SweepRun
    pub doing : actor.agent.doing ≡ Some (RunningSweep sweep_run)
    pub sweeps : IsSweeping w sweep_run

  pub record Over (w : World) : Type 0 where
    pub actor : Actor
    pub there : actor_at w agent ≡ Some actor
    pub idle : actor.agent.doing ≡ None
    pub ending : Ending
    pub finished : HasFinished w ending

  pub record Result (w : World) (jobs : List EndedJob) : Type 0 where
    pub state : Busy w ⊎ Over w
    pub ended : (job : EndedJob) → Has jobs job → job.agent ≡ agent → HasFinished w job.ending

  -- ---- where nothing happens

  sweeps_stay : (w new : World) (sweep_run : SweepRun) → new.servers ≡ w.servers → IsSweeping w sweep_run → IsSweeping new sweep_run
  sweeps_stay w new sweep_run same sweeps = search arith

  finished_stays : (w new : World) (ending : Ending) → new.servers ≡ w.servers → HasFinished w ending → HasFinished new ending
  finished_stays w new ending same finished = search arith

  busy_stays : (w : World) (stepped : Stepped) → Aside agent w stepped → Busy w → Busy stepped.world
  busy_stays w stepped aside busy = record { actor = busy.actor; there = aside.actor ∙ busy.there; sweep_run = busy.sweep_run; doing = busy.doing; sweeps = sweeps_stay w stepped.world busy.sweep_run aside.servers busy.sweeps }

  over_stays : (w : World) (stepped : Stepped) → Aside agent w stepped → Over w → Over stepped.world
  over_stays w stepped aside over = record { actor = over.actor; there = aside.actor ∙ over.there; idle = over.idle; ending = over.ending; finished = finished_stays w stepped.world over.ending aside.servers over.finished }

  -- an outcome of another agent is none of this one
  not_other : (w : World) (stepped : Stepped) → Aside agent w stepped → (found : Option EndedJob) → stepped.done.outcome ≡ found → (rest : List EndedJob) (job : EndedJob) → Has (cons_option found rest) job → job.agent ≡ agent → Has rest job
  not_other w stepped h2 found h4 rest job h7 h8 = search arith

  -- ---- once it is over

  -- an idle agent asks nothing
  idle_quiet : (w : World) → Over w → is_some (step fixed w (Step agent)).done.served ≡ true → ⊥
  idle_quiet w over is = search arith

  record Stays (w : World) (jobs : List EndedJob) (ending : Ending) : Type 0 where
    over : Over w
    finished : HasFinished w ending
    none : (job : EndedJob) → Has jobs job → job.agent ≡ agent → ⊥

  stays : (events : List Event) (w : World) (ending : Ending) → Over w → HasFinished w ending → unhindered_from given agent w events ≡ true → Stays (after fixed w events) (outcomes (dones fixed w events)) ending
  stays [] w ending over finished calm = record { over = over; finished = finished; none = λ job has own. absurd has }
  stays (event ∷ events) w ending over finished calm =
      let stepped = step fixed w event in
      let parts = and_parts (not (hinders given agent w event)) (unhindered_from given agent stepped.world events) calm in
      ⊎_elim
      (λ aside.
      let rest = stays events stepped.world ending (over_stays w stepped aside over) (finished_stays w stepped.world ending aside.servers finished) parts.1 in
      record { over = rest.over; finished = rest.finished; none = λ job has own. rest.none job (not_other w stepped aside stepped.done.outcome refl (outcomes (dones fixed stepped.world events)) job has own) own })
      (λ own. absurd (idle_quiet w over (subst (λ event. is_some (step fixed w event).done.served ≡ true) own.0 own.1)))
      (event_aside given agent w event (not-true (hinders given agent w event) parts.0))

  -- ---- as long as it sweeps

  -- what came of its own step
  record Came (w : World) (stepped : Stepped) (rest : List EndedJob) : Type 0 where
    went : (Busy stepped.world × (stepped.done.outcome ≡ None)) ⊎ ((ending : Ending) × (over : Over stepped.world) × HasFinished stepped.world ending × ((job : EndedJob) → stepped.done.outcome ≡ Some job → job.ending ≡ ending))

  came : (w : World) (busy : Busy w) (stepped : Stepped) → Went fixed w agent busy.actor busy.sweep_run stepped → (rest : List EndedJob) → Came w stepped rest
  came w busy stepped went rest =
      of (then_does fixed w agent busy.actor busy.sweep_run went.st) went.doing went.ended (step_then fixed first s up rises w stepped.world busy.sweep_run busy.sweeps went.st went.stamp went.at went.servers)
    where
      of : (then : After SweepRun) → went.new.agent.doing ≡ left RunningSweep then → stepped.done.outcome ≡ outcome_of agent busy.actor (end_of then) → Then fixed first s up rises stepped.world then → Came w stepped rest
      of then h1 h2 h3 = search (same_Some, arith)

  pub goes : (events : List Event) (w : World) → Busy w → unhindered_from given agent w events ≡ true → Result (after fixed w events) (outcomes (dones fixed w events))
  goes [] w busy calm = record { state = inl busy; ended = λ job has own. absurd has }
  goes (event ∷ events) w busy calm =
      let stepped = step fixed w event in
      let parts = and_parts (not (hinders given agent w event)) (unhindered_from given agent stepped.world events) calm in
      ⊎_elim
      (λ aside.
      let rest = goes events stepped.world (busy_stays w stepped aside busy) parts.1 in
      record { state = rest.state; ended = λ job has own. rest.ended job (not_other w stepped aside stepped.done.outcome refl (outcomes (dones fixed stepped.world events)) job has own) own })
      (λ own.
      let serves = subst (λ event. is_some (step fixed w event).done.served ≡ true) own.0 own.1 in
      let went = own_step fixed w agent busy.actor busy.sweep_run busy.there busy.doing serves in
      of stepped (subst (λ event. Came w (step fixed w event) []) (sym own.0) (came w busy (step fixed w (Step agent)) went [])) parts.1 (λ on. goes events stepped.world on parts.1))
      (event_aside given agent w event (not-true (hinders given agent w event) parts.0))
    where
      of : (stepped : Stepped) → Came w stepped [] → unhindered_from given agent stepped.world events ≡ true
          → (Busy stepped.world → Result (after fixed stepped.world events) (outcomes (dones fixed stepped.world events)))
          → Result (after fixed stepped.world events) (cons_option stepped.done.outcome (outcomes (dones fixed stepped.world events)))
      of stepped it calm go = ⊎_elim
          (λ on. subst (λ outcome. Result (after fixed stepped.world events) (cons_option outcome (outcomes (dones fixed stepped.world events)))) (sym on.1) (go on.0))
          (λ done.
          let rest = stays events stepped.world done.0 done.1 done.2 calm in
          record { state = inr rest.over; ended = λ job has own. last stepped.done.outcome refl job has own done.0 done.3 rest.finished rest.none })
          it.went
        where
          last : (found : Option EndedJob) → stepped.done.outcome ≡ found → (job : EndedJob) → Has (cons_option found (outcomes (dones fixed stepped.world events))) job → job.agent ≡ agent
              → (ending : Ending) → ((job : EndedJob) → stepped.done.outcome ≡ Some job → job.ending ≡ ending) → HasFinished (after fixed stepped.world events) ending
              → ((job : EndedJob) → Has (outcomes (dones fixed stepped.world events)) job → job.agent ≡ agent → ⊥) → HasFinished (after fixed stepped.world events) job.ending
          last None is job has own ending ends finished none = absurd (none job has own)
          last (Some other) is job has own ending ends finished none = elim has [
            | inl same ↦ subst (HasFinished (after fixed stepped.world events)) (sym (ends job (is ∙ ap Some same))) finished
            | inr later ↦ absurd (none job later own)
          ]

-- ---- from its begin on

module _ (given : Opening) (events : List Event) (agent t server : ℕ) (begins : begins_job given (run given events) (Begin agent (Sweep server)) ≡ Some (t, Sweep server)) (up : is_up (run given events) server ≡ true) where
  abbrev pub world : World
  world = run given events

  abbrev pub begun : World
  begun = (step (fixed_of given) world (Begin agent (Sweep server))).world

  pub rises : rise (locks_at world server) ≡ true
  rises = search (false≢true, all_consistent, arith)

  abbrev fresh : SweepRun
  fresh = record { server = server; broken = 0; finished = 0; left = 0; now = Listing }

  pub busy_first : Busy given agent world server up rises begun
  busy_first = of (actor_at world agent) refl begins
    where
      plain : (n : ℕ) → 0 + n ≡ n
      plain n = omega arith

      of : (found : Option Actor) → actor_at world agent ≡ found → with_job (Sweep server) (begins_now (fixed_of given) agent (Sweep server) found) ≡ Some (t, Sweep server)
          → Busy given agent world server up rises (becomes world agent (λ agent. begin (fixed_of given) agent (Sweep server)) found).world
      of None is begins = absurd (none-some (t, Sweep server) begins)
      of (Some actor) is begins =
          let new : Agent = record (started (fixed_of given) actor.agent (Sweep server)) { count = actor.agent.count + 1 } in
          elim (is_idle actor.agent.doing && has_sense (fixed_of given) (Sweep server) && nat_lt actor.agent.count max_jobs) as
          (λ b. with_job (Sweep server) (cond b (Some (64 * actor.agent.count + agent)) None) ≡ Some (t, Sweep server)
          → Busy given agent world server up rises (record world { agents = slice_set world.agents agent (record actor { agent = cond b new actor.agent }) })) [
            | true ↦ λ _. record {
              actor = record actor { agent = new };
              there = (puts_in world.agents agent actor (record actor { agent = new }) is).here;
              sweep_run = fresh;
              doing = refl;
              sweeps = record {
                server = refl;
                others_are = record { ups = λ x. refl; locks = λ x apart. refl };
                p = λ lock. true;
                locks = sym (filter_all (λ lock. true) (locks_at world server) (λ lock has. refl));
                rest = locks_at world server;
                left = search (plain, arith);
                now = (refl, λ lock has. refl);
              };
            }
            | false ↦ λ none. absurd (none-some (t, Sweep server) none)
          ] begins

pub sweeps_leave_doubts : Always SweepsLeaveDoubtsAt
sweeps_leave_doubts given events later agent t server alone job there own =
    let result = goes given agent (run given events) server alone.up (rises given events agent t server alone.begins alone.up) later
    (begun given events agent t server alone.begins alone.up) (busy_first given events agent t server alone.begins alone.up) alone.alone in
    let finished = result.ended job (has_from _ job there) own in
    let same = after-append (fixed_of given) (opening given) events (Begin agent (Sweep server) ∷ later) in
    record {
      broken = finished.broken;
      finished = finished.finished;
      ends = finished.is;
      left = ap (λ w. locks_at w server) same ∙ finished.locks;
      others = λ other apart. ap (λ w. locks_at w other) same ∙ finished.others_are.locks other apart;
    }
