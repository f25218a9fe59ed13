-- A step of an agent that sweeps, where it was served.
use Rattle.law_run_recovers.proofs.Vocabulary.{◌≡◌, ℕ, true, false, cond, Option, Some, None, is_some, refl, ap, slice_set, false≢true, Request, Stamped, State, reply_of, is_full, served, answer_of, Response, Replied, Fixed, arith, SweepRun}
use Rattle.law_run_recovers.proofs.Vocabulary.{RunningSweep, After, asked_now, after_answer, Taken, left, end_of, next_in, take_in, take, Step, Served, Actor, World, Stepped, server_at, actor_at, serve, outcome_of, moved, answered, asks_at, step}
use Rattle.law_run_recovers.proofs.Vocabulary.{puts_in}

module _ (fixed : Fixed) (world : World) (i : ℕ) (actor : Actor) (sweep_run : SweepRun) where
  abbrev pub asked : ℕ × Request
  asked = asked_now fixed.service sweep_run sweep_run.now

  abbrev pub then_does : State → After SweepRun
  then_does st = after_answer fixed.service sweep_run sweep_run.now (reply_of st asked.1)

  pub record Went (stepped : Stepped) : Type 0 where
    pub st : State
    pub at : server_at world asked.0 ≡ Some st
    pub stamp : ℕ
    pub servers : stepped.world.servers ≡ slice_set world.servers asked.0 (served st (record { stamp = stamp; value = asked.1 }))
    pub new : Actor
    pub here : actor_at stepped.world i ≡ Some new
    pub doing : new.agent.doing ≡ left RunningSweep (then_does st)
    pub ended : stepped.done.outcome ≡ outcome_of i actor (end_of (then_does st))

  module _ (is : actor_at world i ≡ Some actor) (doing : actor.agent.doing ≡ Some (RunningSweep sweep_run)) where
    taken : (response : Response) → take fixed actor.agent response ≡ take_in fixed actor.agent response (Some (RunningSweep sweep_run)) (Some asked)
    taken response = ap (λ doing. take_in fixed actor.agent response doing (next_in fixed doing)) doing

    abbrev stamped : Stamped Request
    stamped = record { stamp = actor.stamp; value = asked.1 }

    went : (st : State) → server_at world asked.0 ≡ Some st → is_some (answered fixed world i actor st (serve asked.0 st stamped)).done.served ≡ true → Went (answered fixed world i actor st (serve asked.0 st stamped))
    went st at =
        elim (is_full st stamped) as (λ b. is_some (answered fixed world i actor st (cond b None (Some what))).done.served ≡ true → Went (answered fixed world i actor st (cond b None (Some what)))) [
          | true ↦ λ is. absurd (false≢true is)
          | false ↦ λ _.
              let response = Replied (reply_of st asked.1) in
              record {
                st = st;
                at = at;
                stamp = actor.stamp;
                servers = refl;
                new = moved actor (answer_of st stamped).stamp (take fixed actor.agent response);
                here = (puts_in world.agents i actor (moved actor (answer_of st stamped).stamp (take fixed actor.agent response)) is).here;
                doing = ap (λ (taken : Taken). taken.agent.doing) (taken response);
                ended = ap (λ (taken : Taken). outcome_of i actor taken.ending) (taken response);
              }
        ]
      where
        what : Served
        what = record { server = asked.0; request = stamped; reply = answer_of st stamped }

    at_server : (found : Option State) → server_at world asked.0 ≡ found → is_some (asks_at fixed world i actor asked found).done.served ≡ true → Went (asks_at fixed world i actor asked found)
    at_server found h1 h2 = search (false≢true, went, arith)

    pub own_step : is_some (step fixed world (Step i)).done.served ≡ true → Went (step fixed world (Step i))
    own_step = search (at_server, arith)
