-- What holds of all servers, and of what an agent does, event by event.
use Rattle.law_run_alone.proofs.Vocabulary.{◌≡◌, inl, inr, ⊎_elim, ℕ, false, List, Option, Some, None, refl, sym, ap, subst, ◌∙◌, slice_get, slice_set, none-some, same_Some, Opening, Request, Stamped, State, arith, reply_of, is_full, served, answer_of, Job}
use Rattle.law_run_alone.proofs.Vocabulary.{Response, Replied, Lacked, Fixed, Doing, fixed_of, next_of, take_in, take, begin, forget, Event, Begin, Step, Crash, Return, Actor, World, server_at, actor_at, with_actor, moved}
use Rattle.law_run_alone.proofs.Vocabulary.{step, begins_now, same_or, at_puts, step_is, puts_in, begins_job}
use Rattle.law_runs.proofs.Moves.{sent, unstamped, operator_asks, by_moves}
use Rattle.rep_core.specs.declared.request.Request.TheVariants as request
use Rattle.rep_core.specs.Serving as serving
use Rattle.law_run_alone.proofs.Turns.{doing_of, doing_at, with_job}

-- of each server, which may go by its number
abbrev pub AllAt : (ℕ → State → Type 0) → World → Type 0
AllAt Q world = (s : ℕ) (st : State) → server_at world s ≡ Some st → Q s st

abbrev pub AllServers : (State → Type 0) → World → Type 0
AllServers Q world = AllAt (λ s. Q) world

-- what an event asks a server is of a kind
abbrev pub MayAsk : Fixed → (ℕ → Request → Type 0) → World → Event → Type 0
MayAsk fixed C world (Step i) = (actor : Actor) (asked : ℕ × Request) → actor_at world i ≡ Some actor → next_of fixed actor.agent ≡ Some asked → C asked.0 asked.1
MayAsk fixed C world (Crash server) = C server request.Crash
MayAsk fixed C world (Return server) = C server request.Return
MayAsk fixed C world other = Unit {0}

-- what every request of a kind keeps of a server
module _ (fixed : Fixed) (Q : ℕ → State → Type 0) (C : ℕ → Request → Type 0) (keeps : (s : ℕ) (st : State) (asked : Stamped Request) → C s asked.value → Q s st → Q s (serving.step st asked)) (world : World) (all : AllAt Q world) where
  all_served : (s : ℕ) (st : State) (asked : Stamped Request) → server_at world s ≡ Some st → is_full st asked ≡ false → C s asked.value → (s' : ℕ) (st' : State)
      → slice_get (slice_set world.servers s (served st asked)) s' ≡ Some st' → Q s' st'
  all_served s st asked at room of_kind s' st' is = elim (at_puts (slice_get world.servers) (slice_get (slice_set world.servers s (served st asked))) s st (served st asked) (puts_in world.servers s st (served st asked) at) s' st' is) [
    | inl here ↦ subst (λ s. Q s st') (sym here.at) (subst (Q s) (step_is st asked room ∙ sym here.is) (keeps s st asked of_kind (all s st at)))
    | inr there ↦ all s' st' there.was
  ]

  operator_kind : (event : Event) (server : ℕ) (asked : Request) → operator_asks event ≡ Some (server, asked) → MayAsk fixed C world event → C server asked
  operator_kind (Crash s) server asked is may = subst (λ (asked : ℕ × Request). C asked.0 asked.1) (same_Some (s, request.Crash) (server, asked) is) may
  operator_kind (Return s) server asked is may = subst (λ (asked : ℕ × Request). C asked.0 asked.1) (same_Some (s, request.Return) (server, asked) is) may
  operator_kind other server asked is may = absurd (none-some (server, asked) is)

  pub asks_servers : (event : Event) → MayAsk fixed C world event → AllAt Q (step fixed world event).world
  asks_servers = by_moves fixed world (λ event stepped. MayAsk fixed C world event → AllAt Q stepped.world) (record {
    nothing = λ event _. all;
    begins = λ number actor job there _. all;
    forgets = λ number actor site there _. all;
    answers = λ number actor asked st there next at room may. all_served asked.0 st (sent actor asked.1) at room (may actor asked there next);
    lacks = λ event number actor asked why by there next _. all;
    operates = λ event server asked st by there room may. all_served server st (unstamped asked) there room (operator_kind event server asked by may);
  })

-- the same where all requests that agents now ask are of that kind
pub event_servers : (fixed : Fixed) (Q : State → Type 0) (C : Request → Type 0) → ((st : State) (asked : Stamped Request) → C asked.value → Q st → Q (serving.step st asked)) → C request.Crash → C request.Return → (world : World)
    → ((i : ℕ) (actor : Actor) (asked : ℕ × Request) → actor_at world i ≡ Some actor → next_of fixed actor.agent ≡ Some asked → C asked.1) → AllServers Q world → (event : Event) → AllServers Q (step fixed world event).world
event_servers fixed Q C keeps crashes returns world may all event = asks_servers fixed (λ s. Q) (λ s. C) (λ s. keeps) world all event (of event)
  where
    of : (event : Event) → MayAsk fixed (λ s. C) world event
    of event = search arith

-- ---- an agent

-- who begins nothing does what it did
pub begun_same : (given : Opening) (i : ℕ) (job : Job) (actor : Actor) → with_job job (begins_now (fixed_of given) i job (Some actor)) ≡ None → (begin (fixed_of given) actor.agent job).doing ≡ actor.agent.doing
begun_same given i job actor none = search arith

-- it begins nothing in an event
abbrev pub BeginsNone : Opening → ℕ → World → Event → Type 0
BeginsNone given j world (Begin i job) = i ≡ j → begins_job given world (Begin i job) ≡ None
BeginsNone given j world other = Unit {0}

-- where no job begins, no agent begins any
pub none_begins : (given : Opening) (j : ℕ) (world : World) (event : Event) → begins_job given world event ≡ None → BeginsNone given j world event
none_begins given j world event h4 = search arith

-- What holds of what an agent does after each response that it takes, as long as it begins nothing.
module _ (given : Opening) (P : Option Doing → Type 0) (j : ℕ) (world : World)
    (takes : (actor : Actor) (asked : ℕ × Request) (response : Response) → actor_at world j ≡ Some actor → next_of (fixed_of given) actor.agent ≡ Some asked
    → P (take_in (fixed_of given) actor.agent response actor.agent.doing (Some asked)).agent.doing)
    (now : P (doing_at world j)) where
  put_doing : (servers : List State) (i : ℕ) (actor new : Actor) → actor_at world i ≡ Some actor → (i ≡ j → P new.agent.doing) → P (doing_at (with_actor i new (record world { servers = servers })) j)
  put_doing servers i actor new is here =
      let puts = puts_in world.agents i actor new is in
      ⊎_elim
      (λ at. subst (λ k. P (doing_of (slice_get (slice_set world.agents i new) k))) (sym at) (subst (λ found. P (doing_of found)) (sym puts.here) (here (sym at))))
      (λ other. subst (λ found. P (doing_of found)) (sym (puts.apart j other)) now)
      (same_or j i)

  same_doing : (i : ℕ) (actor new : Actor) → actor_at world i ≡ Some actor → (i ≡ j → new.agent.doing ≡ actor.agent.doing) → P (doing_at (with_actor i new world) j)
  same_doing i actor new is same = put_doing world.servers i actor new is (λ at. subst P (ap (doing_at world) (sym at) ∙ ap doing_of is ∙ sym (same at)) now)

  took_doing : (servers : List State) (i : ℕ) (actor : Actor) (asked : ℕ × Request) (response : Response) (stamp : ℕ) → actor_at world i ≡ Some actor → next_of (fixed_of given) actor.agent ≡ Some asked
      → P (doing_at (with_actor i (moved actor stamp (take (fixed_of given) actor.agent response)) (record world { servers = servers })) j)
  took_doing servers i actor asked response stamp is next =
      put_doing servers i actor (moved actor stamp (take (fixed_of given) actor.agent response)) is
      (λ at. subst (λ asked. P (take_in (fixed_of given) actor.agent response actor.agent.doing asked).agent.doing) (sym next) (takes actor asked response (ap (actor_at world) (sym at) ∙ is) next))

  pub event_doing : (event : Event) → BeginsNone given j world event → P (doing_at (step (fixed_of given) world event).world j)
  event_doing = by_moves (fixed_of given) world (λ event stepped. BeginsNone given j world event → P (doing_at stepped.world j)) (record {
    nothing = λ event _. now;
    begins = λ number actor job there none.
        same_doing number actor (record actor { agent = begin (fixed_of given) actor.agent job }) there
        (λ at. begun_same given number job actor (subst (λ found. with_job job (begins_now (fixed_of given) number job found) ≡ None) there (none at)));
    forgets = λ number actor site there _. same_doing number actor (record actor { agent = forget actor.agent site }) there (λ at. refl);
    answers = λ number actor asked st there next at room _.
        took_doing (slice_set world.servers asked.0 (served st (sent actor asked.1))) number actor asked (Replied (reply_of st asked.1)) (answer_of st (sent actor asked.1)).stamp there next;
    lacks = λ event number actor asked why by there next _. took_doing world.servers number actor asked (Lacked why) actor.stamp there next;
    operates = λ event server asked st by there room _. now;
  })
