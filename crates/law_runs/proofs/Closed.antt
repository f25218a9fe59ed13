-- A transaction that tells its end is not decided any more.
use Rattle.law_runs.proofs.Vocabulary.{◌≡◌, ℕ, ◌+◌, ◌<◌, List, [], ◌∷◌, ◌++◌, Option, Some, None, refl, sym, ap, subst, ◌∙◌, arith, ◌*◌, cons_option, same_Some, Opening, IsAccepted, Request, Has, Job, Response, Fixed, Phase, Finishing, Doing}
use Rattle.law_runs.proofs.Vocabulary.{Running, RunningSweep, Agent, take_in, take, begin, fixed_of, Event, opening, step, run, Decided, decided, decisions, decisions_from, after-append, decisions_from-append}
use Rattle.law_runs.proofs.Standing.{NotIn, not_in_more}
use Rattle.law_runs.proofs.Agents.{IsAt, same_place, take_keeps}
use Rattle.law_runs.proofs.Worlds.{agent_of, agent_at}
use Rattle.law_runs.proofs.Servers.{append_none}
use Rattle.law_runs.proofs.Each.{new_of, each_event}
use Rattle.law_runs.proofs.Conclusions.{holds_of}
use Rattle.law_runs.proofs.Answering.{answers_follow_knowledge}

-- ---- an agent that tells how its transaction ended goes on to

abbrev pub IsTelling : Phase → Type 0
IsTelling (Finishing servers told ending) = Unit {0}
IsTelling _ = ⊥

abbrev pub TellsEnd : Option Doing → Type 0
TellsEnd (Some (Running txn_run)) = IsTelling txn_run.phase
TellsEnd (Some (RunningSweep sweep_run)) = Unit {0}
TellsEnd None = Unit {0}

take_telling : (fixed : Fixed) (agent : Agent) (response : Response) (doing : Option Doing) (asked : Option (ℕ × Request)) → agent.doing ≡ doing → TellsEnd doing → TellsEnd (take_in fixed agent response doing asked).agent.doing
take_telling fixed agent response doing asked h5 h6 = search arith

-- ---- the job of a place is over, or tells its end

pub record IsClosed (place count : ℕ) (doing : Option Doing) : Type 0 where
  pub before : place < count
  pub telling : place + 1 ≡ count → TellsEnd doing

abbrev ClosedStill : ℕ → Agent → Agent → Type 0
ClosedStill place old new = IsClosed place old.count old.doing → IsClosed place new.count new.doing

begin_closed : (fixed : Fixed) (place : ℕ) (agent : Agent) (job : Job) → ClosedStill place agent (begin fixed agent job)
begin_closed fixed place agent job is = search arith

take_closed : (fixed : Fixed) (place : ℕ) (agent : Agent) (response : Response) → ClosedStill place agent (take fixed agent response).agent
take_closed fixed place agent response is = search (take_keeps, take_telling, arith)

-- ---- so it is not decided later

-- after these events the agent of a transaction is closed for it, and it is not decided
pub record Shut (given : Opening) (t i place : ℕ) (events : List Event) : Type 0 where
  pub agent : Agent
  pub at : agent_at (run given events) i ≡ Some agent
  pub closed : IsClosed place agent.count agent.doing
  pub none : NotIn (decisions given events) t

module _ (given : Opening) (accepted : IsAccepted given) (t i place : ℕ) (numbered : t ≡ 64 * place + i) where
  not_now : (events : List Event) (event : Event) (one : Decided) → Shut given t i place events → decided (fixed_of given) (run given events) event ≡ Some one → one.t ≡ t → ⊥
  not_now events event one shut is same =
      let known = answers_follow_knowledge given events event one is in
      let holds = holds_of given accepted events in
      let at : agent_at (run given events) known.number ≡ Some known.actor.agent = ap agent_of known.there in
      let runs : IsAt (decisions given events) known.number known.actor.agent.count (Some (Running known.txn_run)) =
      subst (IsAt (decisions given events) known.number known.actor.agent.count) known.running (holds.agents.at known.number known.actor.agent at) in
      let places = same_place runs.place place known.number i (sym runs.numbered ∙ sym known.t ∙ same ∙ numbered) (holds.agents.small known.number known.actor.agent at) (holds.agents.small i shut.agent shut.at) in
      let agents : known.actor.agent ≡ shut.agent = same_Some known.actor.agent shut.agent (sym at ∙ ap (agent_at (run given events)) places.1 ∙ shut.at) in
      let telling : TellsEnd shut.agent.doing = shut.closed.telling (ap (λ n. n + 1) (sym places.0) ∙ runs.last ∙ ap (λ (agent : Agent). agent.count) agents) in
      let running : shut.agent.doing ≡ Some (Running known.txn_run) = ap (λ (agent : Agent). agent.doing) (sym agents) ∙ known.running in
      let phase : IsTelling known.txn_run.phase = subst TellsEnd running telling in
      subst IsTelling known.deciding phase

  none_now : (events : List Event) (event : Event) → Shut given t i place events → NotIn (decisions_from (fixed_of given) (run given events) (event ∷ [])) t
  none_now events event shut one has same = of (decided (fixed_of given) (run given events) event) refl has
    where
      of : (o : Option Decided) → decided (fixed_of given) (run given events) event ≡ o → Has (cons_option o []) one → ⊥
      of o h1 h2 = search (not_now, arith)

  shut_on : (events : List Event) (event : Event) → Shut given t i place events → Shut given t i place (events ++ event ∷ [])
  shut_on events event shut =
      let fixed = fixed_of given in
      let world = run given events in
      let next : run given (events ++ event ∷ []) ≡ (step fixed world event).world = after-append fixed (opening given) events (event ∷ []) in
      let new = new_of (ClosedStill place) shut.agent (agent_at world i) (agent_at (step fixed world event).world i) shut.at
      (each_event fixed (ClosedStill place) (λ agent is. is) (begin_closed fixed place) (λ agent site is. is) (take_closed fixed place) world event i) in
      record {
        agent = new.0;
        at = ap (λ world. agent_at world i) next ∙ new.1;
        closed = new.2 shut.closed;
        none = subst (λ ds. NotIn ds t) (sym (decisions_from-append fixed (opening given) events (event ∷ []))) (not_in_more (decisions given events) (decisions_from fixed world (event ∷ [])) t shut.none (none_now events event shut));
      }

  joined : (events : List Event) (event : Event) (later : List Event) → (events ++ event ∷ []) ++ later ≡ events ++ event ∷ later
  joined [] event later = refl
  joined (first ∷ events) event later = ap (λ rest. first ∷ rest) (joined events event later)

  pub never : (later events : List Event) → Shut given t i place events → NotIn (decisions given (events ++ later)) t
  never [] events shut = subst (λ events. NotIn (decisions given events) t) (sym (append_none events)) shut.none
  never (event ∷ later) events shut = subst (λ events. NotIn (decisions given events) t) (joined events event later) (never later (events ++ event ∷ []) (shut_on events event shut))
