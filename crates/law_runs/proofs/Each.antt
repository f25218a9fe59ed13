-- What an event makes of each agent: it is as it was, or it began, forgot, or took a response.
use Rattle.law_runs.proofs.Vocabulary.{◌≡◌, ℕ, Option, Some, None, Job, Response, Replied, Lacked, Fixed, Agent, take, begin, forget, Event, arith, Actor, World, actor_at, with_actor, moved, reply_of, answer_of}
use Rattle.law_runs.proofs.Vocabulary.{step}
use Rattle.law_runs.proofs.Moves.{sent, by_moves}
use Rattle.law_runs.proofs.Places.{same_or}
use Rattle.law_runs.proofs.Worlds.{agent_at, puts_agent}

-- two agents of one number
abbrev pub Both : (Agent → Agent → Type 0) → Option Agent → Option Agent → Type 0
Both R (Some old) (Some new) = R old new
Both R None None = Unit {0}
Both R (Some old) None = ⊥
Both R None (Some new) = ⊥

pub new_of : (R : Agent → Agent → Type 0) (old : Agent) (found new : Option Agent) → found ≡ Some old → Both R found new → (agent : Agent) × (new ≡ Some agent) × R old agent
new_of h0 old found new h4 h5 = search arith

pub old_of : (R : Agent → Agent → Type 0) (new : Agent) (old found : Option Agent) → found ≡ Some new → Both R old found → (agent : Agent) × (old ≡ Some agent) × R agent new
old_of h0 new old found h4 h5 = search arith

-- what holds of an agent and itself, and of an agent and what it is once it began, forgot or took a response, holds of each agent before and after an event
module _ (fixed : Fixed) (R : Agent → Agent → Type 0) (same : (agent : Agent) → R agent agent) (begins : (agent : Agent) (job : Job) → R agent (begin fixed agent job))
    (forgets : (agent : Agent) (site : ℕ) → R agent (forget agent site)) (takes : (agent : Agent) (response : Response) → R agent (take fixed agent response).agent) where
  abbrev Each : World → World → Type 0
  Each world new = (i : ℕ) → Both R (agent_at world i) (agent_at new i)

  both_same : (found : Option Agent) → Both R found found
  both_same found = search arith

  each_same : (world : World) → Each world world
  each_same world i = both_same (agent_at world i)

  each_put : (world : World) (i : ℕ) (actor new : Actor) → actor_at world i ≡ Some actor → R actor.agent new.agent → Each world (with_actor i new world)
  each_put world i actor new is goes j = search (puts_agent world i actor new is, agent_at world j, agent_at (with_actor i new world) j, agent_at (with_actor i new world) i, both_same (agent_at world j), same_or j i, arith)

  pub each_event : (world : World) (event : Event) → (i : ℕ) → Both R (agent_at world i) (agent_at (step fixed world event).world i)
  each_event world = by_moves fixed world (λ _ stepped. Each world stepped.world) (record {
    nothing = λ _. each_same world;
    begins = λ number actor job is. each_put world number actor (record actor { agent = begin fixed actor.agent job }) is (begins actor.agent job);
    forgets = λ number actor site is. each_put world number actor (record actor { agent = forget actor.agent site }) is (forgets actor.agent site);
    answers = λ number actor asked st is next there room. each_put world number actor (moved actor (answer_of st (sent actor asked.1)).stamp (take fixed actor.agent (Replied (reply_of st asked.1)))) is (takes actor.agent (Replied (reply_of st asked.1)));
    lacks = λ event number actor asked why by is next. each_put world number actor (moved actor actor.stamp (take fixed actor.agent (Lacked why))) is (takes actor.agent (Lacked why));
    operates = λ event server asked st is there room. each_same world;
  })
