-- What holds of a job's exchanges and of what its agent does: so at the begin and after each event, so always.
use Rattle.law_agents.proofs.Vocabulary.{◌≡◌, ℕ, List, [], ◌∷◌, ◌++◌, Option, Some, sym, subst, append-nil, Request, Response, Job, Fixed, Doing, Agent, Event, next_in, take_in, begin, arith, after_all, Exchange, exchange_of, of_job, after-append}
use Rattle.law_agents.proofs.Vocabulary.{exchanges-take, exchanges-forget, append_assoc}

module _ (fixed : Fixed) (agent : Agent) (job : Job) (Holds : List Exchange → Option Doing → Type 0) where
  abbrev at : List Event → Agent
  at events = after_all fixed (begin fixed agent job) events

  abbrev past : List Event → List Exchange
  past events = of_job fixed agent job events

  -- it stays so with what is told of a request
  abbrev pub Stays : Type 0
  Stays = (events : List Event) (heard : Response) (doing : Doing) (server : ℕ) (asked : Request) → (at events).doing ≡ Some doing → next_in fixed (Some doing) ≡ Some (server, asked)
      → Holds (past events) (Some doing) → Holds (past events ++ record { server = server; request = asked; response = heard } ∷ []) (take_in fixed (at events) heard (Some doing) (Some (server, asked))).agent.doing

  module _ (stays : Stays) where
    told : (events : List Event) (heard : Response) (doing : Option Doing) (asked : Option (ℕ × Request)) → (at events).doing ≡ doing → next_in fixed doing ≡ asked → Holds (past events) doing
        → Holds (past events ++ exchange_of asked heard) (take_in fixed (at events) heard doing asked).agent.doing
    told events heard doing asked h4 h5 h6 = search (append-nil, arith)

    more : (events : List Event) (event : Event) → Holds (past events) (at events).doing → Holds (past (events ++ event ∷ [])) (at (events ++ event ∷ [])).doing
    more events event h2 = search (exchanges-take, after-append, told, exchanges-forget, arith)

    all_from : (events later : List Event) → Holds (past events) (at events).doing → Holds (past (events ++ later)) (at (events ++ later)).doing
    all_from events [] holds = subst (λ events. Holds (past events) (at events).doing) (sym (append-nil events)) holds
    all_from events (event ∷ later) holds = search (append_assoc, more, all_from (events ++ event ∷ []) later, arith)

    pub always : Holds [] (begin fixed agent job).doing → (events : List Event) → Holds (past events) (at events).doing
    always begins events = all_from [] events begins
