-- What is so of any run: who runs has not ended, a number is its agent's, nobody asks a server to crash, and servers that are up stay so.
use Rattle.law_run_recovers.proofs.Vocabulary.{◌≡◌, ◌⊎◌, inl, inr, ℕ, zero, suc, ◌+◌, true, false, List, [], ◌∷◌, ◌++◌, length, Option, Some, None, is_some, refl, sym, ap, ◌∙◌, arith, ◌%◌, slice_get, false≢true, same_Some, Opening, IsAccepted}
use Rattle.law_run_recovers.proofs.Vocabulary.{Request, State, Has, Job, Agent, fixed_of, EndedJob, Event, Begin, Crash, Actor, World, server_at, actor_at, step, dones, outcomes, run, decisions, dones-append, outcomes-append, ended, names, may_sweep}
use Rattle.law_run_recovers.proofs.Vocabulary.{number_of, begins_at, same_place, agents_ask_for_themselves, each_is_begun_once, holds_of, so_many, append_has_left, agent_of, agent_at, begins_job, is_crash, up_stays, AllServers, MayAsk, asks_servers}
use Rattle.law_run_recovers.proofs.Vocabulary.{spoils, is_up, runs, running_in, is_running, takes}
use Rattle.law_run_recovers.proofs.AmongCourse.{head_or, tail_or}
use Rattle.law_run_recovers.proofs.Keeps.{last_of}

-- ---- lists

-- of two places in a list one is before the other, or they are the same
pub compared : {X : Type 0} (xs us : List X) (x u : X) (ys vs : List X) → xs ++ x ∷ ys ≡ us ++ u ∷ vs
    → ((xs ≡ us) × (x ≡ u)) ⊎ (((between : List X) × (us ≡ xs ++ x ∷ between)) ⊎ ((between : List X) × (xs ≡ us ++ u ∷ between)))
compared [] [] x u ys vs is = inl (refl, ap (head_or x) is)
compared [] (v ∷ us) x u ys vs is = inr (inl (us, ap (λ z. z ∷ us) (sym (ap (head_or x) is))))
compared (w ∷ xs) [] x u ys vs is = inr (inr (xs, ap (λ z. z ∷ xs) (ap (head_or w) is)))
compared (w ∷ xs) (v ∷ us) x u ys vs is = search (head_or, tail_or, compared xs us x u ys vs, arith)

there_same : (xs ys : List State) → length xs ≡ length ys → (i : ℕ) → is_some (slice_get xs i) ≡ is_some (slice_get ys i)
there_same [] [] same i = refl
there_same [] (y ∷ ys) same i = let none : 0 ≡ suc (length ys) = same in absurd (omega (arith, none))
there_same (x ∷ xs) [] same i = let none : suc (length xs) ≡ 0 = same in absurd (omega (arith, none))
there_same (x ∷ xs) (y ∷ ys) same zero = refl
there_same (x ∷ xs) (y ∷ ys) same (suc i) = let less : suc (length xs) ≡ suc (length ys) = same in there_same xs ys (omega (arith, less)) i

-- ---- numbers

begun_number : (given : Opening) (w : World) (i t : ℕ) (job : Job) → begins_job given w (Begin i job) ≡ Some (t, job) → begins_at given w (Begin i job) ≡ Some t
begun_number given w i t job = search arith

-- two numbers that a request names are the same
pub names_one : (t u : ℕ) (asked : Request) → names t asked ≡ true → names u asked ≡ true → t ≡ u
names_one t u asked h3 h4 = search arith

-- what takes something of a transaction names it
pub takes_named : (t : ℕ) (st : State) (asked : Request) → takes t st asked ≡ true → names t asked ≡ true
takes_named t st asked h3 = search arith

never_crash : (t : ℕ) (asked : Request) → (names t asked ≡ true) ⊎ (may_sweep asked ≡ true) → is_crash asked ≡ false
never_crash t asked h2 = search arith

module _ (given : Opening) (accepted : IsAccepted given) where
  -- a number's rest by 64 is its agent
  pub its_agent : (all : List Event) (i t : ℕ) (job : Job) → begins_job given (run given all) (Begin i job) ≡ Some (t, job) → t % 64 ≡ i
  its_agent all i t job begins = (each_is_begun_once given accepted all).by_its_agent i t job (begun_number given (run given all) i t job begins)

  -- a job that has ended has so later
  pub ended_still : (all more : List Event) (one : EndedJob) → Has (ended given all) one → Has (ended given (all ++ more)) one
  ended_still all more one has = search (dones-append, outcomes-append, append_has_left, arith)

  -- and is run by nobody
  pub ended_runs_not : (all : List Event) (agent t : ℕ) (one : EndedJob) → Has (ended given all) one → number_of one ≡ t → is_running (run given all) agent t ≡ true → ⊥
  ended_runs_not all agent t one has number = of (actor_at (run given all) agent) refl
    where
      of : (found : Option Actor) → actor_at (run given all) agent ≡ found → running_in t found ≡ true → ⊥
      of None at is = false≢true is
      of (Some here) at is =
          let holds = holds_of given accepted all in
          let last = last_of (decisions given all) agent here.agent.count t here.agent.doing (holds.agents.at agent here.agent (ap agent_of at)) is in
          let was = holds.over one has in
          let places = same_place (one.count + 1) here.agent.count one.agent agent (omega (arith, number, last)) (holds.agents.small one.agent was.agent was.at) (holds.agents.small agent here.agent (ap agent_of at)) in
          let same = same_Some was.agent here.agent (sym was.at ∙ ap (agent_at (run given all)) places.1 ∙ ap agent_of at) in
          let idle = was.idle (places.0 ∙ sym (ap (λ (a : Agent). a.count) same)) in
          false≢true (sym (ap (runs t) (sym (ap (λ (a : Agent). a.doing) same) ∙ idle)) ∙ is)

  -- ---- servers stay up

  abbrev pub AllUp : World → Type 0
  AllUp world = AllServers (λ (st : State). st.up ≡ true) world

  pub up_unless : (all : List Event) (event : Event) → ((server : ℕ) → event ≡ Crash server → ⊥) → AllUp (run given all) → AllUp (step (fixed_of given) (run given all) event).world
  up_unless all event none up = asks_servers (fixed_of given) (λ s st. st.up ≡ true) (λ s asked. is_crash asked ≡ false) (λ s st asked other up. up_stays st asked other up) (run given all) up event (may event none)
    where
      may : (event : Event) → ((server : ℕ) → event ≡ Crash server → ⊥) → MayAsk (fixed_of given) (λ s asked. is_crash asked ≡ false) (run given all) event
      may event h1 = search (never_crash, agents_ask_for_themselves, arith)

  pub up_next : (all : List Event) (event : Event) → spoils given (run given all) event ≡ false → AllUp (run given all) → AllUp (step (fixed_of given) (run given all) event).world
  up_next all event calm up = up_unless all event (λ server is. false≢true (sym calm ∙ ap (spoils given (run given all)) is)) up

  up_there : (world : World) (server : ℕ) → AllUp world → is_up world server ≡ is_some (server_at world server)
  up_there world server up = search arith

  -- a server is up just where it was
  pub up_same : (all others : List Event) → AllUp (run given all) → AllUp (run given others) → (server : ℕ) → is_up (run given all) server ≡ is_up (run given others) server
  up_same all others up were server = search (up_there, there_same, so_many, arith)
