-- The laws: an agent asks until its job is at an end, it asks whom it knows, and so the job is at an end in time.
use Rattle.law_agents.proofs.Vocabulary.{◌≡◌, inl, inr, ℕ, ◌+◌, ◌*◌, ◌<◌, Bool, true, false, List, [], ◌∷◌, ◌++◌, length, Option, Some, None, refl, sym, ap, ◌∙◌, arith, ◌==◌, ◌&&◌, ◌||◌, nat_lt, nat_le, IsSome, Contains, list_any, list_all, eq-eqb}
use Rattle.law_agents.proofs.Vocabulary.{false≢true, nat_tests, Representative, Configuration, IsValid, Request, Reply, Has, any_has, contains_from, Entry, Cache, Response, Replied, Lacked, Job, Transaction, Sweep, Fixed, home_of, Doing, Running}
use Rattle.law_agents.proofs.Vocabulary.{RunningSweep, Agent, Event, Take, Forget, next_in, next_of, take_in, take, begin, forget, is_idle, after_all, Exchange, exchange_of, exchanges, of_job, among, asks_only, names_of, names_only, listed}
use Rattle.law_agents.proofs.Vocabulary.{listed_in, ends_in_time, sweep_ends_in_time, IsNoCourse, exchanges-take, agent_after, VotesAreValid, AsksUntilItEnds, names, names_in, is_known, AsksWhomItKnows, steps_in, names_next, EndsWithin}
use Rattle.law_agents.proofs.Vocabulary.{SweepEndsWithin, CachesStayValid, JobsEnd}
use Rattle.rep_core.specs.declared.request.Request.TheVariants as request
use Rattle.rep_core.specs.declared.reply.Reply.TheVariants as reply
use Rattle.rep_core.specs.declared.stamped.Lack.TheVariants as lack
use Rattle.weak_cache.proofs.Origins as origins
use Rattle.txn_core.specs.Sweeps as sweep
use Rattle.law_agents.proofs.Collectors.{AllReps}
use Rattle.law_agents.proofs.Walk.{Goes, CacheFine}
use Rattle.law_agents.proofs.Words.{ResponseSo, AsksSo}
use Rattle.law_agents.proofs.AllResponses.{AllSo, AllAsk, Kept, Went, went, begin_kept, asks_now, whom_now, length_append, busy_before}

or_left : (a b : Bool) → a ≡ true → (a || b) ≡ true
or_left a b h2 = search arith

or_right : (a b : Bool) → b ≡ true → (a || b) ≡ true
or_right a b h2 = search arith

-- ---- votes that may be met, and servers that may be asked: those of a set that has all that the agent knows

module _ (fixed : Fixed) (agent : Agent) (past : List Exchange) (valid : VotesAreValid fixed agent past) (S : ℕ → Type 0) (all : (server : ℕ) → is_known fixed agent past server ≡ true → S server) where
  abbrev pub V : Configuration → Type 0
  V votes = IsValid votes × ((server : ℕ) → names votes server ≡ true → S server)

  abbrev is_there : ℕ → Bool
  is_there server = nat_lt server fixed.service.servers

  abbrev is_cached : ℕ → Bool
  is_cached server = list_any (λ entry. names entry.prefix.votes server) agent.cache

  abbrev is_replied : ℕ → Bool
  is_replied server = list_any (λ one. names_in one.response server) past

  there : (server : ℕ) → is_there server ≡ true → S server
  there server is = all server (or_left (is_there server || is_cached server) (is_replied server) (or_left (is_there server) (is_cached server) is))

  below : (server : ℕ) → server < fixed.service.servers → S server
  below server less = there server (grind (arith, nat_tests))

  in_cache : (server : ℕ) → is_cached server ≡ true → S server
  in_cache server is = all server (or_left (is_there server || is_cached server) (is_replied server) (or_right (is_there server) (is_cached server) is))

  in_replies : (server : ℕ) → is_replied server ≡ true → S server
  in_replies server is = all server (or_right (is_there server || is_cached server) (is_replied server) is)

  reps_of : (reps : List Representative) → ((server : ℕ) → list_any (λ rep. rep.0 == server) reps ≡ true → S server) → AllReps V S reps
  reps_of [] named = tt
  reps_of (rep ∷ reps) named = search (or_left, eq-eqb, or_right, reps_of reps, arith)

  reps_known : (reps : List Representative) → list_any (λ rep. nat_le fixed.service.servers rep.0) reps ≡ false → AllReps V S reps
  reps_known [] none = tt
  reps_known (rep ∷ reps) none = search (nat_le, nat_lt, nat_tests, false≢true, there, reps_known reps, arith)

  opening_named : (server : ℕ) → names fixed.service.c0 server ≡ true → S server
  opening_named server is = search (any_has, contains_from, below, nat_tests, arith)

  home_so : (t : ℕ) → S (home_of fixed.service t)
  home_so t = search arith

  pub goes : Goes fixed V S
  goes = search (reps_of, opening_named, below, home_so, reps_known, arith)

  -- the cache at the begin, and the replies
  any_entry : (cache : Cache) (server : ℕ) (entry : Entry) → origins.Has cache entry → names entry.prefix.votes server ≡ true → list_any (λ entry. names entry.prefix.votes server) cache ≡ true
  any_entry [] server entry has is = absurd has
  any_entry (e ∷ cache) server entry has is = search (or_left, or_right, any_entry cache server entry, arith)

  cache_fine : CacheFine fixed V S goes agent.cache
  cache_fine entry has = (valid.cached entry (origins.has_to agent.cache entry has), λ server is. in_cache server (any_entry agent.cache server entry has is))

  response_so : (one : Exchange) → Contains past one → ((server : ℕ) → names_in one.response server ≡ true → S server) → ResponseSo fixed V S goes one.response
  response_so one at named = of one.response refl
    where
      said : (r : Reply) → one.response ≡ Replied r → ResponseSo fixed V S goes (Replied r)
      said (reply.Held prefix dver) is = (valid.replied one (reply.Held prefix dver) at is, λ server is'. named server (ap (λ response. names_in response server) is ∙ is'))
      said other is = tt

      of : (response : Response) → one.response ≡ response → ResponseSo fixed V S goes response
      of response h1 = search (said, arith)

  all_so : (rest : List Exchange) → ((one : Exchange) → Has rest one → Contains past one) → ((server : ℕ) → list_any (λ one. names_in one.response server) rest ≡ true → S server) → AllSo fixed V S goes rest
  all_so [] in' named = tt
  all_so (one ∷ rest) in' named = (
    response_so one (in' one (inl refl)) (λ server is. named server (or_left (names_in one.response server) _ is)),
    all_so rest (λ other has. in' other (inr has)) (λ server is. named server (or_right (names_in one.response server) _ is)),
  )

  pub past_so : AllSo fixed V S goes past
  past_so = all_so past (λ one has. contains_from past one has) in_replies

  pub begun : (job : Job) → is_idle agent.doing ≡ true → Kept fixed V S goes (begin fixed agent job)
  begun job idle = begin_kept fixed V S goes agent job there idle cache_fine

module _ (fixed : Fixed) (agent : Agent) (job : Job) (events : List Event) (idle : is_idle agent.doing ≡ true) (valid : VotesAreValid fixed agent (of_job fixed agent job events))
    (S : ℕ → Type 0) (all : (server : ℕ) → is_known fixed agent (of_job fixed agent job events) server ≡ true → S server) where
  abbrev past : List Exchange
  past = of_job fixed agent job events

  abbrev V' : Configuration → Type 0
  V' = V fixed agent past valid S all

  abbrev goes' : Goes fixed V' S
  goes' = goes fixed agent past valid S all

  way : Went fixed V' S goes' (begin fixed agent job) events
  way = went fixed V' S goes' (begin fixed agent job) events (begun fixed agent past valid S all job idle) (past_so fixed agent past valid S all)

  asks : is_idle (agent_after fixed agent job events).doing ≡ false → AsksSo fixed V' S goes' (next_of fixed (agent_after fixed agent job events))
  asks busy = asks_now fixed V' S goes' (agent_after fixed agent job events) way.kept busy

  some_asked : is_idle (agent_after fixed agent job events).doing ≡ false → IsSome (next_of fixed (agent_after fixed agent job events))
  some_asked busy = search (asks, arith)

  whom : (asked : ℕ × Request) → next_of fixed (agent_after fixed agent job events) ≡ Some asked → S asked.0
  whom asked is = whom_now fixed V' S goes' (agent_after fixed agent job events) asked way.kept is

  keeps : (entry : Entry) → Contains (agent_after fixed agent job events).cache entry → IsValid entry.prefix.votes
  keeps entry at = (way.kept.cached entry (origins.has_from (agent_after fixed agent job events).cache entry at)).0

asks_until_it_ends : AsksUntilItEnds
asks_until_it_ends fixed agent job events idle valid busy = some_asked fixed agent job events idle valid (λ server. is_known fixed agent (of_job fixed agent job events) server ≡ true) (λ server is. is) busy

asks_whom_it_knows : AsksWhomItKnows
asks_whom_it_knows fixed agent job events server asked idle valid is =
    whom fixed agent job events idle valid (λ server. is_known fixed agent (of_job fixed agent job events) server ≡ true) (λ server is. is) (server, asked) is

pub caches_stay_valid : CachesStayValid
caches_stay_valid fixed agent job events entry idle valid at =
    keeps fixed agent job events idle valid (λ server. is_known fixed agent (of_job fixed agent job events) server ≡ true) (λ server is. is) entry at

-- ---- the bound: one step more could be taken

of_more : (fixed : Fixed) (agent : Agent) (job : Job) (events : List Event) (asked : ℕ × Request) → next_of fixed (agent_after fixed agent job events) ≡ Some asked
    → of_job fixed agent job (events ++ Take (Lacked lack.Full) ∷ []) ≡ of_job fixed agent job events ++ record { server = asked.0; request = asked.1; response = Lacked lack.Full } ∷ []
of_more fixed agent job events asked is = search (exchanges-take, arith)

all_both : (p : Exchange → Bool) (past : List Exchange) (one : Exchange) → list_all p past ≡ true → p one ≡ true → list_all p (past ++ one ∷ []) ≡ true
all_both p [] one all is = ap (λ b. b && true) is
all_both p (first ∷ past) one all is = of (p first) all (λ all. all_both p past one all is)
  where
    of : (b : Bool) → (b && list_all p past) ≡ true → (list_all p past ≡ true → list_all p (past ++ one ∷ []) ≡ true) → (b && list_all p (past ++ one ∷ [])) ≡ true
    of b h1 h2 = search arith

ends_within : EndsWithin
ends_within fixed agent caller site ops events servers suites idle valid all named next_named busy =
    of (next_of fixed (agent_after fixed agent job events)) refl (asks fixed agent job events idle valid S all busy) next_named
  where
    job : Job
    job = Transaction caller site ops

    S : ℕ → Type 0
    S server = among servers server ≡ true

    past : List Exchange
    past = of_job fixed agent job events

    asked_all : (past : List Exchange) → AllAsk fixed (V' fixed agent job events idle valid S all) S (goes' fixed agent job events idle valid S all) past → asks_only servers past ≡ true
    asked_all [] so = refl
    asked_all (one ∷ past) so = ap (λ b. b && asks_only servers past) so.0 ∙ asked_all past so.1

    of : (asked : Option (ℕ × Request)) → next_of fixed (agent_after fixed agent job events) ≡ asked → AsksSo fixed (V' fixed agent job events idle valid S all) S (goes' fixed agent job events idle valid S all) asked
        → names_next suites asked ≡ true → steps_in events < length suites * (2 * length servers + 1) + 2 * length servers + 1
    of None is so next_named = absurd so
    of (Some asked) is so next_named =
        let one : Exchange = record { server = asked.0; request = asked.1; response = Lacked lack.Full } in
        let more = of_more fixed agent job events asked is in
        let went' = way fixed agent job events idle valid S all in
        let bound = ends_in_time fixed agent caller site ops (events ++ Take (Lacked lack.Full) ∷ []) servers suites idle
        (ap (asks_only servers) more ∙ all_both (λ one. among servers one.server) past one (asked_all past went'.asked) so)
        (ap (names_only suites) more ∙ all_both (λ one. names_of suites one.request) past one named next_named) in
        let steps = went'.steps busy in
        let sum = ap length more ∙ length_append past (one ∷ []) in
        omega (arith, bound, steps, sum)

-- servers that are all known are all that were asked
pub asked_are_known : (fixed : Fixed) (agent : Agent) (job : Job) (events : List Event) (servers : List ℕ) → is_idle agent.doing ≡ true → VotesAreValid fixed agent (of_job fixed agent job events)
    → ((server : ℕ) → is_known fixed agent (of_job fixed agent job events) server ≡ true → among servers server ≡ true) → asks_only servers (of_job fixed agent job events) ≡ true
asked_are_known fixed agent job events servers idle valid all = asked_all (of_job fixed agent job events) (way fixed agent job events idle valid S all).asked
  where
    S : ℕ → Type 0
    S server = among servers server ≡ true

    asked_all : (past : List Exchange) → AllAsk fixed (V' fixed agent job events idle valid S all) S (goes' fixed agent job events idle valid S all) past → asks_only servers past ≡ true
    asked_all [] so = refl
    asked_all (one ∷ past) so = ap (λ b. b && asks_only servers past) so.0 ∙ asked_all past so.1

-- ---- sweeps

take_no_course : (fixed : Fixed) (agent : Agent) (response : Response) (doing : Option Doing) (asked : Option (ℕ × Request)) → agent.doing ≡ doing → IsNoCourse doing → IsNoCourse (take_in fixed agent response doing asked).agent.doing
take_no_course fixed agent response doing asked h5 h6 = search arith

-- a sweep asks while it is not at an end
sweep_asks : (fixed : Fixed) (doing : Option Doing) → IsNoCourse doing → is_idle doing ≡ false → (asked : ℕ × Request) × (next_in fixed doing ≡ Some asked)
sweep_asks fixed (Some (RunningSweep sweep_run)) none busy = (sweep.asked_now fixed.service sweep_run sweep_run.now, refl)
sweep_asks fixed (Some (Running txn_run)) none busy = absurd none
sweep_asks fixed None none busy = absurd (false≢true (sym busy))

record Sweeps (fixed : Fixed) (agent : Agent) (events : List Event) : Type 0 where
  sweep_run : IsNoCourse (after_all fixed agent events).doing
  steps : is_idle (after_all fixed agent events).doing ≡ false → length (exchanges fixed agent events) ≡ steps_in events

sweeps : (fixed : Fixed) (agent : Agent) (events : List Event) → IsNoCourse agent.doing → Sweeps fixed agent events
sweeps fixed agent [] none = record { sweep_run = none; steps = λ busy. refl }
sweeps fixed agent (Forget site ∷ events) none = let rest = sweeps fixed (forget agent site) events none in record { sweep_run = rest.sweep_run; steps = rest.steps }
sweeps fixed agent (Take response ∷ events) none =
    let rest = sweeps fixed (take fixed agent response).agent events (take_no_course fixed agent response agent.doing (next_of fixed agent) refl none) in
    record {
      sweep_run = rest.sweep_run;
      steps = λ busy.
          let asked = sweep_asks fixed agent.doing none (busy_before fixed agent (Take response ∷ events) busy) in
          let one : length (exchange_of (next_of fixed agent) response) ≡ 1 = ap (λ asked. length (exchange_of asked response)) asked.1 in
          let others = rest.steps busy in
          let sum = length_append (exchange_of (next_of fixed agent) response) (exchanges fixed (take fixed agent response).agent events) in
          omega (arith, one, others, sum);
    }

begin_no_course : (fixed : Fixed) (agent : Agent) (server : ℕ) → is_idle agent.doing ≡ true → IsNoCourse (begin fixed agent (Sweep server)).doing
begin_no_course fixed agent server idle = search arith

quiet : (asked : Request) → listed_in asked (Lacked lack.Full) ≡ 0
quiet asked = search arith

listed_more : (past : List Exchange) (one : Exchange) → listed_in one.request one.response ≡ 0 → listed (past ++ one ∷ []) ≡ listed past
listed_more [] one none = omega (arith, none)
listed_more (first ∷ past) one none = ap (λ n. listed_in first.request first.response + n) (listed_more past one none)

sweep_ends_within : SweepEndsWithin
sweep_ends_within fixed agent server events idle busy =
    let went' = sweeps fixed (begin fixed agent (Sweep server)) events (begin_no_course fixed agent server idle) in
    let asked = sweep_asks fixed (agent_after fixed agent (Sweep server) events).doing went'.sweep_run busy in
    let one : Exchange = record { server = asked.0.0; request = asked.0.1; response = Lacked lack.Full } in
    let past = of_job fixed agent (Sweep server) events in
    let more = of_more fixed agent (Sweep server) events asked.0 asked.1 in
    let bound = sweep_ends_in_time fixed agent server (events ++ Take (Lacked lack.Full) ∷ []) idle in
    let steps = went'.steps busy in
    let sum = ap length more ∙ length_append past (one ∷ []) in
    let locks = ap listed more ∙ listed_more past one (quiet asked.0.1) in
    omega (arith, bound, steps, sum, locks)

-- ----

pub jobs_end : JobsEnd
jobs_end = record { asks = asks_until_it_ends; known = asks_whom_it_knows; within = ends_within; sweeps = sweep_ends_within; cached = caches_stay_valid }
