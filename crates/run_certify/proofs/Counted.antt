-- How many jobs agents have begun, and which they may begin.
use Rattle.run_certify.proofs.Vocabulary.{◌≡◌, ◌≢◌, ℕ, zero, suc, ◌+◌, ◌<◌, ◌≤◌, Bool, true, false, cond, List, [], ◌∷◌, length, slice_set, Option, Some, None, refl, sym, ap, ◌∙◌, arith, ◌&&◌, nat_lt, slice_get, false≢true, nat_tests, none-some}
use Rattle.run_certify.proofs.Vocabulary.{same_Some, Opening, Request, State, Job, Response, Fixed, Agent, begin, begins, forget, max_jobs, next_of, started, Event, Begin, Step, Crash, Return, Forget, Lack, Served, can_begin, has_sense, Actor, World}
use Rattle.run_certify.proofs.Vocabulary.{actor_at, answered, asks, asks_at, becomes, has_no_job, lacks, lacks_for, opening, operates, server_at, step, steps_once, take_keeps, actor_opens, AreCounted, IsCounted, count_at, counts_after}
use Rattle.rep_core.specs.declared.request.Request.TheVariants as request
use Rattle.txn_core.specs.declared.response.Response.TheVariants.{Lacked}
use Rattle.txn_core.specs.Agents as agents
use Rattle.txn_core.specs.Agents.{take}
use Rattle.run_core.specs.Worlds.{operated}
use Rattle.law_run_machine.proofs.Turned as turned
use Rattle.run_certify.proofs.Lists.{same_or, set_apart, set_here}

-- ---- the opening

pub count_opens : (given : Opening) (counts : List ℕ) → ((number : ℕ) → count_at counts number ≡ 0) → AreCounted (opening given) counts
count_opens given counts none number actor there = ap (λ (agent : Agent). agent.count) (actor_opens 0 given.agents number actor there).1 ∙ sym (none number)

-- ---- events in which no agent begins a job

-- each agent that is there was there, and had begun as many
abbrev AsMany : List Actor → List Actor → Type 0
AsMany old new = (i : ℕ) (now : Actor) → slice_get new i ≡ Some now → (was : Actor) × (slice_get old i ≡ Some was) × (now.agent.count ≡ was.agent.count)

as_many : (actors : List Actor) → AsMany actors actors
as_many actors i now there = (now, there, refl)

as_many_put : (actors : List Actor) (i : ℕ) (was now : Actor) → slice_get actors i ≡ Some was → now.agent.count ≡ was.agent.count → AsMany actors (slice_set actors i now)
as_many_put actors i was now there same j one at = search (same_Some, turned.set_here, slice_get, slice_set, turned.set_apart, same_or, arith)

module _ (fixed : Fixed) (world : World) where
  took : (actor : Actor) (response : Response) → (take fixed actor.agent response).agent.count ≡ actor.agent.count
  took actor response = (take_keeps fixed actor.agent response actor.agent.doing (next_of fixed actor.agent)).1

  many_forget : (number site : ℕ) (found : Option Actor) → actor_at world number ≡ found → AsMany world.agents (becomes world number (λ agent. forget agent site) found).world.agents
  many_forget number site found h3 = search (as_many_put, as_many, arith)

  many_answered : (number : ℕ) (actor : Actor) (st : State) (what : Option Served) → actor_at world number ≡ Some actor → AsMany world.agents (answered fixed world number actor st what).world.agents
  many_answered number actor st what h4 = search (as_many_put, took, arith)

  many_at : (number : ℕ) (actor : Actor) (asked : ℕ × Request) (found : Option State) → actor_at world number ≡ Some actor → AsMany world.agents (asks_at fixed world number actor asked found).world.agents
  many_at number actor asked found h4 = search (many_answered, as_many, arith)

  many_ask : (number : ℕ) (actor : Actor) (asked : Option (ℕ × Request)) → actor_at world number ≡ Some actor → AsMany world.agents (asks fixed world number actor asked).world.agents
  many_ask number actor asked h3 = search (many_at, as_many, arith)

  many_step : (number : ℕ) (found : Option Actor) → actor_at world number ≡ found → AsMany world.agents (steps_once fixed world number found).world.agents
  many_step number (Some actor) there = many_ask number actor (next_of fixed actor.agent) there
  many_step number None there = as_many world.agents

  many_lack : (number : ℕ) (actor : Actor) (response : Response) (asked : Option (ℕ × Request)) → actor_at world number ≡ Some actor → AsMany world.agents (lacks_for fixed world number actor response asked).world.agents
  many_lack number actor response asked h4 = search (as_many_put, took, as_many, arith)

  many_lacks : (number : ℕ) (response : Response) (found : Option Actor) → actor_at world number ≡ found → AsMany world.agents (lacks fixed world number response found).world.agents
  many_lacks number response found h3 = grind (many_lack, as_many, arith)

  many_operated : (st : State) (what : Option Served) → AsMany world.agents (operated world st what).world.agents
  many_operated st what = search (as_many, arith)

  many_operates : (server : ℕ) (asked : Request) (found : Option State) → AsMany world.agents (operates world server asked found).world.agents
  many_operates server asked found = search (many_operated, as_many, arith)

  module _ (counts : List ℕ) (counted : AreCounted world counts) where
    still : (new : World) → AsMany world.agents new.agents → AreCounted new counts
    still new many number actor there = search arith

    -- ---- an agent begins a job

    module _ (number : ℕ) (job : Job) (place : number < length counts) where
      abbrev later : List ℕ
      later = slice_set counts number (count_at counts number + 1)

      begun : (agent : Agent) → begins fixed agent job ≡ true → (begin fixed agent job).count ≡ agent.count + 1
      begun agent may = ap (λ b. (cond b (record (started fixed agent job) { count = agent.count + 1 }) agent).count) may

      begins_one : (found : Option Actor) → actor_at world number ≡ found → can_begin fixed job found ≡ true → AreCounted (becomes world number (λ agent. begin fixed agent job) found).world later
      begins_one found h1 h2 h3 h4 h5 = search (false≢true, same_Some, turned.set_here, slice_get, slice_set, begun, set_here, turned.set_apart, set_apart, same_or, arith)

    pub count_on : (event : Event) → has_sense fixed world event ≡ true → IsCounted counts event → AreCounted (step fixed world event).world (counts_after counts event)
    count_on (Begin number job) sense place = begins_one number job place (actor_at world number) refl sense
    count_on (Step number) sense place = still (step fixed world (Step number)).world (many_step number (actor_at world number) refl)
    count_on (Crash server) sense place = still (step fixed world (Crash server)).world (many_operates server request.Crash (server_at world server))
    count_on (Return server) sense place = still (step fixed world (Return server)).world (many_operates server request.Return (server_at world server))
    count_on (Forget number site) sense place = still (step fixed world (Forget number site)).world (many_forget number site (actor_at world number) refl)
    count_on (Lack number why) sense place = still (step fixed world (Lack number why)).world (many_lacks number (Lacked why) (actor_at world number) refl)

    -- ---- which it may begin

    abbrev may_begin : Bool → Bool → Job → ℕ → Bool
    may_begin idle there job count = idle && there && agents.has_sense fixed job && nat_lt count max_jobs

    low_of : {A : Type 0} (xs : List A) (i : ℕ) (x : A) → slice_get xs i ≡ Some x → i < length xs
    low_of [] i x is = absurd (none-some x is)
    low_of (y ∷ xs) zero x is = omega arith
    low_of (y ∷ xs) (suc i) x is = let low = low_of xs i x is in omega (arith, low)

    past_of : {A : Type 0} (xs : List A) (i : ℕ) → slice_get xs i ≡ None → length xs ≤ i
    past_of [] i is = omega arith
    past_of (y ∷ xs) zero is = absurd (none-some y (sym is))
    past_of (y ∷ xs) (suc i) is = let past = past_of xs i is in omega (arith, past)

    is_less : (a b : ℕ) → a < b → nat_lt a b ≡ true
    is_less a b less = grind (arith, nat_tests)

    is_no_less : (a b : ℕ) → b ≤ a → nat_lt a b ≡ false
    is_no_less a b more = grind (arith, nat_tests)

    and_true : (b c d : Bool) → (b && c && d) ≡ (b && true && c && d)
    and_true b c d = search arith

    sense_of : (number : ℕ) (job : Job) (found : Option Actor) → actor_at world number ≡ found → can_begin fixed job found ≡ may_begin (has_no_job found) (nat_lt number (length world.agents)) job (count_at counts number)
    sense_of number job found h3 = search (is_no_less, past_of, and_true, nat_lt, is_less, low_of, arith)

    pub begin_sense_is : (number : ℕ) (job : Job)
        → has_sense fixed world (Begin number job) ≡ (has_no_job (actor_at world number) && nat_lt number (length world.agents) && agents.has_sense fixed job && nat_lt (count_at counts number) max_jobs)
    begin_sense_is number job = sense_of number job (actor_at world number) refl
