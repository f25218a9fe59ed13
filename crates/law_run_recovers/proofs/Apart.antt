-- What an event makes of an agent at work whose step it is not: it does what it did, and no job of it ended.
use Rattle.law_run_recovers.proofs.Vocabulary.{◌≡◌, ◌⊎◌, inl, inr, ⊎_elim, ℕ, ◌+◌, Bool, true, false, cond, [], ◌∷◌, Option, Some, None, is_some, refl, sym, ap, ◌∙◌, ◌-◌, ◌==◌, ◌&&◌, not, nat_lt, slice_get, find, false≢true, arith, eqb-true, eq-eqb}
use Rattle.law_run_recovers.proofs.Vocabulary.{none-some, same_Some, Opening, Prefix, Request, State, Entry, Cache, is_of, forgotten, hint, Ending, Job, Replied, Lacked, Fixed, Agent, Taken, fixed_of, is_idle, has_sense, max_jobs, next_of, take}
use Rattle.law_run_recovers.proofs.Vocabulary.{begin, started, forget, Event, Begin, Step, Crash, Return, Forget, Lack, EndedJob, Served, Actor, World, Stepped, server_at, actor_at, with_actor, serve, after_serving, outcome_of, moved, took, becomes}
use Rattle.law_run_recovers.proofs.Vocabulary.{answered, asks_at, asks, steps_once, lacks_for, lacks, operates, step, same_or, puts_in, hinders_itself}
use Rattle.rep_core.specs.declared.stamped.Lack.{Lack as Why}
use Rattle.rep_core.specs.declared.request.Request.TheVariants as request
use Rattle.rep_core.specs.declared.stamped.Lack.TheVariants as lack

-- ---- what is forgotten is hinted no more

-- a site's entry that is left was there, and is the first there
left_was : (s z site : ℕ) (cache : Cache) (entry : Entry) → find (is_of s z) (forgotten site cache) ≡ Some entry → find (is_of s z) cache ≡ Some entry
left_was s z site [] entry is = absurd (none-some entry is)
left_was s z site (one ∷ cache) entry is = of (one.site == site) refl (is_of s z one) refl is (left_was s z site cache entry)
  where
    none_left : (cache : Cache) (s site : ℕ) → (s == site) ≡ true → find (is_of s z) (forgotten site cache) ≡ None
    none_left [] s site same = refl
    none_left (one ∷ cache) s site same = by (one.site == site) refl (none_left cache s site same)
      where
        by : (b : Bool) → (one.site == site) ≡ b → find (is_of s z) (forgotten site cache) ≡ None → find (is_of s z) (cond (not b) (one ∷ forgotten site cache) (forgotten site cache)) ≡ None
        by true at rest = rest
        by false at rest = ap (λ b. cond (b && (one.suite == z)) (Some one) (find (is_of s z) (forgotten site cache))) (other (one.site == s) refl) ∙ rest
          where
            other : (c : Bool) → (one.site == s) ≡ c → (one.site == s) ≡ false
            other c h1 = search (false≢true, eqb-true, same, arith)

    of : (gone : Bool) → (one.site == site) ≡ gone → (here : Bool) → is_of s z one ≡ here → find (is_of s z) (cond (not gone) (one ∷ forgotten site cache) (forgotten site cache)) ≡ Some entry
        → (find (is_of s z) (forgotten site cache) ≡ Some entry → find (is_of s z) cache ≡ Some entry) → cond (is_of s z one) (Some one) (find (is_of s z) cache) ≡ Some entry
    of false at here test is go = by here test
      where
        by : (b : Bool) → is_of s z one ≡ b → cond (is_of s z one) (Some one) (find (is_of s z) cache) ≡ Some entry
        by b h1 = search arith
    of true at false test is go = ap (λ b. cond b (Some one) (find (is_of s z) cache)) test ∙ go is
    of true at true test is go = absurd (none-some entry (sym (none_left cache s site (same (one.site == s) (one.suite == z) refl test)) ∙ is))
      where
        same : (b c : Bool) → (one.site == s) ≡ b → (b && c) ≡ true → (s == site) ≡ true
        same b c h2 h3 = search (eqb-true, false≢true, arith)

pub hint_forgotten : (site s z : ℕ) (cache : Cache) (prefix : Prefix) → hint (forgotten site cache) s z ≡ Some prefix → hint cache s z ≡ Some prefix
hint_forgotten site s z cache prefix = search (none-some, left_was, arith)

-- ---- one event

module _ (given : Opening) (agent : ℕ) (w : World) (here : Actor) (there : actor_at w agent ≡ Some here) (busy : is_idle here.agent.doing ≡ false) where
  abbrev fixed : Fixed
  fixed = fixed_of given

  -- it is as it was, or its cache has forgotten a site
  pub record Apart (stepped : Stepped) : Type 0 where
    pub new : Actor
    pub now : actor_at stepped.world agent ≡ Some new
    pub is : (new.agent ≡ here.agent) ⊎ ((site : ℕ) × (new.agent ≡ forget here.agent site))
    pub other : (one : EndedJob) → stepped.done.outcome ≡ Some one → one.agent ≡ agent → ⊥

  as_was : (stepped : Stepped) → actor_at stepped.world agent ≡ Some here → ((one : EndedJob) → stepped.done.outcome ≡ Some one → one.agent ≡ agent → ⊥) → Apart stepped
  as_was stepped is other = record { new = here; now = is; is = inl refl; other = other }

  nothing : (stepped : Stepped) → actor_at stepped.world agent ≡ Some here → stepped.done.outcome ≡ None → Apart stepped
  nothing stepped is none = as_was stepped is (λ one some at. none-some one (sym none ∙ some))

  becomes_apart : (change : Agent → Agent) → (change here.agent ≡ here.agent) ⊎ ((site : ℕ) × (change here.agent ≡ forget here.agent site)) → (i : ℕ) (found : Option Actor) → actor_at w i ≡ found → Apart (becomes w i change found)
  becomes_apart change so i None at = nothing (becomes w i change None) there refl
  becomes_apart change so i (Some actor) at =
      let new : Actor = record actor { agent = change actor.agent } in
      let puts = puts_in w.agents i actor new at in
      ⊎_elim
      (λ (same : agent ≡ i).
      let who : actor ≡ here = same_Some actor here (sym at ∙ ap (actor_at w) (sym same) ∙ there) in
      let is : change actor.agent ≡ change here.agent = ap (λ (actor : Actor). change actor.agent) who in
      record {
        new = new;
        now = ap (actor_at (with_actor i new w)) same ∙ puts.here;
        is = ⊎_elim (λ same. inl (is ∙ same)) (λ gone. inr (gone.0, is ∙ gone.1)) so;
        other = λ one some at. absurd (none-some one some);
      })
      (λ apart. nothing (becomes w i change (Some actor)) (puts.apart agent apart ∙ there) refl)
      (same_or agent i)

  took_apart : (v : World) → v.agents ≡ w.agents → (i : ℕ) (actor : Actor) → actor_at w i ≡ Some actor → (agent ≡ i → ⊥) → (stamp : ℕ) (taken : Taken) (what : Option Served) → Apart (took v i actor stamp taken what)
  took_apart v same i actor at apart stamp taken what =
      as_was (took v i actor stamp taken what)
      ((puts_in v.agents i actor (moved actor stamp taken) (ap (λ agents. slice_get agents i) same ∙ at)).apart agent apart ∙ ap (λ agents. slice_get agents agent) same ∙ there)
      (ended taken.ending)
    where
      ended : (ending : Option Ending) (one : EndedJob) → outcome_of i actor ending ≡ Some one → one.agent ≡ agent → ⊥
      ended ending one h2 h3 = search (none-some, same_Some, arith)

  steps_apart : (i : ℕ) (found : Option Actor) → actor_at w i ≡ found → (agent ≡ i → ⊥) → Apart (steps_once fixed w i found)
  steps_apart i None at apart = nothing (steps_once fixed w i None) there refl
  steps_apart i (Some actor) at apart = by (next_of fixed actor.agent)
    where
      of : (asked : ℕ × Request) (st : State) (what : Option Served) → Apart (answered fixed w i actor st what)
      of asked st (Some what) = took_apart (after_serving st what w) refl i actor at apart what.reply.stamp (take fixed actor.agent (Replied what.reply.value)) (Some what)
      of asked st None = took_apart w refl i actor at apart actor.stamp (take fixed actor.agent (Lacked lack.Full)) None

      there_is : (asked : ℕ × Request) (found : Option State) → Apart (asks_at fixed w i actor asked found)
      there_is asked found = search (nothing, of, arith)

      by : (asked : Option (ℕ × Request)) → Apart (asks fixed w i actor asked)
      by asked = search (nothing, there_is, arith)

  lacks_apart : (i : ℕ) (why : Why) (found : Option Actor) → actor_at w i ≡ found → (agent ≡ i → ⊥) → Apart (lacks fixed w i (Lacked why) found)
  lacks_apart i why found h3 h4 = search (nothing, took_apart, arith)

  operates_apart : (server : ℕ) (asked : Request) (found : Option State) → Apart (operates w server asked found)
  operates_apart server asked found = search (nothing, arith)

  begin_none : (job : Job) → begin fixed here.agent job ≡ here.agent
  begin_none job = ap (λ idle. cond (idle && has_sense (fixed_of given) job && nat_lt here.agent.count max_jobs) (record (started (fixed_of given) here.agent job) { count = here.agent.count + 1 }) here.agent) busy

  apart_from : (other : ℕ) → (other == agent) ≡ false → agent ≡ other → ⊥
  apart_from other differs at = false≢true (sym differs ∙ eq-eqb other agent (sym at))

  -- an event that does not hinder it is its own step, which is served, or is apart from it
  pub event_apart : (event : Event) → hinders_itself given agent w event ≡ false
      → (Apart (step fixed w event) × (event ≡ Step agent → ⊥)) ⊎ ((event ≡ Step agent) × (is_some (step fixed w event).done.served ≡ true))
  event_apart event h1 = grind (becomes_apart, begin_none, false≢true, eqb-true, steps_apart, apart_from, eq-eqb, operates_apart, lacks_apart, arith)

-- ---- whose job ends

-- its agent asked for something
pub record EndsNow (fixed : Fixed) (w : World) (one : EndedJob) : Type 0 where
  pub actor : Actor
  pub there : actor_at w one.agent ≡ Some actor
  pub asked : ℕ × Request
  pub next : next_of fixed actor.agent ≡ Some asked
  pub count : one.count ≡ actor.agent.count - 1

module _ (fixed : Fixed) (w : World) (one : EndedJob) where
  ends_by : (i : ℕ) (actor : Actor) → actor_at w i ≡ Some actor → (asked : ℕ × Request) → next_of fixed actor.agent ≡ Some asked → (ending : Option Ending) → outcome_of i actor ending ≡ Some one → EndsNow fixed w one
  ends_by i actor h2 asked h4 ending h6 = search arith

  ends_step : (i : ℕ) (found : Option Actor) → actor_at w i ≡ found → (steps_once fixed w i found).done.outcome ≡ Some one → EndsNow fixed w one
  ends_step i None at is = absurd (none-some one is)
  ends_step i (Some actor) at is = by (next_of fixed actor.agent) refl is
    where
      served : (asked : ℕ × Request) → next_of fixed actor.agent ≡ Some asked → (st : State) (what : Option Served) → (answered fixed w i actor st what).done.outcome ≡ Some one → EndsNow fixed w one
      served asked next st (Some what) is = ends_by i actor at asked next (take fixed actor.agent (Replied what.reply.value)).ending is
      served asked next st None is = ends_by i actor at asked next (take fixed actor.agent (Lacked lack.Full)).ending is

      there_is : (asked : ℕ × Request) → next_of fixed actor.agent ≡ Some asked → (found : Option State) → (asks_at fixed w i actor asked found).done.outcome ≡ Some one → EndsNow fixed w one
      there_is asked next None is = absurd (none-some one is)
      there_is asked next (Some st) is = served asked next st (serve asked.0 st (record { stamp = actor.stamp; value = asked.1 })) is

      by : (asked : Option (ℕ × Request)) → next_of fixed actor.agent ≡ asked → (asks fixed w i actor asked).done.outcome ≡ Some one → EndsNow fixed w one
      by None next is = absurd (none-some one is)
      by (Some asked) next is = there_is asked next (server_at w asked.0) is

  ends_lack : (i : ℕ) (why : Why) (found : Option Actor) → actor_at w i ≡ found → (lacks fixed w i (Lacked why) found).done.outcome ≡ Some one → EndsNow fixed w one
  ends_lack i why None at is = absurd (none-some one is)
  ends_lack i why (Some actor) at is = by (next_of fixed actor.agent) refl is
    where
      by : (asked : Option (ℕ × Request)) → next_of fixed actor.agent ≡ asked → (lacks_for fixed w i actor (Lacked why) asked).done.outcome ≡ Some one → EndsNow fixed w one
      by None next is = absurd (none-some one is)
      by (Some asked) next is = ends_by i actor at asked next (take fixed actor.agent (Lacked why)).ending is

  none_becomes : (i : ℕ) (change : Agent → Agent) (found : Option Actor) → (becomes w i change found).done.outcome ≡ Some one → EndsNow fixed w one
  none_becomes i change found h3 = search arith

  none_operates : (server : ℕ) (asked : Request) (found : Option State) → (operates w server asked found).done.outcome ≡ Some one → EndsNow fixed w one
  none_operates server asked found h3 = search arith

  pub who_ends : (event : Event) → (step fixed w event).done.outcome ≡ Some one → EndsNow fixed w one
  who_ends (Begin i job) is = none_becomes i (λ agent. begin fixed agent job) (actor_at w i) is
  who_ends (Step i) is = ends_step i (actor_at w i) refl is
  who_ends (Crash server) is = none_operates server request.Crash (server_at w server) is
  who_ends (Return server) is = none_operates server request.Return (server_at w server) is
  who_ends (Forget i site) is = none_becomes i (λ agent. forget agent site) (actor_at w i) is
  who_ends (Lack i why) is = ends_lack i why (actor_at w i) refl is
