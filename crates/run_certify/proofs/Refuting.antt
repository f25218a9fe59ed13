-- What refutes that events are of a run.
use Rattle.run_certify.proofs.Vocabulary.{◌≡◌, ◌≢◌, ℕ, Bool, List, [], ◌∷◌, ◌++◌, length, subst, refl, ap, ◌∙◌, sym, arith, nat_eq, if◌then◌else◌, Option, Some, None, cons_option, Event, AgentEntry, Ended, EndedJob, ItemAt, transcript_of, weave}
use Rattle.run_certify.proofs.Vocabulary.{agent_of, asker, if_of}
use Rattle.run_certify.proofs.Lists.{head_or}
use Rattle.run_certify.proofs.Steps.{AreOf, items_in, told_in}
use Rattle.run_certify.proofs.Weaving.{NoSteps, no_steps}

module _ {W D : Type 0} (next : W → Event → W) (sense : W → Event → Bool) (serves : W → Event → Option ItemAt) (puts : W → Event → List AgentEntry) (decides : W → Event → Option D)
    (asks : (w : W) (event : Event) (what : ItemAt) → serves w event ≡ Some what → what.item.agent ≡ asker event) where
  abbrev Of : W → List Event → List ItemAt → List (List AgentEntry) → Type 0
  Of = AreOf next sense serves puts decides

  -- all of the items
  abbrev pub All : (ItemAt → Type 0) → List ItemAt → Type 0
  All P [] = Unit {0}
  All P (one ∷ items) = P one × All P items

  none_of : (agent : ℕ) (w : W) (events : List Event) → NoSteps agent events → All (λ one. one.item.agent ≢ Some agent) (items_in next sense serves puts decides w events)
  none_of agent w [] steps = tt
  none_of agent w (event ∷ events) steps = by_served (serves w event) (asks w event) (items_in next sense serves puts decides (next w event) events) (none_of agent (next w event) events steps.1)
    where
      by_served : (o : Option ItemAt) → ((what : ItemAt) → o ≡ Some what → what.item.agent ≡ asker event) → (later : List ItemAt) → All (λ one. one.item.agent ≢ Some agent) later
          → All (λ one. one.item.agent ≢ Some agent) (cons_option o later)
      by_served None is later more = more
      by_served (Some what) is later more = ((λ e. steps.0 (sym (is what refl) ∙ e)), more)

  -- an item of an agent of which nothing is left
  pub none_left : (w : W) (one : ItemAt) (items : List ItemAt) (unused : List (List AgentEntry)) (agent : ℕ) → one.item.agent ≡ Some agent → transcript_of unused agent ≡ [] → ¬ (Of w (weave (one ∷ items) unused) (one ∷ items) unused)
  none_left w one items unused agent of none is = search (none_of agent w (weave (one ∷ items) unused) (no_steps (one ∷ items) unused agent none), no_steps (one ∷ items) unused agent none, arith)

  -- every item is one of some kind, if all that is served is
  all_served : (P : ItemAt → Type 0) → ((w : W) (event : Event) (what : ItemAt) → serves w event ≡ Some what → P what) → (w : W) (events : List Event) → All P (items_in next sense serves puts decides w events)
  all_served P each w [] = tt
  all_served P each w (event ∷ events) = by_served (serves w event) (each w event) (items_in next sense serves puts decides (next w event) events) (all_served P each (next w event) events)
    where
      by_served : (o : Option ItemAt) → ((what : ItemAt) → o ≡ Some what → P what) → (later : List ItemAt) → All P later → All P (cons_option o later)
      by_served None is later more = more
      by_served (Some what) is later more = (is what refl, more)

  pub never_served : (P : ItemAt → Type 0) → ((w : W) (event : Event) (what : ItemAt) → serves w event ≡ Some what → P what)
      → (w : W) (events : List Event) (one : ItemAt) (items : List ItemAt) (unused : List (List AgentEntry)) → ¬ (P one) → ¬ (Of w events (one ∷ items) unused)
  never_served P each w events one items unused not is = not (subst (λ xs. All P xs) is.served (all_served P each w events)).0

  -- what an event puts down does not begin with an end: so no transcript does
  abbrev NoEnd : List AgentEntry → Type 0
  NoEnd entries = (outcome : EndedJob) (rest : List AgentEntry) → entries ≢ Ended outcome ∷ rest

  no_end : ((w : W) (event : Event) → NoEnd (puts w event)) → (agent : ℕ) (w : W) (events : List Event) → NoEnd (told_in next sense serves puts decides agent w events)
  no_end each agent w [] = λ outcome rest e. let h = ap length e in omega arith
  no_end each agent w (event ∷ events) = by_agent (agent_of event) (told_in next sense serves puts decides agent (next w event) events) (no_end each agent (next w event) events)
    where
      first : (xs ys : List AgentEntry) → NoEnd xs → NoEnd ys → NoEnd (xs ++ ys)
      first [] ys x y = y
      first (z ∷ xs) ys x y = λ outcome rest e. x outcome xs (ap (λ o. o ∷ xs) (ap (λ zs. head_or z zs) e))

      by_test : (b : Bool) → NoEnd (if b then puts w event else [])
      by_test b = search arith

      by_agent : (o : Option ℕ) → (later : List AgentEntry) → NoEnd later → NoEnd (if_of o agent (puts w event) ++ later)
      by_agent o later h2 = search (first, by_test, nat_eq, arith)

  pub no_end_first : ((w : W) (event : Event) → NoEnd (puts w event)) → (w : W) (events : List Event) (items : List ItemAt) (unused : List (List AgentEntry)) (agent : ℕ)
      (outcome : EndedJob) (rest : List AgentEntry) → transcript_of unused agent ≡ Ended outcome ∷ rest
      → ¬ (Of w events items unused)
  no_end_first each w events items unused agent outcome rest at is = no_end each agent w events outcome rest (is.told agent ∙ at)
