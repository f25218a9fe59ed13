-- One event of a run, and what is left after it: of any machine.
use Rattle.run_certify.proofs.Vocabulary.{◌≡◌, ◌≢◌, ℕ, ◌<◌, Bool, true, false, true≢false, List, [], ◌∷◌, ◌++◌, length, slice_set, ap, ◌∙◌, sym, if◌then◌else◌, Option, Some, None, cons_option, append_cancel_left, Event, arith, AgentEntry, ItemAt}
use Rattle.run_certify.proofs.Vocabulary.{transcript_of, agent_of, if_of}
use Rattle.run_certify.proofs.Lists.{cons_cancel, eq_apart, eq_same, same_or, set_apart, set_here}

module _ {W D : Type 0} (next : W → Event → W) (sense : W → Event → Bool) (serves : W → Event → Option ItemAt) (puts : W → Event → List AgentEntry) (decides : W → Event → Option D) where
  abbrev pub have_sense : W → List Event → Type 0
  have_sense w [] = Unit {0}
  have_sense w (event ∷ events) = (sense w event ≡ true) × have_sense (next w event) events

  abbrev pub items_in : W → List Event → List ItemAt
  items_in w [] = []
  items_in w (event ∷ events) = cons_option (serves w event) (items_in (next w event) events)

  abbrev pub told_in : ℕ → W → List Event → List AgentEntry
  told_in agent w [] = []
  told_in agent w (event ∷ events) = if_of (agent_of event) agent (puts w event) ++ told_in agent (next w event) events

  abbrev pub decided_in : W → List Event → List D
  decided_in w [] = []
  decided_in w (event ∷ events) = cons_option (decides w event) (decided_in (next w event) events)

  pub record AreOf (w : W) (events : List Event) (items : List ItemAt) (unused : List (List AgentEntry)) : Type 0 where
    pub sense_is : have_sense w events
    pub served : items_in w events ≡ items
    pub told : (agent : ℕ) → told_in agent w events ≡ transcript_of unused agent

if_same : (agent : ℕ) (o : Option ℕ) (xs : List AgentEntry) → o ≡ Some agent → if_of o agent xs ≡ xs
if_same agent o xs is = ap (λ p. if_of p agent xs) is ∙ ap (λ b. if b then xs else []) (eq_same agent)

if_apart : (agent other : ℕ) (o : Option ℕ) (xs : List AgentEntry) → o ≡ Some agent → other ≢ agent → if_of o other xs ≡ []
if_apart agent other o xs is apart = ap (λ p. if_of p other xs) is ∙ ap (λ b. if b then xs else []) (eq_apart agent other apart)

-- ---- an event of an agent

module _ {W D : Type 0} (next : W → Event → W) (sense : W → Event → Bool) (serves : W → Event → Option ItemAt) (puts : W → Event → List AgentEntry) (decides : W → Event → Option D) where
  abbrev Of : W → List Event → List ItemAt → List (List AgentEntry) → Type 0
  Of = AreOf next sense serves puts decides

  abbrev told : ℕ → W → List Event → List AgentEntry
  told = told_in next sense serves puts decides

  -- what has to be so of the event, for what is left of the agent's entries to be these
  pub record Fits (w : W) (event : Event) (agent : ℕ) (items later : List ItemAt) (unused : List (List AgentEntry)) (entries : List AgentEntry) : Type 0 where
    pub of : agent_of event ≡ Some agent
    pub there : agent < length unused
    pub sense_is : sense w event ≡ true
    pub served : items ≡ cons_option (serves w event) later
    pub told : transcript_of unused agent ≡ puts w event ++ entries

  pub goes_back : (w : W) (event : Event) (agent : ℕ) (events : List Event) (items later : List ItemAt) (unused : List (List AgentEntry)) (entries : List AgentEntry)
      → Fits w event agent items later unused entries → Of (next w event) events later (slice_set unused agent entries) → Of w (event ∷ events) items unused
  goes_back w event agent events items later unused entries fits is = search (if_same, set_here, if_apart, set_apart, same_or, arith)

  pub goes_on : (w : W) (event : Event) (agent : ℕ) (events : List Event) (items later : List ItemAt) (unused : List (List AgentEntry)) (entries : List AgentEntry)
      → Fits w event agent items later unused entries → Of w (event ∷ events) items unused → Of (next w event) events later (slice_set unused agent entries)
  goes_on w event agent events items later unused entries fits is = search (cons_cancel, slice_set, append_cancel_left, if_same, set_here, if_apart, set_apart, same_or, arith)

  -- an event of the operator
  pub record FitsOperator (w : W) (event : Event) (items later : List ItemAt) : Type 0 where
    pub of : agent_of event ≡ None
    pub sense_is : sense w event ≡ true
    pub served : items ≡ cons_option (serves w event) later

  -- ---- what refutes

  pub no_sense : (w : W) (event : Event) (events : List Event) (items : List ItemAt) (unused : List (List AgentEntry)) → sense w event ≡ false → ¬ (Of w (event ∷ events) items unused)
  no_sense w event events items unused none is = true≢false (sym is.sense_is.0 ∙ none)

  -- what an event of an agent puts down begins what is left of its transcript
  pub puts_first : (w : W) (event : Event) (agent : ℕ) (events : List Event) (items : List ItemAt) (unused : List (List AgentEntry)) → agent_of event ≡ Some agent → Of w (event ∷ events) items unused
      → (rest : List AgentEntry) × (transcript_of unused agent ≡ puts w event ++ rest)
  puts_first w event agent events items unused of is = (
    told agent (next w event) events,
    sym (is.told agent) ∙ ap (λ xs. xs ++ told agent (next w event) events) (if_same agent (agent_of event) (puts w event) of),
  )

  -- what is served is the first item
  pub serves_first : (w : W) (event : Event) (events : List Event) (items : List ItemAt) (unused : List (List AgentEntry)) (what : ItemAt) → serves w event ≡ Some what → Of w (event ∷ events) items unused
      → (rest : List ItemAt) × (items ≡ what ∷ rest)
  serves_first w event events items unused what some is = (_, sym is.served ∙ ap (λ o. cons_option o (items_in next sense serves puts decides (next w event) events)) some)
