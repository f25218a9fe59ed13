-- One event after another of those that items and transcripts spell.
use Rattle.run_certify.proofs.Vocabulary.{◌≡◌, ◌≢◌, ⊎_elim, ℕ, zero, suc, ◌+◌, ◌<◌, false, List, [], ◌∷◌, ◌++◌, length, slice_set, subst, refl, ap, ◌∙◌, sym, arith, slice_index_or, Option, Some, None, cons_option, Event, Step, AgentEntry, Begun}
use Rattle.run_certify.proofs.Vocabulary.{Asked, Lacked, Forgot, Ended, same_Some, Request, ItemAt, event_of, events_of, events_at, operated, past_stamp, rest_from, transcript_of, unused_at, up_to_stamp, weave, asker, is_asked}
use Rattle.run_certify.proofs.Lists.{cons_append, same_or, set_again, set_here}

-- ---- an agent's next entry

up_to_other : (agent : ℕ) (y : AgentEntry) (ys : List AgentEntry) → is_asked y ≡ false → events_of agent (up_to_stamp (y ∷ ys)) ≡ cons_option (event_of agent y) (events_of agent (up_to_stamp ys))
up_to_other agent y ys h3 = search arith

past_other : (y : AgentEntry) (ys : List AgentEntry) → is_asked y ≡ false → past_stamp (y ∷ ys) ≡ past_stamp ys
past_other y ys h2 = search arith

weave_agent : (one : ItemAt) (items : List ItemAt) (unused : List (List AgentEntry)) (agent : ℕ) → one.item.agent ≡ Some agent
    → weave (one ∷ items) unused ≡ events_of agent (up_to_stamp (transcript_of unused agent)) ++ weave items (slice_set unused agent (past_stamp (transcript_of unused agent)))
weave_agent one items unused agent is = ap (λ who. events_at unused one who ++ weave items (unused_at unused who)) is

-- an entry that has no stamp
pub weave_other : (one : ItemAt) (items : List ItemAt) (unused : List (List AgentEntry)) (agent : ℕ) (y : AgentEntry) (ys : List AgentEntry) → one.item.agent ≡ Some agent → agent < length unused → transcript_of unused agent ≡ y ∷ ys → is_asked y ≡ false
    → weave (one ∷ items) unused ≡ cons_option (event_of agent y) (weave (one ∷ items) (slice_set unused agent ys))
weave_other one items unused agent y ys is low at other = search (set_here, slice_set, weave_agent, up_to_other, past_other, cons_append, set_again, arith)

-- one that has
pub weave_asked : (one : ItemAt) (items : List ItemAt) (unused : List (List AgentEntry)) (agent server stamp : ℕ) (ys : List AgentEntry) → one.item.agent ≡ Some agent → transcript_of unused agent ≡ Asked server stamp ∷ ys
    → weave (one ∷ items) unused ≡ Step agent ∷ weave items (slice_set unused agent ys)
weave_asked one items unused agent server stamp ys is at = search arith

-- ---- who has put nothing down asks nothing

-- no event of these is a step of this agent
abbrev pub NoSteps : ℕ → List Event → Type 0
NoSteps agent [] = Unit {0}
NoSteps agent (event ∷ events) = (asker event ≢ Some agent) × NoSteps agent events

no_append : (agent : ℕ) (xs ys : List Event) → NoSteps agent xs → NoSteps agent ys → NoSteps agent (xs ++ ys)
no_append agent [] ys x y = y
no_append agent (e ∷ xs) ys x y = (x.0, no_append agent xs ys x.1 y)

of_another : (agent other : ℕ) (entries : List AgentEntry) → other ≢ agent → NoSteps agent (events_of other entries)
of_another agent other [] apart = tt
of_another agent other (Begun job ∷ entries) apart = ((λ e. cc), of_another agent other entries apart)
of_another agent other (Asked server stamp ∷ entries) apart = ((λ e. apart (same_Some other agent e)), of_another agent other entries apart)
of_another agent other (Lacked server lack ∷ entries) apart = ((λ e. cc), of_another agent other entries apart)
of_another agent other (Forgot site ∷ entries) apart = ((λ e. cc), of_another agent other entries apart)
of_another agent other (Ended outcome ∷ entries) apart = of_another agent other entries apart

of_operator : (agent server : ℕ) (asked : Request) → NoSteps agent (operated server asked)
of_operator agent server asked = search arith

rest_none : (agent from : ℕ) (unused : List (List AgentEntry)) → ((i : ℕ) → from + i ≡ agent → slice_index_or unused i [] ≡ []) → NoSteps agent (rest_from from unused)
rest_none agent from [] empty = tt
rest_none agent from (entries ∷ unused) empty =
    no_append agent (events_of from entries) (rest_from (from + 1) unused)
    (⊎_elim (λ (e : from ≡ agent). subst (λ es. NoSteps agent (events_of from es)) (sym (empty 0 (omega arith))) tt) (λ (n : from ≢ agent). of_another agent from entries n) (same_or from agent))
    (rest_none agent (from + 1) unused (λ i e. empty (suc i) (omega arith)))

set_none : (unused : List (List AgentEntry)) (agent other : ℕ) (entries : List AgentEntry) → transcript_of unused agent ≡ [] → (other ≡ agent → entries ≡ []) → transcript_of (slice_set unused other entries) agent ≡ []
set_none [] agent other entries none same = refl
set_none (x ∷ unused) zero zero entries none same = same refl
set_none (x ∷ unused) zero (suc other) entries none same = none
set_none (x ∷ unused) (suc agent) zero entries none same = none
set_none (x ∷ unused) (suc agent) (suc other) entries none same = set_none unused agent other entries none (λ e. same (ap suc e))

pub no_steps : (items : List ItemAt) (unused : List (List AgentEntry)) (agent : ℕ) → transcript_of unused agent ≡ [] → NoSteps agent (weave items unused)
no_steps [] unused agent none = rest_none agent 0 unused (λ i e. subst (λ k. slice_index_or unused k [] ≡ []) (let f : agent ≡ i = omega arith in f) none)
no_steps (one ∷ items) unused agent none = by_who items unused agent one one.item.agent none (λ next h. no_steps items next agent h)
  where
    by_who : (items : List ItemAt) (unused : List (List AgentEntry)) (agent : ℕ) (one : ItemAt) (who : Option ℕ) → transcript_of unused agent ≡ [] → ((next : List (List AgentEntry)) → transcript_of next agent ≡ [] → NoSteps agent (weave items next))
        → NoSteps agent (events_at unused one who ++ weave items (unused_at unused who))
    by_who items unused agent one None none more = no_append agent (operated one.server one.item.request.value) (weave items unused) (of_operator agent one.server one.item.request.value) (more unused none)
    by_who items unused agent one (Some other) none more =
        no_append agent (events_of other (up_to_stamp (transcript_of unused other))) _
        (⊎_elim (λ (e : other ≡ agent). subst (λ es. NoSteps agent (events_of other (up_to_stamp es))) (sym (ap (λ a. transcript_of unused a) e ∙ none)) tt)
        (λ (n : other ≢ agent). of_another agent other (up_to_stamp (transcript_of unused other)) n) (same_or other agent))
        (more _ (set_none unused agent other (past_stamp (transcript_of unused other)) none (λ e. ap past_stamp (ap (λ a. transcript_of unused a) e ∙ none))))
