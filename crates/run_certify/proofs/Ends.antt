-- Ends of jobs are no events; and what is left at the end.
use Rattle.run_certify.proofs.Vocabulary.{◌≡◌, ℕ, zero, suc, ◌+◌, ◌<◌, List, [], ◌∷◌, ◌++◌, length, slice_set, refl, ap, ◌∙◌, sym, arith, slice_index_or, cons_option, AgentEntry, Ended, EndedJob, Item, ItemAt, IsMerge, history_of, event_of}
use Rattle.run_certify.proofs.Vocabulary.{events_of, rest_from, transcript_of, weave}
use Rattle.run_certify.proofs.Lists.{cons_append, long_set, no_cons, same_or, set_again, set_apart, set_commute, set_here}
use Rattle.run_certify.proofs.Picking.{here_of}

rest_ended : (from : ℕ) (unused : List (List AgentEntry)) (agent : ℕ) (outcome : EndedJob) (rest : List AgentEntry) → slice_index_or unused agent [] ≡ Ended outcome ∷ rest → rest_from from unused ≡ rest_from from (slice_set unused agent rest)
rest_ended from [] agent outcome rest at = refl
rest_ended from (entries ∷ unused) zero outcome rest at = ap (λ es. events_of from es ++ rest_from (from + 1) unused) at
rest_ended from (entries ∷ unused) (suc agent) outcome rest at = ap (λ es. events_of from entries ++ es) (rest_ended (from + 1) unused agent outcome rest at)

-- the end of a job may be left out
pub weave_ended : (items : List ItemAt) (unused : List (List AgentEntry)) (agent : ℕ) (outcome : EndedJob) (rest : List AgentEntry) → agent < length unused
    → transcript_of unused agent ≡ Ended outcome ∷ rest → weave items unused ≡ weave items (slice_set unused agent rest)
weave_ended [] unused agent outcome rest low at = rest_ended 0 unused agent outcome rest at
weave_ended (one ∷ items) unused agent outcome rest low at = search (slice_set, set_again, set_here, set_apart, long_set, set_commute, same_or, weave_ended items, arith)

-- ---- the rest, agent by agent

rest_first : (from : ℕ) (unused : List (List AgentEntry)) (agent : ℕ) (y : AgentEntry) (ys : List AgentEntry) → ((i : ℕ) → i < agent → slice_index_or unused i [] ≡ []) → agent < length unused → slice_index_or unused agent [] ≡ y ∷ ys
    → rest_from from unused ≡ cons_option (event_of (from + agent) y) (rest_from from (slice_set unused agent ys))
rest_first from [] agent y ys empty low at = absurd (omega arith)
rest_first from (entries ∷ unused) zero y ys empty low at = search (cons_append, arith)
rest_first from (entries ∷ unused) (suc agent) y ys empty low at =
    let none : entries ≡ [] = empty 0 (omega arith) in
    let more = rest_first (from + 1) unused agent y ys (λ i l. empty (suc i) (omega arith)) (omega arith) at in
    ap (λ es. events_of from es ++ rest_from (from + 1) unused) none ∙ more
    ∙ ap (λ n. cons_option (event_of n y) (rest_from (from + 1) (slice_set unused agent ys))) (let e : (from + 1) + agent ≡ from + suc agent = omega arith in e)
    ∙ ap (λ es. cons_option (event_of (from + suc agent) y) (events_of from es ++ rest_from (from + 1) (slice_set unused agent ys))) (sym none)

pub weave_rest : (unused : List (List AgentEntry)) (agent : ℕ) (y : AgentEntry) (ys : List AgentEntry) → ((i : ℕ) → i < agent → transcript_of unused i ≡ []) → agent < length unused → transcript_of unused agent ≡ y ∷ ys
    → weave [] unused ≡ cons_option (event_of agent y) (weave [] (slice_set unused agent ys))
weave_rest unused agent y ys empty low at = rest_first 0 unused agent y ys empty low at ∙ ap (λ n. cons_option (event_of n y) (rest_from 0 (slice_set unused agent ys))) (let e : 0 + agent ≡ agent = omega arith in e)

-- where nothing is left there are no events
rest_empty : (from : ℕ) (unused : List (List AgentEntry)) → ((i : ℕ) → slice_index_or unused i [] ≡ []) → rest_from from unused ≡ []
rest_empty from [] empty = refl
rest_empty from (entries ∷ unused) empty = ap (λ es. events_of from es ++ rest_from (from + 1) unused) (empty 0) ∙ rest_empty (from + 1) unused (λ i. empty (suc i))

pub weave_empty : (unused : List (List AgentEntry)) → ((agent : ℕ) → transcript_of unused agent ≡ []) → weave [] unused ≡ []
weave_empty unused empty = rest_empty 0 unused empty

pub none_merge : (histories : List (List Item)) → ((server : ℕ) → history_of histories server ≡ []) → IsMerge histories []
none_merge histories empty = record { ordered = tt; each = λ server. sym (empty server) }

-- and only no items are a merge of no histories
pub merge_none : (histories : List (List Item)) (items : List ItemAt) → ((server : ℕ) → history_of histories server ≡ []) → IsMerge histories items → items ≡ []
merge_none histories [] empty merge = refl
merge_none histories (one ∷ items) empty merge = absurd (no_cons one.item _ (sym (empty one.server) ∙ sym (merge.each one.server) ∙ here_of one.server one.item items))
