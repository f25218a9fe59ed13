-- What stands among decisions, and what stays so when more are made.
use Rattle.law_runs.proofs.Vocabulary.{◌≡◌, ◌⊎◌, inl, inr, ℕ, List, [], ◌∷◌, ◌++◌, Result, Ok, Err, Has, Verdict, Answer, Refusal, Decided, arith}
use Rattle.rep_core.specs.declared.reply.Verdict.TheVariants as verdict

-- ---- members of two lists

module _ {X : Type 0} where
  pub has_append : (xs ys : List X) (x : X) → Has (xs ++ ys) x → Has xs x ⊎ Has ys x
  has_append [] ys x has = inr has
  has_append (y ∷ xs) ys x has = elim has [ inl is ↦ inl (inl is) | inr rest ↦ elim (has_append xs ys x rest) [ inl left ↦ inl (inr left) | inr right ↦ inr right ] ]

  pub append_has_left : (xs ys : List X) (x : X) → Has xs x → Has (xs ++ ys) x
  append_has_left [] ys x has = absurd has
  append_has_left (y ∷ xs) ys x has = elim has [ inl is ↦ inl is | inr rest ↦ inr (append_has_left xs ys x rest) ]

  pub append_has_right : (xs ys : List X) (x : X) → Has ys x → Has (xs ++ ys) x
  append_has_right [] ys x has = has
  append_has_right (y ∷ xs) ys x has = inr (append_has_right xs ys x has)

-- ---- decisions

abbrev pub Answer' : Type 0
Answer' = Result (List Answer) Refusal

-- the transaction was decided with this answer
pub record In (ds : List Decided) (t : ℕ) (answer : Answer') : Type 0 where
  pub decision : Decided
  pub there : Has ds decision
  pub of_it : decision.t ≡ t
  pub answered : decision.answer ≡ answer

-- it was not decided
abbrev pub NotIn : List Decided → ℕ → Type 0
NotIn ds t = (d : Decided) → Has ds d → d.t ≡ t → ⊥

-- what a verdict says of the decisions so far
abbrev pub Stands : List Decided → ℕ → Verdict → Type 0
Stands ds t (verdict.Answered answers) = In ds t (Ok answers)
Stands ds t (verdict.Refused refusal) = In ds t (Err refusal)
Stands ds t verdict.Aborted = NotIn ds t

-- what a record says of them
abbrev pub Recorded : List Decided → ℕ → Verdict → Type 0
Recorded ds t (verdict.Answered answers) = In ds t (Ok answers)
Recorded ds t (verdict.Refused refusal) = In ds t (Err refusal)
Recorded ds t verdict.Aborted = Unit {0}

pub in_more : (ds more : List Decided) (t : ℕ) (answer : Answer') → In ds t answer → In (ds ++ more) t answer
in_more ds more t answer is = record { decision = is.decision; there = append_has_left ds more is.decision is.there; of_it = is.of_it; answered = is.answered }

pub not_in_more : (ds more : List Decided) (t : ℕ) → NotIn ds t → NotIn more t → NotIn (ds ++ more) t
not_in_more ds more t old new d has same = elim (has_append ds more d has) [ inl left ↦ old d left same | inr right ↦ new d right same ]

pub none_in : (t : ℕ) → NotIn [] t
none_in t d has same = has

pub stands_more : (ds more : List Decided) (t : ℕ) (v : Verdict) → NotIn more t → Stands ds t v → Stands (ds ++ more) t v
stands_more ds more t v h4 h5 = search (in_more, not_in_more, arith)

pub recorded_more : (ds more : List Decided) (t : ℕ) (v : Verdict) → Recorded ds t v → Recorded (ds ++ more) t v
recorded_more ds more t v h4 = search (in_more, arith)

-- the verdict of an answer
abbrev pub verdict_as : Answer' → Verdict
verdict_as (Ok answers) = verdict.Answered answers
verdict_as (Err refusal) = verdict.Refused refusal

-- what was just decided stands
pub stands_last : (ds : List Decided) (d : Decided) (answer : Answer') → d.answer ≡ answer → Stands (ds ++ d ∷ []) d.t (verdict_as answer)
stands_last ds d answer h3 = search (append_has_right, arith)

pub recorded_last : (ds : List Decided) (d : Decided) (answer : Answer') → d.answer ≡ answer → Recorded (ds ++ d ∷ []) d.t (verdict_as answer)
recorded_last ds d (Ok answers) same = stands_last ds d (Ok answers) same
recorded_last ds d (Err refusal) same = stands_last ds d (Err refusal) same

-- where a record stands beside "not decided so far", it is Aborted; and any other stands
pub stands_if : (ds : List Decided) (t : ℕ) (v : Verdict) → Recorded ds t v → NotIn ds t → Stands ds t v
stands_if ds t v h3 h4 = search arith
