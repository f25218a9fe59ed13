-- Calls that are alike come to the same, whatever their numbers are.
use Rattle.history_judge.proofs.Vocabulary.{◌≡◌, ⊎_elim, ℕ, suc, ◌+◌, ◌<◌, List, [], ◌∷◌, length, get_or, Result, Some, refl, sym, ap, subst, ◌∙◌, arith, slice_get, same_Some, Identity, Op, Service, ◌>>=◌, ◌>>◌, Rows, operation, Played, play}
use Rattle.history_judge.proofs.Vocabulary.{transaction, CallRequest, DoSame, AreSameAt, AskSame, outcome_of}
use Rattle.history_judge.proofs.Among.{below_or}
use Rattle.history_judge.proofs.Places.{at_get}

-- the same, one by one
abbrev AreSameOps : List Op → List Op → Type 0
AreSameOps [] [] = Unit {0}
AreSameOps (op ∷ ops) (other ∷ others) = DoSame op other × AreSameOps ops others
AreSameOps _ _ = ⊥

bind_same : {A B E : Type 0} (first : Result A E) (next next' : A → Result B E) → ((a : A) → next a ≡ next' a) → ◌>>=◌ first next ≡ ◌>>=◌ first next'
bind_same first next next' h3 = search arith

module _ (service : Service) (t t' : ℕ) (caller : Identity) where
  operation_same : (rows : Rows) (at : ℕ) (op other : Op) → DoSame op other → operation service rows t at caller op ≡ operation service rows t' at caller other
  operation_same rows at op other same = search arith

  play_same : (ops others : List Op) → AreSameOps ops others → (at : ℕ) (played : Played) → play service played t at caller ops ≡ play service played t' at caller others
  play_same [] [] same at played = refl
  play_same [] (other ∷ others) same at played = absurd same
  play_same (op ∷ ops) [] same at played = absurd same
  play_same (op ∷ ops) (other ∷ others) same at played = search (bind_same, operation_same, play_same ops others, arith)

  length_same : (ops others : List Op) → AreSameOps ops others → length ops ≡ length others
  length_same [] [] same = refl
  length_same [] (other ∷ others) same = absurd same
  length_same (op ∷ ops) [] same = absurd same
  length_same (op ∷ ops) (other ∷ others) same = let rest = length_same ops others same.1 in omega (arith, rest)

  transaction_same : (rows : Rows) (ops others : List Op) → AreSameOps ops others → transaction service rows t caller ops ≡ transaction service rows t' caller others
  transaction_same rows ops others same = search (length_same, play_same, arith)

  same_ops : (ops others : List Op) → AreSameAt ops others → AreSameOps ops others
  same_ops [] [] same = tt
  same_ops [] (other ∷ others) same = absurd (let long = same.long in omega (arith, long))
  same_ops (op ∷ ops) [] same = absurd (let long = same.long in omega (arith, long))
  same_ops (op ∷ ops) (other ∷ others) same = (
    same.same 0 op other refl refl,
    same_ops ops others (record { long = let long = same.long in omega (arith, long); same = λ place one theirs. same.same (suc place) one theirs }),
  )

  pub outcome_same : (rows : Rows) (asked other : CallRequest) → AskSame asked other → outcome_of service rows t caller asked ≡ outcome_of service rows t' caller other
  outcome_same rows asked other h3 = search (transaction_same, same_ops, arith)

-- one place more
pub next_same : (ops others : List Op) (i : ℕ) (one theirs : Op) → i < length ops → length ops ≡ length others → one ≡ get_or ops i one → theirs ≡ get_or others i theirs → DoSame one theirs
    → ((place : ℕ) (op other : Op) → place < i → slice_get ops place ≡ Some op → slice_get others place ≡ Some other → DoSame op other)
    → (place : ℕ) (op other : Op) → place < i + 1 → slice_get ops place ≡ Some op → slice_get others place ≡ Some other → DoSame op other
next_same ops others i one theirs within long is is' same before place op other below at at' = ⊎_elim
    (λ less. before place op other less at at')
    (λ here.
    subst (λ op. DoSame op other) (same_Some one op (sym (at_get ops i one within is) ∙ ap (slice_get ops) (sym here) ∙ at))
    (subst (DoSame one) (same_Some theirs other (sym (at_get others i theirs (omega (arith, within, long)) is') ∙ ap (slice_get others) (sym here) ∙ at')) same))
    (below_or place i below)
