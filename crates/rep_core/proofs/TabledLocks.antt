-- Locks that stand in a vector or in blocks: what a change of the one or the other makes of all.
use Rattle.rep_core.proofs.Vocabulary.{◌≡◌, true, false, List, [], ◌∷◌, ◌++◌, refl, sym, ap, subst, ◌∙◌, false≢true, Lock, IsAlone, rise, are_none, AreTabled, arith}

append_none : (xs : List Lock) → xs ++ [] ≡ xs
append_none [] = refl
append_none (x ∷ xs) = ap (λ l. x ∷ l) (append_none xs)

pub few_only : (few many : List Lock) → are_none many ≡ true → few ++ many ≡ few
few_only few many h2 = search (append_none, false≢true, arith)

module _ (few many : List Lock) (tabled : AreTabled few many) where
  pub many_only : are_none many ≡ false → few ++ many ≡ many
  many_only some = ap (λ l. l ++ many) (tabled.apart some)

  module _ (f : List Lock → List Lock) where
    pub few_changed : are_none many ≡ true → (new : List Lock) → new ≡ f few → new ++ many ≡ f (few ++ many)
    few_changed none new is = few_only new many none ∙ is ∙ ap f (sym (few_only few many none))

    pub many_changed : are_none many ≡ false → (new : List Lock) → new ≡ f many → few ++ new ≡ f (few ++ many)
    many_changed some new is = ap (λ l. l ++ new) (tabled.apart some) ∙ is ∙ ap f (sym (many_only some))

    module _ (rising : rise (f (few ++ many)) ≡ true) (alone : IsAlone (f (few ++ many))) where
      pub few_tabled : are_none many ≡ true → (new : List Lock) → new ≡ f few → AreTabled new many
      few_tabled none new is =
          let all = few_changed none new is in
          record { rising = ap rise all ∙ rising; alone = subst IsAlone (sym all) alone; apart = λ some. absurd (false≢true (sym some ∙ none)) }

      pub many_tabled : are_none many ≡ false → (new : List Lock) → new ≡ f many → AreTabled few new
      many_tabled some new is =
          let all = many_changed some new is in
          record { rising = ap rise all ∙ rising; alone = subst IsAlone (sym all) alone; apart = λ _. tabled.apart some }

-- all stand in blocks
pub all_many : (few many all : List Lock) → few ≡ [] → many ≡ all → rise all ≡ true → IsAlone all → AreTabled few many
all_many few many all none is rising alone =
    let same : few ++ many ≡ all = ap (λ l. l ++ many) none ∙ is in
    record { rising = ap rise same ∙ rising; alone = subst IsAlone (sym same) alone; apart = λ _. none }
