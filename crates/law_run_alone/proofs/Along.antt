-- Transactions that stand along a list of transactions, in its order.
use Rattle.law_run_alone.proofs.Vocabulary.{◌≡◌, ◌⊎◌, inl, inr, ⊎_elim, ℕ, List, [], ◌∷◌, ◌++◌, refl, sym, ap, ◌∙◌, Has, arith}
use Rattle.law_run_alone.proofs.Verdicts.{Asked}

abbrev pub Along : List Asked → List Asked → Type 0
Along [] all = Unit {0}
Along (one ∷ some) [] = ⊥
Along (one ∷ some) (first ∷ all) = ((one ≡ first) × Along some all) ⊎ Along (one ∷ some) all

-- no number stands twice
abbrev pub ApartFrom : ℕ → List Asked → Type 0
ApartFrom t all = (other : Asked) → Has all other → other.0 ≡ t → ⊥

abbrev pub AreApart : List Asked → Type 0
AreApart [] = Unit {0}
AreApart (one ∷ all) = ApartFrom one.0 all × AreApart all

pub along_all : (some : List Asked) → Along some some
along_all [] = tt
along_all (one ∷ some) = inl (refl, along_all some)

pub along_more : (some all more : List Asked) → Along some all → Along (some ++ more) (all ++ more)
along_more [] [] more along = along_all more
along_more [] (first ∷ all) more along = skip more first (all ++ more) (along_more [] all more tt)
  where
    skip : (some : List Asked) (first : Asked) (all : List Asked) → Along some all → Along some (first ∷ all)
    skip [] first all along = tt
    skip (one ∷ some) first all along = inr along
along_more (one ∷ some) [] more along = absurd along
along_more (one ∷ some) (first ∷ all) more along = search (along_more some all more, along_more (one ∷ some) all more, arith)

-- the last ones may be left out
pub along_less : (some more all : List Asked) → Along (some ++ more) all → Along some all
along_less [] more all along = tt
along_less (one ∷ some) more [] along = absurd along
along_less (one ∷ some) more (first ∷ all) along = search (along_less some more all, along_less (one ∷ some) more all, arith)

pub along_has : (some all : List Asked) → Along some all → (one : Asked) → Has some one → Has all one
along_has [] all along one has = absurd has
along_has (first ∷ some) [] along one has = absurd along
along_has (first ∷ some) (other ∷ all) along one has = search (along_has some all, along_has (first ∷ some) all, arith)

-- the same number, the same transaction
pub same_asked : (all : List Asked) → AreApart all → (a b : Asked) → Has all a → Has all b → a.0 ≡ b.0 → a ≡ b
same_asked [] apart a b has has' same = absurd has
same_asked (c ∷ all) apart a b has has' same = search (same_asked all, arith)

-- what stands along a list and has all of it is the list
pub is_all : (some all : List Asked) → AreApart all → Along some all → ((one : Asked) → Has all one → Has some one) → some ≡ all
is_all [] [] apart along every = refl
is_all [] (first ∷ all) apart along every = absurd (every first (inl refl))
is_all (one ∷ some) [] apart along every = absurd along
is_all (one ∷ some) (first ∷ all) apart along every = elim along [
  | inl here ↦
      ap (λ one. one ∷ some) here.0
      ∙ ap (λ some. first ∷ some) (is_all some all apart.1 here.1 (λ other has. ⊎_elim
      (λ is. absurd (apart.0 other has (ap (λ (a : Asked). a.0) (sym is ∙ here.0))))
      (λ rest. rest)
      (every other (inr has))))
  | inr later ↦ absurd (apart.0 first (along_has (one ∷ some) all later first (every first (inl refl))) refl)
]
