-- Decisions in their order: what was decided so far stands before what is decided later.
use Rattle.law_runs.proofs.Vocabulary.{◌≡◌, inl, inr, ℕ, false, List, [], ◌∷◌, ◌++◌, refl, sym, ap, nat_eq, map, AllByRecursion, ne_eqb, IsDistinct-cons, Has, Decided, arith}
use Rattle.std.specs.List.{IsDistinct}
use Rattle.law_runs.proofs.Standing.{NotIn}
use Rattle.law_runs.proofs.Worlds.{AreApart}

head_of : Decided → List Decided → Decided
head_of d [] = d
head_of d (e ∷ es) = e

tail_of : List Decided → List Decided
tail_of [] = []
tail_of (e ∷ es) = es

same_head : (d e : Decided) (ds es : List Decided) → d ∷ ds ≡ e ∷ es → d ≡ e
unfolding head_of
same_head d e ds es same = ap (head_of d) same

same_tail : (d e : Decided) (ds es : List Decided) → d ∷ ds ≡ e ∷ es → ds ≡ es
unfolding tail_of
same_tail d e ds es same = ap tail_of same

-- wherever a later one stands, an earlier one stands before it
pub stands_first : (ds more before after : List Decided) (first second : Decided) → Has ds first → NotIn ds second.t → ds ++ more ≡ before ++ second ∷ after → Has before first
stands_first [] more before after first second has new same = absurd has
stands_first (d ∷ ds) more [] after first second has new same = absurd (new d (inl refl) (ap (λ (d : Decided). d.t) (same_head d second (ds ++ more) after same)))
stands_first (d ∷ ds) more (e ∷ before) after first second has new same = search (same_head, same_tail, stands_first ds more before after first second, arith)

-- the same number, the same decision
pub same_decision : (ds : List Decided) (d e : Decided) → AreApart ds → Has ds d → Has ds e → d.t ≡ e.t → d ≡ e
same_decision [] d e apart has has' same = absurd has
same_decision (f ∷ ds) d e apart has has' same = search (same_decision ds d e, arith)

-- ---- no number stands twice

none_equal : (t : ℕ) (ds : List Decided) → NotIn ds t → AllByRecursion (λ other. nat_eq t other ≡ false) (map (λ (one : Decided). one.t) ds)
none_equal t [] new = tt
none_equal t (d ∷ ds) new = (ne_eqb t d.t (λ same. new d (inl refl) (sym same)), none_equal t ds (λ e has. new e (inr has)))

pub apart_distinct : (ds : List Decided) → AreApart ds → IsDistinct nat_eq (map (λ (one : Decided). one.t) ds)
unfolding IsDistinct
apart_distinct [] apart = tt
apart_distinct (d ∷ ds) apart = IsDistinct-cons nat_eq d.t (map (λ (one : Decided). one.t) ds) (none_equal d.t ds apart.0) (apart_distinct ds apart.1)
