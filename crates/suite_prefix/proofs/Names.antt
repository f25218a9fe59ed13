-- Names put one behind the other.
use Rattle.suite_prefix.proofs.Vocabulary.{◌≡◌, ℕ, List, [], ◌∷◌, ◌++◌, sym, ap, subst, ◌∙◌, append-nil, All, ◌↔◌, IsTrue, All-cons, All-head, All-tail, IsFolder, IsName, names_rise, arith}
use Rattle.suite_prefix.proofs.Orders.{folder_if_rise}

-- where the first passes, all pass where the others do
pub tail_iff : (P : List ℕ × ℕ → Type 0) (first : List ℕ × ℕ) (rest others all : List (List ℕ × ℕ)) → others ≡ first ∷ rest → P first → (All P others ↔ All P all) → (All P rest ↔ All P all)
tail_iff P first rest others all split passes same = (
  λ each. same.0 (subst (All P) (sym split) (All-cons P first rest passes each)),
  λ each. All-tail P first rest (subst (All P) split (same.1 each)),
)

middle : (P : List ℕ × ℕ → Type 0) (front : List (List ℕ × ℕ)) (entry : List ℕ × ℕ) (rest : List (List ℕ × ℕ)) → All P (front ++ entry ∷ rest) → P entry
middle P [] entry rest each = All-head P entry rest each
middle P (e ∷ front) entry rest each = middle P front entry rest (All-tail P e (front ++ entry ∷ rest) each)

whole : (front : List (List ℕ × ℕ)) (entry : List ℕ × ℕ) (rest others all : List (List ℕ × ℕ)) → others ≡ entry ∷ rest → front ++ others ≡ all → front ++ entry ∷ rest ≡ all
whole front entry rest others all split so_far = ap (λ t. front ++ t) (sym split) ∙ so_far

pub name_at_middle : (front : List (List ℕ × ℕ)) (name : List ℕ) (suite : ℕ) (rest others all : List (List ℕ × ℕ)) → others ≡ (name, suite) ∷ rest → front ++ others ≡ all → All (λ entry. IsName entry.0) all → IsName name
name_at_middle front name suite rest others all split so_far each =
    middle (λ (entry : List ℕ × ℕ). IsName entry.0) front (name, suite) rest (subst (All (λ (entry : List ℕ × ℕ). IsName entry.0)) (sym (whole front (name, suite) rest others all split so_far)) each)

-- where none is left, those that were passed are a folder's
pub folder_at_end : (front others all : List (List ℕ × ℕ)) → others ≡ [] → front ++ others ≡ all → IsTrue (names_rise all) → IsFolder front
folder_at_end front others all none so_far rise = search (whole, append-nil, folder_if_rise, arith)
