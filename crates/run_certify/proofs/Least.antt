-- The least of the first items of histories.
use Rattle.run_certify.proofs.Vocabulary.{◌≡◌, ◌≢◌, ◌⊎◌, ⊎_elim, inl, inr, ℕ, zero, suc, ◌+◌, ◌<◌, ◌≤◌, List, [], ◌∷◌, length, slice_set, refl, ap, ◌∙◌, arith, Item, history_of, AreAllPlayed, IsFirst, IsFirstBelow, IsLeast, IsNext, IsTaken}
use Rattle.run_certify.proofs.Vocabulary.{NoneBelow}
use Rattle.run_certify.proofs.Lists.{le_or, no_cons, same_or, set_apart, set_here}

split : (other bound : ℕ) → other < bound + 1 → (other < bound) ⊎ (other ≡ bound)
split other bound low = ⊎_elim (λ (e : other ≡ bound). inr e) (λ (n : other ≢ bound). inl (omega arith)) (same_or other bound)

-- ---- one history more

module _ (histories : List (List Item)) (bound : ℕ) where
  pub none_more : NoneBelow bound histories → history_of histories bound ≡ [] → NoneBelow (bound + 1) histories
  none_more none empty = λ server low. ⊎_elim (λ l. none server l) (λ e. ap (λ s. history_of histories s) e ∙ empty) (split server bound low)

  pub first_more : (item : Item) (later : List Item) → NoneBelow bound histories → IsFirst histories bound item later → IsFirstBelow (bound + 1) histories bound item later
  first_more item later none is = search arith

  pub kept_empty : (server : ℕ) (item : Item) (later : List Item) → IsFirstBelow bound histories server item later → history_of histories bound ≡ [] → IsFirstBelow (bound + 1) histories server item later
  kept_empty server item later was empty = search arith

  pub kept_more : (server : ℕ) (item : Item) (later : List Item) (next : Item) (rest : List Item) → IsFirstBelow bound histories server item later → history_of histories bound ≡ next ∷ rest → item.stamp ≤ next.stamp
      → IsFirstBelow (bound + 1) histories server item later
  kept_more server item later next rest was here small = search arith

  pub less_more : (server : ℕ) (item : Item) (later : List Item) (next : Item) (rest : List Item) → IsFirstBelow bound histories server item later → IsFirst histories bound next rest → next.stamp < item.stamp
      → IsFirstBelow (bound + 1) histories bound next rest
  less_more server item later next rest was is less = search arith

-- ---- all of them

past : (histories : List (List Item)) (server : ℕ) → length histories ≤ server → history_of histories server ≡ []
past [] server high = refl
past (h ∷ hs) zero high = absurd (omega arith)
past (h ∷ hs) (suc server) high = past hs server (omega arith)

pub none_of_all : (histories : List (List Item)) (bound : ℕ) → length histories ≤ bound → NoneBelow bound histories → AreAllPlayed histories
none_of_all histories bound long none = λ server. ⊎_elim (λ (h : bound ≤ server). past histories server (omega arith)) (λ (l : server < bound). none server l) (le_or bound server)

pub next_of_all : (histories : List (List Item)) (bound server : ℕ) (item : Item) (later : List Item) → length histories ≤ bound → IsFirstBelow bound histories server item later → IsNext histories server item later
next_of_all histories bound server item later long was = search (no_cons, past, le_or, arith)

-- ---- it is taken

least_after : (was now : List (List Item)) (server : ℕ) (item : Item) (later : List Item) → IsNext was server item later → now ≡ slice_set was server later
    → ((next : Item) (rest : List Item) → later ≡ next ∷ rest → item.stamp ≤ next.stamp) → IsLeast now server item
least_after was now server item later is set rises other first more at = search (set_here, same_or, set_apart, arith)

pub taken : (was now : List (List Item)) (server : ℕ) (item : Item) (later : List Item) → IsNext was server item later → now ≡ slice_set was server later
    → ((next : Item) (rest : List Item) → later ≡ next ∷ rest → item.stamp ≤ next.stamp) → IsTaken was server item now
taken was now server item later is set rises = search (least_after, arith)
