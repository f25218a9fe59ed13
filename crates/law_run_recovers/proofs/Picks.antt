-- What a test finds of a list, by what a wider or narrower test finds; and sets that have the same votes.
use Rattle.law_run_recovers.proofs.Vocabulary.{◌≡◌, ℕ, ◌+◌, Bool, true, false, cond, List, [], ◌∷◌, Some, None, refl, sym, ap, subst, ◌∙◌, ◌&&◌, not, nat_lt, find, false≢true, cases_Bool, none-some, same_Some, arith, Representative, votes_in, Has}
use Rattle.law_run_recovers.proofs.Vocabulary.{◌++◌, append-nil, append_assoc}
use Rattle.law_run_recovers.proofs.Found.{none_left}

-- what holds at first and stays holds of each front of a list
pub along : {X : Type 0} (later : List X) (P : List X → Type 0) → ((so_far rest : List X) (x : X) → later ≡ so_far ++ x ∷ rest → P so_far → P (so_far ++ x ∷ [])) → P [] → (so_far rest : List X) → later ≡ so_far ++ rest → P so_far
along {X = X} later P stays first so_far rest split = go so_far [] rest split first
  where
    go : (todo so_far rest : List X) → later ≡ (so_far ++ todo) ++ rest → P so_far → P (so_far ++ todo)
    go [] so_far rest split holds = subst P (sym (append-nil so_far)) holds
    go (x ∷ todo) so_far rest split holds =
        let more : (so_far ++ x ∷ []) ++ todo ≡ so_far ++ x ∷ todo = append_assoc so_far (x ∷ []) todo in
        subst P more (go todo (so_far ++ x ∷ []) rest (split ∙ ap (λ so_far. so_far ++ rest) (sym more)) (stays so_far (todo ++ rest) x (split ∙ append_assoc so_far (x ∷ todo) rest) holds))

module _ {X : Type 0} (f g : X → Bool) (so : (x : X) → g x ≡ true → f x ≡ true) where
  -- the first that passes one test passes a narrower one: it is the first there too
  pub find_first : (xs : List X) (x : X) → find f xs ≡ Some x → g x ≡ true → find g xs ≡ Some x
  find_first [] x is test = absurd (none-some x is)
  find_first (y ∷ ys) x is test = search (false≢true, same_Some, find_first ys x, arith)

  pub find_nobody : (xs : List X) → find f xs ≡ None → find g xs ≡ None
  find_nobody [] is = refl
  find_nobody (y ∷ ys) is = search (none-some, find_nobody ys, arith)

pub find_fails : {X : Type 0} (f : X → Bool) (xs : List X) → find f xs ≡ None → (x : X) → Has xs x → f x ≡ false
find_fails f [] none x has = absurd has
find_fails f (y ∷ ys) none x has = search (none-some, find_fails f ys, arith)

pub three : (a m r : Bool) → a ≡ true → m ≡ false → r ≡ false → (a && not m && not r) ≡ true
three a m r h3 h4 h5 = search arith

none_either : (b : Bool) (n : ℕ) → n ≡ 0 → cond b n 0 ≡ 0
none_either b n h2 = search arith

-- two sets have the same votes where they agree on who has some
pub votes_alike : (reps : List Representative) (set other : ℕ → Bool) → ((rep : Representative) → Has reps rep → nat_lt 0 rep.1 ≡ true → set rep.0 ≡ other rep.0) → votes_in reps set ≡ votes_in reps other
votes_alike [] set other so = refl
votes_alike (rep ∷ reps) set other so = search (none_either, none_left, cases_Bool, nat_lt, votes_alike reps set other, arith)
