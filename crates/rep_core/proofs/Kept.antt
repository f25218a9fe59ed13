-- Maps whose values are seen by a part of theirs: stored copies, seen as copies and as forms.
use Rattle.rep_core.proofs.Vocabulary.{◌≡◌, ℕ, List, [], ◌∷◌, length, map, Option, refl, ap, ◌∙◌, arith, is_some, option_map, nat_cmp, is_at, lookup-map_values, get, insert, Replica, Form, Kept, with_form, Planned, copies_in, forms_in, intention_in}
use Rattle.rep_core.proofs.Vocabulary.{in_form_2}

module _ {V W : Type 0} (f : V → W) where
  abbrev seen : List (ℕ × V) → List (ℕ × W)
  seen pairs = map (λ e. (e.0, f e.1)) pairs

  insert_seen : (pairs : List (ℕ × V)) (key : ℕ) (value : V) → seen (insert nat_cmp pairs key value) ≡ insert nat_cmp (seen pairs) key (f value)
  insert_seen [] key value = refl
  insert_seen (e ∷ es) key value = search (insert_seen es key value, arith)

  length_seen : (pairs : List (ℕ × V)) → length (seen pairs) ≡ length pairs
  length_seen [] = refl
  length_seen (e ∷ es) = let rest = length_seen es in omega (arith, rest)

some_seen : {X Y : Type 0} (f : X → Y) (o : Option X) → is_some (option_map f o) ≡ is_some o
some_seen f o = search arith

-- ---- copies

pub get_copies : (pairs : List (ℕ × Kept)) (suite : ℕ) → get nat_cmp (copies_in pairs) suite ≡ option_map (λ kept. kept.copy) (get nat_cmp pairs suite)
get_copies pairs suite = lookup-map_values (λ (kept : Kept). kept.copy) (is_at (nat_cmp suite)) pairs

pub copy_there : (pairs : List (ℕ × Kept)) (suite : ℕ) → is_some (get nat_cmp (copies_in pairs) suite) ≡ is_some (get nat_cmp pairs suite)
copy_there pairs suite = ap is_some (get_copies pairs suite) ∙ some_seen (λ (kept : Kept). kept.copy) (get nat_cmp pairs suite)

pub insert_copies : (pairs : List (ℕ × Kept)) (suite : ℕ) (kept : Kept) → copies_in (insert nat_cmp pairs suite kept) ≡ insert nat_cmp (copies_in pairs) suite kept.copy
insert_copies pairs suite kept = insert_seen (λ (kept : Kept). kept.copy) pairs suite kept

pub length_copies : (pairs : List (ℕ × Kept)) → length (copies_in pairs) ≡ length pairs
length_copies pairs = length_seen (λ (kept : Kept). kept.copy) pairs

-- ---- forms

pub get_forms : (pairs : List (ℕ × Kept)) (suite : ℕ) → get nat_cmp (forms_in pairs) suite ≡ option_map (λ kept. kept.form) (get nat_cmp pairs suite)
get_forms pairs suite = lookup-map_values (λ (kept : Kept). kept.form) (is_at (nat_cmp suite)) pairs

pub insert_forms : (pairs : List (ℕ × Kept)) (suite : ℕ) (kept : Kept) → forms_in (insert nat_cmp pairs suite kept) ≡ insert nat_cmp (forms_in pairs) suite kept.form
insert_forms pairs suite kept = insert_seen (λ (kept : Kept). kept.form) pairs suite kept

-- an intention that becomes a copy leaves form 2
pub form_becomes : (suite : ℕ) (planned : Planned) (copy : Replica) (forms : List (ℕ × Form)) → planned.left ≡ in_form_2 copy
    → insert nat_cmp forms suite planned.left.form ≡ with_form suite (intention_in planned).take forms
form_becomes suite planned copy forms leaves = search arith
