-- Intentions that are kept as what they leave, seen as intentions.
use Rattle.rep_core.proofs.Vocabulary.{◌≡◌, ℕ, ◌==◌, ◌≤◌, ◌<◌, Bool, false, cond, not, get_or, filter, List, [], ◌∷◌, length, Option, Some, refl, sym, ap, subst, ◌∙◌, ⊎_elim, ◌⊎◌, arith, is_some, option_map, unwrap_or, nat_cmp, is_at}
use Rattle.rep_core.proofs.Vocabulary.{cases_Bool, lookup_head, lookup_tail, sorted_tail, get_or-map, lookup-map_values, keys_of-map_values, none-some, same_Some, IsOrdered, get, insert, remove, replace, get_insert_here, get_insert_apart}
use Rattle.rep_core.proofs.Vocabulary.{get_remove_here, get_remove_apart, Configuration, Replica, absent_copy, Planned, Part, Take, Intention, copy_in, left_by, is_keep, with_taken, with_intentions, intention_in, intentions_in, in_form_2, take_in}
use Rattle.rep_core.proofs.Vocabulary.{is_whole, planned_of, with_all, Leaves, IsStrictlySortedBy}
use Rattle.rep_core.proofs.Intentions.{apart_behind}

-- ---- look-ups and edits

pub get_in : (pairs : List (ℕ × Planned)) (suite : ℕ) → get nat_cmp (intentions_in pairs) suite ≡ option_map intention_in (get nat_cmp pairs suite)
get_in pairs suite = lookup-map_values intention_in (is_at (nat_cmp suite)) pairs

some_in : {X Y : Type 0} (f : X → Y) (o : Option X) → is_some (option_map f o) ≡ is_some o
some_in f o = search arith

pub there_in : (pairs : List (ℕ × Planned)) (suite : ℕ) → is_some (get nat_cmp (intentions_in pairs) suite) ≡ is_some (get nat_cmp pairs suite)
there_in pairs suite = ap is_some (get_in pairs suite) ∙ some_in intention_in (get nat_cmp pairs suite)

-- ---- what is prepared of a suite, seen from what is kept of its intention

abbrev kept_of : Planned → ℕ × Replica
kept_of planned = (planned.t, planned.left.copy)

abbrev left_in : Replica → Intention → ℕ × Replica
left_in copy intention = (intention.t, left_by intention.take copy)

prepared_at : (copy : Replica) (found : Option Planned) → ((planned : Planned) → found ≡ Some planned → planned.left ≡ in_form_2 (left_by (take_in planned.whole planned.left.copy) copy))
    → option_map kept_of found ≡ option_map (left_in copy) (option_map intention_in found)
prepared_at copy found h2 = search arith

pub prepared_in : (c0 : Configuration) (copies : List (ℕ × Replica)) (pairs : List (ℕ × Planned)) (suite : ℕ) → Leaves copies pairs
    → option_map kept_of (get nat_cmp pairs suite) ≡ option_map (left_in (copy_in c0 copies suite)) (get nat_cmp (intentions_in pairs) suite)
prepared_in c0 copies pairs suite leaves = search (prepared_at, get_in, arith)

pub length_in : (pairs : List (ℕ × Planned)) → length (intentions_in pairs) ≡ length pairs
length_in [] = refl
length_in (e ∷ es) = let rest = length_in es in omega (arith, rest)

pub rising_in : (pairs : List (ℕ × Planned)) → IsOrdered nat_cmp pairs → IsOrdered nat_cmp (intentions_in pairs)
rising_in pairs rising = subst (λ keys. IsStrictlySortedBy nat_cmp keys) (sym (keys_of-map_values intention_in pairs)) rising

pub remove_in : (pairs : List (ℕ × Planned)) (suite : ℕ) → remove nat_cmp (intentions_in pairs) suite ≡ intentions_in (remove nat_cmp pairs suite)
remove_in [] suite = refl
remove_in (e ∷ es) suite = search (remove_in es suite, arith)

pub insert_in : (pairs : List (ℕ × Planned)) (suite : ℕ) (planned : Planned) → insert nat_cmp (intentions_in pairs) suite (intention_in planned) ≡ intentions_in (insert nat_cmp pairs suite planned)
insert_in [] suite planned = refl
insert_in (e ∷ es) suite planned = search (insert_in es suite planned, arith)

pub without_in : (t : ℕ) (pairs : List (ℕ × Planned)) → intentions_in (filter (λ pair. not (pair.1.t == t)) pairs) ≡ filter (λ pair. not (pair.1.t == t)) (intentions_in pairs)
without_in t [] = refl
without_in t (e ∷ es) = search (without_in t es, arith)

pub at_in : (pairs : List (ℕ × Planned)) (i : ℕ) (pair : ℕ × Planned) → i < length pairs → pair ≡ get_or pairs i pair → (pair.0, intention_in pair.1) ≡ get_or (intentions_in pairs) i (pair.0, intention_in pair.1)
at_in pairs i pair in_range is = search (get_or-map, arith)

-- where the value that is there is written again, nothing changes
pub replaced_same : {V : Type 0} (pairs : List (ℕ × V)) (key : ℕ) (value : V) → get nat_cmp pairs key ≡ Some value → replace nat_cmp pairs key value ≡ pairs
replaced_same [] key value has = refl
replaced_same (e ∷ es) key value has = search (same_Some, lookup_head, lookup_tail, cases_Bool, replaced_same es key value, arith)

-- ---- what is left

-- what is left does not depend on the votes of what was never made
same_left : (what : Take) (c0 c1 : Configuration) (o : Option Replica) → is_keep what ≡ false → left_by what (unwrap_or o (absent_copy c0)) ≡ left_by what (unwrap_or o (absent_copy c1))
same_left what c0 c1 o h4 = search arith

take_back : (what : Take) (copy : Replica) → is_keep what ≡ false → take_in (is_whole what) (left_by what copy) ≡ what
take_back what copy h2 = search arith

-- an intention that becomes a copy
pub becomes : (c0 : Configuration) (suite : ℕ) (planned : Planned) (copies : List (ℕ × Replica)) → planned.left ≡ in_form_2 (left_by (take_in planned.whole planned.left.copy) (copy_in c0 copies suite))
    → insert nat_cmp copies suite planned.left.copy ≡ with_taken c0 suite (intention_in planned).take copies
becomes c0 suite planned copies leaves = search arith

-- what is found without a key was there, and is another's
found_without : (pairs : List (ℕ × Planned)) (suite q : ℕ) (planned : Planned) → IsOrdered nat_cmp pairs → get nat_cmp (remove nat_cmp pairs suite) q ≡ Some planned → (q ≡ suite → ⊥) × (get nat_cmp pairs q ≡ Some planned)
found_without pairs suite q planned rising has =
    let apart : q ≡ suite → ⊥ = λ same. none-some planned (sym (get_remove_here pairs suite rising) ∙ ap (get nat_cmp (remove nat_cmp pairs suite)) (sym same) ∙ has) in
    (apart, sym (get_remove_apart pairs suite q rising apart) ∙ has)

pub leaves_taken : (copies : List (ℕ × Replica)) (pairs : List (ℕ × Planned)) (suite : ℕ) (left : Replica) → IsOrdered nat_cmp pairs → Leaves copies pairs → Leaves (insert nat_cmp copies suite left) (remove nat_cmp pairs suite)
leaves_taken copies pairs suite left rising leaves c0 q planned has =
    let found = found_without pairs suite q planned rising has in
    leaves c0 q planned found.1 ∙ ap (λ o. in_form_2 (left_by (take_in planned.whole planned.left.copy) (unwrap_or o (absent_copy c0)))) (sym (get_insert_apart copies suite left q found.0))

-- what is found in a filtered list was there
pub found_in_filter : (p : ℕ × Planned → Bool) (pairs : List (ℕ × Planned)) (suite : ℕ) (planned : Planned) → IsOrdered nat_cmp pairs → get nat_cmp (filter p pairs) suite ≡ Some planned → get nat_cmp pairs suite ≡ Some planned
found_in_filter p [] suite planned rising has = has
found_in_filter p (e ∷ es) suite planned rising has = search (lookup_head, sorted_tail, lookup_tail, cases_Bool, apart_behind, found_in_filter p es suite planned, arith)

-- ---- a Prepare

pub planned_kept : (c0 : Configuration) (copies : List (ℕ × Replica)) (t : ℕ) (parts : List Part) (pairs : List (ℕ × Planned)) → intentions_in (with_all (planned_of c0 copies t parts) pairs) ≡ with_intentions t parts (intentions_in pairs)
planned_kept c0 copies t [] pairs = refl
planned_kept c0 copies t (part ∷ parts) pairs = ⊎_elim
    (λ keep.
    ap (λ b. intentions_in (with_all (cond b (planned_of c0 copies t parts) ((part.suite, made) ∷ planned_of c0 copies t parts)) pairs)) keep
    ∙ planned_kept c0 copies t parts pairs
    ∙ ap (λ b. with_intentions t parts (cond b (intentions_in pairs) (insert nat_cmp (intentions_in pairs) part.suite new))) (sym keep))
    (λ changes.
    ap (λ b. intentions_in (with_all (cond b (planned_of c0 copies t parts) ((part.suite, made) ∷ planned_of c0 copies t parts)) pairs)) changes
    ∙ planned_kept c0 copies t parts (insert nat_cmp pairs part.suite made)
    ∙ ap (λ l. with_intentions t parts l) (sym (insert_in pairs part.suite made) ∙ ap
    (λ what. insert nat_cmp (intentions_in pairs) part.suite (let i : Intention = record { t = t; take = what } in i))
    (take_back part.take (copy_in c0 copies part.suite) changes))
    ∙ ap (λ b. with_intentions t parts (cond b (intentions_in pairs) (insert nat_cmp (intentions_in pairs) part.suite new))) (sym changes))
    (cases_Bool (is_keep part.take))
  where
    made : Planned
    made = record { t = t; whole = is_whole part.take; left = in_form_2 (left_by part.take (copy_in c0 copies part.suite)) }

    new : Intention
    new = record { t = t; take = part.take }

suite_or_apart : (a b : ℕ) → (a ≡ b) ⊎ (a ≡ b → ⊥)
suite_or_apart a b = search arith

leaves_more : (c0 : Configuration) (copies : List (ℕ × Replica)) (t : ℕ) (part : Part) (pairs : List (ℕ × Planned)) → is_keep part.take ≡ false → Leaves copies pairs
    → Leaves copies (insert nat_cmp pairs part.suite (record { t = t; whole = is_whole part.take; left = in_form_2 (left_by part.take (copy_in c0 copies part.suite)) }))
leaves_more c0 copies t part pairs changes leaves c1 suite planned has =
    let made : Planned = record { t = t; whole = is_whole part.take; left = in_form_2 (left_by part.take (copy_in c0 copies part.suite)) } in
    ⊎_elim
    (λ same.
    let is : made ≡ planned = same_Some made planned (sym (get_insert_here pairs part.suite made) ∙ ap (λ k. get nat_cmp (insert nat_cmp pairs part.suite made) k) (sym same) ∙ has) in
    let own : made.left ≡ in_form_2 (left_by (take_in made.whole made.left.copy) (copy_in c1 copies part.suite)) =
    ap in_form_2 (same_left part.take c0 c1 (get nat_cmp copies part.suite) changes ∙ ap (λ what. left_by what (copy_in c1 copies part.suite)) (sym (take_back part.take (copy_in c0 copies part.suite) changes))) in
    subst (λ (x : Planned). x.left ≡ in_form_2 (left_by (take_in x.whole x.left.copy) (copy_in c1 copies suite))) is (subst (λ k. made.left ≡ in_form_2 (left_by (take_in made.whole made.left.copy) (copy_in c1 copies k))) (sym same) own))
    (λ apart. leaves c1 suite planned (sym (get_insert_apart pairs part.suite made suite apart) ∙ has))
    (suite_or_apart suite part.suite)

pub leaves_planned : (c0 : Configuration) (copies : List (ℕ × Replica)) (t : ℕ) (parts : List Part) (pairs : List (ℕ × Planned)) → Leaves copies pairs → Leaves copies (with_all (planned_of c0 copies t parts) pairs)
leaves_planned c0 copies t [] pairs leaves = leaves
leaves_planned c0 copies t (part ∷ parts) pairs leaves =
    let made : Planned = record { t = t; whole = is_whole part.take; left = in_form_2 (left_by part.take (copy_in c0 copies part.suite)) } in
    ⊎_elim
    (λ keep. subst (λ b. Leaves copies (with_all (cond b (planned_of c0 copies t parts) ((part.suite, made) ∷ planned_of c0 copies t parts)) pairs)) (sym keep) (leaves_planned c0 copies t parts pairs leaves))
    (λ changes. subst (λ b. Leaves copies (with_all (cond b (planned_of c0 copies t parts) ((part.suite, made) ∷ planned_of c0 copies t parts)) pairs)) (sym changes)
    (leaves_planned c0 copies t parts (insert nat_cmp pairs part.suite made) (leaves_more c0 copies t part pairs changes leaves)))
    (cases_Bool (is_keep part.take))

pub few_planned : (c0 : Configuration) (copies : List (ℕ × Replica)) (t : ℕ) (parts : List Part) → length (planned_of c0 copies t parts) ≤ length parts
few_planned c0 copies t [] = omega arith
few_planned c0 copies t (part ∷ parts) = search (few_planned c0 copies t parts, arith)
