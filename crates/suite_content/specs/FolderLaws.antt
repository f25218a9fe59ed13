-- Laws of a folder's names: what an edit makes of a look-up, of the order and of the length, and which edits undo others.
use Rattle.std.specs.Prelude.{◌≡◌, ◌≢◌, ℕ, ◌+◌, Bool, true, false, if◌then◌else◌, List, [], length, Some, None, is_some}
use Rattle.std.specs.Cmp.Lexicographic.{nat_list_cmp_total}
use Rattle.std.specs.List.Sorted.{IsStrictlySortedBy}
use Rattle.std.specs.Str.{bytes_eq}
use Rattle.std.proofs.Common.{sym, ◌∙◌, ap, refl}
use Rattle.std.proofs.lemmas.Bool.{cond-true, cond-false}
use Rattle.std.proofs.lemmas.Cmp.{nat_list_eq_equiv}
use Rattle.std.proofs.lemmas.Slice.Eq.{bytes_eq-Decides}
use Rattle.std.proofs.lemmas.Map.Lookups.{exact_bytes}
use Rattle.std.proofs.lemmas.Map.Text.{is_eq-slice_cmp}
use Rattle.sorted_map.specs.Laws as law
use Rattle.sorted_map.specs.Edits as edit
use Rattle.suite_content.specs.Folders.{IsFolder, number_of, with_name, without_name}

-- a folder without names
pub IsFolder-empty : IsFolder []
unfolding IsStrictlySortedBy
IsFolder-empty = tt

-- ---- look-ups

if_not : (b : Bool) → (b ≡ true → ⊥) → b ≡ false
if_not true never = absurd (never refl)
if_not false never = refl

apart : (name q : List ℕ) → q ≢ name → bytes_eq name q ≡ false
apart name q other = if_not _ (λ same. other (sym ((bytes_eq-Decides name q).0 same)))

-- the name that was put in has its number, and every other name the number that it had
pub number_of-with_name : (folder : List (List ℕ × ℕ)) (name : List ℕ) (number : ℕ) (q : List ℕ) → number_of (with_name folder name number) q ≡ (if bytes_eq name q then Some number else number_of folder q)
number_of-with_name folder name number q =
    law.get-insert nat_list_cmp_total folder name number q ∙ ap (λ b. if b then Some number else number_of folder q) (is_eq-slice_cmp name q)

-- the name that was taken out is gone, and every other name has the number that it had
pub number_of-without_name : (folder : List (List ℕ × ℕ)) (name q : List ℕ) → IsFolder folder → number_of (without_name folder name) q ≡ (if bytes_eq name q then None else number_of folder q)
number_of-without_name folder name q ordered =
    law.get-remove nat_list_cmp_total folder name q ordered ∙ ap (λ b. if b then None else number_of folder q) (is_eq-slice_cmp name q)

pub number_of-with_same : (folder : List (List ℕ × ℕ)) (name : List ℕ) (number : ℕ) → number_of (with_name folder name number) name ≡ Some number
number_of-with_same folder name number = number_of-with_name folder name number name ∙ cond-true _ _ _ (nat_list_eq_equiv.refl name)

pub number_of-with_other : (folder : List (List ℕ × ℕ)) (name : List ℕ) (number : ℕ) (q : List ℕ) → q ≢ name → number_of (with_name folder name number) q ≡ number_of folder q
number_of-with_other folder name number q other = number_of-with_name folder name number q ∙ cond-false _ _ _ (apart name q other)

pub number_of-without_same : (folder : List (List ℕ × ℕ)) (name : List ℕ) → IsFolder folder → number_of (without_name folder name) name ≡ None
number_of-without_same folder name ordered = number_of-without_name folder name name ordered ∙ cond-true _ _ _ (nat_list_eq_equiv.refl name)

pub number_of-without_other : (folder : List (List ℕ × ℕ)) (name q : List ℕ) → IsFolder folder → q ≢ name → number_of (without_name folder name) q ≡ number_of folder q
number_of-without_other folder name q ordered other = number_of-without_name folder name q ordered ∙ cond-false _ _ _ (apart name q other)

-- look-ups tell folders apart
pub same_folders : (folder other : List (List ℕ × ℕ)) → IsFolder folder → IsFolder other → ((q : List ℕ) → number_of folder q ≡ number_of other q) → folder ≡ other
same_folders = law.same_maps nat_list_cmp_total exact_bytes

-- ---- the order is kept

pub IsFolder-with_name : (folder : List (List ℕ × ℕ)) (name : List ℕ) (number : ℕ) → IsFolder folder → IsFolder (with_name folder name number)
IsFolder-with_name = law.IsOrdered-insert nat_list_cmp_total

pub IsFolder-without_name : (folder : List (List ℕ × ℕ)) (name : List ℕ) → IsFolder folder → IsFolder (without_name folder name)
IsFolder-without_name = law.IsOrdered-remove nat_list_cmp_total

-- ---- how many names there are

pub length-with_name : (folder : List (List ℕ × ℕ)) (name : List ℕ) (number : ℕ) → IsFolder folder → length (with_name folder name number) ≡ length folder + (if is_some (number_of folder name) then 0 else 1)
length-with_name = edit.length-insert nat_list_cmp_total

pub length-without_name : (folder : List (List ℕ × ℕ)) (name : List ℕ) → length (without_name folder name) + (if is_some (number_of folder name) then 1 else 0) ≡ length folder
length-without_name = edit.length-remove nat_list_cmp_total

-- ---- edits that undo others

-- a new name, taken out again
pub without-with_name : (folder : List (List ℕ × ℕ)) (name : List ℕ) (number : ℕ) → number_of folder name ≡ None → without_name (with_name folder name number) name ≡ folder
without-with_name = edit.remove-insert nat_list_cmp_total

-- another number, and the one before put back
pub with-with_name : (folder : List (List ℕ × ℕ)) (name : List ℕ) (number old : ℕ) → IsFolder folder → number_of folder name ≡ Some old → with_name (with_name folder name number) name old ≡ folder
with-with_name folder name number old ordered has =
    edit.insert-insert nat_list_cmp_total folder name number old ∙ edit.insert_same nat_list_cmp_total folder name old ordered has

-- a name taken out, and put in again with its number
pub with-without_name : (folder : List (List ℕ × ℕ)) (name : List ℕ) (old : ℕ) → IsFolder folder → number_of folder name ≡ Some old → with_name (without_name folder name) name old ≡ folder
with-without_name = edit.insert-remove nat_list_cmp_total exact_bytes

-- a name that is not there, taken out
pub without_absent : (folder : List (List ℕ × ℕ)) (name : List ℕ) → number_of folder name ≡ None → without_name folder name ≡ folder
without_absent = edit.remove_absent nat_list_cmp_total

-- for `grind`: what a name has after an edit, and which edits undo others
pub ruleset folder_lookups = (number_of-with_same, number_of-with_other, number_of-without_same, number_of-without_other)

pub ruleset folder_undoing = (without-with_name, with-with_name, with-without_name, without_absent)
