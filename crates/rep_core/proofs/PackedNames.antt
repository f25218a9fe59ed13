-- Names that are packed into one text with commas come out again, and no others do.
use Rattle.rep_core.proofs.Vocabulary.{◌≡◌, ℕ, ◌+◌, ◌≤◌, ◌<◌, true, false, cond, eqb, List, [], ◌∷◌, ◌++◌, length, map, refl, sym, ap, subst, ◌∙◌, arith, append-nil, Bor, get_or, All, IsTrue, cases_Bool, ne_eqb, false≢true, and_parts, map-append}
use Rattle.rep_core.proofs.Vocabulary.{All-nil, All-head, All-tail, sum_by-cons, sum_by-append, IsName, is_name_byte, with_commas, parts, unnumbered, AreInOrder, count_by}
use Rattle.std.proofs.lemmas.List.Splits.{slice_split_none, slice_split_at, length-slice_split}
use Rattle.suite_content.specs.Folders.{IsFolder, names_in}
use Rattle.suite_prefix.specs.Faults.{rise_above}
use Rattle.suite_prefix.proofs.Orders.{folder_if_rise}

-- ---- a name has no comma

plain : (b : ℕ) → IsTrue (is_name_byte b) → eqb b 44 ≡ false
plain b portable = ne_eqb b 44 (λ same. false≢true (subst (λ c. is_name_byte c ≡ true) same portable))

no_comma : (name : List ℕ) → IsName name → All (λ b. eqb b 44 ≡ false) name
no_comma name is k d inside = plain _ (is.portable k d inside)

pub parts_of_names : (name : List ℕ) (names : List (List ℕ)) → All IsName (name ∷ names) → parts (with_commas (name ∷ names)) ≡ name ∷ names
parts_of_names name [] each = ap parts (append-nil name) ∙ slice_split_none (λ b. eqb b 44) name (no_comma name (All-head IsName name [] each))
parts_of_names name (next ∷ names) each =
    slice_split_at (λ b. eqb b 44) name 44 (with_commas (next ∷ names)) (no_comma name (All-head IsName name (next ∷ names) each)) refl
    ∙ ap (λ later. name ∷ later) (parts_of_names next names (All-tail IsName name (next ∷ names) each))

-- ---- where there are as many parts as names, no name has a comma

abbrev commas : List ℕ → ℕ
commas text = count_by (λ b. eqb b 44) text

commas-cons : (b : ℕ) (bs : List ℕ) → commas (b ∷ bs) ≡ cond (eqb b 44) 1 0 + commas bs
commas-cons b bs = sum_by-cons (λ (y : ℕ). cond (eqb y 44) 1 0) b bs

commas-behind : (name rest : List ℕ) → commas (name ++ 44 ∷ rest) ≡ commas name + (1 + commas rest)
commas-behind name rest = sum_by-append (λ (y : ℕ). cond (eqb y 44) 1 0) name (44 ∷ rest) ∙ ap (λ n. commas name + n) (commas-cons 44 rest)

none_if_zero : (name : List ℕ) → commas name ≡ 0 → All (λ b. eqb b 44 ≡ false) name
none_if_zero [] none = All-nil (λ (b : ℕ). eqb b 44 ≡ false)
none_if_zero (b ∷ bs) none = search (cases_Bool (eqb b 44), commas-cons b bs, none_if_zero bs, arith)

at_least : (name : List ℕ) (names : List (List ℕ)) → length names ≤ commas (with_commas (name ∷ names))
at_least name [] = omega arith
at_least name (next ∷ names) = omega (arith, commas-behind name (with_commas (next ∷ names)), at_least next names)

counted : (name : List ℕ) (names : List (List ℕ)) → commas (with_commas (name ∷ names)) ≡ length names → parts (with_commas (name ∷ names)) ≡ name ∷ names
counted name [] same = ap parts (append-nil name) ∙ slice_split_none (λ b. eqb b 44) name (none_if_zero name (sym (ap commas (append-nil name)) ∙ same))
counted name (next ∷ names) same = search (commas-behind, at_least, slice_split_at, none_if_zero, counted next names, arith)

pub as_many_parts : (names : List (List ℕ)) → 0 < length names → length (parts (with_commas names)) ≡ length names → parts (with_commas names) ≡ names
as_many_parts [] some same = absurd (omega (arith, some))
as_many_parts (name ∷ names) some same = counted name names (omega (arith, same, length-slice_split (λ (b : ℕ). eqb b 44) (with_commas (name ∷ names))))

pub parts_of_all : (names : List (List ℕ)) → 0 < length names → All IsName names → parts (with_commas names) ≡ names
parts_of_all [] some each = absurd (omega (arith, some))
parts_of_all (name ∷ names) some each = parts_of_names name names each

-- ---- numbers that nobody asks for

pub names-unnumbered : (names : List (List ℕ)) → names_in (unnumbered names) ≡ names
names-unnumbered [] = refl
names-unnumbered (name ∷ names) = ap (λ later. name ∷ later) (names-unnumbered names)

pub unnumbered-push : (front : List (Bor (List ℕ))) (name : Bor (List ℕ)) → unnumbered (map (λ x. x.now) front) ++ (name.now, 0) ∷ [] ≡ unnumbered (map (λ x. x.now) (front ++ name ∷ []))
unnumbered-push front name = sym (ap unnumbered (map-append (λ (x : Bor (List ℕ)). x.now) front (name ∷ [])) ∙ map-append (λ (one : List ℕ). (one, 0)) (map (λ x. x.now) front) (name.now ∷ []))

pub name_at : (names : List (List ℕ)) (i : ℕ) (name : List ℕ) → i < length names → name ≡ get_or names i name → All IsName names → IsName name
name_at names i name inside same each = subst IsName (sym same) (each i name inside)

-- ---- names that are gone through, each above the one before

pub record Rises (before : List ℕ) (names : List (List ℕ)) : Type 0 where
  pub each : All IsName names
  pub rising : rise_above before (unnumbered names) ≡ true

pub rises_nil : (before : List ℕ) → Rises before []
rises_nil before = record { each = All-nil IsName; rising = refl }

folder : (names : List (List ℕ)) → Rises [] names → IsFolder (unnumbered names)
folder names h1 = search (folder_if_rise, and_parts, arith)

-- where none is left, all are in order
pub in_order : (before : List ℕ) (left names : List (List ℕ)) → left ≡ [] → (Rises before left → Rises [] names) → AreInOrder names
in_order before left names none all = search (rises_nil, folder, arith)
