-- What trimming leaves, and that what it takes away is white space.
use Rattle.acl_text.proofs.Vocabulary.{◌≡◌, ℕ, suc, ◌+◌, ◌-◌, Bool, true, cond, not, ◌&&◌, List, [], ◌∷◌, ◌++◌, length, take, drop, reverse, refl, sym, ap, ◌∙◌, append-nil, length-append, inl, inr, arith, list_all, prefix_len, suffix_len, and_parts}
use Rattle.acl_text.proofs.Vocabulary.{and_from, not-true, cases_Bool, take-append-drop, reverse-append, reverse-reverse, length-reverse, list_all-append, length-prefix_len, IsSpaced, is_white, trimmed}
use Rattle.std.proofs.Math.Seq.{drop-append_seam, take-append_seam}
use Rattle.acl_text.proofs.CleanText.{lacks}

prefix_none : (p : ℕ → Bool) (ys : List ℕ) → lacks p ys ≡ true → prefix_len p ys ≡ 0
prefix_none p [] clean = refl
prefix_none p (y ∷ ys) clean = search (and_parts, lacks, not-true, arith)

-- what passes, and then what begins with nothing that does
prefix_over : (p : ℕ → Bool) (xs ys : List ℕ) → list_all p xs ≡ true → prefix_len p ys ≡ 0 → prefix_len p (xs ++ ys) ≡ length xs
prefix_over p [] ys all none = none
prefix_over p (x ∷ xs) ys all none = search (and_parts, prefix_over p xs ys, arith)

front_passes : (p : ℕ → Bool) (xs : List ℕ) → list_all p (take (prefix_len p xs) xs) ≡ true
front_passes p [] = refl
front_passes p (x ∷ xs) =
    let front : Bool → Bool = λ t. list_all p (take (cond t (1 + prefix_len p xs) 0) (x ∷ xs)) in
    let one : 1 + prefix_len p xs ≡ suc (prefix_len p xs) = omega arith in
    elim (cases_Bool (p x)) [
      | inl passes ↦ ap front passes ∙ ap (λ n. list_all p (take n (x ∷ xs))) one ∙ and_from (p x) _ passes (front_passes p xs)
      | inr fails ↦ ap front fails
    ]

and_swap : (a b : Bool) → (a && (b && true)) ≡ (b && a)
and_swap a b = search arith

list_all_reverse : (p : ℕ → Bool) (xs : List ℕ) → list_all p (reverse xs) ≡ list_all p xs
list_all_reverse p [] = refl
list_all_reverse p (x ∷ xs) = search (reverse-append (x ∷ []) xs, list_all-append p (reverse xs) (x ∷ []), and_swap (list_all p xs) (p x), list_all_reverse p xs, arith)

abbrev trimmed_end : List ℕ → List ℕ
trimmed_end begun = take (length begun - suffix_len is_white begun) begun

pub trimmed_spaced : (inner before after : List ℕ) → list_all is_white before ≡ true → lacks is_white inner ≡ true → list_all is_white after ≡ true → trimmed (before ++ (inner ++ after)) ≡ inner
trimmed_spaced [] before after white_before clean white_after =
    let text = before ++ after in
    let all : list_all is_white text ≡ true = list_all-append is_white before after ∙ and_from _ _ white_before white_after in
    let count : prefix_len is_white text ≡ length text = ap (prefix_len is_white) (sym (append-nil text)) ∙ prefix_over is_white text [] all refl in
    let none : drop (prefix_len is_white text) text ≡ [] = ap (λ k. drop k text) count ∙ ap (drop (length text)) (sym (append-nil text)) ∙ drop-append_seam text [] in
    ap trimmed_end none
trimmed_spaced (c ∷ rest) before after white_before clean white_after =
    let inner : List ℕ = c ∷ rest in
    let text = before ++ (inner ++ after) in
    let parts = and_parts (not (is_white c)) (lacks is_white rest) clean in
    let no_front : prefix_len is_white (inner ++ after) ≡ 0 = ap (λ t. cond t (1 + prefix_len is_white (rest ++ after)) 0) (not-true (is_white c) parts.0) in
    let begun : drop (prefix_len is_white text) text ≡ inner ++ after =
    ap (λ k. drop k text) (prefix_over is_white before (inner ++ after) white_before no_front) ∙ drop-append_seam before (inner ++ after) in
    let no_back : prefix_len is_white (reverse inner) ≡ 0 = prefix_none is_white (reverse inner) (list_all_reverse (λ b. not (is_white b)) inner ∙ clean) in
    let back : suffix_len is_white (inner ++ after) ≡ length after =
    ap (prefix_len is_white) (reverse-append inner after) ∙ prefix_over is_white (reverse after) (reverse inner) (list_all_reverse is_white after ∙ white_after) no_back ∙ length-reverse after in
    let both : length (inner ++ after) ≡ length inner + length after = length-append inner after in
    let kept : length (inner ++ after) - suffix_len is_white (inner ++ after) ≡ length inner = omega (arith, back, both) in
    ap trimmed_end begun ∙ ap (λ k. take k (inner ++ after)) kept ∙ take-append_seam inner after

-- a text is what trimming leaves, with white space round it
pub spaced_by_trimming : (text : List ℕ) → IsSpaced (trimmed text) text
spaced_by_trimming text =
    let n = prefix_len is_white text in
    let begun = drop n text in
    let turned = reverse begun in
    let k = prefix_len is_white turned in
    let kept = reverse (drop k turned) in
    let after = reverse (take k turned) in
    let split : begun ≡ kept ++ after = sym (reverse-reverse begun) ∙ ap reverse (sym (take-append-drop k turned)) ∙ reverse-append (take k turned) (drop k turned) in
    let few : length after ≡ k = length-reverse (take k turned) ∙ length-prefix_len is_white turned in
    let sum : length begun ≡ length kept + length after = ap length split ∙ length-append kept after in
    let count : length begun - k ≡ length kept = omega (arith, few, sum) in
    let left : trimmed text ≡ kept = ap (λ m. take m begun) count ∙ ap (take (length kept)) split ∙ take-append_seam kept after in
    record {
      before = take n text;
      after = after;
      is = sym (take-append-drop n text) ∙ ap (λ rest. take n text ++ rest) (split ∙ ap (λ inner. inner ++ after) (sym left));
      white_before = front_passes is_white text;
      white_after = list_all_reverse is_white (take k turned) ∙ front_passes is_white turned;
    }
