-- Texts in which some bytes do not stand: where they are cut, and what trimming leaves.
use Rattle.acl_text.proofs.Vocabulary.{◌≡◌, ℕ, ◌+◌, ◌-◌, Bool, true, false, cond, not, List, [], ◌∷◌, ◌++◌, length, take, drop, get_or, refl, sym, ap, ◌∙◌, arith, list_all, slice_split, before_first, prefix_len, suffix_len, position_or_len}
use Rattle.acl_text.proofs.Vocabulary.{and_parts, and_from, not-true, slice_split-cons_no, slice_split-cons_yes, suffix_len-take_no, AllPass-from_list_all, is_white, trimmed, take_all}

-- whether no byte passes a test
abbrev pub lacks : (ℕ → Bool) → List ℕ → Bool
lacks p bytes = list_all (λ b. not (p b)) bytes

pub split_lacking : (p : ℕ → Bool) (bytes : List ℕ) → lacks p bytes ≡ true → slice_split p bytes ≡ bytes ∷ []
split_lacking p [] clean = refl
split_lacking p (b ∷ bytes) clean = search (and_parts, slice_split-cons_no, not-true, split_lacking p bytes, arith)

pub split_at_byte : (p : ℕ → Bool) (bytes : List ℕ) (y : ℕ) (rest : List ℕ) → lacks p bytes ≡ true → p y ≡ true → slice_split p (bytes ++ y ∷ rest) ≡ bytes ∷ slice_split p rest
split_at_byte p [] y rest clean separates = slice_split-cons_yes p y rest separates
split_at_byte p (b ∷ bytes) y rest clean separates = search (and_parts, slice_split-cons_no, not-true, split_at_byte p bytes y rest, arith)

before_first-cons_no : (p : ℕ → Bool) (b : ℕ) (bytes : List ℕ) → p b ≡ false → before_first p (b ∷ bytes) ≡ b ∷ before_first p bytes
before_first-cons_no p b bytes other = search arith

pub before_lacking : (p : ℕ → Bool) (bytes : List ℕ) → lacks p bytes ≡ true → before_first p bytes ≡ bytes
before_lacking p [] clean = refl
before_lacking p (b ∷ bytes) clean = search (and_parts, before_first-cons_no, not-true, before_lacking p bytes, arith)

pub before_at_byte : (p : ℕ → Bool) (bytes : List ℕ) (y : ℕ) (rest : List ℕ) → lacks p bytes ≡ true → p y ≡ true → before_first p (bytes ++ y ∷ rest) ≡ bytes
before_at_byte p [] y rest clean separates = ap (λ t. take (cond (not t) (1 + position_or_len p rest) 0) (y ∷ rest)) separates
before_at_byte p (b ∷ bytes) y rest clean separates = search (and_parts, before_first-cons_no, not-true, before_at_byte p bytes y rest, arith)

-- nothing is trimmed where there is no white space
pub trimmed_clean : (bytes : List ℕ) → lacks is_white bytes ≡ true → trimmed bytes ≡ bytes
trimmed_clean [] clean = refl
trimmed_clean (b ∷ bytes) clean =
    let text : List ℕ = b ∷ bytes in
    let parts = and_parts (not (is_white b)) (lacks is_white bytes) clean in
    let no_front : prefix_len is_white text ≡ 0 = ap (λ t. cond t (1 + prefix_len is_white bytes) 0) (not-true (is_white b) parts.0) in
    let whole : take (length text) text ≡ text = take_all (length text) text (omega arith) in
    let last : not (is_white (get_or text (length text - 1) 0)) ≡ true = AllPass-from_list_all (λ (c : ℕ). not (is_white c)) text clean (length text - 1) 0 (omega arith) in
    let no_back : suffix_len is_white text ≡ 0 =
    ap (suffix_len is_white) (sym whole) ∙ suffix_len-take_no is_white text (length text) 0 (omega arith) (omega arith) (not-true _ last) in
    let begun : List ℕ → List ℕ = λ from. take (length from - suffix_len is_white from) from in
    ap (λ n. begun (drop n text)) no_front ∙ ap (λ n. take (length text - n) text) no_back ∙ take_all (length text - 0) text (omega arith)

-- a test that is wider
pub list_all_wider : (p q : ℕ → Bool) → ((b : ℕ) → p b ≡ true → q b ≡ true) → (bytes : List ℕ) → list_all p bytes ≡ true → list_all q bytes ≡ true
list_all_wider p q wider [] all = refl
list_all_wider p q wider (b ∷ bytes) all = search (and_parts, and_from, list_all_wider p q wider bytes, arith)
