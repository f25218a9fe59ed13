-- Cutting off the first line and the first word.
use Rattle.script_text.proofs.Vocabulary.{◌≡◌, ℕ, zero, suc, ◌+◌, ◌-◌, ◌<◌, ◌≤◌, ◌++◌, Bool, true, cond, eqb, ltb, not, List, [], ◌∷◌, Some, None, length, take, drop, filter, get_or, Option, refl, ◌∙◌, ap, sym, arith, length-append, slice_split}
use Rattle.script_text.proofs.Vocabulary.{position, position_or_len, drop_all, drop_more, take_all, take-append-drop, length-drop, length-take-le, slice_split-cons_yes, slice_split_first, slice_split_none, length-slice_split, cases_Bool, both_ways}
use Rattle.script_text.proofs.Vocabulary.{false_from_ne_true, le-ltb, lt-ltb, eq-eqb, ne_eqb, words, is_blank, BeginsWithWord}
use Rattle.std.specs.Str.Lines.{lines, lines_of_parts, strip_carriage_return}
use Rattle.std.proofs.lemmas.List.Folds.{prefix_len-append}
use Rattle.std.proofs.lemmas.List.Sums.{fails_before_first, passes_at_first, position_or_len_is, prefix_len-le-length}
use Rattle.std.proofs.Math.Numerals.{one-add}
use Rattle.memchr.specs.Find.{IsFirstByte}

-- a place that is found is the first, and in the list
pub found_at : {X : Type 0} (p : X → Bool) (xs : List X) (i : ℕ) → Some i ≡ position p xs → (position_or_len p xs ≡ i) × (i < length xs)
found_at p xs i h = search arith

-- where none is found no element passes
pub none_at : {X : Type 0} (p : X → Bool) (xs : List X) → None ≡ position p xs → length xs ≤ position_or_len p xs
none_at p xs h = search arith

-- where no element passes there is one part
pub one_part : {X : Type 0} (p : X → Bool) (xs : List X) → None ≡ position p xs → slice_split p xs ≡ xs ∷ []
one_part p xs h = let far = none_at p xs h in slice_split_none p xs (λ k d inside. fails_before_first p xs k d (omega (arith, far)))

-- a list of parts that is not empty, after a first part
more_parts : (line : List ℕ) (parts : List (List ℕ)) → 0 < length parts → lines_of_parts (line ∷ parts) ≡ strip_carriage_return line ∷ lines_of_parts parts
more_parts line [] some = absurd (omega arith)
more_parts line (part ∷ parts) some = refl

-- the line before a line feed, and the lines after it
pub lines-cut : (text : List ℕ) (end : ℕ) → Some end ≡ position (λ b. eqb b 10) text → lines text ≡ strip_carriage_return (take end text) ∷ lines (drop (end + 1) text)
lines-cut text end found = search (found_at, length-slice_split, slice_split_first, more_parts, arith)

one_line : (text : List ℕ) → 0 < length text → lines_of_parts (text ∷ []) ≡ text ∷ []
one_line [] some = absurd (omega arith)
one_line (b ∷ bs) some = ap (λ test. cond test [] ((b ∷ bs) ∷ [])) (ne_eqb (suc (length bs)) 0 (λ h. omega (arith, h)))

-- a text without a line feed is one line
pub lines-last : (text : List ℕ) → 0 < length text → None ≡ position (λ b. eqb b 10) text → lines text ≡ text ∷ []
lines-last text some none = ap lines_of_parts (one_part (λ b. eqb b 10) text none) ∙ one_line text some

-- a blank at the start is no word
words-blank : (b : ℕ) (line : List ℕ) → is_blank b ≡ true → words (b ∷ line) ≡ words line
words-blank b line blank = ap (filter (λ word. ltb 0 (length word))) (slice_split-cons_yes is_blank b line blank)

-- nor are several
skip_at : (b : ℕ) (line : List ℕ) (n : ℕ) → words (drop n line) ≡ words line → is_blank b ≡ true → words (drop (1 + n) (b ∷ line)) ≡ words (b ∷ line)
skip_at b line n rest blank = ap (λ m. words (drop m (b ∷ line))) (one-add n) ∙ rest ∙ sym (words-blank b line blank)

words-skip : (line : List ℕ) → words (drop (position_or_len (λ b. not (is_blank b)) line) line) ≡ words line
words-skip [] = refl
words-skip (b ∷ line) = search (cases_Bool, skip_at, words-skip line, arith)

pub words-from : (line : List ℕ) (start : ℕ) → Some start ≡ position (λ b. not (is_blank b)) line → words (drop start line) ≡ words line
words-from line start found = rw (← (found_at (λ (b : ℕ). not (is_blank b)) line start found).0) (words-skip line)

-- a line of blanks has no word
pub words-none : (line : List ℕ) → None ≡ position (λ b. not (is_blank b)) line → words line ≡ []
words-none line none =
    let far = none_at (λ (b : ℕ). not (is_blank b)) line none in
    sym (words-skip line) ∙ ap words (drop_all (position_or_len (λ (b : ℕ). not (is_blank b)) line) line far)

-- what is found is no blank
begins_at : (line : List ℕ) → (k : ℕ) → k < length line → not (is_blank (get_or line k 0)) ≡ true → BeginsWithWord (drop k line)
begins_at [] k inside passes = absurd (omega arith)
begins_at (b ∷ line) zero inside passes = search (cases_Bool, both_ways, arith)
begins_at (b ∷ line) (suc k) inside passes = begins_at line k (omega arith) passes

pub begins-from : (line : List ℕ) (start : ℕ) → Some start ≡ position (λ b. not (is_blank b)) line → BeginsWithWord (drop start line)
begins-from line start found = search (found_at, passes_at_first, begins_at, arith)

-- a word that begins the line is kept
kept : (word : List ℕ) (parts : List (List ℕ)) → 0 < length word → filter (λ w. ltb 0 (length w)) (word ∷ parts) ≡ word ∷ filter (λ w. ltb 0 (length w)) parts
kept word parts some = rw (lt-ltb 0 (length word) some) refl

-- a blank after the first byte: the word before it is not empty
word_some : (line : List ℕ) (end : ℕ) → BeginsWithWord line → end < length line → is_blank (get_or line end 0) ≡ true → 0 < end
word_some line end h2 h3 h4 = search arith

-- the first word up to a blank, and the words after it
pub words-cut : (line : List ℕ) (end : ℕ) → BeginsWithWord line → Some end ≡ position is_blank line → words line ≡ take end line ∷ words (drop end line)
words-cut line end begins found =
    let place = found_at is_blank line end found in
    let first : position_or_len is_blank line < length line = omega arith in
    let passes : is_blank (get_or line (position_or_len is_blank line) 0) ≡ true = passes_at_first is_blank line 0 first in
    let blank : is_blank (get_or line end 0) ≡ true = rw place.0 at passes in
    let some : 0 < length (take end line) = let inside = place.1 in let low : end ≤ length line = omega (arith, inside) in rw length-take-le (word_some line end begins inside blank) in
    let cut : slice_split is_blank line ≡ take end line ∷ slice_split is_blank (drop (end + 1) line) =
    slice_split_first is_blank line 0 first ∙ ap (λ n. take n line ∷ slice_split is_blank (drop (n + 1) line)) place.0 in
    let after : words (drop end line) ≡ words (drop (end + 1) line) =
    ap words (drop_more line end 0 place.1) ∙ words-blank (get_or line end 0) (drop (end + 1) line) blank in
    ap (filter (λ w. ltb 0 (length w))) cut ∙ kept (take end line) (slice_split is_blank (drop (end + 1) line)) some ∙ ap (λ ws. take end line ∷ ws) (sym after)

-- a line without a blank is one word
pub words-last : (line : List ℕ) → 0 < length line → None ≡ position is_blank line → words line ≡ line ∷ []
words-last line some none = ap (filter (λ w. ltb 0 (length w))) (one_part is_blank line none) ∙ kept line [] some

-- all that stands after n elements
pub rest_of : (text : List ℕ) (n : ℕ) → take (length text - n) (drop n text) ≡ drop n text
rest_of text n = take_all (length text - n) (drop n text) (omega (arith, length-drop n text))

-- the part before a separator, and the parts after it
pub parts-cut : (separator : ℕ) (word : List ℕ) (end : ℕ) → Some end ≡ position (λ b. eqb b separator) word → slice_split (λ b. eqb b separator) word ≡ take end word ∷ slice_split (λ b. eqb b separator) (drop (end + 1) word)
parts-cut separator word end found = search (found_at, slice_split_first, arith)

-- what a search for bytes that pass a test finds is the first of them
pub first_at : (p : ℕ → Bool) (text : List ℕ) (found : Option ℕ) → IsFirstByte p text found → found ≡ position p text
first_at p text (Some place) found = search (position_or_len_is, false_from_ne_true, lt-ltb, arith)
first_at p text None none =
    let same : position_or_len p text ≡ length text =
    position_or_len_is p text (length text) 0 (omega arith) (λ k before. false_from_ne_true (p (get_or text k 0)) (none k (omega arith) before)) (λ less. absurd (omega arith)) in
    sym (ap (λ n. cond (ltb n (length text)) (Some n) None) same ∙ ap (λ b. cond b (Some (length text)) None) (le-ltb (length text) (length text) (omega arith)))

-- a place that is found before the rest is found in all
near_in_all : (p : ℕ → Bool) (near rest : List ℕ) (i : ℕ) → Some i ≡ position p near → Some i ≡ position p (near ++ rest)
near_in_all p near rest i found = search (found_at, prefix_len-append, ne_eqb, length-append, lt-ltb, arith)

-- where none is found before the rest, all is searched as the rest is
far_place : (p : ℕ → Bool) (near rest : List ℕ) → None ≡ position p near → position_or_len p (near ++ rest) ≡ length near + position_or_len p rest
far_place p near rest none = search (none_at, prefix_len-le-length, prefix_len-append, eq-eqb, arith)

far_in_all : (p : ℕ → Bool) (near rest : List ℕ) (i : ℕ) → None ≡ position p near → Some i ≡ position p rest → Some (length near + i) ≡ position p (near ++ rest)
far_in_all p near rest i none found = search (found_at, far_place, length-append, lt-ltb, arith)

nowhere_in_all : (p : ℕ → Bool) (near rest : List ℕ) → None ≡ position p near → None ≡ position p rest → None ≡ position p (near ++ rest)
nowhere_in_all p near rest none also = search (none_at, far_place, le-ltb, length-append, arith)

-- the same of a text that is searched in two steps, of which the first looks through so many bytes
pub position-near : (p : ℕ → Bool) (n i : ℕ) (text : List ℕ) → Some i ≡ position p (take n text) → Some i ≡ position p text
position-near p n i text found = near_in_all p (take n text) (drop n text) i found ∙ ap (position p) (take-append-drop n text)

pub position-far : (p : ℕ → Bool) (n i : ℕ) (text : List ℕ) → None ≡ position p (take n text) → Some i ≡ position p (take (length text - n) (drop n text)) → Some (n + i) ≡ position p text
position-far p n i text none found = search (rest_of, found_at, length-drop, length-take-le, far_in_all, take-append-drop, arith)

pub position-nowhere : (p : ℕ → Bool) (n : ℕ) (text : List ℕ) → None ≡ position p (take n text) → None ≡ position p (take (length text - n) (drop n text)) → None ≡ position p text
position-nowhere p n text none also =
    nowhere_in_all p (take n text) (drop n text) none (also ∙ ap (position p) (rest_of text n)) ∙ ap (position p) (take-append-drop n text)
