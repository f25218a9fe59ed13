-- Phrases, word by word.
use Rattle.script_text.proofs.Vocabulary.{◌≡◌, ℕ, ◌<◌, List, [], ◌∷◌, length, refl, arith, slice_split, length-slice_split, words}
use Rattle.script_text.specs.Phrases.{is_semicolon, remaining_in, remaining_of}

whole_of : (parts : List (List (List ℕ))) → 0 < length parts → parts ≡ (remaining_in parts).here ∷ (remaining_in parts).later
whole_of [] some = absurd (omega arith)
whole_of (part ∷ parts) some = refl

-- what is left is the phrases of the words that are left
pub phrases_whole : (ws : List (List ℕ)) → slice_split is_semicolon ws ≡ (remaining_in (slice_split is_semicolon ws)).here ∷ (remaining_in (slice_split is_semicolon ws)).later
phrases_whole ws = whole_of (slice_split is_semicolon ws) (omega (arith, length-slice_split is_semicolon ws))

-- where a phrase is done and a word is left, that word is a semicolon
next_of : (w : List ℕ) (ws : List (List ℕ)) → (remaining_in (slice_split is_semicolon (w ∷ ws))).here ≡ [] → (remaining_in (slice_split is_semicolon (w ∷ ws))).later ≡ slice_split is_semicolon ws
next_of w ws done = search arith

pub next_phrase_of : (line rest w : List ℕ) → words line ≡ w ∷ words rest → (remaining_of line).here ≡ [] → (remaining_of line).later ≡ (remaining_of rest).here ∷ (remaining_of rest).later
next_phrase_of line rest w cut done = search (next_of, phrases_whole, arith)
