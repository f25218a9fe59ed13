-- Names, word by word.
use Rattle.std.proofs.Common.{◌≡◌, ℕ, ◌+◌, ◌<◌, Bool, true, false, List, Option, Some, None, Ok, Err, length, get_or, drop, map, ◌∙◌, ap}
use denote.Ref.{Bor}
use Rattle.std.proofs.lemmas.List.{drop_more}
use Rattle.acl_text.specs.Tables.{Tables}
use Rattle.suite_cli.specs.Names.{after_name, name_in, names_from}
use Rattle.suite_cli.specs.Runs.{GivesName}

abbrev shown : List (Bor (List ℕ)) → List (List ℕ)
shown words = map (λ word. word.now) words

-- the next word, and those after it
one_more : (place : ℕ) (names : Tables) (words : List (Bor (List ℕ))) (i : ℕ) (d : Bor (List ℕ)) → i < length words
    → names_from place names (shown (drop i words)) ≡ after_name place (name_in names (get_or words i d).now) (λ known. names_from (place + 1) known (shown (drop (i + 1) words)))
one_more place names words i d inside = ap (λ ws. names_from place names (shown ws)) (drop_more words i d inside)

bad_name : (good : Bool) (after : Tables) (given : Option Tables) → GivesName (Ok good) after given → good ≡ false → given ≡ None
bad_name true after given gives bad = cc
bad_name false after given gives bad = gives

good_name : (good : Bool) (after : Tables) (given : Option Tables) → GivesName (Ok good) after given → good ≡ true → given ≡ Some after
good_name true after given gives is = gives
good_name false after given gives is = cc

pub stops_at : (place : ℕ) (names after : Tables) (words : List (Bor (List ℕ))) (i : ℕ) (d : Bor (List ℕ)) (good : Bool) → i < length words → GivesName (Ok good) after (name_in names (get_or words i d).now) → good ≡ false
    → names_from place names (shown (drop i words)) ≡ Err place
stops_at place names after words i d good inside gives bad =
    one_more place names words i d inside
    ∙ ap (λ given. after_name place given (λ known. names_from (place + 1) known (shown (drop (i + 1) words)))) (bad_name good after (name_in names (get_or words i d).now) gives bad)

pub goes_on : (place : ℕ) (names after : Tables) (words : List (Bor (List ℕ))) (i : ℕ) (d : Bor (List ℕ)) (good : Bool) → i < length words → GivesName (Ok good) after (name_in names (get_or words i d).now) → good ≡ true
    → names_from place names (shown (drop i words)) ≡ names_from (place + 1) after (shown (drop (i + 1) words))
goes_on place names after words i d good inside gives is =
    one_more place names words i d inside
    ∙ ap (λ given. after_name place given (λ known. names_from (place + 1) known (shown (drop (i + 1) words)))) (good_name good after (name_in names (get_or words i d).now) gives is)
