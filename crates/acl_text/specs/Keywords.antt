-- The words that begin an item, after acl(5), "LONG TEXT FORM" and "SHORT TEXT FORM": a whole word, or
-- its first letter.
use Rattle.std.specs.Prelude.{ℕ, Bool, ◌||◌, List, [], ◌∷◌, codes, Option}
use Rattle.std.specs.List.{find}
use Rattle.std.specs.Str.{bytes_eq}
use Rattle.acl_text.specs.declared.keyword.Keyword.{Keyword}
use Rattle.acl_text.specs.declared.keyword.Keyword.TheVariants.{User, Group, Mask, Other}

-- the word of a keyword, and its letter
abbrev pub word_of : Keyword → List ℕ
word_of User = codes "user"
word_of Group = codes "group"
word_of Mask = codes "mask"
word_of Other = codes "other"

abbrev pub letter_of : Keyword → List ℕ
letter_of User = codes "u"
letter_of Group = codes "g"
letter_of Mask = codes "m"
letter_of Other = codes "o"

-- the keyword that a field is, among some
abbrev pub keyword_among : List Keyword → List ℕ → Option Keyword
keyword_among keywords field = find (λ k. bytes_eq field (word_of k) || bytes_eq field (letter_of k)) keywords

abbrev pub keyword_of : List ℕ → Option Keyword
keyword_of field = keyword_among (User ∷ Group ∷ Mask ∷ Other ∷ []) field

-- the same, of the kinds of which a list has one entry at most
abbrev pub single_keyword_of : List ℕ → Option Keyword
single_keyword_of field = keyword_among (Mask ∷ Other ∷ []) field

-- whether a field says that its item is of a default list
abbrev pub is_default : List ℕ → Bool
is_default field = bytes_eq field (codes "default") || bytes_eq field (codes "d")
