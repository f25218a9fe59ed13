-- How a list's text is laid out, after acl(5), "LONG TEXT FORM" and "SHORT TEXT FORM". One text may mix
-- the two: a line feed and a comma each end an item, and a comment runs to the end of its line.
use Rattle.std.specs.Prelude.{ℕ, ◌==◌, ◌-◌, Bool, ◌||◌, List, length, take, drop, map}
use Rattle.std.specs.List.{slice_split, before_first, flat_map, prefix_len, suffix_len}

-- the bytes that cut a text
abbrev pub line_feed : ℕ
line_feed = 10

abbrev pub comma : ℕ
comma = 44

abbrev pub colon : ℕ
colon = 58

abbrev pub comment_mark : ℕ
comment_mark = 35

-- white space: space, tab and carriage return
abbrev pub is_white : ℕ → Bool
is_white byte = (byte == 32) || (byte == 9) || (byte == 13)

-- the parts between the separators, empty ones too
abbrev pub parts : ℕ → List ℕ → List (List ℕ)
parts separator bytes = slice_split (λ byte. byte == separator) bytes

-- a line without its comment
abbrev pub uncommented : List ℕ → List ℕ
uncommented line = before_first (λ byte. byte == comment_mark) line

-- the items of a line, and of a text
abbrev pub items_of_line : List ℕ → List (List ℕ)
items_of_line line = parts comma (uncommented line)

abbrev pub items_of : List ℕ → List (List ℕ)
items_of text = flat_map items_of_line (parts line_feed text)

-- without the white space at both ends
abbrev pub trimmed : List ℕ → List ℕ
trimmed bytes =
    let begun = drop (prefix_len is_white bytes) bytes in
    take (length begun - suffix_len is_white begun) begun

-- the fields of an item
abbrev pub fields_of : List ℕ → List (List ℕ)
fields_of item = map trimmed (parts colon item)
