-- The qualifier of an entry: empty, or the number or the name of a user or a group.
use Rattle.std.specs.Prelude.{ℕ, ◌==◌, nat_le, Bool, ◌&&◌, ◌||◌, not, if◌then◌else◌, List, Option, None, Some}
use Rattle.std.specs.Str.Parse.{digits_value}
use Rattle.acl_text.specs.Layout.{colon, comma, comment_mark}

abbrev pub backslash : ℕ
backslash = 92

-- a printing byte that is no space, and has no meaning of its own in a list's text or in the names that
-- other programs escape: none of : , # and \
abbrev pub is_name_byte : ℕ → Bool
is_name_byte byte = nat_le 33 byte && nat_le byte 126 && not ((byte == colon) || (byte == comma) || (byte == comment_mark) || (byte == backslash))

-- the greatest number of a user or a group
abbrev pub max_id : ℕ
max_id = 4294967295

-- the number that decimal digits write, if a user or a group can have it
abbrev pub id_of : List ℕ → Option ℕ
id_of digits = if nat_le (digits_value 10 digits) max_id then Some (digits_value 10 digits) else None
