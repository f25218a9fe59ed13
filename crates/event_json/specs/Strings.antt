-- Texts, numbers and lists as JSON has them.
use Rattle.std.specs.Prelude.{ℕ, ◌==◌, nat_le, Bool, ◌&&◌, ◌||◌, if◌then◌else◌, List, [], ◌∷◌, ◌++◌, codes, decimal}
use Rattle.std.specs.List.{flat_map}
use Rattle.hex.specs.Hex.{encode_lower}

abbrev pub quote : ℕ
quote = 34

abbrev pub backslash : ℕ
backslash = 92

-- a byte of a text in a string
abbrev pub byte_text : ℕ → List ℕ
byte_text byte =
    if (byte == quote) || (byte == backslash) then backslash ∷ byte ∷ []
    else if nat_le 32 byte && nat_le byte 126 then byte ∷ []
    else backslash ∷ codes "u00" ++ encode_lower (byte ∷ [])

-- a text as a string
abbrev pub string_text : List ℕ → List ℕ
string_text bytes = quote ∷ flat_map byte_text bytes ++ quote ∷ []

-- what stands before a number, and the number
abbrev pub member : List ℕ → ℕ → List ℕ
member before number = before ++ decimal number

abbrev pub truth : Bool → List ℕ
truth is_so = if is_so then codes "true" else codes "false"

-- things, with a comma between each two
abbrev pub listed : {A : Type 0} → (A → List ℕ) → List A → List ℕ
listed text [] = []
listed text (first ∷ more) = text first ++ flat_map (λ next. codes "," ++ text next) more
