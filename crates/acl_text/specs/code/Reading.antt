-- What the code has read of permissions, and of digits.
use Rattle.std.specs.Prelude.{◌≡◌, ℕ, true, false, List, None, Some}
use Rattle.std.specs.Char.{is_ascii_digit}
use Rattle.std.specs.List.{list_all}
use Rattle.acl_text.specs.declared.item.Letters.{Letters}
use Rattle.acl_text.specs.declared.qualifier.Digits.{Digits}
use Rattle.acl_text.specs.declared.qualifier.Digits.TheVariants.{Number, TooBig, Other}
use Rattle.acl_text.specs.Grammar.{are_permissions, hyphen, letter_r, letter_w, letter_x, stands_in, times_in}
use Rattle.acl_text.specs.Qualifiers.{id_of}

-- these letters were read of some bytes, which are permissions
pub record IsReadOf (letters : Letters) (front : List ℕ) : Type 0 where
  pub known : are_permissions front ≡ true
  pub reads : letters.reads ≡ stands_in letter_r front
  pub writes : letters.writes ≡ stands_in letter_w front
  pub executes : letters.executes ≡ stands_in letter_x front
  pub hyphens : letters.hyphens ≡ times_in hyphen front

-- digits alone with their number, or with none that a user or a group can have; or not digits alone
abbrev pub AreDigits : Digits → List ℕ → Type 0
AreDigits (Number id) bytes = (list_all is_ascii_digit bytes ≡ true) × (id_of bytes ≡ Some id)
AreDigits TooBig bytes = (list_all is_ascii_digit bytes ≡ true) × (id_of bytes ≡ None)
AreDigits Other bytes = list_all is_ascii_digit bytes ≡ false
