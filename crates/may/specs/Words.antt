-- What is wanted, and of which list: what a word says, or what is wrong.
use Rattle.std.specs.Prelude.{ℕ, ◌==◌, Bool, ◌||◌, if◌then◌else◌, List, [], Option, Some, None, Result, Ok, Err}
use Rattle.std.specs.List.{list_all, list_any}
use Rattle.acl_core.specs.Entries.{entry_of}
use Rattle.acl_core.specs.Permissions.{digit_of}
use Rattle.acl_core.specs.declared.entry.Entry.{Entry}
use Rattle.acl_core.specs.declared.entry.Tag.TheVariants.{Other}
use Rattle.acl_core.specs.declared.perms.Perms.{Perms}
use Rattle.acl_text.specs.Sides.{lists_of}
use Rattle.acl_text.specs.Tables.{Tables}
use Rattle.acl_text.specs.Texts.{fault, said_in}
use Rattle.acl_text.specs.declared.read.TextFault.{TextFault}
use Rattle.suite_script.specs.Words.{Word}
use Rattle.suite_script.specs.declared.fault.LineFault.{LineFault}
use Rattle.suite_script.specs.declared.fault.LineFault.TheVariants.{Form, List as no_list}

-- what is wanted: letters of r, w and x, with or without hyphens, as an entry grants it
abbrev pub letter_r : ℕ
letter_r = 114

abbrev pub letter_w : ℕ
letter_w = 119

abbrev pub letter_x : ℕ
letter_x = 120

abbrev pub hyphen : ℕ
hyphen = 45

abbrev pub is_letter : ℕ → Bool
is_letter byte = (byte == letter_r) || (byte == letter_w) || (byte == letter_x) || (byte == hyphen)

abbrev pub stands_in : ℕ → Word → Bool
stands_in byte text = list_any (λ b. b == byte) text

abbrev pub wanted_of : Word → Perms
wanted_of text = (entry_of Other (digit_of (stands_in letter_r text) (stands_in letter_w text) (stands_in letter_x text))).perms

abbrev pub wanted_in : Word → Result Perms LineFault
wanted_in text = if list_all is_letter text then Ok (wanted_of text) else Err Form

-- no names: users and groups are numbers
abbrev pub no_names : Tables
no_names = record { users = []; groups = [] }

-- the access list that a word spells; a default list beside it is read, and is not asked
abbrev pub list_spelled : Word → Option TextFault → Result (List Entry) LineFault
list_spelled text (Some fault) = Err (no_list fault)
list_spelled text None = Ok (lists_of (said_in text no_names)).access

abbrev pub list_in : Word → Result (List Entry) LineFault
list_in text = list_spelled text (fault text no_names)
