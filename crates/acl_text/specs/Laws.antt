-- Laws of what is read and written. The grammar and the texts that are written are defined apart from one
-- another.
use Rattle.std.specs.Prelude.{◌≡◌, ℕ, ◌≤◌, ◌↔◌, List, Some, Ok, option_map}
use Rattle.std.specs.List.{AllByRecursion}
use Rattle.std.specs.Option.{option_or}
use Rattle.acl_core.specs.declared.entry.Entry.{Entry}
use Rattle.acl_core.specs.declared.lists.Lists.{Lists}
use Rattle.acl_core.specs.AccessLists.{first_fault}
use Rattle.acl_core.specs.Tags.{qualifier}
use Rattle.acl_text.specs.declared.item.Side.{Side}
use Rattle.acl_text.specs.declared.read.TextFault.TheVariants.{Invalid}
use Rattle.acl_text.specs.Grammar.{reading}
use Rattle.acl_text.specs.Items.{SaysItem}
use Rattle.acl_text.specs.Qualifiers.{max_id}
use Rattle.acl_text.specs.Sides.{default_entries, sided_entry}
use Rattle.acl_text.specs.Tables.{Tables}
use Rattle.acl_text.specs.Texts.{Spells, default_fault, fault}
use Rattle.acl_text.specs.Writing.{canonical, short_text}

-- the numbers of a list's entries are those that users and groups can have, as those of each `Acl` are
abbrev pub NumbersFit : List Entry → Type 0
NumbersFit list = AllByRecursion (λ e. qualifier e.tag ≤ max_id) list

abbrev pub AllNumbersFit : Lists → Type 0
AllNumbersFit lists = NumbersFit lists.access × NumbersFit (default_entries lists.default)

-- the long text of two lists spells these lists, under all names
abbrev pub LongTextSpells : Type 0
LongTextSpells = (lists : Lists) (names : Tables) → AllNumbersFit lists → Spells (canonical lists) names lists.access (default_entries lists.default)

-- so does the short text
abbrev pub ShortTextSpells : Type 0
ShortTextSpells = (lists : Lists) (names : Tables) → AllNumbersFit lists → Spells (short_text lists) names lists.access (default_entries lists.default)

-- a text that spells entries has no fault but that of the entries
abbrev pub SpelledIsRead : Type 0
SpelledIsRead = (text : List ℕ) (names : Tables) (access default : List Entry) → Spells text names access default
    → fault text names ≡ option_or (option_map Invalid (first_fault access)) (default_fault default)

-- an item reads as an entry of one of the two lists exactly when it is written as that
abbrev pub ReadsAsWritten : Type 0
ReadsAsWritten = (names : Tables) (side : Side) (entry : Entry) (item : List ℕ) → (reading names item ≡ Ok (Some (sided_entry side entry))) ↔ SaysItem names side entry item
