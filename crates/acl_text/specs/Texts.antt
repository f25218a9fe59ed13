-- Whole texts: the entries that a text spells, and the fault of one that spells no lists.
use Rattle.std.specs.Prelude.{◌≡◌, ◌≢◌, ℕ, ◌+◌, List, [], ◌∷◌, map, IsPermutation, Option, None, Some, option_map, Result, Ok, Err}
use Rattle.std.specs.List.{filter_map}
use Rattle.std.specs.Option.{option_or}
use Rattle.acl_core.specs.declared.entry.Entry.{Entry}
use Rattle.acl_core.specs.declared.lists.Lists.{Lists}
use Rattle.acl_core.specs.AccessLists.{first_fault}
use Rattle.acl_text.specs.declared.item.ItemFault.{ItemFault}
use Rattle.acl_text.specs.declared.item.SidedEntry.{SidedEntry}
use Rattle.acl_text.specs.declared.item.Side.TheVariants.{Access, Default}
use Rattle.acl_text.specs.declared.read.TextFault.{TextFault}
use Rattle.acl_text.specs.declared.read.TextFault.TheVariants.{Invalid, DefaultInvalid}
use Rattle.acl_text.specs.Layout.{items_of}
use Rattle.acl_text.specs.Tables.{Tables}
use Rattle.acl_text.specs.Grammar.{reading}
use Rattle.acl_text.specs.Faults.{fault_at}
use Rattle.acl_text.specs.Sides.{default_entries, entries_of}

-- what the items of a text say, in order
abbrev pub readings : List ℕ → Tables → List (Result (Option SidedEntry) ItemFault)
readings text names = map (reading names) (items_of text)

-- a text spells these entries of an access list and of a default list: each item says nothing or an entry of one
-- of the two, and these are the entries in order
pub record Spells (text : List ℕ) (names : Tables) (access default : List Entry) : Type 0 where
  pub said : List (Option SidedEntry)
  pub each_read : readings text names ≡ map Ok said
  pub of_access : entries_of Access (filter_map (λ entry. entry) said) ≡ access
  pub of_default : entries_of Default (filter_map (λ entry. entry) said) ≡ default

-- a text spells two lists: the entries that it spells, in whatever order; without entries there is no default list
pub record SpellsLists (text : List ℕ) (names : Tables) (lists : Lists) : Type 0 where
  pub access : List Entry
  pub default : List Entry
  pub spells : Spells text names access default
  pub same_access : IsPermutation access lists.access
  pub same_default : IsPermutation default (default_entries lists.default)

-- the fault of the first item that has one, where the items are numbered from n
abbrev pub first_item_fault : ℕ → List (Result (Option SidedEntry) ItemFault) → Option TextFault
first_item_fault n [] = None
first_item_fault n (Ok said ∷ more) = first_item_fault (n + 1) more
first_item_fault n (Err fault ∷ more) = Some (fault_at fault n)

-- the entry that an item says
abbrev pub entry_said : Result (Option SidedEntry) ItemFault → Option SidedEntry
entry_said (Ok said) = said
entry_said (Err fault) = None

-- the entries that a text says, up to what is no entry
abbrev pub said_in : List ℕ → Tables → List SidedEntry
said_in text names = filter_map entry_said (readings text names)

-- the entries that items say before the first faulty one
abbrev pub said_before : List (Result (Option SidedEntry) ItemFault) → List SidedEntry
said_before [] = []
said_before (Ok None ∷ more) = said_before more
said_before (Ok (Some said) ∷ more) = said ∷ said_before more
said_before (Err fault ∷ more) = []

-- a text of which it may be said that memory ran out: none of its items is faulty, and some say an entry
pub record HasEntriesToKeep (text : List ℕ) (names : Tables) : Type 0 where
  pub faultless : first_item_fault 1 (readings text names) ≡ None
  pub entries : said_before (readings text names) ≢ []

-- the fault of the entries of a default list: without entries there is no list, and no fault
abbrev pub default_fault : List Entry → Option TextFault
default_fault [] = None
default_fault (entry ∷ entries) = option_map DefaultInvalid (first_fault (entry ∷ entries))

-- the fault of the two lists: the first of the access list, or else the first of the default list
abbrev pub lists_fault : List SidedEntry → Option TextFault
lists_fault said = option_or (option_map Invalid (first_fault (entries_of Access said))) (default_fault (entries_of Default said))

-- the fault of a text: that of the first faulty item, numbered from 1, and where each item is read, that of the
-- lists
abbrev pub fault : List ℕ → Tables → Option TextFault
fault text names = option_or (first_item_fault 1 (readings text names)) (lists_fault (said_in text names))
