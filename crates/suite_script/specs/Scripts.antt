-- Scripts of any command: lines that say something; a header, each line of it in its place; then names of users and
-- groups; then the lines that are the command's own. An empty line and one that begins with # say nothing.
use Rattle.std.specs.Prelude.{ℕ, ◌+◌, ◌==◌, Bool, true, false, ◌||◌, if◌then◌else◌, List, [], ◌∷◌, ◌++◌, codes, length, Option, Some, None, Result, Ok, Err}
use Rattle.std.specs.Str.{bytes_eq}
use Rattle.std.specs.Str.Lines.{lines}
use Rattle.acl_text.specs.Tables.{Tables, name_fault}
use Rattle.acl_text.specs.declared.names.NameError.{NameError}
use Rattle.acl_text.specs.declared.names.NameError.TheVariants as name
use Rattle.file_ops.specs.Lists.{lists_of}
use Rattle.file_ops.specs.Steps.{◌>>=◌, ◌>>◌}
use Rattle.suite_content.specs.declared.content.Kind.TheVariants.{Folder}
use Rattle.script_text.specs.Words.{words}
use Rattle.suite_script.specs.declared.fault.LineFault.{LineFault}
use Rattle.suite_script.specs.declared.fault.ScriptFault.{ScriptFault}
use Rattle.suite_script.specs.declared.line.Line.{Line}
use Rattle.suite_script.specs.declared.root.Root.{Root}
use Rattle.suite_script.specs.declared.fault.LineFault.TheVariants.{Form, Order, BadName, NameTwice}
use Rattle.suite_script.specs.Words.{Word, word, id, at_end}
use Rattle.suite_script.specs.Lists.{init}

-- ---- lines

-- a line that says nothing
abbrev pub is_skipped : List ℕ → Bool
is_skipped [] = true
is_skipped (byte ∷ line) = byte == 35

-- the lines that say something, from a line on, which has this number, each by its number and its words
abbrev pub lines_from : ℕ → List (List ℕ) → List Line
lines_from number [] = []
lines_from number (line ∷ more) =
    if is_skipped line then lines_from (number + 1) more
    else record { number = number; words = words line } ∷ lines_from (number + 1) more

-- what is left of a script: its lines that say something, the number of the line after its last one, the names that are
-- known, and whether a line of the command's own came already
pub record Pending : Type 0 where
  pub lines : List Line
  pub end : ℕ
  pub names : Tables
  pub begun : Bool

abbrev pub no_names : Tables
no_names = record { users = []; groups = [] }

-- a script as text, of which nothing is read yet
abbrev pub whole : List ℕ → Pending
whole text = record { lines = lines_from 1 (lines text); end = length (lines text) + 1; names = no_names; begun = false }

-- ---- names

-- a name that is not taken into a table, for what reason
abbrev pub refused : Option NameError → Result (Unit {0}) LineFault
refused None = Ok tt
refused (Some name.BadName) = Err BadName
refused (Some name.NameTwice) = Err NameTwice
refused (Some name.Memory) = Err Form

-- a name with its number, for a table
abbrev pub named_in : List (List ℕ × ℕ) → List Word → Result (List (List ℕ × ℕ)) LineFault
named_in table words = do
  name ← word words
  refused (name_fault table name.value)
  number ← id name.rest
  at_end number.rest
  Ok (table ++ (name.value, number.value) ∷ [])

abbrev pub is_user : Word → Bool
is_user text = bytes_eq text (codes "user")

abbrev pub is_group : Word → Bool
is_group text = bytes_eq text (codes "group")

-- ---- a line out of its place

-- what is wrong with a line that begins so, where the command has other lines with these first words
abbrev pub misplaced : (Word → Bool) → Word → LineFault
misplaced is_known text = if is_user text || is_group text || is_known text then Order else Form

-- ---- headers

-- what was read, and what is left
pub record Headed (A : Type 0) : Type 0 where
  pub value : A
  pub rest : Pending

-- what a line says, or its fault by the line's number
abbrev pub said_at : {A : Type 0} → ℕ → Result A LineFault → Result A ScriptFault
said_at number (Ok value) = Ok value
said_at number (Err fault) = Err (record { line = number; fault = fault })

-- the words after the one that a line begins with
abbrev pub words_after : (Word → Bool) → Word → List Word → Result (List Word) LineFault
words_after is_known begins [] = Err Form
words_after is_known begins (first ∷ words) = if bytes_eq first begins then Ok words else Err (misplaced is_known first)

-- the next line, where it begins with this word: its number, and the words after it
abbrev pub header_line_in : (Word → Bool) → Word → Pending → List Line → Result (Headed Line) ScriptFault
header_line_in is_known begins script [] = Err (record { line = script.end; fault = Order })
header_line_in is_known begins script (line ∷ more) = do
  words ← said_at line.number (words_after is_known begins line.words)
  Ok (record { value = record { number = line.number; words = words }; rest = record script { lines = more } })

abbrev pub header_line : (Word → Bool) → Word → Pending → Result (Headed Line) ScriptFault
header_line is_known begins script = header_line_in is_known begins script script.lines

-- the next line, as the one that begins with this word
abbrev pub headed : {A : Type 0} → (Word → Bool) → Word → (List Word → Result A LineFault) → Pending → Result (Headed A) ScriptFault
headed is_known begins reading script = do
  line ← header_line is_known begins script
  value ← said_at line.value.number (reading line.value.words)
  Ok (record { value = value; rest = line.rest })

-- whether a line begins with this word, and whether the next one does
abbrev pub line_begins : Word → List Word → Bool
line_begins begins [] = false
line_begins begins (first ∷ words) = bytes_eq first begins

abbrev pub next_begins : Word → List Line → Bool
next_begins begins [] = false
next_begins begins (line ∷ more) = line_begins begins line.words

-- the next line, where it begins with this word; a line that may be left out, and then this stands for it
abbrev pub headed_if : {A : Type 0} → (Word → Bool) → Word → (List Word → Result A LineFault) → A → Pending → Result (Headed A) ScriptFault
headed_if is_known begins reading otherwise script =
    if next_begins begins script.lines then headed is_known begins reading script else Ok (record { value = otherwise; rest = script })

-- what follows the word `root`: the root folder's owner, group and lists; a mode gives no default list
abbrev pub root_in : List Word → Result Root LineFault
root_in words = do
  owner ← id words
  group ← id owner.rest
  given ← init no_names group.rest
  at_end given.rest
  Ok (record { owner = owner.value; group = group.value; acl = lists_of Folder None given.value })

-- ---- the lines after a header

-- what a later line says: a name, with the names then known; or something of the command's own
pub data Said (A : Type 0) : Type 0 where
  Named : Tables → Said A
  Own : A → Said A

abbrev pub user_line : Tables → List Word → Result Tables LineFault
user_line names words = do
  users ← named_in names.users words
  Ok (record names { users = users })

abbrev pub group_line : Tables → List Word → Result Tables LineFault
group_line names words = do
  groups ← named_in names.groups words
  Ok (record names { groups = groups })

-- the names that are known after a line that is not the command's own, where a line of the command's own came already or not
abbrev pub name_line : (Word → Bool) → Bool → Tables → Word → List Word → Result Tables LineFault
name_line is_known begun names first words =
    if begun then Err (misplaced is_known first)
    else if is_user first then user_line names words
    else if is_group first then group_line names words
    else Err (misplaced is_known first)

abbrev pub named_line : {A : Type 0} → Result Tables LineFault → Result (Said A) LineFault
named_line (Ok names) = Ok (Named names)
named_line (Err fault) = Err fault

-- the lines that a command has of its own: the first words of all its lines, with which of them its own begin, and what these say
pub record Language (A : Type 0) : Type 0 where
  pub is_known : Word → Bool
  pub begins : Word → Bool
  pub own : Tables → Word → List Word → Result A LineFault

abbrev pub language_of : {A : Type 0} → (Word → Bool) → (Word → Bool) → (Tables → Word → List Word → Result A LineFault) → Language A
language_of is_known begins own = record { is_known = is_known; begins = begins; own = own }

abbrev pub own_line : {A : Type 0} → Result A LineFault → Result (Said A) LineFault
own_line (Ok own) = Ok (Own own)
own_line (Err fault) = Err fault

-- a line after the header
abbrev pub later_line : {A : Type 0} → Language A → Bool → Tables → List Word → Result (Said A) LineFault
later_line language begun names [] = Err Form
later_line language begun names (first ∷ words) =
    if language.begins first then own_line (language.own names first words) else named_line (name_line language.is_known begun names first words)

-- one more, before others
abbrev pub with_own : {A : Type 0} → A → Result (List A) ScriptFault → Result (List A) ScriptFault
with_own own (Ok later) = Ok (own ∷ later)
with_own own (Err fault) = Err fault

-- what a line adds to what follows it: names that are known there, or something of the command's own; or its fault
abbrev pub followed : {A : Type 0} → ℕ → Result (Said A) LineFault → (Tables → Result (List A) ScriptFault) → Result (List A) ScriptFault → Result (List A) ScriptFault
followed number (Ok (Named known)) named later = named known
followed number (Ok (Own own)) named later = with_own own later
followed number (Err fault) named later = Err (record { line = number; fault = fault })

abbrev pub owns_in : {A : Type 0} → Language A → Bool → Tables → List Line → Result (List A) ScriptFault
owns_in language begun names [] = Ok []
owns_in language begun names (line ∷ more) =
    followed line.number (later_line language begun names line.words) (λ known. owns_in language begun known more) (owns_in language true names more)

-- what the lines that are left say beside names; or the first faulty one
abbrev pub owns : {A : Type 0} → Language A → Pending → Result (List A) ScriptFault
owns language script = owns_in language script.begun script.names script.lines

-- a script: what its header says, and the lines of the command's own
pub record Script (Header Own : Type 0) : Type 0 where
  pub header : Header
  pub owns : List Own

abbrev pub scripted : {Header Own : Type 0} → Header → Result (List Own) ScriptFault → Result (Script Header Own) ScriptFault
scripted header (Ok owns) = Ok (record { header = header; owns = owns })
scripted header (Err fault) = Err fault

-- a script whose header was read, and then the lines in the command's language
abbrev pub script_of : {Header Own : Type 0} → (Header → Language Own) → Result (Headed Header) ScriptFault → Result (Script Header Own) ScriptFault
script_of language (Ok headed) = scripted headed.value (owns (language headed.value) headed.rest)
script_of language (Err fault) = Err fault
