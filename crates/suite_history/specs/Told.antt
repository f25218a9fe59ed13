-- What a client was told of its call, as words.
use Rattle.std.specs.Prelude.{ℕ, ◌==◌, Bool, if◌then◌else◌, List, [], ◌∷◌, codes, Option, Some, None, Result, Ok, Err}
use Rattle.std.specs.List.{find, slice_split}
use Rattle.std.specs.Str.{bytes_eq}
use Rattle.script_text.specs.Words.{words}
use Rattle.suite_content.specs.Folders.{with_name, names_in}
use Rattle.file_ops.specs.Paths.{is_name}
use Rattle.file_ops.specs.Steps.{◌>>=◌, ◌>>◌, found_or}
use Rattle.file_ops.specs.declared.answer.Answer.{Answer}
use Rattle.file_ops.specs.declared.answer.Answer.TheVariants as answer
use Rattle.file_ops.specs.declared.refusal.Why.{Why}
use Rattle.file_ops.specs.declared.refusal.Why.TheVariants as why
use Rattle.history_judge.specs.declared.history.Seen.{Seen}
use Rattle.history_judge.specs.declared.history.Seen.TheVariants.{Answered, SomeAnswers, Refused, Denied}
use Rattle.suite_script.specs.declared.fault.LineFault.{LineFault}
use Rattle.suite_script.specs.declared.fault.LineFault.TheVariants.{Form}
use Rattle.suite_script.specs.Lists.{acl}
use Rattle.suite_script.specs.Operations.{bytes, votes}
use Rattle.suite_script.specs.Scripts.{no_names}
use Rattle.suite_script.specs.Words.{Word, word, number, at_end}

-- ---- replies

-- a reply that has no more words
abbrev pub alone : Answer → List Word → Result Answer LineFault
alone reply words = do
  at_end words
  Ok reply

-- what was made has a number, which says nothing and may be left out
abbrev pub made_in : List Word → Result Answer LineFault
made_in [] = Ok (answer.Made 0)
made_in (first ∷ words) = alone (answer.Made 0) words

abbrev pub read_in : List Word → Result Answer LineFault
read_in words = do
  given ← bytes words
  alone (answer.Read given.value) given.rest

-- a folder of these names; they are told in any order
abbrev pub folder_of : List (List ℕ × ℕ) → List Word → Result (List (List ℕ × ℕ)) LineFault
folder_of folder [] = Ok folder
folder_of folder (name ∷ names) = if is_name name then folder_of (with_name folder name 0) names else Err Form

-- names with commas between them; a hyphen stands for none
abbrev pub folder_in : Word → Result (List (List ℕ × ℕ)) LineFault
folder_in text = if bytes_eq text (codes "-") then Ok [] else folder_of [] (slice_split (λ byte. byte == 44) text)

abbrev pub list_in : List Word → Result Answer LineFault
list_in words = do
  next ← word words
  folder ← folder_in next.value
  alone (answer.List (names_in folder)) next.rest

abbrev pub acl_in : List Word → Result Answer LineFault
acl_in words = do
  given ← acl no_names words
  alone (answer.Acl given.value) given.rest

abbrev pub votes_in : List Word → Result Answer LineFault
votes_in words = do
  given ← votes words
  alone (answer.Votes given.value) given.rest

abbrev pub reply_of : Word → List Word → Result Answer LineFault
reply_of verb words =
    if bytes_eq verb (codes "read") then read_in words
    else if bytes_eq verb (codes "wrote") then alone answer.Wrote words
    else if bytes_eq verb (codes "list") then list_in words
    else if bytes_eq verb (codes "made") then made_in words
    else if bytes_eq verb (codes "dropped") then alone answer.Dropped words
    else if bytes_eq verb (codes "acl") then acl_in words
    else if bytes_eq verb (codes "votes") then votes_in words
    else if bytes_eq verb (codes "set") then alone answer.Set words
    else Err Form

abbrev pub reply_in : List Word → Result Answer LineFault
reply_in words = do
  verb ← word words
  reply_of verb.value verb.rest

abbrev pub replies_in : List (List ℕ) → Result (List Answer) LineFault
replies_in [] = Ok []
replies_in (part ∷ parts) = do
  reply ← reply_in (words part)
  replies ← replies_in parts
  Ok (reply ∷ replies)

-- ---- refusals

abbrev pub whys : List (Word × Why)
whys =
    (codes "F1", why.BadPath) ∷ (codes "F2", why.NotFolder) ∷ (codes "F4", why.NoName) ∷ (codes "F5", why.Exists) ∷ (codes "F6", why.IsFolder)
    ∷ (codes "F7", why.NotEmpty) ∷ (codes "F8", why.TooLong) ∷ (codes "F9", why.FolderFull) ∷ (codes "F10", why.OpCount)
    ∷ (codes "F11", why.UnknownServer) ∷ (codes "F12", why.DefaultOnFile) ∷ []

abbrev pub why_of : Option (Word × Why) → Option Why
why_of (Some known) = Some known.1
why_of None = None

abbrev pub why_in : Word → Option Why
why_in text = why_of (find (λ known. bytes_eq text known.0) whys)

-- a code, the word `op`, and the operation's number
abbrev pub refused_in : List Word → Result Seen LineFault
refused_in words = do
  code ← word words
  reason ← found_or (why_in code.value) Form
  op ← word code.rest
  operation ← number 255 op.rest
  at_end operation.rest
  if bytes_eq op.value (codes "op") then Ok (Refused (record { op = operation.value; why = reason })) else Err Form

-- ---- what was told

-- replies, each but the last before a semicolon
abbrev pub these_in : Word → List Word → List (List ℕ) → Result Seen LineFault
these_in verb words more = do
  first ← reply_of verb words
  later ← replies_in more
  Ok (Answered (first ∷ later))

-- that a test was granted, to which there are no replies
abbrev pub granted_in : List Word → List (List ℕ) → Result Seen LineFault
granted_in [] [] = Ok (Answered [])
granted_in words more = Err Form

abbrev pub is_granted : Word → Bool
is_granted text = bytes_eq text (codes "granted")

-- something; that a test was granted; or these replies
abbrev pub answered_in : List Word → List (List ℕ) → Result Seen LineFault
answered_in [] [] = Ok SomeAnswers
answered_in [] (part ∷ more) = Err Form
answered_in (verb ∷ words) more = if is_granted verb then granted_in words more else these_in verb words more

abbrev pub denied_in : List Word → Result Seen LineFault
denied_in words = do
  at_end words
  Ok Denied

-- a denial or another refusal is told in one part
abbrev pub refusal_in : Word → List Word → List (List ℕ) → Result Seen LineFault
refusal_in kind words [] =
    if bytes_eq kind (codes "denied") then denied_in words
    else if bytes_eq kind (codes "refused") then refused_in words
    else Err Form
refusal_in kind words more = Err Form

-- the words of the first part, and the parts after its semicolon
abbrev pub seen_in : List Word → List (List ℕ) → Result Seen LineFault
seen_in words more = do
  kind ← word words
  if bytes_eq kind.value (codes "answered") then answered_in kind.rest more else refusal_in kind.value kind.rest more
