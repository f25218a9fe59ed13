-- How outcomes are printed.
use Rattle.std.specs.Prelude.{ℕ, List, [], ◌∷◌, ◌++◌, codes, decimal, Result, Ok, Err}
use Rattle.std.specs.List.{flat_map}
use Rattle.hex.specs.Hex.{encode_lower}
use Rattle.acl_text.specs.Writing.{decider_text, permission_text, short_text}
use Rattle.file_ops.specs.declared.answer.Answer.{Answer}
use Rattle.file_ops.specs.declared.answer.Answer.TheVariants as answer
use Rattle.file_ops.specs.declared.refusal.Denial.{Denial}
use Rattle.file_ops.specs.declared.refusal.Refusal.{Refusal}
use Rattle.file_ops.specs.declared.refusal.Why.{Why}
use Rattle.file_ops.specs.declared.refusal.Why.TheVariants as why
use Rattle.suite_script.specs.Votes.{votes_text}

-- bytes in hexadecimal digits, two a byte; a hyphen stands for none
abbrev pub bytes_text : List ℕ → List ℕ
bytes_text [] = codes "-"
bytes_text (byte ∷ bytes) = encode_lower (byte ∷ bytes)

-- names, with a comma between each two; a hyphen stands for none
abbrev pub names_text : List (List ℕ) → List ℕ
names_text [] = codes "-"
names_text (name ∷ names) = name ++ flat_map (λ next. codes "," ++ next) names

-- the reply to an operation
abbrev pub reply_text : Answer → List ℕ
reply_text (answer.Read bytes) = codes "read " ++ bytes_text bytes
reply_text answer.Wrote = codes "wrote"
reply_text (answer.List names) = codes "list " ++ names_text names
reply_text (answer.Made suite) = codes "made " ++ decimal suite
reply_text answer.Dropped = codes "dropped"
reply_text (answer.Acl lists) = codes "acl " ++ short_text lists
reply_text (answer.Votes votes) = codes "votes " ++ votes_text votes
reply_text answer.Set = codes "set"

-- the replies, with a semicolon and a space between each two
abbrev pub replies_text : List Answer → List ℕ
replies_text [] = []
replies_text (reply ∷ replies) = reply_text reply ++ flat_map (λ next. codes "; " ++ reply_text next) replies

-- what an operation was denied
abbrev pub denial_text : ℕ → Denial → List ℕ
denial_text op denial =
    codes "op " ++ decimal op ++ codes " suite " ++ decimal denial.suite
    ++ codes " wants " ++ permission_text denial.wanted ++ codes " by " ++ decider_text denial.decider

abbrev pub denied_text : ℕ → Denial → List ℕ
denied_text op denial = codes "denied " ++ denial_text op denial

abbrev pub refused_text : ℕ → List ℕ → List ℕ
refused_text op code = codes "refused " ++ code ++ codes " op " ++ decimal op

-- a refusal of an operation
abbrev pub why_text : ℕ → Why → List ℕ
why_text op why.BadPath = refused_text op (codes "F1")
why_text op why.NotFolder = refused_text op (codes "F2")
why_text op (why.Denied denial) = denied_text op denial
why_text op why.NoName = refused_text op (codes "F4")
why_text op why.Exists = refused_text op (codes "F5")
why_text op why.IsFolder = refused_text op (codes "F6")
why_text op why.NotEmpty = refused_text op (codes "F7")
why_text op why.TooLong = refused_text op (codes "F8")
why_text op why.FolderFull = refused_text op (codes "F9")
why_text op why.OpCount = refused_text op (codes "F10")
why_text op why.UnknownServer = refused_text op (codes "F11")
why_text op why.DefaultOnFile = refused_text op (codes "F12")

-- a transaction that was answered, and one that was refused
abbrev pub answered_text : List Answer → List ℕ
answered_text replies = codes "answered " ++ replies_text replies

abbrev pub refusal_text : Refusal → List ℕ
refusal_text refusal = why_text refusal.op refusal.why

-- the outcome of a transaction on the plain table
abbrev pub outcome_text : Result (List Answer) Refusal → List ℕ
outcome_text (Ok replies) = answered_text replies
outcome_text (Err refusal) = refusal_text refusal
