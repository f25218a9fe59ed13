-- What callers were told, as it stands in a history.
use Rattle.std.specs.Prelude.{ℕ, Bool, true, false, List, codes}
use Rattle.file_ops.specs.declared.refusal.Refusal.{Refusal}
use Rattle.file_ops.specs.declared.refusal.Why.{Why}
use Rattle.file_ops.specs.declared.refusal.Why.TheVariants.{Denied, UnknownServer}
use Rattle.suite_script.specs.Texts.{answered_text, refusal_text}
use Rattle.txn_core.specs.declared.ending.Ending.{Ending}
use Rattle.txn_core.specs.declared.ending.Ending.TheVariants.{Answered, Refused, Swept, Undecided}

-- a refusal; of a denial just that
abbrev pub refused_text : Refusal → Why → List ℕ
refused_text refusal (Denied denial) = codes "denied"
refused_text refusal _ = refusal_text refusal

abbrev pub told_text : Ending → List ℕ
told_text (Answered replies) = answered_text replies
told_text (Refused refusal) = refused_text refusal refusal.why
told_text (Swept broken finished left) = codes "swept"
told_text (Undecided cause) = codes "undecided"

-- whether a table that has all servers can refuse so
abbrev pub is_of_table : Why → Bool
is_of_table UnknownServer = false
is_of_table _ = true

-- whether the plain table of a history can have told this: it can but for a sweep, for what was not decided, and for a server that is not there
abbrev pub is_judged : Ending → Bool
is_judged (Answered replies) = true
is_judged (Refused refusal) = is_of_table refusal.why
is_judged (Swept broken finished left) = false
is_judged (Undecided cause) = false
