-- How the ends of jobs and the denials of a server are printed.
use Rattle.std.specs.Prelude.{ℕ, List, [], ◌++◌, codes, decimal, length, Option, Some, None}
use Rattle.std.specs.List.{flat_map}
use Rattle.file_ops.specs.declared.audit.AuditItem.{AuditItem}
use Rattle.run_core.specs.declared.done.EndedJob.{EndedJob}
use Rattle.suite_script.specs.Faults.{line_feed}
use Rattle.suite_script.specs.Texts.{answered_text, denial_text, refusal_text}
use Rattle.txn_core.specs.declared.ending.Cause.{Cause}
use Rattle.txn_core.specs.declared.ending.Cause.TheVariants as cause
use Rattle.txn_core.specs.declared.ending.Ending.{Ending}
use Rattle.txn_core.specs.declared.ending.Ending.TheVariants as ending

-- why a job was not decided
abbrev pub cause_text : Cause → List ℕ
cause_text (cause.Unavailable suite got needed) = codes "U1 suite " ++ decimal suite ++ codes " got " ++ decimal got ++ codes " of " ++ decimal needed
cause_text (cause.Busy server holder) = codes "U2 server " ++ decimal server ++ codes " holder " ++ decimal holder
cause_text (cause.Lost server) = codes "U3 server " ++ decimal server
cause_text cause.Overruled = codes "U4"
cause_text cause.HomeDown = codes "U5"
cause_text (cause.Full server) = codes "U6 server " ++ decimal server
cause_text cause.Memory = codes "U7"

abbrev pub ending_text : Ending → List ℕ
ending_text (ending.Answered replies) = answered_text replies
ending_text (ending.Refused refusal) = refusal_text refusal
ending_text (ending.Swept broken finished left) = codes "swept " ++ decimal broken ++ codes " " ++ decimal finished ++ codes " " ++ decimal left
ending_text (ending.Undecided cause) = codes "undecided " ++ cause_text cause

-- which job of which agent has ended, after how many steps, and how
abbrev pub outcome_line : EndedJob → List ℕ
outcome_line outcome =
    decimal outcome.agent ++ codes "." ++ decimal outcome.count ++ codes " " ++ decimal outcome.steps ++ codes " " ++ ending_text outcome.ending ++ line_feed

-- the line of a job that has ended, if one has
abbrev pub outcome_text : Option EndedJob → List ℕ
outcome_text (Some outcome) = outcome_line outcome
outcome_text None = []

-- a denial that a server keeps
abbrev pub item_line : AuditItem → List ℕ
item_line item = codes "t " ++ decimal item.t ++ codes " uid " ++ decimal item.uid ++ codes " " ++ denial_text item.op item.denial ++ line_feed

-- all that a server keeps, oldest first
abbrev pub audit_lines : ℕ → List AuditItem → List ℕ
audit_lines server items = codes "audit " ++ decimal server ++ codes " " ++ decimal (length items) ++ line_feed ++ flat_map item_line items
