-- What the commands write, as functions of what they read.
use Rattle.std.specs.FinSet.{empty}
use Rattle.std.specs.Prelude.{ℕ, ◌+◌, List, [], ◌∷◌, ◌++◌, codes, decimal, Option, Some, None, Result}
use Rattle.acl_text.specs.Sides.{lists_of}
use Rattle.acl_text.specs.Tables.{Tables}
use Rattle.acl_text.specs.Texts.{fault, said_in}
use Rattle.acl_text.specs.Writing.{canonical}
use Rattle.acl_text.specs.declared.read.TextFault.{TextFault}
use Rattle.file_ops.specs.Rows.{PlainTable, opening}
use Rattle.file_ops.specs.Transactions.{transaction, replies, table_after}
use Rattle.suite_prefix.specs.SettingsRules.{Opening}
use Rattle.vote_core.specs.Quorums.{Configuration}
use Rattle.vote_core.specs.declared.TheConstants.{MAX_SERVERS}
use Rattle.file_ops.specs.declared.answer.Answer.{Answer}
use Rattle.file_ops.specs.declared.refusal.Refusal.{Refusal}
use Rattle.suite_script.specs.declared.root.Root.{Root}
use Rattle.acl_text.specs.Codes.{text_code}
use Rattle.suite_script.specs.Faults.{line_feed}
use Rattle.suite_script.specs.Outputs.{Output, Done, Faulty, script_output}
use Rattle.suite_script.specs.Scripts as scripts
use Rattle.suite_cli.specs.Scripts.{Job, script_in}
use Rattle.suite_args.specs.declared.script.Script.{Script}
use Rattle.suite_args.specs.declared.script.Script.TheVariants.{Play, Table}
use Rattle.suite_play.specs.Outputs.{play_output}
use Rattle.suite_script.specs.Texts.{outcome_text}

-- the opening votes of a script's table: one vote, of server 0
abbrev pub c0 : Configuration
c0 = record { reps = (0, 1) ∷ []; r = 1; w = 1 }

-- what a script's table opens with: all the servers that there may be, one agent without a cache, and its root folder
abbrev pub settings_of : Root → Opening
settings_of root = record {
  servers = MAX_SERVERS;
  agents = 1;
  c0 = c0;
  root_owner = root.owner;
  root_group = root.group;
  root_acl = root.acl;
  budget = 0;
  quota = 0;
  slots = 0;
  old = empty;
}

-- the line of a transaction
abbrev pub outcome_line : ℕ → Result (List Answer) Refusal → List ℕ
outcome_line number outcome = decimal number ++ codes " " ++ outcome_text outcome ++ line_feed

-- the lines of some transactions on a table, one after the other, numbered from a number on
abbrev pub table_lines : PlainTable → ℕ → List Job → List ℕ
table_lines table number [] = []
table_lines table number (job ∷ jobs) =
    outcome_line number (replies (transaction table.service table.rows number job.caller job.ops))
    ++ table_lines (table_after table number job.caller (transaction table.service table.rows number job.caller job.ops)) (number + 1) jobs

-- what a script prints
abbrev pub lines_of : scripts.Script Root Job → List ℕ
lines_of script = table_lines (opening (settings_of script.header)) 0 script.owns

-- what `table` writes for a script
abbrev pub table_output : List ℕ → Output
table_output text = script_output lines_of (script_in text)

-- what a command that plays a script writes for it
abbrev pub script_output_of : Script → List ℕ → Output
script_output_of Table text = table_output text
script_output_of Play text = play_output text

-- the line of a list's text that has a fault
abbrev pub text_fault_line : TextFault → List ℕ
text_fault_line fault = codes "fault " ++ text_code fault ++ line_feed

-- the text of lists, or the fault of what was read
abbrev pub lists_output : Option TextFault → List ℕ → Output
lists_output (Some fault) text = Faulty (text_fault_line fault)
lists_output None text = Done text

-- what `acl` writes for the text of lists: the canonical text of the lists that its items make
abbrev pub acl_output : Tables → List ℕ → Output
acl_output names text = lists_output (fault text names) (canonical (lists_of (said_in text names)))

-- the line of a bad name among the words of `acl`
abbrev pub word_fault_line : ℕ → List ℕ
word_fault_line place = codes "fault word " ++ decimal place ++ line_feed

-- the line of words that ask for nothing
abbrev pub command_line_fault : List ℕ
command_line_fault = codes "fault command line" ++ line_feed

-- the line of so many steps that were certified
abbrev pub certified_line : ℕ → List ℕ
certified_line steps = codes "certified " ++ decimal steps ++ codes " steps" ++ line_feed

-- the line where what was done is no run
abbrev pub mismatch_line : List ℕ
mismatch_line = codes "mismatch" ++ line_feed
