-- What the operations of a transaction come to, by what the code passes them.
use Rattle.std.specs.Prelude.{ℕ, List, Option, Result}
use Rattle.acl_core.specs.declared.entry.Entry.{Entry}
use Rattle.vote_core.specs.Quorums.{Configuration}
use Rattle.suite_content.specs.Folders.{with_name}
use Rattle.suite_content.specs.declared.content.Content.TheVariants.{Names}
use Rattle.file_ops.specs.declared.answer.Answer.{Answer}
use Rattle.file_ops.specs.declared.operation.Op.{Op}
use Rattle.file_ops.specs.declared.refusal.Why.{Why}
use Rattle.file_ops.specs.Lists.{lists_of}
use Rattle.file_ops.specs.Rows.{Row, new_row}
use Rattle.file_exec.specs.declared.act.New.{New}
use Rattle.file_exec.specs.declared.act.Transaction.{Transaction}
use Rattle.file_exec.specs.declared.edit_log.Edit.{Edit}
use Rattle.file_exec.specs.declared.edit_log.Edit.TheVariants.{SetContent, Make}
use Rattle.file_exec.specs.declared.progress.WalkPoint.{WalkPoint}
use Rattle.file_exec.specs.declared.stop.Stop.{Stop}
use Rattle.file_exec.specs.declared.view.Parent.{Parent}
use Rattle.file_exec.specs.Courses.{Course}
use Rattle.file_exec.specs.Following.{Edits}
use Rattle.file_exec.specs.Operations.{made, votes_set, operation}
use Rattle.file_exec.specs.code.Steps.{Runs}
use Rattle.file_exec.specs.code.Ways.{LeadsTo}

-- an operation runs this course, from some edits to others
abbrev pub Acts : Result Answer Stop → Transaction → Edits → Edits → Course Answer Why → Type 0
Acts result transaction before after course = Runs (λ answer. answer) result transaction.known.now.suites before after course

-- a walk of the transaction's caller along the first of some names came so far
abbrev pub LeadsFor : Transaction → Edits → List (List ℕ) → WalkPoint → Type 0
LeadsFor transaction edits names point = LeadsTo transaction.known.now.suites edits transaction.caller.now names point

-- an operation at a place, counted from 0
abbrev pub operation_at : Transaction → ℕ → Op → Course Answer Why
operation_at transaction at op = operation transaction.known.now.service transaction.t at transaction.caller.now op

-- a file or folder gets other votes
abbrev pub votes_set_for : Transaction → List (List ℕ) → Configuration → Course Answer Why
votes_set_for transaction names given = votes_set transaction.known.now.service transaction.caller.now names given

-- what is to be new is made
abbrev pub made_for : Transaction → List (List ℕ) → New → Course Answer Why
made_for transaction names new =
    made transaction.known.now.service new.number transaction.caller.now names new.kind new.init.now new.given.now

-- a folder gets a name
abbrev pub name_edit : Parent → List ℕ → ℕ → ℕ × Edit
name_edit parent name number = (parent.place.suite, SetContent (Names (with_name parent.names.now name number)))

-- the row of what is new, in a folder with this default list
abbrev pub row_for : Transaction → Option (List Entry) → New → Configuration → Row
row_for transaction default new votes =
    new_row new.kind (lists_of new.kind default new.init.now) votes transaction.caller.now

-- what is new gets its row
abbrev pub row_edit : Transaction → Parent → New → Configuration → ℕ × Edit
row_edit transaction parent new votes = (new.number, Make (row_for transaction parent.place.row.acl.now.default new votes))
