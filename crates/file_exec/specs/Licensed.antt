-- What operations set, and on what grounds: a case for each place where one sets something, with what is known there. What holds of all
-- that transactions set is proved by these cases.
use Rattle.std.specs.Prelude.{◌≡◌, ℕ, ◌<◌, true, false, ◌||◌, nat_lt, List, [], ◌∷◌, drop, length, is_some, Option, Some, None, Ok}
use Rattle.acl_core.specs.Identity.{Identity}
use Rattle.acl_core.specs.declared.lists.Lists.{Lists}
use Rattle.vote_core.specs.Quorums.{Configuration}
use Rattle.suite_content.specs.declared.content.Content.TheVariants.{Bytes, Names}
use Rattle.suite_content.specs.declared.content.Kind.{Kind}
use Rattle.suite_content.specs.Contents.{kind_of}
use Rattle.suite_content.specs.Folders as folders
use Rattle.suite_content.specs.Limits.{max_names}
use Rattle.suite_prefix.specs.Tests.{is_within_limits}
use Rattle.file_ops.specs.declared.answer.Answer.{Answer}
use Rattle.file_ops.specs.declared.operation.Action.{Action}
use Rattle.file_ops.specs.declared.operation.Action.TheVariants as action
use Rattle.file_ops.specs.declared.operation.Init.{Init}
use Rattle.file_ops.specs.declared.operation.Op.{Op}
use Rattle.file_ops.specs.declared.service.Service.{Service}
use Rattle.file_ops.specs.KnownVotes.{known_votes, votes_of_new}
use Rattle.file_ops.specs.Limits.{max_operations}
use Rattle.file_ops.specs.Lists.{gives_default, is_misplaced, lists_of}
use Rattle.file_ops.specs.Operations.{Parent}
use Rattle.file_ops.specs.Rows.{Row, made_number, new_row}
use Rattle.file_ops.specs.Walks.{Object, bytes_in, names_in, to_write, to_change, permit, owner_only}
use Rattle.file_exec.specs.declared.edit_log.Edit.{Edit}
use Rattle.file_exec.specs.declared.edit_log.Edit.TheVariants.{SetAcl, SetVotes, SetContent, Make}
use Rattle.file_exec.specs.Following.{Edits, is_set, looked, content_read, Ended}
use Rattle.file_exec.specs.Known.{Known, known_of, is_opened, AgreesWith, Done, exec_of}

-- the votes that an operation gives
abbrev pub votes_given : Action → Option Configuration
votes_given (action.Make kind init votes) = votes
votes_given (action.SetVotes votes) = Some votes
votes_given _ = None

-- the content of a suite was set, or it is known
abbrev pub IsTold : Known → Edits → ℕ → Type 0
IsTold known edits suite = (is_set edits suite || is_opened (known_of known suite)) ≡ true

-- a file or a folder as a look showed it
abbrev pub IsShown : (ℕ → Option Row) → Edits → Object → Type 0
IsShown rows edits place = looked rows edits place.suite ≡ Some place.row

-- a folder that the caller may change, and whose names were read
pub record MayChange (rows : ℕ → Option Row) (caller : Identity) (edits : Edits) (parent : Parent) : Type 0 where
  pub shown : IsShown rows edits parent.place
  pub permitted : permit caller parent.place to_change ≡ Ok tt
  pub names : names_in (content_read rows edits parent.place.suite) ≡ Ok parent.names

-- a name in it leads to this number
abbrev pub naming : Parent → List ℕ → ℕ → Edit
naming parent name number = SetContent (Names (folders.with_name parent.names name number))

-- After its edits so far an operation, which may make something of this number, sets this of a suite.
module _ (service : Service) (known : Known) (rows : ℕ → Option Row) (caller : Identity) (action : Action) (number : ℕ) where
  pub data Licensed : Edits → ℕ → Edit → Type 0 where
    -- bytes in place of a file's, where the caller may write it
    writes_bytes : {edits : Edits} {place : Object} {before bytes : List ℕ}
        → IsShown rows edits place → permit caller place to_write ≡ Ok tt → bytes_in place.row.content ≡ Ok before → is_within_limits (Bytes bytes) ≡ true
        → Licensed edits place.suite (SetContent (Bytes bytes))
    -- lists that fit its kind, where the caller owns it
    changes_lists : {edits : Edits} {place : Object} {acl : Lists}
        → IsShown rows edits place → owner_only caller place ≡ Ok tt → is_misplaced (kind_of place.row.content) (is_some acl.default) ≡ false
        → Licensed edits place.suite (SetAcl acl)
    -- votes of known servers, where the caller owns it; its content was read, since whoever gets a vote gets the whole copy
    changes_votes : {edits : Edits} {place : Object} {given votes : Configuration}
        → IsShown rows edits place → owner_only caller place ≡ Ok tt → IsTold known edits place.suite → votes_given action ≡ Some given → known_votes service given ≡ Ok votes
        → Licensed edits place.suite (SetVotes votes)
    -- a name more in a folder that has room
    adds_name : {edits : Edits} {parent : Parent} (name : List ℕ)
        → MayChange rows caller edits parent → nat_lt (length parent.names) max_names ≡ true
        → Licensed edits parent.place.suite (naming parent name number)
    -- the row that this name leads to
    makes_row : {edits : Edits} {parent : Parent} {votes : Configuration} (name : List ℕ) (kind : Kind) (init : Init)
        → MayChange rows caller edits parent → is_misplaced kind (gives_default init) ≡ false → votes_of_new service (votes_given action) ≡ Ok votes
        → Licensed ((parent.place.suite, naming parent name number) ∷ edits) number (Make (new_row kind (lists_of kind parent.place.row.acl.default init) votes caller))
    -- a name fewer
    drops_name : {edits : Edits} {parent : Parent} (name : List ℕ)
        → MayChange rows caller edits parent
        → Licensed edits parent.place.suite (SetContent (Names (folders.without_name parent.names name)))

-- an edit has its licence from the operation at a place of the transaction
pub record HasLicence (service : Service) (known : Known) (rows : ℕ → Option Row) (t : ℕ) (caller : Identity) (ops : List Op) (edits : Edits) (suite : ℕ) (edit : Edit) : Type 0 where
  pub at : ℕ
  pub few : at < max_operations
  pub op : Op
  pub later : List Op
  pub there : drop at ops ≡ op ∷ later
  pub licensed : Licensed service known rows caller op.action (made_number t at) edits suite edit

-- each of these edits, the newest first, has it on those before
abbrev pub AllLicensed : Service → Known → (ℕ → Option Row) → ℕ → Identity → List Op → Edits → Type 0
AllLicensed service known rows t caller ops [] = Unit {0}
AllLicensed service known rows t caller ops (e ∷ edits) =
    HasLicence service known rows t caller ops edits e.0 e.1 × AllLicensed service known rows t caller ops edits

-- where the executor is done, each edit has its licence, on any rows that what is known agrees with
abbrev pub EditsAreLicensed : Type 0
EditsAreLicensed =
    (service : Service) (known : Known) (rows : ℕ → Option Row) (t : ℕ) (caller : Identity) (ops : List Op) (ended : Ended (List Answer))
    → AgreesWith known rows → exec_of service known t caller ops ≡ Done (Ok ended) → AllLicensed service known rows t caller ops ended.edits
