-- What the edits of a transaction set: contents of the kind that was there, and valid votes where its operations set such.
use Rattle.law_headline.proofs.Vocabulary.{◌≡◌, ℕ, List, [], ◌∷◌, Option, Some, Ok, sym, ap, subst, ◌∙◌, Configuration, IsValid, Identity, Content, kind_of, Action, Op, Row, arith, Edit, SetAcl, SetVotes, SetContent, Make, Edits, seen, content_in}
use Rattle.law_headline.proofs.Vocabulary.{Ended, AreValid, GivesValidVotes, AllGiveValidVotes}
use Rattle.file_ops.specs.declared.answer.Answer.{Answer}
use Rattle.file_ops.specs.declared.service.Service.{Service}
use Rattle.file_ops.specs.KnownVotes.{known_votes, votes_of_new}
use Rattle.file_ops.specs.Operations.{Parent}
use Rattle.file_ops.specs.Walks.{Object, bytes_in, names_in}
use Rattle.file_exec.specs.Known.{known_rows, Done, exec_of, Known}
use Rattle.file_exec.specs.Licensed.{votes_given, IsShown, MayChange, Licensed, writes_bytes, changes_lists, changes_votes, adds_name, makes_row, drops_name, AllLicensed}
use Rattle.file_exec.proofs.Licensing.{holds_there, known_licensed}
use Rattle.suite_content.specs.declared.content.Kind.TheVariants as holds
use Rattle.file_ops.specs.declared.operation.Action.TheVariants as action

-- an edit fits the row of its suite
abbrev pub FitsRow : Edit → Option Row → Type 0
FitsRow (SetAcl acl) row = Unit {0}
FitsRow (SetVotes votes) row = IsValid votes
FitsRow (SetContent content) row = (r : Row) → row ≡ Some r → kind_of r.content ≡ kind_of content
FitsRow (Make made) row = IsValid made.votes

-- each of these edits, the newest first
abbrev pub AllFit : (ℕ → Option Row) → Edits → Type 0
AllFit rows [] = Unit {0}
AllFit rows (e ∷ edits) = FitsRow e.1 (seen edits e.0 (rows e.0)) × AllFit rows edits

-- ---- kinds

of_names : (content : Content) (names : List (List ℕ × ℕ)) → names_in content ≡ Ok names → kind_of content ≡ holds.Folder
of_names content names h2 = search arith

-- ---- votes that are given are valid, and so those that are known

valid_known : (service : Service) (given votes : Configuration) → IsValid given → known_votes service given ≡ Ok votes → IsValid votes
valid_known service given votes valid = search arith

valid_new : (service : Service) (given : Option Configuration) (votes : Configuration) → IsValid service.c0 → AreValid given → votes_of_new service given ≡ Ok votes → IsValid votes
valid_new service given votes h3 h4 h5 = search arith

valid_given : (action : Action) → GivesValidVotes action → AreValid (votes_given action)
valid_given action h1 = search arith

-- ---- what is licensed

module _ (service : Service) (known : Known) (rows : ℕ → Option Row) (caller : Identity) where
  file_there : (edits : Edits) (place : Object) (bytes : List ℕ) → IsShown rows edits place → bytes_in place.row.content ≡ Ok bytes → (r : Row) → seen edits place.suite (rows place.suite) ≡ Some r → kind_of r.content ≡ holds.File
  file_there edits place bytes shown is r there = search arith

  folder_there : (edits : Edits) (parent : Parent) → MayChange rows caller edits parent → (r : Row) → seen edits parent.place.suite (rows parent.place.suite) ≡ Some r → kind_of r.content ≡ holds.Folder
  folder_there edits parent may r there = of_names r.content parent.names (sym (ap (λ row. names_in (content_in row)) there) ∙ may.names)

  fits : {number : ℕ} {edits : Edits} {suite : ℕ} {edit : Edit} (action : Action) → IsValid service.c0 → AreValid (votes_given action) → Licensed service known rows caller action number edits suite edit
      → FitsRow edit (seen edits suite (rows suite))
  fits action c0 valid (writes_bytes {edits = edits} {place = place} {before = before} shown _ is _) = file_there edits place before shown is
  fits action c0 valid (changes_lists _ _ _) = tt
  fits action c0 valid (changes_votes {given = given} {votes = votes} _ _ _ is are) = valid_known service given votes (subst AreValid is valid) are
  fits action c0 valid (adds_name {edits = edits} {parent = parent} _ may _) = folder_there edits parent may
  fits action c0 valid (makes_row {votes = votes} _ _ _ _ _ are) = valid_new service (votes_given action) votes c0 valid are
  fits action c0 valid (drops_name {edits = edits} {parent = parent} _ may) = folder_there edits parent may

  all_fit : (t : ℕ) (ops : List Op) (edits : Edits) → IsValid service.c0 → AllGiveValidVotes ops → AllLicensed service known rows t caller ops edits → AllFit rows edits
  all_fit t ops [] c0 valid all = tt
  all_fit t ops (e ∷ edits) c0 valid all = search (fits, valid_given, holds_there, all_fit t ops edits c0 valid, arith)

-- where the executor is done, each edit fits the row that it met
pub edits_fit : (service : Service) (known : Known) (t : ℕ) (caller : Identity) (ops : List Op) (ended : Ended (List Answer)) → IsValid service.c0 → AllGiveValidVotes ops
    → exec_of service known t caller ops ≡ Done (Ok ended) → AllFit (known_rows known) ended.edits
edits_fit service known t caller ops ended c0 valid is = search (all_fit, known_licensed, arith)
