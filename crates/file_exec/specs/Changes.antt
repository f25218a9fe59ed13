-- What a transaction has set, suite by suite.
use Rattle.std.specs.Prelude.{ℕ, ◌==◌, Bool, true, false, ◌&&◌, List, [], ◌∷◌, Option, Some, None, option_map, Ok, Err}
use Rattle.std.specs.List.{list_any}
use Rattle.std.specs.Ordering.{nat_cmp}
use Rattle.sorted_map.specs.SortedMap.{insert}
use Rattle.file_ops.specs.declared.answer.Answer.{Answer}
use Rattle.file_ops.specs.declared.refusal.Refusal.{Refusal}
use Rattle.file_exec.specs.declared.changes.Change.{Change}
use Rattle.file_exec.specs.declared.executor.Outcome.{Outcome}
use Rattle.file_exec.specs.declared.executor.Outcome.TheVariants as outcome
use Rattle.file_exec.specs.declared.edit_log.Edit.{Edit}
use Rattle.file_exec.specs.declared.edit_log.Edit.TheVariants.{SetAcl, SetVotes, SetContent, Make}
use Rattle.file_exec.specs.Following.{Edits, seen, is_set}
use Rattle.file_exec.specs.Known.{Known, known_rows, Heard, Needs, Done}

-- whether an edit sets the lists, the votes, or all; what is made is set in all its parts
abbrev pub sets_acl : Edit → Bool
sets_acl (SetAcl acl) = true
sets_acl (SetVotes votes) = false
sets_acl (SetContent content) = false
sets_acl (Make made) = true

abbrev pub sets_votes : Edit → Bool
sets_votes (SetAcl acl) = false
sets_votes (SetVotes votes) = true
sets_votes (SetContent content) = false
sets_votes (Make made) = true

abbrev pub makes : Edit → Bool
makes (SetAcl acl) = false
makes (SetVotes votes) = false
makes (SetContent content) = false
makes (Make made) = true

-- whether one of the edits is of a suite
abbrev pub touches : Edits → ℕ → Bool
touches edits suite = list_any (λ e. e.0 == suite) edits

-- whether one of them is of a suite and of a kind
abbrev pub some : (Edit → Bool) → Edits → ℕ → Bool
some kind edits suite = list_any (λ e. (e.0 == suite) && kind e.1) edits

-- what the edits set of a suite, to an equal value too, with its row after them; nothing, where there is no row
abbrev pub change_of : Known → Edits → ℕ → Option Change
change_of known edits suite = option_map (λ row. record {
  made = some makes edits suite;
  acl = some sets_acl edits suite;
  votes = some sets_votes edits suite;
  content = is_set edits suite;
  row = row;
}) (seen edits suite (known_rows known suite))

-- the changes of all suites that the edits are of, the suites rising
abbrev pub with_change : ℕ → Option Change → List (ℕ × Change) → List (ℕ × Change)
with_change suite (Some change) changes = insert nat_cmp changes suite change
with_change suite None changes = changes

abbrev pub changes_at : (ℕ → Option Change) → Edits → List (ℕ × Change)
changes_at change [] = []
changes_at change (e ∷ edits) = with_change e.0 (change e.0) (changes_at change edits)

abbrev pub changes_of : Known → Edits → List (ℕ × Change)
changes_of known edits = changes_at (change_of known edits) edits

-- what the executor answers of what it came to
abbrev pub answered : Known → Heard (List Answer) Refusal → Outcome
answered known (Needs need) = outcome.Need need
answered known (Done (Ok ended)) = outcome.Done ended.given (changes_of known ended.edits)
answered known (Done (Err refusal)) = outcome.Refused refusal
