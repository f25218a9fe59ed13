-- What the changes that the executor answers say of what was known.
use Rattle.file_exec.proofs.Vocabulary.{◌≡◌, ℕ, Bool, true, false, cond, List, [], ◌∷◌, Option, None, Ok, refl, sym, ap, ◌∙◌, ◌==◌, ◌&&◌, ◌||◌, is_some, option_map, list_all, nat_cmp, eqb-true, same_Some, get, Configuration, arith, Exclusive, Answer}
use Rattle.file_exec.proofs.Vocabulary.{Refusal, Row, Change, Edit, Edits, Ended, changed, seen, Known, known_of, is_held, Heard, Done, exec_of, is_held_for, sets_votes, touches, some, change_of, changes_of, answered, ChangesAreHeld, UnsetVotesStay}
use Rattle.file_exec.specs.declared.executor.Outcome.TheVariants as outcome
use Rattle.file_exec.proofs.Leading.{changes_by_suite}
use Rattle.file_exec.proofs.Unmet.{sets_what_is_held}

abbrev Changes : Type 0
Changes = List (ℕ × Change)

-- it ended with a log, of which the changes were told
abbrev FromLog : Known → Heard (List Answer) Refusal → Changes → Type 0
FromLog known heard changes = (ended : Ended (List Answer)) × (heard ≡ Done (Ok ended)) × (changes ≡ changes_of known ended.edits)

from_log : (known : Known) (heard : Heard (List Answer) Refusal) (answers : List Answer) (changes : Changes) → answered known heard ≡ outcome.Done answers changes → FromLog known heard changes
from_log known heard answers changes h4 = search arith

-- ---- what is changed is held

touched_held : (known : Known) (log : Edits) (number : ℕ) → list_all (is_held_for known) log ≡ true → touches log number ≡ true → is_held Exclusive (known_of known number) ≡ true
touched_held known [] number all touched = cc
touched_held known (e ∷ log) number all touched = of (touched_held known log number (second (is_held_for known e) (list_all (is_held_for known) log) all)) (e.0 == number) refl touched
  where
    first : (a b : Bool) → (a && b) ≡ true → a ≡ true
    first a b h2 = search arith

    second : (a b : Bool) → (a && b) ≡ true → b ≡ true
    second a b h2 = search arith

    of : (touches log number ≡ true → is_held Exclusive (known_of known number) ≡ true) → (b : Bool) → (e.0 == number) ≡ b → (b || touches log number) ≡ true → is_held Exclusive (known_of known number) ≡ true
    of h0 b h2 h3 = search (eqb-true, first, arith)

changed_touched : (b : Bool) (change : Option Change) → is_some (cond b change None) ≡ true → b ≡ true
changed_touched b change h2 = search arith

pub changes_are_held : ChangesAreHeld
changes_are_held service known t caller ops answers changes suite is told =
    let log = from_log known (exec_of service known t caller ops) answers changes is in
    let touched = changed_touched (touches log.0.edits suite) (change_of known log.0.edits suite)
    (sym (ap is_some (changes_by_suite known log.0.edits suite)) ∙ ap (λ changes. is_some (get nat_cmp changes suite)) (sym log.2) ∙ told) in
    touched_held known log.0.edits suite (sets_what_is_held service known t caller ops log.0 log.1) touched

-- ---- where no votes are set they stay

abbrev votes_of : Option Row → Option Configuration
votes_of row = option_map (λ (row : Row). row.votes) row

unset_votes : (edit : Edit) (row : Option Row) → sets_votes edit ≡ false → votes_of (changed edit row) ≡ votes_of row
unset_votes edit row h2 = search arith

seen_votes : (log : Edits) (number : ℕ) (row : Option Row) → some sets_votes log number ≡ false → votes_of (seen log number row) ≡ votes_of row
seen_votes [] number row none = refl
seen_votes (e ∷ log) number row none = search (unset_votes, seen_votes log number row, arith)

pub unset_votes_stay : UnsetVotesStay
unset_votes_stay service known t caller ops answers changes suite change is told none = search (from_log, seen_votes, same_Some, changes_by_suite, arith)
