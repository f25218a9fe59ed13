-- The changes lead from the rows before to the rows after.
use Rattle.file_exec.proofs.Vocabulary.{◌⊎◌, ◌≡◌, ℕ, Bool, true, false, cond, [], ◌∷◌, Option, Some, None, refl, sym, ap, subst, ◌∙◌, ◌==◌, ◌&&◌, ◌||◌, option_map, is_some, list_all, unsigned_tied, nat_cmp, eqb-true, arith, nat_cmp_total, get-insert}
use Rattle.file_exec.proofs.Vocabulary.{get, Exclusive, Row, row_of, Change, Edit, touches, makes, sets_acl, sets_votes, some, change_of, changes_at, with_change, Edits, changed, seen, sets_content, is_set, head, content_in, with_edits, Known}
use Rattle.file_exec.proofs.Vocabulary.{known_of, known_rows, is_held, is_opened, is_held_for, TellsAt, ChangesBySuite, ChangesLeadOn}
use Rattle.file_exec.proofs.Alike.{head_seen, content_seen, held_head, opened_same}
use Rattle.file_exec.proofs.StepOnTable.{row_of-with_edits}
use Rattle.file_exec.proofs.VotesRead.{knows_whose_votes}
use Rattle.file_exec.proofs.Unmet.{sets_what_is_held}

abbrev if_touched : Bool → Option Change → Option Change
if_touched true change = change
if_touched false change = None

-- what is found among the changes
abbrev Found : (ℕ → Option Change) → Edits → ℕ → Bool → Option Change → Type 0
Found change edits suite b found = found ≡ if_touched (b || touches edits suite) (change suite)

found : (change : ℕ → Option Change) (edits : Edits) (suite : ℕ) → get nat_cmp (changes_at change edits) suite ≡ if_touched (touches edits suite) (change suite)
found change [] suite = refl
found change (e ∷ edits) suite = of (change e.0) refl (found change edits suite)
  where
    absent : (b : Bool) (change : Option Change) → change ≡ None → if_touched b change ≡ change
    absent b change h2 = search arith

    here : (b : Bool) (made : Change) → (e.0 == suite) ≡ b → change e.0 ≡ Some made → Found change edits suite false (get nat_cmp (changes_at change edits) suite)
        → Found change edits suite b (cond b (Some made) (get nat_cmp (changes_at change edits) suite))
    here b made h2 h3 h4 = search (eqb-true, arith)

    none : (b : Bool) → (e.0 == suite) ≡ b → change e.0 ≡ None → Found change edits suite false (get nat_cmp (changes_at change edits) suite) → Found change edits suite b (get nat_cmp (changes_at change edits) suite)
    none b h1 h2 h3 = search (absent, eqb-true, arith)

    of : (made : Option Change) → change e.0 ≡ made → Found change edits suite false (get nat_cmp (changes_at change edits) suite)
        → Found change edits suite (e.0 == suite) (get nat_cmp (with_change e.0 made (changes_at change edits)) suite)
    of (Some made) was rest =
        get-insert nat_cmp_total (changes_at change edits) e.0 made suite
        ∙ ap (λ b. cond b (Some made) (get nat_cmp (changes_at change edits) suite)) (unsigned_tied e.0 suite)
        ∙ here (e.0 == suite) made refl was rest
    of None was rest = none (e.0 == suite) refl was rest

-- what is not touched stays, and its content was not set
pub untouched : (edits : Edits) (suite : ℕ) (row : Option Row) → touches edits suite ≡ false → seen edits suite row ≡ row
untouched [] suite row is = refl
untouched (e ∷ edits) suite row is =
    elim (e.0 == suite) as (λ b. (b || touches edits suite) ≡ false → cond b (changed e.1 (seen edits suite row)) (seen edits suite row) ≡ row) [
      | true ↦ λ is. cc
      | false ↦ λ is. untouched edits suite row is
    ] is

pub untouched_unset : (edits : Edits) (suite : ℕ) → touches edits suite ≡ false → is_set edits suite ≡ false
untouched_unset [] suite is = refl
untouched_unset (e ∷ edits) suite is =
    elim (e.0 == suite) as (λ b. (b || touches edits suite) ≡ false → ((b && sets_content e.1) || is_set edits suite) ≡ false) [
      | true ↦ λ is. cc
      | false ↦ λ is. untouched_unset edits suite is
    ] is

-- a suite that is touched is held
touched_held : (known : Known) (edits : Edits) (suite : ℕ) → list_all (is_held_for known) edits ≡ true → touches edits suite ≡ true → is_held Exclusive (known_of known suite) ≡ true
touched_held known [] suite held touched = cc
touched_held known (e ∷ edits) suite held touched =
    elim (e.0 == suite) as (λ b. (e.0 == suite) ≡ b → (b || touches edits suite) ≡ true → is_held Exclusive (known_of known suite) ≡ true) [
      | true ↦ λ is _. ap (λ suite. is_held Exclusive (known_of known suite)) (sym (eqb-true e.0 suite is)) ∙ first (is_held Exclusive (known_of known e.0)) held
      | false ↦ λ _ touched. touched_held known edits suite (rest (is_held Exclusive (known_of known e.0)) held) touched
    ] refl touched
  where
    first : (a : Bool) → (a && list_all (is_held_for known) edits) ≡ true → a ≡ true
    first a h1 = search arith

    rest : (a : Bool) → (a && list_all (is_held_for known) edits) ≡ true → list_all (is_held_for known) edits ≡ true
    rest a h1 = search arith

-- a content that no edit sets stays, and no row goes
stays : (edits : Edits) (suite : ℕ) (row : Row) → is_set edits suite ≡ false → content_in (seen edits suite (Some row)) ≡ row.content
stays [] suite row is = refl
stays (e ∷ edits) suite row is =
    elim (e.0 == suite) as (λ b. ((b && sets_content e.1) || is_set edits suite) ≡ false → content_in (cond b (changed e.1 (seen edits suite (Some row))) (seen edits suite (Some row))) ≡ row.content) [
      | true ↦ λ is. of e.1 (seen edits suite (Some row)) is (stays edits suite row)
      | false ↦ λ is. stays edits suite row is
    ] is
  where
    of : (edit : Edit) (now : Option Row) → (sets_content edit || is_set edits suite) ≡ false → (is_set edits suite ≡ false → content_in now ≡ row.content) → content_in (changed edit now) ≡ row.content
    of edit now h2 h3 = search arith

still_none : (edits : Edits) (suite : ℕ) → is_set edits suite ≡ false → seen edits suite None ≡ None
still_none [] suite is = refl
still_none (e ∷ edits) suite is =
    elim (e.0 == suite) as (λ b. ((b && sets_content e.1) || is_set edits suite) ≡ false → cond b (changed e.1 (seen edits suite None)) (seen edits suite None) ≡ None) [
      | true ↦ λ is. of e.1 (seen edits suite None) is (still_none edits suite)
      | false ↦ λ is. still_none edits suite is
    ] is
  where
    of : (edit : Edit) (now : Option Row) → (sets_content edit || is_set edits suite) ≡ false → (is_set edits suite ≡ false → now ≡ None) → changed edit now ≡ None
    of edit now h2 h3 = search arith

content_stays : (edits : Edits) (suite : ℕ) (row : Option Row) → is_set edits suite ≡ false → content_in row ≡ content_in (seen edits suite row)
content_stays edits suite row h3 = search (stays, still_none, arith)

-- a part of a row stays where no edit sets it
pub neither : (a b : Bool) → (a || b) ≡ false → (a ≡ false) × (b ≡ false)
neither a b h2 = search arith

pub part_stays : {A : Type 0} (part : Row → A) (kind : Edit → Bool) → ((edit : Edit) (row : Option Row) → kind edit ≡ false → option_map part row ≡ option_map part (changed edit row))
    → (edits : Edits) (suite : ℕ) (row : Option Row) → some kind edits suite ≡ false → option_map part row ≡ option_map part (seen edits suite row)
part_stays part kind keeps [] suite row is = refl
part_stays part kind keeps (e ∷ edits) suite row is =
    elim (e.0 == suite) as (λ b. ((b && kind e.1) || some kind edits suite) ≡ false → option_map part row ≡ option_map part (cond b (changed e.1 (seen edits suite row)) (seen edits suite row))) [
      | true ↦ λ is. let both = neither (kind e.1) (some kind edits suite) is in part_stays part kind keeps edits suite row both.1 ∙ keeps e.1 (seen edits suite row) both.0
      | false ↦ λ is. part_stays part kind keeps edits suite row is
    ] is

pub keeps_acl : (edit : Edit) (row : Option Row) → sets_acl edit ≡ false → option_map (λ (row : Row). row.acl) row ≡ option_map (λ (row : Row). row.acl) (changed edit row)
keeps_acl edit row h2 = search arith

pub keeps_votes : (edit : Edit) (row : Option Row) → sets_votes edit ≡ false → option_map (λ (row : Row). row.votes) row ≡ option_map (λ (row : Row). row.votes) (changed edit row)
keeps_votes edit row h2 = search arith

-- an edit that makes no row leaves one where there was one
keeps_row : (edit : Edit) (row : Option Row) → makes edit ≡ false → option_map (λ (row : Row). true) row ≡ option_map (λ (row : Row). true) (changed edit row)
keeps_row edit row h2 = search arith

was_there : (before after : Option Row) (row : Row) → option_map (λ (row : Row). true) before ≡ option_map (λ (row : Row). true) after → head (Some row) ≡ head after → is_some before ≡ true
was_there before after row h3 h4 = search arith

-- no edit takes a row away
none_before : (edits : Edits) (suite : ℕ) (row : Option Row) → seen edits suite row ≡ None → row ≡ None
none_before [] suite row is = is
none_before (e ∷ edits) suite row is =
    elim (e.0 == suite) as (λ b. cond b (changed e.1 (seen edits suite row)) (seen edits suite row) ≡ None → row ≡ None) [
      | true ↦ λ is. none_before edits suite row (of e.1 (seen edits suite row) is)
      | false ↦ λ is. none_before edits suite row is
    ] is
  where
    of : (edit : Edit) (now : Option Row) → changed edit now ≡ None → now ≡ None
    of edit now h2 = search arith

-- a row is what it is without its content, and its content
same_rows : (a b : Option Row) → head a ≡ head b → content_in a ≡ content_in b → a ≡ b
same_rows a b h2 h3 = search arith

none_alike : (row : Option Row) → None ≡ head row → row ≡ None
none_alike row h1 = search arith

pub changes_lead_on : ChangesLeadOn
changes_lead_on service known rows t caller ops ended suite agrees is =
    subst (λ change. TellsAt change (row_of rows suite) (row_of (with_edits rows ended.edits) suite)) (sym (found (change_of known ended.edits) ended.edits suite))
    (subst (λ after. TellsAt (if_touched (touches ended.edits suite) (change_of known ended.edits suite)) (row_of rows suite) after) (sym (row_of-with_edits rows ended.edits suite))
    (by_touch (touches ended.edits suite) refl))
  where
    of_row : head (known_rows known suite) ≡ head (row_of rows suite) → (now : Option Row) → seen ended.edits suite (known_rows known suite) ≡ now
        → TellsAt
        (option_map (λ row. record {
          made = some makes ended.edits suite;
          acl = some sets_acl ended.edits suite;
          votes = some sets_votes ended.edits suite;
          content = is_set ended.edits suite;
          row = row;
        }) now) (row_of rows suite) (seen ended.edits suite (row_of rows suite))
    of_row heads (Some row) was = record {
      row = ap head (sym was) ∙ head_seen ended.edits suite (known_rows known suite) (row_of rows suite) heads;
      whole = λ told. of_told told;
      content = content_stays ended.edits suite (row_of rows suite);
      acl = part_stays (λ (row : Row). row.acl) sets_acl keeps_acl ended.edits suite (row_of rows suite);
      votes = part_stays (λ (row : Row). row.votes) sets_votes keeps_votes ended.edits suite (row_of rows suite);
      made = λ not. was_there (row_of rows suite) (seen ended.edits suite (row_of rows suite)) row
          (part_stays (λ (row : Row). true) makes keeps_row ended.edits suite (row_of rows suite) not)
          (ap head (sym was) ∙ head_seen ended.edits suite (known_rows known suite) (row_of rows suite) heads);
    }
      where
        of_set : is_set ended.edits suite ≡ true → Some row ≡ seen ended.edits suite (row_of rows suite)
        of_set set = sym was ∙ same_rows (seen ended.edits suite (known_rows known suite)) (seen ended.edits suite (row_of rows suite))
            (head_seen ended.edits suite (known_rows known suite) (row_of rows suite) heads) (content_seen ended.edits suite (known_rows known suite) (row_of rows suite) heads set)

        of_known : (b : Bool) → is_set ended.edits suite ≡ b → (b || is_opened (known_of known suite)) ≡ true → Some row ≡ seen ended.edits suite (row_of rows suite)
        of_known b h1 h2 = search (of_set, opened_same, arith)

        of_told : (is_set ended.edits suite ≡ true) ⊎ (some sets_votes ended.edits suite ≡ true) → Some row ≡ seen ended.edits suite (row_of rows suite)
        of_told h0 = search (of_set, of_known, knows_whose_votes, arith)
    of_row heads None was =
        none_alike (seen ended.edits suite (row_of rows suite)) (ap head (sym was) ∙ head_seen ended.edits suite (known_rows known suite) (row_of rows suite) heads)
        ∙ sym (none_alike (row_of rows suite) (ap head (sym (none_before ended.edits suite (known_rows known suite) was)) ∙ heads))

    by_touch : (b : Bool) → touches ended.edits suite ≡ b → TellsAt (if_touched b (change_of known ended.edits suite)) (row_of rows suite) (seen ended.edits suite (row_of rows suite))
    by_touch false not = untouched ended.edits suite (row_of rows suite) not
    by_touch true touched =
        of_row (held_head Exclusive (known_of known suite) (row_of rows suite) (agrees suite)
        (touched_held known ended.edits suite (sets_what_is_held service known t caller ops ended is) touched)) (seen ended.edits suite (known_rows known suite)) refl

pub changes_by_suite : ChangesBySuite
changes_by_suite known edits suite = search (found, arith)
