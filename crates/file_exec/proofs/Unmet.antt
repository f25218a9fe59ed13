-- What is asked for is not known, and what is set is held.
use Rattle.file_exec.proofs.Vocabulary.{◌≡◌, ℕ, Bool, true, false, cond, List, [], ◌∷◌, Option, Some, None, Result, Ok, refl, sym, ap, ◌∙◌, not, ◌&&◌, list_all, same_Some, Row, Exclusive, Course, Give, Refuse, Look, Read, Set, Need, arith, Hold}
use Rattle.file_exec.proofs.Vocabulary.{Edits, is_set, looked, content_read, unless_set, needs, Ended, ending, Known, is_met, first_unmet, Done, heard, is_held_for, SetsWhatIsHeld, NeedsWhatIsUnmet}

-- where nothing is unmet, the first is met and nothing of the others is unmet
pub met : (known : Known) (need : Need) (later : List Need) → first_unmet known (need ∷ later) ≡ None → (is_met known need ≡ true) × (first_unmet known later ≡ None)
met known need later is = search arith

held_edits : {A E : Type 0} (known : Known) (rows : ℕ → Option Row) (edits : Edits) (course : Course A E) (ended : Ended A) → first_unmet known (needs rows edits course) ≡ None → ending rows edits course ≡ Ok ended
    → list_all (is_held_for known) edits ≡ true → list_all (is_held_for known) ended.edits ≡ true
held_edits {A = A} known rows edits (Give given) ended unmet is held = search arith
held_edits known rows edits (Refuse why) ended unmet is held = cc
held_edits known rows edits (Look suite mode later) ended unmet is held =
    held_edits known rows edits (later (looked rows edits suite)) ended (met known (Hold suite mode) _ unmet).1 is held
held_edits known rows edits (Read suite later) ended unmet is held =
    held_edits known rows edits (later (content_read rows edits suite)) ended (of (is_set edits suite) unmet) is held
  where
    of : (b : Bool) → first_unmet known (unless_set b suite (needs rows edits (later (content_read rows edits suite)))) ≡ None → first_unmet known (needs rows edits (later (content_read rows edits suite))) ≡ None
    of b h1 = search (met, arith)
held_edits known rows edits (Set suite edit later) ended unmet is held =
    let now = met known (Hold suite Exclusive) _ unmet in
    held_edits known rows ((suite, edit) ∷ edits) later ended now.1 is (both (is_held_for known (suite, edit)) now.0 held)
  where
    both : (a : Bool) {b : Bool} → a ≡ true → b ≡ true → (a && b) ≡ true
    both a h1 h2 = search arith

pub done_unmet : {A E : Type 0} (unmet : Option Need) (end end' : Result (Ended A) E) → heard unmet end ≡ Done end' → (unmet ≡ None) × (end ≡ end')
done_unmet unmet end end' h3 = search arith

pub sets_what_is_held : SetsWhatIsHeld
sets_what_is_held service known t caller ops ended is = search (done_unmet, held_edits, arith)

unmet_found : (known : Known) (needed : List Need) (need : Need) → first_unmet known needed ≡ Some need → is_met known need ≡ false
unmet_found known [] need is = cc
unmet_found known (first ∷ later) need is =
    elim (is_met known first) as (λ b. is_met known first ≡ b → cond (not b) (Some first) (first_unmet known later) ≡ Some need → is_met known need ≡ false) [
      | true ↦ λ _ is. unmet_found known later need is
      | false ↦ λ fails is. ap (is_met known) (sym (same_Some first need is)) ∙ fails
    ] refl is

pub needs_what_is_unmet : NeedsWhatIsUnmet
needs_what_is_unmet service known t caller ops need is = search (unmet_found, arith)
