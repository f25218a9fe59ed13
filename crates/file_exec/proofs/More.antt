-- What knowing more comes to.
use Rattle.file_exec.proofs.Vocabulary.{◌≡◌, ◌<◌, ◌≤◌, Bool, true, false, cond, List, [], ◌∷◌, length, Option, Some, None, Result, refl, sym, ap, ◌∙◌, arith, not, filter, find, same_Some, row_of, Need, Course, Ended, needs, ending, Known, known_rows}
use Rattle.file_exec.proofs.Vocabulary.{is_met, first_unmet, Needs, Done, heard, followed, AgreesWith, on_table, transaction, MoreKnown, MoreKnownChangesNothing, AMetNeedIsProgress, DoneIsTheTables}
use Rattle.file_exec.proofs.Alike.{goes_alike}
use Rattle.file_exec.proofs.OnTable.{on_transaction}

done_unmet : {A E : Type 0} (unmet : Option Need) (end end' : Result (Ended A) E) → heard unmet end ≡ Done end' → (unmet ≡ None) × (end ≡ end')
done_unmet unmet end end' h3 = search arith

needs_unmet : {A E : Type 0} (unmet : Option Need) (end : Result (Ended A) E) (need : Need) → heard unmet end ≡ Needs need → unmet ≡ Some need
needs_unmet unmet end need h3 = search arith

-- what is known less agrees with the rows that are known more
less_agrees : (less more : Known) → MoreKnown less more → AgreesWith less (known_rows more)
less_agrees less more is_more suite = search arith

met_on : (less more : Known) → MoreKnown less more → (need : Need) → is_met less need ≡ true → is_met more need ≡ true
met_on less more h2 need h4 = search arith

-- ---- lists of needs

module _ (less more : Need → Bool) (stays : (need : Need) → less need ≡ true → more need ≡ true) where
  none_left : (needed : List Need) → find (λ need. not (less need)) needed ≡ None → find (λ need. not (more need)) needed ≡ None
  none_left [] is = refl
  none_left (need ∷ needed) is =
      elim (less need) as (λ b. less need ≡ b → cond (not b) (Some need) (find (λ need. not (less need)) needed) ≡ None → cond (not (more need)) (Some need) (find (λ need. not (more need)) needed) ≡ None) [
        | true ↦ λ met is. rw (stays need met) (none_left needed is)
        | false ↦ λ _ is. cc
      ] refl is

  abbrev left_less : List Need → List Need
  left_less needed = filter (λ need. not (less need)) needed

  abbrev left_more : List Need → List Need
  left_more needed = filter (λ need. not (more need)) needed

  no_more_left : (needed : List Need) → length (left_more needed) ≤ length (left_less needed)
  no_more_left [] = omega arith
  no_more_left (need ∷ needed) = search (no_more_left needed, arith)

  fewer_left : (needed : List Need) (need : Need) → find (λ need. not (less need)) needed ≡ Some need → more need ≡ true → length (left_more needed) < length (left_less needed)
  fewer_left [] need is met = cc
  fewer_left (first ∷ needed) need is met =
      elim (less first) as (λ b. less first ≡ b → cond (not b) (Some first) (find (λ need. not (less need)) needed) ≡ Some need
      → length (cond (not (more first)) (first ∷ left_more needed) (left_more needed)) < length (cond (not b) (first ∷ left_less needed) (left_less needed))) [
        | true ↦ λ was is. rw (stays first was) (fewer_left needed need is met)
        | false ↦ λ _ is. let same : first ≡ need = same_Some first need is in let now : more first ≡ true = ap more same ∙ met in rw now (let rest = no_more_left needed in omega arith)
      ] refl is

-- ---- the laws

-- of any course: what was done stays so
pub done_stays : {A E : Type 0} (less more : Known) (course : Course A E) (result : Result (Ended A) E) → MoreKnown less more → followed less (known_rows less) course ≡ Done result → followed more (known_rows more) course ≡ Done result
done_stays less more course result is_more is =
    let alike = goes_alike less (known_rows more) (less_agrees less more is_more) [] (λ _ set. cc) course in
    let both = done_unmet (first_unmet less (needs (known_rows more) [] course)) (ending (known_rows more) [] course) result (sym alike ∙ is) in
    ap (λ unmet. heard unmet (ending (known_rows more) [] course)) (none_left (is_met less) (is_met more) (met_on less more is_more) (needs (known_rows more) [] course) both.0)
    ∙ ap (λ end. Done end) both.1

pub more_known_changes_nothing : MoreKnownChangesNothing
more_known_changes_nothing service less more t caller ops result is_more is = done_stays less more (transaction service t caller ops) result is_more is

pub a_met_need_is_progress : AMetNeedIsProgress
a_met_need_is_progress service less more rows t caller ops need agrees is_more is met =
    let course = transaction service t caller ops in
    let alike = goes_alike less rows agrees [] (λ _ set. cc) course in
    fewer_left (is_met less) (is_met more) (met_on less more is_more) (needs rows [] course) need (needs_unmet (first_unmet less (needs rows [] course)) (ending rows [] course) need (sym alike ∙ is)) met

pub done_is_the_tables : DoneIsTheTables
done_is_the_tables service known rows t caller ops result agrees is =
    let course = transaction service t caller ops in
    let alike = goes_alike known (row_of rows) agrees [] (λ _ set. cc) course in
    let both = done_unmet (first_unmet known (needs (row_of rows) [] course)) (ending (row_of rows) [] course) result (sym alike ∙ is) in
    sym (on_transaction service rows t caller ops) ∙ ap (on_table rows) both.1
