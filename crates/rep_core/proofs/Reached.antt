-- The laws of whole runs.
use Rattle.rep_core.proofs.Vocabulary.{◌≡◌, ℕ, Bool, true, false, cond, List, [], ◌∷◌, ◌++◌, refl, sym, ap, ◌∙◌, arith, ◌&&◌, not, or_parts, nat_tests, same_Some, Opening, Lock, Request, Stamped, State, opening, is_full, served, step, IsConsistent}
use Rattle.rep_core.proofs.Vocabulary.{after_all, reached, ExclusiveStandsAlone, LocksRise, BusyNamesTheLeast, PreparedStands, IntentionsHaveLocks, StoresAreSound, SuitesAreFew, is_finish, finished_by}
use Rattle.rep_core.proofs.Members.{Has, has_from, contains_from}
use Rattle.rep_core.proofs.Ways.{by_request, room}
use Rattle.rep_core.proofs.Stays.{Stands, itself, stays_ways, stands_on}
use Rattle.rep_core.proofs.Least.{same_lock, busy_least}
use Rattle.rep_core.proofs.IntentionLookups.{get_has}
use Rattle.rep_core.proofs.Consistent.{consistent_opening, consistent_step}

pub consistent_all : (asked : List (Stamped Request)) (st : State) → IsConsistent st → IsConsistent (after_all st asked)
consistent_all [] st is = is
consistent_all (first ∷ later) st is = consistent_all later (step st first) (consistent_step st first is)

-- every server that was reached is consistent
pub always_consistent : (index : ℕ) (given : Opening) (asked : List (Stamped Request)) → IsConsistent (reached index given asked)
always_consistent index given asked = consistent_all asked (opening index given) (consistent_opening index given)

pub exclusive_alone : ExclusiveStandsAlone
exclusive_alone index given asked = (always_consistent index given asked).alone

pub locks_rise : LocksRise
locks_rise index given asked = search (always_consistent index given asked, same_lock, has_from, arith)

pub busy_names_the_least : BusyNamesTheLeast
busy_names_the_least index given before asked holder prepared said = busy_least (reached index given before) (always_consistent index given before).rising asked holder prepared said

pub intentions_have_locks : IntentionsHaveLocks
intentions_have_locks index given asked =
    let is = always_consistent index given asked in
    let intentions = (reached index given asked).store.intentions in
    record {
      locked = λ suite intention there. is.locked suite intention (get_has intentions suite intention is.sound.rising (has_from intentions (suite, intention) there));
      one_each = λ suite a b there_a there_b.
          same_Some a b (sym (get_has intentions suite a is.sound.rising (has_from intentions (suite, a) there_a)) ∙ get_has intentions suite b is.sound.rising (has_from intentions (suite, b) there_b));
    }

pub stores_are_sound : StoresAreSound
stores_are_sound index given asked = (always_consistent index given asked).sound

pub suites_are_few : SuitesAreFew
suites_are_few index given asked = (always_consistent index given asked).few

-- ---- what is prepared

not_all : (finish up full : Bool) → (finish && up && not full) ≡ false → full ≡ false → up ≡ true → finish ≡ true → ⊥
not_all finish up full other none is_up is = grind (arith, nat_tests)

stands_step : (st : State) (asked : Stamped Request) (l : Lock) → Has st.locks l → l.prepared ≡ true → (is_finish l.t asked.value && st.up && not (is_full st asked)) ≡ false → Stands (step st asked).locks l
stands_step st asked l has prepared other =
    elim (is_full st asked) as (λ b. is_full st asked ≡ b → Stands (cond b st (served st asked)).locks l) [
      | true ↦ λ _. (l, has, itself l prepared)
      | false ↦ λ none. by_request st (λ request new. (st.up ≡ true → is_finish l.t request ≡ true → ⊥) → Stands new.locks l) (stays_ways st l has prepared) asked.value (room st asked none)
          (λ up is. not_all (is_finish l.t asked.value) st.up (is_full st asked) other none up is)
    ] refl

pub stands_all : (asked : List (Stamped Request)) (st : State) (l : Lock) → Has st.locks l → l.prepared ≡ true → finished_by l.t st asked ≡ false → Stands (after_all st asked).locks l
stands_all [] st l has prepared other = (l, has, itself l prepared)
stands_all (first ∷ later) st l has prepared other =
    let parts = or_parts (is_finish l.t first.value && st.up && not (is_full st first)) (finished_by l.t (step st first) later) other in
    let next = stands_step st first l has prepared parts.0 in
    let rest : finished_by next.0.t (step st first) later ≡ false = ap (λ t. finished_by t (step st first) later) next.2.t ∙ parts.1 in
    stands_on _ l next.0 next.2 (stands_all later (step st first) next.0 next.1 next.2.prepared rest)

pub after_both : (before later : List (Stamped Request)) (st : State) → after_all st (before ++ later) ≡ after_all (after_all st before) later
after_both [] later st = refl
after_both (first ∷ before) later st = after_both before later (step st first)

pub prepared_stand : PreparedStands
prepared_stand index given before later l has prepared other = search (stands_all, has_from, after_both, contains_from, arith)
