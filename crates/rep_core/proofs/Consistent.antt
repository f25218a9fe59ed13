-- A server is consistent as it opens, and stays so whatever it is asked.
use Rattle.rep_core.proofs.Vocabulary.{◌≡◌, ℕ, ◌≤◌, Bool, true, false, cond, List, [], ◌∷◌, Option, Some, Less, refl, sym, ◌∙◌, arith, ◌==◌, ◌&&◌, ◌||◌, not, filter, list_all, AllByRecursion, keys_of, nat_cmp, and_parts, nat_tests, nat_cmp_total}
use Rattle.rep_core.proofs.Vocabulary.{same_Some, none-some, IsOrdered, get, insert, IsOrdered-insert, Opening, LockMode, is_exclusive, serves, Intention, Lock, Part, Request, Stamped, rise, is_own, has_lock_for, locked, prepared_lock, with_prepared}
use Rattle.rep_core.proofs.Vocabulary.{released, Store, IsSound, copy_of, is_keep, goes_with, is_sound_part, lists_twice, with_intention, with_intentions, suites_with, max_suites, State, opening, prepares, is_answered, step, IsAlone, HasPreparedLock}
use Rattle.rep_core.proofs.Vocabulary.{IntentionsLocked, IsConsistent, ConsistencyIsKept, finished}
use Rattle.std.specs.List.Sorted.{IsStrictlySortedBy}
use Rattle.rep_core.proofs.Members.{Has, has_from, contains_from, map_has, has_any, any_has, all_at}
use Rattle.rep_core.proofs.Finding.{find_some}
use Rattle.rep_core.proofs.Rising.{rise_filter, rise_locked, rise_prepared}
use Rattle.rep_core.proofs.Ways.{Ways, laid, by_step}
use Rattle.rep_core.proofs.Alone.{Alone, own_is, alone_ways}
use Rattle.rep_core.proofs.Stays.{Stands, stands_locked, stands_filter, stands_prepared as still_prepared, kept_by_break}
use Rattle.rep_core.proofs.Intentions.{get-without}
use Rattle.rep_core.proofs.IntentionLookups.{part_of, planned, get-with_intentions}
use Rattle.rep_core.proofs.Soundness.{sound_intended, sound_answered, sound_dropped, sound_opening}
use Rattle.rep_core.proofs.Fewness.{all_ordered, ordered_opening, few_opening, few_intended, few_finished}

-- ---- what a Prepare has looked at

pub record Looked (st : State) (t : ℕ) (parts : List Part) : Type 0 where
  pub locks : list_all (has_lock_for t st.locks) parts ≡ true
  pub once : lists_twice parts ≡ false
  pub sound : list_all (is_sound_part st.store) parts ≡ true

pub looked : (st : State) (t : ℕ) (parts : List Part) → prepares st t parts ≡ true → Looked st t parts
looked st t parts does = search arith

-- ---- locks rise

rise_ways : (st : State) → rise st.locks ≡ true → Ways st (λ _ new. rise new.locks ≡ true)
rise_ways st up = search (rise_locked, rise_prepared, rise_filter, arith)

-- ---- intentions beside their locks

serves_exclusive : (have want : LockMode) → serves have want ≡ true → is_exclusive want ≡ true → is_exclusive have ≡ true
serves_exclusive have want h2 h3 = search arith

-- a lock that stands prepared through a change
beside_later : (old new : List Lock) (t suite : ℕ) → HasPreparedLock old t suite → ((l : Lock) → Has old l → l.prepared ≡ true → l.t ≡ t → Stands new l) → HasPreparedLock new t suite
beside_later old new t suite beside stands = search (has_from old beside.lock beside.there, contains_from, serves_exclusive, arith)

locked_with : (st : State) (t suite : ℕ) (mode : LockMode) → IntentionsLocked st → IntentionsLocked (record st { locks = locked t suite mode st.locks })
locked_with st t suite mode locks z intention has =
    beside_later st.locks (locked t suite mode st.locks) intention.t z (locks z intention has) (λ l there p _. stands_locked t suite mode st.locks l there p)

other_than : (t u : ℕ) (l : Lock) → (u == t) ≡ false → l.t ≡ u → not (l.t == t) ≡ true
other_than t u l e is = grind (arith, nat_tests)

locked_finish : (st : State) (t : ℕ) (answered : Bool) → IsOrdered nat_cmp st.store.intentions → IntentionsLocked st → IntentionsLocked (record st { store = finished t answered st.store; locks = released t st.locks })
locked_finish st t answered rising locks suite intention has =
    let was = get-without t st.store.intentions suite intention rising has in
    beside_later st.locks (released t st.locks) intention.t suite (locks suite intention was.0)
    (λ l there p is. stands_filter (λ l. not (l.t == t)) st.locks l there p (other_than t intention.t l was.1 is))

locked_filter : (st : State) (q : Lock → Bool) → ((l : Lock) → l.prepared ≡ true → q l ≡ true) → (up : Bool) → IntentionsLocked st → IntentionsLocked (record st { locks = filter q st.locks; up = up })
locked_filter st q spares up locks suite intention has =
    beside_later st.locks (filter q st.locks) intention.t suite (locks suite intention has) (λ l there p _. stands_filter q st.locks l there p (spares l p))

is_itself : (a b : ℕ) → a ≡ b → (a == b) ≡ true
is_itself a b e = grind (arith, nat_tests)

same_number : (a b : ℕ) → (a == b) ≡ true → a ≡ b
same_number a b e = grind (arith, nat_tests)

now_prepared : (p a b : Bool) → a ≡ true → b ≡ true → (p || (a && b)) ≡ true
now_prepared p a b x y = grind (arith, nat_tests)

or_other : (a b : Bool) → (a || b) ≡ true → a ≡ false → b ≡ true
or_other a b either none = grind (arith, nat_tests)

-- a part that is kept leaves its intention beside a lock
new_locked : (st : State) (t : ℕ) (parts : List Part) (suite : ℕ) (part : Part) → Looked st t parts → part_of suite parts ≡ Some part → is_keep part.take ≡ false → HasPreparedLock (with_prepared t parts st.locks) t suite
new_locked st t parts suite part sees is changes =
    let found = find_some (λ part. part.suite == suite) parts part is in
    let here : part.suite ≡ suite = same_number part.suite suite found.1 in
    let any = any_has (λ lock. is_own t part.suite lock && serves lock.mode part.mode) st.locks (all_at (has_lock_for t st.locks) parts part sees.locks found.0) in
    let l = any.0 in
    let tests = and_parts (is_own t part.suite l) (serves l.mode part.mode) any.2 in
    let own = own_is t part.suite l tests.0 in
    let of_part = and_parts (is_keep part.take || is_exclusive part.mode) (goes_with part.take (copy_of st.store part.suite)) (all_at (is_sound_part st.store) parts part sees.sound found.0) in
    record {
      lock = prepared_lock t parts l;
      there = contains_from (with_prepared t parts st.locks) (prepared_lock t parts l) (map_has (prepared_lock t parts) st.locks l any.1);
      of_it = own.0;
      on_it = own.1 ∙ here;
      exclusive = serves_exclusive l.mode part.mode tests.1 (or_other (is_keep part.take) (is_exclusive part.mode) of_part.0 changes);
      prepared = search (now_prepared, is_itself, has_any, arith);
    }

locked_prepare : (st : State) (t : ℕ) (parts : List Part) → Looked st t parts → IntentionsLocked st → IntentionsLocked (laid t parts st)
locked_prepare st t parts sees locks suite intention has = by_part (part_of suite parts) refl (sym (get-with_intentions t parts st.store.intentions suite sees.once) ∙ has)
  where
    old : get nat_cmp st.store.intentions suite ≡ Some intention → HasPreparedLock (with_prepared t parts st.locks) intention.t suite
    old was = beside_later st.locks (with_prepared t parts st.locks) intention.t suite (locks suite intention was) (λ l there p _. still_prepared t parts st.locks l there p)

    by_part : (o : Option Part) → part_of suite parts ≡ o → planned t o (get nat_cmp st.store.intentions suite) ≡ Some intention → HasPreparedLock (with_prepared t parts st.locks) intention.t suite
    by_part o h1 h2 = search (old, same_Some, new_locked, arith)

locked_ways : (st : State) → IsOrdered nat_cmp st.store.intentions → IntentionsLocked st → Ways st (λ _ new. IntentionsLocked new)
locked_ways st rising locks = search (locked_with, locked_prepare, looked, locked_finish, locked_filter, kept_by_break, arith)

-- ---- a sound store

ordered-with_intentions : (t : ℕ) (parts : List Part) (intentions : List (ℕ × Intention)) → IsOrdered nat_cmp intentions → IsOrdered nat_cmp (with_intentions t parts intentions)
ordered-with_intentions t [] intentions rising = rising
ordered-with_intentions t (part ∷ parts) intentions rising =
    ordered-with_intentions t parts (with_intention t part intentions)
    (elim (is_keep part.take) as (λ b. IsOrdered nat_cmp (cond b intentions (insert nat_cmp intentions part.suite (record { t = t; take = part.take })))) [
      | true ↦ rising
      | false ↦ IsOrdered-insert nat_cmp_total intentions part.suite (record { t = t; take = part.take }) rising
    ])

module _ {V : Type 0} (q : ℕ × V → Bool) where
  below-filter : (a : ℕ) (pairs : List (ℕ × V)) → AllByRecursion (λ b. nat_cmp a b ≡ Less) (keys_of pairs) → AllByRecursion (λ b. nat_cmp a b ≡ Less) (keys_of (filter q pairs))
  below-filter a [] all = tt
  below-filter a (e ∷ es) all = search (below-filter a es, arith)

  pub ordered-filter : (pairs : List (ℕ × V)) → IsOrdered nat_cmp pairs → IsOrdered nat_cmp (filter q pairs)
  unfolding IsStrictlySortedBy
  ordered-filter [] rising = rising
  ordered-filter (e ∷ es) rising = search (below-filter e.0 es rising.0, ordered-filter es, arith)

pub sound_finished : (store : Store) (t : ℕ) (answered : Bool) → IsSound store → IsSound (finished t answered store)
sound_finished store t true sound = sound_answered store t sound (ordered-filter (λ pair. not (pair.1.t == t)) store.intentions sound.rising)
sound_finished store t false sound = sound_dropped store t sound (ordered-filter (λ pair. not (pair.1.t == t)) store.intentions sound.rising)

sound_ways : (st : State) → IsSound st.store → Ways st (λ _ new. IsSound new.store)
sound_ways st sound = record {
  same = λ _. sound;
  poll = λ t suite mode free. sound;
  upgrade = λ t suite has free. sound;
  prepare = λ t parts does few. sound_intended st.store t parts sound (looked st t parts does).sound few (ordered-with_intentions t parts st.store.intentions sound.rising);
  decide = λ t decision none. sound;
  resolve = λ t none. sound;
  finish = λ t verdict is. sound_finished st.store t (is_answered verdict) sound;
  break = λ t suite. sound;
  crash = sound;
  return = sound;
}

-- ---- few suites

copies_finished : (store : Store) (t : ℕ) (answered : Bool) → IsOrdered nat_cmp store.copies → IsOrdered nat_cmp (finished t answered store).copies
copies_finished store t answered h3 = search (all_ordered, arith)

copies_ways : (st : State) → IsOrdered nat_cmp st.store.copies → Ways st (λ _ new. IsOrdered nat_cmp new.store.copies)
copies_ways st rising = search (copies_finished, arith)

few_ways : (st : State) → IsOrdered nat_cmp st.store.copies → suites_with st.store ≤ max_suites → Ways st (λ _ new. suites_with new.store ≤ max_suites)
few_ways st rising few = search (few_intended, few_finished, arith)

-- ---- all of it

alone_contained : (locks : List Lock) → Alone locks → IsAlone locks
alone_contained locks alone a b has_a has_b = alone a b (has_from locks a has_a) (has_from locks b has_b)

alone_had : (locks : List Lock) → IsAlone locks → Alone locks
alone_had locks alone a b has_a has_b = alone a b (contains_from locks a has_a) (contains_from locks b has_b)

pub consistent_step : (st : State) (asked : Stamped Request) → IsConsistent st → IsConsistent (step st asked)
consistent_step st asked is = record {
  rising = by_step st (λ _ new. rise new.locks ≡ true) (rise_ways st is.rising) (λ _ _ _ holds. holds) asked;
  copies_rise = by_step st (λ _ new. IsOrdered nat_cmp new.store.copies) (copies_ways st is.copies_rise) (λ _ _ _ holds. holds) asked;
  alone = alone_contained _ (by_step st (λ _ new. Alone new.locks) (alone_ways st (alone_had st.locks is.alone)) (λ _ _ _ holds. holds) asked);
  locked = by_step st (λ _ new. IntentionsLocked new) (locked_ways st is.sound.rising is.locked) (λ _ _ _ holds. holds) asked;
  sound = by_step st (λ _ new. IsSound new.store) (sound_ways st is.sound) (λ _ _ _ holds. holds) asked;
  few = by_step st (λ _ new. suites_with new.store ≤ max_suites) (few_ways st is.copies_rise is.few) (λ _ _ _ holds. holds) asked;
}

pub consistent_opening : (index : ℕ) (given : Opening) → IsConsistent (opening index given)
consistent_opening index given = search (ordered_opening index given, alone_contained [] (λ a b has_a has_b _ _. absurd has_a), sound_opening index given, few_opening index given, none-some, arith)

pub consistency_is_kept : ConsistencyIsKept
consistency_is_kept = record { opening = consistent_opening; step = consistent_step }
