-- Prepare moves the machine.
use Rattle.law_server_moves.proofs.Vocabulary.{◌≡◌, ℕ, Bool, true, false, cond, List, [], ◌∷◌, length, Option, Some, None, refl, sym, ap, subst, ◌∙◌, arith, ◌==◌, ◌&&◌, ◌||◌, not, nat_lt, list_any, and_parts, or_parts, nat_tests, get, Replica}
use Rattle.law_server_moves.proofs.Vocabulary.{LockMode, is_exclusive, serves, is_valid_copy, Part, rise, is_own, has_prepared, has_lock_for, IsSound, is_sound, copy_of, left_by, is_keep, goes_with, holds_last, is_sound_part, lists_twice, intended}
use Rattle.law_server_moves.proofs.Vocabulary.{suites_with, max_suites, overfills, State, stands_prepared, can_prepare, prepares, laid, one_each, Beginning, World, set1, Event, IsTake, MayPrepare, hold_of, plan_of, ShowsAt, Shows, part_of, left_of}
use Rattle.law_server_moves.proofs.Vocabulary.{SendsFixed, Sends, prepare_of, moves, Follows}
use Rattle.rep_core.proofs.Finding.{any_find, find_some, all_at, none_at, once_both}
use Rattle.rep_core.proofs.IntentionLookups.{planned, get_unnamed, get-with_intentions}
use Rattle.rep_core.proofs.Consistent.{Looked, looked}
use Rattle.rep_core.proofs.Soundness.{left_sound}
use Rattle.rep_core.specs.Intentions as server
use Rattle.rep_core.specs.declared.request.Request.TheVariants as request
use Rattle.rep_core.specs.declared.reply.Reply.TheVariants as reply
use Rattle.law_suite_machine.specs.Events as events
use Rattle.law_server_moves.proofs.Placing.{here1, here2}
use Rattle.law_server_moves.proofs.Holds.{hold_at-prepared, hold_at-unnamed}
use Rattle.law_server_moves.proofs.Elsewhere.{prepared_apart}
use Rattle.law_server_moves.proofs.Keeping.{shows_moved, stays, nothing}
use Rattle.law_server_moves.proofs.Fit.{take_is}

-- ---- the machine at the server that is asked

plan_by : (t : ℕ) (part : Part) (o : Option server.Intention) (copy : Replica) → events.intended t (left_of part copy) (plan_of o copy) ≡ plan_of (planned t (Some part) o) copy
plan_by t part o copy = search arith

-- the value at a place, by the place that is asked for
at_place : {X : Type 0} (h : X → X) (f : ℕ → X) (t u : ℕ) → cond (u == t) (h (f t)) (f u) ≡ cond (u == t) (h (f u)) (f u)
at_place h f t u = search arith

prepared_here : (z : ℕ) (st : State) (w : World) (i t : ℕ) (parts : List Part) (part : Part) → ShowsAt z st w i → lists_twice parts ≡ false → part_of z parts ≡ Some part
    → ShowsAt z (laid t parts st) (events.prepared w i t (left_of part (copy_of st.store z))) i
prepared_here z st w i t parts part shows once is = search (any_find (λ part. part.suite == z) parts, get-with_intentions t parts st.store.intentions z once, here2, at_place, hold_at-prepared, here1, plan_by, planned, arith)

-- ---- the server's side of the condition

same_suite : (a b : ℕ) → (a == b) ≡ true → a ≡ b
same_suite a b e = grind (arith, nat_tests)

serves_exclusive : (have want : LockMode) → serves have want ≡ true → is_exclusive want ≡ true → is_exclusive have ≡ true
serves_exclusive have want h2 h3 = search arith

or_other : (a b : Bool) → (a || b) ≡ true → a ≡ false → b ≡ true
or_other a b e f = grind (arith, nat_tests)

valid_if : (copy : Replica) → is_sound copy ≡ true → is_valid_copy copy ≡ true
valid_if copy sound = search arith

left_is : (part : Part) (copy x : Replica) → left_of part copy ≡ Some x → (is_keep part.take ≡ false) × (left_by part.take copy ≡ x)
left_is part copy x e = search arith

may_prepare : (z : ℕ) (st : State) (w : World) (i t : ℕ) (parts : List Part) (part : Part) → ShowsAt z st w i → rise st.locks ≡ true → IsSound st.store → Looked st t parts
    → list_any (λ part. holds_last part.take) parts ≡ false → part_of z parts ≡ Some part → SendsFixed w st.locks t part
    → MayPrepare w i t (left_of part (copy_of st.store z))
may_prepare z st w i t parts part shows up sound sees last is sends =
    let copy = copy_of st.store z in
    let here : part.suite ≡ z = same_suite part.suite z (find_some (λ part. part.suite == z) parts part is).1 in
    let has = all_at (has_lock_for t st.locks) (λ part. part.suite == z) parts part sees.locks is in
    let lock = once_both (is_own t z) (λ lock. serves lock.mode part.mode) st.locks (one_each t z st.locks up) (ap (λ s. list_any (λ lock. is_own t s lock && serves lock.mode part.mode) st.locks) (sym here) ∙ has) in
    let of_part = and_parts (is_keep part.take || is_exclusive part.mode) (goes_with part.take (copy_of st.store part.suite)) (all_at (is_sound_part st.store) (λ part. part.suite == z) parts part sees.sound is) in
    let goes : goes_with part.take copy ≡ true = ap (λ s. goes_with part.take (copy_of st.store s)) (sym here) ∙ of_part.1 in
    record {
      lock = record { exclusive = is_exclusive lock.0.mode; prepared = lock.0.prepared };
      stands = shows.lock t ∙ ap hold_of lock.1;
      unanswered = sends.unanswered;
      intends = λ x left.
          let left = left_is part copy x left in
          let new = sends.fixed left.0 in
          record {
            exclusive = serves_exclusive lock.0.mode part.mode lock.2 (or_other (is_keep part.take) (is_exclusive part.mode) of_part.0 left.0);
            new = new.0;
            aimed = new.1;
            take =
                subst (λ (c : Replica). IsTake c new.0 x) (sym shows.copy) (subst (λ (y : Replica). IsTake copy new.0 y) left.1 (take_is part.take copy new.0 left.0 new.2 (valid_if copy (sound.copies z))
                (valid_if (left_by part.take copy) (left_sound part.take copy left.0 goes (none_at (λ part. holds_last part.take) (λ part. part.suite == z) parts part last is) (sound.copies z)))));
          };
    }

-- ---- the request

some_parts : (z : ℕ) (parts : List Part) (part : Part) → part_of z parts ≡ Some part → (length parts == 0) ≡ false
some_parts z [] part is = absurd cc
some_parts z (p ∷ ps) part is = grind (arith, nat_tests)

not_first : (has none : Bool) → has ≡ false → none ≡ false → (has || none) ≡ true → ⊥
not_first has none a b e = grind (arith, nat_tests)

both_tests : (stands can : Bool) → stands ≡ false → can ≡ true → (not stands && can) ≡ true
both_tests stands can a b = grind (arith, nat_tests)

module _ (start : Beginning) (z : ℕ) (home : ℕ → ℕ) (servers : ℕ → State) (i : ℕ) (w : World) (shows : Shows z home servers w) (decision : Event) (t : ℕ) (parts : List Part) where
  preparing : Sends w (servers i).locks t z parts → rise (servers i).locks ≡ true → IsSound (servers i).store → list_any (λ part. holds_last part.take) parts ≡ false → Looked (servers i) t parts → (o : Option Part) → part_of z parts ≡ o
      → Follows start z home (set1 servers i (laid t parts (servers i))) w (prepare_of i t w o)
  preparing sends up sound last sees None e = search (any_find, stays, laid, hold_at-unnamed, get_unnamed, arith)
  preparing sends up sound last sees (Some part) e =
      subst (λ c. Follows start z home (set1 servers i (laid t parts (servers i))) w (events.Prepare i t (left_of part c) ∷ [])) (sym (shows.at i).copy) (record {
        obeys = (may_prepare z (servers i) w i t parts part (shows.at i) up sound sees last e (sends part e), tt);
        shows = shows_moved z home servers i (laid t parts (servers i)) w (events.prepared w i t (left_of part (copy_of (servers i).store z))) shows refl (λ t. refl)
            (prepared_here z (servers i) w i t parts part (shows.at i) sees.once e)
            (λ j apart. prepared_apart z (servers j) w i j apart (shows.at j) t (left_of part (copy_of (servers i).store z)));
      })

  -- where nothing is left to be prepared, none of the parts is of the suite
  prepared_before : Sends w (servers i).locks t z parts → stands_prepared (servers i) t parts ≡ true → (o : Option Part) → part_of z parts ≡ o → Follows start z home (set1 servers i (servers i)) w (prepare_of i t w o)
  prepared_before sends stands None e = nothing start z home servers i w shows
  prepared_before sends stands (Some part) e = absurd (not_first (has_prepared t (servers i).locks) (length parts == 0) (sends part e).first (some_parts z parts part e) stands)

  -- a server that is not full: no take holds the last version
  pub prepare_moves : Sends w (servers i).locks t z parts → rise (servers i).locks ≡ true → IsSound (servers i).store
      → (prepares (servers i) t parts && overfills t (servers i).store parts) ≡ false → (stands can : Bool) → stands_prepared (servers i) t parts ≡ stands
      → can_prepare (servers i) t parts ≡ can
      → Follows start z home (set1 servers i (cond (not stands && can) (laid t parts (servers i)) (servers i))) w (moves z home decision i w (request.Prepare t parts) (cond (stands || can) reply.Prepared reply.Lost))
  prepare_moves sends up sound few true can is_stands is_can = prepared_before sends is_stands (part_of z parts) refl
  prepare_moves sends up sound few false true is_stands is_can =
      let does = both_tests (stands_prepared (servers i) t parts) (can_prepare (servers i) t parts) is_stands is_can in
      let room : overfills t (servers i).store parts ≡ false = ap (λ b. b && overfills t (servers i).store parts) (sym does) ∙ few in
      let last = or_parts (list_any (λ part. holds_last part.take) parts) (nat_lt max_suites (suites_with (intended t parts (servers i).store))) room in
      preparing sends up sound last.0 (looked (servers i) t parts does) (part_of z parts) refl
  prepare_moves sends up sound few false false is_stands is_can = nothing start z home servers i w shows
