-- Where a transaction has a lock on a suite no other's exclusive one stands beside it, and the copy stays as it is while it has the lock.
use Rattle.law_run_recovers.proofs.Vocabulary.{◌≡◌, ℕ, Bool, true, false, cond, Option, Some, None, refl, sym, ap, ◌∙◌, arith, ◌==◌, ◌&&◌, ◌||◌, not, slice_get, slice_set, false≢true, eqb-true, eq-eqb, nat_tests, same_Some, Replica, LockMode, Shared}
use Rattle.law_run_recovers.proofs.Vocabulary.{is_exclusive, Lock, Verdict, IsConsistent, conflicts, in_the_way, copy_of, State, after_up, after_down, held, reply_of, served, find_some, Has, contains_from, has_filter, Fixed, Event, World, server_at}
use Rattle.law_run_recovers.proofs.Vocabulary.{step, puts_in}
use Rattle.rep_core.specs.Service.{after}
use Rattle.rep_core.specs.declared.request.Request.TheVariants as request
use Rattle.law_run_recovers.proofs.Serves.{On, Serves}
use Rattle.law_run_recovers.proofs.Stand.{Spares, event_stands}

-- ---- one server

on_it : (a b c d : Bool) → (a && not b && (c || d)) ≡ true → a ≡ true
on_it a b c d is = grind (arith, nat_tests)

of_other : (a b c d : Bool) → (a && not b && (c || d)) ≡ true → b ≡ false
of_other a b c d is = grind (arith, nat_tests)

is_strong : (a b d : Bool) → (a && not b && (false || d)) ≡ true → d ≡ true
is_strong a b d is = grind (arith, nat_tests)

pub free_beside : (st : State) → IsConsistent st → (t z : ℕ) → On st.locks t z → in_the_way t z Shared st.locks ≡ None
free_beside st consistent t z on = of (in_the_way t z Shared st.locks) refl
  where
    of : (found : Option Lock) → in_the_way t z Shared st.locks ≡ found → found ≡ None
    of None is = refl
    of (Some lock) is =
        let some = find_some (conflicts t z Shared) st.locks lock is in
        let suite = eqb-true lock.suite z (on_it (lock.suite == z) (lock.t == t) false (is_exclusive lock.mode) some.1) in
        let other = of_other (lock.suite == z) (lock.t == t) false (is_exclusive lock.mode) some.1 in
        let strong = is_strong (lock.suite == z) (lock.t == t) (is_exclusive lock.mode) some.1 in
        let same : lock.t ≡ on.lock.t = consistent.alone lock on.lock (contains_from st.locks lock some.0) (contains_from st.locks on.lock on.has) (suite ∙ sym on.on_it) strong in
        absurd (false≢true (sym other ∙ eq-eqb lock.t t (same ∙ on.of_it)))

-- a Finish leaves no lock of its transaction
pub freed : (st : State) (u : ℕ) (v : Verdict) (lock : Lock) → st.up ≡ true → Has (cond st.up (after_up st (request.Finish u v)) (after_down st (request.Finish u v))).locks lock → lock.t ≡ u → ⊥
freed st u v lock up has same = search (has_filter, false≢true, eq-eqb, arith)

-- a Poll that is held shows what is stored, and changes nothing of it
pub poll_shows : (st : State) (t suite : ℕ) (mode : LockMode) (copy : Replica) → reply_of st (request.Poll t suite mode) ≡ held copy → ((copy_of st.store suite).prefix ≡ copy.prefix) × ((copy_of st.store suite).dver ≡ copy.dver)
poll_shows st t suite mode copy = search arith

pub poll_leaves : (st : State) (t suite : ℕ) (mode : LockMode) → (after st (request.Poll t suite mode)).store ≡ st.store
poll_leaves st t suite mode = search arith

-- ---- in a world

module _ (fixed : Fixed) (w : World) (event : Event) (server t z : ℕ) (st new : State) (at : server_at w server ≡ Some st) (now : server_at (step fixed w event).world server ≡ Some new)
    (consistent : IsConsistent st) (on : On st.locks t z) (still : On new.locks t z) where
  new_is : (serves : Serves w (step fixed w event)) → serves.target ≡ server → new ≡ served st serves.asked
  new_is serves target =
      let puts = puts_in w.servers serves.target serves.st (served serves.st serves.asked) serves.at in
      let there : slice_get (slice_set w.servers serves.target (served serves.st serves.asked)) server ≡ Some new = ap (λ servers. slice_get servers server) (sym serves.servers) ∙ now in
      let same : serves.st ≡ st = same_Some serves.st st (sym serves.at ∙ ap (server_at w) target ∙ at) in
      same_Some new (served serves.st serves.asked) (sym there ∙ ap (slice_get (slice_set w.servers serves.target (served serves.st serves.asked))) (sym target) ∙ puts.here) ∙ ap (λ st. served st serves.asked) same

  spares : (serves : Serves w (step fixed w event)) → serves.target ≡ server → st.up ≡ true → Spares t st serves.asked.value
  spares serves target up named v is = search (freed, new_is, eqb-true, arith)

  pub copy_stays : copy_of new.store z ≡ copy_of st.store z
  copy_stays = event_stands fixed w event server t z Shared st new at now consistent (free_beside st consistent t z on) spares
