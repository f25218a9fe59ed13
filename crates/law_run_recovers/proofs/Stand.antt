-- What an open server has stored of a suite stands still, unless something is taken from the transaction to which it is open.
use Rattle.law_run_recovers.proofs.Vocabulary.{◌≡◌, ⊎_elim, ℕ, Bool, true, false, Some, None, refl, sym, ap, subst, ◌∙◌, arith, ◌==◌, ◌&&◌, slice_get, slice_set, list_any, nat_cmp, false≢true, eqb-true, eq-eqb, nat_tests, same_Some, get, LockMode}
use Rattle.law_run_recovers.proofs.Vocabulary.{is_exclusive, Lock, Verdict, Request, Intention, IsConsistent, HasPreparedLock, conflicts, in_the_way, copy_of, finished, State, is_answered, Ways, by_request, room, Stepped, served, Has, has_from}
use Rattle.law_run_recovers.proofs.Vocabulary.{has_any, find_none, Fixed, Event, World, server_at, step, same_or, puts_in, is_open_way, way_in}
use Rattle.rep_core.proofs.Intentions.{copy_in-with_copies}
use Rattle.rep_core.specs.declared.request.Request.TheVariants as request
use Rattle.law_run_recovers.proofs.Serves.{Serves, event_serves}

-- a Finish of the transaction finds no lock of it
abbrev pub Spares : ℕ → State → Request → Type 0
Spares t st asked = (named : ℕ) (v : Verdict) → asked ≡ request.Finish named v → ((named == t) && list_any (λ (lock : Lock). lock.t == t) st.locks) ≡ false

-- ---- a copy, whatever is asked

-- what is finished there, and answered, leaves the copy of a suite
abbrev pub Leaves : State → ℕ → Request → Type 0
Leaves st z asked = (t : ℕ) (v : Verdict) → asked ≡ request.Finish t v → is_answered v ≡ true → st.up ≡ true → copy_of (finished t true st.store) z ≡ copy_of st.store z

finish_leaves : (st : State) (z t : ℕ) (v : Verdict) → st.up ≡ true → Leaves st z (request.Finish t v) → copy_of (finished t (is_answered v) st.store) z ≡ copy_of st.store z
finish_leaves st z t v up leaves = elim (is_answered v) as (λ b. is_answered v ≡ b → copy_of (finished t b st.store) z ≡ copy_of st.store z) [ true ↦ λ is. leaves t v refl is up | false ↦ λ _. refl ] refl

-- so it stays: nothing else changes it
pub copy_ways : (st : State) (z : ℕ) → Ways st (λ asked new. Leaves st z asked → copy_of new.store z ≡ copy_of st.store z)
copy_ways st z = grind (room, finish_leaves, arith)

pub copy_served : {w : World} {stepped : Stepped} (it : Serves w stepped) (z : ℕ) → Leaves it.st z it.asked.value → copy_of (served it.st it.asked).store z ≡ copy_of it.st.store z
copy_served it z leaves = by_request it.st _ (copy_ways it.st z) it.asked.value (room it.st it.asked it.room) leaves

-- what is finished of a transaction that intends nothing there leaves it
pub finished_none : (st : State) (t z : ℕ) → IsConsistent st → ((intention : Intention) → get nat_cmp st.store.intentions z ≡ Some intention → intention.t ≡ t → ⊥) → copy_of (finished t true st.store) z ≡ copy_of st.store z
finished_none st t z is none = search (copy_in-with_copies, eqb-true, arith)

-- ---- an intention whose lock would be in the way

pub in_conflict : (t z : ℕ) (mode : LockMode) (lock : Lock) → lock.suite ≡ z → (lock.t == t) ≡ false → is_exclusive lock.mode ≡ true → conflicts t z mode lock ≡ true
in_conflict t z mode lock on other exclusive = search arith

named_so : (named t u : ℕ) → (named == t) ≡ false → u ≡ named → (u == t) ≡ false
named_so named t u apart same = grind (arith, nat_tests)

module _ (st : State) (consistent : IsConsistent st) (t z : ℕ) (mode : LockMode) (free : in_the_way t z mode st.locks ≡ None) where
  -- an intention on the suite is the transaction's own, which has a lock there
  whose : (intention : Intention) → get nat_cmp st.store.intentions z ≡ Some intention → (named : ℕ) → intention.t ≡ named → ((named == t) && list_any (λ (lock : Lock). lock.t == t) st.locks) ≡ true
  whose intention is named same = of (named == t) refl
    where
      beside : HasPreparedLock st.locks intention.t z
      beside = consistent.locked z intention is

      has : Has st.locks beside.lock
      has = has_from st.locks beside.lock beside.there

      of : (b : Bool) → (named == t) ≡ b → (b && list_any (λ (lock : Lock). lock.t == t) st.locks) ≡ true
      of b h1 = search (has_any, has, eq-eqb, eqb-true, false≢true, find_none, in_conflict, named_so, arith)

-- ---- in a world

-- an open server has nothing in the way
pub free_where : (t z : ℕ) (mode : LockMode) (st : State) → is_open_way (way_in t z mode (Some st)) ≡ true → in_the_way t z mode st.locks ≡ None
free_where t z mode st = search arith

module _ (fixed : Fixed) (w : World) (event : Event) (server t z : ℕ) (mode : LockMode) (st new : State) (at : server_at w server ≡ Some st) (now : server_at (step fixed w event).world server ≡ Some new)
    (consistent : IsConsistent st) (free : in_the_way t z mode st.locks ≡ None) where
  -- The copy of a suite at a server where nothing is in the way stays through an event, unless that takes something there from the transaction.
  pub event_stands : ((serves : Serves w (step fixed w event)) → serves.target ≡ server → st.up ≡ true → Spares t st serves.asked.value) → copy_of new.store z ≡ copy_of st.store z
  event_stands spares = ⊎_elim
      (λ same. ap (λ (st : State). copy_of st.store z) (same_Some new st (sym now ∙ ap (λ servers. slice_get servers server) same ∙ at)))
      of
      (event_serves fixed w event)
    where
      of : Serves w (step fixed w event) → copy_of new.store z ≡ copy_of st.store z
      of serves =
          let puts = puts_in w.servers serves.target serves.st (served serves.st serves.asked) serves.at in
          let there : slice_get (slice_set w.servers serves.target (served serves.st serves.asked)) server ≡ Some new = ap (λ servers. slice_get servers server) (sym serves.servers) ∙ now in
          ⊎_elim
          (λ (here : server ≡ serves.target).
          let same : serves.st ≡ st = same_Some serves.st st (sym serves.at ∙ ap (server_at w) (sym here) ∙ at) in
          let is : served serves.st serves.asked ≡ new = same_Some (served serves.st serves.asked) new (sym puts.here ∙ ap (slice_get (slice_set w.servers serves.target (served serves.st serves.asked))) (sym here) ∙ there) in
          let leaves : Leaves st z serves.asked.value =
          λ named v asks answered up. finished_none st named z consistent (λ intention there of_it. false≢true (sym (spares serves (sym here) up named v asks) ∙ whose st consistent t z mode free intention there named of_it)) in
          ap (λ (st : State). copy_of st.store z) (sym is) ∙ copy_served serves z (subst (λ st. Leaves st z serves.asked.value) (sym same) leaves) ∙ ap (λ (st : State). copy_of st.store z) same)
          (λ apart. ap (λ (st : State). copy_of st.store z) (same_Some new st (sym there ∙ puts.apart server apart ∙ at)))
          (same_or server serves.target)
