-- The copies that a session reads are those that are in effect, so what it tells of a path is the row of the table.
use Rattle.suite_session.proofs.Vocabulary.{◌≡◌, ℕ, zero, suc, ◌<◌, ◌≤◌, ◌==◌, Bool, true, false, if◌then◌else◌, List, [], ◌∷◌, length, unwrap_or, option_map}
use Rattle.suite_session.proofs.Vocabulary.{Option, Some, None, refl, sym, ap, subst, ◌∙◌, arith, nat_tests, All-weaker, list_any_none, none-some, same_Some}
use Rattle.suite_session.proofs.Vocabulary.{slice_get_within, list_any, nat_cmp, slice_get, all_keep, CanBe, answered_in, copy_at, home_in, so_many, Intention}
use Rattle.suite_session.proofs.Vocabulary.{State, copy_in_effect, copy_of, in_effect, left_by, root_copy, run, server_at, Event, get, absent_copy, IsAccepted}
use Rattle.suite_session.proofs.Vocabulary.{Opening, Replica, answered_or, has_answered, in_effect_by, in_effect_in, is_answered, standing, IsTheRow}
use Rattle.suite_session.proofs.Vocabulary.{RowsAreTheTables, Representative}
use Rattle.run_core.specs.Worlds.{World}
use Rattle.rep_core.specs.State as state
use Rattle.suite_session.proofs.TableRows.{ShowEffects, is_the_row}

-- nothing was made there
abbrev IsNever : Replica → Type 0
IsNever copy = (copy.prefix.pver ≡ 0) × (copy.dver ≡ 0)

apart : (a b server : ℕ) → a < b → b ≤ server → (a == server) ≡ false
apart a b server less most = grind (arith, nat_tests)

none_behind : {A : Type 0} (xs : List A) (k : ℕ) → slice_get xs k ≡ None → length xs ≤ k
none_behind [] k is = omega arith
none_behind (x ∷ xs) zero is = absurd (none-some x (sym is))
none_behind (x ∷ xs) (suc k) is = let less = none_behind xs k is in omega (arith, less)

module _ (given : Opening) (events : List Event) (accepted : IsAccepted given) where
  -- no representative of the opening votes is behind the last server
  none_listed : (server : ℕ) → given.servers ≤ server → list_any (λ (rep : Representative). rep.0 == server) given.c0.reps ≡ false
  none_listed server most =
      list_any_none (λ (rep : Representative). rep.0 == server) given.c0.reps
      (All-weaker (λ (rep : Representative). rep.0 < given.servers) (λ (rep : Representative). (rep.0 == server) ≡ false) (λ rep less. apart rep.0 given.servers server less most) given.c0.reps accepted.known_servers)

  opening_never : (z server : ℕ) (listed : Bool) → listed ≡ false
      → IsNever (unwrap_or (get nat_cmp (if listed then (0, root_copy given) ∷ [] else []) z) (absent_copy given.c0))
  opening_never z server true is = absurd cc
  opening_never z server false is = (refl, refl)

  beyond : (z server : ℕ) → given.servers ≤ server → IsNever (copy_at given events z server)
  beyond z server most = of (server_at (run given events) server) refl
    where
      of : (found : Option State) → server_at (run given events) server ≡ found → IsNever (copy_at given events z server)
      of (Some st) is =
          let within = slice_get_within (run given events).servers server st is in
          let many = (so_many given events).0 in
          absurd (omega (arith, within, many, most))
      of None is =
          subst (λ (st : State). IsNever (copy_in_effect st.store (answered_in given events) z)) (sym (ap (λ o. unwrap_or o (state.opening server given)) is))
          (opening_never z server (list_any (λ (rep : Representative). rep.0 == server) given.c0.reps) (none_listed server most))

  -- ---- whether the home answered

  same_answered : (t : ℕ) → is_answered (run given events) given.servers t ≡ answered_in given events t
  same_answered t = of (server_at (run given events) (home_in given t)) refl
    where
      of : (home : Option State) → server_at (run given events) (home_in given t) ≡ home → has_answered (server_at (run given events) (home_in given t)) t ≡ answered_in given events t
      of (Some st) is = rw is refl
      of None is = rw is refl

  module _ (z server : ℕ) (st : State) where
    -- the copy in effect at a server that is there
    abbrev its : Replica
    its = copy_in_effect st.store (answered_in given events) z

    abbrev told : Option Intention → Option Replica
    told found = answered_or (is_answered (run given events) given.servers) (option_map (λ intention. (intention.t, left_by intention.take (copy_of st.store z))) found) (get nat_cmp st.store.copies z)

    stored_some : (copy : Replica) → get nat_cmp st.store.copies z ≡ Some copy → copy ≡ copy_of st.store z
    stored_some copy is = sym (ap (λ o. unwrap_or o (absent_copy st.store.c0)) is)

    stored_none : get nat_cmp st.store.copies z ≡ None → IsNever (copy_of st.store z)
    stored_none is = subst IsNever (sym (ap (λ o. unwrap_or o (absent_copy st.store.c0)) is)) (refl, refl)

    chosen_some : (left copy : Replica) (answered : Bool) → (if answered then Some left else get nat_cmp st.store.copies z) ≡ Some copy → copy ≡ (if answered then left else copy_of st.store z)
    chosen_some left copy true is = sym (same_Some left copy is)
    chosen_some left copy false is = stored_some copy is

    chosen_none : (left : Replica) (answered : Bool) → (if answered then Some left else get nat_cmp st.store.copies z) ≡ None → IsNever (if answered then left else copy_of st.store z)
    chosen_none left true is = absurd (none-some left (sym is))
    chosen_none left false is = stored_none is

    told_some : (copy : Replica) (found : Option Intention) → told found ≡ Some copy → copy ≡ in_effect found (answered_in given events) (copy_of st.store z)
    told_some copy None is = stored_some copy is
    told_some copy (Some intention) is =
        chosen_some (left_by intention.take (copy_of st.store z)) copy (is_answered (run given events) given.servers intention.t) is
        ∙ ap (λ (answered : Bool). if answered then left_by intention.take (copy_of st.store z) else copy_of st.store z) (same_answered intention.t)

    told_none : (found : Option Intention) → told found ≡ None → IsNever (in_effect found (answered_in given events) (copy_of st.store z))
    told_none None is = stored_none is
    told_none (Some intention) is =
        subst (λ (answered : Bool). IsNever (if answered then left_by intention.take (copy_of st.store z) else copy_of st.store z)) (same_answered intention.t)
        (chosen_none (left_by intention.take (copy_of st.store z)) (is_answered (run given events) given.servers intention.t) is)

  -- ---- the copies that a session reads

  abbrev read_at : ℕ → Option State → Option Replica
  read_at z found = in_effect_by (is_answered (run given events) given.servers) found z

  at_server : (z server : ℕ) (st : State) → server_at (run given events) server ≡ Some st → copy_in_effect st.store (answered_in given events) z ≡ copy_at given events z server
  at_server z server st is = sym (ap (λ o. copy_in_effect (unwrap_or o (state.opening server given)).store (answered_in given events) z) is)

  some_read : (z server : ℕ) (copy : Replica) (found : Option State) → server_at (run given events) server ≡ found → read_at z found ≡ Some copy → copy ≡ copy_at given events z server
  some_read z server copy None there is = absurd (none-some copy is)
  some_read z server copy (Some st) there is = told_some z server st copy (get nat_cmp st.store.intentions z) is ∙ at_server z server st there

  none_read : (z server : ℕ) (found : Option State) → server_at (run given events) server ≡ found → read_at z found ≡ None → IsNever (copy_at given events z server)
  none_read z server None there is =
      let most = none_behind (run given events).servers server there in
      let many = (so_many given events).0 in
      beyond z server (omega (arith, most, many))
  none_read z server (Some st) there is = subst IsNever (at_server z server st there) (told_none z server st (get nat_cmp st.store.intentions z) is)

  show_effects : (z : ℕ) → ShowEffects given events (in_effect_in (run given events) given.servers) z
  show_effects z = record {
    some = λ server copy is. some_read z server copy (server_at (run given events) server) refl is;
    none = λ server is. none_read z server (server_at (run given events) server) refl is;
    beyond = beyond z;
  }

-- ---- the law

of_world : (given settings : Opening) (world : World) (events : List Event) (text : List ℕ) → given ≡ settings → CanBe given events → world ≡ run given events
    → IsTheRow settings events text (standing world settings.servers text)
of_world given settings world events text same can is =
    let now = subst (λ given. CanBe given events) same can in
    subst (λ world. IsTheRow settings events text (standing world settings.servers text)) (sym (is ∙ ap (λ given. run given events) same))
    (is_the_row settings events (all_keep settings events now) (in_effect_in (run settings events) settings.servers) (show_effects settings events now.accepted) text)

pub rows_are_the_tables : RowsAreTheTables
rows_are_the_tables open_service events text made = of_world open_service.world.given open_service.settings open_service.world.world events text made.1 made.0.can_be made.0.is
