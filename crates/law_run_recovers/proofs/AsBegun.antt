-- A suite whose copies in effect have at a quorum the versions that they had is the register that it was; and where nothing is in the way what is stored is in effect.
use Rattle.law_run_recovers.proofs.Vocabulary.{◌≡◌, ◌≢◌, inl, inr, ℕ, Bool, true, false, cond, Option, Some, None, refl, sym, ap, ◌∙◌, arith, ◌==◌, unwrap_or, nat_cmp, false≢true, eqb-true, get, Opening, LockMode, IsConsistent, conflicts, in_the_way}
use Rattle.law_run_recovers.proofs.Vocabulary.{copy_of, left_by, State, has_from, find_none, server_at, Beginning, row, prefix_at, content_at, Inv, plan_of, Shows, servers_of, home_in}
use Rattle.law_suite_machine.specs.Laws.{Stays}
use Rattle.law_suite_machine.proofs.Knowing.{within_row}
use Rattle.law_suite_machine.specs.Machine.{World, is_answered, Answered, IsQuorum, in_effect, effect}
use Rattle.rep_core.specs.Intentions as server
use Rattle.rep_core.specs.State as state
use Rattle.run_core.specs.Worlds as worlds
use Rattle.law_run_recovers.proofs.Stand.{in_conflict}

-- ---- two machines of a suite

module _ (start : Beginning) (old now : World) (inv_old : Inv start old) (inv_now : Inv start now) (stays : Stays start old now) (set : ℕ → Bool) (quorum : IsQuorum (row start now.log).prefix.votes set)
    (same : (i : ℕ) → set i ≡ true → ((effect now i).prefix.pver ≡ (effect old i).prefix.pver) × ((effect now i).dver ≡ (effect old i).dver)) where
  version_same : (row start now.log).prefix.pver ≡ (row start old.log).prefix.pver
  version_same = search arith

  prefix_same : (row start now.log).prefix ≡ (row start old.log).prefix
  prefix_same = sym inv_now.logged.own.0.1 ∙ ap (prefix_at start now.log) version_same ∙ (stays.prefixes (row start old.log).prefix inv_old.logged.own.0).1

  dver_same : (row start now.log).dver ≡ (row start old.log).dver
  dver_same = search (within_row, arith)

  content_same : (row start now.log).content ≡ (row start old.log).content
  content_same = elim (inv_now.logged.own.1) [
    | inl own ↦ sym own.2 ∙ ap (content_at start now.log) dver_same ∙ elim (inv_old.logged.own.1) [
      | inl was ↦ (stays.contents (row start old.log).dver (row start old.log).content was).2
      | inr none ↦ let some = own.0 in let zero' = none.0 in let both = dver_same in absurd (omega (arith, some, zero', both))
    ]
    | inr none ↦ search (prefix_same, dver_same, arith)
  ]

  pub row_same : row start now.log ≡ row start old.log
  row_same = search (prefix_same, dver_same, content_same, arith)

-- ---- what is in effect where nothing is in the way

module _ (given : Opening) (z : ℕ) (w : World) (world : worlds.World) (shows : Shows z (home_in given) (servers_of given world) w) (all : (i : ℕ) (st : State) → server_at world i ≡ Some st → IsConsistent st)
    (t : ℕ) (mode : LockMode) (unanswered : w.verdict t ≢ Some Answered) where
  none_yet : is_answered (w.verdict t) ≡ false
  none_yet = search arith

  -- where nothing is in a transaction's way that is not answered, what is stored is in effect
  pub stored_effect : (i : ℕ) (st : State) → server_at world i ≡ Some st → in_the_way t z mode st.locks ≡ None → effect w i ≡ copy_of st.store z
  stored_effect i st at free =
      let same : servers_of given world i ≡ st = ap (λ found. unwrap_or found (state.opening i given)) at in
      ap (λ plan. in_effect w.verdict plan (w.copy i)) ((shows.at i).plan ∙ ap (λ (st : State). plan_of (get nat_cmp st.store.intentions z) (copy_of st.store z)) same)
      ∙ ap (in_effect w.verdict (plan_of (get nat_cmp st.store.intentions z) (copy_of st.store z))) ((shows.at i).copy ∙ ap (λ (st : State). copy_of st.store z) same)
      ∙ of (get nat_cmp st.store.intentions z) refl
    where
      of : (found : Option server.Intention) → get nat_cmp st.store.intentions z ≡ found → in_effect w.verdict (plan_of found (copy_of st.store z)) (copy_of st.store z) ≡ copy_of st.store z
      of None is = refl
      of (Some intention) is = by (intention.t == t) refl
        where
          by : (b : Bool) → (intention.t == t) ≡ b → in_effect w.verdict (plan_of (Some intention) (copy_of st.store z)) (copy_of st.store z) ≡ copy_of st.store z
          by true its = ap (λ b. cond b (left_by intention.take (copy_of st.store z)) (copy_of st.store z)) (ap (λ u. is_answered (w.verdict u)) (eqb-true intention.t t its) ∙ none_yet)
          by false other =
              let beside = (all i st at).locked z intention is in
              let has = has_from st.locks beside.lock beside.there in
              absurd (false≢true
              (sym (find_none (conflicts t z mode) st.locks beside.lock free has)
              ∙ in_conflict t z mode beside.lock beside.on_it (ap (λ u. u == t) beside.of_it ∙ other) beside.exclusive))
