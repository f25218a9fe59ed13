-- Where a suite's votes are found, they are those of its row: a prefix that the suite had, of which servers that are up have a quorum, none of which
-- shows a newer one, is the row's, as long as no server that is up has a lock.
use Rattle.law_run_recovers.proofs.Vocabulary.{◌≡◌, inl, inr, ℕ, suc, ◌+◌, ◌≤◌, Bool, true, false, cond, List, [], ◌∷◌, length, Option, Some, None, refl, sym, ap, subst, ◌∙◌, arith, ◌==◌, ◌&&◌, ◌||◌, not, nat_lt, nat_le, unwrap_or, list_any, nat_cmp}
use Rattle.law_run_recovers.proofs.Vocabulary.{false≢true, and_parts, cases_Bool, eqb-true, eq-eqb, and_from, ltb-false, nat_tests, none-some, get, Representative, Configuration, votes_in, Opening, Prefix, Replica, Lock, IsConsistent, copy_of, State}
use Rattle.law_run_recovers.proofs.Vocabulary.{Has, has_from, all_at, any_has, has_any, find_none, Fixed, fixed_of, server_at, Beginning, row, WasPrefix, IsQuorum, in_effect, effect, Inv, plan_of, Shows, beginning, servers_of, home_in, at_has, up_in}
use Rattle.law_run_recovers.proofs.Vocabulary.{is_up, up_free, shown_at, shown_in, newer_by}
use Rattle.law_suite_machine.specs.Machine.{World}
use Rattle.rep_core.specs.Intentions as server
use Rattle.rep_core.specs.State as state
use Rattle.run_core.specs.Worlds as worlds

-- ---- votes of those that have some

abbrev pub has_vote : List Representative → ℕ → Bool
has_vote reps x = list_any (λ (rep : Representative). (rep.0 == x) && nat_lt 0 rep.1) reps

abbrev pub voting : List Representative → (ℕ → Bool) → ℕ → Bool
voting reps set x = set x && has_vote reps x

pub none_left : (n : ℕ) → nat_lt 0 n ≡ false → n ≡ 0
none_left n is = grind (arith, nat_tests)

votes_only : (all : List Representative) (set : ℕ → Bool) (reps : List Representative) → ((rep : Representative) → Has reps rep → Has all rep) → votes_in reps (voting all set) ≡ votes_in reps set
votes_only all set [] within = refl
votes_only all set (rep ∷ reps) within =
    ap (λ n. n + votes_in reps (voting all set)) (here (set rep.0)) ∙ ap (λ n. cond (set rep.0) rep.1 0 + n) (votes_only all set reps (λ other has. within other (inr has)))
  where
    with_vote : nat_lt 0 rep.1 ≡ true → has_vote all rep.0 ≡ true
    with_vote some = has_any (λ (other : Representative). (other.0 == rep.0) && nat_lt 0 other.1) all rep (within rep (inl refl)) (and_from (rep.0 == rep.0) (nat_lt 0 rep.1) (eq-eqb rep.0 rep.0 refl) some)

    no_vote : (b : Bool) → rep.1 ≡ 0 → cond b rep.1 0 ≡ rep.1
    no_vote b h1 = search arith

    here : (b : Bool) → cond (b && has_vote all rep.0) rep.1 0 ≡ cond b rep.1 0
    here b = search (with_vote, no_vote, none_left, cases_Bool, nat_lt, arith)

pub still_quorum : (votes : Configuration) (set : ℕ → Bool) → IsQuorum votes set → IsQuorum votes (voting votes.reps set)
still_quorum votes set quorum = grind (votes_only, nat_le, arith)

-- ---- on the machine of a suite

pub same_top : (e p r : ℕ) → e ≡ r → e ≤ p → p ≤ r → p ≡ r
same_top e p r is most le = omega (arith, is, most, le)

-- a quorum under a prefix that the register had, of which none has a newer one in effect
pub newest_is_row : (start : Beginning) (w : World) → Inv start w → (prefix : Prefix) → WasPrefix start w.log prefix → (set : ℕ → Bool) → IsQuorum prefix.votes set → ((i : ℕ) → set i ≡ true → (effect w i).prefix.pver ≤ prefix.pver)
    → prefix ≡ (row start w.log).prefix
newest_is_row start w inv prefix was set quorum none = search arith

-- ---- in a world

-- Servers that answer are up, and what they have stored is in effect.
pub record Answering (fixed : Fixed) (world : worlds.World) (z : ℕ) (w : World) (answers : ℕ → Bool) : Type 0 where
  pub up : (i : ℕ) → answers i ≡ true → is_up world i ≡ true
  pub stored : (i : ℕ) → answers i ≡ true → (effect w i).prefix ≡ shown_at fixed world z i

pub no_locks : (locks : List Lock) → (length locks == 0) ≡ true → locks ≡ []
no_locks [] is = refl
no_locks (lock ∷ locks) is = let none : suc (length locks) ≡ 0 = eqb-true (suc (length locks)) 0 is in absurd (omega (arith, none))

pub or_rest : (a b : Bool) → a ≡ false → (a || b) ≡ true → b ≡ true
or_rest a b h2 h3 = search arith

module _ (given : Opening) (z : ℕ) (w : World) (world : worlds.World) (inv : Inv (beginning z given) w) (shows : Shows z (home_in given) (servers_of given world) w)
    (all : (i : ℕ) (st : State) → server_at world i ≡ Some st → IsConsistent st) (free : up_free world ≡ true) where
  -- a server that is up
  pub record IsUp (i : ℕ) : Type 0 where
    pub st : State
    pub at : server_at world i ≡ Some st
    pub up : st.up ≡ true
    pub locks : st.locks ≡ []

  pub up_so : (i : ℕ) → is_up world i ≡ true → IsUp i
  up_so i up = of (server_at world i) refl up
    where
      of : (found : Option State) → server_at world i ≡ found → up_in found ≡ true → IsUp i
      of None at up = absurd (false≢true up)
      of (Some st) at up =
          let clear = all_at (λ (st : State). not st.up || (length st.locks == 0)) world.servers st free (at_has world.servers i st at) in
          record { st = st; at = at; up = up; locks = no_locks st.locks (or_rest (not st.up) (length st.locks == 0) (ap not up) clear) }

  -- what it has stored is in effect, and is what it shows
  pub stored_so : (i : ℕ) → is_up world i ≡ true → (effect w i).prefix ≡ shown_at (fixed_of given) world z i
  stored_so i up =
      let up' = up_so i up in
      let is : servers_of given world i ≡ up'.st = ap (λ found. unwrap_or found (state.opening i given)) up'.at in
      let store = up'.st.store in
      let plan = (shows.at i).plan ∙ ap (λ (st : State). plan_of (get nat_cmp st.store.intentions z) (copy_of st.store z)) is
      ∙ ap (λ found. plan_of found (copy_of store z)) (none up'.st (all i up'.st up'.at) (get nat_cmp store.intentions z) refl up'.locks) in
      ap (λ plan. (in_effect w.verdict plan (w.copy i)).prefix) plan
      ∙ ap (λ (copy : Replica). copy.prefix) (shows.at i).copy
      ∙ ap (λ (st : State). (copy_of st.store z).prefix) is
      ∙ sym (ap (λ found. shown_in (fixed_of given) found z) up'.at)
    where
      none : (st : State) → IsConsistent st → (found : Option server.Intention) → get nat_cmp st.store.intentions z ≡ found → st.locks ≡ [] → get nat_cmp st.store.intentions z ≡ None
      none st consistent None is locks = is
      none st consistent (Some intention) is locks =
          let has = consistent.locked z intention is in
          absurd (subst (λ locks. Has locks has.lock) locks (has_from st.locks has.lock has.there))

  -- so all servers answer that are up
  pub all_answer : Answering (fixed_of given) world z w (is_up world)
  all_answer = record { up = λ i up. up; stored = stored_so }

module _ (given : Opening) (z : ℕ) (w : World) (world : worlds.World) (inv : Inv (beginning z given) w) (answers : ℕ → Bool) (answering : Answering (fixed_of given) world z w answers) where
  -- of the voting members that answer none shows a newer prefix
  pub none_newer : (prefix : Prefix) → newer_by (fixed_of given) world answers z prefix ≡ None → (i : ℕ) → voting prefix.votes.reps answers i ≡ true → (effect w i).prefix.pver ≤ prefix.pver
  none_newer prefix none i is = search (and_parts, any_has, nat_lt, eqb-true, find_none, ltb-false, none-some, false≢true, arith)

  pub found_is_row : (prefix : Prefix) → WasPrefix (beginning z given) w.log prefix → newer_by (fixed_of given) world answers z prefix ≡ None → IsQuorum prefix.votes answers → prefix ≡ (row (beginning z given) w.log).prefix
  found_is_row prefix was none quorum =
      newest_is_row (beginning z given) w inv prefix was (voting prefix.votes.reps answers) (still_quorum prefix.votes answers quorum) (none_newer prefix none)
