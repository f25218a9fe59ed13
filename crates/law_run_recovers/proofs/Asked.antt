-- Of whom a collector asks, and in which mode: of one that has a vote by the votes that count, as it wants.
use Rattle.law_run_recovers.proofs.Vocabulary.{◌≡◌, inl, inr, ℕ, Bool, true, false, cond, List, [], ◌∷◌, Option, Some, None, refl, sym, ap, subst, ◌∙◌, ◌==◌, ◌&&◌, not, nat_lt, nat_le, find, false≢true, and_parts, and_from, eqb-true, arith, eq-eqb}
use Rattle.law_run_recovers.proofs.Vocabulary.{Representative, LockMode, Shared, Exclusive, serves, Has, any_has, has_any, find_some, newest, holds, has_refused, Collector, Asked, Poll, Upgrade, all_told, counted, wanted, needed, got, is_member}
use Rattle.law_run_recovers.proofs.Vocabulary.{is_left, members_of, version, ask_or_short, mode_asked, Next, Current, Ask, Short, next, has_vote, has_asked, not-true}
use Rattle.law_run_recovers.proofs.Asking.{onto}
use Rattle.law_run_recovers.proofs.Polled.{first_left}

-- ---- lists

pub onto_left : {X : Type 0} (so_far left : List X) (x : X) → Has left x → Has (onto so_far left) x
onto_left [] left x has = has
onto_left (y ∷ so_far) left x has = onto_left so_far (y ∷ left) x (inr has)

pub onto_so_far : {X : Type 0} (so_far left : List X) (x : X) → Has so_far x → Has (onto so_far left) x
onto_so_far [] left x has = absurd has
onto_so_far (y ∷ so_far) left x (inl same) = onto_left so_far (y ∷ left) x (inl same)
onto_so_far (y ∷ so_far) left x (inr has) = onto_so_far so_far (y ∷ left) x has

-- what was asked for in the strongest mode
pub asked_exclusive : (asked : List (ℕ × LockMode)) (z : ℕ) → has_asked asked z Exclusive ≡ true → Has asked (z, Exclusive)
asked_exclusive asked z is =
    let some = any_has (λ (one : ℕ × LockMode). (one.0 == z) && serves one.1 Exclusive) asked is in
    let parts = and_parts (some.0.0 == z) (serves some.0.1 Exclusive) some.2 in
    subst (λ mode. Has asked (z, mode)) (strongest some.0.1 parts.1) (subst (λ z. Has asked (z, some.0.1)) (eqb-true some.0.0 z parts.0) some.1)
  where
    strongest : (mode : LockMode) → serves mode Exclusive ≡ true → mode ≡ Exclusive
    strongest mode h1 = search (false≢true, arith)

-- ---- a collector

module _ (c : Collector) (server : ℕ) (question : Asked) (is : next c ≡ Ask server question) where
  abbrev Left : Type 0
  Left = (rep : Representative) × (find (is_left c) (counted c).reps ≡ Some rep) × (rep.0 ≡ server)

  left : Left
  left = first_left c server question is

  parts : (nat_lt 0 left.0.1 ≡ true) × (is_member c left.0.0 ≡ false)
  parts =
      let test = (find_some (is_left c) (counted c).reps left.0 left.1).1 in
      let front = and_parts (nat_lt 0 left.0.1 && not (is_member c left.0.0)) (not (has_refused (all_told c) left.0.0)) test in
      let votes = and_parts (nat_lt 0 left.0.1) (not (is_member c left.0.0)) front.0 in
      (votes.0, not-true (is_member c left.0.0) votes.1)

  pub next_vote : has_vote (counted c) server ≡ true
  next_vote =
      has_any (λ (rep : Representative). (rep.0 == server) && nat_lt 0 rep.1) (counted c).reps left.0 (find_some (is_left c) (counted c).reps left.0 left.1).0
      (and_from (left.0.0 == server) (nat_lt 0 left.0.1) (eq-eqb left.0.0 server left.2) parts.0)

  pub next_mode : mode_asked question ≡ wanted c
  next_mode = of (nat_le (needed c) (got c)) (find (is_left c) (counted c).reps) refl is
    where
      question_of : Next → Asked
      question_of (Ask who question) = question
      question_of (Current prefix dver members) = question
      question_of (Short had wanting busy) = question

      upgrades : (mode : LockMode) (rep : Representative) → holds mode (all_told c) rep.0 ≡ false → holds Shared (all_told c) rep.0 ≡ true → Exclusive ≡ mode
      upgrades mode rep h2 h3 = search (false≢true, arith)

      by : (rep : Representative) → is_member c rep.0 ≡ false → (b : Bool) → holds Shared (all_told c) rep.0 ≡ b → mode_asked (cond b Upgrade (Poll (wanted c))) ≡ wanted c
      by rep h1 b h3 = search (upgrades, arith)

      of : (b : Bool) (found : Option Representative) → find (is_left c) (counted c).reps ≡ found
          → cond b (Current (newest c.start c.told) (version c) (members_of (counted c) (is_member c))) (ask_or_short c found) ≡ Ask server question → mode_asked question ≡ wanted c
      of true found there is = cc
      of false None there is = cc
      of false (Some rep) there is =
          let test = (find_some (is_left c) (counted c).reps rep there).1 in
          let front = and_parts (nat_lt 0 rep.1 && not (is_member c rep.0)) (not (has_refused (all_told c) rep.0)) test in
          let votes = and_parts (nat_lt 0 rep.1) (not (is_member c rep.0)) front.0 in
          ap (λ after. mode_asked (question_of after)) (sym is) ∙ by rep (not-true (is_member c rep.0) votes.1) (holds Shared (all_told c) rep.0) refl
