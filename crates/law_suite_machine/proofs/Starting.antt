-- Before anything happens.
use Rattle.law_suite_machine.proofs.Vocabulary.{◌≡◌, ℕ, ◌<◌, Bool, true, false, cond, inl, inr, [], refl, ap, subst, arith, ◌==◌, list_any, Configuration, votes_at, SharedMember, IsValid, Prefix, Replica, Beginning, IsBeginning, prefix_at, WasPrefix}
use Rattle.law_suite_machine.proofs.Vocabulary.{WasCopy, IsQuorum, begun, first_copy, effect}
use Rattle.std.proofs.lemmas.List.Folds.{list_any-from_Any}
use Rattle.vote_core.proofs.QuorumLemmas.{read_quorum_has_member, write_quorum_has_member, voting_listed}
use Rattle.std.specs.List.{IsDistinct}
use Rattle.law_suite_machine.proofs.Places.{at1, itself}
use Rattle.law_suite_machine.proofs.Sound.{Sound}
use Rattle.law_suite_machine.proofs.Rows.{Logged}
use Rattle.law_suite_machine.proofs.Invariant.{Inv, Current, ShowsIn}

-- ---- the register before any write

row_was : (start : Beginning) → IsBeginning start → WasCopy start [] start.row
row_was start is = search arith

never_was_prefix : (start : Beginning) → IsBeginning start → WasPrefix start [] start.never.prefix
never_was_prefix start is = search arith

never_was : (start : Beginning) → IsBeginning start → WasCopy start [] start.never
never_was start is = (never_was_prefix start is, inr (is.no_content, is.empty))

-- its votes were always the same
first_votes : (start : Beginning) → IsBeginning start → start.row.prefix.votes ≡ start.never.prefix.votes
first_votes start is = elim (is.first) [ inl same ↦ ap (λ (c : Replica). c.prefix.votes) same | inr made ↦ made.2 ]

votes_before : (start : Beginning) → IsBeginning start → (p : ℕ) → (prefix_at start [] p).votes ≡ start.never.prefix.votes
votes_before start is p = at1 (λ (v : Prefix). v.votes ≡ start.never.prefix.votes) (λ _. start.never.prefix) start.row.prefix.pver start.row.prefix p (λ _. first_votes start is) (λ _. refl)

start_logged : (start : Beginning) → IsBeginning start → Logged start []
start_logged start is = search arith

-- ---- the first copies

first_were : (start : Beginning) → IsBeginning start → (i : ℕ) → WasCopy start [] (first_copy start i)
first_were start is i = elim (list_any (λ rep. rep.0 == i) start.never.prefix.votes.reps) as (λ b. WasCopy start [] (cond b start.row start.never)) [ true ↦ row_was start is | false ↦ never_was start is ]

-- a server with a vote has the first row
voting_copy : (start : Beginning) (i : ℕ) → 0 < votes_at start.never.prefix.votes.reps i → first_copy start i ≡ start.row
voting_copy start i some = search (voting_listed, list_any-from_Any, itself, arith)

voting_member : (votes : Configuration) → IsValid votes → (set : ℕ → Bool) → IsQuorum votes set → SharedMember votes.reps set (λ _. true)
voting_member votes valid set (inl read) = read_quorum_has_member votes valid set read
voting_member votes valid set (inr write) = write_quorum_has_member votes valid set write

-- each quorum has one
quorum_copy : (start : Beginning) → IsBeginning start → (set : ℕ → Bool) → IsQuorum start.never.prefix.votes set → ShowsIn (first_copy start) set (λ c. c ≡ start.row)
quorum_copy start is set quorum = search (voting_member start.never.prefix.votes is.valid set quorum, voting_copy, arith)

start_current : (start : Beginning) → IsBeginning start → Current start (effect (begun start)) []
start_current start is = record {
  were = first_were start is;
  reach = λ p le set quorum.
      let x = quorum_copy start is set (subst (λ v. IsQuorum v set) (votes_before start is p) quorum) in
      (x.0, x.1, inr (ap (λ (c : Replica). c.prefix.pver) x.2));
  content = λ set quorum.
      let x = quorum_copy start is set (subst (λ v. IsQuorum v set) (first_votes start is) quorum) in
      (x.0, x.1, ap (λ (c : Replica). c.dver) x.2);
}

start_sound : (start : Beginning) → Sound (begun start)
start_sound start = search arith

pub begins : (start : Beginning) → IsBeginning start → Inv start (begun start)
unfolding IsDistinct
begins start is = search (start_sound, first_were, start_current, start_logged, arith)
