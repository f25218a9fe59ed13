-- What crates above use of sets of servers: a wider set has more votes, and a quorum has a voting member.
use Rattle.vote_core.proofs.Vocabulary.{◌≡◌, ℕ, ◌<◌, ◌≤◌, Bool, true, false, cond, eqb, IsTrue, List, [], ◌∷◌, suc, refl, inl, inr, arith, Any, cases_Bool, cases_lt, le-leb, eqb-true, Representative, Configuration, votes_in, votes_at, total_votes}
use Rattle.vote_core.proofs.Vocabulary.{is_read_quorum, is_write_quorum, SharedMember, IsValid}
use Rattle.vote_core.proofs.Meet.{reads_meet_writes, writes_meet}

part : (b c : Bool) (n : ℕ) → (b ≡ true → c ≡ true) → cond b n 0 ≤ cond c n 0
part true c n wider = rw (wider refl) (omega arith)
part false c n wider = omega arith

-- a wider set has at least the votes of a set
pub votes_in-wider : (reps : List Representative) (set wider : ℕ → Bool) → ((server : ℕ) → IsTrue (set server) → IsTrue (wider server)) → votes_in reps set ≤ votes_in reps wider
votes_in-wider [] set wider h = omega arith
votes_in-wider (rep ∷ reps) set wider h = omega (arith, part (set rep.0) (wider rep.0) rep.1 (h rep.0), votes_in-wider reps set wider h)

-- all servers together are a write quorum of valid votes
everyone_writes : (votes : Configuration) → IsValid votes → IsTrue (is_write_quorum votes (λ _. true))
everyone_writes votes valid = le-leb votes.w (total_votes votes.reps) valid.w_in_range.1

-- a quorum has a voting member
pub read_quorum_has_member : (votes : Configuration) → IsValid votes → (set : ℕ → Bool) → IsTrue (is_read_quorum votes set) → SharedMember votes.reps set (λ _. true)
read_quorum_has_member votes valid set quorum = reads_meet_writes votes valid set (λ _. true) quorum (everyone_writes votes valid)

pub write_quorum_has_member : (votes : Configuration) → IsValid votes → (set : ℕ → Bool) → IsTrue (is_write_quorum votes set) → SharedMember votes.reps set (λ _. true)
write_quorum_has_member votes valid set quorum = writes_meet votes valid set (λ _. true) quorum (everyone_writes votes valid)

-- a server with a vote is listed with it
pub voting_listed : (reps : List Representative) (server : ℕ) → 0 < votes_at reps server → Any (λ rep. (rep.0 ≡ server) × (0 < rep.1)) reps
voting_listed [] server some = absurd (omega arith)
voting_listed (rep ∷ reps) server some =
    elim (cases_lt 0 (votes_at reps server)) [
      | inl later ↦ let found = voting_listed reps server later in (suc found.0, found.1, omega (arith, found.2), found.3, found.4)
      | inr none ↦
          let own : 0 < cond (eqb rep.0 server) rep.1 0 = omega arith in
          elim (cases_Bool (eqb rep.0 server)) [
            | inl same ↦ let has = rw same at own in (0, rep, omega arith, refl, (eqb-true rep.0 server same, has))
            | inr other ↦ let has = rw other at own in absurd (omega (arith, has))
          ]
    ]
