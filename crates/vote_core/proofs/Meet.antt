-- Quorums that must meet do.
use Rattle.vote_core.proofs.Vocabulary.{ℕ, ◌+◌, ◌<◌, Bool, List, [], ◌∷◌, arith, IsTrue, leb-true, cases_order, Representative, Configuration, votes_in, total_votes, SharedMember, ReadsMeetWrites, WritesMeet, IsValid}

-- a member of the rest is one of the whole
in_rest : (rep : Representative) (reps : List Representative) (first second : ℕ → Bool) → SharedMember reps first second → SharedMember (rep ∷ reps) first second
in_rest rep reps first second shared = search arith

-- a representative with a vote that is in both sets
at_front : (rep : Representative) (reps : List Representative) (first second : ℕ → Bool) → IsTrue (first rep.0) → IsTrue (second rep.0) → 0 < rep.1 → SharedMember (rep ∷ reps) first second
at_front rep reps first second in_first in_second some = search arith

-- two sets whose votes exceed the total share a member that has a vote
pub shared_member : (first second : ℕ → Bool) (reps : List Representative) → total_votes reps < votes_in reps first + votes_in reps second → SharedMember reps first second
shared_member first second [] more = absurd (omega arith)
shared_member first second (rep ∷ reps) more = search (in_rest, cases_order, at_front, shared_member first second reps, arith)

pub reads_meet_writes : (votes : Configuration) → IsValid votes → ReadsMeetWrites votes
reads_meet_writes votes valid readers writers read write = search (leb-true, shared_member, arith)

pub writes_meet : (votes : Configuration) → IsValid votes → WritesMeet votes
writes_meet votes valid first second one other = search (leb-true, shared_member, arith)
