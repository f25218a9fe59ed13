-- Votes and quorums, after D. K. Gifford, "Weighted Voting for Replicated Data" (SOSP 1979). What stands in
-- quotation marks is from its abstract. A set of servers is a test on their numbers.
use Rattle.std.specs.Prelude.{ℕ, ◌+◌, ◌<◌, ◌==◌, nat_le, Bool, true, IsTrue, if◌then◌else◌, List, [], ◌∷◌}

-- A representative is one copy of a file: its server, and its votes, which may be none.
-- "every copy of a replicated file is assigned some number of votes"; "copies with no votes"
abbrev pub Representative : Type 0
Representative = ℕ × ℕ

-- the representatives in listed order, and the votes that a read (r) and a write (w) collect
pub record Configuration : Type 0 where
  pub reps : List Representative
  pub r : ℕ
  pub w : ℕ

-- the votes of a set of servers: the sum over the listed representatives in it
abbrev pub votes_in : List Representative → (ℕ → Bool) → ℕ
votes_in [] set = 0
votes_in (rep ∷ reps) set = (if set rep.0 then rep.1 else 0) + votes_in reps set

-- "the total number of votes assigned to the file"
abbrev pub total_votes : List Representative → ℕ
total_votes reps = votes_in reps (λ _. true)

-- the votes of one server
abbrev pub votes_at : List Representative → ℕ → ℕ
votes_at reps server = votes_in reps (λ other. other == server)

-- "a read quorum of r votes to read a file"
abbrev pub is_read_quorum : Configuration → (ℕ → Bool) → Bool
is_read_quorum votes set = nat_le votes.r (votes_in votes.reps set)

-- "a write quorum of w votes to write a file"
abbrev pub is_write_quorum : Configuration → (ℕ → Bool) → Bool
is_write_quorum votes set = nat_le votes.w (votes_in votes.reps set)

-- a server that is in both sets and has a vote
pub record SharedMember (reps : List Representative) (first second : ℕ → Bool) : Type 0 where
  pub server : ℕ
  pub in_first : IsTrue (first server)
  pub in_second : IsTrue (second server)
  pub has_vote : 0 < votes_at reps server

-- "there is a non-null intersection between every read quorum and every write quorum"
abbrev pub ReadsMeetWrites : Configuration → Type 0
ReadsMeetWrites votes =
    (readers writers : ℕ → Bool) → IsTrue (is_read_quorum votes readers) → IsTrue (is_write_quorum votes writers) → SharedMember votes.reps readers writers

-- so is there between every two write quorums; a rule of this project
abbrev pub WritesMeet : Configuration → Type 0
WritesMeet votes =
    (first second : ℕ → Bool) → IsTrue (is_write_quorum votes first) → IsTrue (is_write_quorum votes second) → SharedMember votes.reps first second
