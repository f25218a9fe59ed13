-- Votes have no fault exactly where they are accepted.
use Rattle.vote_core.proofs.Vocabulary.{◌≡◌, ℕ, ◌+◌, ◌*◌, ◌<◌, ◌≤◌, Bool, true, false, ◌||◌, eqb, ltb, leb, List, [], ◌∷◌, map, length, All, Option, Some, None, cond, refl, inl, inr, arith, or_parts, or_from, or_cases, eqb-true, eqb-false, ne_eqb}
use Rattle.vote_core.proofs.Vocabulary.{leb-false, lt-leb, le-ltb, length-map, MAX_SERVERS, Representative, Configuration, total_votes, IsValid, IsAccepted, is_out_of_range, lists_twice, has_fault, first_fault}
use Rattle.std.specs.List.{IsDistinct, list_any, AllByRecursion as EachLater}
use Rattle.std.proofs.lemmas.List.Elements.{All-nil, All-head, All-tail}
use Rattle.std.proofs.lemmas.Map.Steps.{length-le_from_distinct_below}
use Rattle.vote_core.specs.declared.fault.VotesFault.{VotesFault}
use Rattle.vote_core.specs.declared.fault.VotesFault.TheVariants.{Empty, UnknownServer, ListedTwice, NoVotes, ThresholdOutOfRange, ReadMissesWrite, WritesDisjoint}

-- each server is known, and has a number that a set can hold
pub each_known : (servers : ℕ) (reps : List Representative) → list_any (λ rep. leb servers rep.0 || leb MAX_SERVERS rep.0) reps ≡ false
    → All (λ rep. rep.0 < servers) reps × All (λ rep. rep.0 < MAX_SERVERS) reps
each_known servers [] none = (All-nil (λ (rep : Representative). rep.0 < servers), All-nil (λ (rep : Representative). rep.0 < MAX_SERVERS))
each_known servers (rep ∷ reps) none = search (or_parts, leb-false, each_known servers reps, arith)

-- no server is listed again
not_again : (server : ℕ) (reps : List Representative) → list_any (λ later. eqb later.0 server) reps ≡ false → EachLater (λ other. eqb server other ≡ false) (map (λ rep. rep.0) reps)
not_again server [] none = tt
not_again server (rep ∷ reps) none = search (or_parts, ne_eqb, eqb-false, not_again server reps, arith)

never_again : (server : ℕ) (reps : List Representative) → EachLater (λ other. eqb server other ≡ false) (map (λ rep. rep.0) reps) → list_any (λ later. eqb later.0 server) reps ≡ false
never_again server [] others = refl
never_again server (rep ∷ reps) others = search (or_from, ne_eqb, eqb-false, never_again server reps, arith)

pub distinct_servers : (reps : List Representative) → lists_twice reps ≡ false → IsDistinct eqb (map (λ rep. rep.0) reps)
unfolding IsDistinct
distinct_servers [] once = tt
distinct_servers (rep ∷ reps) once = search (or_parts, not_again, distinct_servers reps, arith)

pub listed_once : (reps : List Representative) → IsDistinct eqb (map (λ rep. rep.0) reps) → lists_twice reps ≡ false
unfolding IsDistinct
listed_once [] distinct = refl
listed_once (rep ∷ reps) distinct = search (never_again rep.0 reps distinct.0, or_from, listed_once reps, arith)

-- a listed server is below a bound that all are below
listed_below : (bound : ℕ) (reps : List Representative) → All (λ rep. rep.0 < bound) reps → (q : ℕ) → list_any (eqb q) (map (λ rep. rep.0) reps) ≡ true → q < bound
listed_below bound [] each q there = absurd cc
listed_below bound (rep ∷ reps) each q there =
    elim (or_cases (eqb q rep.0) (list_any (eqb q) (map (λ (other : Representative). other.0) reps)) there) [
      | inl here ↦ let first = All-head (λ (other : Representative). other.0 < bound) rep reps each in omega (arith, eqb-true q rep.0 here, first)
      | inr later ↦ listed_below bound reps (All-tail (λ (other : Representative). other.0 < bound) rep reps each) q later
    ]

-- so many servers there are at most
pub few_listed : (reps : List Representative) → All (λ rep. rep.0 < MAX_SERVERS) reps → IsDistinct eqb (map (λ rep. rep.0) reps) → length reps ≤ MAX_SERVERS
few_listed reps each once =
    let few = length-le_from_distinct_below (map (λ (rep : Representative). rep.0) reps) MAX_SERVERS once (listed_below MAX_SERVERS reps each) in
    simp length-map at few

-- where each server is known, none is unknown
none_unknown : (servers : ℕ) (reps : List Representative) → All (λ rep. rep.0 < servers) reps → All (λ rep. rep.0 < MAX_SERVERS) reps → list_any (λ rep. leb servers rep.0 || leb MAX_SERVERS rep.0) reps ≡ false
none_unknown servers [] known numbered = refl
none_unknown servers (rep ∷ reps) known numbered =
    let first_known = lt-leb servers rep.0 (All-head (λ (other : Representative). other.0 < servers) rep reps known) in
    let first_numbered = lt-leb MAX_SERVERS rep.0 (All-head (λ (other : Representative). other.0 < MAX_SERVERS) rep reps numbered) in
    or_from (leb servers rep.0 || leb MAX_SERVERS rep.0) (list_any (λ (other : Representative). leb servers other.0 || leb MAX_SERVERS other.0) reps)
    (or_from (leb servers rep.0) (leb MAX_SERVERS rep.0) first_known first_numbered)
    (none_unknown servers reps (All-tail (λ (other : Representative). other.0 < servers) rep reps known) (All-tail (λ (other : Representative). other.0 < MAX_SERVERS) rep reps numbered))

-- nothing is found: neither the first nor a later one
not_found : {X : Type 0} (b : Bool) (x : X) (rest : Option X) → cond b (Some x) rest ≡ None → (b ≡ false) × (rest ≡ None)
not_found true x rest h = cc
not_found false x rest h = (refl, h)

not_zero : (n : ℕ) → eqb n 0 ≡ false → 0 < n
not_zero n h = let other = eqb-false n 0 h in omega (arith, other)

zero_not : (n : ℕ) → 0 < n → eqb n 0 ≡ false
zero_not n h = ne_eqb n 0 (λ e. omega arith)

-- a threshold in range
in_range : (threshold total : ℕ) → is_out_of_range threshold total ≡ false → (0 < threshold) × (threshold ≤ total)
in_range threshold total h = search arith

range_test : (threshold total : ℕ) → (0 < threshold) × (threshold ≤ total) → is_out_of_range threshold total ≡ false
range_test threshold total h = or_from (eqb threshold 0) (ltb total threshold) (zero_not threshold h.0) (le-ltb total threshold h.1)

pub accepted_without_fault : (servers : ℕ) (votes : Configuration) → first_fault servers votes ≡ None → All (λ rep. rep.1 < 256) votes.reps → IsAccepted servers votes
accepted_without_fault servers votes h few_votes =
    let total = total_votes votes.reps in
    let a1 = not_found (has_fault Empty servers votes) Empty _ h in
    let a2 = not_found (has_fault UnknownServer servers votes) UnknownServer _ a1.1 in
    let a3 = not_found (has_fault ListedTwice servers votes) ListedTwice _ a2.1 in
    let a4 = not_found (has_fault NoVotes servers votes) NoVotes _ a3.1 in
    let a5 = not_found (has_fault ThresholdOutOfRange servers votes) ThresholdOutOfRange _ a4.1 in
    let a6 = not_found (has_fault ReadMissesWrite servers votes) ReadMissesWrite _ a5.1 in
    let a7 = not_found (has_fault WritesDisjoint servers votes) WritesDisjoint _ a6.1 in
    let known = each_known servers votes.reps a2.0 in
    let ranges = or_parts (is_out_of_range votes.r total) (is_out_of_range votes.w total) a5.0 in
    record {
      known = known.0;
      valid = record {
        some_listed = not_zero (length votes.reps) a1.0;
        numbered = known.1;
        few_votes = few_votes;
        listed_once = distinct_servers votes.reps a3.0;
        some_votes = not_zero total a4.0;
        r_in_range = in_range votes.r total ranges.0;
        w_in_range = in_range votes.w total ranges.1;
        reads_meet_writes = leb-false (votes.r + votes.w) total a6.0;
        writes_meet = leb-false (2 * votes.w) total a7.0;
      };
    }

-- what is found where no test passes
none_of_seven : {X : Type 0} (b1 b2 b3 b4 b5 b6 b7 : Bool) (x1 x2 x3 x4 x5 x6 x7 : X) → b1 ≡ false → b2 ≡ false → b3 ≡ false → b4 ≡ false → b5 ≡ false → b6 ≡ false → b7 ≡ false
    → cond b1 (Some x1) (cond b2 (Some x2) (cond b3 (Some x3) (cond b4 (Some x4) (cond b5 (Some x5) (cond b6 (Some x6) (cond b7 (Some x7) None)))))) ≡ None
none_of_seven b1 b2 b3 b4 b5 b6 b7 x1 x2 x3 x4 x5 x6 x7 h1 h2 h3 h4 h5 h6 h7 = rw (h1, h2, h3, h4, h5, h6, h7)

pub no_fault_if_accepted : (servers : ℕ) (votes : Configuration) → IsAccepted servers votes → first_fault servers votes ≡ None
no_fault_if_accepted servers votes accepted =
    let valid = accepted.valid in
    let total = total_votes votes.reps in
    none_of_seven _ _ _ _ _ _ _ _ _ _ _ _ _ _
    (zero_not (length votes.reps) valid.some_listed)
    (none_unknown servers votes.reps accepted.known valid.numbered)
    (listed_once votes.reps valid.listed_once)
    (zero_not total valid.some_votes)
    (or_from (is_out_of_range votes.r total) (is_out_of_range votes.w total) (range_test votes.r total valid.r_in_range) (range_test votes.w total valid.w_in_range))
    (lt-leb (votes.r + votes.w) total valid.reads_meet_writes)
    (lt-leb (2 * votes.w) total valid.writes_meet)

-- a fault is in no accepted votes
pub faulty : {P : Type 0} (servers : ℕ) (votes : Configuration) (fault : VotesFault) → Some fault ≡ first_fault servers votes → IsAccepted servers votes → P
faulty servers votes fault some accepted = let none = no_fault_if_accepted servers votes accepted in cc

-- valid votes list no more than the most servers
pub few_if_valid : (votes : Configuration) → IsValid votes → length votes.reps ≤ MAX_SERVERS
few_if_valid votes valid = few_listed votes.reps valid.numbered valid.listed_once
