-- Votes that are read are valid.
use Rattle.suite_script.proofs.Vocabulary.{◌≡◌, ℕ, ◌+◌, ◌<◌, ◌≤◌, nat_le, nat_lt, nat_eq, ◌&&◌, List, [], ◌∷◌, All, codes, Option, Some, None, refl, inl, inr}
use Rattle.suite_script.proofs.Vocabulary.{arith, IfOk, IfSome, slice_split, bytes_eq, digits_value, and_parts, cases_Bool, nat_tests, All-cons, All-nil}
use Rattle.suite_script.proofs.Vocabulary.{◌>>=◌, found_or, is_number, number_up_to, Configuration, Representative, IsValid, first_fault, MAX_SERVERS}
use Rattle.suite_script.proofs.Vocabulary.{VotesFault, accepted_without_fault, collected, configuration_in, configuration_of, judged, max_collected, max_votes}
use Rattle.suite_script.proofs.Vocabulary.{reps_from, votes_in, with_field, with_votes, Word, Form}

-- no server has more votes than it may have
abbrev AreFew : List Representative → Type 0
AreFew reps = All (λ rep. rep.1 < 256) reps

number_fits : (limit : ℕ) (word : List ℕ) → IfSome (number_up_to limit word) (λ number. number ≤ limit)
number_fits limit word =
    elim (cases_Bool (is_number word && nat_le (digits_value 10 word) limit)) [
      | inl fits ↦
          let parts = and_parts (is_number word) (nat_le (digits_value 10 word) limit) fits in
          let within : digits_value 10 word ≤ limit = grind (arith, nat_tests, parts) in
          rw fits within
      | inr none ↦ rw none tt
    ]

one_more : (server : ℕ) (votes : Option ℕ) (reps : Option (List Representative)) → IfSome votes (λ number. number ≤ max_votes) → IfSome reps AreFew → IfSome (with_votes server votes reps) AreFew
one_more server (Some votes) (Some reps) fits few = All-cons (λ (rep : Representative). rep.1 < 256) (server, votes) reps (omega (arith, fits)) few
one_more server None (Some reps) fits few = tt
one_more server (Some votes) None fits few = tt
one_more server None None fits few = tt

field_more : (server : ℕ) (field : Word) (reps : Option (List Representative)) → IfSome reps AreFew → IfSome (with_field server field reps) AreFew
field_more server field reps few =
    elim (cases_Bool (bytes_eq field (codes "-"))) [
      | inl unlisted ↦ rw unlisted few
      | inr listed ↦ rw listed (one_more server (number_up_to max_votes field) reps (number_fits max_votes field) few)
    ]

are_few : (server : ℕ) (fields : List Word) → IfSome (reps_from server fields) AreFew
are_few server [] = All-nil (λ (rep : Representative). rep.1 < 256)
are_few server (field ∷ fields) =
    elim (cases_Bool (nat_lt server MAX_SERVERS)) [
      | inl inside ↦ rw inside (field_more server field (reps_from (server + 1) fields) (are_few (server + 1) fields))
      | inr past ↦ rw past tt
    ]

collected_few : (reps : Option (List Representative)) (r w : Option ℕ) → IfSome reps AreFew → IfSome (collected reps r w) (λ votes. AreFew votes.reps)
collected_few (Some reps) (Some r) (Some w) few = few
collected_few (Some reps) (Some r) None few = tt
collected_few (Some reps) None w few = tt
collected_few None r w few = tt

parts_few : (parts : List Word) → IfSome (configuration_of parts) (λ votes. AreFew votes.reps)
parts_few [] = tt
parts_few (fields ∷ []) = tt
parts_few (fields ∷ r ∷ []) = tt
parts_few (fields ∷ r ∷ w ∷ []) =
    collected_few (reps_from 0 (slice_split (λ byte. nat_eq byte 44) fields)) (number_up_to max_collected r) (number_up_to max_collected w) (are_few 0 (slice_split (λ byte. nat_eq byte 44) fields))
parts_few (fields ∷ r ∷ w ∷ more ∷ parts) = tt

judged_in : (servers : ℕ) (votes : Configuration) (fault : Option VotesFault) → first_fault servers votes ≡ fault → AreFew votes.reps → IfOk (judged servers votes) IsValid
judged_in servers votes None none few = rw none (accepted_without_fault servers votes none few).valid
judged_in servers votes (Some fault) some few = rw some tt

found_in : (servers : ℕ) (given : Option Configuration) → IfSome given (λ votes. AreFew votes.reps) → IfOk (◌>>=◌ (found_or given Form) (λ votes. judged servers votes)) IsValid
found_in servers (Some votes) few = judged_in servers votes (first_fault servers votes) refl few
found_in servers None few = tt

pub valid_votes : (servers : ℕ) (text : Word) → IfOk (votes_in servers text) IsValid
valid_votes servers text = found_in servers (configuration_in text) (parts_few (slice_split (λ byte. nat_eq byte 47) text))
