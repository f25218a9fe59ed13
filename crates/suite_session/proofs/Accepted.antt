-- The settings of a header that was read have no fault.
use Rattle.suite_session.proofs.Vocabulary.{◌≡◌, ◌∙◌, ℕ, ◌-◌, ◌<◌, ◌≤◌, nat_le, nat_lt, nat_eq, Bool, true, false, ◌&&◌, ◌||◌, not, cond, if◌then◌else◌, List}
use Rattle.suite_session.proofs.Vocabulary.{[], ◌∷◌, Option, Some, None, Ok, Err, refl, inl, inr, arith, sym, IfOk, IfSome, FinSet, contains, contains-empty}
use Rattle.suite_session.proofs.Vocabulary.{empty, insert, list_any, slice_split, nat_cmp, digits_value, and_parts, cases_Bool, eqb-false, eqb-true}
use Rattle.suite_session.proofs.Vocabulary.{false≢true, or_cases, or_from, or_parts, nat_tests, ◌>>◌, found_or, is_number, number_up_to, among, caches_in}
use Rattle.suite_session.proofs.Vocabulary.{count, count_in, judged, limit, max_number, old_in, opening_votes, Caches, fits_one, Opening, first_fault}
use Rattle.suite_session.proofs.Vocabulary.{has_fault, max_agents, max_cache, max_slots, SettingsFault, BadCache, BadCount, OldTooLarge, UnknownServer}
use Rattle.suite_session.proofs.Vocabulary.{after_any, after_end, then_holds, Word, at_end, word, Form, Settings, Root, contains_inserted, are_below_decides}
use Rattle.suite_session.proofs.Vocabulary.{Configuration, Representative, are_below, VotesFault}
use Rattle.suite_script.specs.Votes as votes
use Rattle.vote_core.specs.Validity as valid

-- ---- numbers

right_if : (is_wrong : ℕ → Bool) (fault : SettingsFault) (given : ℕ) (wrong : Bool) → is_wrong given ≡ wrong
    → IfOk (if wrong then Err (Settings fault) else Ok given) (λ number. is_wrong number ≡ false)
right_if is_wrong fault given true is = tt
right_if is_wrong fault given false is = is

right_number : (is_wrong : ℕ → Bool) (fault : SettingsFault) (text : Word) → IfOk (judged is_wrong fault text) (λ number. is_wrong number ≡ false)
right_number is_wrong fault text = after_any _ (found_or (number_up_to max_number text) Form) _ (λ given. right_if is_wrong fault given (is_wrong given) refl)

-- whether there are none, or too many
abbrev pub is_bad : ℕ → ℕ → Bool
is_bad most count = nat_eq count 0 || nat_lt most count

pub right_count : (most : ℕ) (words : List Word) → IfOk (count_in most words) (λ number. is_bad most number ≡ false)
right_count most words =
    after_any _ (word words) _ (λ next. then_holds (λ number. is_bad most number ≡ false) _ (count most next.value) _ (right_number (is_bad most) BadCount next.value)
    (λ given right. after_end _ (at_end next.rest) _ right))

pub record AreRight (caches : Caches) : Type 0 where
  pub budget : nat_lt max_cache caches.budget ≡ false
  pub quota : nat_lt max_cache caches.quota ≡ false
  pub slots : nat_lt max_slots caches.slots ≡ false

right_limit : (most : ℕ) (text : Word) → IfOk (limit most text) (λ number. nat_lt most number ≡ false)
right_limit most text = right_number (nat_lt most) BadCache text

pub right_caches : (words : List Word) → IfOk (caches_in words) AreRight
right_caches words =
    after_any _ (word words) _ (λ first. then_holds (λ number. nat_lt max_cache number ≡ false) _ (limit max_cache first.value) _ (right_limit max_cache first.value) (λ budget budget_is.
    after_any _ (word first.rest) _ (λ second. then_holds (λ number. nat_lt max_cache number ≡ false) _ (limit max_cache second.value) _ (right_limit max_cache second.value) (λ quota quota_is.
    after_any _ (word second.rest) _ (λ third. then_holds (λ number. nat_lt max_slots number ≡ false) _ (limit max_slots third.value) _ (right_limit max_slots third.value) (λ slots slots_are.
    after_end _ (at_end third.rest) _ (record { budget = budget_is; quota = quota_is; slots = slots_are })))))))

-- ---- votes

abbrev pub knows_not : ℕ → List Representative → Bool
knows_not servers reps = list_any (λ rep. nat_le servers rep.0) reps

not_found : {X : Type 0} (found : Bool) (x : X) (rest : Option X) → cond found (Some x) rest ≡ None → (found ≡ false) × (rest ≡ None)
not_found true x rest is = cc
not_found false x rest is = (refl, is)

all_known : (servers : ℕ) (reps : List Representative) → list_any (λ rep. nat_le servers rep.0 || nat_le valid.max_servers rep.0) reps ≡ false → knows_not servers reps ≡ false
all_known servers [] none = refl
all_known servers (rep ∷ reps) none =
    let parts = or_parts (nat_le servers rep.0 || nat_le valid.max_servers rep.0) (list_any (λ (other : Representative). nat_le servers other.0 || nat_le valid.max_servers other.0) reps) none in
    or_from (nat_le servers rep.0) (knows_not servers reps) (or_parts (nat_le servers rep.0) (nat_le valid.max_servers rep.0) parts.0).0 (all_known servers reps parts.1)

known_if : (servers : ℕ) (given : Configuration) (fault : Option VotesFault) → valid.first_fault servers given ≡ fault → IfOk (votes.judged servers given) (λ votes. knows_not servers votes.reps ≡ false)
known_if servers given None none =
    rw none (let some = not_found _ _ _ none in all_known servers given.reps (not_found _ _ _ some.1).0)
known_if servers given (Some fault) is = rw is tt

pub known_votes : (servers : ℕ) (words : List Word) → IfOk (opening_votes servers words) (λ votes. knows_not servers votes.reps ≡ false)
known_votes servers words =
    after_any _ (word words) _ (λ next. then_holds (λ (votes : Configuration). knows_not servers votes.reps ≡ false) _ (votes.votes_in servers next.value) _
    (after_any _ (found_or (votes.configuration_in next.value) Form) _ (λ given. known_if servers given (valid.first_fault servers given) refl))
    (λ given known. after_end _ (at_end next.rest) _ known))

-- ---- servers in form 1

number_fits : (limit : ℕ) (word : Word) → IfSome (number_up_to limit word) (λ number. number ≤ limit)
number_fits limit word =
    elim (cases_Bool (is_number word && nat_le (digits_value 10 word) limit)) [
      | inl fits ↦
          let parts = and_parts (is_number word) (nat_le (digits_value 10 word) limit) fits in
          let within : digits_value 10 word ≤ limit = grind (arith, nat_tests, parts) in
          rw fits within
      | inr none ↦ rw none tt
    ]

found_fits : (limit : ℕ) (found : Option ℕ) → IfSome found (λ number. number ≤ limit) → IfOk (found_or found Form) (λ number. number ≤ limit)
found_fits limit (Some number) fits = fits
found_fits limit None fits = tt

one_more_below : (servers : ℕ) (found : FinSet nat_cmp) (server : ℕ) → server < servers → are_below servers found ≡ true → are_below servers (insert found server) ≡ true
one_more_below servers found server below all =
    (are_below_decides servers (insert found server)).1
    (λ other there. elim (or_cases (nat_eq other server) (contains found other) (sym (contains_inserted found server other) ∙ there)) [
      | inl same ↦ let is = eqb-true other server same in omega (arith, is, below)
      | inr before ↦ (are_below_decides servers found).0 all other before
    ])

pub none_below : (servers : ℕ) → are_below servers empty ≡ true
none_below servers = (are_below_decides servers empty).1 (λ server there. absurd (false≢true (sym (contains-empty nat_cmp server) ∙ there)))

below_among : (servers : ℕ) → (servers ≡ 0 → ⊥) → (words : List Word) (found : FinSet nat_cmp) → are_below servers found ≡ true → IfOk (among servers found words) (λ old. are_below servers old ≡ true)
below_among servers some [] found all = all
below_among servers some (text ∷ more) found all =
    then_holds (λ number. number ≤ servers - 1) _ (found_or (number_up_to (servers - 1) text) Form) _ (found_fits (servers - 1) (number_up_to (servers - 1) text) (number_fits (servers - 1) text))
    (λ server fits. below_among servers some more (insert found server) (one_more_below servers found server (omega (arith, fits, some)) all))

-- the servers are there, and their form holds the root
pub record AreOld (servers : ℕ) (root : Root) (votes : Configuration) (old : FinSet nat_cmp) : Type 0 where
  pub below : are_below servers old ≡ true
  pub fits : fits_one root.acl votes ≡ true

old_if : (servers : ℕ) (root : Root) (votes : Configuration) (old : FinSet nat_cmp) (rest : List Word) (fits : Bool) → are_below servers old ≡ true → fits_one root.acl votes ≡ fits
    → IfOk (◌>>◌ (if fits then at_end rest else Err (Settings OldTooLarge)) (Ok old)) (AreOld servers root votes)
old_if servers root votes old rest true below is = after_end _ (at_end rest) _ (record { below = below; fits = is })
old_if servers root votes old rest false below is = tt

pub are_old : (servers : ℕ) (root : Root) (votes : Configuration) (words : List Word) → (servers ≡ 0 → ⊥) → IfOk (old_in servers root.acl votes words) (AreOld servers root votes)
are_old servers root votes words some =
    after_any _ (word words) _ (λ next. then_holds (λ old. are_below servers old ≡ true) _ (among servers empty (slice_split (λ byte. nat_eq byte 44) next.value)) _
    (below_among servers some (slice_split (λ byte. nat_eq byte 44) next.value) empty (none_below servers))
    (λ old below. old_if servers root votes old next.rest (fits_one root.acl votes) below refl))

-- ---- settings

-- each keeps to its limits
pub record IsRight (given : Opening) : Type 0 where
  pub servers : is_bad valid.max_servers given.servers ≡ false
  pub agents : is_bad max_agents given.agents ≡ false
  pub known : knows_not given.servers given.c0.reps ≡ false
  pub budget : nat_lt max_cache given.budget ≡ false
  pub quota : nat_lt max_cache given.quota ≡ false
  pub slots : nat_lt max_slots given.slots ≡ false
  pub below : are_below given.servers given.old ≡ true
  pub fits : (not (are_below 0 given.old) && not (fits_one given.root_acl given.c0)) ≡ false

none_of_four : {X : Type 0} (b1 b2 b3 b4 : Bool) (x1 x2 x3 x4 : X) → b1 ≡ false → b2 ≡ false → b3 ≡ false → b4 ≡ false
    → cond b1 (Some x1) (cond b2 (Some x2) (cond b3 (Some x3) (cond b4 (Some x4) None))) ≡ None
none_of_four b1 b2 b3 b4 x1 x2 x3 x4 h1 h2 h3 h4 = rw (h1, h2, h3, h4)

pub no_fault : (given : Opening) → IsRight given → first_fault given ≡ None
no_fault given right =
    let servers = or_parts (nat_eq given.servers 0) (nat_lt valid.max_servers given.servers) right.servers in
    let agents = or_parts (nat_eq given.agents 0) (nat_lt max_agents given.agents) right.agents in
    let counts : has_fault BadCount given ≡ false = rw (servers.0, servers.1, agents.0, agents.1) refl in
    let known : has_fault UnknownServer given ≡ false = rw (right.known, right.below) refl in
    let caches : has_fault BadCache given ≡ false = rw (right.budget, right.quota, right.slots) refl in
    none_of_four (has_fault BadCount given) (has_fault UnknownServer given) (has_fault BadCache given) (has_fault OldTooLarge given) BadCount UnknownServer BadCache OldTooLarge counts known caches right.fits

pub some_servers : (most servers : ℕ) → is_bad most servers ≡ false → servers ≡ 0 → ⊥
some_servers most servers right none =
    eqb-false servers 0 (or_parts (nat_eq servers 0) (nat_lt most servers) right).0 none

and_false : (b : Bool) → (b && false) ≡ false
and_false true = refl
and_false false = refl

pub none_fit : (root : Root) (votes : Configuration) → (not (are_below 0 empty) && not (fits_one root.acl votes)) ≡ false
none_fit root votes = rw (none_below 0) refl

pub old_fit : (root : Root) (votes : Configuration) (old : FinSet nat_cmp) → fits_one root.acl votes ≡ true → (not (are_below 0 old) && not (fits_one root.acl votes)) ≡ false
old_fit root votes old fits = rw fits (and_false (not (are_below 0 old)))
