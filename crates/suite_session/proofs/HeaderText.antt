-- The header of a text that `play` reads without a fault opens a session as it opens `play`.
use Rattle.suite_session.proofs.Vocabulary.{◌≡◌, ◌∙◌, ℕ, Bool, true, false, List, codes, if◌then◌else◌, Result, Ok, refl, sym, ap, subst, IfOk, FinSet, empty}
use Rattle.suite_session.proofs.Vocabulary.{nat_cmp, caches_in, count_in, header, is_known, old_in, opening_lines, opening_votes, Caches, Opening, max_agents}
use Rattle.suite_session.proofs.Vocabulary.{Headed, Pending, headed_if, next_begins, root_in, Word, LineFault, Root, at_first, opened_of, PlayService}
use Rattle.suite_session.proofs.Vocabulary.{Configuration, max_servers}
use Rattle.suite_script.specs.Scripts.{headed}
use Rattle.suite_session.proofs.Accepted.{AreOld, AreRight, are_old, is_bad, known_votes, knows_not, no_fault, none_below, none_fit, old_fit, right_caches, right_count, some_servers}
use Rattle.suite_session.proofs.HeaderLines.{Takes, begins_as, both_steps, header_line, same_headed, script_at}
use Rattle.suite_session.proofs.Played.{Prints}
use Rattle.suite_session.specs.declared.heading.Heading.TheVariants as so_far
use Rattle.suite_session.specs.declared.play_service.PlayService.TheVariants as service

-- ---- what each line leaves

abbrev told_servers : ℕ → PlayService
told_servers servers = service.Heading (so_far.Servers servers)

abbrev told_agents : ℕ → ℕ → PlayService
told_agents servers agents = service.Heading (so_far.Agents servers agents)

abbrev told_votes : ℕ → ℕ → Configuration → PlayService
told_votes servers agents votes = service.Heading (so_far.Votes servers agents votes)

abbrev told_root : ℕ → ℕ → Configuration → Root → PlayService
told_root servers agents votes root = service.Heading (so_far.Root servers agents votes root)

abbrev settings_with : ℕ → ℕ → Configuration → Root → Caches → FinSet nat_cmp → Opening
settings_with servers agents votes root caches old = record {
  servers = servers;
  agents = agents;
  c0 = votes;
  root_owner = root.owner;
  root_group = root.group;
  root_acl = root.acl;
  budget = caches.budget;
  quota = caches.quota;
  slots = caches.slots;
  old = old;
}

abbrev told_all : ℕ → ℕ → Configuration → Root → FinSet nat_cmp → Caches → PlayService
told_all servers agents votes root old caches = service.Open (opened_of (settings_with servers agents votes root caches old))

takes_servers : Takes (codes "servers") (count_in max_servers) told_servers at_first
takes_servers first later value same reads = (refl, rw (same, reads) refl)

takes_agents : (servers : ℕ) → Takes (codes "agents") (count_in max_agents) (told_agents servers) (told_servers servers)
takes_agents servers first later value same reads = (refl, rw (same, reads) refl)

takes_votes : (servers agents : ℕ) → Takes (codes "votes") (opening_votes servers) (told_votes servers agents) (told_agents servers agents)
takes_votes servers agents first later value same reads = (refl, rw (same, reads) refl)

takes_root : (servers agents : ℕ) (votes : Configuration) → Takes (codes "root") root_in (told_root servers agents votes) (told_votes servers agents votes)
takes_root servers agents votes first later value same reads = (refl, rw (same, reads) refl)

-- what the first lines tell keeps to its limits
record IsSound (servers agents : ℕ) (votes : Configuration) : Type 0 where
  servers_are : is_bad max_servers servers ≡ false
  agents_are : is_bad max_agents agents ≡ false
  known : knows_not servers votes.reps ≡ false

takes_cache : (servers agents : ℕ) (votes : Configuration) (root : Root) → IsSound servers agents votes
    → Takes (codes "cache") caches_in (told_all servers agents votes root empty) (told_root servers agents votes root)
takes_cache servers agents votes root sound first later caches same reads =
    let right : AreRight caches = subst (λ (given : Result Caches LineFault). IfOk given AreRight) reads (right_caches later) in
    let none = no_fault (settings_with servers agents votes root caches empty) (record {
      servers = sound.servers_are;
      agents = sound.agents_are;
      known = sound.known;
      budget = right.budget;
      quota = right.quota;
      slots = right.slots;
      below = none_below servers;
      fits = none_fit root votes;
    }) in
    (refl, rw (same, reads, none) refl)

takes_old : (servers agents : ℕ) (votes : Configuration) (root : Root) (caches : Caches) → IsSound servers agents votes → AreRight caches
    → Takes (codes "old") (old_in servers root.acl votes) (λ old. told_all servers agents votes root old caches) (told_all servers agents votes root empty caches)
takes_old servers agents votes root caches sound right first later old same reads =
    let are : AreOld servers root votes old =
    subst (λ (given : Result (FinSet nat_cmp) LineFault). IfOk given (AreOld servers root votes)) reads (are_old servers root votes later (some_servers max_servers servers sound.servers_are)) in
    let none = no_fault (settings_with servers agents votes root caches old) (record {
      servers = sound.servers_are;
      agents = sound.agents_are;
      known = sound.known;
      budget = right.budget;
      quota = right.quota;
      slots = right.slots;
      below = are.below;
      fits = old_fit root votes old are.fits;
    }) in
    (same, rw (reads, none) refl)

-- ---- line by line

-- what is printed from this desk on is all that is printed
pub record IsLeft (end : ℕ) (state : PlayService) (rest : Pending) (Printing : List ℕ → Type 0) : Type 0 where
  pub number : ℕ
  pub left : List (List ℕ)
  pub rest_is : rest ≡ script_at end number left
  pub prints : (text : List ℕ) → Prints (begins_as state) number left text → Printing text

-- a line of the header more, whatever was printed before it
record HasLine {A : Type 0} (reading : List Word → Result A LineFault) (next : A → PlayService) (end : ℕ) (got : Headed A) (Printing : List ℕ → Type 0) : Type 0 where
  later : List Word
  reads : reading later ≡ Ok got.value
  is_left : IsLeft end (next got.value) got.rest Printing

one_more : {A : Type 0} (begins : Word) (reading : List Word → Result A LineFault) (next : A → PlayService) (state : PlayService) → Takes begins reading next state
    → (end : ℕ) (script : Pending) (Printing : List ℕ → Type 0) → IsLeft end state script Printing → (got : Headed A) → headed is_known begins reading script ≡ Ok got → HasLine reading next end got Printing
one_more begins reading next state takes end script Printing is_left got is =
    let line = header_line begins reading next state takes end is_left.left is_left.number got
    (ap (headed is_known begins reading) (sym is_left.rest_is) ∙ is) in
    record {
      later = line.later;
      reads = line.reads;
      is_left = record {
        number = line.number;
        left = line.left;
        rest_is = line.rest_is;
        prints = λ text printed. is_left.prints text (line.prints text printed);
      };
    }

-- the last line, which may be left out
old_line : (servers agents : ℕ) (votes : Configuration) (root : Root) (caches : Caches) → IsSound servers agents votes → AreRight caches
    → (end : ℕ) (script : Pending) (Printing : List ℕ → Type 0) → IsLeft end (told_all servers agents votes root empty caches) script Printing → (got : Headed (FinSet nat_cmp)) (begins : Bool)
    → (if begins then headed is_known (codes "old") (old_in servers root.acl votes) script else Ok (record { value = empty; rest = script })) ≡ Ok got
    → IsLeft end (told_all servers agents votes root got.value caches) got.rest Printing
old_line servers agents votes root caches sound right end script Printing is_left got true is =
    (one_more (codes "old") (old_in servers root.acl votes) (λ old. told_all servers agents votes root old caches) (told_all servers agents votes root empty caches)
    (takes_old servers agents votes root caches sound right) end script Printing is_left got is).is_left
old_line servers agents votes root caches sound right end script Printing is_left got false is =
    let same = same_headed (record { value = empty; rest = script }) got is in
    subst (λ (one : Headed (FinSet nat_cmp)). IsLeft end (told_all servers agents votes root one.value caches) one.rest Printing) same is_left

opened_by : (servers agents : ℕ) → is_bad max_servers servers ≡ false → is_bad max_agents agents ≡ false → (end : ℕ) (script : Pending) (Printing : List ℕ → Type 0)
    → IsLeft end (told_agents servers agents) script Printing → (got : Headed Opening) → opening_lines is_known servers agents script ≡ Ok got → IsLeft end (service.Open (opened_of got.value)) got.rest Printing
opened_by servers agents servers_are agents_are end script Printing is_left got is =
    let votes = both_steps (headed is_known (codes "votes") (opening_votes servers) script) _ got is in
    let root = both_steps (headed is_known (codes "root") root_in votes.value.rest) _ got votes.later in
    let caches = both_steps (headed is_known (codes "cache") caches_in root.value.rest) _ got root.later in
    let old = both_steps (headed_if is_known (codes "old") (old_in servers root.value.value.acl votes.value.value) empty caches.value.rest) _ got caches.later in
    let first = one_more (codes "votes") (opening_votes servers) (told_votes servers agents) (told_agents servers agents) (takes_votes servers agents) end script Printing is_left votes.value votes.is in
    let sound : IsSound servers agents votes.value.value = record {
      servers_are = servers_are;
      agents_are = agents_are;
      known = subst (λ (given : Result Configuration LineFault). IfOk given (λ votes. knows_not servers votes.reps ≡ false)) first.reads (known_votes servers first.later);
    } in
    let second = one_more (codes "root") root_in (told_root servers agents votes.value.value) (told_votes servers agents votes.value.value) (takes_root servers agents votes.value.value)
    end votes.value.rest Printing first.is_left root.value root.is in
    let third = one_more (codes "cache") caches_in (told_all servers agents votes.value.value root.value.value empty) (told_root servers agents votes.value.value root.value.value)
    (takes_cache servers agents votes.value.value root.value.value sound) end root.value.rest Printing second.is_left caches.value caches.is in
    let right : AreRight caches.value.value = subst (λ (given : Result Caches LineFault). IfOk given AreRight) third.reads (right_caches third.later) in
    let fourth = old_line servers agents votes.value.value root.value.value caches.value.value sound right end caches.value.rest Printing third.is_left old.value
    (next_begins (codes "old") caches.value.rest.lines) old.is in
    subst (λ (one : Headed Opening). IsLeft end (service.Open (opened_of one.value)) one.rest Printing) (same_headed _ got old.later) fourth

pub header_opens : (end : ℕ) (lines : List (List ℕ)) (got : Headed Opening) → header (script_at end 1 lines) ≡ Ok got
    → IsLeft end (service.Open (opened_of got.value)) got.rest (Prints (begins_as at_first) 1 lines)
header_opens end lines got is =
    let script = script_at end 1 lines in
    let servers = both_steps (headed is_known (codes "servers") (count_in max_servers) script) _ got is in
    let agents = both_steps (headed is_known (codes "agents") (count_in max_agents) servers.value.rest) _ got servers.later in
    let Printing = Prints (begins_as at_first) 1 lines in
    let begun : IsLeft end at_first script Printing = record { number = 1; left = lines; rest_is = refl; prints = λ text printed. printed } in
    let first = one_more (codes "servers") (count_in max_servers) told_servers at_first takes_servers end script Printing begun servers.value servers.is in
    let second = one_more (codes "agents") (count_in max_agents) (told_agents servers.value.value) (told_servers servers.value.value) (takes_agents servers.value.value)
    end servers.value.rest Printing first.is_left agents.value agents.is in
    opened_by servers.value.value agents.value.value
    (subst (λ (given : Result ℕ LineFault). IfOk given (λ number. is_bad max_servers number ≡ false)) first.reads (right_count max_servers first.later))
    (subst (λ (given : Result ℕ LineFault). IfOk given (λ number. is_bad max_agents number ≡ false)) second.reads (right_count max_agents second.later))
    end agents.value.rest Printing second.is_left got agents.later
