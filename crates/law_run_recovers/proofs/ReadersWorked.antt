-- One sets a list while two read, by computation.
use Rattle.law_run_recovers.proofs.Vocabulary.{Bool, Contains, List, [], ap, arith, inl, inr, not, refl, sym, true, ℕ, ◌++◌, ◌==◌, ◌∙◌, ◌∷◌, ◌≡◌, ◌⊎◌, and_parts, false≢true, list_all, list_any, some_run_revokes, CanBe, EventGivesValidVotes, any_has}
use Rattle.law_run_recovers.proofs.Vocabulary.{has_any, has_from, Event, Begin, is_exclusive, LockMode, Exclusive, Shared, owner, Transaction, Begun, clashes, its_asks, two_made, asks_for, only_reads, with_caches, ◌≤◌, IsAccepted, max_agents}
use Rattle.law_run_recovers.proofs.Vocabulary.{close_a, read_a, other, three_agents, turns_of_three, closed_while_read, SomeRunsMeetReaders}
use Rattle.law_run_recovers.specs.Readers.{ReadersMeet}
use Rattle.law_run_recovers.proofs.AmongCourse.{head_or, tail_or}
use Rattle.law_run_recovers.proofs.BesideWorked.{is_step, none_begins}
use Rattle.law_run_recovers.proofs.LawsWorked.{none_spoils_it}
use Rattle.law_run_recovers.proofs.MeetWorked.{asked, first_at, none_set}
use Rattle.law_run_recovers.proofs.ReadersAlone.{writer_or_readers_are_decided}
use Rattle.law_run_recovers.proofs.ValidEvents.{all_by, event_sets_none, valid_event}

-- settings with more agents are accepted too
pub accepted : (n : ℕ) → (1 ≤ n) × (n ≤ max_agents) → IsAccepted (record with_caches { agents = n })
accepted n some = record {
  some_servers = some_run_revokes.can_be.accepted.some_servers;
  some_agents = some;
  known_servers = some_run_revokes.can_be.accepted.known_servers;
  budget_fits = some_run_revokes.can_be.accepted.budget_fits;
  quota_fits = some_run_revokes.can_be.accepted.quota_fits;
  slots_fit = some_run_revokes.can_be.accepted.slots_fit;
  old_known = some_run_revokes.can_be.accepted.old_known;
  old_fits = some_run_revokes.can_be.accepted.old_fits;
}

pub three_can : (events : List Event) → list_all event_sets_none events ≡ true → CanBe three_agents events
three_can events is = record { accepted = accepted 3 (omega arith, omega arith); c0 = some_run_revokes.can_be.c0; votes = all_by EventGivesValidVotes event_sets_none valid_event events is }

-- ---- the three that begin

abbrev first : Event
first = Begin 0 (Transaction owner 0 read_a)

abbrev second : Event
second = Begin 1 (Transaction owner 0 close_a)

abbrev third : Event
third = Begin 2 (Transaction other 0 read_a)

abbrev writer : Begun three_agents two_made closed_while_read
writer = record { before = first ∷ []; after = third ∷ turns_of_three 12; agent = 1; t = 1; caller = owner; site = 0; ops = close_a; parts = refl; begins = refl }

abbrev reader : Begun three_agents two_made closed_while_read
reader = record { before = first ∷ second ∷ []; after = turns_of_three 12; agent = 2; t = 2; caller = other; site = 0; ops = read_a; parts = refl; begins = refl }

-- whether what begins so only reads
abbrev reads_in : List Event → ℕ → Event → Bool
reads_in before t (Begin agent (Transaction caller site ops)) = only_reads (asks_for three_agents (two_made ++ before) t caller ops)
reads_in before t event = true

others_read : (one : Begun three_agents two_made closed_while_read) → (one.before ≡ first ∷ []) ⊎ (only_reads (its_asks three_agents two_made closed_while_read one) ≡ true)
others_read one = of one.before refl one.parts
  where
    begins : Event
    begins = Begin one.agent (Transaction one.caller one.site one.ops)

    reads_so : (before : List Event) (event : Event) → one.before ≡ before → event ≡ Begin one.agent (Transaction one.caller one.site one.ops) → reads_in before one.t event ≡ true
        → only_reads (its_asks three_agents two_made closed_while_read one) ≡ true
    reads_so before event same is so = ap (λ before. only_reads (asks_for three_agents (two_made ++ before) one.t one.caller one.ops)) same ∙ ap (reads_in before one.t) (sym is) ∙ so

    of : (before : List Event) → one.before ≡ before → closed_while_read ≡ before ++ Begin one.agent (Transaction one.caller one.site one.ops) ∷ one.after
        → (one.before ≡ first ∷ []) ⊎ (only_reads (its_asks three_agents two_made closed_while_read one) ≡ true)
    of [] same parts = inr (reads_so [] first same (ap (head_or first) parts) refl)
    of (x ∷ []) same parts = inl (same ∙ ap (λ x. x ∷ []) (sym (ap (head_or first) parts)))
    of (x ∷ y ∷ []) same parts =
        inr (reads_so (first ∷ second ∷ []) third
        (same ∙ ap (λ x. x ∷ y ∷ []) (sym (ap (head_or first) parts)) ∙ ap (λ y. first ∷ y ∷ []) (sym (ap (λ list. head_or first (tail_or list)) parts)))
        (ap (λ list. head_or first (tail_or (tail_or list))) parts) refl)
    of (x ∷ y ∷ z ∷ before) same parts =
        absurd (none_begins before one.agent (Transaction one.caller one.site one.ops) one.after (ap (λ list. list_all is_step (tail_or (tail_or (tail_or list)))) (sym parts)))

-- who only reads clashes with nothing that is read
none_clash : (asked : List (ℕ × LockMode)) (y : ℕ) → only_reads asked ≡ true → list_any (clashes (y, Shared)) asked ≡ true → ⊥
none_clash asked y reads is =
    let some = any_has (clashes (y, Shared)) asked is in
    false≢true (sym (ap not (has_any (λ (one : ℕ × LockMode). is_exclusive one.1) asked some.0 some.1 (and_parts (y == some.0.0) (is_exclusive some.0.1) some.2).1)) ∙ reads)

-- one that writes the first file, and who only reads, clash at it
pub at_it : (others : List (ℕ × LockMode)) (lock : ℕ × LockMode) → only_reads others ≡ true → Contains asked lock → list_any (clashes lock) others ≡ true → lock.0 ≡ 1
at_it others lock reads has clash = of (has_from asked lock has)
  where
    of : ((0, Shared) ≡ lock) ⊎ (((1, Exclusive) ≡ lock) ⊎ ⊥) → lock.0 ≡ 1
    of (inl root) = absurd (none_clash others 0 reads (ap (λ lock. list_any (clashes lock) others) root ∙ clash))
    of (inr (inl file)) = ap (λ (lock : ℕ × LockMode). lock.0) (sym file)
    of (inr (inr none)) = absurd none

readers_meet : ReadersMeet three_agents two_made closed_while_read writer
readers_meet = record {
  can = three_can (two_made ++ closed_while_read) refl;
  idle = refl;
  up = refl;
  free = refl;
  unspoiled = none_spoils_it three_agents two_made closed_while_read refl;
  others_read = others_read;
  suite = 1;
  at_it = λ one lock reads has clash. at_it (its_asks three_agents two_made closed_while_read one) lock reads has clash;
  tight = refl;
  unmoved = first_at three_agents two_made _ 1 refl tt refl;
  moves_none = λ votes has. none_set (1, votes) has;
}

pub some_runs_meet_readers : SomeRunsMeetReaders
some_runs_meet_readers = record {
  writer = writer;
  reader = reader;
  meets = readers_meet;
  reads = refl;
  ends = refl;
  so = writer_or_readers_are_decided three_agents two_made closed_while_read writer reader readers_meet refl;
}
