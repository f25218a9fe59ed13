-- Where all that begin but one only read nobody else is beside: so what is promised to one that writes and one that reads while others are beside is promised to them.
use Rattle.law_run_recovers.proofs.Vocabulary.{Bool, Contains, List, ap, false, inl, inr, refl, subst, sym, true, ℕ, ⊎_elim, ◌++◌, ◌==◌, ◌||◌, ◌∙◌, ◌≡◌, ◌⊎◌, and_parts, eqb-true, false≢true, list_any, is_decided, IsNotDecided, Has, any_has, arith}
use Rattle.law_run_recovers.proofs.Vocabulary.{contains_from, has_any, has_from, Lock, decisions, run, EndedJob, Event, is_exclusive, Opening, LockMode, Exclusive, Shared, Begun, clashes, its_asks, EndsThen, asks_for, only_reads, Always}
use Rattle.law_run_recovers.specs.Readers.{WriterOrReadersAreDecidedAt, ReadersMeet}
use Rattle.law_run_recovers.specs.MeetsBeside.{GoesOn, ReaderMeetsBeside, ReadsToo, first_asks, meets_some}
use Rattle.law_run_recovers.proofs.BesideNext.{clash_back}
use Rattle.law_run_recovers.proofs.MeetAlone.{all_served, idle_unswept, lock_in, never_upset}
use Rattle.law_run_recovers.proofs.MeetAsked.{all_asked}
use Rattle.law_run_recovers.proofs.MeetBoth.{same_place}
use Rattle.law_run_recovers.proofs.MeetCalm.{Calm, Ours}
use Rattle.law_run_recovers.proofs.MeetCalmed.{AnySuite, OnlyReads, asks_same, calm_where, votes_same}
use Rattle.law_run_recovers.proofs.MeetEnds.{undecided_not}
use Rattle.law_run_recovers.proofs.MeetReaders.{decided_one, reads_none, shared_where}

-- what clashes with a lock is of its suite, and the lock clashes with it
suite_of_clash : (one other : ℕ × LockMode) → clashes one other ≡ true → one.0 ≡ other.0
suite_of_clash one other is = eqb-true one.0 other.0 (and_parts (one.0 == other.0) (is_exclusive one.1 || is_exclusive other.1) is).0

-- who only reads clashes with no shared lock
shares : (asked : List (ℕ × LockMode)) (y : ℕ) (mode : LockMode) → OnlyReads asked → mode ≡ Shared → list_any (clashes (y, mode)) asked ≡ true → ⊥
shares asked y mode reads shared is =
    let some = any_has (clashes (y, mode)) asked is in
    let strong = subst (λ mode. (is_exclusive mode || is_exclusive some.0.1) ≡ true) shared (and_parts (y == some.0.0) (is_exclusive mode || is_exclusive some.0.1) some.2).1 in
    of some.0 some.1 strong
  where
    of : (one : ℕ × LockMode) → Has asked one → is_exclusive one.1 ≡ true → ⊥
    of (z, Exclusive) has strong = reads z has
    of (z, Shared) has strong = false≢true strong

module _ (given : Opening) (events later : List Event) (writer reader : Begun given events later) (meets : ReadersMeet given events later writer) (reads : only_reads (its_asks given events later reader) ≡ true)
    (job outcome : EndedJob) (ends : EndsThen given (events ++ writer.before) writer.after writer.agent writer.t writer.caller writer.site writer.ops job)
    (other_ends : EndsThen given (events ++ reader.before) reader.after reader.agent reader.t reader.caller reader.site reader.ops outcome) where
  goes : GoesOn given events later
  goes = record { can = meets.can; up = meets.up; unswept = idle_unswept (run given events).agents meets.idle; even = never_upset given events later meets.unspoiled }

  module _ (undecided : is_decided job.ending ≡ false) where
    none : IsNotDecided (decisions given (events ++ later)) writer.t
    none = undecided_not given events later goes writer job ends undecided

    calm : Calm given events later AnySuite
    calm =
        calm_where given events later goes meets.idle meets.free (all_served given events later meets.unspoiled) (λ other.
        ⊎_elim
        (λ same. inl (λ d there is. none d there (is ∙ (same_place given events later other writer same).t)))
        (λ reads. inr (reads_none (its_asks given events later other) reads))
        (meets.others_read other))

    any_ours : (who : Begun given events later) → Ours given events later AnySuite who
    any_ours who = record { asks = λ z has. tt; served = all_served given events later meets.unspoiled who }

    asks_is : (who : Begun given events later) → its_asks given events later who ≡ first_asks given events later who
    asks_is who = asks_same given events later calm who

    reads_first : (other : Begun given events later) → only_reads (its_asks given events later other) ≡ true → OnlyReads (asks_for given events other.t other.caller other.ops)
    reads_first other reads = subst OnlyReads (asks_is other) (reads_none (its_asks given events later other) reads)

    -- a lock of another that only reads
    reads_too : (other : Begun given events later) → only_reads (its_asks given events later other) ≡ true → (lock : Lock) → Contains (asks_for given events other.t other.caller other.ops) (lock.suite, lock.mode)
        → ReadsToo meets.suite (first_asks given events later writer) (first_asks given events later reader) lock
    reads_too other other_reads lock asks = record {
      of_reader = no_reader (meets_some lock (first_asks given events later reader)) refl;
      of_writer = of (meets_some lock (first_asks given events later writer)) refl;
    }
      where
        shared : lock.mode ≡ Shared
        shared = shared_where (asks_for given events other.t other.caller other.ops) lock.suite lock.mode (reads_first other other_reads) asks

        no_reader : (b : Bool) → meets_some lock (first_asks given events later reader) ≡ b → meets_some lock (first_asks given events later reader) ≡ false
        no_reader b h1 = search (shares, reads_first, shared, arith)

        of : (b : Bool) → meets_some lock (first_asks given events later writer) ≡ b → (meets_some lock (first_asks given events later writer) ≡ false) ⊎ ((lock.suite ≡ meets.suite) × (lock.mode ≡ Shared))
        of false is = inl is
        of true is =
            let some = any_has (clashes (lock.suite, lock.mode)) (first_asks given events later writer) is in
            let at = meets.at_it other some.0 other_reads
            (subst (λ asked. Contains asked some.0) (sym (asks_is writer)) (contains_from (first_asks given events later writer) some.0 some.1))
            (has_any (clashes some.0) (its_asks given events later other) (lock.suite, lock.mode)
            (has_from (its_asks given events later other) (lock.suite, lock.mode) (subst (λ asked. Contains asked (lock.suite, lock.mode)) (sym (asks_is other)) asks))
            (clash_back (lock.suite, lock.mode) some.0 some.2)) in
            inr (suite_of_clash (lock.suite, lock.mode) some.0 some.2 ∙ at, shared)

    beside : ReaderMeetsBeside given events later writer reader
    beside = record {
      goes = goes;
      served = all_served given events later meets.unspoiled writer;
      reader_served = all_served given events later meets.unspoiled reader;
      suite = meets.suite;
      beside = λ before after server lock split has.
          let there = lock_in (run given (events ++ before)) server lock has in
          let asked = all_asked given events later calm meets.idle meets.free any_ours before after split server there.0 there.1 lock there.2 in
          ⊎_elim
          (λ same. inl (asked.number ∙ (same_place given events later asked.who writer same).t))
          (λ other_reads. inr (inr (reads_too asked.who other_reads lock asked.asks)))
          (meets.others_read asked.who);
      reads = ap only_reads (sym (asks_is reader)) ∙ reads;
      at_it = search (asks_is, arith);
      tight = meets.tight;
      unmoved = meets.unmoved;
      moves_none = λ votes has. meets.moves_none votes (subst (λ sets. Contains sets (meets.suite, votes)) (sym (votes_same given events later calm writer)) has);
    }

  pub decided_alone : (is_decided job.ending || is_decided outcome.ending) ≡ true
  decided_alone = search (decided_one, beside, arith)

pub writer_or_readers_are_decided : Always WriterOrReadersAreDecidedAt
writer_or_readers_are_decided given events later writer reader meets reads job outcome ends other_ends = decided_alone given events later writer reader meets reads job outcome ends other_ends
