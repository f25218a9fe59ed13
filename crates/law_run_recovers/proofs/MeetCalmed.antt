-- A run is calm, whatever the suite, where each transaction that begins is never decided, or asks for nothing exclusively: so nobody who is decided has an exclusive lock.
use Rattle.law_run_recovers.proofs.Vocabulary.{all_idle, no_locks, Contains, List, Option, Some, Result, [], ap, append-nil, append_assoc, refl, subst, sym, true, ℕ, ⊎_elim, ◌++◌, ◌∙◌, ◌∷◌, ◌≡◌, arith, ◌⊎◌, PlainTable, Row, row_of, service_stays}
use Rattle.law_run_recovers.proofs.Vocabulary.{IsNotDecided, Has, contains_from, has_from, State, Lock, decisions, run, table_of, server_at, Event, Begin, Opening, LockMode, Exclusive, Transaction, Begun, its_asks, votes_set, its_votes, asks_for}
use Rattle.law_run_recovers.proofs.Vocabulary.{needs, ending, Edits, Ended, Course, Look, Read, Set, Hold, unless_set, is_set, looked, content_read, Answer, Refusal, changes_on, seen, head, content_in, IsServed}
use Rattle.file_ops.specs.Rows as rows
use Rattle.law_run_recovers.proofs.AmongCourse.{nil_cons, parted}
use Rattle.law_run_recovers.proofs.MeetAsked.{all_asked}
use Rattle.law_run_recovers.proofs.MeetBoth.{none_first}
use Rattle.law_run_recovers.proofs.MeetCalm.{Fair, Calm, Ours, decided_on, fair_front}
use Rattle.law_run_recovers.proofs.MeetClear.{calm_clear}
use Rattle.law_run_recovers.proofs.Picks.{along}
use Rattle.law_run_recovers.proofs.VotesSet.{as_set, sets}

abbrev pub AnySuite : ℕ → Type 0
AnySuite z = Unit {0}

-- it asks for nothing exclusively
abbrev pub OnlyReads : List (ℕ × LockMode) → Type 0
OnlyReads asked = (z : ℕ) → Has asked (z, Exclusive) → ⊥

-- ---- by the same rows

module _ (these others : ℕ → Option Row) (same : (z : ℕ) → these z ≡ others z) where
  -- a course needs the same, and ends so
  needs_alike : {A E : Type 0} (edits : Edits) (course : Course A E) → needs these edits course ≡ needs others edits course
  needs_alike edits (Look suite mode later) =
      ap (λ needed. Hold suite mode ∷ needed) (ap (λ row. needs these edits (later (head (seen edits suite row)))) (same suite) ∙ needs_alike edits (later (looked others edits suite)))
  needs_alike edits (Read suite later) =
      ap (unless_set (is_set edits suite) suite) (ap (λ row. needs these edits (later (content_in (seen edits suite row)))) (same suite) ∙ needs_alike edits (later (content_read others edits suite)))
  needs_alike edits (Set suite edit later) = ap (λ needed. Hold suite Exclusive ∷ needed) (needs_alike ((suite, edit) ∷ edits) later)
  needs_alike edits other = refl

  ends_alike : {A E : Type 0} (edits : Edits) (course : Course A E) → ending these edits course ≡ ending others edits course
  ends_alike edits (Look suite mode later) = ap (λ row. ending these edits (later (head (seen edits suite row)))) (same suite) ∙ ends_alike edits (later (looked others edits suite))
  ends_alike edits (Read suite later) = ap (λ row. ending these edits (later (content_in (seen edits suite row)))) (same suite) ∙ ends_alike edits (later (content_read others edits suite))
  ends_alike edits (Set suite edit later) = ends_alike ((suite, edit) ∷ edits) later
  ends_alike edits other = refl

module _ (given : Opening) (events later : List Event) (calm : Calm given events later AnySuite) (who : Begun given events later) where
  abbrev now : PlainTable
  now = table_of given (events ++ who.before)

  abbrev first : PlainTable
  first = table_of given events

  same_row : (z : ℕ) → row_of (table_of given (events ++ who.before)).rows z ≡ row_of (table_of given events).rows z
  same_row z = calm.rows who.before (Begin who.agent (Transaction who.caller who.site who.ops) ∷ who.after) who.parts z tt

  same_service : (table_of given (events ++ who.before)).service ≡ (table_of given events).service
  same_service = service_stays (rows.opening given) (decisions given (events ++ who.before)) ∙ sym (service_stays (rows.opening given) (decisions given events))

  -- what it asks for it asks for on the first table, and so it is of votes that it sets
  pub asks_same : its_asks given events later who ≡ asks_for given events who.t who.caller who.ops
  asks_same = search (needs_alike, same_row, same_service, arith)

  set_same : (result : Result (Ended (List Answer)) Refusal) → changes_on now.rows result ≡ changes_on first.rows result
  set_same result = search arith

  pub votes_same : its_votes given events later who ≡ votes_set (table_of given events) who.t who.caller who.ops
  votes_same = search (as_set, sets, ends_alike, same_row, set_same, same_service, arith)

-- ---- all along

module _ (given : Opening) (events later : List Event) (fair : Fair given events later) (idle : all_idle (run given events) ≡ true) (free : no_locks (run given events) ≡ true) (served_all : (one : Begun given events later) → IsServed given events later one)
    (quiet : (one : Begun given events later) → IsNotDecided (decisions given (events ++ later)) one.t ⊎ OnlyReads (its_asks given events later one)) where
  -- who has an exclusive lock then is never decided
  record IsClear (so_far : List Event) : Type 0 where
    never : (s : ℕ) (st : State) → server_at (run given (events ++ so_far)) s ≡ Some st → (lock : Lock) → Has st.locks lock → lock.mode ≡ Exclusive → IsNotDecided (decisions given (events ++ later)) lock.t

  -- at each moment before
  abbrev WasClear : List Event → Type 0
  WasClear so_far = (front back : List Event) (event : Event) → so_far ≡ front ++ event ∷ back → IsClear front

  module _ (so_far rest : List Event) (split : later ≡ so_far ++ rest) (clear : WasClear so_far) where
    calm_of : Calm given events so_far AnySuite
    calm_of = calm_clear given events so_far (fair_front given events so_far rest (subst (Fair given events) split fair)) AnySuite
        (λ front back event is s st at lock has kept exclusive d there.
        (clear front back event is).never s st at lock has exclusive d
        (contains_from (decisions given (events ++ later)) d (decided_on given events later fair so_far rest split d (has_from (decisions given (events ++ so_far)) d there))))
        (λ s st at lock has kept exclusive. none_first given events free s st at lock has)

    -- one that began so far began in all
    abbrev raised : Begun given events so_far → Begun given events later
    raised b = record {
      before = b.before;
      after = b.after ++ rest;
      agent = b.agent;
      t = b.t;
      caller = b.caller;
      site = b.site;
      ops = b.ops;
      parts = split ∙ ap (λ xs. xs ++ rest) b.parts ∙ append_assoc b.before (Begin b.agent (Transaction b.caller b.site b.ops) ∷ b.after) rest;
      begins = b.begins;
    }

    ours_of : (b : Begun given events so_far) → Ours given events so_far AnySuite b
    ours_of b = record {
      asks = λ z has. tt;
      served = λ before after one parts. served_all (raised b) before (after ++ rest) one (split ∙ ap (λ xs. xs ++ rest) parts ∙ append_assoc before (one ∷ after) rest);
    }

    clear_now : IsClear so_far
    clear_now = record {
      never = λ s st at lock has exclusive.
          let it = all_asked given events so_far calm_of idle free ours_of so_far [] (sym (append-nil so_far)) s st at lock has in
          ⊎_elim
          (λ none. subst (IsNotDecided (decisions given (events ++ later))) (sym it.number) none)
          (λ reads.
          absurd (subst OnlyReads (asks_same given events so_far calm_of it.who) reads lock.suite
          (has_from (asks_for given events it.who.t it.who.caller it.who.ops) (lock.suite, Exclusive)
          (subst (λ mode. Contains (asks_for given events it.who.t it.who.caller it.who.ops) (lock.suite, mode)) exclusive it.asks))))
          (quiet (raised it.who));
    }

  clear_on : (so_far rest : List Event) (event : Event) → later ≡ so_far ++ event ∷ rest → WasClear so_far → WasClear (so_far ++ event ∷ [])
  clear_on so_far rest event split clear front back other is = search (parted, clear_now, arith)

  clear_at : (so_far rest : List Event) → later ≡ so_far ++ rest → WasClear so_far
  clear_at = along later WasClear clear_on (λ front back event is. absurd (nil_cons front event back is))

  pub calm_where : Calm given events later AnySuite
  calm_where = calm_of later [] (sym (append-nil later)) (clear_at later [] (sym (append-nil later)))
