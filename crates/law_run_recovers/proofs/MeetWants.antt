-- One that meets another and is not decided wants votes: it asked for a lock, and of who has a vote too few did not refuse it.
use Rattle.law_run_recovers.proofs.Vocabulary.{Bool, Contains, List, [], ap, append_assoc, arith, false, inl, inr, not, refl, subst, sym, true, ℕ, ⊎_elim, ◌%◌, ◌&&◌, ◌++◌, ◌+◌, ◌/◌, ◌<◌, ◌==◌, ◌∙◌, ◌∷◌, ◌≡◌, ◌≤◌, ◌⊎◌, mod-lt, eqb-true}
use Rattle.law_run_recovers.proofs.Vocabulary.{AllByRecursion, Service, EventGivesValidVotes, machine_of, append_has_left, service_stays, IsNotDecided, beginning, WasPrefix, Has, contains_from, has_from, decisions_from-append, decisions}
use Rattle.law_run_recovers.proofs.Vocabulary.{decisions_from, run, table_of, Actor, opening, Event, Begin, mode_of, needed_of, serves, Opening, Prefix, LockMode, fixed_of, home_of, Transaction, Configuration, total_votes, votes_at, votes_in}
use Rattle.law_run_recovers.proofs.Vocabulary.{IsValid, Begun, votes_set, SetsApart, votes_now, asks_for, first_mode, is_up, shown_at, begun_world}
use Rattle.file_ops.specs.Rows as rows
use Rattle.law_run_recovers.proofs.Free.{is_up_of}
use Rattle.law_run_recovers.proofs.MeetCalm.{Calm, IsOurs, Ours, calm_front, ours_front}
use Rattle.law_run_recovers.proofs.Polled.{closed_wider}
use Rattle.law_run_recovers.proofs.RowVotes.{ListsKnown, set_so, sets_known, sets_valid, prefix_known}
use Rattle.law_run_recovers.proofs.MeetBehind.{up_voter, valid_was, row_or_old}
use Rattle.law_run_recovers.proofs.MeetCount.{Falls}
use Rattle.law_run_recovers.proofs.MeetCourse.{sight, answering, short_at}
use Rattle.law_run_recovers.proofs.MeetEnds.{Fixed}
use Rattle.law_run_recovers.proofs.MeetQuiet.{GoesQuietly}
use Rattle.law_run_recovers.proofs.MeetReach.{is_asked, wide, wanting}
use Rattle.law_run_recovers.proofs.MeetRun.{part, its_actor, goes_of, never_decides}
use Rattle.law_run_recovers.proofs.MeetTold.{for_lock, says_held, grants, refuses, some_step, found_in, four, opens_free, free_weaker, free_up, free_fits}

in_range : (votes : Configuration) (mode : LockMode) → IsValid votes → needed_of mode votes ≤ total_votes votes.reps
in_range votes mode h2 = search arith

at_here : (front : List Event) (event : Event) (back : List Event) → AllByRecursion EventGivesValidVotes (front ++ event ∷ back) → EventGivesValidVotes event
at_here [] event back all = all.0
at_here (x ∷ front) event back all = at_here front event back all.1

shut_by : (a b : Bool) → a ≡ true → (a && not b) ≡ false → b ≡ true
shut_by a b h2 h3 = search arith

module _ (given : Opening) (events later : List Event) {still : ℕ → Type 0} (calm : Calm given events later still) (who : Begun given events later) (ours : Ours given events later still who) (f : Fixed given events later who) where
  -- the run up to where its end is fixed
  abbrev pub upto : List Event
  upto = who.before ++ Begin who.agent (Transaction who.caller who.site who.ops) ∷ f.front

  pub whole : later ≡ upto ++ f.back
  whole = part given events later calm who f.front f.back f.parts

  pub calm_upto : Calm given events upto still
  calm_upto = calm_front given events upto f.back still (subst (λ later. Calm given events later still) whole calm)

  pub ours_upto : IsOurs given events upto still who.agent who.t who.caller who.ops
  ours_upto = ours_front given events later upto f.back still who.agent who.t who.caller who.ops whole ours

  abbrev it : Begun given events upto
  it = record { before = who.before; after = f.front; agent = who.agent; t = who.t; caller = who.caller; site = who.site; ops = who.ops; parts = refl; begins = who.begins }

  abbrev actor : Actor
  actor = (its_actor given events upto calm_upto it).0

  pub goes : GoesQuietly given events (events ++ who.before) f.front who.agent who.t who.caller who.site who.ops actor
  goes = goes_of given events upto calm_upto it ours_upto

  abbrev open_to : ℕ → LockMode → ℕ → Bool
  open_to = opens_free given events (events ++ who.before) f.front who.agent who.t who.caller who.site who.ops actor goes

  some_servers : 0 < given.servers
  some_servers = let some = calm.fair.can.accepted.some_servers.0 in omega (arith, some)

  home_up : is_up (run given events) (home_of (fixed_of given).service who.t) ≡ true
  home_up = is_up_of given events calm.fair.up (home_of (fixed_of given).service who.t) (mod-lt (who.t % 64 + who.t / 64) some_servers)

  -- who granted it a lock on a suite, in a mode or in a stronger one
  abbrev pub had : ℕ → LockMode → ℕ → Bool
  had y mode server = some_step (grants who.t y mode server) who.agent (fixed_of given) (begun_world given (events ++ who.before) who.agent who.caller who.site who.ops) f.front

  abbrev pub shows : ℕ → ℕ → ℕ
  shows y server = (shown_at (fixed_of given) (run given events) y server).pver

  -- votes of a prefix that the suite had
  pub record WereFound (suite : ℕ) (votes : Configuration) : Type 0 where
    pub prefix : Prefix
    pub is : votes ≡ prefix.votes
    pub was : WasPrefix (beginning suite given) (machine_of given suite events).log prefix

  -- a lock that it asked for, of which it got too few votes
  pub record Wants (others : List (ℕ × LockMode)) : Type 0 where
    pub suite : ℕ
    pub mode : LockMode
    pub asks : Contains (asks_for given events who.t who.caller who.ops) (suite, mode)
    pub votes : Configuration
    pub open' : ℕ → Bool
    pub few : votes_in votes.reps open' < needed_of mode votes
    pub most : needed_of mode votes ≤ total_votes votes.reps
    pub found : Contains (votes_set (table_of given events) who.t who.caller who.ops) (suite, votes) ⊎ WereFound suite votes
    pub falls : Falls (votes_now given events) had shows others suite votes open'
    pub shut : (server : ℕ) → 0 < votes_at votes.reps server → open' server ≡ false
        → some_step (refuses who.t suite mode server) who.agent (fixed_of given) (begun_world given (events ++ who.before) who.agent who.caller who.site who.ops) f.front ≡ true

  -- ---- what it sets votes of

  service_is : (table_of given events).service ≡ (fixed_of given).service
  service_is = service_stays (rows.opening given) (decisions given events)

  set_known : (set : ℕ × Configuration) → Has (votes_set (table_of given events) who.t who.caller who.ops) set → ListsKnown given.servers set.1
  set_known set has =
      let table = table_of given events in
      subst (λ (service : Service). ListsKnown service.servers set.1) service_is
      (set_so (ListsKnown table.service.servers) table who.t who.caller who.ops
      (sets_known table who.t who.caller who.ops (subst (λ (service : Service). ListsKnown service.servers service.c0) (sym service_is) goes.can_base.accepted.known_servers)) set has)

  set_valid : (set : ℕ × Configuration) → Has (votes_set (table_of given events) who.t who.caller who.ops) set → IsValid set.1
  set_valid set has =
      set_so IsValid (table_of given events) who.t who.caller who.ops
      (sets_valid (table_of given events) who.t who.caller who.ops (subst (λ (service : Service). IsValid service.c0) (sym service_is) goes.can_base.c0)
      (at_here (events ++ who.before) (Begin who.agent (Transaction who.caller who.site who.ops)) f.front goes.can.votes)) set has

  module _ (undecided : IsNotDecided (decisions given (events ++ later)) who.t) (others : List (ℕ × LockMode)) (apart : SetsApart given events (votes_set (table_of given events) who.t who.caller who.ops) others) where
    undecided_upto : IsNotDecided (decisions given (events ++ (who.before ++ Begin who.agent (Transaction who.caller who.site who.ops) ∷ f.front))) who.t
    undecided_upto d there =
        undecided d
        (contains_from (decisions given (events ++ later)) d
        (subst (λ all. Has (decisions given all) d) (append_assoc events upto f.back ∙ ap (λ later. events ++ later) (sym whole))
        (subst (λ list. Has list d) (sym (decisions_from-append (fixed_of given) (opening given) (events ++ upto) f.back))
        (append_has_left (decisions given (events ++ upto)) (decisions_from (fixed_of given) (run given (events ++ upto)) f.back) d (has_from (decisions given (events ++ upto)) d there)))))

    pub wants : Wants others
    wants =
        let never = never_decides given events upto calm_upto it ours_upto undecided_upto in
        let weaker = free_weaker given events (events ++ who.before) f.front who.agent who.t who.caller who.site who.ops actor goes in
        let opens_up = free_up given events (events ++ who.before) f.front who.agent who.t who.caller who.site who.ops actor goes in
        let fits = free_fits given events (events ++ who.before) f.front who.agent who.t who.caller who.site who.ops actor goes in
        let short = short_at given events (events ++ who.before) f.front who.agent who.t who.caller who.site who.ops actor goes open_to weaker opens_up fits never f.rests in
        let one = wanting given events (events ++ who.before) f.front who.agent who.t who.caller who.site who.ops actor goes never open_to weaker opens_up fits home_up short in
        let barred : (server : ℕ) → is_up (run given events) server ≡ true → open_to one.suite one.mode server ≡ false
        → some_step (refuses who.t one.suite one.mode server) who.agent (fixed_of given) (begun_world given (events ++ who.before) who.agent who.caller who.site who.ops) f.front ≡ true =
        λ server up is. shut_by (is_up (run given events) server)
        (some_step (refuses who.t one.suite one.mode server) who.agent (fixed_of given) (begun_world given (events ++ who.before) who.agent who.caller who.site who.ops) f.front) up is in
        ⊎_elim
        (λ set.
        let has = has_from (votes_set (table_of given events) who.t who.caller who.ops) (one.suite, one.votes) set.1 in
        record {
          suite = one.suite;
          mode = one.mode;
          asks = one.asks;
          votes = one.votes;
          open' = open_to one.suite one.mode;
          few = one.few;
          most = in_range one.votes one.mode (set_valid (one.suite, one.votes) has);
          found = inl set.1;
          falls = ⊎_elim (λ same. inl same) (λ none. inr (inr none)) (apart (one.suite, one.votes) set.1);
          shut = λ server has_vote is. barred server (up_voter given events goes.can_base calm.fair.up one.votes (set_known (one.suite, one.votes) has) server has_vote) is;
        })
        (λ found.
        let has_asked' = is_asked given events (events ++ who.before) f.front who.agent who.t who.caller who.site who.ops actor goes never open_to weaker opens_up fits (one.suite, one.mode) one.asks in
        let known = prefix_known given goes.can_base.accepted.known_servers events goes.can_base one.suite found.prefix found.was in
        record {
          suite = one.suite;
          mode = one.mode;
          asks = one.asks;
          votes = one.votes;
          open' = open_to one.suite one.mode;
          few = one.few;
          most = in_range one.votes one.mode (subst IsValid (sym found.is) (valid_was given events goes.can_base calm.fair.up one.suite found.prefix found.was));
          found = inr (record { prefix = found.prefix; is = found.is; was = found.was });
          falls = ⊎_elim
              (λ row. inl (found.is ∙ row))
              (λ old. inr (inl (record {
                prefix = found.prefix.pver;
                server = old.server;
                has_vote = subst (λ (v : Configuration). 0 < votes_at v.reps old.server) (sym found.is) old.has_vote;
                shut = closed_wider (sight given events (events ++ who.before) f.front who.agent who.t who.caller who.site who.ops actor goes open_to weaker opens_up fits) one.suite
                    (first_mode (asks_for given events who.t who.caller who.ops) one.suite) one.mode old.server
                    (wide given events (events ++ who.before) f.front who.agent who.t who.caller who.site who.ops actor goes never (one.suite, one.mode) one.asks) old.shut;
                newer = old.newer;
                below = λ mode other is.
                    let g = found_in (grants who.t one.suite mode other) who.agent (fixed_of given) (begun_world given (events ++ who.before) who.agent who.caller who.site who.ops) f.front is in
                    let facts = four (g.what.server == other) (for_lock who.t one.suite g.what.request.value) (says_held g.what.reply.value) (serves (mode_of g.what.request.value) mode) g.is in
                    subst (λ server. (shown_at (fixed_of given) (run given events) one.suite server).pver ≤ found.prefix.pver) (eqb-true g.what.server other facts.0)
                    (found.top g.front g.back g.what g.parts g.served facts.1 facts.2);
              })))
              (row_or_old given events goes.can_base calm.fair.up one.suite (goes.answers one.suite has_asked') found.prefix found.was
              (open_to one.suite (first_mode (asks_for given events who.t who.caller who.ops) one.suite))
              (answering given events (events ++ who.before) f.front who.agent who.t who.caller who.site who.ops actor goes open_to weaker opens_up fits one.suite has_asked') found.last known);
          shut = λ server has_vote is. barred server (up_voter given events goes.can_base calm.fair.up one.votes (subst (ListsKnown given.servers) (sym found.is) known) server has_vote) is;
        })
        one.how
