-- One that writes and one that only reads, whatever others do beside: a reader that ends undecided was refused by locks of the writer that are enough to write, and so the writer was not.
use Rattle.law_run_recovers.proofs.Vocabulary.{Contains, List, Some, [], ap, append-nil, append_assoc, arith, false, inl, inr, not, refl, subst, sym, true, ℕ, ⊎_elim, ◌++◌, ◌+◌, ◌<◌, ◌==◌, ◌||◌, ◌∙◌, ◌∷◌, ◌≡◌, ◌⊎◌, eq-eqb, false≢true, CanBe}
use Rattle.law_run_recovers.proofs.Vocabulary.{can_front, is_decided, machine_of, IsNotDecided, beginning, WasPrefix, Has, has_any, has_from, State, Lock, decisions, run, table_of, server_at, step, EndedJob, Served, Event, Step, mode_of, needed_of}
use Rattle.law_run_recovers.proofs.Vocabulary.{is_exclusive, serves, Opening, Prefix, LockMode, Exclusive, Shared, fixed_of, shared_member, Configuration, total_votes, votes_at, votes_in, Begun, clashes, votes_set, EndsThen, votes_now, asks_for}
use Rattle.law_run_recovers.proofs.Vocabulary.{any_has, contains_from, has_append, list_any, locks_at, locks_in, only_reads, begun_world, Always, WriterOrReaderBesideIsDecidedAt, serves_itself, ReaderMeetsBeside, ReadsToo, first_sets}
use Rattle.law_run_recovers.proofs.AmongCourse.{tail_or}
use Rattle.law_run_recovers.proofs.Unmoved.{first_votes_at}
use Rattle.law_run_recovers.proofs.MeetApart.{clashes_back}
use Rattle.law_run_recovers.proofs.MeetAsks.{sets_asked}
use Rattle.law_run_recovers.proofs.MeetBarred.{Barred, barred_by}
use Rattle.law_run_recovers.proofs.MeetBoth.{Place, place, its_event, cancel, held_in, none_yet, reached_then}
use Rattle.law_run_recovers.proofs.MeetCalm.{Calm, Ours}
use Rattle.law_run_recovers.proofs.MeetClear.{calm_beside}
use Rattle.law_run_recovers.proofs.MeetCount.{votes_split}
use Rattle.law_run_recovers.proofs.MeetEnds.{Fixed, undecided_not, fixed_at}
use Rattle.law_run_recovers.proofs.MeetLaw.{any_back, any_front, exclusive_clashes, none_apart, open_not, some_more, some_shut, not_neither}
use Rattle.law_run_recovers.proofs.MeetLocks.{owned_at}
use Rattle.law_run_recovers.proofs.Stands.{asks_of}
use Rattle.law_run_recovers.proofs.MeetReach.{reaches_asks}
use Rattle.law_run_recovers.proofs.MeetCalmed.{OnlyReads}
use Rattle.law_run_recovers.proofs.MeetRun.{its_actor, goes_of, run_is}
use Rattle.law_run_recovers.proofs.MeetTold.{for_lock, says_held, grants, refuses, some_step, there_in, four_from, not_both}
use Rattle.law_run_recovers.proofs.MeetWants.{Wants, WereFound, wants}

-- ---- modes

exclusive_not : (way : LockMode) → way ≡ Exclusive → way ≡ Shared → ⊥
exclusive_not way h1 h2 = search arith

pub reads_none : (asked : List (ℕ × LockMode)) → only_reads asked ≡ true → OnlyReads asked
reads_none asked reads z has = false≢true (sym (ap not (has_any (λ (one : ℕ × LockMode). is_exclusive one.1) asked (z, Exclusive) has refl)) ∙ reads)

pub shared_where : (asked : List (ℕ × LockMode)) (z : ℕ) (mode : LockMode) → OnlyReads asked → Contains asked (z, mode) → mode ≡ Shared
shared_where asked z Shared reads has = refl
shared_where asked z Exclusive reads has = absurd (reads z (has_from asked (z, Exclusive) has))

-- what clashes with a lock that is shared is exclusive
other_exclusive : (y : ℕ) (mode way : LockMode) → clashes (y, mode) (y, way) ≡ true → mode ≡ Shared → way ≡ Exclusive
other_exclusive y mode way h3 h4 = search arith

this_exclusive : (y : ℕ) (mode way : LockMode) → clashes (y, mode) (y, way) ≡ true → way ≡ Shared → mode ≡ Exclusive
this_exclusive y mode way h3 h4 = search arith

strongest : (wanted mode : LockMode) → serves wanted mode ≡ true → mode ≡ Exclusive → wanted ≡ Exclusive
strongest wanted mode h2 h3 = search arith

never_both_ways : (asked : List (ℕ × LockMode)) (y : ℕ) (way : LockMode) → list_any (clashes (y, way)) asked ≡ false → list_any (clashes (y, way)) asked ≡ true → ⊥
never_both_ways asked y way none is = false≢true (sym none ∙ is)

module _ (given : Opening) (events later : List Event) (writer reader : Begun given events later) (meets : ReaderMeetsBeside given events later writer reader)
    (undecided : IsNotDecided (decisions given (events ++ later)) writer.t) (other_undecided : IsNotDecided (decisions given (events ++ later)) reader.t) where
  abbrev mine : List (ℕ × LockMode)
  mine = asks_for given events writer.t writer.caller writer.ops

  abbrev theirs : List (ℕ × LockMode)
  theirs = asks_for given events reader.t reader.caller reader.ops

  abbrev Still : ℕ → Type 0
  Still z = asks_of (asks_for given events writer.t writer.caller writer.ops ++ asks_for given events reader.t reader.caller reader.ops) z ≡ true

  -- a lock of somebody else is in the way of nothing that they ask for, but as another reader's of the one suite
  record IsAside (y : ℕ) (way : LockMode) : Type 0 where
    of_reader : list_any (clashes (y, way)) (asks_for given events reader.t reader.caller reader.ops) ≡ false
    of_writer : (list_any (clashes (y, way)) (asks_for given events writer.t writer.caller writer.ops) ≡ false) ⊎ ((y ≡ meets.suite) × (way ≡ Shared))

  others : (so_far back : List Event) → later ≡ so_far ++ back → (s : ℕ) (st : State) → server_at (run given (events ++ so_far)) s ≡ Some st → (lock : Lock) → Has st.locks lock
      → (lock.t ≡ writer.t) ⊎ ((lock.t ≡ reader.t) ⊎ IsAside lock.suite lock.mode)
  others so_far back split s st at lock has = ⊎_elim
      (λ same. inl same)
      (λ more. ⊎_elim (λ same. inr (inl same)) (λ (so : ReadsToo meets.suite mine theirs lock). inr (inr (record { of_reader = so.of_reader; of_writer = so.of_writer }))) more)
      (meets.beside so_far back s lock split (contains_from (locks_at (run given (events ++ so_far)) s) lock (subst (λ found. Has (locks_in found) lock) (sym at) has)))

  -- what they ask for nobody else has locked exclusively
  aside_shares : (y : ℕ) (way : LockMode) → way ≡ Exclusive → Still y → IsAside y way → ⊥
  aside_shares y way exclusive kept aside =
      let some = any_has (λ (one : ℕ × LockMode). one.0 == y) (mine ++ theirs) kept in
      ⊎_elim
      (λ has. ⊎_elim
      (λ none. never_both_ways mine y way none (exclusive_clashes mine y way exclusive (has_any (λ (one : ℕ × LockMode). one.0 == y) mine some.0 has some.2)))
      (λ shared. exclusive_not way exclusive shared.1)
      aside.of_writer)
      (λ has. never_both_ways theirs y way aside.of_reader (exclusive_clashes theirs y way exclusive (has_any (λ (one : ℕ × LockMode). one.0 == y) theirs some.0 has some.2)))
      (has_append mine theirs some.0 some.1)

  calm : Calm given events later Still
  calm = calm_beside given events later meets.goes writer reader Still (ReadsToo meets.suite mine theirs) undecided other_undecided meets.beside
      (λ lock (aside : ReadsToo meets.suite mine theirs lock) kept exclusive. aside_shares lock.suite lock.mode exclusive kept (record { of_reader = aside.of_reader; of_writer = aside.of_writer }))

  ours : Ours given events later Still writer
  ours = record { asks = λ z has. any_front (λ (one : ℕ × LockMode). one.0 == z) mine theirs has; served = meets.served }

  other_ours : Ours given events later Still reader
  other_ours = record { asks = λ z has. any_back (λ (one : ℕ × LockMode). one.0 == z) mine theirs has; served = meets.reader_served }

  abbrev whole' : later ≡ later ++ []
  whole' = sym (append-nil later)

  reads_first : OnlyReads (asks_for given events reader.t reader.caller reader.ops)
  reads_first = reads_none theirs meets.reads

  -- what clashes is the one suite
  at_suite : (y : ℕ) (mode way : LockMode) → Contains (asks_for given events writer.t writer.caller writer.ops) (y, mode) → Contains (asks_for given events reader.t reader.caller reader.ops) (y, way) → clashes (y, mode) (y, way) ≡ true → y ≡ meets.suite
  at_suite y mode way has there clash = meets.at_it (y, mode) has (has_any (clashes (y, mode)) theirs (y, way) (has_from theirs (y, way) there) clash)

  -- ---- who has a lock

  -- the writer, which was granted it since it began
  record IsTheWriters (s t y : ℕ) (mode : LockMode) : Type 0 where
    number : t ≡ writer.t
    asks : Contains (asks_for given events writer.t writer.caller writer.ops) (y, mode)
    since : some_step (grants writer.t y mode s) writer.agent (fixed_of given) (begun_world given (events ++ writer.before) writer.agent writer.caller writer.site writer.ops) writer.after ≡ true

  abbrev Has' : ℕ → ℕ → ℕ → LockMode → Type 0
  Has' s t y mode = IsTheWriters s t y mode ⊎ (((t ≡ reader.t) × Contains (asks_for given events reader.t reader.caller reader.ops) (y, mode)) ⊎ IsAside y mode)

  module _ (so_far back : List Event) (i : ℕ) (split : later ≡ so_far ++ Step i ∷ back) (what : Served)
      (served : (step (fixed_of given) (run given (events ++ so_far)) (Step i)).done.served ≡ Some what) (t y : ℕ) (lock : for_lock t y what.request.value ≡ true) (held : says_held what.reply.value ≡ true) where
    abbrev place_as : (who : Begun given events later) → t ≡ who.t → Place given events later who so_far i t
    place_as who same = place given events later calm.fair.can later [] whole' calm.fair so_far back i split what served t y lock who same

    asks_as : (who : Begun given events later) → Ours given events later Still who → Place given events later who so_far i t → Contains (asks_for given events who.t who.caller who.ops) (y, mode_of what.request.value)
    asks_as who its at =
        reaches_asks (votes_now given events) (asks_for given events who.t who.caller who.ops) (held_in given events later who.agent who.t) (y, mode_of what.request.value)
        (reached_then given events later later calm who its so_far back i split what served t y lock at)

    by_writer : Place given events later writer so_far i t → IsTheWriters what.server t y (mode_of what.request.value)
    by_writer at = record {
      number = at.number;
      asks = asks_as writer ours at;
      since = subst (λ after. some_step (grants writer.t y (mode_of what.request.value) what.server) writer.agent (fixed_of given) (begun_world given (events ++ writer.before) writer.agent writer.caller writer.site writer.ops) after ≡ true)
          (sym after_is)
          (there_in (grants writer.t y (mode_of what.request.value) what.server) writer.agent (fixed_of given) at.mid back
          (begun_world given (events ++ writer.before) writer.agent writer.caller writer.site writer.ops) what
          (ap (λ w. (step (fixed_of given) w (Step writer.agent)).done.served) (run_is given events later calm writer at.mid ∙ ap (λ all. run given (events ++ all)) (sym at.parts))
          ∙ ap (λ i. (step (fixed_of given) (run given (events ++ so_far)) (Step i)).done.served) (sym at.who_is) ∙ served)
          (four_from (what.server == what.server) (for_lock writer.t y what.request.value) (says_held what.reply.value) (serves (mode_of what.request.value) (mode_of what.request.value)) (eq-eqb what.server what.server refl)
          (subst (λ t. for_lock t y what.request.value ≡ true) at.number lock) held (serves_itself (mode_of what.request.value))));
    }
      where
        begins : Event
        begins = its_event given events later writer

        after_is : writer.after ≡ at.mid ++ Step writer.agent ∷ back
        after_is = search (tail_or, cancel, append_assoc, arith)

  of_writer : (so_far back : List Event) → later ≡ so_far ++ back → (s : ℕ) (st : State) → server_at (run given (events ++ so_far)) s ≡ Some st → (lock : Lock) → Has st.locks lock → lock.t ≡ writer.t
      → IsTheWriters s lock.t lock.suite lock.mode
  of_writer so_far back split s st at lock has =
      owned_at given events later calm.fair (λ s t y mode. t ≡ writer.t → IsTheWriters s t y mode)
      (λ so_far back i split what served t y lock held same. by_writer so_far back i split what served t y lock held (place_as so_far back i split what served t y lock held writer same))
      (λ s st at lock has same. absurd (none_yet given events later calm.fair.can writer s st at lock has same)) so_far back split s st at lock has

  of_reader : (so_far back : List Event) → later ≡ so_far ++ back → (s : ℕ) (st : State) → server_at (run given (events ++ so_far)) s ≡ Some st → (lock : Lock) → Has st.locks lock → lock.t ≡ reader.t
      → Contains (asks_for given events reader.t reader.caller reader.ops) (lock.suite, lock.mode)
  of_reader so_far back split s st at lock has =
      owned_at given events later calm.fair (λ s t y mode. t ≡ reader.t → Contains (asks_for given events reader.t reader.caller reader.ops) (y, mode))
      (λ so_far back i split what served t y lock held same. asks_as so_far back i split what served t y lock held reader other_ours (place_as so_far back i split what served t y lock held reader same))
      (λ s st at lock has same. absurd (none_yet given events later calm.fair.can reader s st at lock has same)) so_far back split s st at lock has

  stands : (so_far back : List Event) → later ≡ so_far ++ back → (s : ℕ) (st : State) → server_at (run given (events ++ so_far)) s ≡ Some st → (lock : Lock) → Has st.locks lock → Has' s lock.t lock.suite lock.mode
  stands so_far back split s st at lock has = search (of_writer, of_reader, others, arith)

  -- ---- who was refused

  module _ (who : Begun given events later) (its : Ours given events later Still who) (f : Fixed given events later who) (y : ℕ) (wanted : LockMode) (server : ℕ)
      (is : some_step (refuses who.t y wanted server) who.agent (fixed_of given) (begun_world given (events ++ who.before) who.agent who.caller who.site who.ops) f.front ≡ true) where
    barred_then : some_step (refuses who.t y wanted server) who.agent (fixed_of given) (begun_world given (events ++ who.before) who.agent who.caller who.site who.ops) who.after ≡ true
    barred_then = search (some_step, refuses, some_more, arith)

    barred : Barred given events later later calm who its who.after who.parts Has' stands y wanted server
    barred = barred_by given events later later calm who its who.after who.parts Has' stands y wanted server barred_then

    asks_it : Contains (asks_for given events who.t who.caller who.ops) (y, barred.mode)
    asks_it = reaches_asks (votes_now given events) (asks_for given events who.t who.caller who.ops) (held_in given events later who.agent who.t) (y, barred.mode) barred.reached

  -- a reader was, by a lock of the writer, at the one suite
  record IsRefused (y server : ℕ) : Type 0 where
    at : y ≡ meets.suite
    since : some_step (grants writer.t y Exclusive server) writer.agent (fixed_of given) (begun_world given (events ++ writer.before) writer.agent writer.caller writer.site writer.ops) writer.after ≡ true

  module _ (f : Fixed given events later reader) (y : ℕ) (wanted : LockMode) (server : ℕ)
      (is : some_step (refuses reader.t y wanted server) reader.agent (fixed_of given) (begun_world given (events ++ reader.before) reader.agent reader.caller reader.site reader.ops) f.front ≡ true) where
    abbrev b : Barred given events later later calm reader other_ours reader.after reader.parts Has' stands y wanted server
    b = barred reader other_ours f y wanted server is

    has : Contains (asks_for given events reader.t reader.caller reader.ops) (y, b.mode)
    has = asks_it reader other_ours f y wanted server is

    way_is : b.way ≡ Exclusive
    way_is = other_exclusive y b.mode b.way b.clashing (shared_where theirs y b.mode reads_first has)

    reader_refused : IsRefused y server
    reader_refused = of b.stands
      where
        of : IsTheWriters server b.holder y b.way ⊎ (((b.holder ≡ reader.t) × Contains (asks_for given events reader.t reader.caller reader.ops) (y, b.way)) ⊎ IsAside y b.way) → IsRefused y server
        of (inl its) = record {
          at = at_suite y b.way b.mode its.asks has (clashes_back y b.mode b.way b.clashing);
          since = subst (λ way. some_step (grants writer.t y way server) writer.agent (fixed_of given) (begun_world given (events ++ writer.before) writer.agent writer.caller writer.site writer.ops) writer.after ≡ true) way_is its.since;
        }
        of (inr (inl own)) = absurd (b.not_own own.0)
        of (inr (inr aside)) = absurd (never_both_ways theirs y b.way aside.of_reader (has_any (clashes (y, b.way)) theirs (y, b.mode) (has_from theirs (y, b.mode) has) (clashes_back y b.mode b.way b.clashing)))

  -- the writer was, at the one suite, where it wanted it exclusively
  module _ (f : Fixed given events later writer) (y : ℕ) (wanted : LockMode) (server : ℕ)
      (is : some_step (refuses writer.t y wanted server) writer.agent (fixed_of given) (begun_world given (events ++ writer.before) writer.agent writer.caller writer.site writer.ops) f.front ≡ true) where
    abbrev b' : Barred given events later later calm writer ours writer.after writer.parts Has' stands y wanted server
    b' = barred writer ours f y wanted server is

    has' : Contains (asks_for given events writer.t writer.caller writer.ops) (y, b'.mode)
    has' = asks_it writer ours f y wanted server is

    writer_refused : (wanted ≡ Exclusive) × (y ≡ meets.suite)
    writer_refused = of b'.stands
      where
        of : IsTheWriters server b'.holder y b'.way ⊎ (((b'.holder ≡ reader.t) × Contains (asks_for given events reader.t reader.caller reader.ops) (y, b'.way)) ⊎ IsAside y b'.way) → (wanted ≡ Exclusive) × (y ≡ meets.suite)
        of (inl its) = absurd (b'.not_own its.number)
        of (inr (inl its)) = (
          strongest wanted b'.mode b'.strong (this_exclusive y b'.mode b'.way b'.clashing (shared_where theirs y b'.way reads_first its.1)),
          at_suite y b'.mode b'.way has' its.1 b'.clashing,
        )
        of (inr (inr aside)) = ⊎_elim
            (λ none. absurd (never_both_ways mine y b'.way none (has_any (clashes (y, b'.way)) mine (y, b'.mode) (has_from mine (y, b'.mode) has') (clashes_back y b'.mode b'.way b'.clashing))))
            (λ shared. (strongest wanted b'.mode b'.strong (this_exclusive y b'.mode b'.way b'.clashing shared.1), shared.0))
            aside.of_writer

  -- ---- neither is short

  can_first : CanBe given events
  can_first = can_front given events later meets.goes.can

  -- votes that were found of the one suite are the first ones
  first_found : (y : ℕ) (votes : Configuration) (prefix : Prefix) → votes ≡ prefix.votes → WasPrefix (beginning y given) (machine_of given y events).log prefix → y ≡ meets.suite → votes ≡ given.c0
  first_found y votes prefix is was at = search (first_votes_at, can_first, arith)

  module _ (f : Fixed given events later writer) (g : Fixed given events later reader) where
    its : Wants given events later calm writer ours f []
    its = wants given events later calm writer ours f undecided [] (none_apart given events (votes_set (table_of given events) writer.t writer.caller writer.ops))

    theirs' : Wants given events later calm reader other_ours g []
    theirs' = wants given events later calm reader other_ours g other_undecided [] (none_apart given events (votes_set (table_of given events) reader.t reader.caller reader.ops))

    refused_writer : (its.mode ≡ Exclusive) × (its.suite ≡ meets.suite)
    refused_writer = search (some_shut its.votes its.open' (needed_of its.mode its.votes) its.few its.most, writer_refused, arith)

    refused_reader : (server : ℕ) → 0 < votes_at theirs'.votes.reps server → theirs'.open' server ≡ false → IsRefused theirs'.suite server
    refused_reader server some shut = reader_refused g theirs'.suite theirs'.mode server (theirs'.shut server some shut)

    at : theirs'.suite ≡ meets.suite
    at =
        let s = some_shut theirs'.votes theirs'.open' (needed_of theirs'.mode theirs'.votes) theirs'.few theirs'.most in
        (refused_reader s.0 s.1 s.2).at

    mode_is : theirs'.mode ≡ Shared
    mode_is = shared_where (asks_for given events reader.t reader.caller reader.ops) theirs'.suite theirs'.mode reads_first theirs'.asks

    -- both counted the first votes
    its_votes_are : its.votes ≡ given.c0
    its_votes_are = ⊎_elim
        (λ set.
        meets.moves_none its.votes (subst (λ y. Contains (first_sets given events later writer) (y, its.votes)) refused_writer.1 set))
        (λ (found : WereFound given events later calm writer ours f its.suite its.votes). first_found its.suite its.votes found.prefix found.is found.was refused_writer.1)
        its.found

    their_votes_are : theirs'.votes ≡ given.c0
    their_votes_are = ⊎_elim
        (λ set.
        absurd (reads_first theirs'.suite
        (sets_asked (table_of given events) reader.t reader.caller reader.ops (theirs'.suite, theirs'.votes) (has_from (votes_set (table_of given events) reader.t reader.caller reader.ops) (theirs'.suite, theirs'.votes) set))))
        (λ (found : WereFound given events later calm reader other_ours g theirs'.suite theirs'.votes). first_found theirs'.suite theirs'.votes found.prefix found.is found.was at)
        theirs'.found

    -- so some server refused both, and had granted the writer its lock
    pub never_both : ⊥
    never_both =
        let few : votes_in given.c0.reps its.open' < given.c0.w = subst (λ mode. votes_in given.c0.reps its.open' < needed_of mode given.c0) refused_writer.0 (subst (λ (v : Configuration). votes_in v.reps its.open' < needed_of its.mode v) its_votes_are its.few) in
        let few' : votes_in given.c0.reps theirs'.open' < given.c0.r = subst (λ mode. votes_in given.c0.reps theirs'.open' < needed_of mode given.c0) mode_is (subst (λ (v : Configuration). votes_in v.reps theirs'.open' < needed_of theirs'.mode v) their_votes_are theirs'.few) in
        let all = votes_split given.c0.reps its.open' in
        let all' = votes_split given.c0.reps theirs'.open' in
        let tight : given.c0.r + given.c0.w ≡ total_votes given.c0.reps + 1 = meets.tight in
        let s = shared_member (λ s. not (its.open' s)) (λ s. not (theirs'.open' s)) given.c0.reps (omega (arith, few, few', all, all', tight)) in
        let shut = its.shut s.server (subst (λ (v : Configuration). 0 < votes_at v.reps s.server) (sym its_votes_are) s.has_vote) (open_not (its.open' s.server) s.in_first) in
        let refused = refused_reader s.server (subst (λ (v : Configuration). 0 < votes_at v.reps s.server) (sym their_votes_are) s.has_vote) (open_not (theirs'.open' s.server) s.in_second) in
        let barred' = subst (λ mode. some_step (refuses writer.t its.suite mode s.server) writer.agent (fixed_of given) (begun_world given (events ++ writer.before) writer.agent writer.caller writer.site writer.ops) writer.after ≡ true)
        refused_writer.0 (barred_then writer ours f its.suite its.mode s.server shut) in
        let held' = subst (λ y. some_step (grants writer.t y Exclusive s.server) writer.agent (fixed_of given) (begun_world given (events ++ writer.before) writer.agent writer.caller writer.site writer.ops) writer.after ≡ true)
        (at ∙ sym refused_writer.1) refused.since in
        not_both given events (events ++ writer.before) writer.after writer.agent writer.t writer.caller writer.site writer.ops (its_actor given events later calm writer).0 (goes_of given events later calm writer ours) its.suite Exclusive s.server held' barred'

-- ---- the law

module _ (given : Opening) (events later : List Event) (writer reader : Begun given events later) (meets : ReaderMeetsBeside given events later writer reader)
    (job outcome : EndedJob) (ends : EndsThen given (events ++ writer.before) writer.after writer.agent writer.t writer.caller writer.site writer.ops job)
    (other_ends : EndsThen given (events ++ reader.before) reader.after reader.agent reader.t reader.caller reader.site reader.ops outcome) where
  neither : is_decided job.ending ≡ false → is_decided outcome.ending ≡ false → ⊥
  neither undecided other_undecided =
      let none = undecided_not given events later meets.goes writer job ends undecided in
      let none' = undecided_not given events later meets.goes reader outcome other_ends other_undecided in
      let quiet = calm given events later writer reader meets none none' in
      never_both given events later writer reader meets none none' (fixed_at given events later quiet writer job ends) (fixed_at given events later quiet reader outcome other_ends)

  pub decided_one : (is_decided job.ending || is_decided outcome.ending) ≡ true
  decided_one = not_neither (is_decided job.ending) (is_decided outcome.ending) neither

pub writer_or_reader_beside_is_decided : Always WriterOrReaderBesideIsDecidedAt
writer_or_reader_beside_is_decided given events later writer reader meets job outcome ends other_ends = decided_one given events later writer reader meets job outcome ends other_ends
