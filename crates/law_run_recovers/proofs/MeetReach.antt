-- A transaction in whose run nothing is decided: whatever lock it asks for, it has had all those before, by the votes of the rows; and where its end is fixed, too few votes
-- were open of one, as they are found.
use Rattle.law_run_recovers.proofs.Vocabulary.{◌≡◌, ◌⊎◌, inl, inr, ⊎_elim, ℕ, ◌≤◌, ◌<◌, Bool, true, false, List, [], ◌∷◌, ◌++◌, Option, Some, None, Result, refl, sym, ap, subst, ◌∙◌, arith, ◌==◌, not, nat_le, map, find, Contains, false≢true}
use Rattle.law_run_recovers.proofs.Vocabulary.{and_parts, eq-eqb, eqb-true, has_any, ltb-false, nat_tests, none-some, same_Some, Identity, Configuration, votes_in, votes_in-wider, Opening, Prefix, LockMode, Shared, Exclusive, serves, Answer, Op}
use Rattle.law_run_recovers.proofs.Vocabulary.{Refusal, Request, Reply, row_of, needs, transaction, find_some, Has, has_from, has_map, contains_from, holds, newest, Cache, Undecided, Replied, Suites, suite_of, Phase, Gathering, Fetching, Preparing}
use Rattle.law_run_recovers.proofs.Vocabulary.{Deciding, Finishing, home_of, request_in, asked_for, fixed_of, next_in, next_of, is_decide, asks_same, Served, Event, Step, Actor, actor_at, step, run, table_of, WasPrefix, IsQuorum, beginning}
use Rattle.law_run_recovers.proofs.Vocabulary.{machine_of, row_at, all_keep, is_up, shown_at, newer_by, locks_asked, votes_set, is_met, demand_by, led_to_by, MayStart, ending_by, ending_of, answer_on, asks_for, Want, first_mode, world_after}
use Rattle.law_run_recovers.proofs.Vocabulary.{says_held, votes_now, same_mode}
use Rattle.suite_collect.specs.Collecting.{mode_or, Collector, all_told, Asked, needed_of, wanted, mode_of, mode_asked, request_for}
use Rattle.txn_core.specs.Suites.{told_in}
use Rattle.txn_core.specs.Doing as doing
use Rattle.law_one_table.proofs.Effects as effects
use Rattle.law_run_recovers.proofs.Asked.{onto_left, onto_so_far, asked_exclusive, next_mode}
use Rattle.law_run_recovers.proofs.Asking.{onto}
use Rattle.law_run_recovers.proofs.Early.{fetch_is}
use Rattle.law_run_recovers.proofs.Found.{found_is_row}
use Rattle.law_run_recovers.proofs.Heard.{asks_for as asked_by}
use Rattle.law_run_recovers.proofs.Keeps.{IsAtWork}
use Rattle.law_run_recovers.proofs.Leading.{led}
use Rattle.law_run_recovers.proofs.OpenRows.{weaker_first, up_to}
use Rattle.law_run_recovers.proofs.Polled.{Sight, finds_at, opens_wider, held_open}
use Rattle.law_run_recovers.proofs.Rows.{row_votes}
use Rattle.law_run_recovers.proofs.Stands.{asks_of, IsRight, IsHad, locks_on, sets_on, of_lock, of_votes, unmet, EndsAs, IsLed}
use Rattle.law_run_recovers.proofs.MeetAsks.{sets_asked}
use Rattle.law_run_recovers.proofs.MeetCourse.{Course, Short, PhaseIn, its, number, sight, answering, Fits, course_at}
use Rattle.law_run_recovers.proofs.MeetQuiet.{GoesQuietly}
use Rattle.law_run_recovers.proofs.MeetTold.{for_lock, for_lock_named, says_held as held_by, asks, asks_at_work, held, opens_held, held_weaker, held_up, held_fits}

-- ---- lists

-- one of a list parts it
split_has : {X : Type 0} (xs : List X) (x : X) → Has xs x → (front : List X) × (back : List X) × (xs ≡ front ++ x ∷ back)
split_has [] x has = absurd has
split_has (y ∷ ys) x (inl same) = ([], ys, ap (λ y. y ∷ ys) same)
split_has (y ∷ ys) x (inr has) = let rest = split_has ys x has in (y ∷ rest.0, rest.1, ap (λ ys. y ∷ ys) rest.2)

onto_append : {X : Type 0} (front : List X) (x : X) (back left : List X) → onto (front ++ x ∷ back) left ≡ onto back (x ∷ onto front left)
onto_append [] x back left = refl
onto_append (y ∷ front) x back left = onto_append front x back (y ∷ left)

append_later : {X : Type 0} (front : List X) (x : X) (back : List X) (one : X) → Has back one → Has (front ++ x ∷ back) one
append_later [] x back one has = inr has
append_later (y ∷ front) x back one has = inr (append_later front x back one has)

has_append : {X : Type 0} (xs ys : List X) (x : X) → Has (xs ++ ys) x → Has xs x ⊎ Has ys x
has_append [] ys x has = inr has
has_append (y ∷ xs) ys x (inl same) = inl (inl same)
has_append (y ∷ xs) ys x (inr has) = ⊎_elim (λ left. inl (inr left)) (λ right. inr right) (has_append xs ys x has)

-- the first that passes a test is one that came before, or the first of what is left
pub find_onto : {X : Type 0} (p : X → Bool) (before left : List X) (x : X) → find p (onto before left) ≡ Some x → Has before x ⊎ (find p left ≡ Some x)
find_onto p [] left x is = inr is
find_onto p (b ∷ before) left x is = search (same_Some, find_onto p before (b ∷ left) x is, arith)

-- A lock that one asks for, all before which it has had: by who granted them it has enough of these votes of each suite.
pub record Reached (votes : ℕ → Configuration) (asked : List (ℕ × LockMode)) (held : ℕ → LockMode → ℕ → Bool) (one : ℕ × LockMode) : Type 0 where
  pub before : List (ℕ × LockMode)
  pub after : List (ℕ × LockMode)
  pub parts : asked ≡ onto before (one ∷ after)
  pub had : (other : ℕ × LockMode) → Has before other → needed_of other.1 (votes other.0) ≤ votes_in (votes other.0).reps (held other.0 other.1)

module _ (votes : ℕ → Configuration) (asked : List (ℕ × LockMode)) (held : ℕ → LockMode → ℕ → Bool) where
  pub reaches_asks : (one : ℕ × LockMode) → Reached votes asked held one → Contains asked one
  reaches_asks one r = contains_from asked one (subst (λ all. Has all one) (sym r.parts) (onto_left r.before (one ∷ r.after) one (inl refl)))

  -- the first that passes a test, if it passes it, was had, or is it
  pub reached_first : (p : ℕ × LockMode → Bool) (one first : ℕ × LockMode) → Reached votes asked held one → p one ≡ true → find p asked ≡ Some first
      → (needed_of first.1 (votes first.0) ≤ votes_in (votes first.0).reps (held first.0 first.1)) ⊎ (one ≡ first)
  reached_first p one first r passes is = search (find_onto p r.before (one ∷ r.after) first (ap (find p) (sym r.parts) ∙ is), same_Some, arith)

  -- and so by whoever granted more
  pub reached_wider : (wider : ℕ → LockMode → ℕ → Bool) → ((z : ℕ) (mode : LockMode) (server : ℕ) → held z mode server ≡ true → wider z mode server ≡ true) → (one : ℕ × LockMode) → Reached votes asked held one
      → Reached votes asked wider one
  reached_wider wider more one r = record {
    before = r.before;
    after = r.after;
    parts = r.parts;
    had = search (le_trans, held, votes_in-wider, arith);
  }
    where
      le_trans : (a b c : ℕ) → a ≤ b → b ≤ c → a ≤ c
      le_trans a b c one two = omega (arith, one, two)

enough : (a b c : ℕ) → nat_le a b ≡ true → b ≤ c → a ≤ c
enough a b c le more = grind (arith, nat_tests)

too_few : (a b : ℕ) → not (nat_le a b) ≡ true → b < a
too_few a b is = grind (arith, nat_tests)

says_so : (answer : Reply) → held_by answer ≡ true → says_held (Replied answer) ≡ true
says_so answer h1 = search arith

module _ (given : Opening) (base events later : List Event) (agent t : ℕ) (caller : Identity) (site : ℕ) (ops : List Op) (actor : Actor) (goes : GoesQuietly given base events later agent t caller site ops actor)
    (never : (so_far rest : List Event) → later ≡ so_far ++ Step agent ∷ rest → IsAtWork (world_after given events agent caller site ops so_far) agent t → (here : Actor) → actor_at
    (world_after given events agent caller site ops so_far) agent ≡ Some here
    → (asked : ℕ × Request) → next_of (fixed_of given) here.agent ≡ Some asked → is_decide asked.1 ≡ false) where
  abbrev asked : List (ℕ × LockMode)
  asked = asks_for given base t caller ops

  abbrev pub Reaches : ℕ × LockMode → Type 0
  Reaches one = Reached (votes_now given base) (asks_for given base t caller ops) (held given base events later agent t caller site ops actor goes) one

  -- a suite is asked for in the mode in which it is asked for first, or in a stronger one
  pub wide : (one : ℕ × LockMode) → Contains (asks_for given base t caller ops) one → serves one.1 (first_mode (asks_for given base t caller ops) one.0) ≡ true
  wide one has = weaker_first [] (needs (row_of (table_of given base).rows) [] (transaction (table_of given base).service t caller ops)) one (has_from asked one has)

  module _ (opens : ℕ → LockMode → ℕ → Bool) (weaker : (z server : ℕ) → opens z Exclusive server ≡ true → opens z Shared server ≡ true)
      (opens_up : (z : ℕ) (mode : LockMode) (server : ℕ) → opens z mode server ≡ true → is_up (run given base) server ≡ true) (fits : Fits given base events later agent t caller site ops actor goes opens) where
    abbrev S : Sight
    S = sight given base events later agent t caller site ops actor goes opens weaker opens_up fits

    -- where its votes are found
    abbrev found : ℕ → Prefix → Prefix
    found z start = led_to_by (fixed_of given) (run given base) (finds_at S z) z start

    ends_at : (z : ℕ) (start : Prefix) → asks_of (asks_for given base t caller ops) z ≡ true → MayStart (fixed_of given) actor.agent.cache site z start
        → (WasPrefix (beginning z given) (machine_of given z base).log (led_to_by (fixed_of given) (run given base) (finds_at S z) z start))
        × (newer_by (fixed_of given) (run given base) (finds_at S z) z (led_to_by (fixed_of given) (run given base) (finds_at S z) z start) ≡ None)
    ends_at z start asks' may =
        let end = led given z (machine_of given z base) (run given base) (effects.inv given base (all_keep given base goes.can_base) z) (finds_at S z)
        (answering given base events later agent t caller site ops actor goes opens weaker opens_up fits z asks') start (goes.starts z start asks' may) in
        (end.was, end.last)

    pub is_asked : (one : ℕ × LockMode) → Contains (asks_for given base t caller ops) one → asks_of (asks_for given base t caller ops) one.0 ≡ true
    is_asked one has = has_any (λ (other : ℕ × LockMode). other.0 == one.0) asked one (has_from asked one has) (eq-eqb one.0 one.0 refl)

    -- where enough of those are open, they are the row's
    found_row : (one : ℕ × LockMode) → Contains (asks_for given base t caller ops) one → (start : Prefix) → MayStart (fixed_of given) actor.agent.cache site one.0 start
        → is_met (demand_by (opens one.0 one.1) one.0 one.1 (led_to_by (fixed_of given) (run given base) (finds_at S one.0) one.0 start).votes) ≡ true
        → (led_to_by (fixed_of given) (run given base) (finds_at S one.0) one.0 start).votes ≡ votes_now given base one.0
    found_row one has start may met =
        let z = one.0 in
        let end = ends_at z start (is_asked one has) may in
        let is = found_is_row given z (machine_of given z base) (run given base) (effects.inv given base (all_keep given base goes.can_base) z) (finds_at S z)
        (answering given base events later agent t caller site ops actor goes opens weaker opens_up fits z (is_asked one has)) (found z start) end.0 end.1 (quorum one.1 refl met) in
        ap (λ (prefix : Prefix). prefix.votes) is ∙ row_votes given base goes.can_base z (row_at given base z) refl
      where
        votes : Configuration
        votes = (found one.0 start).votes

        more : (n : ℕ) → nat_le n (votes_in (found one.0 start).votes.reps (opens one.0 one.1)) ≡ true → nat_le n (votes_in (found one.0 start).votes.reps (finds_at S one.0)) ≡ true
        more n is =
            up_to n (votes_in (found one.0 start).votes.reps (opens one.0 one.1)) (votes_in (found one.0 start).votes.reps (finds_at S one.0)) is
            (votes_in-wider (found one.0 start).votes.reps (opens one.0 one.1) (finds_at S one.0)
            (λ server. opens_wider S one.0 one.1 (first_mode (asks_for given base t caller ops) one.0) server (wide one has)))

        quorum : (mode : LockMode) → one.1 ≡ mode → nat_le (needed_of one.1 (found one.0 start).votes) (votes_in (found one.0 start).votes.reps (opens one.0 one.1)) ≡ true → IsQuorum (found one.0 start).votes (finds_at S one.0)
        quorum mode h1 h2 = search (more, nat_le, votes, arith)

    locks_are : locks_on (table_of given base) (its given base events later agent t caller site ops actor goes) ≡ asks_for given base t caller ops
    locks_are = ap (λ n. locks_asked (table_of given base) n caller ops) (number given base events later agent t caller site ops actor goes)

    sets_are : sets_on (table_of given base) (its given base events later agent t caller site ops actor goes) ≡ votes_set (table_of given base) t caller ops
    sets_are = ap (λ n. votes_set (table_of given base) n caller ops) (number given base events later agent t caller site ops actor goes)

    -- ---- where its end is fixed

    -- Votes were found by a prefix that the suite had: of its voting members that are open none shows a newer one, nor does any server that granted a lock on the suite.
    pub record IsFound (suite : ℕ) (votes : Configuration) : Type 0 where
      pub prefix : Prefix
      pub is : votes ≡ prefix.votes
      pub was : WasPrefix (beginning suite given) (machine_of given suite base).log prefix
      pub last : newer_by (fixed_of given) (run given base) (opens suite (first_mode (asks_for given base t caller ops) suite)) suite prefix ≡ None
      pub top : (front back : List Event) (what : Served) → later ≡ front ++ Step agent ∷ back → (step (fixed_of given) (world_after given events agent caller site ops front) (Step agent)).done.served ≡ Some what
          → for_lock t suite what.request.value ≡ true → held_by what.reply.value ≡ true → (shown_at (fixed_of given) (run given base) suite what.server).pver ≤ prefix.pver

    -- too few votes were open of a suite: of those that it sets, or of those that were found
    pub record IsWanting : Type 0 where
      pub suite : ℕ
      pub mode : LockMode
      pub asks : Contains (asks_for given base t caller ops) (suite, mode)
      pub votes : Configuration
      pub few : votes_in votes.reps (opens suite mode) < needed_of mode votes
      pub how : ((mode ≡ Exclusive) × Contains (votes_set (table_of given base) t caller ops) (suite, votes)) ⊎ IsFound suite votes

    pub wanting : is_up (run given base) (home_of (fixed_of given).service t) ≡ true → Short given base events later agent t caller site ops actor goes opens weaker opens_up fits → IsWanting
    wanting home short = of (find (unmet S) wants) refl short.right.1.ends
      where
        start : ℕ → Prefix
        start = short.right.1.start

        wants : List Want
        wants =
            map (of_lock (fixed_of given) (run given base) S short.right.1.start) (locks_on (table_of given base) (its given base events later agent t caller site ops actor goes))
            ++ map of_votes (sets_on (table_of given base) (its given base events later agent t caller site ops actor goes))

        undecided_not : (answer : Result (List Answer) Refusal) → Undecided short.cause ≡ ending_of answer → ⊥
        undecided_not answer h1 = search arith

        of_set : (set : ℕ × Configuration) → Has (sets_on (table_of given base) (its given base events later agent t caller site ops actor goes)) set → unmet S (of_votes set) ≡ true → IsWanting
        of_set set has few = grind (sets_are, asks, contains_from, sets_asked, too_few, arith)

        Led : Want → Type 0
        Led want = IsLed (fixed_of given) (run given base) S (table_of given base) (its given base events later agent t caller site ops actor goes) actor.agent.cache short.right.0 short.right.1.start want

        of_led : (one : ℕ × LockMode) → Contains (asks_for given base t caller ops) one → Led (of_lock (fixed_of given) (run given base) S short.right.1.start one) → unmet S (of_lock (fixed_of given) (run given base) S short.right.1.start one) ≡ true → IsWanting
        of_led one has led few =
            let z = one.0 in
            let end = ends_at z (short.right.1.start z) (is_asked one has) (short.right.1.from z) in
            record {
              suite = z;
              mode = one.1;
              asks = has;
              votes = (found z (short.right.1.start z)).votes;
              few = too_few (needed_of one.1 (found z (short.right.1.start z)).votes) (votes_in (found z (short.right.1.start z)).votes.reps (opens z one.1)) few;
              how = inr (record {
                prefix = found z (short.right.1.start z);
                is = refl;
                was = end.0;
                last = end.1;
                top = λ front back what split served lock held'.
                    let work = asks_at_work given base events later agent t caller site ops actor goes front back split what served z lock in
                    let told = short.told front back what split work served z (for_lock_named t z what.request.value lock).1 (says_so what.reply.value held') in
                    let above = held_open (fixed_of given) (run given base) S z led.suite.collector.start Exclusive (all_told led.suite.collector) led.right Shared what.server
                    (ap (λ found. holds Shared (told_in found) what.server) (sym led.there) ∙ told) in
                    subst (λ (prefix : Prefix). (shown_at (fixed_of given) (run given base) z what.server).pver ≤ prefix.pver) led.leads
                    (ltb-false (newest led.suite.collector.start (all_told led.suite.collector)).pver (shown_at (fixed_of given) (run given base) z what.server).pver above.1);
              });
            }

        of : (found : Option Want) → find (unmet S) wants ≡ found
            → EndsAs (fixed_of given) (run given base) S (table_of given base) (its given base events later agent t caller site ops actor goes) actor.agent.cache (Undecided short.cause) found → IsWanting
        of None is ends =
            absurd (undecided_not (answer_on (table_of given base) (its given base events later agent t caller site ops actor goes).t caller ops)
            (ends ∙ ap (λ up. ending_by None up (answer_on (table_of given base) (its given base events later agent t caller site ops actor goes).t caller ops))
            (ap (λ n. is_up (run given base) (home_of (fixed_of given).service n)) (number given base events later agent t caller site ops actor goes) ∙ home)))
        of (Some want) is ends =
            let some = find_some (unmet S) wants want is in
            ⊎_elim
            (λ lock.
            let one = has_map (of_lock (fixed_of given) (run given base) S short.right.1.start) (locks_on (table_of given base) (its given base events later agent t caller site ops actor goes)) want lock in
            let has = contains_from asked one.0 (subst (λ all. Has all one.0) locks_are one.1) in
            ⊎_elim
            (λ set. of_set set.0 set.1 (ap (unmet S) (sym set.2) ∙ some.1))
            (λ led. of_led one.0 has (subst Led (sym one.2) led.0) (ap (unmet S) one.2 ∙ some.1))
            (short.right.1.last want is))
            (λ set.
            let one = has_map of_votes (sets_on (table_of given base) (its given base events later agent t caller site ops actor goes)) want set in
            of_set one.0 one.1 (ap (unmet S) one.2 ∙ some.1))
            (has_append (map (of_lock (fixed_of given) (run given base) S short.right.1.start) (locks_on (table_of given base) (its given base events later agent t caller site ops actor goes))) _ want some.0)

  -- ---- what it asks for

  abbrev HeldPhase : Suites → Cache → Phase → Type 0
  HeldPhase suites now phase =
      PhaseIn given base events later agent t caller site ops actor goes (opens_held given base events later agent t caller site ops actor goes) (held_weaker given base events later agent t caller site ops actor goes)
      (held_up given base events later agent t caller site ops actor goes) (held_fits given base events later agent t caller site ops actor goes) suites now phase

  abbrev H : Sight
  H =
      sight given base events later agent t caller site ops actor goes (opens_held given base events later agent t caller site ops actor goes) (held_weaker given base events later agent t caller site ops actor goes)
      (held_up given base events later agent t caller site ops actor goes) (held_fits given base events later agent t caller site ops actor goes)

  -- what it had so far it holds
  had_held : (suites : Suites) (one : ℕ × LockMode) → Contains (asks_for given base t caller ops) one
      → ((suite : _) → suite_of suites one.0 ≡ Some suite → IsRight (fixed_of given) (run given base) H (table_of given base) (its given base events later agent t caller site ops actor goes) actor.agent.cache one.0 suite)
      → IsHad (fixed_of given) (run given base) H (table_of given base) (its given base events later agent t caller site ops actor goes) actor.agent.cache suites one
      → needed_of one.1 (votes_now given base one.0) ≤ votes_in (votes_now given base one.0).reps (held given base events later agent t caller site ops actor goes one.0 one.1)
  had_held suites one has right had =
      let row = found_row (opens_held given base events later agent t caller site ops actor goes) (held_weaker given base events later agent t caller site ops actor goes)
      (held_up given base events later agent t caller site ops actor goes)
      (held_fits given base events later agent t caller site ops actor goes) one has had.suite.collector.start (right had.suite had.there).may had.met in
      enough (needed_of one.1 (votes_now given base one.0)) (votes_in (votes_now given base one.0).reps (opens_held given base events later agent t caller site ops actor goes one.0 one.1))
      (votes_in (votes_now given base one.0).reps (held given base events later agent t caller site ops actor goes one.0 one.1))
      (subst (λ (votes : Configuration). is_met (demand_by (opens_held given base events later agent t caller site ops actor goes one.0 one.1) one.0 one.1 votes) ≡ true) row had.met)
      (votes_in-wider (votes_now given base one.0).reps (opens_held given base events later agent t caller site ops actor goes one.0 one.1) (held given base events later agent t caller site ops actor goes one.0 one.1)
      (λ server is. (and_parts (is_up (run given base) server) (held given base events later agent t caller site ops actor goes one.0 one.1 server) is).1))

  module _ (so_far rest : List Event) (split : later ≡ so_far ++ Step agent ∷ rest) (what : Served) (served : (step (fixed_of given) (world_after given events agent caller site ops so_far) (Step agent)).done.served ≡ Some what)
      (z : ℕ) (lock : for_lock t z what.request.value ≡ true) where
    c : Course given base events later agent t caller site ops actor goes (opens_held given base events later agent t caller site ops actor goes) (held_weaker given base events later agent t caller site ops actor goes)
        (held_up given base events later agent t caller site ops actor goes) (held_fits given base events later agent t caller site ops actor goes) so_far
    c =
        course_at given base events later agent t caller site ops actor goes (opens_held given base events later agent t caller site ops actor goes) (held_weaker given base events later agent t caller site ops actor goes)
        (held_up given base events later agent t caller site ops actor goes) (held_fits given base events later agent t caller site ops actor goes) never so_far (Step agent ∷ rest) split
        (asks_at_work given base events later agent t caller site ops actor goes so_far rest split what served z lock)

    request_is : request_in (fixed_of given) (its given base events later agent t caller site ops actor goes) c.txn_run.suites c.txn_run.phase ≡ Some (what.server, what.request.value)
    request_is =
        let one = asks given base events later agent t caller site ops actor goes so_far rest split what served z lock in
        subst (λ task. request_in (fixed_of given) task c.txn_run.suites c.txn_run.phase ≡ Some (what.server, what.request.value)) c.task_is
        (sym (ap (next_in (fixed_of given)) c.running) ∙ ap (λ (a : Actor). next_of (fixed_of given) a.agent) (same_Some c.here one.0 (sym c.there ∙ one.1)) ∙ one.2)

    lock_of : (u y : ℕ) (question : Asked) → for_lock t z (request_for u y question) ≡ true → y ≡ z
    lock_of u y question h3 = search (eqb-true, and_parts, arith)

    not_lock : (asked' : Request) → what.request.value ≡ asked' → for_lock t z asked' ≡ false → Reaches (z, mode_of what.request.value)
    not_lock asked' is none = absurd (false≢true (sym none ∙ ap (for_lock t z) (sym is) ∙ lock))

    -- what was asked for is what came before, with this
    reaches_by : (y : ℕ) (mode : LockMode) (before after : List (ℕ × LockMode)) → y ≡ z → mode_of what.request.value ≡ mode
        → locks_on (table_of given base) (its given base events later agent t caller site ops actor goes) ≡ onto before ((y, mode) ∷ after)
        → ((other : ℕ × LockMode) → Has before other → Contains (asks_for given base t caller ops) other
        → needed_of other.1 (votes_now given base other.0) ≤ votes_in (votes_now given base other.0).reps (held given base events later agent t caller site ops actor goes other.0 other.1))
        → Reaches (z, mode_of what.request.value)
    reaches_by y mode before after at is order had =
        let all : asks_for given base t caller ops ≡ onto before ((y, mode) ∷ after) =
        sym (locks_are (opens_held given base events later agent t caller site ops actor goes) (held_weaker given base events later agent t caller site ops actor goes) (held_up given base events later agent t caller site ops actor goes)
        (held_fits given base events later agent t caller site ops actor goes)) ∙ order in
        record {
          before = before;
          after = after;
          parts = all ∙ ap (λ y. onto before ((y, mode) ∷ after)) at ∙ ap (λ mode. onto before ((z, mode) ∷ after)) (sym is);
          had = λ other has. had other has (contains_from asked other (subst (λ list. Has list other) (sym all) (onto_so_far before ((y, mode) ∷ after) other has)));
        }

    of_phase : (now : Cache) (suites : Suites) (phase : Phase) → HeldPhase suites now phase
        → request_in (fixed_of given) (its given base events later agent t caller site ops actor goes) suites phase ≡ Some (what.server, what.request.value) → Reaches (z, mode_of what.request.value)
    of_phase now suites (Gathering y) at is =
        let task = its given base events later agent t caller site ops actor goes in
        let g = at.0 in
        let asks' = asked_by task y g.suite.collector what.server what.request.value (sym (ap (asked_for task y) g.there) ∙ is) in
        let mode : mode_asked asks'.question ≡ g.mode = next_mode g.suite.collector what.server asks'.question asks'.is ∙ ap wanted g.found.reached.is ∙ ap (λ (c : Collector). c.mode) (sym g.found.reached.is) ∙ g.mode_is in
        reaches_by y g.mode g.asked _ (lock_of task.t y asks'.question (ap (for_lock t z) (sym asks'.asked_is) ∙ lock)) (ap mode_of asks'.asked_is ∙ same_mode task.t y asks'.question ∙ mode)
        (g.asks.order ∙ ap (onto g.asked) g.next_is)
        (λ other has there. had_held suites other there (λ suite found. g.asks.right other.0 suite found) (g.asks.had other has))
    of_phase now suites (Fetching y) at is = search (not_lock, fetch_is, its, arith)
    of_phase now suites (doing.Widening [] granted) at is = absurd at
    of_phase now suites (doing.Widening (y ∷ left) granted) at is =
        let task = its given base events later agent t caller site ops actor goes in
        let asks' = asked_by task y at.suite.collector what.server what.request.value (sym (ap (asked_for task y) at.there) ∙ is) in
        let mode : mode_asked asks'.question ≡ Exclusive = next_mode at.suite.collector what.server asks'.question asks'.is ∙ ap (λ o. mode_or o at.suite.collector.mode) at.widening_is in
        let some = split_has at.sets.so_far (y, Exclusive) (asked_exclusive at.sets.so_far y (at.sets.exclusive (y, at.votes) (inl refl))) in
        reaches_by y Exclusive some.1 (onto some.0 []) (lock_of task.t y asks'.question (ap (for_lock t z) (sym asks'.asked_is) ∙ lock)) (ap mode_of asks'.asked_is ∙ same_mode task.t y asks'.question ∙ mode)
        (at.sets.all ∙ ap (λ xs. onto xs []) some.2 ∙ onto_append some.0 (y, Exclusive) some.1 [])
        (λ other has there. had_held suites other there (λ suite found. at.sets.right other.0 suite found)
        (at.sets.had other (subst (λ xs. Has xs other) (sym some.2) (append_later some.0 (y, Exclusive) some.1 other has))))
    of_phase now suites (Preparing (server ∷ left) outcome) at is = search (not_lock, asks_same, its, arith)
    of_phase now suites (Deciding outcome) at is = search (not_lock, asks_same, its, arith)
    of_phase now suites (Finishing (server ∷ left) v ended) at is = search (not_lock, asks_same, its, arith)
    of_phase now suites other at is = absurd (none-some _ is)

    pub reaches_now : Reaches (z, mode_of what.request.value)
    reaches_now = of_phase c.here.agent.cache c.txn_run.suites c.txn_run.phase c.stands request_is
