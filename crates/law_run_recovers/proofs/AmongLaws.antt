-- What is promised to a transaction that goes steadily, by the servers that are open to it; as one that goes among locks that stay.
use Rattle.law_run_recovers.proofs.Vocabulary.{◌≡◌, ◌⊎◌, inl, inr, ℕ, Bool, true, false, cond, List, [], ◌∷◌, append-nil, length, Option, Some, None, refl, sym, ap, subst, ◌∙◌, ◌&&◌, not, nat_lt, map, find, Contains, arith, and_parts, eq-eqb}
use Rattle.law_run_recovers.proofs.Vocabulary.{eqb-true, Identity, Representative, votes_in, Opening, Prefix, LockMode, Op, Row, row_of, State, find_some, Has, any_has, has_any, has_from, has_map, contains_from, needed_of, Ending, Undecided}
use Rattle.law_run_recovers.proofs.Vocabulary.{Unavailable, has_vote, home_of, fixed_of, Event, EndedJob, Actor, World, server_at, run, table_of, has_append, machine_of, all_keep, is_decided, up_in, is_up, Demand, is_met, all_met, led_to_by}
use Rattle.law_run_recovers.proofs.Vocabulary.{votes_of_row, MayStart, MayStartAll, HasFirstVotes, asks_for, is_open_way, is_way_met, way_in, is_open_at, in_its_way, EndsOpenly, EndsByOpenVotes, first_wanting, has_votes_open, Want, open_demand}
use Rattle.law_run_recovers.proofs.Vocabulary.{open_demands, first_mode, wants, wants_of_rows, EndsThen, VotesNeverMovedOf, Always, AmongLocksEndByVotesAt, AreDecidedWhereOpen, GoesAmongLocks}
use Rattle.law_one_table.proofs.Effects as effects
use Rattle.law_run_recovers.proofs.Steady.{GoesSteadily, steady}
use Rattle.law_run_recovers.proofs.Leading.{led}
use Rattle.law_run_recovers.proofs.NearGround.{opens, is_holder, sight, answering, can_first, number}
use Rattle.law_run_recovers.proofs.NearRows.{start_near, same_so_far}
use Rattle.law_run_recovers.proofs.OpenRows.{open_votes_are_rows, up_of}
use Rattle.law_run_recovers.proofs.Picks.{votes_alike}
use Rattle.law_run_recovers.proofs.Rows.{start_was}
use Rattle.law_run_recovers.proofs.Stands.{of_lock, of_votes, demand_of, unmet, wants_of, EndsAs}
use Rattle.law_run_recovers.proofs.AmongEnds.{among_ends}
use Rattle.law_run_recovers.proofs.Unmoved.{first_votes_at}

-- ---- lists

pub map_members : {X Y : Type 0} (f g : X → Y) (xs : List X) → ((x : X) → Has xs x → f x ≡ g x) → map f xs ≡ map g xs
map_members f g [] same = refl
map_members f g (x ∷ xs) same = ap (λ y. y ∷ map f xs) (same x (inl refl)) ∙ ap (λ ys. g x ∷ ys) (map_members f g xs (λ y has. same y (inr has)))

find_members : {X : Type 0} (f g : X → Bool) (xs : List X) → ((x : X) → Has xs x → f x ≡ g x) → find f xs ≡ find g xs
find_members f g [] same = refl
find_members f g (x ∷ xs) same = ap (λ b. cond b (Some x) (find f xs)) (same x (inl refl)) ∙ ap (cond (g x) (Some x)) (find_members f g xs (λ y has. same y (inr has)))

-- ---- ways

open_not_met : (way : Option (Option ℕ)) → is_open_way way ≡ true → is_way_met way ≡ false
open_not_met way h1 = search arith

down_not_met : (t z : ℕ) (mode : LockMode) (found : Option State) → up_in found ≡ false → is_way_met (way_in t z mode found) ≡ false
down_not_met t z mode found h4 = search arith

-- ---- all is to be had, or not

abbrev pub none_in : Option Want → Bool
none_in None = true
none_in (Some want) = false

pub all_is : (world : World) (t : ℕ) (all : List Want) → all_met (open_demands world t all) ≡ none_in (first_wanting world t all)
all_is world t [] = refl
all_is world t (want ∷ all) = search (all_is world t all, arith)

module _ (given : Opening) (events later : List Event) (agent t : ℕ) (caller : Identity) (site : ℕ) (ops : List Op) (actor : Actor) (goes : GoesSteadily given events later agent t caller site ops actor) where
  abbrev world : World
  world = run given events

  abbrev asked : List (ℕ × LockMode)
  asked = asks_for given events t caller ops

  abbrev its_sight : ℕ → LockMode → ℕ → Bool
  its_sight z mode = opens given events later agent t caller site ops actor goes z mode

  -- ---- near servers that are open

  abbrev pub found_by : ℕ × LockMode → Prefix → Prefix
  found_by one start = led_to_by (fixed_of given) (run given events) (is_open_at (run given events) t one.0 (first_mode (asks_for given events t caller ops) one.0)) one.0 start

  -- by them it finds what it finds by all that are open
  pub found_near : (one : ℕ × LockMode) → Contains asked one → (start : Prefix) → MayStart (fixed_of given) actor.agent.cache site one.0 start
      → (found_by one start ≡ led_to_by (fixed_of given) (run given events) (its_sight one.0 (first_mode asked one.0)) one.0 start) × ((server : ℕ) → has_vote (found_by one start).votes server ≡ true → goes.near server ≡ true)
  found_near one has start may =
      same_so_far given events t caller site ops actor goes.near goes.are_near one has (is_open_at (run given events) t one.0 (first_mode asked one.0)) (its_sight one.0 (first_mode asked one.0))
      (λ server is. up_of t one.0 (first_mode asked one.0) (server_at (run given events) server) is) (λ server near. ap (λ b. b && is_open_at (run given events) t one.0 (first_mode asked one.0) server) near)
      (length (run given events).servers) start (start_near given events t caller site ops actor goes.near goes.are_near one has start may)

  -- a want whose voting members are near
  abbrev IsNear : Want → Type 0
  IsNear want = (server : ℕ) → has_vote want.votes server ≡ true → goes.near server ≡ true

  voter_near : (want : Want) → IsNear want → (rep : Representative) → Has want.votes.reps rep → nat_lt 0 rep.1 ≡ true → goes.near rep.0 ≡ true
  voter_near want near rep has some = search (has_any, nat_lt, eq-eqb, arith)

  votes_same : (want : Want) → IsNear want → votes_in want.votes.reps (its_sight want.suite want.mode) ≡ votes_in want.votes.reps (is_open_at (run given events) t want.suite want.mode)
  votes_same want near = search (votes_alike, voter_near, arith)

  the_demand : Demand → Demand
  the_demand one = one

  demand_same : (want : Want) → IsNear want → demand_of (sight given events later agent t caller site ops actor goes) want ≡ open_demand (run given events) t want
  unfolding the_demand
  demand_same want near = ap (λ n. the_demand (record { suite = want.suite; got = n; needed = needed_of want.mode want.votes })) (votes_same want near)

  abbrev all_wants : (ℕ → Prefix) → List Want
  all_wants start = wants (fixed_of given) (run given events) (table_of given events) t caller ops start

  wants_near : (start : ℕ → Prefix) → MayStartAll (fixed_of given) actor.agent.cache site start → (want : Want) → Has (all_wants start) want → IsNear want
  wants_near start may want has = search (has_append, of_votes, has_map, found_near, contains_from, arith)

  the_want : Want → Want
  the_want one = one

  wants_same : (start : ℕ → Prefix) → MayStartAll (fixed_of given) actor.agent.cache site start
      → wants_of (fixed_of given) (run given events) (sight given events later agent t caller site ops actor goes) (table_of given events) t caller ops start ≡ all_wants start
  unfolding the_want
  wants_same start may = search (the_want, of_votes, map_members, of_lock, sight, found_near, contains_from, arith)

  -- the first that is not to be had is the same
  pub first_same : (start : ℕ → Prefix) → MayStartAll (fixed_of given) actor.agent.cache site start
      → find (unmet (sight given events later agent t caller site ops actor goes)) (wants_of (fixed_of given) (run given events) (sight given events later agent t caller site ops actor goes) (table_of given events) t caller ops start)
      ≡ first_wanting (run given events) t (all_wants start)
  first_same start may = search (unmet, sight, wants_same, find_members, demand_same, wants_near, arith)

  -- ---- how it ends

  is_holder_so : (holder : ℕ) (way : Option (Option ℕ)) → is_holder given events later agent t caller site ops actor goes holder way ≡ true → way ≡ Some (Some holder)
  is_holder_so holder way h2 = search arith

  abbrev EndsAsAt : ℕ → Ending → Option Want → Type 0
  EndsAsAt n ended found =
      EndsAs (fixed_of given) (run given events) (sight given events later agent t caller site ops actor goes) (table_of given events) (record { t = n; caller = caller; site = site; ops = ops }) actor.agent.cache ended found

  openly : (start : ℕ → Prefix) → MayStartAll (fixed_of given) actor.agent.cache site start → (ended : Ending) (found : Option Want) → first_wanting (run given events) t (all_wants start) ≡ found
      → EndsAsAt t ended found → EndsOpenly given events t caller ops goes.near ended found
  openly start may ended None first is = is
  openly start may ended (Some want) first (inl is) =
      let near = wants_near start may want (find_some (λ (want : Want). not (is_met (open_demand (run given events) t want))) (all_wants start) want first).0 in
      inl (record {
        is = is.0 ∙ ap (λ n. Undecided (Unavailable want.suite n (needed_of want.mode want.votes))) (votes_same want near);
        free = λ rep has some. free rep (is.1 rep (has_from want.votes.reps rep has) some);
      })
    where
      free : (rep : Representative) → (its_sight want.suite want.mode rep.0 ≡ true) ⊎ (is_up (run given events) rep.0 ≡ false) → in_its_way (run given events) t want.suite want.mode rep.0 ≡ false
      free rep h1 = search (open_not_met, and_parts, down_not_met, arith)
  openly start may ended (Some want) first (inr is) = search (and_parts, any_has, is_holder, eqb-true, contains_from, is_holder_so, arith)

  pub among_by_votes : (job : EndedJob) → EndsThen given events later agent t caller site ops job → EndsByOpenVotes given events t caller site ops actor.agent.cache goes.near job
  among_by_votes job ends =
      let right = (among_ends given events later agent t caller site ops actor goes job ends.there ends.of_it).1 in
      let its_sight' = sight given events later agent t caller site ops actor goes in
      record {
        start = right.start;
        from = right.from;
        ends = openly right.start right.from job.ending (first_wanting (run given events) t (all_wants right.start)) refl
            (subst (EndsAsAt t job.ending) (first_same right.start right.from)
            (subst (λ n. EndsAsAt n job.ending (find (unmet (sight given events later agent t caller site ops actor goes))
            (wants_of (fixed_of given) (run given events) (sight given events later agent t caller site ops actor goes) (table_of given events) n caller ops right.start)))
            (number given events later agent t caller site ops actor goes) right.ends));
      }

  -- ---- what is decided

  decided_openly : (ended : Ending) (found : Option Want) → EndsOpenly given events t caller ops goes.near ended found → is_decided ended ≡ (none_in found && is_up (run given events) (home_of (fixed_of given).service t))
  decided_openly ended found h2 = search arith

  pub decided_so : (job : EndedJob) (by : EndsByOpenVotes given events t caller site ops actor.agent.cache goes.near job)
      → is_decided job.ending ≡ (all_met (open_demands (run given events) t (wants (fixed_of given) (run given events) (table_of given events) t caller ops by.start)) && is_up (run given events) (home_of (fixed_of given).service t))
  decided_so job by = search (decided_openly, all_is, arith)

  -- what is met by the votes that it finds is by the rows'
  pub rows_met : (start : ℕ → Prefix) → MayStartAll (fixed_of given) actor.agent.cache site start → all_met (open_demands (run given events) t (wants (fixed_of given) (run given events) (table_of given events) t caller ops start)) ≡ true
      → all_met (open_demands (run given events) t (wants_of_rows (fixed_of given) (table_of given events) t caller ops)) ≡ true
  rows_met start may met = open_votes_are_rows given events (can_first given events later agent t caller site ops actor goes) agent t caller site ops actor start goes.there goes.begins may met

  pub among_had : (job : EndedJob) → EndsThen given events later agent t caller site ops job → is_decided job.ending ≡ true → has_votes_open given events t caller ops ≡ true
  among_had job ends decided =
      let by = among_by_votes job ends in
      let up = is_up (run given events) (home_of (fixed_of given).service t) in
      let both = and_parts (all_met (open_demands (run given events) t (all_wants by.start))) up (sym (decided_so job by) ∙ decided) in
      ap (λ b. b && up) (rows_met by.start by.from both.0) ∙ both.1

  -- ---- where votes were never moved

  module _ (unmoved : VotesNeverMovedOf given events (asks_for given events t caller ops)) where
    pub row_first : (one : ℕ × LockMode) → Contains (asks_for given events t caller ops) one → votes_of_row (fixed_of given) (row_of (table_of given events).rows one.0) ≡ given.c0
    row_first one has = of (row_of (table_of given events).rows one.0) (unmoved events [] one (sym (append-nil events)) has)
      where
        of : (found : Option Row) → HasFirstVotes given.c0 found → votes_of_row (fixed_of given) found ≡ given.c0
        of found h1 = search arith

    pub led_first : (one : ℕ × LockMode) → Contains (asks_for given events t caller ops) one → (start : Prefix) → MayStart (fixed_of given) actor.agent.cache site one.0 start → (found_by one start).votes ≡ given.c0
    led_first one has start may =
        let can = can_first given events later agent t caller site ops actor goes in
        let end = led given one.0 (machine_of given one.0 events) (run given events) (effects.inv given events (all_keep given events can) one.0)
        (its_sight one.0 (first_mode asked one.0)) (answering given events later agent t caller site ops actor goes one.0) start
        (start_was given events can one.0 agent site actor start goes.there may) in
        ap (λ (prefix : Prefix). prefix.votes) (found_near one has start may).0
        ∙ first_votes_at given events can one.0 (λ before later' parts. unmoved before later' one parts has) (led_to_by (fixed_of given) (run given events) (its_sight one.0 (first_mode asked one.0)) one.0 start) end.was

    rows_same : (start : ℕ → Prefix) → MayStartAll (fixed_of given) actor.agent.cache site start → all_wants start ≡ wants_of_rows (fixed_of given) (table_of given events) t caller ops
    unfolding the_want
    rows_same start may = search (the_want, of_votes, map_members, contains_from, led_first, row_first, arith)

    pub among_where_votes : (job : EndedJob) → EndsThen given events later agent t caller site ops job → is_decided job.ending ≡ has_votes_open given events t caller ops
    among_where_votes job ends =
        let by = among_by_votes job ends in
        decided_so job by ∙ ap (λ all. all_met (open_demands (run given events) t all) && is_up (run given events) (home_of (fixed_of given).service t)) (rows_same by.start by.from)

pub among_locks_end_by_votes : Always AmongLocksEndByVotesAt
among_locks_end_by_votes given events later agent t caller site ops actor goes job ends =
    among_by_votes given events later agent t caller site ops actor (steady given events later agent t caller site ops actor goes) job ends

pub among_locks_are_decided_where_votes_are : Always (AreDecidedWhereOpen GoesAmongLocks)
among_locks_are_decided_where_votes_are given events later agent t caller site ops actor goes unmoved job ends = search (among_where_votes, steady, arith)
