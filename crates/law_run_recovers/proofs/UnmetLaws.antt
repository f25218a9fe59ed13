-- What is promised to a transaction that nobody meets, by servers that are up: it goes among locks none of which is in its way, so who is up is open to it.
use Rattle.law_run_recovers.proofs.Vocabulary.{◌≡◌, inl, inr, ℕ, Bool, true, false, cond, List, [], ◌∷◌, ◌++◌, length, Option, Some, None, refl, sym, ap, subst, ◌∙◌, ◌&&◌, nat_lt, map, option_map, Contains, false≢true, and_parts, arith, none-some}
use Rattle.law_run_recovers.proofs.Vocabulary.{same_Some, Identity, Representative, Configuration, votes_in, votes_in-wider, Opening, Prefix, LockMode, Op, row_of, Has, contains_from, home_of, fixed_of, Event, EndedJob, Actor, World, run, table_of}
use Rattle.law_run_recovers.proofs.Vocabulary.{is_decided, is_up, Demand, demand, is_met, all_met, demands, demands_of_rows, first_short, led_to, votes_set, votes_of_row, MayStart, MayStartAll, EndsByVotes, ending_by, answer_on, asks_for}
use Rattle.law_run_recovers.proofs.Vocabulary.{is_open_way, is_way_met, is_open_at, in_its_way, GoesUnmet, EndsOpenly, first_wanting, has_votes_open, UnmetAreAmongLocks, Want, open_demand, open_demands, first_mode, wants, EndsThen, VotesNeverMovedOf}
use Rattle.law_run_recovers.proofs.Vocabulary.{Always, UnmetAreDecidedWhereVotesAreAt, UnmetEndByVotesAt}
use Rattle.law_run_recovers.proofs.Steady.{GoesSteadily, steady}
use Rattle.law_run_recovers.proofs.AmongLaws.{map_members, among_by_votes, found_by, led_first, row_first}
use Rattle.law_run_recovers.proofs.NearRows.{first_in, start_near, same_so_far, open_is_up}
use Rattle.law_run_recovers.proofs.Open.{open_first, unmet_is_among_locks, near_back, plain_way}
use Rattle.law_run_recovers.proofs.OpenRows.{up_of, up_to}
use Rattle.law_run_recovers.proofs.Picks.{votes_alike}
use Rattle.law_run_recovers.proofs.Stands.{of_votes}
use Rattle.law_run_recovers.proofs.Unmoved.{decided_by}

-- ---- by the votes that are up

abbrev pub up_demand : World → Want → Demand
up_demand world want = demand world want.suite want.mode want.votes

-- what is had of open servers is of servers that are up
open_up : (world : World) (t : ℕ) (want : Want) → is_met (open_demand world t want) ≡ true → is_met (up_demand world want) ≡ true
open_up world t want met = search (up_to, votes_in-wider, up_of, arith)

all_up : (world : World) (t : ℕ) (all : List Want) → all_met (open_demands world t all) ≡ true → all_met (map (up_demand world) all) ≡ true
all_up world t [] met = refl
all_up world t (want ∷ all) met = search (and_parts, open_up, all_up world t all, arith)

-- the first that is short by open servers is short by those that are up, where they have the same votes of it
first_up : (world : World) (t : ℕ) (all : List Want) (found : Option Want) → first_wanting world t all ≡ found → ((want : Want) → found ≡ Some want → open_demand world t want ≡ up_demand world want)
    → first_short (map (up_demand world) all) ≡ option_map (open_demand world t) found
first_up world t [] found is same = ap (option_map (open_demand world t)) is
first_up world t (want ∷ all) found is same = search (open_up, first_up world t all found, arith)

-- what is demanded of wants
fronts_of : {X : Type 0} (d : Want → Demand) (f : X → Want) (g : X → Demand) (xs : List X) (later : List Want) (others : List Demand) → ((x : X) → Has xs x → d (f x) ≡ g x) → map d later ≡ others
    → map d (map f xs ++ later) ≡ map g xs ++ others
fronts_of d f g [] later others same rest = rest
fronts_of d f g (x ∷ xs) later others same rest = ap (λ y. y ∷ map d (map f xs ++ later)) (same x (inl refl)) ∙ ap (λ ys. g x ∷ ys) (fronts_of d f g xs later others (λ y has. same y (inr has)) rest)

maps_of : {X : Type 0} (d : Want → Demand) (f : X → Want) (g : X → Demand) (xs : List X) → ((x : X) → d (f x) ≡ g x) → map d (map f xs) ≡ map g xs
maps_of d f g [] same = refl
maps_of d f g (x ∷ xs) same = ap (λ y. y ∷ map d (map f xs)) (same x) ∙ ap (λ ys. g x ∷ ys) (maps_of d f g xs same)

-- nothing is in the way there, so it is open where it is up
pub open_where_free : (way : Option (Option ℕ)) (up : Bool) → (is_way_met way ≡ false → way ≡ cond up (Some None) None) → is_way_met way ≡ false → is_open_way way ≡ up
open_where_free way up h2 h3 = search arith

-- has_votes_open is more than that the votes are up
pub open_is_more : (given : Opening) (events : List Event) (t : ℕ) (caller : Identity) (ops : List Op) → has_votes_open given events t caller ops ≡ true
    → (all_met (demands_of_rows (fixed_of given) (run given events) (table_of given events) t caller ops) && is_up (run given events) (home_of (fixed_of given).service t)) ≡ true
open_is_more given events t caller ops has = search (and_parts, fronts_of, of_votes, maps_of, all_up, arith)

module _ (given : Opening) (events later : List Event) (agent t : ℕ) (caller : Identity) (site : ℕ) (ops : List Op) (actor : Actor) (goes : GoesUnmet given events later agent t caller site ops actor) where
  abbrev world : World
  world = run given events

  abbrev asked : List (ℕ × LockMode)
  asked = asks_for given events t caller ops

  abbrev among : GoesSteadily given events later agent t caller site ops actor
  among = steady given events later agent t caller site ops actor (unmet_is_among_locks given events later agent t caller site ops actor goes)

  clear : (one : ℕ × LockMode) (server : ℕ) → Contains (asks_for given events t caller ops) one → goes.near server ≡ true → in_its_way (run given events) t one.0 one.1 server ≡ false
  clear one server has near = open_first given events later agent t caller site ops actor goes server one near has

  -- it finds the same by all that are up
  led_same : (one : ℕ × LockMode) → Has asked one → (start : Prefix) → MayStart (fixed_of given) actor.agent.cache site one.0 start
      → found_by given events later agent t caller site ops actor among one start ≡ led_to (fixed_of given) (run given events) one.0 start
  led_same one has start may =
      let first : ℕ × LockMode = (one.0, first_mode asked one.0) in
      let there = contains_from asked first (first_in asked one has) in
      sym (same_so_far given events t caller site ops actor goes.near goes.are_near first there (is_up (run given events)) (is_open_at (run given events) t one.0 (first_mode asked one.0)) (λ server up. up)
      (λ server near. open_is_up given events t caller site ops actor goes.near goes.are_near clear first there server near)
      (length (run given events).servers) start (start_near given events t caller site ops actor goes.near goes.are_near first there start may)).0

  demands_are : (start : ℕ → Prefix) → MayStartAll (fixed_of given) actor.agent.cache site start
      → map (up_demand (run given events)) (wants (fixed_of given) (run given events) (table_of given events) t caller ops start) ≡ demands (fixed_of given) (run given events) (table_of given events) t caller ops start
  demands_are start may = search (fronts_of, found_by, of_votes, led_same, maps_of, arith)

  the : Demand → Demand
  the one = one

  -- it ends as these say
  short_up : (want : Want) → ((rep : Representative) → Contains want.votes.reps rep → nat_lt 0 rep.1 ≡ true → in_its_way (run given events) t want.suite want.mode rep.0 ≡ false)
      → open_demand (run given events) t want ≡ up_demand (run given events) want
  unfolding the
  short_up want free = search (the, votes_alike, open_where_free, plain_way, contains_from, arith)

  ending_of_first : (start : ℕ → Prefix) (job : EndedJob) (found : Option Want) → first_wanting (run given events) t (wants (fixed_of given) (run given events) (table_of given events) t caller ops start) ≡ found
      → EndsOpenly given events t caller ops among.near job.ending found
      → job.ending ≡ ending_by (first_short (map (up_demand (run given events)) (wants (fixed_of given) (run given events) (table_of given events) t caller ops start)))
      (is_up (run given events) (home_of (fixed_of given).service t)) (answer_on (table_of given events) t caller ops)
  ending_of_first start job None first is =
      is ∙ sym (ap (λ found. ending_by found (is_up (run given events) (home_of (fixed_of given).service t)) (answer_on (table_of given events) t caller ops))
      (first_up (run given events) t (wants (fixed_of given) (run given events) (table_of given events) t caller ops start) None first (λ want none. absurd (none-some want none))))
  ending_of_first start job (Some want) first (inl short) =
      short.is ∙ sym (ap (λ found. ending_by found (is_up (run given events) (home_of (fixed_of given).service t)) (answer_on (table_of given events) t caller ops))
      (first_up (run given events) t (wants (fixed_of given) (run given events) (table_of given events) t caller ops start) (Some want) first
      (λ other same. subst (λ other. open_demand (run given events) t other ≡ up_demand (run given events) other) (same_Some want other same) (short_up want short.free))))
  ending_of_first start job (Some want) first (inr holder) =
      absurd (false≢true (sym (clear (want.suite, holder.mode) holder.server holder.asks (near_back given events later agent t caller site ops actor goes holder.server holder.is_near)) ∙ ap is_way_met holder.way))

  pub unmet_by_votes : (job : EndedJob) → EndsThen given events later agent t caller site ops job → EndsByVotes given events t caller site ops actor.agent.cache job
  unmet_by_votes job ends =
      let by = among_by_votes given events later agent t caller site ops actor among job ends in
      record {
        start = by.start;
        from = by.from;
        ends = ending_of_first by.start job (first_wanting (run given events) t (wants (fixed_of given) (run given events) (table_of given events) t caller ops by.start)) refl by.ends
            ∙ ap (λ all. ending_by (first_short all) (is_up (run given events) (home_of (fixed_of given).service t)) (answer_on (table_of given events) t caller ops)) (demands_are by.start by.from);
      }

  -- ---- where votes were never moved

  module _ (unmoved : VotesNeverMovedOf given events (asks_for given events t caller ops)) where
    rows_same : (start : ℕ → Prefix) → MayStartAll (fixed_of given) actor.agent.cache site start
        → demands (fixed_of given) (run given events) (table_of given events) t caller ops start ≡ demands_of_rows (fixed_of given) (run given events) (table_of given events) t caller ops
    rows_same start may =
        ap (λ front. front ++ map (λ (one : ℕ × Configuration). record { suite = one.0; got = votes_in one.1.reps (is_up (run given events)); needed = one.1.w }) (votes_set (table_of given events) t caller ops))
        (map_members (λ (one : ℕ × LockMode). demand (run given events) one.0 one.1 (led_to (fixed_of given) (run given events) one.0 (start one.0)).votes)
        (λ (one : ℕ × LockMode). demand (run given events) one.0 one.1 (votes_of_row (fixed_of given) (row_of (table_of given events).rows one.0))) asked
        (λ one has.
        let there = contains_from asked one has in
        ap (demand (run given events) one.0 one.1)
        (ap (λ (prefix : Prefix). prefix.votes) (sym (led_same one has (start one.0) (may one.0)))
        ∙ led_first given events later agent t caller site ops actor among unmoved one there (start one.0) (may one.0)
        ∙ sym (row_first given events later agent t caller site ops actor among unmoved one there))))

    pub unmet_where_votes : (job : EndedJob) → EndsThen given events later agent t caller site ops job
        → is_decided job.ending ≡ (all_met (demands_of_rows (fixed_of given) (run given events) (table_of given events) t caller ops) && is_up (run given events) (home_of (fixed_of given).service t))
    unmet_where_votes job ends =
        let by = unmet_by_votes job ends in
        let up = is_up (run given events) (home_of (fixed_of given).service t) in
        ap is_decided by.ends ∙ decided_by (demands (fixed_of given) (run given events) (table_of given events) t caller ops by.start) up (answer_on (table_of given events) t caller ops)
        ∙ ap (λ all. all_met all && up) (rows_same by.start by.from)

pub unmet_end_by_votes : Always UnmetEndByVotesAt
unmet_end_by_votes given events later agent t caller site ops actor goes job ends = unmet_by_votes given events later agent t caller site ops actor goes job ends

pub unmet_are_decided_where_votes_are : Always UnmetAreDecidedWhereVotesAreAt
unmet_are_decided_where_votes_are given events later agent t caller site ops actor goes unmoved job ends = unmet_where_votes given events later agent t caller site ops actor goes unmoved job ends

pub unmet_are_among_locks : UnmetAreAmongLocks
unmet_are_among_locks given events later agent t caller site ops actor goes = unmet_is_among_locks given events later agent t caller site ops actor goes
