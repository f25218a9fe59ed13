-- What blocks a suite after sweeps: whoever is down, and whoever has a lock on it in doubt.
use Rattle.law_run_recovers.proofs.Vocabulary.{◌≡◌, ◌⊎◌, inl, inr, ⊎_elim, ℕ, ◌+◌, ◌<◌, ◌≤◌, Bool, true, false, cond, List, [], ◌∷◌, ◌++◌, Option, Some, None, is_some, refl, sym, ap, subst, ◌∙◌, arith, ◌%◌, ◌/◌, ◌&&◌, ◌||◌, not, nat_lt, nat_le}
use Rattle.law_run_recovers.proofs.Vocabulary.{Contains, mod-lt, false≢true, and_parts, and_from, eqb-true, eq-eqb, nat_tests, Representative, Configuration, votes_in, total_votes, IsValid, Opening, LockMode, Lock, Request, Stamped, conflicts}
use Rattle.law_run_recovers.proofs.Vocabulary.{in_the_way, has_prepared, State, served, is_full, answer_of, contains_from, has_filter, any_has, has_any, find_some, needed_of, has_vote, Fixed, home_of, fixed_of, Event, Crash, World, server_at}
use Rattle.law_run_recovers.proofs.Vocabulary.{operates, operated, opening, step, run, same_or, puts_in, all_up, up_in, is_up, locks_in, locks_at, is_in_doubt, in_doubt, way_in, is_open_way, is_open_at, Want, sweeps, blocks, SweepsAll, can_have}
use Rattle.law_run_recovers.proofs.Vocabulary.{DoubtedAt, IsBlocker, WasItsHome, Always, BlockedByDoubtsAt, OneCrashBlocksAt, SomeServerBlocksAt, not-true}
use Rattle.vote_core.specs.Validity.{IsAccepted}
use Rattle.run_core.proofs.Appending.{after-append}
use Rattle.rep_core.specs.declared.request.Request.TheVariants as request
use Rattle.law_run_recovers.proofs.Free.{is_up_of}
use Rattle.law_run_recovers.proofs.Rounds.{Ends, ends}
use Rattle.law_run_recovers.proofs.Gathered.{Voter, some_voter}

-- ---- votes

-- what one set has of the votes, and what it has not
votes_apart : (reps : List Representative) (set other : ℕ → Bool) → ((server : ℕ) → set server ≡ not (other server)) → votes_in reps set + votes_in reps other ≡ total_votes reps
votes_apart [] set other so = refl
votes_apart (rep ∷ reps) set other so = search (votes_apart reps set other so, arith)

voter_has : (votes : Configuration) (set : ℕ → Bool) (voter : Voter votes.reps set) → has_vote votes voter.rep.0 ≡ true
voter_has votes set voter = search (has_any, nat_lt, and_from, eq-eqb, arith)

-- ---- a server after the sweeps

open_by : (t suite : ℕ) (mode : LockMode) (found : Option State) → is_open_way (way_in t suite mode found) ≡ (up_in found && not (is_some (in_the_way t suite mode (locks_in found))))
open_by t suite mode found = search arith

module _ (given : Opening) (events : List Event) (agent : ℕ) (sweep_run : List (ℕ × List Event)) (sweeps_all : SweepsAll given events agent sweep_run) where
  abbrev first : World
  first = run given events

  abbrev last : World
  last = run given (events ++ sweeps agent sweep_run)

  whole : Ends given agent first events sweep_run
  whole = ends given agent first sweep_run events (record { ups = λ x. refl; locks = λ x. inl refl }) sweeps_all.goes sweeps_all.up

  module _ (t suite : ℕ) (mode : LockMode) where
    open_so : (server : ℕ) → is_open_at last t suite mode server ≡ not (blocks (fixed_of given) first t suite mode server)
    open_so server =
        open_by t suite mode (server_at last server)
        ∙ ap (λ b. b && not (is_some (in_the_way t suite mode (locks_at last server)))) (whole.since.ups server)
        ∙ of (is_up first server) refl
      where
        of : (b : Bool) → is_up first server ≡ b
            → (b && not (is_some (in_the_way t suite mode (locks_at last server)))) ≡ not (not b || is_some (in_the_way t suite mode (in_doubt (fixed_of given) first (locks_at first server))))
        of true up = ap (λ locks. not (is_some (in_the_way t suite mode locks))) (whole.swept server (sweeps_all.all server up))
        of false up = refl

    counted : (votes : Configuration) → votes_in votes.reps (is_open_at last t suite mode) + votes_in votes.reps (blocks (fixed_of given) first t suite mode) ≡ total_votes votes.reps
    counted votes = votes_apart votes.reps (is_open_at last t suite mode) (blocks (fixed_of given) first t suite mode) open_so

  pub met_so : (t : ℕ) (want : Want)
      → can_have given (events ++ sweeps agent sweep_run) t want ≡ nat_le (needed_of want.mode want.votes + votes_in want.votes.reps (blocks (fixed_of given) first t want.suite want.mode)) (total_votes want.votes.reps)
  met_so t want = search (counted, nat_le, nat_tests, arith)

  -- ---- who blocks

  doubted : (t : ℕ) (want : Want) (server : ℕ) → is_some (in_the_way t want.suite want.mode (in_doubt (fixed_of given) first (locks_at first server))) ≡ true → DoubtedAt given first t want server
  doubted t want server = of (in_the_way t want.suite want.mode (in_doubt (fixed_of given) first (locks_at first server))) refl
    where
      of : (found : Option Lock) → in_the_way t want.suite want.mode (in_doubt (fixed_of given) first (locks_at first server)) ≡ found → is_some found ≡ true → DoubtedAt given first t want server
      of None is some = absurd (false≢true some)
      of (Some lock) is some =
          let found = find_some (conflicts t want.suite want.mode) (in_doubt (fixed_of given) first (locks_at first server)) lock is in
          let has = has_filter (is_in_doubt (fixed_of given) first (locks_at first server)) (locks_at first server) lock found.0 in
          let parts = and_parts (has_prepared lock.t (locks_at first server)) (not (is_up first (home_of (fixed_of given).service lock.t))) has.1 in
          record {
            lock = lock;
            there = contains_from (locks_at first server) lock has.0;
            way = found.1;
            prepared = parts.0;
            home_down = not-true (is_up first (home_of (fixed_of given).service lock.t)) parts.1;
          }

  pub blocker : (t : ℕ) (want : Want) → IsValid want.votes → can_have given (events ++ sweeps agent sweep_run) t want ≡ false → IsBlocker given first t want
  blocker t want valid short =
      let some = too_few (needed_of want.mode want.votes) (votes_in want.votes.reps (blocks (fixed_of given) first t want.suite want.mode)) (total_votes want.votes.reps) (within want.mode) (sym (met_so t want) ∙ short) in
      let voter = some_voter want.votes.reps (blocks (fixed_of given) first t want.suite want.mode) some in
      record { server = voter.rep.0; votes = voter_has want.votes (blocks (fixed_of given) first t want.suite want.mode) voter; why = of voter.rep.0 (is_up first voter.rep.0) refl voter.inside }
    where
      within : (mode : LockMode) → needed_of mode want.votes ≤ total_votes want.votes.reps
      within mode = search arith

      too_few : (needed blocked total : ℕ) → needed ≤ total → nat_le (needed + blocked) total ≡ false → 0 < blocked
      too_few needed blocked total within is = grind (arith, nat_tests)

      of : (server : ℕ) (b : Bool) → is_up first server ≡ b → (not b || is_some (in_the_way t want.suite want.mode (in_doubt (fixed_of given) first (locks_at first server)))) ≡ true
          → (is_up first server ≡ false) ⊎ DoubtedAt given first t want server
      of server b h2 h3 = search (doubted, arith)

pub blocked_by_doubts : Always BlockedByDoubtsAt
blocked_by_doubts given events agent sweep_run sweeps_all t want = met_so given events agent sweep_run sweeps_all t want

pub some_server_blocks : Always SomeServerBlocksAt
some_server_blocks given events agent sweep_run sweeps_all t want valid short = blocker given events agent sweep_run sweeps_all t want valid short

-- ---- one crash

-- it changes no other server
crash_apart : (fixed : Fixed) (w : World) (server other : ℕ) → (other ≡ server → ⊥) → server_at (step fixed w (Crash server)).world other ≡ server_at w other
crash_apart fixed w server other apart = of (server_at w server) refl
  where
    of : (found : Option State) → server_at w server ≡ found → server_at (operates w server request.Crash found).world other ≡ server_at w other
    of None at = refl
    of (Some st) at = by (is_full st (record { stamp = 0; value = request.Crash }))
      where
        asked : Stamped Request
        asked = record { stamp = 0; value = request.Crash }

        by : (b : Bool) → server_at (operated w st (cond b None (Some (record { server = server; request = asked; reply = answer_of st asked })))).world other ≡ server_at w other
        by true = refl
        by false = (puts_in w.servers server st (served st asked) at).apart other apart

module _ (given : Opening) (events : List Event) (server : ℕ) (up : all_up (run given events) ≡ true) where
  abbrev before : World
  before = run given events

  abbrev crashed : World
  crashed = run given (events ++ Crash server ∷ [])

  path : crashed ≡ (step (fixed_of given) before (Crash server)).world
  path = after-append (fixed_of given) (opening given) events (Crash server ∷ [])

  stays : (other : ℕ) → (other ≡ server → ⊥) → server_at crashed other ≡ server_at before other
  stays other apart = ap (λ w. server_at w other) path ∙ crash_apart (fixed_of given) before server other apart

  -- who is down then is the one that crashed
  it_is : (other : ℕ) → other < given.servers → is_up crashed other ≡ false → other ≡ server
  it_is other less down = search (false≢true, stays, is_up_of, same_or, arith)

voter_known : (servers : ℕ) (votes : Configuration) → IsAccepted servers votes → (server : ℕ) → has_vote votes server ≡ true → server < servers
voter_known servers votes accepted server has = search (any_has, nat_lt, and_parts, eqb-true, contains_from, arith)

pub one_crash_blocks : Always OneCrashBlocksAt
one_crash_blocks given events server agent sweep_run up sweeps_all t want accepted short = of block.why
  where
    block : IsBlocker given (run given (events ++ Crash server ∷ [])) t want
    block = blocker given (events ++ Crash server ∷ []) agent sweep_run sweeps_all t want accepted.valid short

    some_servers : 0 < given.servers
    some_servers = let some = sweeps_all.can.accepted.some_servers.0 in omega (arith, some)

    same_votes : block.server ≡ server → has_vote want.votes server ≡ true
    same_votes same = subst (λ at. has_vote want.votes at ≡ true) same block.votes

    of : (is_up (run given (events ++ Crash server ∷ [])) block.server ≡ false) ⊎ DoubtedAt given (run given (events ++ Crash server ∷ [])) t want block.server
        → (has_vote want.votes server ≡ true) ⊎ WasItsHome given (run given events) t want server
    of (inl down) = inl (same_votes (it_is given events server up block.server (voter_known given.servers want.votes accepted block.server block.votes) down))
    of (inr doubt) = ⊎_elim
        (λ same. inl (same_votes same))
        (λ apart.
        let locks = ap locks_in (stays given events server up block.server apart) in
        inr (record {
          server = block.server;
          votes = block.votes;
          lock = doubt.lock;
          there = subst (λ locks. Contains locks doubt.lock) locks doubt.there;
          way = doubt.way;
          prepared = subst (λ locks. has_prepared doubt.lock.t locks ≡ true) locks doubt.prepared;
          is_home = it_is given events server up (home_of (fixed_of given).service doubt.lock.t) (mod-lt (doubt.lock.t % 64 + doubt.lock.t / 64) some_servers) doubt.home_down;
        }))
        (same_or block.server server)
