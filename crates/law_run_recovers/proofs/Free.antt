-- Once all servers are up and each was swept, no server has a lock.
use Rattle.law_run_recovers.proofs.Vocabulary.{◌≡◌, inl, ℕ, zero, suc, ◌<◌, ◌+◌, Bool, true, false, cond, List, [], ◌∷◌, ◌++◌, length, Option, Some, None, is_some, refl, sym, ap, ◌∙◌, arith, ◌==◌, ◌&&◌, ◌*◌, nat_lt, slice_get, list_all, mod-lt}
use Rattle.law_run_recovers.proofs.Vocabulary.{false≢true, and_parts, and_right, ltb-true, slice_get_within, Opening, Lock, State, all_at, Job, Sweep, fixed_of, is_idle, has_sense, max_jobs, Event, Begin, Actor, World, actor_at, step, after, run}
use Rattle.law_run_recovers.proofs.Vocabulary.{begins_now, so_many, begins_job, with_job, at_has, unhindered_from, all_up, up_in, is_up, locks_in, locks_at, is_in_doubt, sweeps, goes_round, Always, NoLockIsLeftAt}
use Rattle.law_run_recovers.proofs.Doubts.{filter_none}
use Rattle.law_run_recovers.proofs.Rounds.{Ends, ends}

pub all_from : {X : Type 0} (p : X → Bool) (xs : List X) → ((i : ℕ) (x : X) → slice_get xs i ≡ Some x → p x ≡ true) → list_all p xs ≡ true
all_from p [] all = refl
all_from p (x ∷ xs) all = ap (λ b. b && list_all p xs) (all 0 x refl) ∙ all_from p xs (λ i y is. all (suc i) y is)

some_at : {X : Type 0} (xs : List X) (i : ℕ) → i < length xs → (x : X) × (slice_get xs i ≡ Some x)
some_at [] i less = absurd (omega (arith, less))
some_at (x ∷ xs) zero less = (x, refl)
some_at (x ∷ xs) (suc i) less = some_at xs i (omega (arith, less))

-- where all servers are up, each that there is is up
pub is_up_of : (given : Opening) (events : List Event) → all_up (run given events) ≡ true → (i : ℕ) → i < given.servers → is_up (run given events) i ≡ true
is_up_of given events up i less =
    let many = (so_many given events).0 in
    let some = some_at (run given events).servers i (omega (arith, many, less)) in
    ap up_in some.1 ∙ all_at (λ (st : State). st.up) (run given events).servers some.0 up (at_has (run given events).servers i some.0 some.1)

pub no_lock_is_left : Always NoLockIsLeftAt
no_lock_is_left given events agent sweep_run can up goes all =
    all_from (λ (st : State). length st.locks == 0) last.servers (λ i st is.
    let many = (so_many given (events ++ sweeps agent sweep_run)).0 in
    let less = slice_get_within last.servers i st is in
    let ups = is_up_of given events up i (omega (arith, many, less)) in
    let none = (whole.swept i (all i ups)) ∙ filter_none (is_in_doubt (fixed_of given) first (locks_at first i)) (locks_at first i) (λ lock has. certain lock (locks_at first i)) in
    ap (λ locks. length locks == 0) (sym (ap locks_in is) ∙ none))
  where
    first : World
    first = run given events

    last : World
    last = run given (events ++ sweeps agent sweep_run)

    every : (w : World) (sweep_run : List (ℕ × List Event)) → goes_round given agent w sweep_run ≡ true → list_all (λ (one : ℕ × List Event). is_up (run given events) one.0) sweep_run ≡ true
    every w [] goes = refl
    every w (one ∷ more) goes =
        let begun = (step (fixed_of given) w (Begin agent (Sweep one.0))).world in
        let parts = and_parts (is_some (begins_job given w (Begin agent (Sweep one.0))) && unhindered_from given agent begun one.1) (goes_round given agent (after (fixed_of given) begun one.1) more) goes in
        let begins = and_parts (is_some (begins_job given w (Begin agent (Sweep one.0)))) (unhindered_from given agent begun one.1) parts.0 in
        let there = ltb-true one.0 given.servers (sense (Sweep one.0) (actor_at w agent) begins.0) in
        ap (λ b. b && list_all (λ (one : ℕ × List Event). is_up (run given events) one.0) more) (is_up_of given events up one.0 there) ∙ every (after (fixed_of given) begun one.1) more parts.1
      where
        sense : (job : Job) (found : Option Actor) → is_some (with_job job (begins_now (fixed_of given) agent job found)) ≡ true → has_sense (fixed_of given) job ≡ true
        sense job None is = absurd (false≢true is)
        sense job (Some actor) is = of (is_idle actor.agent.doing) (has_sense (fixed_of given) job) (nat_lt actor.agent.count max_jobs) is
          where
            of : (a b c : Bool) → is_some (with_job job (cond (a && b && c) (Some (64 * actor.agent.count + agent)) None)) ≡ true → b ≡ true
            of a b c h3 = search (false≢true, arith)

    whole : Ends given agent (run given events) events sweep_run
    whole = ends given agent (run given events) sweep_run events (record { ups = λ x. refl; locks = λ x. inl refl }) goes (every (run given events) sweep_run goes)

    some_servers : 0 < given.servers
    some_servers = let some = can.accepted.some_servers.0 in omega (arith, some)

    certain : (lock : Lock) (locks : List Lock) → is_in_doubt (fixed_of given) (run given events) locks lock ≡ false
    certain lock locks = search (and_right, first, is_up_of, mod-lt, some_servers, arith)
