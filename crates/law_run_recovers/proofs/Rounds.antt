-- Sweeps of servers one after the other.
use Rattle.law_run_recovers.proofs.Vocabulary.{◌≡◌, ◌≢◌, ◌⊎◌, inl, ℕ, ◌+◌, true, false, List, [], ◌∷◌, ◌++◌, append_assoc, append-nil, Option, Some, is_some, refl, sym, ap, subst, ◌∙◌, ◌==◌, ◌&&◌, not, arith, list_all, list_any, false≢true}
use Rattle.law_run_recovers.proofs.Vocabulary.{and_parts, cases_Bool, eqb-true, and_from, Opening, Lock, has_prepared, rise, has_filter, filter_has, any_has, has_any, Job, Sweep, Fixed, home_of, fixed_of, Event, Begin, Actor, World, opening}
use Rattle.law_run_recovers.proofs.Vocabulary.{actor_at, has_no_job, step, after, run, begins_now, same_or, begins_job, with_job, is_up, locks_at, is_in_doubt, in_doubt, unhindered_from, sweeps, goes_round, Always, OnlyDoubtsAreLeftAt}
use Rattle.run_core.proofs.Appending.{after-append}
use Rattle.law_run_recovers.proofs.Doubts.{filter_alike, filter_all}
use Rattle.law_run_recovers.proofs.Found.{or_rest}
use Rattle.law_run_recovers.proofs.Swept.{Busy, Over, goes, busy_first, rises}

-- ---- doubts stay doubts

-- where the same servers are up, the same locks are in doubt
pub doubts_alike : (fixed : Fixed) (w v : World) (locks : List Lock) → ((x : ℕ) → is_up w x ≡ is_up v x) → in_doubt fixed w locks ≡ in_doubt fixed v locks
doubts_alike fixed w v locks ups = filter_alike (is_in_doubt fixed w locks) (is_in_doubt fixed v locks) locks (λ lock has. ap (λ b. has_prepared lock.t locks && not b) (ups (home_of fixed.service lock.t)))

-- and those that are in doubt are so among themselves
pub doubts_stay : (fixed : Fixed) (w : World) (locks : List Lock) → in_doubt fixed w (in_doubt fixed w locks) ≡ in_doubt fixed w locks
doubts_stay fixed w locks = filter_all (is_in_doubt fixed w (in_doubt fixed w locks)) (in_doubt fixed w locks) (λ lock in'.
    let was = has_filter (is_in_doubt fixed w locks) locks lock in' in
    let parts = and_parts (has_prepared lock.t locks) (not (is_up w (home_of fixed.service lock.t))) was.1 in
    let some = any_has (λ (other : Lock). (other.t == lock.t) && other.prepared) locks parts.0 in
    let of = and_parts (some.0.t == lock.t) some.0.prepared some.2 in
    let same = eqb-true some.0.t lock.t of.0 in
    let so : is_in_doubt fixed w locks some.0 ≡ true = ap (λ t. has_prepared t locks && not (is_up w (home_of fixed.service t))) same ∙ was.1 in
    and_from (has_prepared lock.t (in_doubt fixed w locks)) (not (is_up w (home_of fixed.service lock.t)))
    (has_any (λ (other : Lock). (other.t == lock.t) && other.prepared) (in_doubt fixed w locks) some.0 (filter_has (is_in_doubt fixed w locks) locks some.0 some.1 so) some.2) parts.1)

module _ (given : Opening) (agent : ℕ) (first : World) where
  abbrev fixed : Fixed
  fixed = fixed_of given

  abbrev Swept : ℕ → World → Type 0
  Swept x w = locks_at w x ≡ in_doubt fixed first (locks_at first x)

  -- since a first world the same servers are up, and each has its locks still, or was swept
  pub record Since (w : World) : Type 0 where
    pub ups : (x : ℕ) → is_up w x ≡ is_up first x
    pub locks : (x : ℕ) → (locks_at w x ≡ locks_at first x) ⊎ Swept x w

  -- one more sweep
  record More (w new : World) (server : ℕ) : Type 0 where
    ups : (x : ℕ) → is_up new x ≡ is_up w x
    swept : locks_at new server ≡ in_doubt fixed w (locks_at w server)
    others : (x : ℕ) → x ≢ server → locks_at new x ≡ locks_at w x

  swept_now : (w new : World) (server : ℕ) → Since w → More w new server → Swept server new
  swept_now w new server since more = search (doubts_alike, doubts_stay, arith)

  swept_still : (w new : World) (server x : ℕ) → Since w → More w new server → Swept x w → Swept x new
  swept_still w new server x since more swept = search (swept_now, same_or, arith)

  since_more : (w new : World) (server : ℕ) → Since w → More w new server → Since new
  since_more w new server since more = grind (swept_now, same_or, arith)

  -- ---- where the next begins, or none is left, the agent is idle

  begins_idle : (job : Job) (found : Option Actor) → is_some (with_job job (begins_now fixed agent job found)) ≡ true → has_no_job found ≡ true
  begins_idle job found h2 = search arith

  begun_so : (job : Job) (found : Option ℕ) → is_some (with_job job found) ≡ true → (t : ℕ) × (with_job job found ≡ Some (t, job))
  begun_so job found h2 = search arith

  goes_idle : (w : World) (sweep_run : List (ℕ × List Event)) → goes_round given agent w sweep_run ≡ true → has_no_job (actor_at w agent) ≡ true
  goes_idle w [] goes = goes
  goes_idle w (one ∷ more) goes = search (and_parts, begins_idle, arith)

  -- once the agent is idle its sweep is over
  moved_by : (w new : World) (server : ℕ) (up : is_up w server ≡ true) (in_order : rise (locks_at w server) ≡ true) → has_no_job (actor_at new agent) ≡ true
      → Busy given agent w server up in_order new ⊎ Over given agent w server up in_order new → More w new server
  moved_by w new server up in_order h5 h6 = search arith

  -- ---- all of them

  pub record Ends (events : List Event) (sweep_run : List (ℕ × List Event)) : Type 0 where
    pub since : Since (run given (events ++ sweeps agent sweep_run))
    pub swept : (x : ℕ) → list_any (λ (one : ℕ × List Event). one.0 == x) sweep_run ≡ true → Swept x (run given (events ++ sweeps agent sweep_run))
    pub still : (x : ℕ) → Swept x (run given events) → Swept x (run given (events ++ sweeps agent sweep_run))

  pub ends : (sweep_run : List (ℕ × List Event)) (events : List Event) → Since (run given events) → goes_round given agent (run given events) sweep_run ≡ true
      → list_all (λ (one : ℕ × List Event). is_up first one.0) sweep_run ≡ true → Ends events sweep_run
  ends [] events since goes' up = search (append-nil, false≢true, arith)
  ends (one ∷ more) events since goes' up =
      let w = run given events in
      let begin = Begin agent (Sweep one.0) in
      let begun' = (step (fixed_of given) w begin).world in
      let new = after (fixed_of given) begun' one.1 in
      let parts = and_parts (is_some (begins_job given w begin) && unhindered_from given agent begun' one.1) (goes_round given agent new more) goes' in
      let begins = and_parts (is_some (begins_job given w begin)) (unhindered_from given agent begun' one.1) parts.0 in
      let ups = and_parts (is_up first one.0) (list_all (λ (one : ℕ × List Event). is_up first one.0) more) up in
      let some = begun_so (Sweep one.0) (begins_now (fixed_of given) agent (Sweep one.0) (actor_at w agent)) begins.0 in
      let up_now = since.ups one.0 ∙ ups.0 in
      let result = goes given agent w one.0 up_now (rises given events agent some.0 one.0 some.1 up_now) one.1 begun' (busy_first given events agent some.0 one.0 some.1 up_now) begins.1 in
      let moved = moved_by w new one.0 up_now (rises given events agent some.0 one.0 some.1 up_now) (goes_idle new more parts.1) result.state in
      let events' = events ++ begin ∷ one.1 in
      let path : run given (events ++ begin ∷ one.1) ≡ new = after-append (fixed_of given) (opening given) events (begin ∷ one.1) in
      let rest = ends more events' (subst Since (sym path) (since_more w new one.0 since moved)) (subst (λ w. goes_round given agent w more ≡ true) (sym path) parts.1) ups.1 in
      let all = append_assoc events (begin ∷ one.1) (sweeps agent more) in
      record {
        since = subst (λ all. Since (run given all)) all rest.since;
        swept = search (eqb-true, swept_now, or_rest, cases_Bool, arith);
        still = λ x is. subst (λ all. Swept x (run given all)) all (rest.still x (subst (Swept x) (sym path) (swept_still w new one.0 x since moved is)));
      }

pub only_doubts_are_left : Always OnlyDoubtsAreLeftAt
only_doubts_are_left given events agent sweep_run can goes up all server is =
    (ends given agent (run given events) sweep_run events (record { ups = λ x. refl; locks = λ x. inl refl }) goes up).swept server (all server is)
