-- Once all servers were swept, what is stored is in effect, and was before.
use Rattle.law_run_recovers.proofs.Vocabulary.{◌≡◌, ℕ, true, List, [], length, Option, Some, None, refl, subst, ◌==◌, unwrap_or, nat_cmp, get, Opening, Intention, IsConsistent, copy_of, State, Has, has_from, all_at, arith, World, server_at, run}
use Rattle.law_run_recovers.proofs.Vocabulary.{servers_of, Event, copy_at, at_has, all_free, AllIsStoredAt, Always}
use Rattle.law_run_machine.proofs.Consistent.{servers_are_consistent}
use Rattle.rep_core.specs.State as state
use Rattle.law_run_recovers.proofs.Found.{no_locks}
use Rattle.law_run_recovers.proofs.Free.{no_lock_is_left}
use Rattle.law_run_recovers.proofs.Quiet.{effects_stay, decisions_stay}
use Rattle.law_run_recovers.proofs.Calm.{calm_round}

-- no server has a lock, those that are not there too
free_at : (given : Opening) (world : World) (i : ℕ) → all_free world ≡ true → (servers_of given world i).locks ≡ []
free_at given world i free = of (server_at world i) refl
  where
    of : (found : Option State) → server_at world i ≡ found → (unwrap_or found (state.opening i given)).locks ≡ []
    of None is = refl
    of (Some st) is = no_locks st.locks (all_at (λ (st : State). length st.locks == 0) world.servers st free (at_has world.servers i st is))

-- so none has an intention
no_intention : (st : State) → IsConsistent st → st.locks ≡ [] → (z : ℕ) (found : Option Intention) → get nat_cmp st.store.intentions z ≡ found → get nat_cmp st.store.intentions z ≡ None
no_intention st consistent free z None is = is
no_intention st consistent free z (Some intention) is =
    let has = consistent.locked z intention is in
    absurd (subst (λ locks. Has locks has.lock) free (has_from st.locks has.lock has.there))

-- and what is stored is in effect
pub stored_is : (given : Opening) (events : List Event) → all_free (run given events) ≡ true → (z i : ℕ) → copy_of (servers_of given (run given events) i).store z ≡ copy_at given events z i
stored_is given events free z i = search (no_intention, servers_are_consistent, free_at, arith)

pub all_is_stored : Always AllIsStoredAt
all_is_stored given events agent sweep_run can up goes all = search (calm_round, no_lock_is_left, stored_is, effects_stay, decisions_stay, arith)
