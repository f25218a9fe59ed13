-- The servers of a world, as a function of their numbers.
use Rattle.law_run_machine.proofs.Vocabulary.{◌≡◌, ℕ, ◌+◌, zero, suc, get_or, Some, refl, ap, subst, arith, slice_get, slice_set, get_or-set_same, get_or-set_other, slice_get_within, unwrap_or-slice_get, Opening, State, server_at, with_server}
use Rattle.law_run_machine.proofs.Vocabulary.{servers_from, set1, at1, servers_of}
use Rattle.std.specs.Prelude.{unwrap_or}
use Rattle.rep_core.specs.State as state
use Rattle.run_core.specs.Worlds as worlds

-- the servers once one of them has changed
pub servers_set : (given : Opening) (world : worlds.World) (i : ℕ) (old new : State) → server_at world i ≡ Some old → set1 (servers_of given world) i new ≡ servers_of given (with_server i new world)
servers_set given world i old new is = search (slice_set world.servers i new, slice_get_within world.servers i old is, at1, slice_get, unwrap_or-slice_get, get_or-set_same, get_or-set_other, arith)

pub server_there : (given : Opening) (world : worlds.World) (i : ℕ) (st : State) → server_at world i ≡ Some st → servers_of given world i ≡ st
server_there given world i st is = ap (λ o. unwrap_or o (state.opening i given)) is

-- ---- at the opening

opens_from : (given : Opening) (start count i : ℕ) → unwrap_or (slice_get (servers_from given start count) i) (state.opening (start + i) given) ≡ state.opening (start + i) given
opens_from given start zero i = refl
opens_from given start (suc count) zero = search arith
opens_from given start (suc count) (suc i) = search (slice_get, opens_from given (start + 1) count i, arith)

pub servers_open : (given : Opening) → servers_of given (worlds.opening given) ≡ (λ i. state.opening i given)
servers_open given = λ k i. each i k
  where
    plus : (i : ℕ) → 0 + i ≡ i
    plus i = omega arith

    each : (i : ℕ) → servers_of given (worlds.opening given) i ≡ state.opening i given
    each i = subst (λ n. unwrap_or (slice_get (servers_from given 0 given.servers) i) (state.opening n given) ≡ state.opening n given) (plus i) (opens_from given 0 given.servers i)
