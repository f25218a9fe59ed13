-- What a thread hands back of the channel.
use Rattle.std.specs.Prelude.{◌≡◌, ℕ, true, List}
use Rattle.atomic_table.specs.declared.badge.Badge.{Badge}
use Rattle.crossbeam_channel.specs.Claims.{Pass, view, IsSeatAt}
use Rattle.crossbeam_channel.specs.Ends.{receives_on}
use Rattle.crossbeam_channel.specs.declared.flavors.array.Doing.{Doing}
use Rattle.crossbeam_channel.specs.declared.flavors.array.Key.{Key}
use Rattle.crossbeam_channel.specs.declared.flavors.array.Rows.{Rows}
use Rattle.crossbeam_channel.specs.declared.flavors.array.ruled.Receiving.{Receiving}
use Rattle.agent_pool.specs.declared.line.Hand.{Hand}
use Rattle.agent_pool.specs.declared.line.PoolItem.{PoolItem}
use Rattle.agent_pool.specs.declared.pool_context.NamedJob.{NamedJob}
use Rattle.agent_pool.specs.declared.start.Start.{Start}
use Rattle.agent_pool.specs.declared.start.Start.TheVariants.{Started, Rested}
use Rattle.agent_pool.specs.declared.work.Returned.{Returned}
use Rattle.agent_pool.specs.Line.{IsTaker}
use Rattle.agent_pool.specs.Taken.{Took}

-- what its agent took is what its hand took; it took an end mark where it says so
pub record IsBack (servers : ℕ) (jobs : List NamedJob) (returned : Returned) : Type 0 where
  pub takes : IsTaker (view returned.ticket)
  pub took : Took servers jobs returned.worked (view returned.ticket).taken
  pub ended : returned.ended ≡ true → (view returned.ticket).ended ≡ true

module _ {Q M L A B : Type 0} where
  -- the same, by the channel with this end
  abbrev pub IsBackAt : Receiving (Rows (Badge (Key PoolItem)) (Doing PoolItem Hand) Q M (Key PoolItem) L A) B → ℕ → List NamedJob → Returned → Type 0
  IsBackAt receiver servers jobs returned = IsSeatAt (receives_on receiver) returned.ticket × IsBack servers jobs returned

  -- a thread was started that hands this back, of this channel; or nothing was taken
  abbrev pub IsOf : Receiving (Rows (Badge (Key PoolItem)) (Doing PoolItem Hand) Q M (Key PoolItem) L A) B → ℕ → List NamedJob → Start → Type 0
  IsOf receiver servers jobs (Started handle) =
      ((ticket : Pass PoolItem Hand) → IsSeatAt (receives_on handle.promise.receiver.now) ticket → IsSeatAt (receives_on receiver) ticket)
      × (handle.promise.servers.now.servers ≡ servers) × (handle.promise.jobs.now ≡ jobs)
  IsOf receiver servers jobs (Rested returned) = IsBackAt receiver servers jobs returned
