-- What the machine of a suite told a transaction, server by server, against the list that its collector holds.
use Rattle.std.specs.Prelude.{◌≡◌, ℕ, List, is_some, Option, Some}
use Rattle.suite_prefix.specs.declared.lock_mode.LockMode.TheVariants.{Shared, Exclusive}
use Rattle.suite_collect.specs.declared.told.Told as collect
use Rattle.suite_collect.specs.Telling.{holds}
use Rattle.txn_core.specs.Suites.{told_at}
use Rattle.txn_core.specs.Doing.{Doing, Running}
use Rattle.run_core.specs.Worlds as worlds
use Rattle.run_core.specs.Worlds.{Actor, actor_at}
use Rattle.law_suite_machine.specs.Machine.{Told, World}
use Rattle.law_suite_machine.specs.Conditions.{is_exclusive}
use Rattle.law_run_machine.specs.Telling.{told_to, AreTold}

-- each copy of the list was told, and the list has all that was told, with the modes of the locks
pub record Agrees (told : ℕ → Option Told) (list : List collect.Told) : Type 0 where
  pub copies : AreTold told list
  pub held : (i : ℕ) → is_some (told i) ≡ holds Shared list i
  pub exclusive : (i : ℕ) → is_exclusive (told i) ≡ holds Exclusive list i

abbrev pub DoingAgrees : ℕ → World → Option Doing → Type 0
DoingAgrees z w (Some (Running txn_run)) = Agrees (told_to w txn_run.task.t) (told_at txn_run.suites z)
DoingAgrees z w other = Unit {0}

-- every transaction of a world
abbrev pub AllAgree : ℕ → World → worlds.World → Type 0
AllAgree z w world = (number : ℕ) (actor : Actor) → actor_at world number ≡ Some actor → DoingAgrees z w actor.agent.doing
