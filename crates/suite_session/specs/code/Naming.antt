-- What holds while names are gathered: each folder is asked once, and what it names is among the numbers.
use Rattle.std.specs.Prelude.{◌≡◌, ℕ, true, List}
use Rattle.run_core.specs.Worlds.{World}
use Rattle.suite_session.specs.Places.{has, numbers_of}
use Rattle.suite_session.specs.Rows.{newest, stored_in}
use Rattle.suite_session.specs.declared.side.Side.TheVariants as side

-- both have the same numbers
abbrev pub HaveSame : List ℕ → List ℕ → Type 0
HaveSame numbers others = (one : ℕ) → has numbers one ≡ has others one

-- what the folders name, as their newest contents at the first so many servers have it, is among the numbers
abbrev pub AreTold : World → ℕ → List ℕ → List ℕ → Type 0
AreTold world count folders numbers =
    (suite one : ℕ) → has folders suite ≡ true → has (numbers_of (newest side.Content (stored_in world) suite count)) one ≡ true → has numbers one ≡ true
