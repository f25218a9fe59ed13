-- What the machine of a suite told a transaction, and a list of replies that tells no more.
use Rattle.std.specs.Prelude.{◌≡◌, ℕ, List, [], ◌∷◌, Option, Some}
use Rattle.suite_prefix.specs.declared.copies.Prefix.{Prefix}
use Rattle.suite_collect.specs.declared.told.Said.{Said}
use Rattle.suite_collect.specs.declared.told.Said.TheVariants.{Held, Busy, Down}
use Rattle.suite_collect.specs.declared.told.Told as collect
use Rattle.law_suite_machine.specs.Machine.{Told, World}

-- what a transaction was told at each server
abbrev pub told_to : World → ℕ → ℕ → Option Told
told_to w t i = w.told i t

-- it was told of a copy with this prefix and version
pub record ToldOf (told : Option Told) (prefix : Prefix) (dver : ℕ) : Type 0 where
  pub one : Told
  pub is : told ≡ Some one
  pub prefix_is : one.copy.prefix ≡ prefix
  pub dver_is : one.copy.dver ≡ dver

abbrev pub SaidIs : Option Told → Said → Type 0
SaidIs told (Held prefix dver) = ToldOf told prefix dver
SaidIs told (Busy holder) = Unit {0}
SaidIs told Down = Unit {0}

-- each copy of the list was told, at its server
abbrev pub AreTold : (ℕ → Option Told) → List collect.Told → Type 0
AreTold told [] = Unit {0}
AreTold told (one ∷ list) = SaidIs (told one.server) one.said × AreTold told list
