-- What is kept of the entries of both lists.
use Rattle.std.specs.Prelude.{List}
use Rattle.acl_core.specs.Tallies.{IsTallyOf}
use Rattle.acl_text.specs.declared.item.SidedEntry.{SidedEntry}
use Rattle.acl_text.specs.declared.item.Side.TheVariants.{Access, Default}
use Rattle.acl_text.specs.declared.read.Tallies.{Tallies}
use Rattle.acl_text.specs.Sides.{entries_of}

-- the tallies of these entries
pub record AreTallied (tallies : Tallies) (taken : List SidedEntry) : Type 0 where
  pub access : IsTallyOf tallies.access (entries_of Access taken)
  pub default : IsTallyOf tallies.default (entries_of Default taken)

-- what holds of the entries of some tallies
abbrev pub ForTallied : Tallies → (List SidedEntry → Type 0) → Type 0
ForTallied tallies P = (taken : List SidedEntry) → AreTallied tallies taken → P taken
