-- Every copy of a server is a valid copy, where the settings and the requests fit their types.
use Rattle.std.specs.Prelude.{◌≡◌, ℕ, Bool, List, All}
use Rattle.suite_prefix.specs.declared.copies.Replica.{Replica}
use Rattle.suite_prefix.specs.Copies.{PrefixFits, IsCopy}
use Rattle.suite_prefix.specs.TestsExact.{CopyFits}
use Rattle.suite_prefix.specs.SettingsRules.{Opening, IsAccepted}
use Rattle.rep_core.specs.declared.request.Take.{Take}
use Rattle.rep_core.specs.declared.request.Take.TheVariants as take
use Rattle.rep_core.specs.declared.request.Request.{Request}
use Rattle.rep_core.specs.declared.request.Request.TheVariants as request
use Rattle.rep_core.specs.declared.reply.Reply.{Reply}
use Rattle.rep_core.specs.declared.reply.Reply.TheVariants as reply
use Rattle.rep_core.specs.declared.stamped.Stamped.{Stamped}
use Rattle.rep_core.specs.Store.{Store, root_copy, copy_of, copy_in_effect}
use Rattle.rep_core.specs.Service.{reply_of}
use Rattle.rep_core.specs.Laws.{reached}

-- accepted settings, of which the list and the votes are valid and the numbers fit; so it is of each `Settings` by its types
pub record OpeningFits (given : Opening) : Type 0 where
  pub accepted : IsAccepted given
  pub root : PrefixFits (root_copy given).prefix

abbrev pub TakeFits : Take → Type 0
TakeFits take.Keep = Unit {0}
TakeFits (take.Prefix prefix) = PrefixFits prefix
TakeFits (take.Whole replica) = CopyFits replica

-- what a Prepare takes fits its types; so it is of each request that a program holds
abbrev pub RequestFits : Request → Type 0
RequestFits (request.Prepare t parts) = All (λ part. TakeFits part.take) parts
RequestFits _ = Unit {0}

-- each stored copy is valid, and so is each copy in effect, whatever was decided
pub record HasValidCopies (store : Store) : Type 0 where
  pub stored : (suite : ℕ) → IsCopy (copy_of store suite)
  pub in_effect : (decided : ℕ → Bool) (suite : ℕ) → IsCopy (copy_in_effect store decided suite)

-- what is told of a copy is told of a valid one
abbrev pub TellsOfValid : Reply → Type 0
TellsOfValid (reply.Held prefix dver) = (copy : Replica) × IsCopy copy × (copy.prefix ≡ prefix) × (copy.dver ≡ dver)
TellsOfValid (reply.Given dver content) = (copy : Replica) × IsCopy copy × (copy.dver ≡ dver) × (copy.content ≡ content)
TellsOfValid _ = Unit {0}

-- every copy that is stored, in effect or told is a valid copy
pub record CopiesAreValid : Type 0 where
  pub has : (index : ℕ) (given : Opening) (asked : List (Stamped Request)) → OpeningFits given → All (λ asked. RequestFits asked.value) asked → HasValidCopies (reached index given asked).store
  pub tells : (index : ℕ) (given : Opening) (asked : List (Stamped Request)) → OpeningFits given → All (λ asked. RequestFits asked.value) asked → (next : Request) → TellsOfValid (reply_of (reached index given asked) next)

-- the law speaks of something: some server has a copy that a transaction changed, and settings and requests fit
pub record SomeCopyIsChanged : Type 0 where
  pub index : ℕ
  pub given : Opening
  pub asked : List (Stamped Request)
  pub opening_fits : OpeningFits given
  pub requests_fit : All (λ asked. RequestFits asked.value) asked
  pub suite : ℕ
  pub changed : (copy_of (reached index given asked).store suite).prefix.pver ≡ 2
