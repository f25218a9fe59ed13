-- What is kept of an intention: the copy that it will leave.
use Rattle.std.specs.Prelude.{◌≡◌, ℕ, Bool, true, false, if◌then◌else◌, List, [], ◌∷◌, map, Some}
use Rattle.std.specs.Ordering.{nat_cmp}
use Rattle.sorted_map.specs.SortedMap.{get, insert}
use Rattle.vote_core.specs.Quorums.{Configuration}
use Rattle.suite_prefix.specs.declared.copies.Replica.{Replica}
use Rattle.suite_prefix.specs.declared.forms.Form.{Form}
use Rattle.suite_prefix.specs.declared.forms.Form.TheVariants.{Two}
use Rattle.suite_prefix.specs.Stored.{Kept}
use Rattle.rep_core.specs.declared.intention.Planned.{Planned}
use Rattle.rep_core.specs.declared.request.Take.{Take}
use Rattle.rep_core.specs.declared.request.Take.TheVariants as take
use Rattle.rep_core.specs.declared.request.Part.{Part}
use Rattle.rep_core.specs.Intentions.{Intention}
use Rattle.rep_core.specs.Store.{copy_in, left_by, is_keep, with_copies}

-- stored copies, and their forms
abbrev pub copies_in : List (ℕ × Kept) → List (ℕ × Replica)
copies_in pairs = map (λ e. (e.0, e.1.copy)) pairs

abbrev pub forms_in : List (ℕ × Kept) → List (ℕ × Form)
forms_in pairs = map (λ e. (e.0, e.1.form)) pairs

-- a copy as it is written
abbrev pub in_form_2 : Replica → Kept
in_form_2 copy = record { form = Two; copy = copy }

-- what was taken, seen from what is left
abbrev pub take_in : Bool → Replica → Take
take_in true left = take.Whole left
take_in false left = take.Prefix left.prefix

abbrev pub intention_in : Planned → Intention
intention_in planned = record { t = planned.t; take = take_in planned.whole planned.left.copy }

abbrev pub intentions_in : List (ℕ × Planned) → List (ℕ × Intention)
intentions_in pairs = map (λ e. (e.0, intention_in e.1)) pairs

-- each is what its take leaves of the copy that is there, in form 2
abbrev pub Leaves : List (ℕ × Replica) → List (ℕ × Planned) → Type 0
Leaves copies pairs = (c0 : Configuration) (suite : ℕ) (planned : Planned) → get nat_cmp pairs suite ≡ Some planned → planned.left ≡ in_form_2 (left_by (take_in planned.whole planned.left.copy) (copy_in c0 copies suite))

abbrev pub is_whole : Take → Bool
is_whole take.Keep = false
is_whole (take.Prefix prefix) = false
is_whole (take.Whole replica) = true

-- each of these is among the others
abbrev pub AreAmong : List (ℕ × Planned) → List (ℕ × Planned) → Type 0
AreAmong pairs others = (suite : ℕ) (planned : Planned) → get nat_cmp pairs suite ≡ Some planned → get nat_cmp others suite ≡ Some planned

-- copies after the intentions of a transaction were made copies, whatever the votes of what was never made
abbrev pub Installs : ℕ → List (ℕ × Planned) → List (ℕ × Kept) → List (ℕ × Kept) → Type 0
Installs t intentions before after = (c0 : Configuration) → copies_in after ≡ with_copies c0 t (intentions_in intentions) (copies_in before)

-- what is kept of the parts of a Prepare
abbrev pub planned_of : Configuration → List (ℕ × Replica) → ℕ → List Part → List (ℕ × Planned)
planned_of c0 copies t [] = []
planned_of c0 copies t (part ∷ parts) =
    let rest = planned_of c0 copies t parts in
    if is_keep part.take then rest else (part.suite, record { t = t; whole = is_whole part.take; left = in_form_2 (left_by part.take (copy_in c0 copies part.suite)) }) ∷ rest

-- intentions with these in their places
abbrev pub with_all : List (ℕ × Planned) → List (ℕ × Planned) → List (ℕ × Planned)
with_all [] pairs = pairs
with_all (planned ∷ more) pairs = with_all more (insert nat_cmp pairs planned.0 planned.1)
