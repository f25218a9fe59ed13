-- Whose entry is next.
use Rattle.std.specs.Prelude.{◌≡◌, ℕ, Bool, true, false, List, ◌∷◌, ◌++◌, slice_set}
use Rattle.std.specs.List.{cons_option}
use Rattle.server_lock.specs.declared.item.Item.{Item}
use Rattle.run_certify.specs.declared.entry.AgentEntry.{AgentEntry}
use Rattle.run_certify.specs.declared.entry.AgentEntry.TheVariants.{Asked}
use Rattle.run_certify.specs.Merges.{ItemAt, IsMerge}
use Rattle.run_certify.specs.Weaves.{event_of, transcript_of, weave}

-- whether an entry is of a server that was asked and gave a stamp
abbrev pub is_asked : AgentEntry → Bool
is_asked (Asked server stamp) = true
is_asked other = false

-- the agent's next entry, if it has no stamp, is the next event, whatever items are left
abbrev pub IsTurn : List ItemAt → List (List Item) → List (List AgentEntry) → ℕ → Type 0
IsTurn taken histories unused agent =
    (y : AgentEntry) (ys : List AgentEntry) → transcript_of unused agent ≡ y ∷ ys → is_asked y ≡ false → (items : List ItemAt) → IsMerge histories items
    → weave (taken ++ items) unused ≡ cons_option (event_of agent y) (weave (taken ++ items) (slice_set unused agent ys))
