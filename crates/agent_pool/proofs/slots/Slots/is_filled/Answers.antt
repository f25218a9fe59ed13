use Rattle.agent_pool.proofs.Vocabulary.{◌≡◌, ◌<◌, List, length, sym, subst, arith, Option, None, Some, slice_get, JobOutcome, slots_of}
use Rattle.agent_pool.proofs.Columns.{slot_free, slot_there, slots_long}
use Rattle.agent_pool.proofs.slots.Slots.is_filled.Goals as goal

pub index-requires : goal.index-requires
index-requires c =
    let fields = c.self.inside in
    let low : c.args.place < length (slots_of fields.outcomes.items fields.filled.items) = subst (λ (slots : List (Option JobOutcome)). c.args.place < length slots) (sym c.self.view_is) c.requires in
    let same = c.self.invariant in
    let long = slots_long fields.outcomes.items fields.filled.items same in
    let whole = fields.filled.ok.0 in
    omega arith

pub returns-clause-there : goal.returns-clause-there
returns-clause-there c is =
    let fields = c.self.inside in
    let low : c.args.place < length (slots_of fields.outcomes.items fields.filled.items) = subst (λ (slots : List (Option JobOutcome)). c.args.place < length slots) (sym c.self.view_is) c.requires in
    subst (λ (slots : List (Option JobOutcome)). (outcome : JobOutcome) × (slice_get slots c.args.place ≡ Some (Some outcome))) c.self.view_is
    (slot_there fields.outcomes.items fields.filled.items c.args.place _ c.self.invariant low (sym c.index.ensures) is)

pub returns-clause-none : goal.returns-clause-none
returns-clause-none c is =
    let fields = c.self.inside in
    let low : c.args.place < length (slots_of fields.outcomes.items fields.filled.items) = subst (λ (slots : List (Option JobOutcome)). c.args.place < length slots) (sym c.self.view_is) c.requires in
    subst (λ (slots : List (Option JobOutcome)). slice_get slots c.args.place ≡ Some None) c.self.view_is
    (slot_free fields.outcomes.items fields.filled.items c.args.place _ c.self.invariant low (sym c.index.ensures) is)
