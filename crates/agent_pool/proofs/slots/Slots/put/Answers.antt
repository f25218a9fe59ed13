use Rattle.agent_pool.proofs.Vocabulary.{◌<◌, ◌∙◌, ap, List, length, slice_set, sym, subst, arith, Option, Some, JobOutcome, slots_of}
use Rattle.agent_pool.proofs.Columns.{slots_long, slots_set}
use Rattle.agent_pool.proofs.slots.Slots.put.Goals as goal

pub index_mut-requires : goal.index_mut-requires
index_mut-requires c =
    let fields = c.self.inside in
    let low : c.args.place < length (slots_of fields.outcomes.items fields.filled.items) = subst (λ (slots : List (Option JobOutcome)). c.args.place < length slots) (sym c.self.view_is) c.requires in
    let long = slots_long fields.outcomes.items fields.filled.items c.self.invariant in
    let whole = fields.outcomes.ok.0 in
    omega arith

pub index_mut-requires-2 : goal.index_mut-requires-2
index_mut-requires-2 c =
    let fields = c.self.inside in
    let low : c.args.place < length (slots_of fields.outcomes.items fields.filled.items) = subst (λ (slots : List (Option JobOutcome)). c.args.place < length slots) (sym c.self.view_is) c.requires in
    let same = c.self.invariant in
    let long = slots_long fields.outcomes.items fields.filled.items same in
    let whole = fields.filled.ok.0 in
    omega arith

pub returns : goal.returns
returns c =
    slots_set c.self.inside.outcomes.items c.self.inside.filled.items c.args.place c.args.outcome c.self.invariant
    ∙ ap (λ (slots : List (Option JobOutcome)). slice_set slots c.args.place (Some c.args.outcome)) c.self.view_is
