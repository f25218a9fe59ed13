use Rattle.agent_pool.proofs.Vocabulary.{Bool, List, sym, subst, arith, AreNone, slots_of}
use Rattle.agent_pool.proofs.Columns.{slots_long, slots_none}
use Rattle.agent_pool.proofs.slots.Slots.new.Goals as goal

pub returns-clause-none : goal.returns-clause-none
returns-clause-none c =
    subst (λ (fs : List Bool). AreNone (slots_of c.in_ok-outcomes.outcomes.items fs)) (sym (c.in_ok-filled.ensures.items_if_clones_equal (λ y same. same))) (slots_none c.in_ok-outcomes.outcomes.items c.args.count)

pub returns-clause-many : goal.returns-clause-many
returns-clause-many c =
    let outcomes = c.in_ok-outcomes.outcomes in
    let filled = c.in_ok-filled.filled in
    let many = c.in_ok-outcomes.ensures.len in
    let told = c.in_ok-filled.ensures.len in
    let a = outcomes.ok.0 in
    let b = filled.ok.0 in
    let long = slots_long outcomes.items filled.items (omega arith) in
    omega arith
