use Rattle.agent_pool.proofs.Vocabulary.{rules, ◌≡◌, ◌∙◌, inr, false, sym, None, first_strange, first_stuck, lacks_memory, places, players_of, sitting}
use Rattle.agent_pool.proofs.Seen.{missing_is, one_each, tells_double, tells_missing}
use Rattle.agent_pool.proofs.gather.outcomes_in.Goals as goal

pub returns-in_err-fill-clause-gathers : goal.returns-in_err-fill-clause-gathers
returns-in_err-fill-clause-gathers c =
    let err = c.in_err-fill.ensures.double in
    let memory : lacks_memory c.args.worked.now ≡ false = search rules in
    let strange : first_strange c.args.worked.now ≡ None = search rules in
    tells_double c.args.jobs.now c.args.worked.now _ _ err.0 c.from_residual.ensures.1 err.1 (record { memory = memory; strange = strange }) err.2

pub returns-in_err-outcomes-clause-gathers : goal.returns-in_err-outcomes-clause-gathers
returns-in_err-outcomes-clause-gathers c =
    let err = c.in_err-outcomes.ensures.missing in
    let memory : lacks_memory c.args.worked.now ≡ false = search rules in
    let strange : first_strange c.args.worked.now ≡ None = search rules in
    let seen = c.in_ok-fill.ensures.seen in
    tells_missing c.args.jobs.now c.args.worked.now _ _ err.0 c.from_residual-in_err-outcomes.ensures.1 err.1 (record { memory = memory; strange = strange }) seen.once
    (missing_is c.args.jobs.now c.fill.new.slots (places c.args.worked.now) err.0 seen err.2)

pub returns-in-Some-first_stuck-clause-gathers : goal.returns-in-Some-first_stuck-clause-gathers
returns-in-Some-first_stuck-clause-gathers c =
    let memory : lacks_memory c.args.worked.now ≡ false = search rules in
    let strange : first_strange c.args.worked.now ≡ None = search rules in
    let seen = c.in_ok-fill.ensures.seen in
    let long = c.fill.ensures.long ∙ c.requires.long in
    (record { memory = memory; strange = strange }, inr (one_each c.args.jobs.now c.fill.new.slots (places c.args.worked.now) seen long c.in_ok-outcomes.ensures.full, sym c.first_stuck.ensures ∙ c.in-Some-first_stuck.is))

pub returns-in-None-clause-gathers : goal.returns-in-None-clause-gathers
returns-in-None-clause-gathers c =
    let memory : lacks_memory c.args.worked.now ≡ false = search rules in
    let strange : first_strange c.args.worked.now ≡ None = search rules in
    let stuck : first_stuck c.args.worked.now ≡ None = search rules in
    let seen = c.in_ok-fill.ensures.seen in
    let long = c.fill.ensures.long ∙ c.requires.long in
    (record { memory = memory; strange = strange }, one_each c.args.jobs.now c.fill.new.slots (places c.args.worked.now) seen long c.in_ok-outcomes.ensures.full, stuck)

pub returns-in-None-clause-outcomes : goal.returns-in-None-clause-outcomes
returns-in-None-clause-outcomes c =
    record {
      each = λ seats works. c.in_ok-outcomes.ensures.each (sitting seats) (players_of c.args.worked.now) (c.in_ok-fill.ensures.filled seats works);
      apart = c.in_ok-outcomes.ensures.apart c.in_ok-fill.ensures.order;
      order = c.in_ok-outcomes.ensures.order c.in_ok-fill.ensures.order;
      once = sym c.in_ok-fill.ensures.many ∙ c.in_ok-outcomes.ensures.all;
    }
