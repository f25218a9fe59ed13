use Rattle.agent_pool.proofs.Vocabulary.{◌∙◌, ap, sym, subst, refl, rules, arith, length, List, length-map, slice_get_read, Option, Some, slice_get, AllZip}
use Rattle.agent_pool.proofs.Vocabulary.{JobOutcome, AreInOrderIn, IsFilled, filled_in}
use Rattle.agent_pool.proofs.Apart.{apart_filled, order_filled}
use Rattle.agent_pool.proofs.Columns.{full_below, full_further}
use Rattle.agent_pool.proofs.Filling.{all_filled, some_many}
use Rattle.agent_pool.proofs.Seen.{full_at}
use Rattle.agent_pool.proofs.gather.outcomes_of.Goals as goal

pub loop-place-init : goal.loop-place-init
loop-place-init c = λ k low. absurd (omega arith)

pub loop-place-preserved : goal.loop-place-preserved
loop-place-preserved c = full_further c.args.slots c.loop-place.place (c.is_filled.ensures.there (search rules)).0 (c.is_filled.ensures.there (search rules)).1 c.loop-place.invariant

pub into_outcomes-requires : goal.into_outcomes-requires
into_outcomes-requires c = let long = c.requires.long in let past = c.loop-place-test.false in full_below c.args.slots c.loop-place.place (omega arith) c.loop-place.invariant

pub returns-clause-each : goal.returns-clause-each
returns-clause-each c was players filled =
    all_filled was players c.args.jobs.now c.into_outcomes.result.items
    (subst (λ (slots : List (Option JobOutcome)). AllZip (IsFilled was players) c.args.jobs.now slots) (sym c.into_outcomes.ensures) filled)

pub returns-clause-apart : goal.returns-clause-apart
returns-clause-apart c order = apart_filled c.into_outcomes.result.items (subst (λ (slots : List (Option JobOutcome)). AreInOrderIn slots) (sym c.into_outcomes.ensures) order)

pub returns-clause-order : goal.returns-clause-order
returns-clause-order c order = order_filled c.into_outcomes.result.items (subst (λ (slots : List (Option JobOutcome)). AreInOrderIn slots) (sym c.into_outcomes.ensures) order)

pub returns-clause-all : goal.returns-clause-all
returns-clause-all c =
    let whole = c.into_outcomes.ensures in
    let outcomes = c.into_outcomes.result.items in
    ap filled_in (sym whole) ∙ some_many outcomes ∙ sym (length-map outcomes (λ (o : JobOutcome). Some o)) ∙ ap length whole ∙ c.requires.long

pub returns-clause-full : goal.returns-clause-full
returns-clause-full c k none = full_at c.into_outcomes.result.items k (ap (λ (slots : List (Option JobOutcome)). slice_get slots k) c.into_outcomes.ensures ∙ none)

pub returns-then-not-is_filled-clause-missing : goal.returns-then-not-is_filled-clause-missing
returns-then-not-is_filled-clause-missing c =
    let named = c.index-jobs-place.result in (
      named.number,
      search rules,
      record {
        place = c.loop-place.place;
        named = named;
        there = slice_get_read c.args.jobs.now _ c.loop-place.place named refl (search rules) c.index-jobs-place.is;
        of = refl;
        empty = c.is_filled.ensures.none (search rules);
        before = c.loop-place.invariant;
      },
    )
