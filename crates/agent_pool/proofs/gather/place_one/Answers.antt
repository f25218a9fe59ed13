use Rattle.agent_pool.proofs.Vocabulary.{rules, refl, sym, subst, List, ◌≡◌, slice_get_read, Option, Some, slice_get, AllZip, JobOutcome, IsFilled}
use Rattle.agent_pool.proofs.Filling.{place_filled}
use Rattle.agent_pool.proofs.gather.place_one.Goals as goal

pub returns-clause-filled : goal.returns-clause-filled
returns-clause-filled c was players before player by is all =
    let named = c.index-jobs-place.result in
    let at : slice_get c.args.jobs.now c.args.done.place ≡ Some named = slice_get_read c.args.jobs.now _ c.args.done.place named refl (search rules) c.index-jobs-place.is in
    subst (λ (slots : List (Option JobOutcome)). AllZip (IsFilled was players) c.args.jobs.now slots) (sym c.put.ensures)
    (place_filled was players c.args.agent before player c.args.jobs.now c.args.slots.now c.args.done named at by is all)

pub returns-then-is_taken-clause-double : goal.returns-then-is_taken-clause-double
returns-then-is_taken-clause-double c =
    let named = c.index-jobs-place.result in
    let there = c.is_filled-is_taken.ensures.there (search rules) in (
      named.number,
      refl,
      record {
        named = named;
        there = slice_get_read c.args.jobs.now _ c.args.done.place named refl (search rules) c.index-jobs-place.is;
        of = refl;
        outcome = there.0;
        taken = there.1;
      },
    )

pub returns-clause-put : goal.returns-clause-put
returns-clause-put c = (c.index-jobs-place.result.number, record { was = c.is_filled-is_taken.ensures.none (search rules); is = c.put.ensures })
