use Rattle.rep_core.proofs.Vocabulary.{◌≡◌, ◌+◌, suc, ◌∷◌, [], drop, get_or, sym, ap, ◌∙◌, arith, with_prepared}
use Rattle.std.proofs.Math.Seq.{drop-cons}
use Rattle.std.proofs.Math.ListN.{drop_of_length-le}
use Rattle.rep_core.proofs.LockEdits.{prepared_first, prepared_none}
use Rattle.rep_core.proofs.many_locks.ManyLocks.prepare.Goals as goal

pub loop-part-preserved : goal.loop-part-preserved
loop-part-preserved c =
    let t = c.args.t in
    let parts = c.args.parts.now in
    let i = c.loop-part.part-index in
    let part = c.part-item.result in
    let locks = c.loop-part.self.locks in
    let behind : suc i ≡ i + 1 = omega arith in
    let first : drop i parts ≡ part ∷ drop (i + 1) parts = drop-cons parts i part c.loop-part-test.true ∙ ap (λ n. get_or parts i part ∷ drop n parts) behind ∙ ap (λ l. l ∷ drop (i + 1) parts) (sym c.part-item.is) in
    ap (with_prepared t (drop (i + 1) parts)) c.prepare_one.ensures ∙ prepared_first t part (drop (i + 1) parts) locks ∙ ap (λ left. with_prepared t left locks) (sym first) ∙ c.loop-part.invariant

pub returns : goal.returns
returns c =
    let t = c.args.t in
    let locks = c.loop-part.self.locks in
    let end : drop c.loop-part.part-index c.args.parts.now ≡ [] = drop_of_length-le c.args.parts.now (omega (arith, c.loop-part-test.false)) in
    sym (prepared_none t locks) ∙ ap (λ left. with_prepared t left locks) (sym end) ∙ c.loop-part.invariant
