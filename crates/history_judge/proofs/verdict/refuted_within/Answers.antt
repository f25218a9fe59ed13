use Rattle.history_judge.proofs.Vocabulary.{◌+◌, ◌-◌, ◌/◌, ◌<◌, ℕ, List, sym, subst, arith, front, IsOrderOf, IsToldOf}
use Rattle.history_judge.proofs.Cutting.{front_all}
use Rattle.history_judge.proofs.Stuck.{refuted_at}
use Rattle.history_judge.proofs.verdict.refuted_within.Goals as goal

pub loop-low-init : goal.loop-low-init
loop-low-init c = record {
  within = c.requires.within;
  up_to = subst (λ history. (order : List ℕ) → IsOrderOf c.args.opening.now history order → ⊥) (sym (front_all c.args.history.now c.args.high c.requires.high)) c.requires.low.none;
  before = c.requires.low.before;
}

pub loop-low-preserved : goal.loop-low-preserved
loop-low-preserved c =
    let low = c.loop-low.low in
    let high = c.loop-low.high in
    let less : low < high = c.loop-low-test.true in
    let has = subst (λ has. IsToldOf has c.args.opening.now c.args.history.now (high - (high - low) / 2)) c.if-branch.false c.in_ok-has_order.ensures in
    record {
      within = omega (arith, less);
      up_to = subst (λ time. (order : List ℕ) → IsOrderOf c.args.opening.now (front time c.args.history.now) order → ⊥) (omega (arith, less)) has;
      before = c.loop-low.invariant.before;
    }

pub returns : goal.returns
returns c =
    let past = c.loop-low-test.false in
    let within = c.loop-low.invariant.within in
    let time = c.loop-low.low in
    let opening = c.args.opening.now in
    let history = c.args.history.now in
    refuted_at opening history time (record { none = c.requires.low.none; before = c.loop-low.invariant.before })
    (subst (λ high. (order : List ℕ) → IsOrderOf opening (front (high + 1) history) order → ⊥) (omega (arith, past, within)) c.loop-low.invariant.up_to)
