use Rattle.txn_core.proofs.Vocabulary.{◌≡◌, ◌+◌, ◌∷◌, drop, ap, sym, ◌∙◌, subst, ℕ, Some, None, Ok, slice_get, slice_get-get_or, slice_get_past, ltb-true, IsOrdered, Change, Changes, Granted, Widening, TransactionRun, ending_of, Steps}
use Rattle.txn_core.proofs.Vocabulary.{Cause, to_widen, widen_all, give_up, prepare, locked_at, nat_cmp}
use Rattle.txn_core.proofs.Ended.{prepares}
use Rattle.txn_core.proofs.Votes.{left_met, left_asks, left_short, left_none}
use Rattle.txn_core.proofs.transaction_run.TransactionRun.widen_all.Goals as goal

pub loop-number-preserved : goal.loop-number-preserved
loop-number-preserved c =
    let loop = c.loop-number in
    let granted = c.args.granted in
    let one = c.in-Some.field-0.now in
    let same : c.granted.inside.changes ≡ granted.changes = ap (λ (g : Granted). g.changes) (c.granted.view_is ∙ loop.invariant.1) in
    let given : c.as_slice.result.now ≡ granted.changes = c.as_slice.ensures.value ∙ same in
    let is : slice_get granted.changes loop.after ≡ Some (one.0, one.1) = ap (λ l. slice_get l loop.after) (sym given) ∙ slice_get-get_or c.as_slice.result.now loop.after one
    (ltb-true _ _ (sym c.in-Some.ensures.lookup.0)) ∙ ap (λ (it : ℕ × Change). Some it) (sym c.in-Some.ensures.lookup.1) in
    let Up : Changes → Type 0 = λ l. IsOrdered nat_cmp l in (
      left_met c.args.self.now c.args.from granted loop.self loop.after loop.invariant.0 one.0 one.1 c.votes.result.now c.widen.new.self is
          (subst Up same c.as_slice.ensures.ordered) c.if-not-change.false c.votes.ensures c.in-Current.ensures,
      loop.invariant.1,
    )

pub returns-in-Ask : goal.returns-in-Ask
returns-in-Ask c = λ cache.
    let loop = c.loop-number in
    let granted = c.args.granted in
    let one = c.in-Some.field-0.now in
    let same : c.granted.inside.changes ≡ granted.changes = ap (λ (g : Granted). g.changes) (c.granted.view_is ∙ loop.invariant.1) in
    let given : c.as_slice.result.now ≡ granted.changes = c.as_slice.ensures.value ∙ same in
    let is : slice_get granted.changes loop.after ≡ Some (one.0, one.1) = ap (λ l. slice_get l loop.after) (sym given) ∙ slice_get-get_or c.as_slice.result.now loop.after one
    (ltb-true _ _ (sym c.in-Some.ensures.lookup.0)) ∙ ap (λ (it : ℕ × Change). Some it) (sym c.in-Some.ensures.lookup.1) in
    let Up : Changes → Type 0 = λ l. IsOrdered nat_cmp l in
    let asks = left_asks c.args.self.now c.args.from granted loop.self loop.after loop.invariant.0 one.0 one.1 c.votes.result.now c.widen.new.self is
    (subst Up same c.as_slice.ensures.ordered) c.if-not-change.false c.votes.ensures c.in-Ask.server c.in-Ask.asked cache c.in-Ask.ensures in
    let widening : Granted → TransactionRun → TransactionRun = λ g txn_run. record txn_run { phase = Widening (one.0 ∷ to_widen (drop (loop.after + 1) g.changes)) g } in
    let After : TransactionRun → Type 0 = λ after. Steps (widen_all c.args.self.now.task cache c.args.self.now.suites granted (to_widen (drop c.args.from granted.changes))) None after cache in
    subst After (ap (widening granted) (sym c.self.view_is) ∙ ap
    (λ g. widening g (record { task = c.self.inside.task; suites = c.self.inside.suites.pairs; phase = Widening (one.0 ∷ to_widen (drop (loop.after + 1) g.changes)) g }))
    (sym loop.invariant.1)) asks

pub returns-in-Short : goal.returns-in-Short
returns-in-Short c = λ cache.
    let loop = c.loop-number in
    let granted = c.args.granted in
    let one = c.in-Some.field-0.now in
    let short = c.in-Short in
    let same : c.granted.inside.changes ≡ granted.changes = ap (λ (g : Granted). g.changes) (c.granted.view_is ∙ loop.invariant.1) in
    let given : c.as_slice.result.now ≡ granted.changes = c.as_slice.ensures.value ∙ same in
    let is : slice_get granted.changes loop.after ≡ Some (one.0, one.1) = ap (λ l. slice_get l loop.after) (sym given) ∙ slice_get-get_or c.as_slice.result.now loop.after one
    (ltb-true _ _ (sym c.in-Some.ensures.lookup.0)) ∙ ap (λ (it : ℕ × Change). Some it) (sym c.in-Some.ensures.lookup.1) in
    let Up : Changes → Type 0 = λ l. IsOrdered nat_cmp l in
    let widened = c.widen.new.self in
    let Gives : Cause → Type 0 = λ cause. Steps (give_up widened.task cache widened.suites cause) (ending_of c.give_up.result) c.give_up.new.self cache in
    left_short c.args.self.now c.args.from granted loop.self loop.after loop.invariant.0 one.0 one.1 c.votes.result.now widened is
    (subst Up same c.as_slice.ensures.ordered) c.if-not-change.false c.votes.ensures short.got short.needed short.busy cache
    (ending_of c.give_up.result) c.give_up.new.self short.ensures
    (subst Gives c.of_short.ensures (c.give_up.ensures cache))

pub returns : goal.returns
returns c = λ cache.
    let loop = c.loop-number in
    let granted = c.args.granted in
    let given : c.as_slice.result.now ≡ granted.changes = c.as_slice.ensures.value ∙ ap (λ (g : Granted). g.changes) (c.granted.view_is ∙ loop.invariant.1) in
    let none : slice_get granted.changes loop.after ≡ None = ap (λ l. slice_get l loop.after) (sym given) ∙ slice_get_past c.as_slice.result.now loop.after c.in_default.ensures.lookup.3 in
    let ends = prepares loop.self.task cache loop.self.suites c.as_slice-2.result.now c.locked_at-servers.result c.prepare.new.self c.locked_at-servers.ensures
    (c.as_slice-2.ensures.pairs ∙ ap (λ (txn_run : TransactionRun). txn_run.suites) c.self-2.view_is) (Ok loop.granted) (ending_of c.prepare.result) (c.prepare.ensures cache) in
    let Ends : Granted → Type 0 = λ g. Steps (prepare loop.self.task cache loop.self.suites (Ok g) (locked_at loop.self.suites)) (ending_of c.prepare.result) c.prepare.new.self cache in
    left_none c.args.self.now c.args.from granted loop.self loop.after loop.invariant.0 cache (ending_of c.prepare.result) c.prepare.new.self none (subst Ends loop.invariant.1 ends)
