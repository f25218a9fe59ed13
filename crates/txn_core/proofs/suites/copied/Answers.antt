use Rattle.txn_core.proofs.Vocabulary.{◌++◌, ◌∷◌, [], ap, sym, ◌∙◌, take_more, GatheredSuite}
use Rattle.std.proofs.Common.{take}
use Rattle.txn_core.proofs.suites.copied.Goals as goal

pub loop-number-preserved : goal.loop-number-preserved
loop-number-preserved c =
    let suites = c.args.suites.now in
    let pair = c.loop-number-item.result in
    let done = take c.loop-number.number-index suites in
    c.in_ok-push.ensures.items
    ∙ ap (λ l. l ++ (pair.0, c.in_ok-copy-2.field-0) ∷ []) c.loop-number.invariant
    ∙ ap (λ (suite : GatheredSuite). done ++ (pair.0, suite) ∷ []) c.in_ok-copy-2.ensures
    ∙ ap (λ one. done ++ one ∷ []) c.loop-number-item.is
    ∙ sym (take_more suites c.loop-number.number-index pair c.loop-number-test.true)
