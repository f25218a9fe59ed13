use Rattle.file_exec.proofs.Vocabulary.{◌++◌, ◌∷◌, [], ap, sym, ◌∙◌, take, take_more}
use Rattle.file_exec.proofs.copying.copied.Goals as goal

pub loop-number-preserved : goal.loop-number-preserved
loop-number-preserved g c =
    let items = c.args.items.now in
    let pair = c.loop-number-item.result in
    let done = take c.loop-number.number-index items in
    c.in_ok-push.ensures.items
    ∙ ap (λ l. l ++ (pair.0, c.in_ok-clone.field-0) ∷ []) c.loop-number.invariant
    ∙ ap (λ value. done ++ (pair.0, value) ∷ []) (c.requires.equal pair.1 c.in_ok-clone.field-0 c.in_ok-clone.ensures.cases)
    ∙ ap (λ one. done ++ one ∷ []) c.loop-number-item.is
    ∙ sym (take_more items c.loop-number.number-index pair c.loop-number-test.true)
