use Rattle.file_exec.proofs.Vocabulary.{◌++◌, ◌∷◌, [], ap, sym, ◌∙◌, take, take_more}
use Rattle.file_exec.proofs.copying.copied_items.Goals as goal

pub loop-value-preserved : goal.loop-value-preserved
loop-value-preserved g c =
    let items = c.args.items.now in
    let value = c.value-item.result in
    let done = take c.loop-value.value-index items in
    c.in_ok-push.ensures.items
    ∙ ap (λ l. l ++ c.in_ok-clone.field-0 ∷ []) c.loop-value.invariant
    ∙ ap (λ one. done ++ one ∷ []) (c.requires.equal value c.in_ok-clone.field-0 c.in_ok-clone.ensures.cases)
    ∙ ap (λ one. done ++ one ∷ []) c.value-item.is
    ∙ sym (take_more items c.loop-value.value-index value c.loop-value-test.true)
