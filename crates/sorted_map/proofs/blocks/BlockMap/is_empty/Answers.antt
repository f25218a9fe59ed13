use Rattle.sorted_map.proofs.Vocabulary.{◌≡◌, [], IsTrue, sym, ◌∙◌, ap, false≢true, joined}
use Rattle.sorted_map.proofs.InBlocks.{none_in_front}
use Rattle.sorted_map.proofs.blocks.BlockMap.is_empty.Goals as goal

pub returns-else-is_empty : goal.returns-else-is_empty
returns-else-is_empty g c =
    let front : c.args.self.now.pairs ≡ [] → IsTrue c.is_empty.result = λ none. c.is_empty.ensures.1 (none_in_front c.self.inside.first.pairs (joined c.self.inside.rest.items) (ap (λ x. x.pairs) c.self.view_is ∙ none)) in
    ((λ yes. absurd (false≢true (sym c.if-is_empty.false ∙ yes))), front)
