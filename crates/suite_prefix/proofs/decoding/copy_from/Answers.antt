use Rattle.suite_prefix.proofs.Vocabulary.{ap, ◌∙◌, content_rises}
use Rattle.suite_prefix.proofs.Judged.{content_is_canonical}
use Rattle.suite_prefix.proofs.decoding.copy_from.Goals as goal

pub content_from-requires-clause-rises : goal.content_from-requires-clause-rises
content_from-requires-clause-rises c = ap (λ shape. content_rises shape.content) c.parts.view_is ∙ content_is_canonical c.args.parts.now c.in_ok-prefix.ensures.whole.canonical
