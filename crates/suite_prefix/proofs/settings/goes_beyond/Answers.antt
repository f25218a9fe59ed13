use Rattle.suite_prefix.proofs.Vocabulary.{not, ap, sym, ◌∙◌, not-false}
use Rattle.vote_core.proofs.Within.{are_below_decides}
use Rattle.suite_prefix.proofs.settings.goes_beyond.Goals as goal

pub returns-clause-none : goal.returns-clause-none
returns-clause-none c =
    let decides = are_below_decides c.args.end c.args.servers.now in (
      λ none. decides.0 (sym c.are_below.ensures ∙ not-false c.are_below.result none),
      λ each. ap not (c.are_below.ensures ∙ decides.1 each),
    )
