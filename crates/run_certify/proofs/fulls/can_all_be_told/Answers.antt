use Rattle.run_certify.proofs.Vocabulary.{◌∙◌}
use Rattle.run_certify.proofs.Fullness.{all_told}
use Rattle.run_certify.proofs.fulls.can_all_be_told.Goals as goal

pub returns : goal.returns
returns c =
    c.are_all_told.ensures
    ∙ all_told c.as_slice.result.now c.args.histories.now c.args.transcripts.now (c.as_slice.ensures.value ∙ c.in_ok-full.ensures)
