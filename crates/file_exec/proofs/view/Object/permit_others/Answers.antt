use Rattle.file_exec.proofs.Vocabulary.{◌∙◌, same_permit_others}
use Rattle.file_exec.proofs.view.Object.permit_others.Goals as goal

pub returns : goal.returns
returns c = c.permit_others.ensures ∙ same_permit_others c.args.caller.now c.args.wanted c.guarded.ensures.suite c.guarded.ensures.owner c.guarded.ensures.group c.guarded.ensures.acl
