use Rattle.file_exec.proofs.Vocabulary.{◌∙◌, same_permit}
use Rattle.file_exec.proofs.view.Object.permit.Goals as goal

pub returns : goal.returns
returns c = c.permit.ensures ∙ same_permit c.args.caller.now c.args.wanted c.guarded.ensures.suite c.guarded.ensures.owner c.guarded.ensures.group c.guarded.ensures.acl
