use Rattle.rep_core.proofs.Vocabulary.{sym, ap, ◌∙◌, answer_of}
use Rattle.file_ops.specs.code.AnswerEquality.{same_answer_decides}
use Rattle.rep_core.proofs.kept_verdict.same_answer.Goals as goal

pub returns-in-Whole-Whole : goal.returns-in-Whole-Whole
returns-in-Whole-Whole c = λ same. ap answer_of c.in-Whole-Whole.is-0 ∙ (same_answer_decides _ _).0 (sym c.eq.ensures ∙ same) ∙ sym (ap answer_of c.in-Whole-Whole.is-1)
