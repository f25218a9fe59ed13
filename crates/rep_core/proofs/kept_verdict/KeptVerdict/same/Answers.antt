use Rattle.rep_core.proofs.Vocabulary.{sym, ap, ◌∙◌, same_verdict_decides}
use Rattle.rep_core.specs.code.KeptVerdicts.{verdict_of}
use Rattle.rep_core.proofs.kept_verdict.KeptVerdict.same.Goals as goal

pub returns-in-Whole-Whole : goal.returns-in-Whole-Whole
returns-in-Whole-Whole c = λ same.
    sym c.self.view_is
    ∙ ap verdict_of c.in-Whole-Whole.is-0
    ∙ (same_verdict_decides _ _).0 (sym c.eq.ensures ∙ same)
    ∙ sym (ap verdict_of c.in-Whole-Whole.is-1)
    ∙ c.other.view_is
