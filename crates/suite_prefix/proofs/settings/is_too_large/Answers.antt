use Rattle.suite_prefix.proofs.Vocabulary.{not, ap, sym, ◌∙◌, inl, inr, arith, cases_Bool, not-false, false≢true}
use Rattle.suite_prefix.proofs.settings.is_too_large.Goals as goal

pub returns-then-goes_beyond-clause-held : goal.returns-then-goes_beyond-clause-held
returns-then-goes_beyond-clause-held c = (
  λ none server there. c.holds.ensures.held.0 (not-false c.holds.result none),
  λ each. elim (cases_Bool c.holds.result) [
    | inl holds ↦ ap not holds
    | inr fails ↦
        let nobody = c.goes_beyond.ensures.none.1 (λ server there. absurd (false≢true (sym fails ∙ c.holds.ensures.held.1 (each server there)))) in
        absurd (false≢true (sym nobody ∙ c.if-goes_beyond.true))
  ],
)

pub returns-else-goes_beyond-clause-held : goal.returns-else-goes_beyond-clause-held
returns-else-goes_beyond-clause-held c = (
  λ none server there. let below = c.goes_beyond.ensures.none.0 c.if-goes_beyond.false server there in absurd (omega (arith, below)),
  λ each. c.if-goes_beyond.false,
)
