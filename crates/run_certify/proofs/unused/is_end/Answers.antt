use Rattle.run_certify.proofs.Vocabulary.{◌≡◌, sym, subst, ◌↔◌, IsTrue, same_outcome, EndedJob, Ended}
use Rattle.run_certify.proofs.Equal.{same_end_decides}
use Rattle.run_certify.proofs.unused.is_end.Goals as goal

pub returns-in-Ended : goal.returns-in-Ended
returns-in-Ended c =
    rw (c.in-Ended.is, c.eq.ensures) (subst (λ (told : EndedJob). IsTrue (same_outcome told c.args.outcome.now) ↔ (Ended c.in-Ended.told ≡ Ended c.args.outcome.now))
    (sym c.deref.ensures) (same_end_decides c.in-Ended.told c.args.outcome.now))
