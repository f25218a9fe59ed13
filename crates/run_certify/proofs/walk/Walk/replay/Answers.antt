use Rattle.run_certify.proofs.Vocabulary.{sym, subst, Job, AgentEntry, Begun, EntryFails}
use Rattle.run_certify.proofs.Going.{no_play}
use Rattle.run_certify.proofs.walk.Walk.replay.Goals as goal

pub returns-in-Begun-clause-mismatch : goal.returns-in-Begun-clause-mismatch
returns-in-Begun-clause-mismatch c = λ is other. subst (λ (entry : AgentEntry). EntryFails c.args.agent entry c.args.self.now) (sym c.in-Begun.is)
    (subst (λ (job : Job). EntryFails c.args.agent (Begun job) c.args.self.now) c.deref.ensures (c.begin.ensures.mismatch is))

pub returns-in-Lacked-clause-mismatch : goal.returns-in-Lacked-clause-mismatch
returns-in-Lacked-clause-mismatch c = λ is other. subst (λ (entry : AgentEntry). EntryFails c.args.agent entry c.args.self.now) (sym c.in-Lacked.is) (c.lack.ensures.mismatch is)

pub returns-in-Forgot-clause-mismatch : goal.returns-in-Forgot-clause-mismatch
returns-in-Forgot-clause-mismatch c = λ is other. subst (λ (entry : AgentEntry). EntryFails c.args.agent entry c.args.self.now) (sym c.in-Forgot.is) (c.forget.ensures.mismatch is)

pub returns-in-Asked-2-clause-mismatch : goal.returns-in-Asked-2-clause-mismatch
returns-in-Asked-2-clause-mismatch c = λ _ other. no_play c.args.self.now c.args.agent c.args.entry.now other c.in-Asked.is
