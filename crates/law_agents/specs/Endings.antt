-- How a transaction ends, said of its exchanges alone: as its home told.
use Rattle.std.specs.Prelude.{◌≡◌, ℕ, true, List, [], ◌∷◌, ◌++◌, Some}
use Rattle.acl_core.specs.Identity.{Identity}
use Rattle.file_ops.specs.declared.operation.Op.{Op}
use Rattle.rep_core.specs.declared.reply.Verdict.{Verdict}
use Rattle.rep_core.specs.declared.reply.Verdict.TheVariants as verdict
use Rattle.txn_core.specs.declared.response.Response.{Response}
use Rattle.txn_core.specs.declared.ending.Cause.{Cause}
use Rattle.txn_core.specs.declared.ending.Ending.{Ending}
use Rattle.txn_core.specs.declared.ending.Ending.TheVariants.{Answered, Refused, Undecided}
use Rattle.txn_core.specs.declared.job.Job.TheVariants.{Transaction}
use Rattle.txn_core.specs.Doing.{Fixed}
use Rattle.txn_core.specs.Agents.{Agent, Event, Take, take, is_idle}
use Rattle.txn_core.specs.Laws.{of_job, told_verdict}
use Rattle.law_agents.specs.Steps.{agent_after}

-- a verdict is the ending; Aborted is undecided
abbrev pub EndsBy : Verdict → Ending → Type 0
EndsBy (verdict.Answered answers) ending = ending ≡ Answered answers
EndsBy (verdict.Refused refusal) ending = ending ≡ Refused refusal
EndsBy verdict.Aborted ending = (cause : Cause) × (ending ≡ Undecided cause)

-- It ends by the verdict that its home told: undecided, where it told Aborted, or nothing.
abbrev pub EndsAsTold : Type 0
EndsAsTold =
    (fixed : Fixed) (agent : Agent) (caller : Identity) (site : ℕ) (ops : List Op) (events : List Event) (told : Response) (ending : Ending) →
    let job = Transaction caller site ops in
    is_idle agent.doing ≡ true → (take fixed (agent_after fixed agent job events) told).ending ≡ Some ending
    → EndsBy (told_verdict verdict.Aborted (of_job fixed agent job (events ++ Take told ∷ []))) ending
