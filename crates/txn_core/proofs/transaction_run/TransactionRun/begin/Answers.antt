use Rattle.txn_core.proofs.Vocabulary.{ap, subst, ◌∙◌, Some, None, Flow, Resources, Gathering, Suites, Step, Begins, IsStep, begun, executed}
use Rattle.txn_core.specs.declared.learned.Learned.TheVariants.{Nothing}
use Rattle.txn_core.proofs.Handling.{begins_on, begins_ended}
use Rattle.txn_core.proofs.Reaching.{unbegun_in}
use Rattle.txn_core.proofs.transaction_run.TransactionRun.begin.Goals as goal

pub execute-requires-clause-reached : goal.execute-requires-clause-reached
execute-requires-clause-reached c = unbegun_in c.begin_anew.new.self.fixed_parts c.args.task c.new-suites.result.pairs c.begin_anew.new.self.progress (ap (λ (resources : Resources). resources.progress) c.begin_anew.ensures)

pub returns-in-On-clause-ok : goal.returns-in-On-clause-ok
returns-in-On-clause-ok c =
    let resources = c.begin_anew.new.self in
    let on : Resources → Suites → Step = λ resources suites. executed resources (record { task = c.args.task; suites = suites; phase = Gathering 0 }) Nothing in
    let Is : Flow → Type 0 = λ flow. IsStep resources (on resources c.new-suites.result.pairs) flow c.execute.new.self c.execute.new.resources in
    let taken = subst Is c.in-On.is c.in_ok-execute.ensures.ok in
    let Went : Step → Type 0 = λ step. Begins step (Some c.execute.new.self) c.execute.new.resources.cache.entries in
    subst Went (ap (on resources) c.new-suites.ensures ∙ ap (λ (resources : Resources). begun (record { service = resources.fixed_parts; limits = resources.cache.limits }) c.args.task resources.cache.entries) c.begin_anew.ensures)
    (begins_on (on resources c.new-suites.result.pairs) c.execute.new.self c.execute.new.resources.cache.entries taken.steps)

pub returns-in-Ended-clause-ok : goal.returns-in-Ended-clause-ok
returns-in-Ended-clause-ok c =
    let resources = c.begin_anew.new.self in
    let on : Resources → Suites → Step = λ resources suites. executed resources (record { task = c.args.task; suites = suites; phase = Gathering 0 }) Nothing in
    let Is : Flow → Type 0 = λ flow. IsStep resources (on resources c.new-suites.result.pairs) flow c.execute.new.self c.execute.new.resources in
    let taken = subst Is c.in-Ended.is c.in_ok-execute.ensures.ok in
    let Went : Step → Type 0 = λ step. Begins step None c.execute.new.resources.cache.entries in
    subst Went (ap (on resources) c.new-suites.ensures ∙ ap (λ (resources : Resources). begun (record { service = resources.fixed_parts; limits = resources.cache.limits }) c.args.task resources.cache.entries) c.begin_anew.ensures)
    (begins_ended (on resources c.new-suites.result.pairs) c.in-Ended.field-0 c.execute.new.self c.execute.new.resources.cache.entries taken.steps)
