use Rattle.txn_core.proofs.Vocabulary.{sym, subst, ◌∙◌, GoesBy, fixed_by, Step, request_of}
use Rattle.txn_core.proofs.Handling.{lack_at, lack_of_none}
use Rattle.txn_core.proofs.transaction_run.TransactionRun.on_lack.Goals as goal

pub returns-in-Some-clause-steps : goal.returns-in-Some-clause-steps
returns-in-Some-clause-steps c =
    let now = c.args.self.now in
    let resources = c.args.resources.now in
    let cache = resources.cache.entries in
    let fixed = fixed_by resources in
    let Goes : Step → Type 0 = λ step. GoesBy step c.on_lack_at.result c.on_lack_at.new.self cache in
    subst Goes (lack_at now cache c.args.lack fixed (request_of fixed now) c.in-Some.server (sym c.in-Some.is ∙ c.asked-asked.ensures resources.cache.limits)) (c.on_lack_at.ensures cache)

pub returns-in-None-clause-steps : goal.returns-in-None-clause-steps
returns-in-None-clause-steps c =
    let now = c.args.self.now in
    let resources = c.args.resources.now in
    let fixed = fixed_by resources in
    lack_of_none now resources.cache.entries c.args.lack fixed (request_of fixed now) (sym c.in-None.is ∙ c.asked-asked.ensures resources.cache.limits)
