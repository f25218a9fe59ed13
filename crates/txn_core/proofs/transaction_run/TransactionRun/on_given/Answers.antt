use Rattle.txn_core.proofs.Vocabulary.{◌≡◌, Some, None, sym, subst, ◌∙◌, rules, Option, IfSome, IfOk, Fetched, IsStep, IsKeepable, Step, given_in}
use Rattle.txn_core.specs.declared.ending.Cause.TheVariants as cause
use Rattle.txn_core.proofs.Handling.{given', up_step, not_given, not_learned, content_learned}
use Rattle.txn_core.proofs.transaction_run.TransactionRun.on_given.Goals as goal

pub returns-in_default-clause-ok : goal.returns-in_default-clause-ok
returns-in_default-clause-ok c =
    let resources = c.args.resources.now in
    let now = c.args.self.now in
    let none : given_in c.args.said.now ≡ None = search rules in
    up_step resources c.requires.unused now (cause.Lost c.args.server) (given' resources now c.args.number c.args.server c.args.said.now) c.give_up.result c.give_up.new.self
    (not_given resources now c.args.number c.args.server c.args.said.now none) c.give_up.ensures

pub returns-in-None-clause-ok : goal.returns-in-None-clause-ok
returns-in-None-clause-ok c =
    let resources = c.args.resources.now in
    let now = c.args.self.now in
    let gave : given_in c.args.said.now ≡ Some c.in-Given.content = search rules in
    up_step resources c.requires.unused now (cause.Lost c.args.server) (given' resources now c.args.number c.args.server c.args.said.now) c.give_up-in-None.result c.give_up-in-None.new.self
    (not_learned resources now c.args.number c.args.server c.args.said.now c.in-Given.content gave (sym c.in-None.is ∙ c.in_ok-fetched.ensures.value)) c.give_up-in-None.ensures

pub returns-in-Some-clause-ok : goal.returns-in-Some-clause-ok
returns-in-Some-clause-ok c =
    let resources = c.args.resources.now in
    let now = c.args.self.now in
    let gave : given_in c.args.said.now ≡ Some c.in-Given.content = search rules in
    let Goes : Step → Type 0 = λ step. IfOk c.execute.result (λ flow. IsStep resources step flow c.execute.new.self c.execute.new.resources) in
    subst Goes (content_learned resources now c.args.number c.args.server c.args.said.now c.in-Given.content gave c.in-Some.fetched (sym c.in-Some.is ∙ c.in_ok-fetched.ensures.value)) c.execute.ensures.ok

pub execute-requires-clause-fits : goal.execute-requires-clause-fits
execute-requires-clause-fits c = subst (λ (found : Option Fetched). IfSome found IsKeepable) c.in-Some.is c.in_ok-fetched.ensures.keepable
