use Rattle.txn_core.proofs.Vocabulary.{◌≡◌, Option, Some, subst, rules, SettlesBy, GatheredSuite, suite_of}
use Rattle.txn_core.proofs.transaction_run.TransactionRun.pending.Goals as goal

pub returns-in_ok-pending-in-Some : goal.returns-in_ok-pending-in-Some
returns-in_ok-pending-in-Some c =
    let there : Some c.in-Some.suite.now ≡ suite_of c.args.self.now.suites c.args.number = search rules in
    subst (λ (found : Option GatheredSuite). SettlesBy found c.args.last (Some c.in_ok-pending-in-Some.pending)) there c.in_ok-pending-in-Some.ensures
