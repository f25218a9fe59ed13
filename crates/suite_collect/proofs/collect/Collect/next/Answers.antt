use Rattle.suite_collect.proofs.Vocabulary.{◌≡◌, rules, due_of, asked_of}
use Rattle.suite_collect.specs.code.Dues as due
use Rattle.suite_collect.proofs.Dues.{ask_next}
use Rattle.suite_collect.proofs.collect.Collect.next.Goals as goal

pub returns-in-Ask : goal.returns-in-Ask
returns-in-Ask c =
    let now = c.args.self.now.collector in
    let server = c.in-Ask.server in
    let is : due_of now ≡ due.Ask server = search rules in
    (asked_of now server, ask_next now server is, search rules)
