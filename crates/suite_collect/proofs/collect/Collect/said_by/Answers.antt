use Rattle.suite_collect.proofs.Vocabulary.{◌≡◌, Some, rules, asked_of, said_to, due_of}
use Rattle.suite_collect.specs.code.Dues as due
use Rattle.suite_collect.proofs.Dues.{told_said}
use Rattle.suite_collect.proofs.collect.Collect.said_by.Goals.{in-Held+in_ok-clone-in-Held, in-Busy, in-Down+in-Poll}
use Rattle.suite_collect.proofs.collect.Collect.said_by.Goals as goal

pub returns-clause-told : goal.returns-clause-told
returns-clause-told c =
    let now = c.args.self.now.collector in
    let server = c.in-Ask.server in
    let is : due_of now ≡ due.Ask server = search rules in
    let says : said_to (asked_of now server) c.args.reply.now ≡ Some c.match-reply.said = elim c.match-reply.branch [
      | in-Held+in_ok-clone-in-Held w ↦ search rules
      | in-Busy w ↦ search rules
      | in-Down+in-Poll w ↦ search rules
    ] in
    let told = told_said now server c.args.reply.now c.match-reply.said is says in
    search rules
