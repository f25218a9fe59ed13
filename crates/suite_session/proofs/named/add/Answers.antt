use Rattle.suite_session.proofs.Naming.{has_added}
use Rattle.suite_session.proofs.named.add.Goals as goal

pub returns : goal.returns
returns c = λ one. has_added c.args.numbers.now.keys c.insert.new.self.keys c.args.number one (c.in_ok-insert.ensures.updates.0 one)
