use Rattle.file_ops.proofs.Vocabulary.{◌≡◌, false, [], Err, rules, Memory, AnswersFirst}
use Rattle.file_ops.specs.Transactions.{is_miscounted, play}
use Rattle.file_ops.proofs.LaterRefusals.{refuses_first}
use Rattle.file_ops.proofs.table.Table.apply.Goals as goal

pub returns-clause-first : goal.returns-clause-first
returns-clause-first c =
    let service = c.args.self.now.service in
    let rows = c.args.self.now.rows in
    let counted : is_miscounted c.args.ops.now ≡ false = search rules in
    let first : AnswersFirst (Err Memory) 0 (play service (record { answers = []; rows = rows }) c.args.t 0 c.args.caller.now c.args.ops.now) = search rules in
    refuses_first (Err Memory) service rows c.args.t c.args.caller.now c.args.ops.now counted first
