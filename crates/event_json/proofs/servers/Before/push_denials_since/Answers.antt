use Rattle.std.proofs.Common.{◌≡◌, ◌++◌, List, OnOk, drop, subst}
use Rattle.file_ops.specs.declared.audit.AuditItem.{AuditItem}
use Rattle.event_json.specs.Servers.{came_denials}
use Rattle.event_json.proofs.servers.Before.push_denials_since.Goals as goal

pub returns : goal.returns
returns c =
    let same : c.since.result.now ≡ drop c.args.self.now.denials c.args.server.now.state.audit = cc in
    subst (λ (items : List AuditItem). OnOk c.push_came.result (c.push_came.new.text.items ≡ c.args.text.now.items ++ came_denials items)) same c.push_came.ensures
