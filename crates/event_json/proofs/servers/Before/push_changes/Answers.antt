use Rattle.event_json.proofs.Owning.{changes_told}
use Rattle.event_json.proofs.servers.Before.push_changes.Goals as goal

pub returns : goal.returns
returns c =
    changes_told c.args.self.now c.args.request.now c.args.server.now.state c.finished.result
    c.args.text.now.items c.push_up.new.text.items c.push_locks_since.new.text.items c.push_left.new.text.items c.push_denials_since.new.text.items c.extend_from_slice.new.self.items
    c.finished.ensures c.in_ok-push_up.ensures c.in_ok-push_locks_since.ensures c.in_ok-push_left.ensures c.in_ok-push_denials_since.ensures c.in_ok-extend_from_slice.ensures.items
