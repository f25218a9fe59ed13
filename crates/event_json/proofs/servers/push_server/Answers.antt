use Rattle.std.proofs.Common.{◌≡◌, ◌++◌, ◌∙◌, ap}
use Rattle.event_json.specs.Locks.{locks_text}
use Rattle.event_json.specs.Servers.{denials_text}
use Rattle.event_json.proofs.Owning.{server_told}
use Rattle.event_json.proofs.servers.push_server.Goals as goal

pub returns : goal.returns
returns c =
    let locks : c.deref.result.now ≡ c.args.server.now.state.locks = c.deref.ensures.value ∙ c.in_ok-locks.ensures in
    server_told c.args.number c.args.server.now.state c.args.text.now.items c.push_up.new.text.items c.extend_from_slice.new.self.items c.push_locks.new.text.items c.push_copies.new.text.items
    c.extend_from_slice-2.new.self.items c.push_denials.new.text.items c.extend_from_slice-3.new.self.items
    c.in_ok-push_up.ensures c.in_ok-extend_from_slice.ensures.items
    (c.in_ok-push_locks.ensures ∙ ap (λ all. c.extend_from_slice.new.self.items ++ locks_text all) locks)
    c.in_ok-push_copies.ensures c.in_ok-extend_from_slice-2.ensures.items
    (c.in_ok-push_denials.ensures ∙ ap (λ all. c.extend_from_slice-2.new.self.items ++ denials_text all) c.audit.ensures)
    c.in_ok-extend_from_slice-3.ensures.items
