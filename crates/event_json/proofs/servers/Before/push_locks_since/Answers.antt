use Rattle.std.proofs.Common.{◌≡◌, ◌∙◌, List, OnOk, subst}
use Rattle.rep_core.specs.declared.lock.Lock.{Lock}
use Rattle.event_json.specs.Locks.{TellsLockChange}
use Rattle.event_json.proofs.servers.Before.push_locks_since.Goals as goal

pub returns : goal.returns
returns c =
    let was : c.as_slice.result.now ≡ c.args.self.now.locks.items = c.as_slice.ensures.value in
    let now : c.as_slice-2.result.now ≡ c.args.server.now.state.locks = c.as_slice-2.ensures.value ∙ c.in_ok-locks.ensures in
    subst (λ (all : List Lock). OnOk c.push_changed_locks.result (TellsLockChange c.args.self.now.locks.items all c.args.text.now.items c.push_changed_locks.new.text.items)) now
    (subst (λ (all : List Lock). OnOk c.push_changed_locks.result (TellsLockChange all c.as_slice-2.result.now c.args.text.now.items c.push_changed_locks.new.text.items)) was
    c.push_changed_locks.ensures)
