use Rattle.txn_core.proofs.Vocabulary.{◌≡◌, ◌+◌, ℕ, [], ◌∷◌, ◌++◌, ap, sym, ◌∙◌, arith, length, has_locks}
use Rattle.arrayvec.specs.ArrayVec.{ArrayVec}
use Rattle.txn_core.proofs.Numbers.{one_passes, one_fails}
use Rattle.txn_core.proofs.servers.locked_at.Goals as goal
use Rattle.txn_core.proofs.servers.locked_at.Goals.{then-contains, else-contains}

pub loop-server-preserved : goal.loop-server-preserved
loop-server-preserved c =
    let held : has_locks c.args.suites.now c.loop-server.server ≡ c.contains.result = sym (c.contains.ensures ∙ c.holders_of-holders.ensures c.loop-server.server) in
    let few = c.loop-server.invariant.0 in
    elim c.if-contains.branch [
      | then-contains w ↦
          let more : length c.if-contains.all.items ≡ length c.loop-server.all.items + 1 = ap (λ (all : ArrayVec ℕ). length all.items) w.all-is ∙ w.push.ensures.len in
          let is : c.if-contains.all.items ≡ c.loop-server.all.items ++ c.loop-server.server ∷ [] = ap (λ (all : ArrayVec ℕ). all.items) w.all-is ∙ w.push.ensures.items in
          (omega (arith, few, more), one_passes (has_locks c.args.suites.now) c.loop-server.server c.loop-server.all.items c.if-contains.all.items (held ∙ w.if-contains.true) is c.loop-server.invariant.1)
      | else-contains w ↦
          let same : c.if-contains.all.items ≡ c.loop-server.all.items = ap (λ (all : ArrayVec ℕ). all.items) w.all-is in
          let as_many : length c.if-contains.all.items ≡ length c.loop-server.all.items = ap (λ (all : ArrayVec ℕ). length all.items) w.all-is in
          (omega (arith, few, as_many), one_fails (has_locks c.args.suites.now) c.loop-server.server c.loop-server.all.items c.if-contains.all.items (held ∙ w.if-contains.false) same c.loop-server.invariant.1)
    ]
