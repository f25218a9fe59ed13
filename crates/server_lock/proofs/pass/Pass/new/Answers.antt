use Rattle.server_lock.proofs.Vocabulary.{ℕ, ◌≤◌, List, refl, sym, subst, arith, All-replicate, max_servers, max_items, IsHeld}
use Rattle.server_lock.proofs.pass.Pass.new.Goals as goal

pub invariant_of-result : goal.invariant_of-result
invariant_of-result c = subst (λ (fronts : List ℕ). IsHeld 0 fronts) (sym c.in_ok-fronts.ensures.ok) (record {
  made = omega arith;
  servers = refl;
  few = All-replicate (λ (front : ℕ). front ≤ max_items) max_servers 0 (omega arith);
})
