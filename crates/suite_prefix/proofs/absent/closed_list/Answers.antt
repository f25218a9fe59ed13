use Rattle.suite_prefix.proofs.Vocabulary.{ℕ, subst, IfOk, ◌≡◌}
use Rattle.acl_core.specs.Modes.{minimal_list}
use Rattle.suite_prefix.proofs.absent.closed_list.Goals as goal

pub returns : goal.returns
returns c =
    let value : c.unwrap-mode.result ≡ 0 = rw c.unwrap-mode.ensures at c.new.ensures.value in
    subst (λ (mode : ℕ). IfOk c.from_mode.result (λ acl. acl ≡ minimal_list mode)) value c.from_mode.ensures.list
