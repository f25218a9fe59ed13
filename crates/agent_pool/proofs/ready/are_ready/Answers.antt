use Rattle.agent_pool.proofs.Vocabulary.{◌≢◌, ℕ, [], Some, subst, ◌∙◌, sym, IsOther, passes_for}
use Rattle.agent_pool.proofs.Readiness.{ready_all, ready_on}
use Rattle.agent_pool.proofs.ready.are_ready.Goals as goal
use Rattle.agent_pool.proofs.ready.are_ready.Goals.{then-not-is_idle-via-then-not-is_idle, then-not-is_idle-via-else-not-is_idle+then-not-has_pass, then-not-is_idle-via-else-not-is_idle+else-not-has_pass+then-not-is_other}

pub returns-then-not-is_idle : goal.returns-then-not-is_idle
returns-then-not-is_idle c = (
  λ e. cc,
  λ ready.
      let parts = ready_all c.args.passes.now c.in-Some.player.now c.in-Some.later.now c.loop-player.rest.now c.args.agents.now c.in-Some.ensures.cases.0 c.loop-player.invariant ready in
      elim c.then-not-is_idle.branch [
        | then-not-is_idle-via-then-not-is_idle w ↦ sym w.if-not-is_idle.true ∙ c.is_idle.ensures ∙ parts.idle
        | then-not-is_idle-via-else-not-is_idle+then-not-has_pass w ↦
            sym w.if-not-has_pass.true ∙ w.has_pass.ensures.1 (subst (λ (n : ℕ). passes_for n c.args.passes.now ≢ []) (sym c.number-number.ensures) parts.has)
        | then-not-is_idle-via-else-not-is_idle+else-not-has_pass+then-not-is_other w ↦
            sym w.if-not-is_other.true ∙ w.is_other.ensures.1 (subst (λ (n : ℕ). IsOther c.in-Some.later.now (Some n)) (sym c.number-number.ensures) parts.other)
      ],
)

pub loop-player-preserved : goal.loop-player-preserved
loop-player-preserved c =
    ready_on c.args.passes.now c.in-Some.player.now c.in-Some.later.now c.loop-player.rest.now c.args.agents.now c.in-Some.ensures.cases.0
    (sym c.is_idle.ensures ∙ c.if-not-is_idle.false)
    (subst (λ (n : ℕ). passes_for n c.args.passes.now ≢ []) c.number-number.ensures (c.has_pass.ensures.0 c.if-not-has_pass.false))
    (subst (λ (n : ℕ). IsOther c.in-Some.later.now (Some n)) c.number-number.ensures (c.is_other.ensures.0 c.if-not-is_other.false))
    c.loop-player.invariant
