use Rattle.agent_pool.proofs.Vocabulary.{◌≡◌, ◌+◌, ◌-◌, ◌++◌, ◌∷◌, [], Option, Some, None, refl, length, ap, sym, ◌∙◌, append_assoc, arith, option_or}
use Rattle.agent_pool.proofs.Vocabulary.{EndedJob, Ended, is_idle, Response, Standing, end_entry}
use Rattle.txn_core.specs.Agents as agents
use Rattle.agent_pool.proofs.Keeping.{take_count, take_idle, take_index}
use Rattle.agent_pool.proofs.asking.hear.Goals as goal

or_none : {A : Type 0} (x : Option A) → option_or x None ≡ x
or_none (Some x) = refl
or_none None = refl

pub returns : goal.returns
returns c =
    let agent = c.args.agent.now in
    let response = c.args.delivery.response in
    let entries = c.args.entries.now.items in
    let same = c.as_result.ensures in
    let took = c.in-Ok.ensures.new ∙ ap (λ (said : Response). record agent { state = (agents.take agent.fixed agent.state said).agent }) same in
    let ending = c.in-Some.ending in
    let ends : (agents.take agent.fixed agent.state response).ending ≡ Some ending = ap (λ (said : Response). (agents.take agent.fixed agent.state said).ending) (sym same)
    ∙ sym (or_none _) ∙ sym c.in-Ok.ensures.ok ∙ c.in-Some.is in
    let count = c.saturating_sub-count.result in
    let whole = c.args.entries.now.ok.0 in
    let one = c.push_reserved.ensures.len in
    let told = c.len-at.ensures in
    let at : c.len-at.result ≡ length entries + 1 = omega arith in
    let steps : c.len-at.result - c.args.begun ≡ length entries + 1 - c.args.begun = ap (λ n. n - c.args.begun) at in
    let end = end_entry c.args.number count (c.len-at.result - c.args.begun) ending in (
      ap (λ (s : Standing). s.fixed) took,
      ap (λ (s : Standing). s.state.index) took ∙ take_index agent.fixed agent.state response,
      ap (λ (s : Standing). s.state.count) took ∙ take_count agent.fixed agent.state response,
      (
        ending,
        c.push_reserved-2.ensures.items ∙ ap (λ (kept : EndedJob). c.push_reserved.new.self.items ++ Ended kept ∷ []) c.in-Ok-new.ensures
            ∙ ap (λ es. es ++ end ∷ []) c.push_reserved.ensures.items ∙ append_assoc entries (c.args.delivery.entry ∷ []) (end ∷ [])
            ∙ ap (λ n. entries ++ c.args.delivery.entry ∷ end_entry c.args.number count n ending ∷ []) steps,
        at,
        (let a = c.saturating_sub-count.ensures in let b = c.count.ensures in omega arith),
        ap (λ (s : Standing). is_idle s.state.doing) took ∙ take_idle agent.fixed agent.state response ending ends,
        (ap (λ (s : Standing). s.state) took, ends),
      ),
    )
