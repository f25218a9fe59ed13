use Rattle.agent_pool.proofs.Vocabulary.{◌≡◌, ℕ, ◌∷◌, [], ◌++◌, List, length, refl, sym, ap, subst, ◌∙◌, append_assoc, arith, All, into_iter_items}
use Rattle.agent_pool.proofs.Vocabulary.{AreDistinct, HasPass, numbers_of, passes_for, IsTakenOut, Played}
use Rattle.agent_pool.proofs.Seating.{none_left, others_before, seated_more}
use Rattle.agent_pool.proofs.passes.seats.Goals as goal

pub unreachable-requires : goal.unreachable-requires
unreachable-requires c =
    let at = c.loop-player in
    let x = c.in-Some.player in
    let rest = into_iter_items c.next.new.self in
    let whole : at.yielded ++ x ∷ rest ≡ c.args.agents.items = ap (λ zs. at.yielded ++ zs) (sym c.in-Some.ensures.steps.0) ∙ at.invariant.2 ∙ c.into_iter-player-iterator.ensures.into_iter_gives.0 in
    none_left c.args.passes.now.items at.passes.items at.yielded at.seats.items x rest (subst (λ (ps : List Played). AreDistinct (numbers_of ps)) (sym whole) c.requires.distinct)
    (subst (λ (ps : List Played). All (HasPass c.args.passes.now.items) ps) (sym whole) c.requires.have) at.invariant.3
    (subst (λ (n : ℕ). passes_for n at.passes.items ≡ []) c.number.ensures (c.take_pass.ensures.none c.in_default.is))

pub loop-player-preserved : goal.loop-player-preserved
loop-player-preserved c =
    let at = c.loop-player in
    let x = c.in-Some.player in
    let rest = into_iter_items c.next.new.self in
    let steps : into_iter_items at.player-iterator ≡ x ∷ rest = c.in-Some.ensures.steps.0 in
    let gone = c.in-Some.ensures.steps.1 in
    let pushed = c.push_reserved.ensures in
    let whole : at.yielded ++ x ∷ rest ≡ c.args.agents.items = ap (λ zs. at.yielded ++ zs) (sym steps) ∙ at.invariant.2 ∙ c.into_iter-player-iterator.ensures.into_iter_gives.0 in
    let other = others_before at.yielded x rest (subst (λ (ps : List Played). AreDistinct (numbers_of ps)) (sym whole) c.requires.distinct) in
    let out = subst (λ (n : ℕ). IsTakenOut n at.passes.items c.take_pass.new.passes.items c.in-Some-take_pass.pass) c.number.ensures c.in-Some-take_pass.ensures.some in (
      tt,
      tt,
      append_assoc at.yielded (x ∷ []) rest ∙ rw (← steps) at.invariant.2,
      seated_more c.args.passes.now.items at.passes.items c.take_pass.new.passes.items at.yielded at.seats.items c.push_reserved.new.self.items x c.in-Some-take_pass.pass
          (record { player = x; pass = c.in-Some-take_pass.pass }) other at.invariant.3 out refl refl pushed.items,
      (let room = at.invariant.4 in let more = pushed.len in let same = pushed.capacity in omega arith),
      (let was = at.invariant.5 in let short = ap length steps in omega arith),
    )
