use Rattle.agent_pool.proofs.Vocabulary.{inl, inr, ◌≡◌, ◌∷◌, [], ◌++◌, ℕ, List, length, sym, ap, subst, ◌∙◌, append_assoc, arith, rules, length-append}
use Rattle.agent_pool.proofs.Vocabulary.{All-head, All-same, All-tail, AllZip, into_iter_items, view, IsSeatAt, Hand, Worked, HaveSame, places_below, AllTook}
use Rattle.agent_pool.proofs.Vocabulary.{Comes}
use Rattle.std.proofs.Common.{append-nil}
use Rattle.agent_pool.specs.code.Back.{IsOf}
use Rattle.agent_pool.proofs.Lines.{either_is, learns_all, merges}
use Rattle.agent_pool.proofs.JobsTaken.{all_took_more}
use Rattle.agent_pool.proofs.Zips.{zip_push, nothing_left}
use Rattle.agent_pool.proofs.start.join_all.Goals as goal
use Rattle.agent_pool.proofs.start.join_all.Goals.{then-returned, else-returned}

pub absorb-requires-clause-channel : goal.absorb-requires-clause-channel
absorb-requires-clause-channel g c =
    let of = IsOf c.args.context.now.receiver.now c.args.context.now.servers.now.servers c.args.context.now.jobs.now in
    let back = c.join_one-returned.ensures.back (All-head of c.in-Some.start _ (All-same of _ _ (sym c.in-Some.ensures.steps.0) c.loop-start.invariant.13)) in
    (c.loop-start.invariant.6, subst (λ at. IsSeatAt at c.join_one-returned.result.ticket) c.requires.same back.0)

pub absorb-requires-clause-rule : goal.absorb-requires-clause-rule
absorb-requires-clause-rule g c =
    let of = IsOf c.args.context.now.receiver.now c.args.context.now.servers.now.servers c.args.context.now.jobs.now in
    let back = c.join_one-returned.ensures.back (All-head of c.in-Some.start _ (All-same of _ _ (sym c.in-Some.ensures.steps.0) c.loop-start.invariant.13)) in
    merges _ _ _ _ c.loop-start.invariant.7 back.1.takes

pub learn_as-requires-clause-rule : goal.learn_as-requires-clause-rule
learn_as-requires-clause-rule g c = learns_all _ _ c.loop-start.invariant.7

pub loop-start-preserved : goal.loop-start-preserved
loop-start-preserved g c =
    let at = c.loop-start in
    let x = c.in-Some.start in
    let steps : into_iter_items at.start-iterator ≡ x ∷ into_iter_items c.next.new.self = c.in-Some.ensures.steps.0 in
    let gone = c.in-Some.ensures.steps.1 in
    let pushed = c.push_reserved.ensures in
    let returned = c.join_one-returned.result in
    let of = IsOf c.args.context.now.receiver.now c.args.context.now.servers.now.servers c.args.context.now.jobs.now in
    let back = c.join_one-returned.ensures.back (All-head of c.in-Some.start _ (All-same of _ _ (sym c.in-Some.ensures.steps.0) c.loop-start.invariant.13)) in
    let own = back.1 in
    let merged = c.absorb.ensures.rule in
    let long = length-append at.yielded (x ∷ []) in (
      tt,
      tt,
      append_assoc at.yielded (x ∷ []) _ ∙ rw (← steps) at.invariant.2,
      subst (λ (ys : List Worked). AllZip Comes (at.yielded ++ x ∷ []) ys) (sym pushed.items) (zip_push Comes at.yielded at.room.items x _ at.invariant.3 c.join_one-returned.ensures.comes),
      (let room = at.invariant.4 in let more = pushed.len in let same = pushed.capacity in omega arith),
      (let was = at.invariant.5 in let short = ap length steps in omega arith),
      c.absorb.ensures.channel.0,
      ap (λ (h : Hand). h.puts) merged ∙ at.invariant.7,
      ap (λ (h : Hand). h.put) merged ∙ at.invariant.8,
      ap (λ (h : Hand). h.takers) merged ∙ at.invariant.9,
      (let one = ap (λ (h : Hand). h.back) merged in let was = at.invariant.10 in omega arith),
      elim c.if-returned.branch [
        | then-returned w ↦ λ ended. ap (λ (h : Hand). h.ended) merged ∙ either_is (view at.ticket).ended (view returned.ticket).ended (inr (own.ended w.if-returned.true))
        | else-returned w ↦ λ ended. ap (λ (h : Hand). h.ended) merged ∙ either_is (view at.ticket).ended (view returned.ticket).ended (inl (at.invariant.11 (sym w.has_ended-is ∙ ended)))
      ],
      subst (λ (ws : List Worked). AllTook c.args.context.now.servers.now.servers c.args.context.now.jobs.now ws (view c.absorb.new.pass).taken) (sym pushed.items)
          (subst (λ (ps : List ℕ). AllTook c.args.context.now.servers.now.servers c.args.context.now.jobs.now (at.room.items ++ returned.worked ∷ []) ps) (sym (ap (λ (h : Hand). h.taken) merged))
          (all_took_more _ _ at.room.items returned.worked (view at.ticket).taken (view returned.ticket).taken at.invariant.12 own.took)),
      All-tail of x _ (All-same of _ _ (sym steps) at.invariant.13),
    )

pub returns-clause-comes : goal.returns-clause-comes
returns-clause-comes g c =
    let at = c.loop-start in
    let none = c.in-None.ensures.steps in
    let empty : into_iter_items at.start-iterator ≡ [] = nothing_left _ (sym at.invariant.5 ∙ none.0) in
    let all = sym (append-nil at.yielded) ∙ rw empty at at.invariant.2 ∙ c.into_iter-start-iterator.ensures.into_iter_gives.0 in
    subst (λ l. AllZip Comes l at.room.items) all at.invariant.3

pub returns-clause-taken : goal.returns-clause-taken
returns-clause-taken g c =
    let at = c.loop-start in
    let none = c.in-None.ensures.steps in
    let empty : into_iter_items at.start-iterator ≡ [] = nothing_left _ (sym at.invariant.5 ∙ none.0) in
    let all = ap length (sym (append-nil at.yielded) ∙ rw empty at at.invariant.2) in
    let learned = c.learn_as.ensures.rule.1 (at.invariant.10 ∙ all ∙ sym at.invariant.9) (at.invariant.11 (search rules)) in
    ((view at.ticket).taken, at.invariant.12, subst (λ (n : ℕ). HaveSame (view at.ticket).taken (places_below n)) at.invariant.8 learned)
