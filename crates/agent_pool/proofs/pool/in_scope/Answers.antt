use Rattle.agent_pool.proofs.Vocabulary.{All, Vec, ◌≡◌, ◌∷◌, [], ◌++◌, List, length, sym, ap, subst, ◌∙◌, append_assoc, arith, rules, length-append, All-push}
use Rattle.agent_pool.proofs.Vocabulary.{All-same, All-tail, AllZip, into_iter_items, Global, Hand, Start, SeatedAgent, Worked, feeder, with_taker, Comes}
use Rattle.agent_pool.proofs.Vocabulary.{IsStart, IsWorkOf, IsIdle}
use Rattle.std.proofs.Common.{append-nil}
use Rattle.agent_pool.specs.code.Back.{IsOf}
use Rattle.agent_pool.proofs.Lines.{forks}
use Rattle.agent_pool.proofs.JobsTaken.{by_ok}
use Rattle.agent_pool.proofs.Zips.{zip_push, zip_then, nothing_left}
use Rattle.agent_pool.proofs.pool.in_scope.Goals as goal
use Rattle.agent_pool.proofs.pool.in_scope.Goals.{in-Started, in_default}

pub another-taker-requires-clause-rule : goal.another-taker-requires-clause-rule
another-taker-requires-clause-rule g c = forks _ _ (ap (λ (hand : Hand). hand.puts) c.loop-seat.invariant.8)

pub loop-seat-preserved : goal.loop-seat-preserved
loop-seat-preserved g c =
    let at = c.loop-seat in
    let x = c.in-Some.seat in
    let steps : into_iter_items at.seat-iterator ≡ x ∷ into_iter_items c.next.new.self = c.in-Some.ensures.steps.0 in
    let gone = c.in-Some.ensures.steps.1 in
    let pushed = c.push_reserved.ensures in
    let more = pushed.len in
    let longer = length-append at.yielded (x ∷ []) in (
      tt,
      tt,
      append_assoc at.yielded (x ∷ []) _ ∙ rw (← steps) at.invariant.2,
      subst (λ (ys : List Start). AllZip (IsStart c.args.context.now.jobs.now) (at.yielded ++ x ∷ []) ys) (sym pushed.items)
          (zip_push (IsStart c.args.context.now.jobs.now) at.yielded at.starts.items x _ at.invariant.3 c.begin_thread-start.ensures.start),
      (let room = at.invariant.4 in let same = pushed.capacity in omega arith),
      (let was = at.invariant.5 in let short = ap length steps in omega arith),
      (let few = at.invariant.6 in elim c.match-start.branch [ in-Started w ↦ (let is = w.started-is in omega arith) | in_default w ↦ (let is = w.started-is in omega arith) ]),
      search rules,
      c.another-taker.ensures.rule.0 ∙ ap with_taker at.invariant.8 ∙ ap (λ n. feeder 0 0 n) (sym more),
      (let was = at.invariant.9 in omega arith),
      All-tail (λ (seat : SeatedAgent). IsIdle seat.player) x _ (All-same (λ (seat : SeatedAgent). IsIdle seat.player) _ _ (sym steps) at.invariant.10),
      subst (λ (ys : List Start). All (IsOf c.args.context.now.receiver.now c.args.context.now.servers.now.servers c.args.context.now.jobs.now) ys) (sym pushed.items)
          (All-push (IsOf c.args.context.now.receiver.now c.args.context.now.servers.now.servers c.args.context.now.jobs.now) at.starts.items _ at.invariant.11 c.begin_thread-start.ensures.of),
    )

pub join_all-requires-clause-room : goal.join_all-requires-clause-room
join_all-requires-clause-room g c =
    let at = c.loop-seat in
    let none = c.in-None.ensures.steps in
    let empty : into_iter_items at.seat-iterator ≡ [] = nothing_left _ (sym at.invariant.5 ∙ none.0) in
    let all = ap length (sym (append-nil at.yielded) ∙ rw empty at at.invariant.2 ∙ c.into_iter-seat-iterator.ensures.into_iter_gives.0) in
    let long = at.invariant.9 in
    let asked = c.len-2.ensures in
    let room = c.in_ok-room.ensures.capacity in
    let whole = c.args.seats.ok.0 in
    omega arith

pub join_all-requires-clause-fed : goal.join_all-requires-clause-fed
join_all-requires-clause-fed g c =
    let at = c.loop-seat in
    (at.started, c.feed.ensures.fed ∙ ap (λ (hand : Hand). record hand { put = length c.args.context.now.jobs.now; ends = at.started }) at.invariant.8)

pub feed-requires-clause-first : goal.feed-requires-clause-first
feed-requires-clause-first g c =
    let is = c.loop-seat.invariant.8 in
    (ap (λ (hand : Hand). hand.puts) is, ap (λ (hand : Hand). hand.put) is, ap (λ (hand : Hand). hand.ends) is)

pub returns-clause-work : goal.returns-clause-work
returns-clause-work g c =
    let at = c.loop-seat in
    let none = c.in-None.ensures.steps in
    let empty : into_iter_items at.seat-iterator ≡ [] = nothing_left _ (sym at.invariant.5 ∙ none.0) in
    let all = sym (append-nil at.yielded) ∙ rw empty at at.invariant.2 ∙ c.into_iter-seat-iterator.ensures.into_iter_gives.0 in
    by_ok (λ (worked : Vec Worked Global). AllZip Comes at.starts.items worked.items) (λ (worked : Vec Worked Global). AllZip (IsWorkOf c.args.context.now.jobs.now) c.args.seats.items worked.items)
    (λ worked comes.
    zip_then (IsStart c.args.context.now.jobs.now) Comes (IsWorkOf c.args.context.now.jobs.now) (λ seat start now begun come. come c.args.context.now.jobs.now seat begun)
    c.args.seats.items at.starts.items worked.items
    (subst (λ (l : List SeatedAgent). AllZip (IsStart c.args.context.now.jobs.now) l at.starts.items) all at.invariant.3) comes)
    c.join_all.result c.join_all.ensures.comes
