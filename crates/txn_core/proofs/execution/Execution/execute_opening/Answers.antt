use Rattle.txn_core.proofs.Vocabulary.{◌≡◌, ◌+◌, ℕ, [], ◌∷◌, ◌++◌, length, ap, sym, subst, ◌∙◌, arith, Option, option_map, Content, seen_in, fixed_in, seen_on, opened_all, IsReachedOn}
use Rattle.std.specs.Borrow.{Bor}
use Rattle.txn_core.proofs.Reaching.{reached_from, reached_as, reached_learned, reached_opened, unbegun_on}
use Rattle.txn_core.proofs.Seeing.{learned_ordered}
use Rattle.txn_core.proofs.Rounds.{longer, playing_starts, playing_more, playing_stops}
use Rattle.txn_core.proofs.execution.Execution.execute_opening.Goals as goal
use Rattle.txn_core.proofs.execution.Execution.execute_opening.Goals.{then-not-takes, else-not-takes, then-not-adds_to, else-not-adds_to}

-- a content with its suite, as it is
abbrev named : Option (ℕ × Bor Content) → Option (ℕ × Content)
named one = option_map (λ one. (one.0, one.1.now)) one

pub loop-init : goal.loop-init
loop-init c =
    let known = c.in_ok-known.known in
    let task = c.args.self.task.now in
    let old = c.args.after.suites.now.pairs in
    let just_learned = c.args.after.just_learned.now in
    let fixed_parts = c.args.self.fixed_parts.now in
    let before = c.args.progress.now in (
      playing_starts (fixed_in c.args.self c.args.cache_after.cache.now) task (seen_on c.args.cache_after (seen_in c.args.after)) known _ c.new-opened.ensures.items c.in_ok-known.ensures.known,
      elim c.if-not-adds_to.branch [
        | then-not-adds_to w ↦ unbegun_on known task c.if-not-adds_to.progress (w.progress-is ∙ w.new.ensures)
        | else-not-adds_to w ↦
            subst (IsReachedOn known task) (sym w.progress-is)
            (reached_from known fixed_parts (seen_in c.args.after) task before c.in_ok-known.ensures.known
            (reached_learned fixed_parts before task old just_learned c.in_ok-known.ensures.ordered (sym c.adds_to.ensures ∙ w.if-not-adds_to.false) c.requires))
      ],
      ap length c.new-opened.ensures.items,
    )

pub loop-preserved : goal.loop-preserved
loop-preserved c =
    let known = c.loop.known in
    let task = c.args.self.task.now in
    let all = seen_on c.args.cache_after (seen_in c.args.after) in
    let list = c.loop.opened.items in
    let one : ℕ × Content = (c.in-Some.number, c.in-Some.content.now) in
    let put = c.in_ok-push.ensures.items ∙ ap (λ content. list ++ (c.in-Some.number, content) ∷ []) c.in_ok-clone.ensures.cases in
    let more = longer list one in
    let long : length c.push.new.self.items ≡ length list + 1 = ap length put ∙ more in
    let at = c.loop.invariant.2 in
    let short : length list ≡ length (seen_in c.args.after) → ⊥ = λ same. omega (arith, same, at, c.loop-test.true, c.len-end.ensures) in (
      playing_more (fixed_in c.args.self c.args.cache_after.cache.now) task all list known c.loop.invariant.0
          c.in_ok-outcome.outcome c.in_ok-outcome.ensures.answer one (sym c.to_open.ensures ∙ ap named c.in-Some.is) (learned_ordered c.args.after.suites.now.pairs c.args.after.just_learned.now c.in_ok-known.ensures.ordered)
          short c.open.new.self c.open.ensures.service c.open.ensures.suites _ put,
      elim c.if-not-takes.branch [
        | then-not-takes w ↦ unbegun_on c.open.new.self task c.if-not-takes.progress (w.progress-is ∙ w.new-then-not-takes.ensures)
        | else-not-takes w ↦
            subst (IsReachedOn c.open.new.self task) (sym w.progress-is)
            (reached_opened known c.open.new.self task c.answer_on.new.progress c.in-Some.number c.in-Some.content.now c.open.ensures.service c.open.ensures.suites (sym c.takes.ensures ∙ w.if-not-takes.false) c.answer_on.ensures.reached)
      ],
      omega (arith, long, at),
    )

pub returns-in_default-clause-played : goal.returns-in_default-clause-played
returns-in_default-clause-played c =
    playing_stops (fixed_in c.args.self c.args.cache_after.cache.now) c.args.self.task.now (seen_on c.args.cache_after (seen_in c.args.after)) c.loop.opened.items c.loop.known c.loop.invariant.0
    c.in_ok-outcome.outcome c.in_ok-outcome.ensures.answer (sym c.to_open.ensures ∙ ap named c.in_default.is)

pub returns-in_default-clause-reached : goal.returns-in_default-clause-reached
returns-in_default-clause-reached c =
    reached_as c.loop.known c.args.self.fixed_parts.now (opened_all c.args.self.task.now c.loop.opened.items (seen_on c.args.cache_after (seen_in c.args.after))).suites c.args.self.task.now c.answer_on.new.progress
    c.loop.invariant.0.is_known c.answer_on.ensures.reached
