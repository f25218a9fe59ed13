use Rattle.suite_serve.proofs.Vocabulary.{◌≡◌, ◌∙◌, ap, ap₂, arith, refl, sym, subst, List, [], ◌∷◌, ◌++◌, length, min, None, Result, IfOk, take-append-drop}
use Rattle.suite_serve.proofs.Vocabulary.{PoolFault, Pool, NamedJob, IsPoolOf, AreReady, Played, first_player, players_from, Opening, ready_after, ready_front}
use Rattle.suite_serve.proofs.Vocabulary.{AllZip, FollowsAll}
use Rattle.suite_serve.proofs.Followed.{ready_followers}
use Rattle.suite_serve.proofs.Pooled.{all_ready, both_done}
use Rattle.suite_serve.proofs.Quiet.{no_operator}
use Rattle.suite_serve.proofs.serving.work.Goals as goal

pub returns-clause-done : goal.returns-clause-done
returns-clause-done g c =
    let given = c.args.opened.servers.now in
    let jobs = c.args.jobs.items in
    let first = c.in_ok-agents.field-0 in
    let second = c.in_ok-agents-3.field-0 in
    let above = c.split_at.result.0.now in
    let below = c.split_at.result.1.now in
    let one : IsPoolOf above c.in_ok-first.first.items c.args.opened.passes.items first = subst
    (λ (r : Result Pool PoolFault). IfOk r (λ (pool : Pool). IsPoolOf above c.in_ok-first.first.items c.args.opened.passes.items pool)) c.in_ok-agents.ensures
    c.run_pool.ensures.pool in
    let two : IsPoolOf below c.in_ok-agents-2.agents.items first.passes.items second = subst
    (λ (r : Result Pool PoolFault). IfOk r (λ (pool : Pool). IsPoolOf below c.in_ok-agents-2.agents.items first.passes.items pool)) c.in_ok-agents-3.ensures
    c.run_pool-2.ensures.pool in
    let alone : c.in_ok-first.first.items ≡ first_player given 0 ∷ [] = c.in_ok-first.ensures.first ∙ ap (λ (s : Opening). first_player s 0 ∷ []) c.settings.ensures in
    let all : first_player given 0 ∷ c.in_ok-first.others.items ≡ players_from given 0 given.agents =
    ap (λ (ps : List Played). ps ++ c.in_ok-first.others.items) (sym alone) ∙ c.in_ok-first.ensures.all ∙ ap (λ (s : Opening). players_from s 0 s.agents) c.settings.ensures
    in
    let split : jobs ≡ above ++ below = sym c.as_slice.ensures.value ∙ sym (take-append-drop c.min.result c.as_slice.result.now) ∙ ap₂ (λ (xs ys : List NamedJob). xs ++ ys) (sym c.split_at.ensures.front) (sym c.split_at.ensures.back) in
    let count : c.len.result ≡ length jobs = omega (arith, c.len.ensures, c.args.jobs.ok.0) in
    let cut : length above ≡ min c.args.alone (length jobs) = c.split_at.ensures.front_len ∙ c.min.ensures ∙ ap (min c.args.alone) count in
    both_done given jobs above below c.args.alone c.args.opened.passes.items c.in_ok-first.others.items c.in_ok-others.others.items first second
    (record { agents = second.agents; passes = second.passes; outcomes = c.in_ok-outcomes.outcomes })
    split cut all
    (subst (λ (ps : List Played). IsPoolOf above ps c.args.opened.passes.items first) alone one)
    (subst (λ (ps : List Played). AllZip (FollowsAll ps) c.in_ok-first.others.items c.in_ok-others.others.items) c.deref.ensures.value c.in_ok-others.ensures)
    (subst (λ (ps : List Played). IsPoolOf below ps first.passes.items second) c.in_ok-agents-2.ensures two)
    refl c.in_ok-outcomes.ensures

pub returns-clause-quiet : goal.returns-clause-quiet
returns-clause-quiet g c =
    let first = c.in_ok-agents.field-0 in
    let second = c.in_ok-agents-3.field-0 in
    let above = c.split_at.result.0.now in
    let below = c.split_at.result.1.now in
    let one : IsPoolOf above c.in_ok-first.first.items c.args.opened.passes.items first = subst
    (λ (r : Result Pool PoolFault). IfOk r (λ (pool : Pool). IsPoolOf above c.in_ok-first.first.items c.args.opened.passes.items pool)) c.in_ok-agents.ensures
    c.run_pool.ensures.pool in
    let two : IsPoolOf below c.in_ok-agents-2.agents.items first.passes.items second = subst
    (λ (r : Result Pool PoolFault). IfOk r (λ (pool : Pool). IsPoolOf below c.in_ok-agents-2.agents.items first.passes.items pool)) c.in_ok-agents-3.ensures
    c.run_pool-2.ensures.pool in
    two.others None (no_operator c.in_ok-agents-2.agents.items) ∙ one.others None (no_operator c.in_ok-first.first.items)

pub run_pool-requires-clause-ready : goal.run_pool-requires-clause-ready
run_pool-requires-clause-ready g c κs within =
    let given = c.args.opened.servers.now in
    let first = c.in_ok-first.first.items in
    let others = c.in_ok-first.others.items in
    let all : first ++ others ≡ players_from given 0 given.agents = c.in_ok-first.ensures.all ∙ ap (λ (s : Opening). players_from s 0 s.agents) c.settings.ensures in
    ready_front c.args.opened.passes.items first others (all_ready given c.args.opened.passes.items (first ++ others) c.requires all)

pub run_pool-requires-2-clause-ready : goal.run_pool-requires-2-clause-ready
run_pool-requires-2-clause-ready g c κs within =
    let given = c.args.opened.servers.now in
    let first = c.in_ok-first.first.items in
    let others = c.in_ok-first.others.items in
    let pool = c.in_ok-agents.field-0 in
    let above = c.split_at.result.0.now in
    let all : first ++ others ≡ players_from given 0 given.agents = c.in_ok-first.ensures.all ∙ ap (λ (s : Opening). players_from s 0 s.agents) c.settings.ensures in
    let one : IsPoolOf above first c.args.opened.passes.items pool = subst (λ (r : Result Pool PoolFault). IfOk r (λ (made : Pool). IsPoolOf above first c.args.opened.passes.items made)) c.in_ok-agents.ensures c.run_pool.ensures.pool in
    subst (λ (ps : List Played). AreReady pool.passes.items ps) (sym c.in_ok-agents-2.ensures)
    (ready_followers pool.passes.items pool.agents.items pool.agents.items others c.in_ok-others.others.items
    (subst (λ (ps : List Played). AllZip (FollowsAll ps) others c.in_ok-others.others.items) c.deref.ensures.value c.in_ok-others.ensures)
    (ready_after above c.args.opened.passes.items first others pool (all_ready given c.args.opened.passes.items (first ++ others) c.requires all) one))
