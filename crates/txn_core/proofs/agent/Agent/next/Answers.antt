use Rattle.txn_core.proofs.Vocabulary.{rules, ◌≡◌, ℕ, true, Option, Some, ap, sym, ◌∙◌, AllocError, option_map, IfOk-weaker, IfErr-weaker, Request, Limits, Running, standing_of, next_of, next_in, Standing, by_asking}
use Rattle.txn_core.proofs.agent.Agent.next.Goals as goal

pub returns-in-Some-Running-clause-ok : goal.returns-in-Some-Running-clause-ok
returns-in-Some-Running-clause-ok c =
    let at = c.in-Some-Running in
    let was : Standing = standing_of c.self.inside in
    let doing : was.state.doing ≡ Some (Running at.txn_run) = search rules in
    let put : Option ℕ → Option (ℕ × Request) = λ server. option_map (λ server. (server, c.ask.new.request)) server in
    let Said : Option ℕ → Type 0 = λ server. (limits : Limits) → put server ≡ next_in (record { service = c.self.inside.resources.fixed_parts; limits = limits }) (Some (Running at.txn_run)) in
    let Asked : Option ℕ → Type 0 = λ server. put server ≡ next_of c.args.self.now.fixed c.args.self.now.state in
    IfOk-weaker c.ask.result Said Asked
    (λ server same. same was.fixed.limits ∙ ap (next_in was.fixed) (sym doing) ∙ ap (λ (s : Standing). next_of s.fixed s.state) c.self.view_is) c.ask.ensures.ok

pub returns-in-Some-Running-clause-memory : goal.returns-in-Some-Running-clause-memory
returns-in-Some-Running-clause-memory c =
    let at = c.in-Some-Running in
    let was : Standing = standing_of c.self.inside in
    let doing : was.state.doing ≡ Some (Running at.txn_run) = search rules in
    let Said : AllocError → Type 0 = λ _. (limits : Limits) → by_asking (next_in (record { service = c.self.inside.resources.fixed_parts; limits = limits }) (Some (Running at.txn_run))) ≡ true in
    let Asked : AllocError → Type 0 = λ _. by_asking (next_of c.args.self.now.fixed c.args.self.now.state) ≡ true in
    IfErr-weaker c.ask.result Said Asked
    (λ refused wants. ap (λ (s : Standing). by_asking (next_of s.fixed s.state)) (sym c.self.view_is) ∙ ap (λ doing. by_asking (next_in was.fixed doing)) doing ∙ wants was.fixed.limits) c.ask.ensures.memory
