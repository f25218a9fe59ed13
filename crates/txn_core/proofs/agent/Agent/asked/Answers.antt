use Rattle.txn_core.proofs.Vocabulary.{rules, ◌≡◌, Some, ap, sym, ◌∙◌, standing_of, next_in, next_of, Running, Standing}
use Rattle.txn_core.proofs.Replies.{server_of}
use Rattle.txn_core.proofs.agent.Agent.asked.Goals as goal

pub returns-in-Some-Running : goal.returns-in-Some-Running
returns-in-Some-Running c =
    let at = c.in-Some-Running in
    let was : Standing = standing_of c.self.inside in
    let doing : was.state.doing ≡ Some (Running at.txn_run) = search rules in
    c.asked.ensures was.fixed.limits
    ∙ ap (λ doing. server_of (next_in was.fixed doing)) (sym doing)
    ∙ ap (λ (s : Standing). server_of (next_of s.fixed s.state)) c.self.view_is
