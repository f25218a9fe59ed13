use Rattle.agent_pool.proofs.Vocabulary.{◌∷◌, [], ap, ◌∙◌, arith, Standing, Begun}
use Rattle.agent_pool.specs.Transcripts.{begins}
use Rattle.agent_pool.proofs.Begins.{begins-append}
use Rattle.agent_pool.proofs.Keeping.{began, begin_count, begin_index}
use Rattle.agent_pool.proofs.player.Player.begin.Goals as goal

pub invariant_of-self-2 : goal.invariant_of-self-2
invariant_of-self-2 c =
    let agent = c.self.inside.agent in
    let job = c.deref.result.now in
    let is = c.in_ok-begin.ensures.ok in
    let count = ap (λ (s : Standing). s.state.count) is in
    let starts = began agent.fixed agent.state job (λ e. let a = c.count.ensures in let b = c.count-count.ensures in let other = c.if-count.false in omega arith) in
    record {
      number = ap (λ (s : Standing). s.state.index) is ∙ begin_index agent.fixed agent.state job ∙ c.self.invariant.number;
      counted =
          let more = begin_count agent.fixed agent.state job starts in
          let had = c.self.invariant.counted in
          let put = ap begins c.push_reserved.ensures.items in
          let same = ap begins c.in_ok-reserve.ensures.items in
          let two = begins-append c.reserve.new.self.items (Begun c.in_ok-kept.kept ∷ []) in
          omega arith;
      known = c.self.invariant.known;
    }
