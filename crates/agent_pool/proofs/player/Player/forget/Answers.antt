use Rattle.agent_pool.proofs.Vocabulary.{◌∷◌, [], ap, ◌∙◌, arith, Standing, Forgot}
use Rattle.agent_pool.specs.Transcripts.{begins}
use Rattle.agent_pool.proofs.Begins.{begins-append}
use Rattle.agent_pool.proofs.player.Player.forget.Goals as goal

pub invariant_of-self-2 : goal.invariant_of-self-2
invariant_of-self-2 c = record {
  number = ap (λ (s : Standing). s.state.index) c.forget.ensures ∙ c.self.invariant.number;
  counted =
      let count = ap (λ (s : Standing). s.state.count) c.forget.ensures in
      let had = c.self.invariant.counted in
      let more = ap begins c.push_reserved.ensures.items in
      let same = ap begins c.in_ok-reserve.ensures.items in
      let two = begins-append c.reserve.new.self.items (Forgot c.args.site ∷ []) in
      omega arith;
  known = c.self.invariant.known;
}
