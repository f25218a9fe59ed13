use Rattle.agent_pool.proofs.Vocabulary.{◌≡◌, ℕ, List, [], replicate, Standing, AgentEntry, first_player, most_numbers}
use Rattle.agent_pool.proofs.player.Player.new.Goals as goal

pub returns : goal.returns
returns c =
    let agent : c.in-Some.agent ≡ (first_player c.args.settings.now c.args.number).agent = rw c.in-Some.is at c.in_ok-agent.ensures.agent in
    let entries : c.new-2.result.items ≡ [] = c.new-2.ensures.items in
    let known : c.in_ok-known.known.items ≡ replicate most_numbers 0 = c.in_ok-known.ensures.items_if_clones_equal (λ y same. same) in
    λ i. record { agent = agent i; entries = entries i; known = known i }
