use Rattle.agent_pool.proofs.Vocabulary.{List, [], ◌∷◌, ◌++◌, ap, sym, ◌∙◌, Played, first_player}
use Rattle.agent_pool.proofs.Firsts.{players_more}
use Rattle.agent_pool.proofs.player.first_players.Goals as goal

pub loop-number-preserved : goal.loop-number-preserved
loop-number-preserved c =
    players_more c.args.settings.now c.loop-number.number ∙ ap (λ (ps : List Played). ps ++ first_player c.args.settings.now c.loop-number.number ∷ []) c.loop-number.invariant
    ∙ ap (λ (p : Played). c.loop-number.players.items ++ p ∷ []) (sym c.in_ok-new.ensures) ∙ sym c.in_ok-push.ensures.items
