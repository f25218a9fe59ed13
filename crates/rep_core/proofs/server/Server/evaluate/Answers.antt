use Rattle.std.proofs.Common.{subst}
use Rattle.rep_core.specs.Roomed.{Roomed}
use Rattle.rep_core.specs.Store.{IsSound}
use Rattle.rep_core.proofs.FittingReplies.{reply_fits}
use Rattle.rep_core.proofs.server.Server.evaluate.Goals as goal

pub returns-then-is_used_up-clause-fits : goal.returns-then-is_used_up-clause-fits
returns-then-is_used_up-clause-fits c = reply_fits c.args.self.now.state c.args.request.now.value (subst (λ (server : Roomed). IsSound server.state.store) c.self.view_is c.sound.ensures)

pub returns-clause-fits : goal.returns-clause-fits
returns-clause-fits c = reply_fits c.args.self.now.state c.args.request.now.value (subst (λ (server : Roomed). IsSound server.state.store) c.self.view_is c.sound.ensures)

pub returns-in_err-change-clause-fits : goal.returns-in_err-change-clause-fits
returns-in_err-change-clause-fits c = reply_fits c.args.self.now.state c.args.request.now.value (subst (λ (server : Roomed). IsSound server.state.store) c.self.view_is c.sound.ensures)
