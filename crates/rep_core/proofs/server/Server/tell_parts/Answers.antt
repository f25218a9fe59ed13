use Rattle.std.proofs.Common.{rules, ◌≡◌, false, ap, sym, ◌∙◌}
use Rattle.rep_core.specs.Roomed.{Roomed}
use Rattle.rep_core.specs.Store.{overfills}
use Rattle.rep_core.proofs.server.Server.tell_parts.Goals as goal

pub returns-clause-full : goal.returns-clause-full
returns-clause-full c =
    let fits : overfills c.args.t c.args.self.now.state.store c.args.parts.now ≡ false =
    ap (λ (server : Roomed). overfills c.args.t server.state.store c.args.parts.now) (sym c.self.view_is) ∙ sym (c.overfills.ensures c.args.t) ∙ c.if-overfills.false in
    search rules
