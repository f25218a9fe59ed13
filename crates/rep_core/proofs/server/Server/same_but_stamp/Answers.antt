use Rattle.std.proofs.Common.{rules, ◌≡◌, ap, sym, ◌∙◌}
use Rattle.rep_core.specs.Bare.{bare_server}
use Rattle.rep_core.specs.Roomed.{Roomed}
use Rattle.rep_core.specs.code.ServerFields.{state_of}
use Rattle.rep_core.proofs.server.Server.same_but_stamp.Goals as goal

pub returns : goal.returns
returns c = λ yes.
    let own = c.self.inside in
    let theirs = c.other.inside in
    let up : own.up ≡ theirs.up = search rules in
    let locks : own.locks.locks ≡ theirs.locks.locks = c.same.ensures c.if-not-same.false in
    let audit : own.audit.items ≡ theirs.audit.items = sym c.deref.ensures.value ∙ c.same_audit.ensures c.if-not-same_audit.false ∙ c.deref-2.ensures.value in
    let store : own.store.store ≡ theirs.store.store = c.same-2.ensures c.if-not-same-2.false in
    let verdicts : own.verdicts.pairs ≡ theirs.verdicts.pairs = c.same-3.ensures yes in
    let same : bare_server (state_of own) ≡ bare_server (state_of theirs) =
    λ i. record { store = store i; locks = locks i; verdicts = verdicts i; audit = audit i; stamp = 0; up = up i } in
    ap (λ (server : Roomed). bare_server server.state) (sym c.self.view_is) ∙ same ∙ ap (λ (server : Roomed). bare_server server.state) c.other.view_is
