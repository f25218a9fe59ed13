use Rattle.vote_core.proofs.Vocabulary.{◌∙◌, ◌*◌, ◌%◌, ◌^◌, ◌<◌, ap, arith, contains, insert, mod-le, or_lt, MAX_SERVERS}
use Rattle.std.proofs.Math.Pow.{pow-lt}
use Rattle.vote_core.proofs.ServerSets.{set_below-bit_or, contains_inserted}
use Rattle.vote_core.proofs.server_set.ServerSet.insert.Goals as goal

pub invariant_of-self : goal.invariant_of-self
invariant_of-self c =
    let bit_within : 1 * 2 ^ c.args.server % 2 ^ 32 < 2 ^ MAX_SERVERS = omega (arith, mod-le (1 * 2 ^ c.args.server) (2 ^ 32), pow-lt c.requires) in
    or_lt MAX_SERVERS c.self.inside.bits (1 * 2 ^ c.args.server % 2 ^ 32) c.self.invariant bit_within

pub returns-clause-value : goal.returns-clause-value
returns-clause-value c =
    set_below-bit_or MAX_SERVERS c.self.inside.bits c.args.server c.requires (omega arith)
    ∙ ap (λ members. insert members c.args.server) c.self.view_is

pub returns-clause-members : goal.returns-clause-members
returns-clause-members c other =
    ap (λ members. contains members other) (returns-clause-value c)
    ∙ contains_inserted c.args.self.now c.args.server other
