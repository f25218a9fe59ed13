use Rattle.vote_core.proofs.Vocabulary.{◌∙◌, ap, arith, le-leb, are_below, MAX_SERVERS}
use Rattle.vote_core.proofs.Within.{are_below-all, are_below-word}
use Rattle.vote_core.proofs.server_set.ServerSet.are_below.Goals as goal

pub returns-then-end-ge-MAX_SERVERS : goal.returns-then-end-ge-MAX_SERVERS
returns-then-end-ge-MAX_SERVERS c =
    le-leb MAX_SERVERS c.args.end (omega (arith, c.if-end-ge-MAX_SERVERS.true))
    ∙ are_below-all MAX_SERVERS c.args.end c.self.inside.bits (omega (arith, c.if-end-ge-MAX_SERVERS.true)) c.self.invariant
    ∙ ap (are_below c.args.end) c.self.view_is

pub returns-else-end-ge-MAX_SERVERS : goal.returns-else-end-ge-MAX_SERVERS
returns-else-end-ge-MAX_SERVERS c =
    are_below-word MAX_SERVERS c.args.end c.self.inside.bits (omega (arith, c.if-end-ge-MAX_SERVERS.false)) c.self.invariant
    ∙ ap (are_below c.args.end) c.self.view_is
