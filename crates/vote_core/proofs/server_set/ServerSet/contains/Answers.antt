use Rattle.vote_core.proofs.Vocabulary.{◌∙◌, sym, ap, eqb, ◌&&◌, arith, le-ltb, shr_and_one, bit_at, contains, MAX_SERVERS, contains-set_within, contains-set_below}
use Rattle.vote_core.proofs.server_set.ServerSet.contains.Goals as goal

pub returns-then-from-lt-MAX_SERVERS : goal.returns-then-from-lt-MAX_SERVERS
returns-then-from-lt-MAX_SERVERS c =
    ap (λ b. eqb b 1) (shr_and_one c.self.inside.bits c.args.server)
    ∙ sym (contains-set_within MAX_SERVERS c.self.inside.bits c.args.server (omega (arith, c.from.ensures, c.if-from-lt-MAX_SERVERS.true)))
    ∙ ap (λ members. contains members c.args.server) c.self.view_is

pub returns-else-from-lt-MAX_SERVERS : goal.returns-else-from-lt-MAX_SERVERS
returns-else-from-lt-MAX_SERVERS c =
    le-ltb c.from.result MAX_SERVERS c.if-from-lt-MAX_SERVERS.false
    ∙ sym (ap (λ b. b && eqb (bit_at c.self.inside.bits c.args.server) 1) (le-ltb c.args.server MAX_SERVERS (omega (arith, c.from.ensures, c.if-from-lt-MAX_SERVERS.false))))
    ∙ sym (contains-set_below MAX_SERVERS c.self.inside.bits c.args.server)
    ∙ ap (λ members. contains members c.args.server) c.self.view_is
