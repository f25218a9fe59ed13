use Rattle.run_core.proofs.Vocabulary.{ap, Opening, fixed_of, Opened, AreOf, opening}
use Rattle.run_core.proofs.Numbered.{seats_of_one_service, actors_of_seats}
use Rattle.run_core.proofs.world.World.opening.Goals as goal

pub invariant_of-result : goal.invariant_of-result
invariant_of-result c =
    let settings = c.in_ok-settings.settings in
    let all : AreOf (fixed_of settings) c.in_ok-seats.seats.items = rw c.in_ok-seats.ensures (seats_of_one_service settings 0 settings.agents) in
    all

abbrev opened : Opening → Opened
opened given = record { given = given; world = opening given }

pub returns : goal.returns
returns c =
    let settings = c.in_ok-settings.settings in
    let same = c.in_ok-settings.ensures in
    rw (c.in_ok-servers.ensures, c.in_ok-seats.ensures, actors_of_seats settings 0 settings.agents) (ap opened same.cases)
