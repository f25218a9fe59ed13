use Rattle.vote_core.proofs.Vocabulary.{◌<◌, take, get_or, sym, arith, take_all}
use Rattle.std.proofs.lemmas.Grind.{common_steps}
use Rattle.std.proofs.lemmas.List.Elements.{All-more, All-same}
use Rattle.vote_core.proofs.validity.total_of.Goals as goal

pub loop-votes-preserved : goal.loop-votes-preserved
loop-votes-preserved c =
    let reps = c.args.reps.now in
    let i = c.loop-votes.votes-index in
    let byte : (get_or reps i (0, 0)).1 < 256 = omega arith in
    record {
      small = omega arith;
      rest = grind (arith, common_steps);
      few_votes = All-more (λ rep. rep.1 < 256) reps i (0, 0) c.loop-votes-test.true c.loop-votes.invariant.few_votes byte;
    }

pub returns-clause-few_votes : goal.returns-clause-few_votes
returns-clause-few_votes c =
    let reps = c.args.reps.now in
    All-same (λ rep. rep.1 < 256) reps (take c.loop-votes.votes-index reps) (sym (take_all c.loop-votes.votes-index reps c.loop-votes-test.false)) c.loop-votes.invariant.few_votes
