use Rattle.vote_core.specs.code.SameVotes.{same_votes_decides}
use Rattle.std.proofs.Common.{sym, ◌∙◌}
use Rattle.rep_core.proofs.sameness.same_votes.Goals as goal

pub returns : goal.returns
returns c = λ yes. (same_votes_decides c.args.own.now.votes c.args.theirs.now.votes).0 (sym c.eq.ensures ∙ yes)
