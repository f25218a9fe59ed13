use Rattle.vote_core.proofs.Vocabulary.{◌∙◌, ap, eqb, option_map, unwrap_or, find}
use Rattle.vote_core.proofs.Members.{votes_found}
use Rattle.vote_core.proofs.votes.Votes.votes_at.Goals as goal

pub returns : goal.returns
returns c =
    c.unwrap_or.ensures
    ∙ ap (λ found. unwrap_or found 0) c.listed_votes.ensures
    ∙ ap (λ reps. unwrap_or (option_map (λ rep. rep.1) (find (λ rep. eqb rep.0 c.args.server) reps)) 0) c.reps.ensures.value
    ∙ votes_found c.args.server c.args.self.now.reps c.reps.ensures.valid.listed_once
