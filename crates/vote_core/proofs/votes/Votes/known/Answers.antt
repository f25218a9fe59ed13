use Rattle.vote_core.proofs.Vocabulary.{sym, length, replicate, length-take-le, MAX_SERVERS, no_votes}
use Rattle.vote_core.proofs.Faults.{few_if_valid}
use Rattle.vote_core.proofs.Kept.{kept_votes}
use Rattle.vote_core.proofs.votes.Votes.known.Goals as goal

pub slice_bounds-kept-end : goal.slice_bounds-kept-end
slice_bounds-kept-end c = few_if_valid (record { reps = c.args.reps.now; r = c.args.r; w = c.args.w }) c.requires

pub copy_from_slice-requires : goal.copy_from_slice-requires
copy_from_slice-requires c =
    length-take-le (length c.args.reps.now) (replicate MAX_SERVERS no_votes) (few_if_valid (record { reps = c.args.reps.now; r = c.args.r; w = c.args.w }) c.requires)

pub slice_bounds-copy_from_slice-end : goal.slice_bounds-copy_from_slice-end
slice_bounds-copy_from_slice-end c = sym (copy_from_slice-requires c)

pub invariant_of-result : goal.invariant_of-result
invariant_of-result c = kept_votes (record { reps = c.args.reps.now; r = c.args.r; w = c.args.w }) c.copy_from_slice.new.self c.requires c.copy_from_slice.ensures.after
