use Rattle.std.proofs.Common.{sym, refl}
use Rattle.vote_core.proofs.Faults.{accepted_without_fault, faulty}
use Rattle.vote_core.proofs.votes.Votes.new.Goals as goal

pub returns-in-Some-clause-accepted : goal.returns-in-Some-clause-accepted
returns-in-Some-clause-accepted c = (
  λ no. cc,
  faulty c.args.servers (record { reps = c.args.reps.now; r = c.args.r; w = c.args.w }) c.in-Some.fault c.in-Some.ensures.fault,
)

pub known-requires : goal.known-requires
known-requires c =
    let accepted = accepted_without_fault c.args.servers (record { reps = c.args.reps.now; r = c.args.r; w = c.args.w }) (sym c.in_default.ensures.fault) c.in_default.ensures.few_votes in
    accepted.valid

pub returns-clause-accepted : goal.returns-clause-accepted
returns-clause-accepted c = (
  λ yes. accepted_without_fault c.args.servers (record { reps = c.args.reps.now; r = c.args.r; w = c.args.w }) (sym c.in_default.ensures.fault) c.in_default.ensures.few_votes,
  λ accepted. refl,
)
