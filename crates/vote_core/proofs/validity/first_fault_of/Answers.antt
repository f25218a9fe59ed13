use Rattle.std.proofs.Common.{◌∙◌, sym}
use Rattle.vote_core.proofs.Faults.{each_known, distinct_servers, few_listed}
use Rattle.vote_core.proofs.validity.first_fault_of.Goals as goal

pub total_of-total-requires : goal.total_of-total-requires
total_of-total-requires c =
    let reps = c.args.reps.now in
    let known = each_known c.args.servers reps (sym c.has_unknown_server.ensures ∙ c.if-has_unknown_server.false) in
    few_listed reps known.1 (distinct_servers reps (sym c.lists_server_twice.ensures ∙ c.if-lists_server_twice.false))
