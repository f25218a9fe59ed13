use Rattle.acl_text.proofs.Vocabulary.{fault_of_list, entries_of, Access}
use Rattle.acl_text.proofs.EntryByEntry.{access_refused, err_told}
use Rattle.acl_text.proofs.read.Tallies.finish.Goals as goal

pub returns-in_err-access-clause-refused : goal.returns-in_err-access-clause-refused
returns-in_err-access-clause-refused c =
    let a = c.in_err-access.field-0.0 in
    err_told _ c.from_residual.result (fault_of_list a) c.from_residual.ensures.1
    (λ taken are other. access_refused _ c.finish.result a taken c.in_err-access.was (c.finish.ensures.fault (entries_of Access taken) are.access) other)
