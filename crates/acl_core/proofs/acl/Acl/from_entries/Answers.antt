use Rattle.acl_core.proofs.Faults.{accepted_iff}
use Rattle.acl_core.proofs.acl.Acl.from_entries.Goals as goal

pub returns-in_default-clause-accepted : goal.returns-in_default-clause-accepted
returns-in_default-clause-accepted c = accepted_iff c.args.entries.now
