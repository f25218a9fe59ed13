use Rattle.acl_text.specs.Texts.{readings}
use Rattle.acl_text.proofs.ItemFaults.{told_is_named}
use Rattle.acl_text.proofs.read.read_acl.Goals as goal

pub returns-in-Some-clause-memory : goal.returns-in-Some-clause-memory
returns-in-Some-clause-memory c = λ lacks.
    absurd (told_is_named 1 (readings c.args.text.now c.args.names.now) c.item_fault.result c.in-Some.fault c.item_fault.ensures c.in-Some.is lacks)
