use Rattle.std.proofs.Common.{refl}
use Rattle.acl_text.proofs.Granting.{digits_name}
use Rattle.acl_text.proofs.item.numbered.Goals as goal

pub returns-in-Number : goal.returns-in-Number
returns-in-Number c = rw (digits_name c.args.qualifier.now c.in-Number.ensures.0, c.in-Number.ensures.0, c.in-Number.ensures.1) refl

pub returns-in-TooBig : goal.returns-in-TooBig
returns-in-TooBig c = rw (digits_name c.args.qualifier.now c.in-TooBig.ensures.0, c.in-TooBig.ensures.0, c.in-TooBig.ensures.1) refl
