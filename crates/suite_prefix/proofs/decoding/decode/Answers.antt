use Rattle.std.proofs.Common.{arith}
use Rattle.suite_prefix.proofs.Decoded.{never_fails, is_read, is_only, is_explained}
use Rattle.suite_prefix.proofs.Takes.{shape_takes}
use Rattle.suite_prefix.proofs.decoding.decode.Goals as goal

pub returns-in_err-parts-clause-only : goal.returns-in_err-parts-clause-only
returns-in_err-parts-clause-only c = λ copy valid has. absurd (never_fails c.args.bytes.now copy c.in_err-parts.field-0.0 valid has c.in_err-parts.ensures)

pub copy_from-requires : goal.copy_from-requires
copy_from-requires c = (shape_takes c.args.bytes.now (c.in_ok-parts.parts, c.in_ok-parts.rest.now) (λ i. omega (arith, c.type_inv.bytes i)) c.in_ok-parts.ensures).fits

pub returns-clause-bytes : goal.returns-clause-bytes
returns-clause-bytes c =
    is_read c.args.bytes.now c.in_ok-parts.parts c.in_ok-parts.rest.now c.copy_from.result (λ i. omega (arith, c.type_inv.bytes i)) c.in_ok-parts.ensures c.copy_from.ensures.value c.copy_from.ensures.whole

pub returns-clause-only : goal.returns-clause-only
returns-clause-only c = is_only c.args.bytes.now c.in_ok-parts.parts c.in_ok-parts.rest.now c.copy_from.result c.in_ok-parts.ensures c.copy_from.ensures.value c.copy_from.ensures.error

pub returns-clause-error : goal.returns-clause-error
returns-clause-error c =
    is_explained c.args.bytes.now c.in_ok-parts.parts c.in_ok-parts.rest.now c.copy_from.result (λ i. omega (arith, c.type_inv.bytes i)) c.in_ok-parts.ensures c.copy_from.ensures.error
