use Rattle.rep_core.proofs.Vocabulary.{◌≡◌, sym, ◌∙◌, ap, unsigned_Decides}
use Rattle.std.specs.Cmp.Lexicographic.{pointwise_decides}
use Rattle.suite_prefix.specs.Bytes.{bytes_in}
use Rattle.suite_prefix.specs.code.Records.{kept_in}
use Rattle.suite_prefix.proofs.Records.{kept_again}
use Rattle.rep_core.proofs.sameness.same_bytes.Goals as goal

pub returns : goal.returns
returns c = λ yes.
    let own = c.args.own.now in
    let theirs = c.args.theirs.now in
    let bytes : c.as_bytes.result.now ≡ c.as_bytes-2.result.now = (pointwise_decides unsigned_Decides c.as_bytes.result.now c.as_bytes-2.result.now).0 (sym c.eq.ensures ∙ yes) in
    let same : bytes_in own.form own.copy ≡ bytes_in theirs.form theirs.copy = sym c.as_bytes.ensures.bytes ∙ bytes ∙ c.as_bytes-2.ensures.bytes in
    sym (kept_again own.form own.copy c.as_bytes.ensures.valid c.as_bytes.ensures.held) ∙ ap kept_in same ∙ kept_again theirs.form theirs.copy c.as_bytes-2.ensures.valid c.as_bytes-2.ensures.held
