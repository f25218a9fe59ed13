use Rattle.suite_content.proofs.Vocabulary.{rules, IsName, padded_front}
use Rattle.std.proofs.Math.Seq.{take-append_seam}
use Rattle.suite_content.proofs.name.Name.known.Goals as goal

pub invariant_of-result : goal.invariant_of-result
invariant_of-result c =
    let name : IsName c.args.bytes.now = search rules in
    rw c.copy_from_slice.ensures.after (padded_front c.args.bytes.now name.short, rw take-append_seam name)
