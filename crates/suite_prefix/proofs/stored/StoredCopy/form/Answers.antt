use Rattle.suite_prefix.proofs.Vocabulary.{rules, ◌≡◌, ◌++◌, ℕ, List, Ok, ap, ◌∙◌, w64, to_be_bytes, Form, content_bytes, prefix_bytes, form_at, Kept}
use Rattle.suite_prefix.proofs.ReadAgain.{form_again}
use Rattle.suite_prefix.proofs.Records.{reads_ok}
use Rattle.suite_prefix.proofs.stored.StoredCopy.form.Goals as goal

-- what stands behind the form
behind : Kept → List ℕ
behind kept = prefix_bytes kept.form kept.copy.prefix ++ to_be_bytes w64 kept.copy.dver ++ content_bytes kept.copy.content

pub unwrap-form-requires : goal.unwrap-form-requires
unfolding behind
unwrap-form-requires c =
    let kept = c.args.self.now in
    let read : form_at c.as_bytes.result.now ≡ Ok (kept.form, behind kept) = ap form_at c.as_bytes.ensures.bytes ∙ form_again kept.form (behind kept) in
    search (rules, read)

pub returns : goal.returns
unfolding behind
returns c =
    let kept = c.args.self.now in
    let read : form_at c.as_bytes.result.now ≡ Ok (kept.form, behind kept) = ap form_at c.as_bytes.ensures.bytes ∙ form_again kept.form (behind kept) in
    ap (λ (x : Form × List ℕ). x.0) (reads_ok _ c.form_at.result (form_at c.as_bytes.result.now) c.unwrap-form.result (kept.form, behind kept) c.form_at.ensures c.unwrap-form.ensures read)
