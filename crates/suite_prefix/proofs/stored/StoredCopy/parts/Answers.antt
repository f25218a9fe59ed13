use Rattle.suite_prefix.proofs.Vocabulary.{rules, ◌≡◌, ℕ, List, Ok, ap, ◌∙◌, content_bytes, Head, head_at, head_of}
use Rattle.suite_prefix.proofs.Records.{head_again, reads_ok}
use Rattle.suite_prefix.proofs.stored.StoredCopy.parts.Goals as goal

pub unwrap-requires : goal.unwrap-requires
unwrap-requires c =
    let read : head_at c.as_bytes.result.now ≡ Ok (head_of c.args.self.now.copy, content_bytes c.args.self.now.copy.content) = ap head_at c.as_bytes.ensures.bytes
    ∙ head_again c.args.self.now.form c.args.self.now.copy c.as_bytes.ensures.valid c.as_bytes.ensures.held in
    search (rules, read)

pub returns-clause-head : goal.returns-clause-head
returns-clause-head c =
    let read : head_at c.as_bytes.result.now ≡ Ok (head_of c.args.self.now.copy, content_bytes c.args.self.now.copy.content) = ap head_at c.as_bytes.ensures.bytes
    ∙ head_again c.args.self.now.form c.args.self.now.copy c.as_bytes.ensures.valid c.as_bytes.ensures.held in
    ap (λ (x : Head × List ℕ). x.0) (reads_ok _ c.at.result (head_at c.as_bytes.result.now) c.unwrap.result (head_of c.args.self.now.copy, content_bytes c.args.self.now.copy.content) c.at.ensures c.unwrap.ensures read)

pub returns-clause-content : goal.returns-clause-content
returns-clause-content c =
    let read : head_at c.as_bytes.result.now ≡ Ok (head_of c.args.self.now.copy, content_bytes c.args.self.now.copy.content) = ap head_at c.as_bytes.ensures.bytes
    ∙ head_again c.args.self.now.form c.args.self.now.copy c.as_bytes.ensures.valid c.as_bytes.ensures.held in
    ap (λ (x : Head × List ℕ). x.1) (reads_ok _ c.at.result (head_at c.as_bytes.result.now) c.unwrap.result (head_of c.args.self.now.copy, content_bytes c.args.self.now.copy.content) c.at.ensures c.unwrap.ensures read)
