use Rattle.suite_prefix.proofs.Vocabulary.{rules, ◌≡◌, ℕ, List, [], Ok, sym, subst, ap, ◌∙◌, IsTrue, Content, content_rises, IsWithin, content_in, content_at, Head}
use Rattle.suite_prefix.proofs.Records.{content_read, content_rises_again, content_within_again, reads_ok}
use Rattle.suite_prefix.proofs.stored.StoredCopy.read_content.Goals as goal

pub unwrap-shape-requires : goal.unwrap-shape-requires
unwrap-shape-requires c =
    let kind : c.head.inside.identity.kind ≡ c.args.self.now.copy.prefix.kind = ap (λ (head : Head). head.identity.kind) (c.head.view_is ∙ c.parts-head.ensures.head) in
    let read : content_at c.head.inside.identity.kind c.parts-head.result.1.now ≡ Ok (c.args.self.now.copy.content, []) =
    ap (λ k. content_at k c.parts-head.result.1.now) kind ∙ ap (content_at c.args.self.now.copy.prefix.kind) c.parts-head.ensures.content ∙ content_read c.args.self.now.copy c.parts-head.ensures.valid in
    search (rules, read)

pub content_from-requires-clause-rises : goal.content_from-requires-clause-rises
content_from-requires-clause-rises c =
    let kind : c.head.inside.identity.kind ≡ c.args.self.now.copy.prefix.kind = ap (λ (head : Head). head.identity.kind) (c.head.view_is ∙ c.parts-head.ensures.head) in
    let read : content_at c.head.inside.identity.kind c.parts-head.result.1.now ≡ Ok (c.args.self.now.copy.content, []) =
    ap (λ k. content_at k c.parts-head.result.1.now) kind ∙ ap (content_at c.args.self.now.copy.prefix.kind) c.parts-head.ensures.content ∙ content_read c.args.self.now.copy c.parts-head.ensures.valid in
    let is : content_in c.unwrap-shape.result.0 ≡ c.args.self.now.copy.content = ap (λ (x : Content × List ℕ). x.0)
    (reads_ok _ c.content_at.result (content_at c.head.inside.identity.kind c.parts-head.result.1.now) c.unwrap-shape.result
    (c.args.self.now.copy.content, []) c.content_at.ensures c.unwrap-shape.ensures read) in
    subst (λ (content : Content). IsTrue (content_rises content)) (sym is) (content_rises_again c.args.self.now.copy.content c.parts-head.ensures.valid.content)

pub content_from-requires-clause-within : goal.content_from-requires-clause-within
content_from-requires-clause-within c =
    let kind : c.head.inside.identity.kind ≡ c.args.self.now.copy.prefix.kind = ap (λ (head : Head). head.identity.kind) (c.head.view_is ∙ c.parts-head.ensures.head) in
    let read : content_at c.head.inside.identity.kind c.parts-head.result.1.now ≡ Ok (c.args.self.now.copy.content, []) =
    ap (λ k. content_at k c.parts-head.result.1.now) kind ∙ ap (content_at c.args.self.now.copy.prefix.kind) c.parts-head.ensures.content ∙ content_read c.args.self.now.copy c.parts-head.ensures.valid in
    let is : content_in c.unwrap-shape.result.0 ≡ c.args.self.now.copy.content = ap (λ (x : Content × List ℕ). x.0)
    (reads_ok _ c.content_at.result (content_at c.head.inside.identity.kind c.parts-head.result.1.now) c.unwrap-shape.result
    (c.args.self.now.copy.content, []) c.content_at.ensures c.unwrap-shape.ensures read) in
    subst IsWithin (sym is) (content_within_again c.args.self.now.copy.content c.parts-head.ensures.valid.content)

pub returns-clause-content : goal.returns-clause-content
returns-clause-content c =
    let kind : c.head.inside.identity.kind ≡ c.args.self.now.copy.prefix.kind = ap (λ (head : Head). head.identity.kind) (c.head.view_is ∙ c.parts-head.ensures.head) in
    let read : content_at c.head.inside.identity.kind c.parts-head.result.1.now ≡ Ok (c.args.self.now.copy.content, []) =
    ap (λ k. content_at k c.parts-head.result.1.now) kind ∙ ap (content_at c.args.self.now.copy.prefix.kind) c.parts-head.ensures.content ∙ content_read c.args.self.now.copy c.parts-head.ensures.valid in
    let is : content_in c.unwrap-shape.result.0 ≡ c.args.self.now.copy.content = ap (λ (x : Content × List ℕ). x.0)
    (reads_ok _ c.content_at.result (content_at c.head.inside.identity.kind c.parts-head.result.1.now) c.unwrap-shape.result
    (c.args.self.now.copy.content, []) c.content_at.ensures c.unwrap-shape.ensures read) in
    let made : c.in_ok-content.content ≡ content_in c.unwrap-shape.result.0 = search rules in
    made ∙ is
