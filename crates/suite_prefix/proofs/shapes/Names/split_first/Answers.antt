use Rattle.suite_prefix.proofs.Vocabulary.{◌≡◌, ◌<◌, sym, ap, ◌∙◌, arith, name_at, names_in}
use Rattle.suite_prefix.proofs.Loop.{none_listed, reads_some, reads_ok, splits_below}
use Rattle.suite_prefix.proofs.shapes.Names.split_first.Goals as goal

pub returns-then-self-eq0 : goal.returns-then-self-eq0
returns-then-self-eq0 c =
    let none : c.self.inside.count ≡ 0 = c.if-self-eq0.true in
    sym c.self.view_is ∙ ap (λ n. names_in n c.self.inside.bytes.now) none ∙ none_listed name_at c.self.inside.bytes.now

pub unwrap-requires : goal.unwrap-requires
unwrap-requires c =
    let some : 0 < c.self.inside.count = omega (arith, c.if-self-eq0.false) in
    reads_some name_at (λ x. ((x.0.0.now, x.0.1), x.1.now)) c.name_at.result c.self.inside.count c.self.inside.bytes.now some c.name_at.ensures c.self.invariant

pub invariant_of-result : goal.invariant_of-result
invariant_of-result c =
    let some : 0 < c.self.inside.count = omega (arith, c.if-self-eq0.false) in
    let read = reads_ok (λ x. ((x.0.0.now, x.0.1), x.1.now)) c.name_at.result (name_at c.self.inside.bytes.now) c.unwrap.result c.unwrap.ensures c.name_at.ensures in
    (splits_below name_at c.self.inside.count c.self.inside.bytes.now (c.unwrap.result.0.0.now, c.unwrap.result.0.1) c.unwrap.result.1.now some read c.self.invariant).1

pub returns : goal.returns
returns c =
    let some : 0 < c.self.inside.count = omega (arith, c.if-self-eq0.false) in
    let read = reads_ok (λ x. ((x.0.0.now, x.0.1), x.1.now)) c.name_at.result (name_at c.self.inside.bytes.now) c.unwrap.result c.unwrap.ensures c.name_at.ensures in
    sym c.self.view_is ∙ (splits_below name_at c.self.inside.count c.self.inside.bytes.now (c.unwrap.result.0.0.now, c.unwrap.result.0.1) c.unwrap.result.1.now some read c.self.invariant).0
