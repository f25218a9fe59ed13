use Rattle.suite_content.proofs.Vocabulary.{◌≡◌, ◌≢◌, sym, ap, subst, ◌∙◌, arith, nat_cmp, IsName, front}
use Rattle.suite_content.proofs.Fronts.{told_apart, same_front, bytes_of_name}
use Rattle.suite_content.proofs.name.NameOrd.cmp.Goals as goal

pub returns-then-front-other_front : goal.returns-then-front-other_front
returns-then-front-other_front c =
    let xs = c.args.self.now in
    let ys = c.args.other.now in
    let left = c.front-front.ensures in
    let right = c.front-other_front.ensures in
    let apart : front 8 xs ≢ front 8 ys = λ same. c.if-front-other_front.true (left.value ∙ same ∙ sym right.value) in
    c.cmp.ensures
    ∙ (λ i. nat_cmp (left.value i) (right.value i))
    ∙ told_apart 8 0 xs ys (bytes_of_name xs left.is_name) (bytes_of_name ys right.is_name) apart

pub order_from-requires-clause-same : goal.order_from-requires-clause-same
order_from-requires-clause-same c =
    let xs = c.as_bytes-bytes.result.now in
    let ys = c.as_bytes-other_bytes.result.now in
    let left = c.as_bytes-bytes.ensures in
    let right = c.as_bytes-other_bytes.ensures in
    let same : front 8 xs ≡ front 8 ys =
    ap (front 8) left.value
    ∙ sym c.front-front.ensures.value
    ∙ c.if-front-other_front.false
    ∙ c.front-other_front.ensures.value
    ∙ ap (front 8) (sym right.value) in
    same_front c.min-same.result 8 0 xs ys
    (bytes_of_name xs (subst IsName (sym left.value) left.is_name))
    (bytes_of_name ys (subst IsName (sym right.value) right.is_name))
    same
    (omega (arith, c.min.ensures, c.min-same.ensures))
    (omega (arith, c.min.ensures, c.min-same.ensures))
    (omega (arith, c.min-same.ensures))
