use Rattle.std.proofs.Common.{◌≡◌, ℕ, get_or, ap, sym, ◌∙◌, arith}
use Rattle.suite_content.proofs.Fronts.{eight_bytes, kept_at}
use Rattle.suite_content.proofs.name.Name.front.Goals as goal

pub returns-clause-value : goal.returns-clause-value
returns-clause-value c =
    let name = c.args.self.now in
    let array = c.self.inside.array in
    let kept : (k : ℕ) → get_or name k 0 ≡ get_or array k 0 = λ k. ap (λ l. get_or l k 0) (sym c.self.view_is) ∙ kept_at c.self.inside.count array c.self.invariant.0 k in
    omega (arith, eight_bytes name, c.from_be_bytes.ensures, kept 0, kept 1, kept 2, kept 3, kept 4, kept 5, kept 6, kept 7)
