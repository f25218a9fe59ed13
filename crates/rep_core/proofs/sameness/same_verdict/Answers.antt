use Rattle.std.specs.Option.{option_copied}
use Rattle.std.proofs.Common.{◌≡◌, Some, sym, ◌∙◌, ap, arith}
use Rattle.rep_core.proofs.sameness.same_verdict.Goals as goal

pub returns-then-own-theirs : goal.returns-then-own-theirs
returns-then-own-theirs c = λ yes.
    let own = c.in-Some-Some.own.now in
    let theirs = c.in-Some-Some.theirs.now in
    let value : own.1 ≡ theirs.1 = c.same.ensures yes in
    let key : own.0 ≡ theirs.0 = omega (arith, c.if-own-theirs.true) in
    ap option_copied c.in-Some-Some.is-0 ∙ (λ i. Some (key i, value i)) ∙ sym (ap option_copied c.in-Some-Some.is-1)
