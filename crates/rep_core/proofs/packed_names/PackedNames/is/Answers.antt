use Rattle.rep_core.proofs.Vocabulary.{◌≡◌, length, sym, ap, ◌∙◌, arith, rules, with_commas, parts}
use Rattle.rep_core.proofs.PackedNames.{as_many_parts}
use Rattle.rep_core.proofs.packed_names.PackedNames.is.Goals as goal

pub returns-then-self-len : goal.returns-then-self-len
returns-then-self-len c = λ yes.
    let names = c.args.list.now in
    let text : c.self.inside.text ≡ c.args.text.now = search rules in
    let count : c.self.inside.count ≡ length names = omega (arith, c.if-self-len.true, c.len.ensures) in
    let many : length (parts (with_commas names)) ≡ length names = ap (λ t. length (parts t)) (sym (text ∙ c.requires.text)) ∙ sym c.self.invariant.0 ∙ count in
    sym c.self.view_is ∙ ap parts (text ∙ c.requires.text) ∙ as_many_parts names c.requires.some many
