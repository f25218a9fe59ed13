use Rattle.suite_prefix.proofs.Vocabulary.{rules, ◌≡◌, sym, subst, ap, ◌∙◌, IsOfValid, prefix_of}
use Rattle.suite_prefix.proofs.Records.{is_of_valid, prefix_again}
use Rattle.suite_prefix.proofs.stored.StoredCopy.read_head.Goals as goal

pub prefix-requires : goal.prefix-requires
prefix-requires c = subst IsOfValid (sym c.parts-head.ensures.head) (is_of_valid c.args.self.now.copy c.parts-head.ensures.valid)

pub returns-clause-prefix : goal.returns-clause-prefix
returns-clause-prefix c =
    let is : c.in_ok-shared.shared ≡ prefix_of c.parts-head.result.0 = search rules in
    is ∙ ap prefix_of c.parts-head.ensures.head ∙ prefix_again c.args.self.now.copy c.parts-head.ensures.valid
