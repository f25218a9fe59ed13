use Rattle.rep_core.proofs.Vocabulary.{ap, sym, ◌∙◌, ◌+◌, first_from, holder_cmp, of_first}
use Rattle.rep_core.proofs.FirstHolders.{first_of_others}
use Rattle.rep_core.proofs.holders.first_other.Goals as goal

pub returns-in-Some : goal.returns-in-Some
returns-in-Some c =
    let t = c.args.t in
    let suite = c.args.suite in
    let holders = c.args.holders.now.pairs in
    let next = first_from holder_cmp (suite, t + 1) holders in
    c.first_or_next.ensures ∙ ap (λ first. of_first t suite first next) c.in-Some.ensures.first ∙ sym (first_of_others t suite holders c.first_from.ensures.ordered)

pub returns-in-None : goal.returns-in-None
returns-in-None c =
    let t = c.args.t in
    let suite = c.args.suite in
    let holders = c.args.holders.now.pairs in
    let next = first_from holder_cmp (suite, t + 1) holders in
    ap (λ first. of_first t suite first next) c.in-None.ensures.first ∙ sym (first_of_others t suite holders c.first_from.ensures.ordered)
