use Rattle.run_certify.proofs.Vocabulary.{◌∙◌, ap, sym, List, length, ◌∷◌, slice_set, map, arith, Item}
use Rattle.run_certify.proofs.Least.{taken}
use Rattle.run_certify.proofs.Lists.{first_is, same_head, set_place, tail_of}
use Rattle.run_certify.proofs.Picking.{none_falls}
use Rattle.run_certify.proofs.heads.Heads.next.Goals as goal
use Rattle.run_certify.proofs.heads.Heads.next.Goals.{in-Some-first+else-next-head, in_default-first}

pub returns-then-next-head-clause-mismatch : goal.returns-then-next-head-clause-mismatch
returns-then-next-head-clause-mismatch c = λ _ items merge.
    let head = c.in-Some.head in
    let next = c.in-Some-first.next.now in
    let cut = first_is head.later.now next c.in-Some-first.ensures.item.3.0 c.in-Some-first.ensures.item.3.1 in
    none_falls c.args.self.now head.server head.item.now next (tail_of head.later.now) items c.in-Some.ensures.is.there (c.in-Some.ensures.is.first ∙ ap (λ xs. head.item.now ∷ xs) cut) c.in-Some.ensures.least c.if-next-head.true merge

pub returns-clause-taken : goal.returns-clause-taken
returns-clause-taken c =
    let head = c.in-Some.head in
    let was : List (List Item) = map (λ history. history.now) c.self.inside.histories.items in
    let set = set_place (λ history. history.now) c.self.inside.histories.items head.server head.later ∙ ap (λ hs. slice_set hs head.server head.later.now) c.self.view_is in
    taken c.args.self.now _ head.server head.item.now head.later.now c.in-Some.ensures set (elim c.match-first.branch [
      | in-Some-first+else-next-head w ↦ λ next rest at.
          let cut = first_is head.later.now w.in-Some-first.next.now w.in-Some-first.ensures.item.3.0 w.in-Some-first.ensures.item.3.1 in
          let same = ap (λ (i : Item). i.stamp) (same_head w.in-Some-first.next.now next _ rest (sym cut ∙ at)) in
          let low = w.if-next-head.false in omega arith
      | in_default-first w ↦ λ next rest at. let long = ap length at in let short = w.in_default-first.ensures.item.3 in absurd (omega arith)
    ])
