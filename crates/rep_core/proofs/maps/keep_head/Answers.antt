use Rattle.rep_core.proofs.Vocabulary.{rules, ◌≡◌, ℕ, List, Some, ap, ◌∙◌, nat_cmp, Roomy, get, replace, Kept}
use Rattle.rep_core.proofs.Planned.{replaced_same}
use Rattle.rep_core.proofs.maps.keep_head.Goals as goal

pub returns-in-Some : goal.returns-in-Some
returns-in-Some c =
    let pairs = c.args.copies.now.pairs in
    let suite = c.args.suite in
    let has : get nat_cmp pairs suite ≡ Some c.in-Some.copy.now = search rules in
    let with_pairs : List (ℕ × Kept) → Roomy ℕ Kept = λ pairs. record { pairs = pairs; room = c.args.copies.now.room } in
    ap (λ copy. with_pairs (replace nat_cmp pairs suite copy)) c.keep_head.ensures ∙ ap with_pairs (replaced_same pairs suite c.in-Some.copy.now has)
