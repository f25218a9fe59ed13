-- How many items histories have.
use Rattle.suite_serve.proofs.Vocabulary.{arith, ◌*◌, ◌^◌, ◌<◌, ◌≤◌, List, [], ◌∷◌, length, All, All-head, All-tail, IsAccepted, Opening, Item, AreOf}
use Rattle.suite_serve.proofs.Vocabulary.{max_items, items_in}

few_each : (histories : List (List Item)) → All (λ (history : List Item). length history ≤ max_items) histories → items_in histories ≤ length histories * max_items
few_each [] few = omega arith
few_each (history ∷ histories) few =
    let one = All-head (λ (h : List Item). length h ≤ max_items) history histories few in
    let more = few_each histories (All-tail (λ (h : List Item). length h ≤ max_items) history histories few) in
    omega arith

pub few_items : (given : Opening) (histories : List (List Item)) → IsAccepted given → AreOf given histories → items_in histories < 2 ^ 64
few_items given histories accepted of =
    let few = few_each histories of.legal.few in
    let each = of.each in
    let servers = accepted.some_servers.1 in
    omega arith
