use Rattle.run_certify.proofs.Vocabulary.{◌≡◌, ⊎_elim, List, [], Some, None, ℕ, ◌+◌, ◌<◌, ◌≤◌, length, map, ◌∙◌, sym, subst, rules, MatchOption, Option, Item, history_of, Head, AreAllPlayed, IsFirst, IsFirstBelow, IsNext, Lesser}
use Rattle.run_certify.proofs.Vocabulary.{NoneBelow}
use Rattle.run_certify.proofs.Least.{first_more, kept_empty, kept_more, less_more, next_of_all, none_more, none_of_all}
use Rattle.run_certify.proofs.Lists.{at_place, empty_of, le_or, long_map, there}
use Rattle.run_certify.proofs.heads.Heads.least.Goals as goal
use Rattle.run_certify.proofs.heads.Heads.least.Goals.{in-Some, in_default}

abbrev Is : List (List Item) → ℕ → Option Head → Type 0
Is histories bound least = MatchOption least (NoneBelow bound histories) (λ head. IsFirstBelow bound histories head.server head.item.now head.later.now)

more : (histories : List (List Item)) (least : Option Head) (next result : Head) → Is histories next.server least → IsFirst histories next.server next.item.now next.later.now
    → MatchOption least (result ≡ next) (λ before. Lesser before.item.now.stamp next.item.now.stamp (result ≡ before) (result ≡ next))
    → Is histories (next.server + 1) (Some result)
more histories None next result was is chosen =
    subst (λ (head : Head). IsFirstBelow (next.server + 1) histories head.server head.item.now head.later.now) (sym chosen)
    (first_more histories next.server next.item.now next.later.now was is)
more histories (Some before) next result was is chosen = ⊎_elim
    (λ (l : before.item.now.stamp ≤ next.item.now.stamp).
    subst (λ (head : Head). IsFirstBelow (next.server + 1) histories head.server head.item.now head.later.now) (sym (chosen.keeps l))
    (kept_more histories next.server before.server before.item.now before.later.now next.item.now next.later.now was is.first l))
    (λ (l : next.item.now.stamp < before.item.now.stamp).
    subst (λ (head : Head). IsFirstBelow (next.server + 1) histories head.server head.item.now head.later.now) (sym (chosen.takes l))
    (less_more histories next.server before.server before.item.now before.later.now next.item.now next.later.now was is l))
    (le_or before.item.now.stamp next.item.now.stamp)

no_more : (histories : List (List Item)) (bound : ℕ) (least : Option Head) → Is histories bound least → history_of histories bound ≡ [] → Is histories (bound + 1) least
no_more histories bound None was empty = none_more histories bound was empty
no_more histories bound (Some before) was empty = kept_empty histories bound before.server before.item.now before.later.now was empty

at_end : (histories : List (List Item)) (bound : ℕ) (least : Option Head) → length histories ≤ bound → Is histories bound least → MatchOption least (AreAllPlayed histories) (λ head. IsNext histories head.server head.item.now head.later.now)
at_end histories bound None long was = none_of_all histories bound long was
at_end histories bound (Some head) long was = next_of_all histories bound head.server head.item.now head.later.now long was

pub loop-server-preserved : goal.loop-server-preserved
loop-server-preserved c =
    let items = c.self.inside.histories.items in
    let histories = map (λ history. history.now) items in
    let low : c.loop-server.server < length items = search rules in
    let here = at_place (λ history. history.now) items c.loop-server.server c.index-history.result.now low (sym c.index-history.ensures) in
    elim c.match-split_first.branch [
      | in-Some w ↦ subst (λ least. Is histories (c.loop-server.server + 1) least) (sym w.least-is)
          (more histories c.loop-server.least (record { server = c.loop-server.server; item = w.in-Some.item; later = w.in-Some.later }) w.lesser.result c.loop-server.invariant
          (record { there = there (λ history. history.now) items c.loop-server.server low; first = here ∙ w.in-Some.ensures.cases.0 }) w.lesser.ensures)
      | in_default w ↦ subst (λ least. Is histories (c.loop-server.server + 1) least) (sym w.least-is)
          (no_more histories c.loop-server.server c.loop-server.least c.loop-server.invariant (here ∙ empty_of c.index-history.result.now.now w.in_default.ensures.cases))
    ]

pub returns : goal.returns
returns c = subst (λ (histories : List (List Item)). MatchOption c.loop-server.least (AreAllPlayed histories) (λ head. IsNext histories head.server head.item.now head.later.now)) c.self.view_is
    (at_end (map (λ history. history.now) c.self.inside.histories.items) c.loop-server.server c.loop-server.least (let long = long_map (λ history. history.now) c.self.inside.histories.items in search (rules, long)) c.loop-server.invariant)
