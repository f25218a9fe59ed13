-- The next item of all histories.
use Rattle.run_certify.proofs.Vocabulary.{◌≡◌, ◌≢◌, ⊎_elim, ℕ, ◌<◌, ◌≤◌, List, [], ◌∷◌, length, slice_set, subst, ap, ◌∙◌, sym, arith, if◌then◌else◌, Some, None, cons_option, Item, ItemAt, MayPrecede, IsMerge, IsOrdered, history_of, items_of}
use Rattle.run_certify.proofs.Vocabulary.{IsLeast, at_server}
use Rattle.run_certify.proofs.Lists.{set_here, set_apart, same_or, eq_same, eq_apart, same_head, same_tail, no_cons}

-- ---- items of servers

pub here_of : (server : ℕ) (item : Item) (items : List ItemAt) → items_of server (record { server = server; item = item } ∷ items) ≡ item ∷ items_of server items
here_of server item items = ap (λ b. cons_option (if b then Some item else None) (items_of server items)) (eq_same server)

apart_of : (server other : ℕ) (item : Item) (items : List ItemAt) → other ≢ server → items_of other (record { server = server; item = item } ∷ items) ≡ items_of other items
apart_of server other item items apart = ap (λ b. cons_option (if b then Some item else None) (items_of other items)) (eq_apart server other apart)

-- ---- the order

precede_trans : (a b c : ItemAt) → MayPrecede a b → MayPrecede b c → MayPrecede a c
precede_trans a b c = search arith

-- each before the other is of one server
precede_both : (a b : ItemAt) → MayPrecede a b → MayPrecede b a → a.server ≡ b.server
precede_both a b = search arith

ordered_tail : (one : ItemAt) (later : List ItemAt) → IsOrdered (one ∷ later) → IsOrdered later
ordered_tail one later h2 = search arith

-- the first item of a server stands after what stands before
ordered_has : (one : ItemAt) (later : List ItemAt) (server : ℕ) (item : Item) (rest : List Item) → IsOrdered (one ∷ later) → items_of server later ≡ item ∷ rest → MayPrecede one (at_server server item)
ordered_has one [] server item rest ordered has = absurd (no_cons item rest has)
ordered_has one (next ∷ later) server item rest ordered has = search (same_head, here_of, precede_trans, apart_of, same_or, ordered_has next later server item rest, arith)

-- ---- the next item

pub picks : (histories : List (List Item)) (server : ℕ) (item : Item) (rest : List Item) (items : List ItemAt) → server < length histories → history_of histories server ≡ item ∷ rest → IsLeast histories server item → IsMerge histories items
    → (later : List ItemAt) × (items ≡ at_server server item ∷ later) × IsMerge (slice_set histories server rest) later
picks histories server item rest [] low at least merge = absurd (no_cons item rest (merge.each server ∙ at))
picks histories server item rest (one ∷ later) low at least merge =
    let first : history_of histories one.server ≡ one.item ∷ items_of one.server later = sym (merge.each one.server) ∙ here_of one.server one.item later in
    let before : MayPrecede (at_server server item) one = least one.server one.item (items_of one.server later) first in
    let same : server ≡ one.server = ⊎_elim (λ (e : server ≡ one.server). e)
    (λ (n : server ≢ one.server). precede_both (at_server server item) one before
    (ordered_has one later server item rest merge.ordered (sym (apart_of one.server server one.item later n) ∙ merge.each server ∙ at)))
    (same_or server one.server) in
    let both : item ∷ rest ≡ one.item ∷ items_of one.server later = sym at ∙ ap (λ s. history_of histories s) same ∙ first in
    let is : one ≡ at_server server item = ap (λ s. at_server s one.item) (sym same) ∙ ap (λ i. at_server server i) (sym (same_head item one.item rest _ both)) in (
      later,
      ap (λ o. o ∷ later) is,
      record {
        ordered = ordered_tail one later merge.ordered;
        each = search (slice_set, same_tail, set_here, apart_of, set_apart, same_or, arith);
      },
    )

-- and back
pub picked : (histories : List (List Item)) (server : ℕ) (item : Item) (rest : List Item) (later : List ItemAt) → server < length histories → history_of histories server ≡ item ∷ rest
    → IsLeast (slice_set histories server rest) server item → IsMerge (slice_set histories server rest) later → IsMerge histories (at_server server item ∷ later)
picked histories server item rest later low at least merge = record {
  ordered = first_ordered later merge;
  each = search (here_of, set_here, apart_of, set_apart, same_or, arith);
}
  where
    first_ordered : (later : List ItemAt) → IsMerge (slice_set histories server rest) later → IsOrdered (at_server server item ∷ later)
    first_ordered [] merge = tt
    first_ordered (next ∷ more) merge = (least next.server next.item (items_of next.server more) (sym (merge.each next.server) ∙ here_of next.server next.item more), merge.ordered)

-- a history whose stamps fall has no place in a merge
pub none_falls : (histories : List (List Item)) (server : ℕ) (item next : Item) (rest : List Item) (items : List ItemAt) → server < length histories
    → history_of histories server ≡ item ∷ next ∷ rest → IsLeast histories server item → next.stamp < item.stamp
    → ¬ (IsMerge histories items)
none_falls histories server item next rest items low at least falls merge =
    let one = picks histories server item (next ∷ rest) items low at least merge in
    let ordered : IsOrdered (at_server server item ∷ one.0) = subst (λ xs. IsOrdered xs) one.1 merge.ordered in
    let after = ordered_has (at_server server item) one.0 server next rest ordered (one.2.each server ∙ set_here histories server (next ∷ rest) [] low) in
    ⊎_elim (λ (x : item.stamp < next.stamp). omega arith) (λ (x : (item.stamp ≡ next.stamp) × (server ≤ server)). let e = x.0 in omega arith) after
