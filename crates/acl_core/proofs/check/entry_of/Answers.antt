use Rattle.acl_core.proofs.Vocabulary.{◌≡◌, ℕ, ◌<◌, true, false, cond, [], ◌∷◌, length, get_or, sym, ap, ◌∙◌, rules, arith, get_or_default, IsPartitionPoint-from_clause, Entry, same_tag, precedes}
use Rattle.acl_core.proofs.OneEntry.{tag_lt, tag_lt_is, before_in_front, one_at, none_at_end}
use Rattle.acl_core.proofs.check.entry_of.Goals as goal
use Rattle.acl_core.proofs.check.entry_of.Goals.{else-place-entries-via-then-place-entries+else-eq, else-place-entries-via-else-place-entries}

pub returns-then-eq : goal.returns-then-eq
returns-then-eq c =
    let entries = c.args.entries.now in
    let tag = c.args.tag in
    let place = c.partition_point-place.result in
    let point = IsPartitionPoint-from_clause (λ (e : Entry). tag_lt e.tag tag) entries place c.partition_point-place.ensures.partitioned (before_in_front tag entries c.requires) (λ a r f' k. search rules) in
    let inside : place < length entries = search rules in
    let e = c.index-entries-place.result in
    let same : same_tag (get_or entries place e).tag tag ≡ true = search rules in
    one_at tag entries place e c.requires inside
    (λ k x lt. sym (tag_lt_is _ tag) ∙ point.0 k x (omega arith) lt) (sym (tag_lt_is _ tag) ∙ point.1 place e (omega arith) inside)
    ∙ ap (λ b. cond b (get_or entries place e ∷ []) []) same
    ∙ ap (λ (one : Entry). one ∷ []) (get_or_default entries place e c.index-entries-place-then-eq.result inside ∙ sym c.index-entries-place-then-eq.is)

pub returns-else-place-entries : goal.returns-else-place-entries
returns-else-place-entries c =
    let entries = c.args.entries.now in
    let tag = c.args.tag in
    let place = c.partition_point-place.result in
    let point = IsPartitionPoint-from_clause (λ (e : Entry). tag_lt e.tag tag) entries place c.partition_point-place.ensures.partitioned (before_in_front tag entries c.requires) (λ a r f' k. search rules) in
    let before : (k : ℕ) (x : Entry) → k < place → precedes (get_or entries k x).tag tag ≡ true = λ k x lt. sym (tag_lt_is _ tag) ∙ point.0 k x (omega arith) lt in
    elim c.else-place-entries.branch [
      | else-place-entries-via-then-place-entries+else-eq w ↦
          let e = w.index-entries-place.result in
          let inside : place < length entries = search rules in
          let other : same_tag (get_or entries place e).tag tag ≡ false = search rules in
          one_at tag entries place e c.requires inside before (sym (tag_lt_is _ tag) ∙ point.1 place e (omega arith) inside)
          ∙ ap (λ b. cond b (get_or entries place e ∷ []) []) other
      | else-place-entries-via-else-place-entries w ↦
          none_at_end tag entries (λ k x lt. before k x (omega (arith, w.if-place-entries, c.partition_point-place.ensures.bound)))
    ]
