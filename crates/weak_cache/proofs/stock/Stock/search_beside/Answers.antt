-- The entries are gone through from the newest on: what is still to come is judged by the room that is left.
use Rattle.weak_cache.proofs.Vocabulary.{◌≡◌, ℕ, ◌-◌, ◌<◌, ◌≤◌, ◌⊎◌, inl, inr, false, not, cond, [], ◌∷◌, length, Option, Some, None, sym, ap, ◌∙◌, arith, option_copied, Entry, Cache, size_of, is_of, entry_of, without, within_budget, stays}
use Rattle.weak_cache.proofs.Vocabulary.{room_after, Slotted, from_on, values}
use Rattle.weak_cache.proofs.Beside.{within_room, walk_own, walk_past, walk_gone, walk_kept, walk_other, walk_ends, walk_on, no_room, some_room, nothing_left}
use Rattle.weak_cache.proofs.Shelving.{from_step, from_none}
use Rattle.weak_cache.proofs.stock.Stock.search_beside.Goals as goal
use Rattle.weak_cache.proofs.stock.Stock.search_beside.Goals.{After-older-next, then-is_at+else-is_none, else-is_at, then-slots-eq0-via-then-slots-eq0, then-slots-eq0-via-else-slots-eq0+then-budget-size}

-- what is still to come
step : (c : After-older-next) → (s : Slotted) × (from_on c.loop-next.next c.self.inside.kept.shelf.entries ≡ s ∷ from_on c.older-next.result c.self.inside.kept.shelf.entries) × (s.value ≡ c.in-Some-get.entry.now)
step c =
    let es = c.self.inside.kept.shelf.entries in
    let f = from_step c.in-Some.slot es c.in-Some-get.entry.now c.is_valid.ensures.once (sym c.get.ensures ∙ ap option_copied c.in-Some-get.is) in
    (f.0, ap (λ o. from_on o es) c.in-Some.is ∙ f.1 ∙ ap (λ o. f.0 ∷ from_on o es) (sym c.older-next.ensures), f.2)

come : (c : After-older-next) → values (from_on c.loop-next.next c.self.inside.kept.shelf.entries) ≡ c.in-Some-get.entry.now ∷ values (from_on c.older-next.result c.self.inside.kept.shelf.entries)
come c = let s = step c in ap values s.1 ∙ ap (λ (e : Entry). e ∷ values (from_on c.older-next.result c.self.inside.kept.shelf.entries)) s.2

smaller : (c : After-older-next) → length (from_on c.older-next.result c.self.inside.kept.shelf.entries) < length (from_on c.loop-next.next c.self.inside.kept.shelf.entries)
smaller c = omega (arith, ap length (step c).1)

abbrev rest : After-older-next → Cache
rest c = without c.args.new.site c.args.new.suite (values (from_on c.older-next.result c.self.inside.kept.shelf.entries))

-- what an entry that is not of the key that is put leaves of the quota
abbrev Leaves : After-older-next → Option ℕ → Type 0
Leaves c quota = within_room c.args.new.site c.loop-next.quota (c.in-Some-get.entry.now ∷ rest c) ≡ c.in-Some-get.entry.now ∷ within_room c.args.new.site quota (rest c)

abbrev IsOther : After-older-next → Type 0
IsOther c = is_of c.args.new.site c.args.new.suite c.in-Some-get.entry.now ≡ false

goes_on : (c : After-older-next) → IsOther c → (quota : Option ℕ) → Leaves c quota
    → within_room c.args.new.site c.loop-next.quota (without c.args.new.site c.args.new.suite (values (from_on c.loop-next.next c.self.inside.kept.shelf.entries))) ≡ c.in-Some-get.entry.now ∷ within_room c.args.new.site quota (rest c)
goes_on c other quota leaves =
    let n = c.args.new in
    ap (λ l. within_room n.site c.loop-next.quota (without n.site n.suite l)) (come c)
    ∙ ap (within_room n.site c.loop-next.quota) (walk_past n.site n.suite c.in-Some-get.entry.now (values (from_on c.older-next.result c.self.inside.kept.shelf.entries)) other)
    ∙ leaves

pub returns-in_default-get : goal.returns-in_default-get
returns-in_default-get c =
    let n = c.args.new in
    let es = c.self.inside.kept.shelf.entries in
    let none : from_on c.loop-next.next es ≡ [] = ap (λ o. from_on o es) c.in-Some.is ∙ from_none c.in-Some.slot es (sym c.get.ensures ∙ ap option_copied c.in_default-get.is) in
    nothing_left c.args.site c.args.suite n.site c.loop-next.budget c.loop-next.slots c.loop-next.quota
    ∙ sym (ap (λ l. entry_of (within_budget c.loop-next.budget c.loop-next.slots (within_room n.site c.loop-next.quota (without n.site n.suite (values l)))) c.args.site c.args.suite) none)
    ∙ c.loop-next.invariant ∙ ap (λ l. entry_of (stays n.site n.suite n.quota n.budget n.slots l) c.args.site c.args.suite) c.self.view_is

pub loop-next-smaller-then-is_of : goal.loop-next-smaller-then-is_of
loop-next-smaller-then-is_of c = smaller (goal.at.loop-next-smaller-then-is_of c).After-older-next

pub loop-next-preserved-then-is_of : goal.loop-next-preserved-then-is_of
loop-next-preserved-then-is_of c =
    let n = c.args.new in
    let to_come = come (goal.at.loop-next-preserved-then-is_of c).After-older-next in
    sym (ap (λ l. entry_of (within_budget c.loop-next.budget c.loop-next.slots (within_room n.site c.loop-next.quota (without n.site n.suite l))) c.args.site c.args.suite) to_come
    ∙ ap (λ l. entry_of (within_budget c.loop-next.budget c.loop-next.slots (within_room n.site c.loop-next.quota l)) c.args.site c.args.suite)
    (walk_own n.site n.suite c.in-Some-get.entry.now (values (from_on c.older-next.result c.self.inside.kept.shelf.entries)) (sym c.is_of.ensures ∙ c.if-is_of.true)))
    ∙ c.loop-next.invariant

pub loop-next-smaller-then-is_none : goal.loop-next-smaller-then-is_none
loop-next-smaller-then-is_none c = smaller (goal.at.loop-next-smaller-then-is_none c).After-older-next

pub loop-next-preserved-then-is_none : goal.loop-next-preserved-then-is_none
loop-next-preserved-then-is_none c =
    let n = c.args.new in
    let e = c.in-Some-get.entry.now in
    let a = (goal.at.loop-next-preserved-then-is_none c).After-older-next in
    let none : c.quota_after-quota.result ≡ None = no_room c.quota_after-quota.result (c.is_none.ensures ∙ ap not c.if-is_none.true) in
    let left = walk_gone n.site e (rest a) c.loop-next.quota (sym c.is_at.ensures ∙ c.if-is_at.true) (sym (ap (room_after c.loop-next.quota) c.size.ensures) ∙ sym c.quota_after-quota.ensures ∙ none) in
    sym (ap (λ l. entry_of (within_budget c.loop-next.budget c.loop-next.slots (within_room n.site c.loop-next.quota (without n.site n.suite l))) c.args.site c.args.suite) (come a)
    ∙ ap (λ l. entry_of (within_budget c.loop-next.budget c.loop-next.slots (within_room n.site c.loop-next.quota l)) c.args.site c.args.suite)
    (walk_past n.site n.suite e (values (from_on c.older-next.result c.self.inside.kept.shelf.entries)) (sym c.is_of.ensures ∙ c.if-is_of.false))
    ∙ ap (λ l. entry_of (within_budget c.loop-next.budget c.loop-next.slots l) c.args.site c.args.suite) (left ∙ ap (λ q. within_room n.site q (rest a)) (sym none)))
    ∙ c.loop-next.invariant

pub returns-then-slots-eq0 : goal.returns-then-slots-eq0
returns-then-slots-eq0 c =
    let n = c.args.new in
    let e = c.in-Some-get.entry.now in
    let a = (goal.at.returns-then-slots-eq0 c).After-older-next in
    let leaves : Leaves a c.if-is_at.quota = elim c.if-is_at.branch [
      | then-is_at+else-is_none w ↦ walk_kept n.site e (rest a) c.loop-next.quota c.if-is_at.quota (sym c.is_at.ensures ∙ w.if-is_at.true)
          (sym (w.quota-is ∙ w.quota_after-quota.ensures ∙ ap (room_after c.loop-next.quota) w.size.ensures)) (λ none. some_room w.quota_after-quota.result (w.is_none.ensures ∙ ap not w.if-is_none.false) (sym w.quota-is ∙ none))
      | else-is_at w ↦ walk_other n.site e (rest a) c.loop-next.quota (sym c.is_at.ensures ∙ w.if-is_at.false) ∙ ap (λ q. e ∷ within_room n.site q (rest a)) (sym w.quota-is)
    ] in
    let ends : (c.loop-next.slots ≡ 0) ⊎ (c.loop-next.budget < size_of e.content) = elim c.then-slots-eq0.branch [
      | then-slots-eq0-via-then-slots-eq0 w ↦ inl w.if-slots-eq0.true
      | then-slots-eq0-via-else-slots-eq0+then-budget-size w ↦ inr (omega (arith, w.if-budget-size.true, w.size-else-slots-eq0.ensures))
    ] in
    sym (sym c.loop-next.invariant ∙ ap (λ l. entry_of (within_budget c.loop-next.budget c.loop-next.slots l) c.args.site c.args.suite) (goes_on a (sym c.is_of.ensures ∙ c.if-is_of.false) c.if-is_at.quota leaves)
    ∙ walk_ends c.args.site c.args.suite c.loop-next.budget c.loop-next.slots e (within_room n.site c.if-is_at.quota (rest a)) ends)
    ∙ ap (λ l. entry_of (stays n.site n.suite n.quota n.budget n.slots l) c.args.site c.args.suite) c.self.view_is

-- where the budget and the slots have room
judged : (c : After-older-next) → IsOther c → (quota : Option ℕ) → Leaves c quota → (c.loop-next.slots ≡ 0 → ⊥) → size_of c.in-Some-get.entry.now.content ≤ c.loop-next.budget
    → cond (is_of c.args.site c.args.suite c.in-Some-get.entry.now) (Some c.in-Some-get.entry.now)
    (entry_of (within_budget (c.loop-next.budget - size_of c.in-Some-get.entry.now.content) (c.loop-next.slots - 1) (within_room c.args.new.site quota (rest c))) c.args.site
    c.args.suite)
    ≡ entry_of (stays c.args.new.site c.args.new.suite c.args.new.quota c.args.new.budget c.args.new.slots (values c.self.inside.kept.shelf.entries)) c.args.site c.args.suite
judged c other quota leaves some fits =
    sym (walk_on c.args.site c.args.suite c.loop-next.budget c.loop-next.slots c.in-Some-get.entry.now (within_room c.args.new.site quota (rest c)) some fits)
    ∙ sym (ap (λ l. entry_of (within_budget c.loop-next.budget c.loop-next.slots l) c.args.site c.args.suite) (goes_on c other quota leaves)) ∙ c.loop-next.invariant

pub returns-then-is_of-2 : goal.returns-then-is_of-2
returns-then-is_of-2 c =
    let n = c.args.new in
    let e = c.in-Some-get.entry.now in
    let a = (goal.at.returns-then-is_of-2 c).After-older-next in
    let leaves : Leaves a c.if-is_at.quota = elim c.if-is_at.branch [
      | then-is_at+else-is_none w ↦ walk_kept n.site e (rest a) c.loop-next.quota c.if-is_at.quota (sym c.is_at.ensures ∙ w.if-is_at.true)
          (sym (w.quota-is ∙ w.quota_after-quota.ensures ∙ ap (room_after c.loop-next.quota) w.size.ensures)) (λ none. some_room w.quota_after-quota.result (w.is_none.ensures ∙ ap not w.if-is_none.false) (sym w.quota-is ∙ none))
      | else-is_at w ↦ walk_other n.site e (rest a) c.loop-next.quota (sym c.is_at.ensures ∙ w.if-is_at.false) ∙ ap (λ q. e ∷ within_room n.site q (rest a)) (sym w.quota-is)
    ] in
    let j = judged a (sym c.is_of.ensures ∙ c.if-is_of.false) c.if-is_at.quota leaves c.if-slots-eq0.false (omega (arith, c.if-budget-size.false, c.size-else-slots-eq0.ensures)) in
    sym
    (ap (λ t. cond t (Some e) (entry_of (within_budget (c.loop-next.budget - size_of e.content) (c.loop-next.slots - 1) (within_room n.site c.if-is_at.quota (rest a)))
    c.args.site c.args.suite)) (sym c.is_of-in-Some.ensures ∙ c.if-is_of-2.true))
    ∙ j ∙ ap (λ l. entry_of (stays n.site n.suite n.quota n.budget n.slots l) c.args.site c.args.suite) c.self.view_is

pub loop-next-smaller : goal.loop-next-smaller
loop-next-smaller c = smaller (goal.at.loop-next-smaller c).After-older-next

pub loop-next-preserved : goal.loop-next-preserved
loop-next-preserved c =
    let n = c.args.new in
    let e = c.in-Some-get.entry.now in
    let a = (goal.at.loop-next-preserved c).After-older-next in
    let leaves : Leaves a c.if-is_at.quota = elim c.if-is_at.branch [
      | then-is_at+else-is_none w ↦ walk_kept n.site e (rest a) c.loop-next.quota c.if-is_at.quota (sym c.is_at.ensures ∙ w.if-is_at.true)
          (sym (w.quota-is ∙ w.quota_after-quota.ensures ∙ ap (room_after c.loop-next.quota) w.size.ensures)) (λ none. some_room w.quota_after-quota.result (w.is_none.ensures ∙ ap not w.if-is_none.false) (sym w.quota-is ∙ none))
      | else-is_at w ↦ walk_other n.site e (rest a) c.loop-next.quota (sym c.is_at.ensures ∙ w.if-is_at.false) ∙ ap (λ q. e ∷ within_room n.site q (rest a)) (sym w.quota-is)
    ] in
    let j = judged a (sym c.is_of.ensures ∙ c.if-is_of.false) c.if-is_at.quota leaves c.if-slots-eq0.false (omega (arith, c.if-budget-size.false, c.size-else-slots-eq0.ensures)) in
    ap (λ size. entry_of (within_budget (c.loop-next.budget - size) (c.loop-next.slots - 1) (within_room n.site c.if-is_at.quota (rest a))) c.args.site c.args.suite) c.size-budget.ensures
    ∙ sym
    (ap (λ t. cond t (Some e) (entry_of (within_budget (c.loop-next.budget - size_of e.content) (c.loop-next.slots - 1) (within_room n.site c.if-is_at.quota (rest a)))
    c.args.site c.args.suite)) (sym c.is_of-in-Some.ensures ∙ c.if-is_of-2.false))
    ∙ j
