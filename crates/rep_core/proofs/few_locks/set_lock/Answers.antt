use Rattle.rep_core.proofs.Vocabulary.{◌≡◌, ◌<◌, true, false, cond, length, set, ap, sym, ◌∙◌, arith, count_by, Lock, has_lock, raised, raised_lock, with_lock}
use Rattle.std.specs.Prelude.{insert}
use Rattle.rep_core.proofs.Rising.{insert_at_place}
use Rattle.rep_core.proofs.Searching.{stands_before, raised-at}
use Rattle.rep_core.proofs.few_locks.set_lock.Goals as goal

pub returns-then-is_own_at : goal.returns-then-is_own_at
returns-then-is_own_at c =
    let t = c.args.t in
    let suite = c.args.suite in
    let mode = c.args.mode in
    let locks = c.args.locks.now.items in
    let at = c.place_of-at.result in
    let new : Lock = record { t = t; suite = suite; mode = mode; prepared = false } in
    let place : at ≡ count_by (stands_before t suite) locks = c.place_of-at.ensures.place ∙ ap (λ l. count_by (stands_before t suite) l) c.deref.ensures.value in
    let within : at < length locks = omega (arith, c.is_own_at.ensures.within c.if-is_own_at.true, ap length c.deref-2.ensures.value) in
    let has : has_lock t suite locks ≡ true = ap (has_lock t suite) (sym c.deref-2.ensures.value) ∙ sym c.is_own_at.ensures.has ∙ c.if-is_own_at.true in
    ap (λ lock. set locks at lock) (c.raised_lock.ensures ∙ ap (raised_lock t suite mode) c.index-lock.ensures)
    ∙ raised-at t suite mode locks at c.index-lock.result.now c.requires.rising place within
    ∙ sym (ap (λ b. cond b (raised t suite mode locks) (with_lock new locks)) has)

pub returns : goal.returns
returns c =
    let t = c.args.t in
    let suite = c.args.suite in
    let locks = c.args.locks.now.items in
    let new : Lock = record { t = t; suite = suite; mode = c.args.mode; prepared = false } in
    let none : has_lock t suite locks ≡ false = ap (has_lock t suite) (sym c.deref-2.ensures.value) ∙ sym c.is_own_at.ensures.has ∙ c.if-is_own_at.false in
    c.insert_at.ensures
    ∙ ap (λ n. insert locks n new) (c.place_of-at.ensures.place ∙ ap (λ l. count_by (stands_before t suite) l) c.deref.ensures.value)
    ∙ insert_at_place new locks c.requires.rising
    ∙ sym (ap (λ b. cond b (raised t suite c.args.mode locks) (with_lock new locks)) none)
