-- The entries are gone through from the newest on, and each is copied.
use Rattle.weak_cache.proofs.Vocabulary.{◌≡◌, [], ◌∷◌, ◌++◌, length, refl, sym, ap, ◌∙◌, arith, option_copied, Entry, Cache, Slotted, from_on, values}
use Rattle.weak_cache.proofs.Shelving.{from_step, from_newest}
use Rattle.weak_cache.proofs.kept.Kept.copies.Goals as goal
use Rattle.weak_cache.proofs.kept.Kept.copies.Goals.{In_ok-push}

append_on : (a : Cache) (e : Entry) (b : Cache) → (a ++ e ∷ []) ++ b ≡ a ++ e ∷ b
append_on [] e b = refl
append_on (x ∷ a) e b = ap (λ l. x ∷ l) (append_on a e b)

append_none : (a : Cache) → a ≡ a ++ []
append_none [] = refl
append_none (x ∷ a) = ap (λ l. x ∷ l) (append_none a)

-- what is still to come is an entry and what comes after it
step : (c : In_ok-push) → (s : Slotted) × (from_on c.loop-next.next c.args.self.now.shelf.entries ≡ s ∷ from_on c.older-next.result c.args.self.now.shelf.entries) × (s.value ≡ c.in-Some-get.entry.now)
step c =
    let es = c.args.self.now.shelf.entries in
    let f = from_step c.in-Some.slot es c.in-Some-get.entry.now c.is_valid.ensures.once (sym c.get.ensures ∙ ap option_copied c.in-Some-get.is) in
    (f.0, ap (λ o. from_on o es) c.in-Some.is ∙ f.1 ∙ ap (λ o. f.0 ∷ from_on o es) (sym c.older-next.ensures), f.2)

pub loop-next-init : goal.loop-next-init
loop-next-init c =
    let es = c.args.self.now.shelf.entries in
    ap (λ l. l ++ values (from_on c.newest-next.result es)) c.new-copies.ensures.items ∙ ap (λ o. values (from_on o es)) c.newest-next.ensures ∙ ap values (from_newest es)

pub loop-next-smaller : goal.loop-next-smaller
loop-next-smaller c = omega (arith, ap length (step c).1)

pub loop-next-preserved : goal.loop-next-preserved
loop-next-preserved c =
    let es = c.args.self.now.shelf.entries in
    let later = values (from_on c.older-next.result es) in
    let copies = c.loop-next.copies.items in
    let s = step c in
    ap (λ l. l ++ later) c.in_ok-push.ensures.items ∙ append_on copies c.in_ok-clone.field-0 later ∙ ap (λ e. copies ++ e ∷ later) (c.in_ok-clone.ensures.cases ∙ sym s.2)
    ∙ ap (λ l. copies ++ values l) (sym s.1) ∙ c.loop-next.invariant

pub returns : goal.returns
returns c = append_none c.loop-next.copies.items ∙ ap (λ o. c.loop-next.copies.items ++ values (from_on o c.args.self.now.shelf.entries)) (sym c.in_default.is) ∙ c.loop-next.invariant
