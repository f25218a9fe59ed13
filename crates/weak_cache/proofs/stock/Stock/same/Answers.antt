-- The entries of both are gone through from the newest on, as long as they are the same.
use Rattle.weak_cache.proofs.Vocabulary.{◌≡◌, ℕ, List, ◌∷◌, length, Option, Some, sym, ap, ◌∙◌, arith, Once, value_of, older_than, Entry, Cache, Slotted, from_on, values, option_map}
use Rattle.weak_cache.proofs.Shelving.{from_step, slots_of}
use Rattle.weak_cache.proofs.stock.Stock.same.Goals as goal

-- what is still to come is an entry and what comes after it
step : (es : List Slotted) (next : Option ℕ) (slot : ℕ) (older : Option ℕ) (entry : Entry) → Once (slots_of es) → next ≡ Some slot
    → older ≡ option_map (λ (s : Slotted). s.slot) (older_than slot es) → value_of slot es ≡ Some entry
    → (s : Slotted) × (from_on next es ≡ s ∷ from_on older es) × (s.value ≡ entry)
step es next slot older entry once at is there =
    let f = from_step slot es entry once there in
    (f.0, ap (λ o. from_on o es) at ∙ f.1 ∙ ap (λ o. f.0 ∷ from_on o es) (sym is), f.2)

come : (es : List Slotted) (next : Option ℕ) (slot : ℕ) (older : Option ℕ) (entry : Entry) → Once (slots_of es) → next ≡ Some slot
    → older ≡ option_map (λ (s : Slotted). s.slot) (older_than slot es) → value_of slot es ≡ Some entry
    → values (from_on next es) ≡ entry ∷ values (from_on older es)
come es next slot older entry once at is there =
    let s = step es next slot older entry once at is there in
    ap values s.1 ∙ ap (λ (e : Entry). e ∷ values (from_on older es)) s.2

pub loop-own_next-smaller : goal.loop-own_next-smaller
loop-own_next-smaller c =
    let same = c.same_at.ensures c.if-not-same_at.false in
    omega (arith, ap length (step c.self.inside.kept.shelf.entries c.loop-own_next.own_next c.in-Some.slot c.older-own_next.result same.entry c.is_valid.ensures.once c.in-Some.is c.older-own_next.ensures same.stands).1)

pub loop-own_next-preserved : goal.loop-own_next-preserved
loop-own_next-preserved c = λ rest.
    let same = c.same_at.ensures c.if-not-same_at.false in
    c.loop-own_next.invariant
    (come c.self.inside.kept.shelf.entries c.loop-own_next.own_next c.in-Some.slot c.older-own_next.result same.entry c.is_valid.ensures.once c.in-Some.is c.older-own_next.ensures same.stands
    ∙ ap (λ (later : Cache). same.entry ∷ later) rest
    ∙ sym (come c.other.inside.kept.shelf.entries c.loop-own_next.their_next c.in-Some-their_next.place c.older-their_next.result same.entry c.is_valid-2.ensures.once c.in-Some-their_next.is c.older-their_next.ensures same.stands_there))
