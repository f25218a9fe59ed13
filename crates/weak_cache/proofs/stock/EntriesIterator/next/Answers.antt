use Rattle.weak_cache.proofs.Vocabulary.{◌≡◌, ℕ, ◌∷◌, List, length, sym, ap, ◌∙◌, arith, option_copied, Entry, keys_of, Slotted, from_on, values}
use Rattle.weak_cache.proofs.Shelving.{from_step, from_none}
use Rattle.weak_cache.proofs.stock.EntriesIterator.next.Goals as goal
use Rattle.weak_cache.proofs.stock.EntriesIterator.next.Goals.{After-key}

pub returns-in_err-entry-clause-steps : goal.returns-in_err-entry-clause-steps
returns-in_err-entry-clause-steps c =
    let es = c.self.inside.shelf.now.entries in
    let none = sym c.self.view_is ∙ ap (λ o. keys_of (values (from_on o es))) c.in_ok-slot.was ∙ ap (λ l. keys_of (values l)) (from_none c.in_ok-slot.slot es (sym c.get.ensures ∙ ap option_copied c.in_err-entry.was)) in
    rw c.from_residual-in_err-entry.ensures (none, none)

next_key : (c : After-key) → c.args.self.now ≡ c.key.result ∷ keys_of (values (from_on c.older-self-inside.result c.self.inside.shelf.now.entries))
next_key c =
    let es = c.self.inside.shelf.now.entries in
    let s = from_step c.in_ok-slot.slot es c.in_ok-entry.entry.now c.self.invariant.once (sym c.get.ensures ∙ ap option_copied c.in_ok-entry.was) in
    sym c.self.view_is ∙ ap (λ o. keys_of (values (from_on o es))) c.in_ok-slot.was ∙ ap (λ (l : List Slotted). keys_of (values l)) (s.1 ∙ ap (λ o. s.0 ∷ from_on o es) (sym c.older-self-inside.ensures))
    ∙ ap (λ (e : Entry). (e.site, e.suite) ∷ keys_of (values (from_on c.older-self-inside.result es))) s.2
    ∙ ap (λ (k : ℕ × ℕ). k ∷ keys_of (values (from_on c.older-self-inside.result es))) (sym c.key.ensures)

pub returns-clause-steps : goal.returns-clause-steps
returns-clause-steps c = next_key (goal.at.returns-clause-steps c).After-key

pub returns-clause-goes : goal.returns-clause-goes
returns-clause-goes c =
    let n = next_key (goal.at.returns-clause-goes c).After-key in
    record { on = λ finite. (tt, tt, omega (arith, ap length n)); keeps = tt; rests = λ finite. tt }
