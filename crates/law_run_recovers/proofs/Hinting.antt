-- What a cache hints of a suite after another was put: what it did before, or nothing.
use Rattle.law_run_recovers.proofs.Vocabulary.{◌≡◌, ℕ, Bool, true, false, cond, [], ◌∷◌, Some, None, refl, sym, ap, ◌∙◌, arith, ◌==◌, ◌-◌, ◌&&◌, nat_le, nat_lt, false≢true, and_parts, none-some, same_Some, Prefix, find_some, Entry, Cache, is_at}
use Rattle.law_run_recovers.proofs.Vocabulary.{is_of, size_of, entry_of, without, forgotten, Limits, hint, put, within_quota, within_budget, forgotten_has}

module _ (site z : ℕ) where
  -- what is found in one is found in the other
  abbrev Finds : Cache → Cache → Type 0
  Finds less more = (entry : Entry) → entry_of less site z ≡ Some entry → entry_of more site z ≡ Some entry

  finds_after : (e : Entry) (less more : Cache) → Finds less more → Finds (e ∷ less) (e ∷ more)
  finds_after e less more finds entry = search arith

  finds_past : (e : Entry) (less more : Cache) → is_of site z e ≡ false → Finds less more → Finds (e ∷ less) more
  finds_past e less more other finds entry is = finds entry (sym (ap (λ b. cond b (Some e) (entry_of less site z)) other) ∙ is)

  none_forgotten : (c more : Cache) → Finds (forgotten site c) more
  none_forgotten c more entry is =
      let found = find_some (is_of site z) (forgotten site c) entry is in
      absurd (false≢true (sym (forgotten_has site c entry found.0).1 ∙ (and_parts (entry.site == site) (entry.suite == z) found.1).0))

  finds_quota : (room : ℕ) (c : Cache) → Finds (within_quota site room c) c
  finds_quota room [] = λ entry is. is
  finds_quota room (e ∷ c) = of (is_at site e) (nat_le (size_of e.content) room) (finds_quota (room - size_of e.content) c) (finds_quota room c)
    where
      of : (at fits : Bool) → Finds (within_quota site (room - size_of e.content) c) c → Finds (within_quota site room c) c
          → Finds (cond at (cond fits (e ∷ within_quota site (room - size_of e.content) c) (forgotten site c)) (e ∷ within_quota site room c)) (e ∷ c)
      of true true here there = finds_after e (within_quota site (room - size_of e.content) c) c here
      of true false here there = none_forgotten c (e ∷ c)
      of false fits here there = finds_after e (within_quota site room c) c there

  finds_budget : (room slots : ℕ) (c : Cache) → Finds (within_budget room slots c) c
  finds_budget room slots [] = λ entry is. is
  finds_budget room slots (e ∷ c) = of (nat_le (size_of e.content) room && nat_lt 0 slots) (finds_budget (room - size_of e.content) (slots - 1) c)
    where
      of : (fits : Bool) → Finds (within_budget (room - size_of e.content) (slots - 1) c) c → Finds (cond fits (e ∷ within_budget (room - size_of e.content) (slots - 1) c) []) (e ∷ c)
      of fits h1 = search (finds_after, none-some, arith)

  module _ (number : ℕ) (apart : (number == z) ≡ false) where
    not_both : (e : Entry) → is_of site number e ≡ true → is_of site z e ≡ false
    not_both e is = search arith

    finds_without : (c : Cache) → Finds (without site number c) c
    finds_without [] = λ entry is. is
    finds_without (e ∷ c) = search (not_both, finds_after, finds_without c, arith)

    module _ (limits : Limits) (new : Entry) (at : new.site ≡ site) (of_it : new.suite ≡ number) where
      not_new : is_of site z new ≡ false
      not_new = search arith

      finds_put : (c : Cache) → Finds (put limits new c) c
      finds_put c = search (finds_past, not_new, finds_without, finds_quota, finds_budget, arith)

      pub hint_put : (c : Cache) (prefix : Prefix) → hint (put limits new c) site z ≡ Some prefix → hint c site z ≡ Some prefix
      hint_put c prefix = search (none-some, finds_put, arith)

-- of the suite that was put it hints the prefix that was put, or nothing
module _ (limits : Limits) (new : Entry) where
  same_itself : is_of new.site new.suite new ≡ true
  same_itself = search arith

  none_without : (c : Cache) → entry_of (without new.site new.suite c) new.site new.suite ≡ None
  none_without [] = refl
  none_without (e ∷ c) = search (none_without c, arith)

  finds_new : (c : Cache) (entry : Entry) → entry_of (put limits new c) new.site new.suite ≡ Some entry → new ≡ entry
  finds_new c entry = search (finds_quota, finds_budget, same_Some, same_itself, none-some, none_without, arith)

  pub hint_put_here : (c : Cache) (prefix : Prefix) → hint (put limits new c) new.site new.suite ≡ Some prefix → prefix ≡ new.prefix
  hint_put_here c prefix = search (none-some, same_Some, finds_new, arith)
