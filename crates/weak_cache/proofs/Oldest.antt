-- The oldest entries on a shelf, as they go.
use Rattle.weak_cache.proofs.Vocabulary.{◌≡◌, ℕ, ◌+◌, ◌≤◌, ◌<◌, Bool, true, List, [], ◌∷◌, ◌++◌, length, map, Some, None, inl, inr, refl, sym, ap, ◌∙◌, subst, arith, ne_eqb, length-append, eq-eqb, filter, option_map, filter-append, In, Once, last_of}
use Rattle.weak_cache.proofs.Vocabulary.{value_of, Entry, Cache, is_of, list_of, entry_of, size_of, sum_of, Slotted, values, Sited}
use Rattle.recency.specs.Shelf.{without}
use Rattle.recency.specs.Shelf as shelf
use Rattle.weak_cache.proofs.Keeping.{EndsAt, sum_of-append}
use Rattle.weak_cache.proofs.Shelving.{slots_of, oldest_cut, oldest_cut_of, none_oldest_of, values_append, sited_between, site_behind, list_is, count_between, none_found}

-- the oldest entry of a site
pub record OldestAt (site slot : ℕ) (shelved : List Slotted) : Type 0 where
  pub newer : Cache
  pub entry : Entry
  pub older : Cache
  pub there : value_of slot shelved ≡ Some entry
  pub ends : EndsAt site (values shelved) newer entry older
  pub left : values (without slot shelved) ≡ newer ++ older
  pub fewer : length (without slot shelved) < length shelved

pub oldest_at : (site slot : ℕ) (shelved : List Slotted) → Once (slots_of shelved) → Sited shelved → option_map (λ (s : Slotted). s.slot) (last_of (shelf.of_site site shelved)) ≡ Some slot → OldestAt site slot shelved
oldest_at site slot shelved once sited is =
    let o = oldest_cut_of site slot shelved once is in
    let whole : Sited (o.0 ++ o.1 ∷ o.2) = subst Sited o.3.parts sited in
    record {
      newer = values o.0;
      entry = o.1.value;
      older = values o.2;
      there = ap (option_map (λ (s : Slotted). s.value)) o.3.found;
      ends = record {
        parts = ap values o.3.parts ∙ values_append o.0 (o.1 ∷ o.2);
        own = eq-eqb o.1.value.site site (sym (sited_between o.0 o.1 o.2 whole).0 ∙ o.4);
        last = list_is site o.2 (site_behind o.0 o.1 o.2 whole) ∙ ap values o.5;
      };
      left = ap values o.3.rest ∙ values_append o.0 o.2;
      fewer = omega (arith, ap length o.3.rest, ap length o.3.parts, length-append o.0 o.2, length-append o.0 (o.1 ∷ o.2));
    }

pub none_at : (site : ℕ) (shelved : List Slotted) → Sited shelved → option_map (λ (s : Slotted). s.slot) (last_of (shelf.of_site site shelved)) ≡ None → list_of site (values shelved) ≡ []
none_at site shelved sited is = list_is site shelved sited ∙ ap values (none_oldest_of site shelved is)

-- a site that no entry is of
no_site : (site : ℕ) (shelved : List Slotted) → (In site (map (λ (s : Slotted). s.site) shelved) → ⊥) → shelf.of_site site shelved ≡ []
no_site site [] out = refl
no_site site (s ∷ shelved) out = rw (ne_eqb s.site site (λ e. out (inl (sym e)))) (no_site site shelved (λ i. out (inr i)))

pub none_beyond : (site : ℕ) (shelved : List Slotted) → Sited shelved → ((n : ℕ) → In n (map (λ (s : Slotted). s.site) shelved) → n < 16) → 16 ≤ site → list_of site (values shelved) ≡ []
none_beyond site shelved sited below above = list_is site shelved sited ∙ ap values (no_site site shelved (λ i. let b = below site i in omega (arith, b, above)))

-- the oldest entry of all
pub record OldestOfAll (slot : ℕ) (shelved : List Slotted) : Type 0 where
  pub newer : List Slotted
  pub last : Slotted
  pub there : value_of slot shelved ≡ Some last.value
  pub parts : shelved ≡ newer ++ last ∷ []
  pub left : without slot shelved ≡ newer ++ []
  pub fewer : length (without slot shelved) + 1 ≡ length shelved

pub oldest_of_all : (slot : ℕ) (shelved : List Slotted) → Once (slots_of shelved) → option_map (λ (s : Slotted). s.slot) (last_of shelved) ≡ Some slot → OldestOfAll slot shelved
oldest_of_all slot shelved once is =
    let o = oldest_cut slot shelved once is in
    record {
      newer = o.0;
      last = o.1;
      there = ap (option_map (λ (s : Slotted). s.value)) o.2.found;
      parts = o.2.parts;
      left = o.2.rest;
      fewer = omega (arith, ap length o.2.rest, ap length o.2.parts, length-append o.0 [], length-append o.0 (o.1 ∷ []));
    }

-- ---- all entries move, the oldest first

in_between : (newer : List Slotted) (s : Slotted) (older : List Slotted) → In s.site (map (λ (s : Slotted). s.site) (newer ++ s ∷ older))
in_between [] s older = inl refl
in_between (x ∷ newer) s older = inr (in_between newer s older)

-- each entry's site is below 16
pub site_below : (newer : List Slotted) (s : Slotted) (older shelved : List Slotted) → shelved ≡ newer ++ s ∷ older → Sited shelved → ((n : ℕ) → In n (map (λ (s : Slotted). s.site) shelved) → n < 16) → s.value.site < 16
site_below newer s older shelved parts sited below =
    let b : s.site < 16 = below s.site (subst (λ l. In s.site (map (λ (s : Slotted). s.site) l)) (sym parts) (in_between newer s older)) in
    omega (arith, b, (sited_between newer s older (subst Sited parts sited)).0)

append_again : (a : Cache) (e : Entry) (b : Cache) → (a ++ []) ++ e ∷ b ≡ (a ++ e ∷ []) ++ b
append_again [] e b = refl
append_again (x ∷ a) e b = ap (λ l. x ∷ l) (append_again a e b)

append_on : (a : Cache) (e : Entry) (b : Cache) → (a ++ e ∷ []) ++ b ≡ a ++ e ∷ b
append_on [] e b = refl
append_on (x ∷ a) e b = ap (λ l. x ∷ l) (append_on a e b)

module _ (newer : List Slotted) (s : Slotted) (shelved : List Slotted) (parts : shelved ≡ newer ++ s ∷ []) (moved all : Cache) (same : values shelved ++ moved ≡ all) where
  between : all ≡ values newer ++ s.value ∷ moved
  between = sym same ∙ ap (λ l. values l ++ moved) parts ∙ ap (λ l. l ++ moved) (values_append newer (s ∷ [])) ∙ append_on (values newer) s.value moved

  -- one more has moved
  pub moved_one : (left : List Slotted) (now : Cache) → left ≡ newer ++ [] → now ≡ s.value ∷ moved → values left ++ now ≡ all
  moved_one left now is front =
      ap (λ l. values l ++ now) is ∙ ap (λ l. l ++ now) (values_append newer []) ∙ ap (λ l. (values newer ++ []) ++ l) front ∙ append_again (values newer) s.value moved
      ∙ ap (λ l. l ++ moved) (sym (values_append newer (s ∷ []))) ∙ ap (λ l. values l ++ moved) (sym parts) ∙ same

  -- what has moved has not its key, and there is room for it
  pub not_moved : length (filter (is_of s.value.site s.value.suite) all) ≤ 1 → is_of s.value.site s.value.suite s.value ≡ true → entry_of moved s.value.site s.value.suite ≡ None
  not_moved once own =
      let p : Entry → Bool = is_of s.value.site s.value.suite in
      (none_found p moved (omega (
        arith,
        once,
        ap (λ l. length (filter p l)) between,
        count_between p (values newer) s.value moved own,
        ap length (filter-append p (values newer) moved),
        length-append (filter p (values newer)) (filter p moved),
      ))).0

  pub sum_moved : sum_of moved + size_of s.value.content ≤ sum_of all
  sum_moved = omega (arith, ap sum_of between, sum_of-append (values newer) (s.value ∷ moved))
