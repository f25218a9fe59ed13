-- The entries on a shelf, as one comes or goes.
use Rattle.weak_cache.proofs.Vocabulary.{◌≡◌, ℕ, ◌+◌, ◌≤◌, inl, inr, Bool, true, false, cond, not, List, [], ◌∷◌, ◌++◌, length, map, Option, Some, None, refl, sym, ap, ◌∙◌, subst, arith, eq-eqb, ne_eqb, length-append, ◌==◌, ◌&&◌, filter, find}
use Rattle.weak_cache.proofs.Vocabulary.{option_map, eqb-true, In, Once, first_of, last_of, Shelf, is_in, value_of, touched, older_than, get_by, Entry, Cache, is_at, is_of, sum_of, list_of, entry_of, Sums, IsTally, Slotted, values, same_key, has_key}
use Rattle.weak_cache.proofs.Vocabulary.{slot_in, Sited, from_slot, from_on, IsKept}
use Rattle.recency.specs.Shelf.{without}
use Rattle.std.specs.Map.{lookup}
use Rattle.weak_cache.specs.declared.kept.Kept.{Kept}
use Rattle.recency.specs.Shelf as shelf
use Rattle.weak_cache.specs.Entries as entries
use Rattle.weak_cache.proofs.Fewer.{fewer_moved, fewer_then, fewer_without, fewer_same, once_fewer}
use Rattle.weak_cache.proofs.Keeping.{both, sum_of-append}
use Rattle.weak_cache.proofs.Counting.{tally_moved}

by_flag : (X : Type 0) (t : Bool) → (t ≡ true → X) → (t ≡ false → X) → X
by_flag X true f g = f refl
by_flag X false f g = g refl

some_same : {X : Type 0} (a b : X) → Some a ≡ Some b → a ≡ b
some_same a b h = cc h

-- ---- lists that are cut at one that passes a test

module _ {X : Type 0} (p : X → Bool) where
  pub find_cut : (xs : List X) (x : X) → find p xs ≡ Some x → (newer : List X) × (older : List X) × (xs ≡ newer ++ x ∷ older) × (p x ≡ true)
  find_cut [] x h = absurd (cc h)
  find_cut (y ∷ ys) x h =
      elim (p y) as (λ t. p y ≡ t → cond t (Some y) (find p ys) ≡ Some x → (newer : List X) × (older : List X) × (y ∷ ys ≡ newer ++ x ∷ older) × (p x ≡ true)) [
        | true ↦ λ own h. let e : y ≡ x = some_same y x h in ([], ys, ap (λ z. z ∷ ys) e, ap p (sym e) ∙ own)
        | false ↦ λ _ h. let rest = find_cut ys x h in (y ∷ rest.0, rest.1, ap (λ l. y ∷ l) rest.2, rest.3)
      ] refl h

  pub none_found : (xs : List X) → length (filter p xs) ≤ 0 → (find p xs ≡ None) × (filter (λ x. not (p x)) xs ≡ xs)
  none_found [] h = (refl, refl)
  none_found (x ∷ xs) h =
      elim (p x) as (λ t. length (cond t (x ∷ filter p xs) (filter p xs)) ≤ 0 → (cond t (Some x) (find p xs) ≡ None) × (cond (not t) (x ∷ filter (λ x. not (p x)) xs) (filter (λ x. not (p x)) xs) ≡ x ∷ xs)) [
        | true ↦ λ h. absurd (omega (arith, h))
        | false ↦ λ h. let r = none_found xs h in (r.0, ap (λ l. x ∷ l) r.1)
      ] h

  -- how many pass
  pub count_between : (newer : List X) (x : X) (older : List X) → p x ≡ true → length (filter p (newer ++ x ∷ older)) ≡ 1 + length (filter p (newer ++ older))
  count_between [] x older own = rw own (omega arith)
  count_between (y ∷ newer) x older own =
      elim (p y) as (λ t. length (cond t (y ∷ filter p (newer ++ x ∷ older)) (filter p (newer ++ x ∷ older))) ≡ 1 + length (cond t (y ∷ filter p (newer ++ older)) (filter p (newer ++ older)))) [
        | true ↦ omega (arith, count_between newer x older own)
        | false ↦ count_between newer x older own
      ]

  -- the only one that passes
  pub alone : (newer : List X) (x : X) (older : List X) → p x ≡ true → length (filter p (newer ++ older)) ≤ 0
      → (find p (newer ++ x ∷ older) ≡ Some x) × (filter (λ x. not (p x)) (newer ++ x ∷ older) ≡ newer ++ older) × (find p (newer ++ older) ≡ None)
  alone [] x older own few = let r = none_found older few in (rw own refl, rw own r.1, r.0)
  alone (y ∷ newer) x older own few =
      elim (p y) as (λ t. length (cond t (y ∷ filter p (newer ++ older)) (filter p (newer ++ older))) ≤ 0
      → (cond t (Some y) (find p (newer ++ x ∷ older)) ≡ Some x) × (cond (not t) (y ∷ filter (λ x. not (p x)) (newer ++ x ∷ older))
      (filter (λ x. not (p x)) (newer ++ x ∷ older)) ≡ y ∷ (newer ++ older)) × (cond t (Some y) (find p (newer ++ older)) ≡ None)) [
        | true ↦ λ few. absurd (omega (arith, few))
        | false ↦ λ few. let r = alone newer x older own few in (r.0, ap (λ l. y ∷ l) r.1, r.2)
      ] few

  pub find_skip : (newer : List X) (x : X) (older : List X) → p x ≡ false → find p (newer ++ x ∷ older) ≡ find p (newer ++ older)
  find_skip [] x older other = rw other refl
  find_skip (y ∷ newer) x older other = ap (λ o. cond (p y) (Some y) o) (find_skip newer x older other)

-- ---- the slots

abbrev pub slots_of : List Slotted → List ℕ
slots_of shelved = map (λ (s : Slotted). s.slot) shelved

in_middle : (newer : List Slotted) (s : Slotted) (older : List Slotted) → In s.slot (slots_of (newer ++ s ∷ older))
in_middle [] s older = inl refl
in_middle (x ∷ newer) s older = inr (in_middle newer s older)

free_slot : (slot : ℕ) (shelved : List Slotted) → (In slot (slots_of shelved) → ⊥) → length (filter (is_in slot) shelved) ≤ 0
free_slot slot [] out = omega arith
free_slot slot (s ∷ shelved) out = rw (ne_eqb s.slot slot (λ e. out (inl (sym e)))) (free_slot slot shelved (λ i. out (inr i)))

slot_once : (newer : List Slotted) (s : Slotted) (older : List Slotted) → Once (slots_of (newer ++ s ∷ older)) → length (filter (is_in s.slot) (newer ++ older)) ≤ 0
slot_once [] s older once = free_slot s.slot older once.0
slot_once (x ∷ newer) s older once =
    rw (ne_eqb x.slot s.slot (λ e. once.0 (subst (λ k. In k (slots_of (newer ++ s ∷ older))) (sym e) (in_middle newer s older)))) (slot_once newer s older once.1)

-- a shelf that is cut at a slot
pub record CutAt (slot : ℕ) (shelved newer : List Slotted) (s : Slotted) (older : List Slotted) : Type 0 where
  pub parts : shelved ≡ newer ++ s ∷ older
  pub at : s.slot ≡ slot
  pub found : shelf.entry_of slot shelved ≡ Some s
  pub rest : without slot shelved ≡ newer ++ older

pub cut_from : (slot : ℕ) (shelved newer : List Slotted) (s : Slotted) (older : List Slotted) → Once (slots_of shelved) → shelved ≡ newer ++ s ∷ older → s.slot ≡ slot → CutAt slot shelved newer s older
cut_from slot shelved newer s older once parts at =
    let a = alone (is_in slot) newer s older (eq-eqb s.slot slot at) (subst (λ k. length (filter (is_in k) (newer ++ older)) ≤ 0) at (slot_once newer s older (subst (λ l. Once (slots_of l)) parts once))) in
    record { parts = parts; at = at; found = ap (find (is_in slot)) parts ∙ a.0; rest = ap (without slot) parts ∙ a.1 }

pub record Cut (slot : ℕ) (shelved : List Slotted) (v : Entry) : Type 0 where
  pub newer : List Slotted
  pub s : Slotted
  pub older : List Slotted
  pub cut : CutAt slot shelved newer s older
  pub value : s.value ≡ v

pub cut_of : (slot : ℕ) (shelved : List Slotted) (v : Entry) → Once (slots_of shelved) → value_of slot shelved ≡ Some v → Cut slot shelved v
cut_of slot shelved v once there =
    elim (shelf.entry_of slot shelved) as (λ o. shelf.entry_of slot shelved ≡ o → option_map (λ (s : Slotted). s.value) o ≡ Some v → Cut slot shelved v) [
      | None ↦ λ _ h. absurd (cc h)
      | Some s ↦ λ is h.
          let c = find_cut (is_in slot) shelved s is in
          record { newer = c.0; s = s; older = c.1; cut = cut_from slot shelved c.0 s c.1 once c.2 (eqb-true s.slot slot c.3); value = some_same s.value v h }
    ] refl there

-- ---- keys

pub find_values : (site suite : ℕ) (shelved : List Slotted) → entry_of (values shelved) site suite ≡ option_map (λ (s : Slotted). s.value) (find (has_key site suite) shelved)
find_values site suite [] = refl
find_values site suite (s ∷ shelved) =
    elim (has_key site suite s) as (λ t. cond t (Some s.value) (entry_of (values shelved) site suite) ≡ option_map (λ (s : Slotted). s.value) (cond t (Some s) (find (has_key site suite) shelved))) [
      | true ↦ refl
      | false ↦ find_values site suite shelved
    ]

pub filter_values : (p : Entry → Bool) (shelved : List Slotted) → filter p (values shelved) ≡ values (filter (λ (s : Slotted). p s.value) shelved)
filter_values p [] = refl
filter_values p (s ∷ shelved) =
    elim (p s.value) as (λ t. cond t (s.value ∷ filter p (values shelved)) (filter p (values shelved)) ≡ values (cond t (s ∷ filter (λ (s : Slotted). p s.value) shelved) (filter (λ (s : Slotted). p s.value) shelved))) [
      | true ↦ ap (λ l. s.value ∷ l) (filter_values p shelved)
      | false ↦ filter_values p shelved
    ]

pub length_values : (shelved : List Slotted) → length (values shelved) ≡ length shelved
length_values [] = refl
length_values (s ∷ shelved) = omega (arith, length_values shelved)

pub values_append : (a b : List Slotted) → values (a ++ b) ≡ values a ++ values b
values_append [] b = refl
values_append (s ∷ a) b = ap (λ l. s.value ∷ l) (values_append a b)

pub values_cut : (slot : ℕ) (shelved : List Slotted) (v : Entry) (c : Cut slot shelved v) → values shelved ≡ values c.newer ++ c.s.value ∷ values c.older
values_cut slot shelved v c = ap values c.cut.parts ∙ values_append c.newer (c.s ∷ c.older)

pub sum_left : (slot : ℕ) (shelved : List Slotted) (v : Entry) (c : Cut slot shelved v) → sum_of (values c.newer ++ values c.older) ≤ sum_of (values shelved)
sum_left slot shelved v c = omega (arith, ap sum_of (values_cut slot shelved v c), sum_of-append (values c.newer) (c.s.value ∷ values c.older), sum_of-append (values c.newer) (values c.older))

pub length_left : (slot : ℕ) (shelved : List Slotted) (v : Entry) (c : Cut slot shelved v)
    → (length (values c.newer ++ values c.older) + 1 ≡ length shelved) × (length (c.newer ++ c.older) + 1 ≡ length shelved)
length_left slot shelved v c =
    let whole = ap length c.cut.parts in
    let parts = length-append c.newer (c.s ∷ c.older) in
    (omega (arith, whole, parts, length-append (values c.newer) (values c.older), length_values c.newer, length_values c.older), omega (arith, whole, parts, length-append c.newer c.older))

-- what was put a moment ago and is taken again leaves the shelf as it was
pub untaken : (before put taken : Shelf Entry) (slot site : ℕ) (v : Entry) → Once (slots_of put.entries) → put ≡ record before { entries = record { slot = slot; site = site; value = v } ∷ before.entries }
    → taken ≡ record put { entries = without slot put.entries } → taken ≡ before
untaken before put taken slot site v once is left =
    let s : Slotted = record { slot = slot; site = site; value = v } in
    let o : Once (slots_of (s ∷ before.entries)) = subst (λ (t : Shelf Entry). Once (slots_of t.entries)) is once in
    left ∙ ap (λ (t : Shelf Entry). record { slots = t.slots; entries = without slot t.entries }) is
    ∙ ap (λ (l : List Slotted). record { slots = before.slots; entries = l }) (cut_from slot (s ∷ before.entries) [] s before.entries o refl refl).rest

-- a key is there once
abbrev pub OnceEach : List Slotted → Type 0
OnceEach shelved = (site suite : ℕ) → length (filter (is_of site suite) (values shelved)) ≤ 1

key_alone : (site suite : ℕ) (newer : List Slotted) (s : Slotted) (older : List Slotted) → OnceEach (newer ++ s ∷ older) → has_key site suite s ≡ true → length (filter (has_key site suite) (newer ++ older)) ≤ 0
key_alone site suite newer s older once own =
    omega (
      arith,
      once site suite,
      ap length (filter_values (is_of site suite) (newer ++ s ∷ older)),
      length_values (filter (has_key site suite) (newer ++ s ∷ older)),
      count_between (has_key site suite) newer s older own,
    )

-- what is left where one of a key goes
pub key_gone : (site suite : ℕ) (newer : List Slotted) (s : Slotted) (older : List Slotted) → OnceEach (newer ++ s ∷ older) → has_key site suite s ≡ true → values (newer ++ older) ≡ entries.without site suite (values (newer ++ s ∷ older))
key_gone site suite newer s older once own =
    sym (filter_values (λ e. not (is_of site suite e)) (newer ++ s ∷ older) ∙ ap values (alone (has_key site suite) newer s older own (key_alone site suite newer s older once own)).1)

-- what a key's slot holds is what is kept of the key
pub key_found : (site suite slot : ℕ) (shelved : List Slotted) → Once (slots_of shelved) → slot_in site suite shelved ≡ Some slot
    → (newer : List Slotted) × (s : Slotted) × (older : List Slotted) × CutAt slot shelved newer s older × (has_key site suite s ≡ true)
    × (entry_of (values shelved) site suite ≡ Some s.value) × (value_of slot shelved ≡ Some s.value)
key_found site suite slot shelved once is =
    elim (find (has_key site suite) shelved) as (λ o. find (has_key site suite) shelved ≡ o → option_map (λ (s : Slotted). s.slot) o ≡ Some slot
    → (newer : List Slotted) × (s : Slotted) × (older : List Slotted) × CutAt slot shelved newer s older × (has_key site suite s ≡ true) × (entry_of (values shelved) site suite ≡ Some s.value) × (value_of slot shelved ≡ Some s.value)) [
      | None ↦ λ _ h. absurd (cc h)
      | Some s ↦ λ found h.
          let c = find_cut (has_key site suite) shelved s found in
          let cut = cut_from slot shelved c.0 s c.1 once c.2 (some_same s.slot slot h) in
          (c.0, s, c.1, cut, c.3, find_values site suite shelved ∙ ap (option_map (λ (s : Slotted). s.value)) found, ap (option_map (λ (s : Slotted). s.value)) cut.found)
    ] refl is

pub key_none : (site suite : ℕ) (shelved : List Slotted) → slot_in site suite shelved ≡ None → entry_of (values shelved) site suite ≡ None
key_none site suite shelved is =
    elim (find (has_key site suite) shelved) as (λ o. find (has_key site suite) shelved ≡ o → option_map (λ (s : Slotted). s.slot) o ≡ None → entry_of (values shelved) site suite ≡ None) [
      | None ↦ λ found _. find_values site suite shelved ∙ ap (option_map (λ (s : Slotted). s.value)) found
      | Some s ↦ λ _ h. absurd (cc h)
    ] refl is

-- what is replaced: it is of the key, and the others are what is left without the key
pub replaced : (site suite slot : ℕ) (shelved : List Slotted) (v : Entry) → Once (slots_of shelved) → OnceEach shelved → slot_in site suite shelved ≡ Some slot → value_of slot shelved ≡ Some v
    → (c : Cut slot shelved v) × (is_of site suite v ≡ true) × (values (c.newer ++ c.older) ≡ entries.without site suite (values shelved)) × (entry_of (values shelved) site suite ≡ Some v)
replaced site suite slot shelved v once each is there =
    let f = key_found site suite slot shelved once is in
    let same : f.1.value ≡ v = some_same f.1.value v (sym f.6 ∙ there) in (
      record { newer = f.0; s = f.1; older = f.2; cut = f.3; value = same },
      ap (is_of site suite) (sym same) ∙ f.4,
      key_gone site suite f.0 f.1 f.2 (subst OnceEach f.3.parts each) f.4 ∙ ap (λ l. entries.without site suite (values l)) (sym f.3.parts),
      f.5 ∙ ap Some same,
    )

-- ---- sites

pub sited_between : (newer : List Slotted) (s : Slotted) (older : List Slotted) → Sited (newer ++ s ∷ older) → (s.site ≡ s.value.site) × Sited (newer ++ older)
sited_between [] s older h = h
sited_between (x ∷ newer) s older h = let r = sited_between newer s older h.1 in (r.0, (h.0, r.1))

pub site_behind : (newer : List Slotted) (s : Slotted) (older : List Slotted) → Sited (newer ++ s ∷ older) → Sited older
site_behind [] s older h = h.1
site_behind (x ∷ newer) s older h = site_behind newer s older h.1

pub list_is : (site : ℕ) (shelved : List Slotted) → Sited shelved → list_of site (values shelved) ≡ values (shelf.of_site site shelved)
list_is site [] h = refl
list_is site (s ∷ shelved) h =
    let e : (s.site == site) ≡ is_at site s.value = ap (λ n. n == site) h.0 in
    by_flag (list_of site (values (s ∷ shelved)) ≡ values (shelf.of_site site (s ∷ shelved))) (is_at site s.value)
    (λ own. ap (λ t. cond t (s.value ∷ list_of site (values shelved)) (list_of site (values shelved))) own ∙ ap (λ l. s.value ∷ l) (list_is site shelved h.1) ∙ sym
    (ap (λ t. values (cond t (s ∷ shelf.of_site site shelved) (shelf.of_site site shelved))) (e ∙ own)))
    (λ other. ap (λ t. cond t (s.value ∷ list_of site (values shelved)) (list_of site (values shelved))) other ∙ list_is site shelved h.1 ∙ sym
    (ap (λ t. values (cond t (s ∷ shelf.of_site site shelved) (shelf.of_site site shelved))) (e ∙ other)))

-- ---- the ends of a list

pub last_cut : {X : Type 0} (xs : List X) (x : X) → last_of xs ≡ Some x → (newer : List X) × (xs ≡ newer ++ x ∷ [])
last_cut [] x h = absurd (cc h)
last_cut (y ∷ []) x h = ([], ap (λ z. z ∷ []) (some_same y x h))
last_cut (y ∷ z ∷ zs) x h = let rest = last_cut (z ∷ zs) x h in (y ∷ rest.0, ap (λ l. y ∷ l) rest.1)

pub no_last : {X : Type 0} (xs : List X) → last_of xs ≡ None → xs ≡ []
no_last [] h = refl
no_last (y ∷ []) h = absurd (cc h)
no_last (y ∷ z ∷ zs) h = absurd (let e = no_last (z ∷ zs) h in cc e)

-- the last one that passes a test, behind which none does
pub last_passing : {X : Type 0} (p : X → Bool) (xs : List X) (x : X) → last_of (filter p xs) ≡ Some x → (newer : List X) × (older : List X) × (xs ≡ newer ++ x ∷ older) × (p x ≡ true) × (filter p older ≡ [])
last_passing {X = X} p [] x h = absurd (cc h)
last_passing {X = X} p (y ∷ ys) x h =
    elim (p y) as (λ t. p y ≡ t → last_of (cond t (y ∷ filter p ys) (filter p ys)) ≡ Some x → (newer : List X) × (older : List X) × (y ∷ ys ≡ newer ++ x ∷ older) × (p x ≡ true) × (filter p older ≡ [])) [
      | true ↦ λ own. elim (filter p ys) as (λ l. filter p ys ≡ l → last_of (y ∷ l) ≡ Some x → (newer : List X) × (older : List X) × (y ∷ ys ≡ newer ++ x ∷ older) × (p x ≡ true) × (filter p older ≡ [])) [
        | [] ↦ λ none h. let e : y ≡ x = some_same y x h in ([], ys, ap (λ z. z ∷ ys) e, ap p (sym e) ∙ own, none)
        | z ∷ zs ↦ λ more h. let rest = last_passing p ys x (ap last_of more ∙ h) in (y ∷ rest.0, rest.1, ap (λ l. y ∷ l) rest.2, rest.3, rest.4)
      ] refl
      | false ↦ λ _ h. let rest = last_passing p ys x h in (y ∷ rest.0, rest.1, ap (λ l. y ∷ l) rest.2, rest.3, rest.4)
    ] refl h

slot_some : (o : Option Slotted) (slot : ℕ) → option_map (λ (s : Slotted). s.slot) o ≡ Some slot → (s : Slotted) × (o ≡ Some s) × (s.slot ≡ slot)
slot_some None slot h = absurd (cc h)
slot_some (Some s) slot h = (s, refl, some_same s.slot slot h)

slot_none : (o : Option Slotted) → option_map (λ (s : Slotted). s.slot) o ≡ None → o ≡ None
slot_none None h = refl
slot_none (Some s) h = absurd (cc h)

-- the oldest of all
pub oldest_cut : (slot : ℕ) (shelved : List Slotted) → Once (slots_of shelved) → option_map (λ (s : Slotted). s.slot) (last_of shelved) ≡ Some slot → (newer : List Slotted) × (s : Slotted) × CutAt slot shelved newer s []
oldest_cut slot shelved once is =
    let s = slot_some (last_of shelved) slot is in
    let c = last_cut shelved s.0 s.1 in
    (c.0, s.0, cut_from slot shelved c.0 s.0 [] once c.1 s.2)

pub none_oldest : (shelved : List Slotted) → option_map (λ (s : Slotted). s.slot) (last_of shelved) ≡ None → shelved ≡ []
none_oldest shelved is = no_last shelved (slot_none (last_of shelved) is)

-- the oldest of a site
pub oldest_cut_of : (site slot : ℕ) (shelved : List Slotted) → Once (slots_of shelved) → option_map (λ (s : Slotted). s.slot) (last_of (shelf.of_site site shelved)) ≡ Some slot
    → (newer : List Slotted) × (s : Slotted) × (older : List Slotted) × CutAt slot shelved newer s older × (s.site ≡ site) × (shelf.of_site site older ≡ [])
oldest_cut_of site slot shelved once is =
    let s = slot_some (last_of (shelf.of_site site shelved)) slot is in
    let c = last_passing (shelf.is_of site) shelved s.0 s.1 in
    (c.0, s.0, c.1, cut_from slot shelved c.0 s.0 c.1 once c.2 s.2, eqb-true s.0.site site c.3, c.4)

pub none_oldest_of : (site : ℕ) (shelved : List Slotted) → option_map (λ (s : Slotted). s.slot) (last_of (shelf.of_site site shelved)) ≡ None → shelf.of_site site shelved ≡ []
none_oldest_of site shelved is = no_last (shelf.of_site site shelved) (slot_none (last_of (shelf.of_site site shelved)) is)

-- ---- from a slot on

from_cut : (newer : List Slotted) (s : Slotted) (older : List Slotted) → Once (slots_of (newer ++ s ∷ older)) → (from_slot s.slot (newer ++ s ∷ older) ≡ s ∷ older) × (older_than s.slot (newer ++ s ∷ older) ≡ first_of older)
from_cut [] s older once = (rw (eq-eqb s.slot s.slot refl) refl, rw (eq-eqb s.slot s.slot refl) refl)
from_cut (x ∷ newer) s older once =
    let other : is_in s.slot x ≡ false = ne_eqb x.slot s.slot (λ e. once.0 (subst (λ k. In k (slots_of (newer ++ s ∷ older))) (sym e) (in_middle newer s older))) in
    let r = from_cut newer s older once.1 in
    (rw other r.0, rw other r.1)

append_one : (newer : List Slotted) (s : Slotted) (older : List Slotted) → (newer ++ s ∷ []) ++ older ≡ newer ++ s ∷ older
append_one [] s older = refl
append_one (x ∷ newer) s older = ap (λ l. x ∷ l) (append_one newer s older)

from_next : (newer : List Slotted) (s : Slotted) (older : List Slotted) → Once (slots_of (newer ++ s ∷ older)) → from_on (option_map (λ (s : Slotted). s.slot) (first_of older)) (newer ++ s ∷ older) ≡ older
from_next newer s [] once = refl
from_next newer s (y ∷ older) once =
    ap (from_slot y.slot) (sym (append_one newer s (y ∷ older))) ∙ (from_cut (newer ++ s ∷ []) y older (subst (λ l. Once (slots_of l)) (sym (append_one newer s (y ∷ older))) once)).0

-- the entry of a slot, and then those from the next slot on
pub from_step : (slot : ℕ) (shelved : List Slotted) (v : Entry) → Once (slots_of shelved) → value_of slot shelved ≡ Some v
    → (s : Slotted) × (from_slot slot shelved ≡ s ∷ from_on (option_map (λ (s : Slotted). s.slot) (older_than slot shelved)) shelved) × (s.value ≡ v)
from_step slot shelved v once there =
    let c = cut_of slot shelved v once there in
    let o : Once (slots_of (c.newer ++ c.s ∷ c.older)) = subst (λ l. Once (slots_of l)) c.cut.parts once in
    let f = from_cut c.newer c.s c.older o in
    let step : from_slot c.s.slot (c.newer ++ c.s ∷ c.older) ≡ c.s ∷ from_on (option_map (λ (s : Slotted). s.slot) (older_than c.s.slot (c.newer ++ c.s ∷ c.older))) (c.newer ++ c.s ∷ c.older) =
    f.0 ∙ ap (λ l. c.s ∷ l) (sym (ap (λ n. from_on (option_map (λ (s : Slotted). s.slot) n) (c.newer ++ c.s ∷ c.older)) f.1 ∙ from_next c.newer c.s c.older o)) in (
      c.s,
      subst (λ k. from_slot k shelved ≡ c.s ∷ from_on (option_map (λ (s : Slotted). s.slot) (older_than k shelved)) shelved) c.cut.at
          (subst (λ l. from_slot c.s.slot l ≡ c.s ∷ from_on (option_map (λ (s : Slotted). s.slot) (older_than c.s.slot l)) l) (sym c.cut.parts) step),
      c.value,
    )

pub from_none : (slot : ℕ) (shelved : List Slotted) → value_of slot shelved ≡ None → from_slot slot shelved ≡ []
from_none slot [] h = refl
from_none slot (s ∷ shelved) h =
    elim (is_in slot s) as (λ t. option_map (λ (s : Slotted). s.value) (cond t (Some s) (shelf.entry_of slot shelved)) ≡ None → cond t (s ∷ shelved) (from_slot slot shelved) ≡ []) [
      | true ↦ λ h. absurd (cc h)
      | false ↦ λ h. from_none slot shelved h
    ] h

pub from_newest : (shelved : List Slotted) → from_on (option_map (λ (s : Slotted). s.slot) (first_of shelved)) shelved ≡ shelved
from_newest [] = refl
from_newest (s ∷ shelved) = rw (eq-eqb s.slot s.slot refl) refl

-- ---- what is kept, as one comes or goes

none_counted : (p : Entry → Bool) (c : Cache) → find p c ≡ None → length (filter p c) ≤ 0
none_counted p [] h = omega arith
none_counted p (e ∷ c) h =
    elim (p e) as (λ t. cond t (Some e) (find p c) ≡ None → length (cond t (e ∷ filter p c) (filter p c)) ≤ 0) [
      | true ↦ λ h. absurd (cc h)
      | false ↦ λ h. none_counted p c h
    ] h

one_key : (site suite : ℕ) (a b : Entry) → is_of b.site b.suite a ≡ true → is_of site suite a ≡ is_of site suite b
one_key site suite a b own =
    let k = both (a.site == b.site) (a.suite == b.suite) own in
    ap (λ n. (n == site) && (a.suite == suite)) (eqb-true a.site b.site k.0) ∙ ap (λ n. (b.site == site) && (n == suite)) (eqb-true a.suite b.suite k.1)

few_left : (site suite : ℕ) (newer : Cache) (e : Entry) (older : Cache) → length (filter (is_of site suite) (newer ++ older)) ≤ length (filter (is_of site suite) (newer ++ e ∷ older))
few_left site suite newer e older =
    once_fewer site suite (newer ++ older) (newer ++ e ∷ older) (fewer_then (newer ++ older) (e ∷ newer ++ older) (newer ++ e ∷ older)
    (fewer_without e (newer ++ older) (newer ++ older) (fewer_same (newer ++ older))) (fewer_moved newer e older))

-- nothing has changed
pub kept_same : (k k' : Kept) → IsKept k → k'.shelf ≡ k.shelf → k'.index.entries ≡ k.index.entries → k'.tally ≡ k.tally → k'.slots ≡ k.slots → IsKept k'
kept_same k k' h same index tally slots =
    let is : k'.shelf.entries ≡ k.shelf.entries = ap (λ (t : Shelf Entry). t.entries) same in
    record {
      known = λ site suite. ap (lookup (same_key (site, suite))) index ∙ h.known site suite ∙ sym (ap (slot_in site suite) is);
      sited = subst Sited (sym is) h.sited;
      counted = subst (λ (l : List Slotted). IsTally k'.tally (values l)) (sym is) (subst (λ (t : Sums). IsTally t (values k.shelf.entries)) (sym tally) h.counted);
      once = subst OnceEach (sym is) h.once;
      slots = slots ∙ h.slots ∙ sym (ap (λ (t : Shelf Entry). t.slots) same);
      small = omega (arith, slots, h.small);
    }

module _ (k k' : Kept) (h : IsKept k) (slots : k'.slots ≡ k.slots) where
  abbrev all : List Slotted
  all = k.shelf.entries

  -- an entry more, of a key that nothing has
  pub kept_more : (slot : ℕ) (v : Entry) → k'.shelf ≡ record k.shelf { entries = record { slot = slot; site = v.site; value = v } ∷ all }
      → ((q : ℕ × ℕ) → get_by (same_key q) k'.index ≡ cond (same_key (v.site, v.suite) q) (Some slot) (get_by (same_key q) k.index))
      → IsTally k'.tally (v ∷ values all) → entry_of (values all) v.site v.suite ≡ None → IsKept k'
  kept_more slot v same index counted none =
      let s : Slotted = record { slot = slot; site = v.site; value = v } in
      let is : k'.shelf.entries ≡ s ∷ all = ap (λ (t : Shelf Entry). t.entries) same in
      record {
        known = λ site suite. index (site, suite)
            ∙ by_flag (cond (is_of site suite v) (Some slot) (get_by (same_key (site, suite)) k.index) ≡ slot_in site suite (s ∷ all)) (is_of site suite v) (λ own. rw own refl) (λ other. rw other (h.known site suite))
            ∙ sym (ap (slot_in site suite) is);
        sited = subst Sited (sym is) (refl, h.sited);
        counted = subst (λ (l : List Slotted). IsTally k'.tally (values l)) (sym is) counted;
        once = λ site suite. subst (λ (l : List Slotted). length (filter (is_of site suite) (values l)) ≤ 1) (sym is)
            (by_flag (length (filter (is_of site suite) (v ∷ values all)) ≤ 1) (is_of site suite v)
            (λ own.
            let b = both (v.site == site) (v.suite == suite) own in
            let few : length (filter (is_of site suite) (values all)) ≤ 0 = none_counted (is_of site suite) (values all)
            (ap (λ n. entry_of (values all) n suite) (sym (eqb-true v.site site b.0)) ∙ ap (entry_of (values all) v.site) (sym (eqb-true v.suite suite b.1)) ∙ none) in
            rw own (omega (arith, few)))
            (λ other. rw other (h.once site suite)));
        slots = slots ∙ h.slots ∙ sym (ap (λ (t : Shelf Entry). t.slots) same);
        small = omega (arith, slots, h.small);
      }

  module _ (slot : ℕ) (v : Entry) (c : Cut slot all v) where
    abbrev left : List Slotted
    left = c.newer ++ c.older

    whole : OnceEach (c.newer ++ c.s ∷ c.older)
    whole = subst OnceEach c.cut.parts h.once

    parted : values all ≡ values c.newer ++ c.s.value ∷ values c.older
    parted = values_cut slot all v c

    elsewhere : (site suite : ℕ) → has_key site suite c.s ≡ false → get_by (same_key (site, suite)) k.index ≡ slot_in site suite left
    elsewhere site suite other = h.known site suite ∙ ap (slot_in site suite) c.cut.parts ∙ ap (option_map (λ (s : Slotted). s.slot)) (find_skip (has_key site suite) c.newer c.s c.older other)

    none_left : (site suite : ℕ) → has_key site suite c.s ≡ true → slot_in site suite left ≡ None
    none_left site suite own = ap (option_map (λ (s : Slotted). s.slot)) (alone (has_key site suite) c.newer c.s c.older own (key_alone site suite c.newer c.s c.older whole own)).2

    few : (site suite : ℕ) → length (filter (is_of site suite) (values left)) ≤ 1
    few site suite = omega (
      arith,
      few_left site suite (values c.newer) c.s.value (values c.older),
      ap (λ l. length (filter (is_of site suite) l)) (values_append c.newer c.older),
      ap (λ l. length (filter (is_of site suite) l)) parted,
      h.once site suite,
    )

    sites : (c.s.site ≡ c.s.value.site) × Sited left
    sites = sited_between c.newer c.s c.older (subst Sited c.cut.parts h.sited)

    -- an entry less
    pub kept_less : k'.shelf ≡ record k.shelf { entries = without slot all } → ((q : ℕ × ℕ) → get_by (same_key q) k'.index ≡ cond (same_key (v.site, v.suite) q) None (get_by (same_key q) k.index))
        → ((newer : Cache) (e : Entry) (older : Cache) → IsTally k.tally (newer ++ e ∷ older) → e ≡ v → IsTally k'.tally (newer ++ older)) → IsKept k'
    kept_less same index tally =
        let is : k'.shelf.entries ≡ left = ap (λ (t : Shelf Entry). t.entries) same ∙ c.cut.rest in
        record {
          known = λ site suite. index (site, suite)
              ∙ by_flag (cond (is_of site suite v) None (get_by (same_key (site, suite)) k.index) ≡ slot_in site suite left) (is_of site suite v)
              (λ own. rw own (sym (none_left site suite (ap (is_of site suite) c.value ∙ own)))) (λ other. rw other (elsewhere site suite (ap (is_of site suite) c.value ∙ other)))
              ∙ sym (ap (slot_in site suite) is);
          sited = subst Sited (sym is) sites.1;
          counted = subst (λ (l : List Slotted). IsTally k'.tally (values l)) (sym is)
              (subst (IsTally k'.tally) (sym (values_append c.newer c.older))
              (tally (values c.newer) c.s.value (values c.older) (subst (IsTally k.tally) parted h.counted) c.value));
          once = λ site suite. subst (λ (l : List Slotted). length (filter (is_of site suite) (values l)) ≤ 1) (sym is) (few site suite);
          slots = slots ∙ h.slots ∙ sym (ap (λ (t : Shelf Entry). t.slots) same);
          small = omega (arith, slots, h.small);
        }

    -- an entry in place of one of the same key
    pub kept_swapped : (place : ℕ) (e : Entry) → is_of e.site e.suite v ≡ true → k'.shelf ≡ record k.shelf { entries = record { slot = place; site = e.site; value = e } ∷ without slot all }
        → ((q : ℕ × ℕ) → get_by (same_key q) k'.index ≡ cond (same_key (e.site, e.suite) q) (Some place) (get_by (same_key q) k.index))
        → IsTally k'.tally (e ∷ values c.newer ++ values c.older) → IsKept k'
    kept_swapped place e own same index counted =
        let s : Slotted = record { slot = place; site = e.site; value = e } in
        let is : k'.shelf.entries ≡ s ∷ left = ap (λ (t : Shelf Entry). t.entries) same ∙ ap (λ l. s ∷ l) c.cut.rest in
        let one : (site suite : ℕ) → has_key site suite c.s ≡ is_of site suite e = λ site suite. ap (is_of site suite) c.value ∙ one_key site suite v e own in
        record {
          known = λ site suite. index (site, suite)
              ∙ by_flag (cond (is_of site suite e) (Some place) (get_by (same_key (site, suite)) k.index) ≡ slot_in site suite (s ∷ left)) (is_of site suite e)
              (λ own. rw own refl) (λ other. rw other (elsewhere site suite (one site suite ∙ other)))
              ∙ sym (ap (slot_in site suite) is);
          sited = subst Sited (sym is) (refl, sites.1);
          counted = subst (λ (l : List Slotted). IsTally k'.tally (values l)) (sym is) (subst (λ (l : Cache). IsTally k'.tally (e ∷ l)) (sym (values_append c.newer c.older)) counted);
          once = λ site suite. subst (λ (l : List Slotted). length (filter (is_of site suite) (values l)) ≤ 1) (sym is)
              (by_flag (length (filter (is_of site suite) (e ∷ values left)) ≤ 1) (is_of site suite e)
              (λ own. rw own (omega (arith, key_alone site suite c.newer c.s c.older whole (one site suite ∙ own), ap length (filter_values (is_of site suite) left), length_values (filter (has_key site suite) left))))
              (λ other. rw other (few site suite)));
          slots = slots ∙ h.slots ∙ sym (ap (λ (t : Shelf Entry). t.slots) same);
          small = omega (arith, slots, h.small);
        }

    -- an entry that becomes the newest
    pub kept_moved : k'.shelf ≡ record k.shelf { entries = touched slot all } → k'.index ≡ k.index → k'.tally ≡ k.tally → IsKept k'
    kept_moved same index tally =
        let is : k'.shelf.entries ≡ c.s ∷ left = ap (λ (t : Shelf Entry). t.entries) same ∙ ap (λ (o : Option Slotted). shelf.in_front o slot all) c.cut.found ∙ ap (λ l. c.s ∷ l) c.cut.rest in
        let front : values k'.shelf.entries ≡ c.s.value ∷ (values c.newer ++ values c.older) = ap values is ∙ ap (λ l. c.s.value ∷ l) (values_append c.newer c.older) in
        record {
          known = λ site suite. ap (get_by (same_key (site, suite))) index ∙ h.known site suite ∙ ap (slot_in site suite) c.cut.parts
              ∙ by_flag (slot_in site suite (c.newer ++ c.s ∷ c.older) ≡ slot_in site suite (c.s ∷ left)) (has_key site suite c.s)
              (λ own. ap (option_map (λ (s : Slotted). s.slot)) (alone (has_key site suite) c.newer c.s c.older own (key_alone site suite c.newer c.s c.older whole own)).0 ∙ rw own refl)
              (λ other. ap (option_map (λ (s : Slotted). s.slot)) (find_skip (has_key site suite) c.newer c.s c.older other) ∙ rw other refl)
              ∙ sym (ap (slot_in site suite) is);
          sited = subst Sited (sym is) sites;
          counted = subst (IsTally k'.tally) (sym front) (subst (λ (t : Sums). IsTally t (c.s.value ∷ (values c.newer ++ values c.older))) (sym tally)
              (tally_moved k.tally (values c.newer) c.s.value (values c.older) (subst (IsTally k.tally) parted h.counted)));
          once = λ site suite. omega (
            arith,
            once_fewer site suite (c.s.value ∷ values c.newer ++ values c.older) (values c.newer ++ c.s.value ∷ values c.older) (fewer_moved (values c.newer) c.s.value (values c.older)),
            ap (λ l. length (filter (is_of site suite) l)) front,
            ap (λ l. length (filter (is_of site suite) l)) parted,
            h.once site suite,
          );
          slots = slots ∙ h.slots ∙ sym (ap (λ (t : Shelf Entry). t.slots) same);
          small = omega (arith, slots, h.small);
        }
