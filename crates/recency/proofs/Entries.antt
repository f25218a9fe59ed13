-- The entries of a shelf, as its rings and its values make them.
use Rattle.recency.proofs.Vocabulary.{◌≡◌, ℕ, zero, suc, ◌+◌, ◌-◌, ◌<◌, ◌≤◌, Bool, true, false, cond, List, [], ◌∷◌, ◌++◌, length, length-append, map, filter, find, get_or, set, Option, Some, None, option_map, is_some, sym, refl, ◌∙◌, subst, ap, inl}
use Rattle.recency.proofs.Vocabulary.{inr, eq-eqb, arith, true≢false, get_or-set_same, get_or-set_other, length-set, any-default, In, Once, without, Mark, Listed, keys, is_of_site, of_site, without_slot, touched, first_of, older_than, last_of, Sited}
use Rattle.recency.proofs.Vocabulary.{Entry, is_in, entry_of, value_of, entry_with, entries_of}
use Rattle.std.specs.List.{cons_option}
use Rattle.recency.specs.Held.{IsHeld}
use Rattle.recency.specs.Shelf as shelf
use Rattle.recency.proofs.Paths.{by_equal, in-without, once-without, length-without, without-none, without-same, without-other}
use Rattle.recency.proofs.Order.{length_keys, keys_without, of_site_same, of_site_other, without_slot_same, without_slot_other, site_without, sited_without, in_all, in_some, last_map}
use Rattle.recency.proofs.Steps.{touched_is}

by_flag : (X : Type 0) (t : Bool) → (t ≡ true → X) → (t ≡ false → X) → X
by_flag h0 t h2 h3 = search arith

pub length_map : {X Y : Type 0} (f : X → Y) (xs : List X) → length (map f xs) ≡ length xs
length_map f [] = refl
length_map f (x ∷ xs) = let h = length_map f xs in omega arith

pub filter_map_is : {X Y : Type 0} (f : X → Y) (p : Y → Bool) (xs : List X) → filter p (map f xs) ≡ map f (filter (λ x. p (f x)) xs)
filter_map_is f p [] = refl
filter_map_is f p (x ∷ xs) = search (by_flag, filter_map_is f p xs, arith)

pub length_filter : {X : Type 0} (p : X → Bool) (xs : List X) → length (filter p xs) ≤ length xs
length_filter p [] = omega arith
length_filter p (x ∷ xs) = search (by_flag, length_filter p xs, arith)

-- ---- marks of one site

pub once_site : (t : ℕ) (order : List Mark) → Once (keys order) → Once (keys (of_site t order))
once_site t [] o = tt
once_site t (e ∷ es) o =
    by_equal (Once (keys (of_site t (e ∷ es)))) e.1 t
    (λ q. subst (λ (l : List Mark). Once (keys l)) (sym (of_site_same t e es q)) (λ i. o.0 (in_all t e.0 es i), once_site t es o.1))
    (λ differs. subst (λ (l : List Mark). Once (keys l)) (sym (of_site_other t e es differs)) (once_site t es o.1))

pub one_site : (x t u : ℕ) (order : List Mark) → Once (keys order) → In x (keys (of_site t order)) → In x (keys (of_site u order)) → t ≡ u
one_site x t u [] o i j = absurd i
one_site x t u (e ∷ es) o i j =
    by_equal (t ≡ u) e.0 x
    (λ q.
    let out : (v : ℕ) → In x (keys (of_site v (e ∷ es))) → e.1 ≡ v = λ v k. by_equal (e.1 ≡ v) e.1 v (λ s. s)
    (λ differs. absurd (o.0 (subst (λ (m : ℕ). In m (keys es)) (sym q) (in_all v x es (subst (λ (l : List Mark). In x (keys l)) (of_site_other v e es differs) k))))) in
    sym (out t i) ∙ out u j)
    (λ differs.
    let on : (v : ℕ) → In x (keys (of_site v (e ∷ es))) → In x (keys (of_site v es)) = λ v k. by_equal (In x (keys (of_site v es))) e.1 v
    (λ s. elim (subst (λ (l : List Mark). In x (keys l)) (of_site_same v e es s) k) [ inl w ↦ absurd (differs (sym w)) | inr m ↦ m ])
    (λ other. subst (λ (l : List Mark). In x (keys l)) (of_site_other v e es other) k) in
    one_site x t u es o.1 (on t i) (on u j))

-- how many marks a site has without one
pub site_shorter : (x t : ℕ) (order : List Mark) → In x (keys (of_site t order)) → Once (keys order) → length (of_site t (without_slot x order)) + 1 ≡ length (of_site t order)
site_shorter x t order i o = search (length-without, once_site, length_keys, site_without, arith)

pub site_same : (x t : ℕ) (order : List Mark) → (In x (keys (of_site t order)) → ⊥) → length (of_site t (without_slot x order)) ≡ length (of_site t order)
site_same x t order out = search (length_keys (of_site t order), length_keys (of_site t (without_slot x order)), site_without t x order, without-none x (keys (of_site t order)) out, arith)

pub in_keep : (k x : ℕ) (ys : List ℕ) → In k ys → (k ≡ x → ⊥) → In k (without x ys)
in_keep k x [] i differs = absurd i
in_keep k x (y ∷ ys) i differs = search (by_equal, without-same, without-other, in_keep k x ys, arith)

pub map_map : {X Y Z : Type 0} (g : Y → Z) (f : X → Y) (xs : List X) → map g (map f xs) ≡ map (λ x. g (f x)) xs
map_map g f [] = refl
map_map g f (x ∷ xs) = ap (λ l. g (f x) ∷ l) (map_map g f xs)

pub sited_in : (order : List Mark) (s : ℕ) → Sited order → In s (map (λ (e : Mark). e.1) order) → s < 16
sited_in [] s h i = absurd i
sited_in (e ∷ es) s h (inl q) = subst (λ (k : ℕ). k < 16) (sym q) h.0
sited_in (e ∷ es) s h (inr j) = sited_in es s h.1 j

unmarked : (x : ℕ) (order : List Mark) → (In x (keys order) → ⊥) → without_slot x order ≡ order
unmarked x [] out = refl
unmarked x (e ∷ es) out = without_slot_other x e es (λ q. out (inl (sym q))) ∙ ap (λ (l : List Mark). e ∷ l) (unmarked x es (λ i. out (inr i)))

module _ {V : Type 0} where
  pub by_some : (o : Option V) → is_some o ≡ true → (v : V) × (o ≡ Some v)
  by_some o h1 = search arith

  abbrev pub value_at : List (Option V) → ℕ → Option V
  value_at values k = get_or values k None

  abbrev pub marked : Entry V → Mark
  marked entry = (entry.slot, entry.site)

  abbrev pub entry : ℕ → ℕ → V → Entry V
  entry slot site v = record { slot = slot; site = site; value = v }

  pub entries_cons : (values : List (Option V)) (e : Mark) (es : List Mark) (v : V) → value_at values e.0 ≡ Some v → entries_of values (e ∷ es) ≡ entry e.0 e.1 v ∷ entries_of values es
  entries_cons values e es v h = ap (λ (w : Option V). cons_option (entry_with e w) (entries_of values es)) h

  abbrev pub AllHeld : List (Option V) → List Mark → Type 0
  AllHeld values order = (k : ℕ) → In k (keys order) → is_some (value_at values k) ≡ true

  -- the entries' slots and sites are the marks
  pub marks_of : (values : List (Option V)) (order : List Mark) → AllHeld values order → map marked (entries_of values order) ≡ order
  marks_of values [] h = refl
  marks_of values (e ∷ es) h = search (by_some, entries_cons, marks_of values es, arith)

  pub length_entries : (values : List (Option V)) (order : List Mark) → AllHeld values order → length (entries_of values order) ≡ length order
  length_entries values order h = sym (length_map marked (entries_of values order)) ∙ ap length (marks_of values order h)

  pub sites_of : (values : List (Option V)) (order : List Mark) (t : ℕ) → AllHeld values order → of_site t order ≡ map marked (shelf.of_site t (entries_of values order))
  sites_of values order t h = ap (of_site t) (sym (marks_of values order h)) ∙ filter_map_is marked (is_of_site t) (entries_of values order)

  twice : (o : Option (Entry V)) → option_map (λ (e : Mark). e.0) (option_map marked o) ≡ option_map (λ (e : Entry V). e.slot) o
  twice o = search arith

  pub oldest_entry : (xs : List (Entry V)) → option_map (λ (e : Mark). e.0) (last_of (map marked xs)) ≡ option_map (λ (e : Entry V). e.slot) (last_of xs)
  oldest_entry xs = ap (option_map (λ (e : Mark). e.0)) (last_map marked xs) ∙ twice (last_of xs)

  pub newest_entry : (xs : List (Entry V)) → option_map (λ (e : Mark). e.0) (first_of (map marked xs)) ≡ option_map (λ (e : Entry V). e.slot) (first_of xs)
  newest_entry xs = search arith

  pub older_entry : (k : ℕ) (xs : List (Entry V)) → option_map (λ (e : Mark). e.0) (older_than k (map marked xs)) ≡ option_map (λ (e : Entry V). e.slot) (shelf.older_than k xs)
  older_entry k [] = refl
  older_entry k (x ∷ xs) = search (by_flag, newest_entry, older_entry k xs, arith)

  -- ---- a value that changes

  pub entries_set : (values : List (Option V)) (x : ℕ) (w : Option V) (order : List Mark) → (In x (keys order) → ⊥) → entries_of (set values x w) order ≡ entries_of values order
  entries_set values x w [] out = refl
  entries_set values x w (e ∷ es) out = search (get_or-set_other, entries_set values x w es, arith)

  drop_one : (x : ℕ) (e : Mark) (o : Option V) (rest : List (Entry V)) → e.0 ≡ x → shelf.without x (cons_option (entry_with e o) rest) ≡ shelf.without x rest
  drop_one x e o rest h4 = search arith

  keep_one : (x : ℕ) (e : Mark) (o : Option V) (rest : List (Entry V)) → (e.0 ≡ x → ⊥) → shelf.without x (cons_option (entry_with e o) rest) ≡ cons_option (entry_with e o) (shelf.without x rest)
  keep_one x e o rest h4 = search arith

  pub entries_without : (values : List (Option V)) (x : ℕ) (order : List Mark) → entries_of values (without_slot x order) ≡ shelf.without x (entries_of values order)
  entries_without values x [] = refl
  entries_without values x (e ∷ es) = search (by_equal, without_slot_same, drop_one, without_slot_other, keep_one, entries_without values x es, arith)

  -- ---- what is found

  find_past : (x : ℕ) (e : Mark) (o : Option V) (rest : List (Entry V)) → (e.0 ≡ x → ⊥) → find (is_in x) (cons_option (entry_with e o) rest) ≡ find (is_in x) rest
  find_past x e o rest h4 = search arith

  pub find_none : (values : List (Option V)) (x : ℕ) (order : List Mark) → (In x (keys order) → ⊥) → entry_of x (entries_of values order) ≡ None
  find_none values x [] out = refl
  find_none values x (e ∷ es) out = find_past x e (value_at values e.0) (entries_of values es) (λ q. out (inl (sym q))) ∙ find_none values x es (λ i. out (inr i))

  pub find_held : (values : List (Option V)) (x t : ℕ) (v : V) (order : List Mark) → In x (keys (of_site t order)) → Once (keys order) → value_at values x ≡ Some v → entry_of x (entries_of values order) ≡ Some (entry x t v)
  find_held values x t v [] i o h = absurd i
  find_held values x t v (e ∷ es) i o h =
      by_equal (entry_of x (entries_of values (e ∷ es)) ≡ Some (entry x t v)) e.0 x
      (λ q.
      ap (entry_of x) (entries_cons values e es v (ap (value_at values) q ∙ h))
      ∙ ap (λ (b : Bool). cond b (Some (entry e.0 e.1 v)) (find (is_in x) (entries_of values es))) (eq-eqb e.0 x q)
      ∙ by_equal (Some (entry e.0 e.1 v) ≡ Some (entry x t v)) e.1 t
      (λ s. λ j. Some (entry (q j) (s j) v))
      (λ differs. absurd (o.0 (subst (λ (k : ℕ). In k (keys es)) (sym q) (in_all t x es (subst (λ (os : List Mark). In x (keys os)) (of_site_other t e es differs) i))))))
      (λ differs. find_past x e (value_at values e.0) (entries_of values es) differs
      ∙ find_held values x t v es (by_equal (In x (keys (of_site t es))) e.1 t
      (λ s. elim (subst (λ (os : List Mark). In x (keys os)) (of_site_same t e es s) i) [ inl w ↦ absurd (differs (sym w)) | inr j ↦ j ])
      (λ other. subst (λ (os : List Mark). In x (keys os)) (of_site_other t e es other) i)) o.1 h)

  pub is_none : (o : Option V) → is_some o ≡ false → o ≡ None
  is_none o h1 = search arith

  none_is : (o : Option V) → is_some o ≡ false → o ≡ None
  none_is o h1 = search arith

  -- the same slots in use, in another order
  held_as : (rings : Listed) (values : List (Option V)) (counts : List ℕ) → IsHeld rings values counts → (to : List Mark) (now : Listed) → now.order ≡ to → now.slots ≡ rings.slots → length to ≤ rings.slots → Once (keys to)
      → ((k : ℕ) → In k (keys to) → In k (keys rings.order)) → Sited to → ((k : ℕ) → In k (keys rings.order) → In k (keys to)) → ((u : ℕ) → length (of_site u to) ≡ length (of_site u rings.order)) → IsHeld now values counts
  held_as rings values counts h to now is same room once old sited new many =
      let build : (order : List Mark) → order ≡ to → IsHeld (record { slots = rings.slots; order = order; free = now.free }) values counts =
      λ order e. subst (λ (o : List Mark). IsHeld (record { slots = rings.slots; order = o; free = now.free }) values counts) (sym e) (record {
        len = h.len;
        room = room;
        once = once;
        below = λ k i. h.below k (old k i);
        sited = sited;
        held = λ k i. h.held k (old k i);
        only = λ k e. new k (h.only k e);
        many = h.many;
        counted = λ t lt. h.counted t lt ∙ sym (many t);
      }) in
      subst (λ (s : ℕ). IsHeld (record { slots = s; order = now.order; free = now.free }) values counts) (sym same) (build now.order is)

  -- ---- the calls

  module _ (rings : Listed) (values : List (Option V)) (counts : List ℕ) (h : IsHeld rings values counts) where
    abbrev order : List Mark
    order = rings.order

    abbrev entries : List (Entry V)
    entries = entries_of values order

    pub none_there : (x : ℕ) → is_some (value_at values x) ≡ false → entry_of x entries ≡ None
    none_there x e = find_none values x order (λ i. true≢false (sym (h.held x i) ∙ e))

    pub some_there : (x : ℕ) → is_some (value_at values x) ≡ true → (t : ℕ) × (v : V) × (t < 16) × In x (keys (of_site t order)) × (value_at values x ≡ Some v) × (entry_of x entries ≡ Some (entry x t v))
    some_there x e = search (in_some, by_some, find_held, arith)

    -- what a slot holds
    pub value_is : (x : ℕ) → value_at values x ≡ value_of x entries
    value_is x = search (by_flag, some_there, none_is, none_there, arith)

    pub is_there : (x : ℕ) → is_some (value_at values x) ≡ is_some (entry_of x entries)
    is_there x = search (by_flag, some_there, none_there, arith)

    pub touched_entries : (x : ℕ) → is_some (value_at values x) ≡ true → entries_of values (touched x order) ≡ shelf.touched x entries
    touched_entries x e = search (some_there, touched_is, entries_cons, entries_without, arith)

    pub untouched_entries : (x : ℕ) → is_some (value_at values x) ≡ false → shelf.touched x entries ≡ entries
    untouched_entries x e = ap (λ (o : Option (Entry V)). shelf.in_front o x entries) (none_there x e)

    pub touched_held : (slots : ℕ) → rings.slots ≡ slots → (x : ℕ) → is_some (value_at values x) ≡ true → (now : Listed) → now.order ≡ touched x order → now.slots ≡ rings.slots → IsHeld now values counts
    touched_held slots s x e now is same =
        let w = some_there x e in
        let o : now.order ≡ (x, w.0) ∷ without_slot x order = is ∙ touched_is x w.0 order w.3 h.once in
        let to : List Mark = (x, w.0) ∷ without_slot x order in
        let ks : keys to ≡ x ∷ without x (keys order) = ap (λ (l : List ℕ). x ∷ l) (keys_without x order) in
        let old : (k : ℕ) → In k (keys to) → In k (keys order) =
        λ k i. elim (subst (λ (l : List ℕ). In k l) ks i) [ inl q ↦ subst (λ (m : ℕ). In m (keys order)) (sym q) (in_all w.0 x order w.3) | inr j ↦ (in-without k x (keys order) j).0 ] in
        let longer : length to ≡ length order = (let a = length-without x (keys order) (in_all w.0 x order w.3) h.once in let b = length_keys order in
        let c = length_keys (without_slot x order) in let d = ap length (keys_without x order) in omega arith) in
        held_as rings values counts h to now o same (let a = h.room in let b = longer in omega arith)
        (subst Once (sym ks) (λ i. (in-without x x (keys order) i).1 refl, once-without x (keys order) h.once))
        old (w.2, sited_without x order h.sited)
        (λ k i. subst (λ (l : List ℕ). In k l) (sym ks) (by_equal (In k (x ∷ without x (keys order))) k x (λ q. inl q) (λ differs. inr (in_keep k x (keys order) i differs))))
        (λ u. by_equal (length (of_site u to) ≡ length (of_site u order)) w.0 u
        (λ q. let a = ap length (of_site_same u (x, w.0) (without_slot x order) q) in let b = site_shorter x u order (subst (λ (v : ℕ). In x (keys (of_site v order))) q w.3) h.once in omega arith)
        (λ differs. ap length (of_site_other u (x, w.0) (without_slot x order) differs) ∙ site_same x u order (λ i. differs (one_site x w.0 u order h.once w.3 i))))

    pub untaken : (x : ℕ) → is_some (value_at values x) ≡ false → shelf.without x entries ≡ entries
    untaken x e =
        let out : In x (keys order) → ⊥ = λ i. true≢false (sym (h.held x i) ∙ e) in
        sym (entries_without values x order) ∙ ap (entries_of values) (unmarked x order out)

    -- ---- a put

    module _ (x s : ℕ) (v : V) (w : Option V) (now : Listed) (site : s < 16) (lt : x < rings.slots) (out : In x (keys order) → ⊥) (room : length order < rings.slots)
        (wrote : w ≡ Some v) (is : now.order ≡ (x, s) ∷ order) (same : now.slots ≡ rings.slots) where
      there : value_at (set values x w) x ≡ Some v
      there = get_or-set_same values x w None (let e = h.len in omega arith) ∙ wrote

      else_there : (k : ℕ) → (k ≡ x → ⊥) → value_at (set values x w) k ≡ value_at values k
      else_there k differs = get_or-set_other values x k w None differs

      pub put_view : shelf.shelf_in now (set values x w) ≡ record { slots = rings.slots; entries = entry x s v ∷ entries }
      put_view = search (entries_cons, there, entries_set, arith)

      pub put_held : IsHeld now (set values x w) (set counts s (get_or counts s 0 + 1))
      put_held =
          let to : List Mark = (x, s) ∷ order in
          let build : (o : List Mark) (n : ℕ) → o ≡ to → n ≡ rings.slots → IsHeld (record { slots = n; order = o; free = now.free }) (set values x w) (set counts s (get_or counts s 0 + 1)) =
          λ o n eo en. subst (λ (os : List Mark). IsHeld (record { slots = n; order = os; free = now.free }) (set values x w) (set counts s (get_or counts s 0 + 1))) (sym eo)
          (subst (λ (m : ℕ). IsHeld (record { slots = m; order = to; free = now.free }) (set values x w) (set counts s (get_or counts s 0 + 1))) (sym en) (record {
            len = length-set values x w ∙ h.len;
            room = let r = room in omega arith;
            once = (out, h.once);
            below = λ k i. elim i [ inl q ↦ subst (λ (m : ℕ). m < rings.slots) (sym q) lt | inr j ↦ h.below k j ];
            sited = (site, h.sited);
            held = search (by_equal, there, else_there, arith);
            only = λ k e. by_equal (In k (keys to)) k x (λ q. inl q) (λ differs. inr (h.only k (sym (ap is_some (else_there k differs)) ∙ e)));
            many = length-set counts s (get_or counts s 0 + 1) ∙ h.many;
            counted = λ t lt'. by_equal (get_or (set counts s (get_or counts s 0 + 1)) t 0 ≡ length (of_site t to)) t s
                (λ q.
                let a = ap (λ (k : ℕ). get_or (set counts s (get_or counts s 0 + 1)) k 0) q in
                let b = get_or-set_same counts s (get_or counts s 0 + 1) 0 (let m = h.many in omega arith) in
                let c = h.counted s site in let d = ap length (of_site_same t (x, s) order (sym q)) in let f = ap (λ (k : ℕ). length (of_site k order)) q in omega arith)
                (λ differs. get_or-set_other counts s t (get_or counts s 0 + 1) 0 differs ∙ h.counted t lt' ∙ sym (ap length (of_site_other t (x, s) order (λ q. differs (sym q)))));
          })) in
          build now.order now.slots is same

    -- ---- a take

    module _ (x t : ℕ) (w : Option V) (now : Listed) (site : t < 16) (i : In x (keys (of_site t order))) (wrote : w ≡ None) (is : now.order ≡ without_slot x order) (same : now.slots ≡ rings.slots) where
      lt' : x < length values
      lt' = let b = h.below x (in_all t x order i) in let e = h.len in omega arith

      out_of : In x (keys (without_slot x order)) → ⊥
      out_of j = (in-without x x (keys order) (subst (In x) (keys_without x order) j)).1 refl

      else_there' : (k : ℕ) → (k ≡ x → ⊥) → value_at (set values x w) k ≡ value_at values k
      else_there' k differs = get_or-set_other values x k w None differs

      gone : value_at (set values x w) x ≡ None
      gone = get_or-set_same values x w None lt' ∙ wrote

      pub take_view : shelf.shelf_in now (set values x w) ≡ record { slots = rings.slots; entries = shelf.without x entries }
      take_view = search (entries_set, out_of, entries_without, arith)

      shorter : length (without_slot x order) ≤ length order
      shorter = let a = length_keys order in let b = length_keys (without_slot x order) in let c = ap length (keys_without x order) in let d = length-without x (keys order) (in_all t x order i) h.once in omega arith

      pub take_held : IsHeld now (set values x w) (set counts t (get_or counts t 0 - 1))
      take_held =
          let to : List Mark = without_slot x order in
          let build : (o : List Mark) (n : ℕ) → o ≡ to → n ≡ rings.slots → IsHeld (record { slots = n; order = o; free = now.free }) (set values x w) (set counts t (get_or counts t 0 - 1)) =
          λ o n eo en. subst (λ (os : List Mark). IsHeld (record { slots = n; order = os; free = now.free }) (set values x w) (set counts t (get_or counts t 0 - 1))) (sym eo)
          (subst (λ (m : ℕ). IsHeld (record { slots = m; order = to; free = now.free }) (set values x w) (set counts t (get_or counts t 0 - 1))) (sym en) (record {
            len = length-set values x w ∙ h.len;
            room = let a = shorter in let b = h.room in omega arith;
            once = subst Once (sym (keys_without x order)) (once-without x (keys order) h.once);
            below = λ k j. h.below k (in-without k x (keys order) (subst (In k) (keys_without x order) j)).0;
            sited = sited_without x order h.sited;
            held = λ k j. let m = in-without k x (keys order) (subst (In k) (keys_without x order) j) in ap is_some (else_there' k m.1) ∙ h.held k m.0;
            only = search (by_equal, gone, keys_without, in_keep, else_there', arith);
            many = length-set counts t (get_or counts t 0 - 1) ∙ h.many;
            counted = search (by_equal, get_or-set_same, site_shorter, get_or-set_other, site_same, one_site, arith);
          })) in
          build now.order now.slots is same

    -- what an index into the values shows
    pub shown : (x t : ℕ) (w : Option V) → In x (keys (of_site t order)) → w ≡ get_or values x w → w ≡ value_at values x
    shown x t w i is = is ∙ any-default values x w None (let b = h.below x (in_all t x order i) in let e = h.len in omega arith)

    -- ---- what holds of every shelf

    slots_are : map (λ (e : Entry V). e.slot) entries ≡ keys order
    slots_are = sym (map_map (λ (e : Mark). e.0) marked entries) ∙ ap keys (marks_of values order h.held)

    sites_are : map (λ (e : Entry V). e.site) entries ≡ map (λ (e : Mark). e.1) order
    sites_are = sym (map_map (λ (e : Mark). e.1) marked entries) ∙ ap (map (λ (e : Mark). e.1)) (marks_of values order h.held)

    pub is_valid : shelf.IsValid (shelf.shelf_in rings values)
    is_valid = record {
      once = subst Once (sym slots_are) h.once;
      slots = λ k i. h.below k (subst (In k) slots_are i);
      sites = λ k i. sited_in order k h.sited (subst (In k) sites_are i);
      room = let a = length_entries values order h.held in let b = h.room in omega arith;
    }

abbrev pub AllZero : List ℕ → Type 0
AllZero [] = Unit {0}
AllZero (x ∷ xs) = (x ≡ 0) × AllZero xs

pub zeros : (xs : List ℕ) → AllZero xs → (t : ℕ) → get_or xs t 0 ≡ 0
zeros [] z t = refl
zeros (x ∷ xs) z zero = z.0
zeros (x ∷ xs) z (suc t) = zeros xs z.1 t

-- the first values are none
pub record Emptied {V : Type 0} (values : List (Option V)) (count : ℕ) : Type 0 where
  pub len : length values ≡ count
  pub none : (k : ℕ) → get_or values k None ≡ None

module _ {V : Type 0} where
  none_pushed : (values : List (Option V)) → ((k : ℕ) → get_or values k None ≡ None) → (k : ℕ) → get_or (values ++ None ∷ []) k None ≡ None
  none_pushed [] h zero = refl
  none_pushed [] h (suc k) = refl
  none_pushed (v ∷ vs) h zero = h zero
  none_pushed (v ∷ vs) h (suc k) = none_pushed vs (λ j. h (suc j)) k

  pub emptied_more : (values : List (Option V)) (count : ℕ) → Emptied values count → Emptied (values ++ None ∷ []) (count + 1)
  emptied_more values count e = record { len = let a = length-append values (None ∷ []) in let b = e.len in omega arith; none = none_pushed values e.none }

  pub emptied_held : (values : List (Option V)) (rings : Listed) (counts : List ℕ) → Emptied values rings.slots → rings.order ≡ [] → length counts ≡ 16 → ((t : ℕ) → get_or counts t 0 ≡ 0) → IsHeld rings values counts
  emptied_held values rings counts e is many none = search arith
