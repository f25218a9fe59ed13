-- What each call of the rings makes of their lists.
use Rattle.recency.proofs.Vocabulary.{◌≡◌, ℕ, ◌+◌, ◌<◌, ◌⊎◌, Bool, true, false, not, cond, if◌then◌else◌, List, [], ◌∷◌, length, map, Some, None, option_map, sym, refl, ◌∙◌, subst, ap, inl, inr, eq-eqb, ne_eqb, arith, lt_irrefl, ◌≤◌, nat_lt, le-ltb}
use Rattle.recency.proofs.Vocabulary.{lt-ltb, then_some, Ptr, Node, In, without, Path, follow, older_in, newer_in, list_at, Ringed, Mark, keys, of_site, own_of, without_slot, first_of, older_than, last_of, Sited, listed_in, IsListed}
use Rattle.recency.proofs.Paths.{by_equal, without-same, without-other, followed}

-- ---- lists of marks

pub length_keys : (order : List Mark) → length (keys order) ≡ length order
length_keys [] = refl
length_keys (e ∷ es) = let r = length_keys es in omega arith

pub keys_without : (x : ℕ) (order : List Mark) → keys (without_slot x order) ≡ without x (keys order)
keys_without x [] = refl
keys_without x (e ∷ es) = search (by_equal, eq-eqb, without-same, ne_eqb, without-other, keys_without x es, arith)

-- the first of a site's list, or another site's
pub of_site_same : (t : ℕ) (e : Mark) (es : List Mark) → e.1 ≡ t → of_site t (e ∷ es) ≡ e ∷ of_site t es
of_site_same t e es q = ap (λ (b : Bool). cond b (e ∷ of_site t es) (of_site t es)) (eq-eqb e.1 t q)

pub of_site_other : (t : ℕ) (e : Mark) (es : List Mark) → (e.1 ≡ t → ⊥) → of_site t (e ∷ es) ≡ of_site t es
of_site_other t e es differs = ap (λ (b : Bool). cond b (e ∷ of_site t es) (of_site t es)) (ne_eqb e.1 t differs)

pub without_slot_same : (x : ℕ) (e : Mark) (es : List Mark) → e.0 ≡ x → without_slot x (e ∷ es) ≡ without_slot x es
without_slot_same x e es q = ap (λ (t : Bool). cond (not t) (e ∷ without_slot x es) (without_slot x es)) (eq-eqb e.0 x q)

pub without_slot_other : (x : ℕ) (e : Mark) (es : List Mark) → (e.0 ≡ x → ⊥) → without_slot x (e ∷ es) ≡ e ∷ without_slot x es
without_slot_other x e es differs = ap (λ (t : Bool). cond (not t) (e ∷ without_slot x es) (without_slot x es)) (ne_eqb e.0 x differs)

pub site_without : (t x : ℕ) (order : List Mark) → keys (of_site t (without_slot x order)) ≡ without x (keys (of_site t order))
site_without t x [] = refl
site_without t x (e ∷ es) = search (by_equal, without_slot_same, of_site_same, without-same, of_site_other, without_slot_other, without-other, site_without t x es, arith)

pub sited_without : (x : ℕ) (order : List Mark) → Sited order → Sited (without_slot x order)
sited_without x [] h = tt
sited_without x (e ∷ es) h = search (by_equal, without_slot_same, without_slot_other, sited_without x es, arith)

-- what is in a site's list is in the list of all
pub in_all : (t k : ℕ) (order : List Mark) → In k (keys (of_site t order)) → In k (keys order)
in_all t k [] i = i
in_all t k (e ∷ es) i = search (by_equal, of_site_same, of_site_other, in_all t k es, arith)

-- and the other way
pub in_some : (k : ℕ) (order : List Mark) → In k (keys order) → Sited order → (t : ℕ) × (t < 16) × In k (keys (of_site t order))
in_some k [] i h = absurd i
in_some k (e ∷ es) (inl q) h = (e.1, h.0, subst (λ (l : List Mark). In k (keys l)) (sym (of_site_same e.1 e es refl)) (inl q))
in_some k (e ∷ es) (inr j) h = search (by_equal, of_site_same, of_site_other, in_some k es j, arith)

pub own_site : (order : List Mark) (free : List ℕ) (t : ℕ) → (t ≡ 16 → ⊥) → own_of order free t ≡ keys (of_site t order)
own_site order free t differs = ap (λ (b : Bool). if b then free else keys (of_site t order)) (ne_eqb t 16 differs)

pub own_free : (order : List Mark) (free : List ℕ) (t : ℕ) → t ≡ 16 → own_of order free t ≡ free
own_free order free t q = ap (λ (b : Bool). if b then free else keys (of_site t order)) (eq-eqb t 16 q)

below_16 : (t : ℕ) → t < 16 → t ≡ 16 → ⊥
below_16 t lt e = lt_irrefl 16 (subst (λ (k : ℕ). k < 16) e lt)

module _ (nodes : List Node) where
  -- each node is put down for its site
  abbrev Marked : List Mark → Type 0
  Marked [] = Unit {0}
  Marked (e ∷ es) = (list_at nodes e.0 ≡ e.1) × Marked es

  marked : (order : List Mark) → Sited order → ((t : ℕ) → t < 16 → (k : ℕ) → In k (keys (of_site t order)) → list_at nodes k ≡ t) → Marked order
  marked [] h f = tt
  marked (e ∷ es) h f = (
    f e.1 h.0 e.0 (subst (λ (l : List Mark). In e.0 (keys l)) (sym (of_site_same e.1 e es refl)) (inl refl)),
    marked es h.1 (λ t lt k i. f t lt k (by_equal (In k (keys (of_site t (e ∷ es)))) e.1 t
        (λ q. subst (λ (l : List Mark). In k (keys l)) (sym (of_site_same t e es q)) (inr i))
        (λ differs. subst (λ (l : List Mark). In k (keys l)) (sym (of_site_other t e es differs)) i))),
  )

  marks_back : (order : List Mark) → Marked order → map (λ k. (k, list_at nodes k)) (keys order) ≡ order
  marks_back [] m = refl
  marks_back (e ∷ es) m = ap (λ (s : ℕ). (e.0, s) ∷ map (λ k. (k, list_at nodes k)) (keys es)) m.0 ∙ ap (λ (l : List Mark). e ∷ l) (marks_back es m.1)

module _ (slots : ℕ) (base : Ptr) (nodes : List Node) (order : List Mark) (free : List ℕ) (l : IsListed slots base nodes order free) where
  abbrev own : ℕ → List ℕ
  own = own_of order free

  abbrev r : Ringed slots base nodes (keys order) own
  r = l.ringed

  pub listed_at : (t : ℕ) → t < 16 → (k : ℕ) → In k (keys (of_site t order)) → (k < slots) × (list_at nodes k ≡ t)
  listed_at t lt k i = r.own_at t (omega arith) k (subst (λ (xs : List ℕ). In k xs) (sym (own_site order free t (below_16 t lt))) i)

  pub marked_all : Marked nodes order
  marked_all = marked nodes order l.sited (λ t lt k i. (listed_at t lt k i).1)

  pub free_at : (k : ℕ) → In k free → (k < slots) × (list_at nodes k ≡ 16)
  free_at k i = r.own_at 16 (omega arith) k (subst (λ (xs : List ℕ). In k xs) (sym (own_free order free 16 refl)) i)

  -- the nodes tell these lists
  pub found : listed_in slots base nodes ≡ record { slots = slots; order = order; free = free }
  found =
      let n = length_keys order in let c = l.count in
      let a : follow (older_in true base nodes) (slots + 17) slots (older_in true base nodes (slots + 17)) ≡ keys order =
      followed (older_in true base nodes) (newer_in true base nodes) (keys order) (slots + 17) (slots + 17) slots r.all_path (λ i. let lt = r.all_below (slots + 17) i in omega arith) (omega arith) in
      let b : follow (older_in false base nodes) (slots + 16) slots (older_in false base nodes (slots + 16)) ≡ free =
      followed (older_in false base nodes) (newer_in false base nodes) free (slots + 16) (slots + 16) slots
      (subst (λ (xs : List ℕ). Path (older_in false base nodes) (newer_in false base nodes) (slots + 16) xs (slots + 16)) (own_free order free 16 refl) (r.own_path 16 (omega arith)))
      (λ i. let lt = (free_at (slots + 16) i).0 in omega arith) (omega arith) in
      let c' : map (λ k. (k, list_at nodes k)) (keys order) ≡ order = marks_back nodes order marked_all in
      λ i. record { slots = slots; order = (ap (map (λ k. (k, list_at nodes k))) a ∙ c') i; free = b i }

-- ---- the last of a list

cons_nil : (x : ℕ) (xs : List ℕ) → x ∷ xs ≡ [] → ⊥
cons_nil x xs e = let h = ap length e in lt_irrefl 0 (omega arith)

pub last_map : {X Y : Type 0} (f : X → Y) (xs : List X) → last_of (map f xs) ≡ option_map f (last_of xs)
last_map f [] = refl
last_map f (x ∷ []) = refl
last_map f (x ∷ (y ∷ ys)) = last_map f (y ∷ ys)

-- where the links lead back from the end of a path
pub last_back : (o n : ℕ → ℕ) (a : ℕ) (xs : List ℕ) (z : ℕ) → Path o n a xs z → ((xs ≡ []) × (n z ≡ a)) ⊎ (last_of xs ≡ Some (n z)) × In (n z) xs
last_back o n a [] z p = inl (refl, p.1)
last_back o n a (x ∷ []) z p = inr (ap Some (sym p.2.1), inl p.2.1)
last_back o n a (x ∷ (y ∷ ys)) z p = elim (last_back o n x (y ∷ ys) z p.2) [ inl w ↦ inr (absurd (cons_nil y ys w.0)) | inr w ↦ inr (w.0, inr w.1) ]

-- the oldest, as a look finds it
pub oldest_is : (o n : ℕ → ℕ) (slots h : ℕ) (order : List Mark) → Path o n h (keys order) h → slots ≤ h → ((k : ℕ) → In k (keys order) → k < slots) → then_some (nat_lt (n h) slots) (n h) ≡ option_map (λ (e : Mark). e.0) (last_of order)
oldest_is o n slots h order p le below =
    elim (last_back o n h (keys order) h p) [
      | inl w ↦ ap (λ (t : Bool). then_some t (n h)) (le-ltb (n h) slots (omega arith)) ∙ ap last_of (sym w.0) ∙ last_map (λ (e : Mark). e.0) order
      | inr w ↦ ap (λ (t : Bool). then_some t (n h)) (lt-ltb (n h) slots (below (n h) w.1)) ∙ sym w.0 ∙ last_map (λ (e : Mark). e.0) order
    ]

-- ---- the first of a list, and the one behind another

-- the node behind the start of a path, as a look finds it
pub first_is : (o n : ℕ → ℕ) (slots a h : ℕ) (order : List Mark) → Path o n a (keys order) h → slots ≤ h → ((k : ℕ) → In k (keys order) → k < slots) → then_some (nat_lt (o a) slots) (o a) ≡ option_map (λ (e : Mark). e.0) (first_of order)
first_is o n slots a h [] p le below = ap (λ (t : Bool). then_some t (o a)) (le-ltb (o a) slots (let q = p.0 in omega arith))
first_is o n slots a h (e ∷ es) p le below = ap (λ (t : Bool). then_some t (o a)) (lt-ltb (o a) slots (below (o a) (inl p.0))) ∙ ap Some p.0

-- and behind one that is on the path
pub next_is : (o n : ℕ → ℕ) (slots x a h : ℕ) (order : List Mark) → Path o n a (keys order) h → slots ≤ h → ((k : ℕ) → In k (keys order) → k < slots) → In x (keys order)
    → then_some (nat_lt (o x) slots) (o x) ≡ option_map (λ (e : Mark). e.0) (older_than x order)
next_is o n slots x a h [] p le below i = absurd i
next_is o n slots x a h (e ∷ es) p le below i =
    by_equal (then_some (nat_lt (o x) slots) (o x) ≡ option_map (λ (e : Mark). e.0) (older_than x (e ∷ es))) e.0 x
    (λ q. first_is o n slots x h es (subst (λ (k : ℕ). Path o n k (keys es) h) q p.2) le (λ k j. below k (inr j))
    ∙ sym (ap (λ (b : Bool). option_map (λ (e : Mark). e.0) (if b then first_of es else older_than x es)) (eq-eqb e.0 x q)))
    (λ differs. elim i [
      | inl q ↦ absurd (differs (sym q))
      | inr j ↦ next_is o n slots x e.0 h es p.2 le (λ k m. below k (inr m)) j ∙ sym (ap (λ (b : Bool). option_map (λ (e : Mark). e.0) (if b then first_of es else older_than x es)) (ne_eqb e.0 x differs))
    ])

pub none_older : (x : ℕ) (order : List Mark) → (In x (keys order) → ⊥) → older_than x order ≡ None
none_older x [] out = refl
none_older x (e ∷ es) out = ap (λ (b : Bool). if b then first_of es else older_than x es) (ne_eqb e.0 x (λ q. out (inl (sym q)))) ∙ none_older x es (λ i. out (inr i))
