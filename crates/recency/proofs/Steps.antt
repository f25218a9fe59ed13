-- The changes of nodes, as a vector's contracts tell of them.
use Rattle.recency.proofs.Vocabulary.{◌≡◌, ℕ, ◌+◌, ◌<◌, ◌≤◌, ◌^◌, Bool, true, false, List, [], ◌∷◌, length, get_or, find, Option, Some, ◌==◌, cond, sym, refl, ◌∙◌, subst, ap, inl, inr, eq-eqb, ne_eqb, arith, lt_irrefl, Ptr, Vec, vec_ptr, vec_len}
use Rattle.recency.proofs.Vocabulary.{Node, number, IsNodeAt, IsNode, index_of, node_at, link_in, left, entered, LinksLead, LinkLeads, AreLinked, In, Once, Path, older_in, newer_in, relisted, Ringed, Mark, Listed, keys, of_site, own_of, without_slot}
use Rattle.recency.proofs.Vocabulary.{first_if_some, touched, listed_in, IsListed, IsFound}
use Rattle.recency.proofs.Seen.{seen}
use Rattle.recency.proofs.Paths.{by_equal}
use Rattle.recency.proofs.Nodes.{left_leads, entered_leads, leads_still}
use Rattle.recency.proofs.Order.{found, own_free, free_at, listed_at, in_some, in_all, of_site_same, of_site_other}
use Rattle.recency.proofs.Calls.{At, puts, touches, takes}

still : (w : Bool) (t : ℕ) (n : Node) → link_in w (record n { list = t }) ≡ link_in w n
still w t n = search arith

-- ---- links still lead to nodes

module _ {A : Type 0} (v w : Vec Node A) (linked : AreLinked v) (same : (vec_ptr w ≡ vec_ptr v) × (vec_len w ≡ vec_len v)) where
  linked_in : LinksLead (vec_ptr v) (length v.items) v.items
  linked_in = subst (λ (many : ℕ). LinksLead (vec_ptr v) many v.items) v.ok.0 linked

  moved : (items : List Node) → w.items ≡ items → LinksLead (vec_ptr v) (length v.items) items → AreLinked w
  moved items is h = search arith

  node_in : (p : Ptr) → IsNode v p → IsNodeAt (vec_ptr v) (length v.items) p
  node_in p at = subst (λ (many : ℕ). IsNodeAt (vec_ptr v) many p) v.ok.0 at

  pub linked_left : (all : Bool) (p : Ptr) → IsNode v p → w.items ≡ left all (vec_ptr v) (index_of v p) v.items → AreLinked w
  linked_left all p at is = moved (left all (vec_ptr v) (index_of v p) v.items) is (left_leads all (vec_ptr v) (index_of v p) v.items (node_in p at).0 linked_in)

  pub linked_entered : (all : Bool) (h p : Ptr) → IsNode v h → IsNode v p → w.items ≡ entered all (vec_ptr v) h p v.items → AreLinked w
  linked_entered all h p there at is = moved (entered all (vec_ptr v) h p v.items) is (entered_leads all (vec_ptr v) h p v.items (node_in h there) (node_in p at) linked_in)

  pub linked_relisted : (p : Ptr) (list : ℕ) → IsNode v p → w.items ≡ relisted (index_of v p) list v.items → AreLinked w
  linked_relisted p list at is =
      moved (relisted (index_of v p) list v.items) is
      (leads_still (index_of v p) (λ n. record n { list = list }) v.items (node_in p at).0 (vec_ptr v) (length v.items)
      (λ n every u. subst (LinkLeads (vec_ptr v) (length v.items)) (sym (still u list n)) (every u)) (node_in p at).0 linked_in)

-- ---- the first of a path

first_of : (o n : ℕ → ℕ) (h : ℕ) (xs : List ℕ) (k : ℕ) → Path o n h xs h → o h ≡ k → (k ≡ h → ⊥) → (rest : List ℕ) × (xs ≡ k ∷ rest)
first_of o n h [] k p is differs = absurd (differs (sym is ∙ p.0))
first_of o n h (x ∷ xs) k p is differs = (xs, ap (λ (y : ℕ). y ∷ xs) (sym p.0 ∙ is))

none_of : (o n : ℕ → ℕ) (h : ℕ) (xs : List ℕ) (k : ℕ) → Path o n h xs h → o h ≡ k → (In k xs → ⊥) → xs ≡ []
none_of o n h [] k p is out = refl
none_of o n h (x ∷ xs) k p is out = absurd (out (inl (sym is ∙ p.0)))

-- ---- what the nodes of found rings show

module _ {A : Type 0} (slots : ℕ) (v : Vec Node A) (order : List Mark) (free : List ℕ) (l : IsListed slots (vec_ptr v) v.items order free) where
  abbrev r : Ringed slots (vec_ptr v) v.items (keys order) (own_of order free)
  r = l.ringed

  pub len_is : vec_len v ≡ slots + 18
  len_is = v.ok.0 ∙ r.len

  pub are_linked : AreLinked v
  are_linked = subst (λ (many : ℕ). LinksLead (vec_ptr v) many v.items) (sym len_is) r.linked

  -- a place that is found in this vector or in one that was made of it
  pub at_of : (w : Vec Node A) → vec_ptr w ≡ vec_ptr v → vec_len w ≡ vec_len v → (p : Ptr) (k : ℕ) → IsNode w p → index_of w p ≡ k → At slots (vec_ptr v) p k
  at_of w b n p k lies is = search arith

  -- what a look at a node tells
  pub looked : (p : Ptr) (n : Node) (k : ℕ) → IsNode v p → index_of v p ≡ k → n ≡ get_or v.items (index_of v p) n → node_at v.items k ≡ n
  looked p n k at is shows = ap (node_at v.items) (sym is) ∙ seen v p n at shows

  pub leads_on : (all : Bool) (k : ℕ) (n : Node) → k < slots + 18 → node_at v.items k ≡ n → LinkLeads (vec_ptr v) (vec_len v) (link_in all n)
  leads_on all k n lt is = subst (λ (m : Node). LinkLeads (vec_ptr v) (vec_len v) (link_in all m)) is (are_linked k (let e = len_is in omega arith) all)

  pub slot_is : (p : Ptr) (n : Node) → IsNode v p → n ≡ get_or v.items (index_of v p) n → n.slot ≡ index_of v p
  slot_is p n at shows = ap (λ (m : Node). m.slot) (sym (seen v p n at shows)) ∙ r.slot (index_of v p) (let e = len_is in let lt = at.0 in omega arith)

  -- and the next older node in the list of all
  pub leads_older : (p : Ptr) (n : Node) (k : ℕ) → k < slots + 18 → IsNode v p → index_of v p ≡ k → n ≡ get_or v.items (index_of v p) n → IsNode v n.all.older.ptr
  leads_older p n k lt at is shows = (leads_on true k n lt (looked p n k at is shows)).1

  pub older_slot : (p : Ptr) (n m : Node) (k : ℕ) → k < slots + 18 → IsNode v p → index_of v p ≡ k → n ≡ get_or v.items (index_of v p) n → m ≡ get_or v.items (index_of v n.all.older.ptr) m → m.slot ≡ older_in true (vec_ptr v) v.items k
  older_slot p n m k lt at is shows next = search (slot_is n.all.older.ptr m (leads_older p n k lt at is shows) next, leads_older p n k lt, looked p n k, arith)

  pub used_below : (k : ℕ) → In k (keys order) → k < vec_len v
  used_below k i = let a = r.all_below k i in let e = len_is in omega arith

  free_path : Path (older_in false (vec_ptr v) v.items) (newer_in false (vec_ptr v) v.items) (slots + 16) free (slots + 16)
  free_path = subst (λ (xs : List ℕ). Path (older_in false (vec_ptr v) v.items) (newer_in false (vec_ptr v) v.items) (slots + 16) xs (slots + 16)) (own_free order free 16 refl) (r.own_path 16 (omega arith))

  -- the first of the free nodes
  pub first_free : (k : ℕ) → older_in false (vec_ptr v) v.items (slots + 16) ≡ k → k < slots → (rest : List ℕ) × (free ≡ k ∷ rest)
  first_free k is lt = first_of (older_in false (vec_ptr v) v.items) (newer_in false (vec_ptr v) v.items) (slots + 16) free k free_path is (λ e. lt_irrefl slots (omega arith))

  pub none_free : (k : ℕ) → older_in false (vec_ptr v) v.items (slots + 16) ≡ k → slots ≤ k → length order ≡ slots
  none_free k is le =
      let n = none_of (older_in false (vec_ptr v) v.items) (newer_in false (vec_ptr v) v.items) (slots + 16) free k free_path is
      (λ i. lt_irrefl slots (let b = (free_at slots (vec_ptr v) v.items order free l k i).0 in omega arith)) in
      let c = l.count in let d = ap length n in omega arith

-- the nodes tell the lists in which they are
pub settled : (slots : ℕ) (base : Ptr) (nodes : List Node) (order : List Mark) (free : List ℕ) → IsListed slots base nodes order free → IsFound slots base nodes
settled slots base nodes order free l = subst (λ (t : Listed). IsListed slots base nodes t.order t.free) (sym (found slots base nodes order free l)) l

-- ---- a put

module _ {A : Type 0} (slots : ℕ) (v0 v1 v2 v3 v4 : Vec Node A) (order : List Mark) (x : ℕ) (rest : List ℕ) (s : ℕ) (p h a : Ptr) (l : IsListed slots (vec_ptr v0) v0.items order (x ∷ rest)) (site : s < 16)
    (at : At slots (vec_ptr v0) p x) (head : At slots (vec_ptr v0) h (slots + s)) (last : At slots (vec_ptr v0) a (slots + 17))
    (b1 : vec_ptr v1 ≡ vec_ptr v0) (b2 : vec_ptr v2 ≡ vec_ptr v1) (b3 : vec_ptr v3 ≡ vec_ptr v2) (b4 : vec_ptr v4 ≡ vec_ptr v3)
    (e1 : v1.items ≡ left false (vec_ptr v0) (index_of v0 p) v0.items)
    (e2 : v2.items ≡ relisted (index_of v1 p) s v1.items)
    (e3 : v3.items ≡ entered false (vec_ptr v2) h p v2.items)
    (e4 : v4.items ≡ entered true (vec_ptr v3) a p v3.items) where
  abbrev B : Ptr
  B = vec_ptr v0

  E1 : v1.items ≡ left false B x v0.items
  E1 = e1 ∙ ap (λ (k : ℕ). left false B k v0.items) at.is

  E2 : v2.items ≡ relisted x s (left false B x v0.items)
  E2 = e2 ∙ ap (λ (b : Ptr). relisted (number b p) s v1.items) b1 ∙ ap (λ (k : ℕ). relisted k s v1.items) at.is ∙ ap (relisted x s) E1

  E3 : v3.items ≡ entered false B h p (relisted x s (left false B x v0.items))
  E3 = e3 ∙ ap (λ (b : Ptr). entered false b h p v2.items) (b2 ∙ b1) ∙ ap (entered false B h p) E2

  E4 : v4.items ≡ entered true B a p (entered false B h p (relisted x s (left false B x v0.items)))
  E4 = e4 ∙ ap (λ (b : Ptr). entered true b a p v3.items) (b3 ∙ b2 ∙ b1) ∙ ap (entered true B a p) E3

  pub put_done : IsListed slots (vec_ptr v4) v4.items ((x, s) ∷ order) rest
  put_done =
      subst (λ (b : Ptr). IsListed slots b v4.items ((x, s) ∷ order) rest) (sym (b4 ∙ b3 ∙ b2 ∙ b1))
      (subst (λ (items : List Node). IsListed slots B items ((x, s) ∷ order) rest) (sym E4) (puts slots B v0.items order p h x at a last rest l s site head))

-- ---- a touch

module _ {A : Type 0} (slots : ℕ) (v0 v1 v2 v3 v4 : Vec Node A) (order : List Mark) (free : List ℕ) (x t : ℕ) (p h a : Ptr) (l : IsListed slots (vec_ptr v0) v0.items order free) (site : t < 16) (i : In x (keys (of_site t order)))
    (at : At slots (vec_ptr v0) p x) (head : At slots (vec_ptr v0) h (slots + t)) (last : At slots (vec_ptr v0) a (slots + 17))
    (b1 : vec_ptr v1 ≡ vec_ptr v0) (b2 : vec_ptr v2 ≡ vec_ptr v1) (b3 : vec_ptr v3 ≡ vec_ptr v2) (b4 : vec_ptr v4 ≡ vec_ptr v3)
    (e1 : v1.items ≡ left false (vec_ptr v0) (index_of v0 p) v0.items)
    (e2 : v2.items ≡ entered false (vec_ptr v1) h p v1.items)
    (e3 : v3.items ≡ left true (vec_ptr v2) (index_of v2 p) v2.items)
    (e4 : v4.items ≡ entered true (vec_ptr v3) a p v3.items) where
  abbrev B' : Ptr
  B' = vec_ptr v0

  F1 : v1.items ≡ left false B' x v0.items
  F1 = e1 ∙ ap (λ (k : ℕ). left false B' k v0.items) at.is

  F2 : v2.items ≡ entered false B' h p (left false B' x v0.items)
  F2 = e2 ∙ ap (λ (b : Ptr). entered false b h p v1.items) b1 ∙ ap (entered false B' h p) F1

  F3 : v3.items ≡ left true B' x (entered false B' h p (left false B' x v0.items))
  F3 = e3 ∙ ap (λ (b : Ptr). left true b (number b p) v2.items) (b2 ∙ b1) ∙ ap (λ (k : ℕ). left true B' k v2.items) at.is ∙ ap (left true B' x) F2

  F4 : v4.items ≡ entered true B' a p (left true B' x (entered false B' h p (left false B' x v0.items)))
  F4 = e4 ∙ ap (λ (b : Ptr). entered true b a p v3.items) (b3 ∙ b2 ∙ b1) ∙ ap (entered true B' a p) F3

  pub touch_done : IsListed slots (vec_ptr v4) v4.items ((x, t) ∷ without_slot x order) free
  touch_done =
      subst (λ (b : Ptr). IsListed slots b v4.items ((x, t) ∷ without_slot x order) free) (sym (b4 ∙ b3 ∙ b2 ∙ b1))
      (subst (λ (items : List Node). IsListed slots B' items ((x, t) ∷ without_slot x order) free) (sym F4) (touches slots B' v0.items order p h x at free l t site i a last head))

-- ---- a take

module _ {A : Type 0} (slots : ℕ) (v0 v1 v2 v3 v4 : Vec Node A) (order : List Mark) (free : List ℕ) (x t : ℕ) (p h : Ptr) (l : IsListed slots (vec_ptr v0) v0.items order free) (site : t < 16) (i : In x (keys (of_site t order)))
    (at : At slots (vec_ptr v0) p x) (head : At slots (vec_ptr v0) h (slots + 16))
    (b1 : vec_ptr v1 ≡ vec_ptr v0) (b2 : vec_ptr v2 ≡ vec_ptr v1) (b3 : vec_ptr v3 ≡ vec_ptr v2) (b4 : vec_ptr v4 ≡ vec_ptr v3)
    (e1 : v1.items ≡ left false (vec_ptr v0) (index_of v0 p) v0.items)
    (e2 : v2.items ≡ left true (vec_ptr v1) (index_of v1 p) v1.items)
    (e3 : v3.items ≡ relisted (index_of v2 p) 16 v2.items)
    (e4 : v4.items ≡ entered false (vec_ptr v3) h p v3.items) where
  abbrev B'' : Ptr
  B'' = vec_ptr v0

  G1 : v1.items ≡ left false B'' x v0.items
  G1 = e1 ∙ ap (λ (k : ℕ). left false B'' k v0.items) at.is

  G2 : v2.items ≡ left true B'' x (left false B'' x v0.items)
  G2 = e2 ∙ ap (λ (b : Ptr). left true b (number b p) v1.items) b1 ∙ ap (λ (k : ℕ). left true B'' k v1.items) at.is ∙ ap (left true B'' x) G1

  G3 : v3.items ≡ relisted x 16 (left true B'' x (left false B'' x v0.items))
  G3 = e3 ∙ ap (λ (b : Ptr). relisted (number b p) 16 v2.items) (b2 ∙ b1) ∙ ap (λ (k : ℕ). relisted k 16 v2.items) at.is ∙ ap (relisted x 16) G2

  G4 : v4.items ≡ entered false B'' h p (relisted x 16 (left true B'' x (left false B'' x v0.items)))
  G4 = e4 ∙ ap (λ (b : Ptr). entered false b h p v3.items) (b3 ∙ b2 ∙ b1) ∙ ap (entered false B'' h p) G3

  pub take_done : IsListed slots (vec_ptr v4) v4.items (without_slot x order) (x ∷ free)
  take_done =
      subst (λ (b : Ptr). IsListed slots b v4.items (without_slot x order) (x ∷ free)) (sym (b4 ∙ b3 ∙ b2 ∙ b1))
      (subst (λ (items : List Node). IsListed slots B'' items (without_slot x order) (x ∷ free)) (sym G4) (takes slots B'' v0.items order p h x at free l t site i head))

pub node_later : {A : Type 0} (v w : Vec Node A) → vec_ptr w ≡ vec_ptr v → vec_len w ≡ vec_len v → (p : Ptr) → IsNode v p → IsNode w p
node_later v w b n p at = subst (λ (base : Ptr). IsNodeAt base (vec_len w) p) (sym b) (subst (λ (many : ℕ). IsNodeAt (vec_ptr v) many p) (sym n) at)

pub found_order : (slots : ℕ) (base : Ptr) (nodes : List Node) (order : List Mark) (free : List ℕ) → IsListed slots base nodes order free → (listed_in slots base nodes).order ≡ order
found_order slots base nodes order free l = ap (λ (t : Listed). t.order) (found slots base nodes order free l)

-- ---- what is in use

module _ {A : Type 0} (slots : ℕ) (v : Vec Node A) (order : List Mark) (free : List ℕ) (l : IsListed slots (vec_ptr v) v.items order free) where
  pub used_site : (k : ℕ) → In k (keys order) → (n : Node) → node_at v.items k ≡ n → (n.list < 16) × In k (keys (of_site n.list order))
  used_site k i n is = search (in_some, listed_at, arith)

  pub slots_fit : slots + 18 < 2 ^ 63
  slots_fit = let e = len_is slots v order free l in let a = v.ok.1 in let b = v.small in omega arith

pub find_is : (x t : ℕ) (order : List Mark) → In x (keys (of_site t order)) → Once (keys order) → find (λ (e : Mark). e.0 == x) order ≡ Some (x, t)
find_is x t [] i once = absurd i
find_is x t (e ∷ es) i once =
    by_equal (find (λ (m : Mark). m.0 == x) (e ∷ es) ≡ Some (x, t)) e.0 x
    (λ q. ap (λ (b : Bool). cond b (Some e) (find (λ (m : Mark). m.0 == x) es)) (eq-eqb e.0 x q)
    ∙ by_equal (Some e ≡ Some (x, t)) e.1 t
    (λ s. λ j. Some (q j, s j))
    (λ differs. absurd (once.0 (subst (λ (k : ℕ). In k (keys es)) (sym q) (in_all t x es (subst (λ (os : List Mark). In x (keys os)) (of_site_other t e es differs) i))))))
    (λ differs. ap (λ (b : Bool). cond b (Some e) (find (λ (m : Mark). m.0 == x) es)) (ne_eqb e.0 x differs)
    ∙ find_is x t es (by_equal (In x (keys (of_site t es))) e.1 t
    (λ s. elim (subst (λ (os : List Mark). In x (keys os)) (of_site_same t e es s) i) [ inl w ↦ absurd (differs (sym w)) | inr j ↦ j ])
    (λ other. subst (λ (os : List Mark). In x (keys os)) (of_site_other t e es other) i)) once.1)

-- the entry that is touched
pub touched_is : (x t : ℕ) (order : List Mark) → In x (keys (of_site t order)) → Once (keys order) → touched x order ≡ (x, t) ∷ without_slot x order
touched_is x t order i once = ap (λ (found : Option Mark). first_if_some found (without_slot x order) order) (find_is x t order i once)
