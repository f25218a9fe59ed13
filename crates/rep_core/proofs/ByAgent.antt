-- A map that is kept by agent has at a transaction what its agent's map has there, and changes as its agent's map does.
use Rattle.rep_core.proofs.Vocabulary.{◌≡◌, ◌≢◌, ℕ, zero, suc, cond, List, [], ◌∷◌, Some, None, refl, sym, ◌∙◌, ap, ⊎_elim, arith, nat_cmp, is_eq, is_at, cases_Bool, eqb_tells, nat_cmp_total, lookup_head, lookup_tail, none-some, IsOrdered, get}
use Rattle.rep_core.proofs.Vocabulary.{insert, flipped, get-insert, IsOrdered-insert, same_maps, get_insert_here, get_insert_apart, Roomy, agent_of, pairs_at, with_pairs, merged, IsByAgent}
use Rattle.std.specs.List.Sorted.{IsStrictlySortedBy}

module _ {V : Type 0} where
  -- ---- one map put into another

  IsOrdered-with_pairs : (pairs others : List (ℕ × V)) → IsOrdered nat_cmp others → IsOrdered nat_cmp (with_pairs pairs others)
  IsOrdered-with_pairs [] others ordered = ordered
  IsOrdered-with_pairs (e ∷ es) others ordered = IsOrdered-insert nat_cmp_total (with_pairs es others) e.0 e.1 (IsOrdered-with_pairs es others ordered)

  get-with_pairs-first : (pairs others : List (ℕ × V)) (q : ℕ) → get nat_cmp others q ≡ None → get nat_cmp (with_pairs pairs others) q ≡ get nat_cmp pairs q
  get-with_pairs-first [] others q absent = absent
  get-with_pairs-first (e ∷ es) others q absent =
      get-insert nat_cmp_total (with_pairs es others) e.0 e.1 q
      ∙ ap (λ rest. cond (is_eq (nat_cmp e.0 q)) (Some e.1) rest) (get-with_pairs-first es others q absent)
      ∙ ap (λ b. cond b (Some e.1) (get nat_cmp es q)) (flipped nat_cmp_total e.0 q)

  get-with_pairs-others : (pairs others : List (ℕ × V)) (q : ℕ) → get nat_cmp pairs q ≡ None → get nat_cmp (with_pairs pairs others) q ≡ get nat_cmp others q
  get-with_pairs-others [] others q absent = refl
  get-with_pairs-others (e ∷ es) others q absent = ⊎_elim
      (λ here. absurd (none-some e.1 (sym absent ∙ lookup_head (is_at (nat_cmp q)) e es here)))
      (λ there. get-insert nat_cmp_total (with_pairs es others) e.0 e.1 q
      ∙ ap (λ b. cond b (Some e.1) (get nat_cmp (with_pairs es others) q)) (flipped nat_cmp_total e.0 q ∙ there)
      ∙ get-with_pairs-others es others q (sym (lookup_tail (is_at (nat_cmp q)) e es there) ∙ absent))
      (cases_Bool (is_eq (nat_cmp q e.0)))

  -- ---- all maps

  pub IsOrdered-merged : (maps : List (Roomy ℕ V)) → IsOrdered nat_cmp (merged maps)
  unfolding IsStrictlySortedBy
  IsOrdered-merged [] = tt
  IsOrdered-merged (m ∷ ms) = IsOrdered-with_pairs m.pairs (merged ms) (IsOrdered-merged ms)

  get-merged-absent : (maps : List (Roomy ℕ V)) (q : ℕ) → ((k : ℕ) → get nat_cmp (pairs_at maps k) q ≡ None) → get nat_cmp (merged maps) q ≡ None
  get-merged-absent [] q absent = refl
  get-merged-absent (m ∷ ms) q absent = get-with_pairs-others m.pairs (merged ms) q (absent zero) ∙ get-merged-absent ms q (λ k. absent (suc k))

  -- what one map alone may have
  get-merged-at : (maps : List (Roomy ℕ V)) (q k : ℕ) → ((j : ℕ) → k ≢ j → get nat_cmp (pairs_at maps j) q ≡ None) → get nat_cmp (merged maps) q ≡ get nat_cmp (pairs_at maps k) q
  get-merged-at [] q k absent = refl
  get-merged-at (m ∷ ms) q zero absent = get-with_pairs-first m.pairs (merged ms) q (get-merged-absent ms q (λ j. absent (suc j) (λ e. omega (arith, e))))
  get-merged-at (m ∷ ms) q (suc k) absent =
      get-with_pairs-others m.pairs (merged ms) q (absent zero (λ e. omega (arith, e)))
      ∙ get-merged-at ms q k (λ j apart. absent (suc j) (λ e. apart (omega (arith, e))))

  pub get-merged : (maps : List (Roomy ℕ V)) → IsByAgent maps → (q : ℕ) → get nat_cmp (merged maps) q ≡ get nat_cmp (pairs_at maps (agent_of q)) q
  get-merged maps by_agent q = get-merged-at maps q (agent_of q) (λ j apart. by_agent j q apart)

  -- ---- maps with the same pairs

  pub by_agent_same : (maps others : List (Roomy ℕ V)) → ((k : ℕ) → pairs_at others k ≡ pairs_at maps k) → IsByAgent maps → IsByAgent others
  by_agent_same maps others same by_agent k t apart = ap (λ pairs. get nat_cmp pairs t) (same k) ∙ by_agent k t apart

  pub merged_same : (maps others : List (Roomy ℕ V)) → ((k : ℕ) → pairs_at others k ≡ pairs_at maps k) → IsByAgent maps → merged others ≡ merged maps
  merged_same maps others same by_agent =
      same_maps (merged others) (merged maps) (IsOrdered-merged others) (IsOrdered-merged maps) (λ q. get-merged others (by_agent_same maps others same by_agent) q
      ∙ ap (λ pairs. get nat_cmp pairs q) (same (agent_of q))
      ∙ sym (get-merged maps by_agent q))

  -- ---- maps of which one took a new pair

  module _ (maps others : List (Roomy ℕ V)) (t : ℕ) (value : V)
      (here : pairs_at others (agent_of t) ≡ insert nat_cmp (pairs_at maps (agent_of t)) t value)
      (apart : (k : ℕ) → k ≢ agent_of t → pairs_at others k ≡ pairs_at maps k)
      (by_agent : IsByAgent maps) where
    -- at another transaction each map has what it had
    at : (k q : ℕ) → q ≢ t → get nat_cmp (pairs_at others k) q ≡ get nat_cmp (pairs_at maps k) q
    at k q differ = ⊎_elim
        (λ same. ap (λ j. get nat_cmp (pairs_at others j) q) same.1
        ∙ ap (λ pairs. get nat_cmp pairs q) here
        ∙ get_insert_apart (pairs_at maps (agent_of t)) t value q differ
        ∙ ap (λ j. get nat_cmp (pairs_at maps j) q) (sym same.1))
        (λ other. ap (λ pairs. get nat_cmp pairs q) (apart k other.1))
        (eqb_tells k (agent_of t))

    pub by_agent_insert : IsByAgent others
    by_agent_insert k q other = ⊎_elim
        (λ same. at k q (λ e. other (ap agent_of e ∙ sym same.1)) ∙ by_agent k q other)
        (λ differ. ap (λ pairs. get nat_cmp pairs q) (apart k differ.1) ∙ by_agent k q other)
        (eqb_tells k (agent_of t))

    at_all : (q : ℕ) → get nat_cmp (merged others) q ≡ get nat_cmp (insert nat_cmp (merged maps) t value) q
    at_all q = ⊎_elim
        (λ same. ap (λ x. get nat_cmp (merged others) x) same.1
        ∙ get-merged others by_agent_insert t
        ∙ ap (λ pairs. get nat_cmp pairs t) here
        ∙ get_insert_here (pairs_at maps (agent_of t)) t value
        ∙ sym (get_insert_here (merged maps) t value)
        ∙ ap (λ x. get nat_cmp (insert nat_cmp (merged maps) t value) x) (sym same.1))
        (λ differ. get-merged others by_agent_insert q
        ∙ at (agent_of q) q differ.1
        ∙ sym (get-merged maps by_agent q)
        ∙ sym (get_insert_apart (merged maps) t value q differ.1))
        (eqb_tells q t)

    pub merged_insert : merged others ≡ insert nat_cmp (merged maps) t value
    merged_insert = same_maps (merged others) (insert nat_cmp (merged maps) t value) (IsOrdered-merged others) (IsOrdered-insert nat_cmp_total (merged maps) t value (IsOrdered-merged maps)) at_all
