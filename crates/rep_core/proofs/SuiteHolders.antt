-- Who holds locks on a suite, whom a search finds first, and what that tells of a lock in the way.
use Rattle.rep_core.proofs.Vocabulary.{◌≡◌, ℕ, ◌+◌, ◌^◌, ◌≤◌, ◌<◌, Bool, true, false, cond, inl, inr, List, [], ◌∷◌, Option, Some, None, is_some, refl, sym, ap, subst, ◌∙◌, arith, Less, Equal, ◌==◌, ◌&&◌, ◌||◌, filter, find, option_map}
use Rattle.rep_core.proofs.Vocabulary.{AllByRecursion, IsTotalOrder, then_total, on_total, nat_cmp, ordering_then, is_lt, is_at, keys_of, and_parts, false≢true, nat_tests, nat_cmp_total, same_Some, IsOrdered, get, first_from, LockMode, is_exclusive}
use Rattle.rep_core.proofs.Vocabulary.{Lock, Part, IsAlone, is_own, lock_at, conflicts, in_the_way, has_lock, locked, with_prepared, if_conflict}
use Rattle.std.specs.List.Sorted.{IsStrictlySortedBy}
use Rattle.rep_core.specs.code.Holders.{AreNumbered, Holder, holder_cmp, AreHeld, is_other, other_in}
use Rattle.rep_core.proofs.Members.{Has, has_from, contains_from, has_filter, find_none}
use Rattle.rep_core.proofs.Alone.{Alone, alone_locked, alone_prepared, own_is}
use Rattle.rep_core.proofs.Finding.{any_find, find_some, none_ahead}
use Rattle.rep_core.proofs.Least.{least, same_lock}

-- ---- keys

pub holder_total : IsTotalOrder holder_cmp
holder_total = then_total (on_total (λ (k : ℕ × ℕ). k.0) nat_cmp_total) (on_total (λ (k : ℕ × ℕ). k.1) nat_cmp_total)

same_nat : (a b : ℕ) → (a == b) ≡ true → a ≡ b
same_nat a b is = grind (arith, nat_tests)

-- two keys are the same where both their parts are
pub key_is : (s t z u : ℕ) → is_at (holder_cmp (s, t)) (z, u) ≡ ((u == t) && (z == s))
key_is s t z u = search arith

-- ---- locks that stand alone

alone_contained : (locks : List Lock) → Alone locks → IsAlone locks
alone_contained locks alone a b has_a has_b = alone a b (has_from locks a has_a) (has_from locks b has_b)

alone_had : (locks : List Lock) → IsAlone locks → Alone locks
alone_had locks alone a b has_a has_b = alone a b (contains_from locks a has_a) (contains_from locks b has_b)

pub still_alone : (q : Lock → Bool) (ls : List Lock) → IsAlone ls → IsAlone (filter q ls)
still_alone q ls alone = alone_contained _ (λ a b has_a has_b. alone_had ls alone a b (has_filter q ls a has_a).0 (has_filter q ls b has_b).0)

pub still_alone_locked : (t s : ℕ) (m : LockMode) (ls : List Lock) → in_the_way t s m ls ≡ None → IsAlone ls → IsAlone (locked t s m ls)
still_alone_locked t s m ls free alone = alone_contained _ (alone_locked t s m ls free (alone_had ls alone))

pub still_alone_prepared : (t : ℕ) (parts : List Part) (ls : List Lock) → IsAlone ls → IsAlone (with_prepared t parts ls)
still_alone_prepared t parts ls alone = alone_contained _ (alone_prepared t parts ls (alone_had ls alone))

-- ---- whom a search finds

-- one that is listed is found
pub has_get : (hs : List Holder) (e : Holder) → Has hs e → is_some (get holder_cmp hs (e.0.0, e.0.1)) ≡ true
has_get [] e has = absurd has
has_get (d ∷ hs) e has = search (key_is, nat_tests, has_get hs e, arith)

passes_other : (t s u : ℕ) (d : Holder) → (u == t) ≡ false → ((d.0.1 == u) && (d.0.0 == s)) ≡ true → is_other t s d ≡ true
passes_other t s u d apart same = grind (arith, nat_tests)

-- where no other is found, no other holds the suite
pub none_other : (t s : ℕ) (hs : List Holder) → find (is_other t s) hs ≡ None → (u : ℕ) → (u == t) ≡ false → is_some (get holder_cmp hs (s, u)) ≡ false
none_other t s [] none u apart = refl
none_other t s (d ∷ hs) none u apart = search (none_ahead, key_is, false≢true, passes_other, none_other t s hs, arith)

-- those that follow are greater
behind_first : (a : ℕ × ℕ) (hs : List Holder) (z u : ℕ) → AllByRecursion (λ b. holder_cmp a b ≡ Less) (keys_of hs) → is_some (get holder_cmp hs (z, u)) ≡ true → holder_cmp a (z, u) ≡ Less
behind_first a [] z u all is = absurd (false≢true is)
behind_first a (d ∷ hs) z u all is = search (and_parts, key_is, same_nat, behind_first a hs z u, arith)

no_more : (a b : ℕ) → nat_cmp a b ≡ Less → a ≤ b
no_more a b is = grind (arith, nat_tests)

same_no_more : (a b : ℕ) → (a == b) ≡ true → a ≤ b
same_no_more a b is = grind (arith, nat_tests)

on_suite : (t s : ℕ) (d : Holder) → is_other t s d ≡ true → (d.0.0 ≡ s) × ((d.0.1 == t) ≡ false)
on_suite t s d is = (grind (arith, nat_tests), grind (arith, nat_tests))

not_less_itself : (s z : ℕ) → s ≡ z → nat_cmp s z ≡ Equal
not_less_itself s z is = grind (arith, nat_tests)

-- the other one that is found first is the least
pub least_other : (t s : ℕ) (hs : List Holder) (e : Holder) → IsOrdered holder_cmp hs → find (is_other t s) hs ≡ Some e → (u : ℕ) → (u == t) ≡ false → is_some (get holder_cmp hs (s, u)) ≡ true → e.0.1 ≤ u
unfolding IsStrictlySortedBy
least_other t s [] e ordered is u apart has = absurd (false≢true has)
least_other t s (d ∷ hs) e ordered is u apart has =
    elim (is_other t s d) as (λ b. is_other t s d ≡ b → cond b (Some d) (find (is_other t s) hs) ≡ Some e → e.0.1 ≤ u) [
      | true ↦ λ other first.
          let same : d ≡ e = cc in
          let low : d.0.1 ≤ u =
          elim (is_at (holder_cmp (s, u)) d.0) as (λ b. is_at (holder_cmp (s, u)) d.0 ≡ b → is_some (cond b (Some d.1) (get holder_cmp hs (s, u))) ≡ true → d.0.1 ≤ u) [
            | true ↦ λ at _. same_no_more d.0.1 u (and_parts (d.0.1 == u) (d.0.0 == s) (sym (key_is s u d.0.0 d.0.1) ∙ at)).0
            | false ↦ λ _ later. no_more d.0.1 u (sym (ap (λ a. ordering_then a (nat_cmp d.0.1 u)) (not_less_itself d.0.0 s (on_suite t s d other).0)) ∙ behind_first d.0 hs s u ordered.0 later)
          ] refl has
          in
          subst (λ (x : Holder). x.0.1 ≤ u) same low
      | false ↦ λ misses rest.
          elim (is_at (holder_cmp (s, u)) d.0) as (λ b. is_at (holder_cmp (s, u)) d.0 ≡ b → is_some (cond b (Some d.1) (get holder_cmp hs (s, u))) ≡ true → e.0.1 ≤ u) [
            | true ↦ λ at _. absurd (false≢true (sym misses ∙ passes_other t s u d apart (sym (key_is s u d.0.0 d.0.1) ∙ at)))
            | false ↦ λ _ later. least_other t s hs e ordered.1 rest u apart later
          ] refl has
    ] refl is

-- ---- what stands in the way

none_found : (p : Lock → Bool) (ls : List Lock) → ((l : Lock) → Has ls l → p l ≡ true → ⊥) → find p ls ≡ None
none_found p [] misses = refl
none_found p (l ∷ ls) misses = search (none_found p ls, arith)

has_own : (ls : List Lock) (l : Lock) → Has ls l → has_lock l.t l.suite ls ≡ true
has_own [] l has = absurd has
has_own (x ∷ ls) l has = search (nat_tests, has_own ls l, arith)

record Conflict (t s : ℕ) (m : LockMode) (l : Lock) : Type 0 where
  suite : l.suite ≡ s
  other : (l.t == t) ≡ false
  strong : (is_exclusive m || is_exclusive l.mode) ≡ true

conflict : (t s : ℕ) (m : LockMode) (l : Lock) → conflicts t s m l ≡ true → Conflict t s m l
conflict t s m l is = record { suite = grind (arith, nat_tests); other = grind (arith, nat_tests); strong = grind (arith, nat_tests) }

conflicts_like : (t s : ℕ) (m : LockMode) (l g : Lock) → conflicts t s m g ≡ false → g.suite ≡ s → (g.t == t) ≡ false → conflicts t s m l ≡ true → is_exclusive l.mode ≡ true
conflicts_like t s m l g free on other is = grind (arith, nat_tests)

module _ (ls : List Lock) (hs : List Holder) (held : AreHeld ls hs) (t s : ℕ) (m : LockMode) where
  holds : (l : Lock) → Has ls l → l.suite ≡ s → is_some (get holder_cmp hs (s, l.t)) ≡ true
  holds l has on = held.same l.t s ∙ ap (λ z. has_lock l.t z ls) (sym on) ∙ has_own ls l has

  pub other_holds : (e : Holder) → find (is_other t s) hs ≡ Some e → has_lock e.0.1 s ls ≡ true
  other_holds e first =
      let is = find_some (is_other t s) hs e first in
      let on = (on_suite t s e is.1).0 in
      sym (held.same e.0.1 s) ∙ ap (λ z. is_some (get holder_cmp hs (z, e.0.1))) (sym on) ∙ has_get hs e is.0

  pub way_none : find (is_other t s) hs ≡ None → in_the_way t s m ls ≡ None
  way_none none = search (none_found, conflict, false≢true, none_other, holds, arith)

  pub way_some : (e : Holder) (g : Lock) → find (is_other t s) hs ≡ Some e → Has ls g → g.t ≡ e.0.1 → g.suite ≡ s → in_the_way t s m ls ≡ cond (conflicts t s m g) (Some g) None
  way_some e g first has it on = by (conflicts t s m g) refl
    where
      apart : (g.t == t) ≡ false
      apart = ap (λ n. n == t) it ∙ (on_suite t s e (find_some (is_other t s) hs e first).1).1

      low : (l : Lock) → Has ls l → conflicts t s m l ≡ true → g.t ≤ l.t
      low l has is = search (conflict, least_other, holds, arith)

      first_is : (o : Option Lock) → in_the_way t s m ls ≡ o → conflicts t s m g ≡ true → o ≡ Some g
      first_is None is strong = absurd (false≢true (sym (find_none (conflicts t s m) ls g is has) ∙ strong))
      first_is (Some l) is strong =
          let f = find_some (conflicts t s m) ls l is in
          let one = low l f.0 f.1 in
          let two = least (conflicts t s m) ls l g held.rising is has strong in
          let t_same : l.t ≡ g.t = omega (arith, one, two) in
          ap Some (same_lock ls l g held.rising f.0 has t_same ((conflict t s m l f.1).suite ∙ sym on))

      by : (b : Bool) → conflicts t s m g ≡ b → in_the_way t s m ls ≡ cond b (Some g) None
      by b h1 = search (first_is, none_found, conflict, conflicts_like, apart, alone_had, same_lock, false≢true, arith)

-- ---- what the holders tell of a conflict

module _ (ls : List Lock) (hs : List Holder) (held : AreHeld ls hs) (t s : ℕ) (m : LockMode) where
  pub way_untold : option_map (λ (h : Holder). h.0.1) (find (is_other t s) hs) ≡ None → None ≡ in_the_way t s m ls
  way_untold none = search (way_none, arith)

  pub way_told : (u : ℕ) → option_map (λ (h : Holder). h.0.1) (find (is_other t s) hs) ≡ Some u → if_conflict t s m (lock_at u s ls) ≡ in_the_way t s m ls
  way_told u told = by (find (is_other t s) hs) refl told
    where
      at_lock : (e : Holder) → find (is_other t s) hs ≡ Some e → e.0.1 ≡ u → (o : Option Lock) → lock_at u s ls ≡ o → is_some o ≡ true → if_conflict t s m o ≡ in_the_way t s m ls
      at_lock e h1 h2 o h4 h5 = search (false≢true, find_some, own_is, way_some, arith)

      by : (o : Option Holder) → find (is_other t s) hs ≡ o → option_map (λ (h : Holder). h.0.1) o ≡ Some u → if_conflict t s m (lock_at u s ls) ≡ in_the_way t s m ls
      by None first told = absurd cc
      by (Some e) first told =
          let same : e.0.1 ≡ u = cc in
          at_lock e first same (lock_at u s ls) refl (sym (any_find (is_own u s) ls) ∙ ap (λ n. has_lock n s ls) (sym same) ∙ other_holds ls hs held t s m e first)

-- ---- the last number

module _ {V : Type 0} where
  -- the first pair from a key on is one of them, and not below the key
  pub first_has : (k : ℕ × ℕ) (ps : List ((ℕ × ℕ) × V)) (p : (ℕ × ℕ) × V) → first_from holder_cmp k ps ≡ Some p → Has ps p × (is_lt (holder_cmp p.0 k) ≡ false)
  first_has k [] p is = absurd cc
  first_has k (d ∷ ps) p is =
      elim (is_lt (holder_cmp d.0 k)) as (λ b. is_lt (holder_cmp d.0 k) ≡ b → cond b (first_from holder_cmp k ps) (Some d) ≡ Some p → Has (d ∷ ps) p × (is_lt (holder_cmp p.0 k) ≡ false)) [
        | true ↦ λ _ is. let rest = first_has k ps p is in (inr rest.0, rest.1)
        | false ↦ λ over is. let same = same_Some d p is in (inl same, ap (λ (x : (ℕ × ℕ) × V). is_lt (holder_cmp x.0 k)) (sym same) ∙ over)
      ] refl is

not_below : (s n z u : ℕ) → z ≡ s → is_lt (holder_cmp (z, u) (s, n)) ≡ false → n ≤ u
not_below s n z u same over = search arith

-- nobody stands behind a transaction of the last number
pub none_last : (t s : ℕ) (hs : List Holder) → AreNumbered hs → 2 ^ 64 ≤ t + 1 → other_in t s (first_from holder_cmp (s, t + 1) hs) ≡ None
none_last t s hs few last = by (first_from holder_cmp (s, t + 1) hs) refl
  where
    by : (o : Option Holder) → first_from holder_cmp (s, t + 1) hs ≡ o → other_in t s o ≡ None
    by None is = refl
    by (Some h) is = elim (is_other t s h) as (λ b. is_other t s h ≡ b → cond b (Some h.0.1) None ≡ None) [
      | true ↦ λ other.
          let on = (on_suite t s h other).0 in
          let has = first_has (s, t + 1) hs h is in
          let least : t + 1 ≤ h.0.1 = not_below s (t + 1) h.0.0 h.0.1 on has.1 in
          let most : h.0.1 < 2 ^ 64 = few h.0.1 s (ap (λ z. is_some (get holder_cmp hs (z, h.0.1))) (sym on) ∙ has_get hs h has.0) in
          absurd (omega (arith, least, most, last))
      | false ↦ λ _. refl
    ] refl
