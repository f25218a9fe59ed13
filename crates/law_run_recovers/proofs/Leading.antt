-- Where a suite is led to: to a prefix that it had, of whose voting members that are up none shows a newer one.
use Rattle.law_run_recovers.proofs.Vocabulary.{◌≡◌, ℕ, zero, suc, ◌<◌, ◌≤◌, Bool, true, false, cond, List, [], ◌∷◌, length, Option, Some, None, refl, sym, ap, subst, ◌∙◌, arith, ◌&&◌, nat_lt, filter, find, option_map, false≢true, and_parts, and_from}
use Rattle.law_run_recovers.proofs.Vocabulary.{nat_tests, none-some, same_Some, Representative, Opening, Prefix, copy_of, State, find_some, Has, fixed_of, Fixed, server_at, WasPrefix, Inv, beginning, at_has, is_up, shown_at, shown_in, shows_newer_by}
use Rattle.law_run_recovers.proofs.Vocabulary.{newer_by, led_on, led_so_far_by, led_to_by}
use Rattle.law_suite_machine.specs.Machine.{World}
use Rattle.run_core.specs.Worlds as worlds
use Rattle.law_run_recovers.proofs.Found.{Answering}

pub not_itself : (a : ℕ) → nat_lt a a ≡ false
not_itself a = grind (arith, nat_tests)

-- ---- step by step

module _ (fixed : Fixed) (world : worlds.World) (answers : ℕ → Bool) (suite : ℕ) where
  -- one step more
  pub one_step : (n : ℕ) (from p x : Prefix) → led_so_far_by n fixed world answers suite from ≡ p → newer_by fixed world answers suite p ≡ Some x → led_so_far_by (suc n) fixed world answers suite from ≡ x
  one_step zero from p x at newer = search arith
  one_step (suc n) from p x at newer = search (none-some, one_step n, arith)

  pub stays : (n : ℕ) (from : Prefix) → newer_by fixed world answers suite from ≡ None → led_so_far_by n fixed world answers suite from ≡ from
  stays n from h2 = search arith

  -- wherever none is newer is one end
  pub one_end : (n m : ℕ) (from : Prefix) → newer_by fixed world answers suite (led_so_far_by n fixed world answers suite from) ≡ None → newer_by fixed world answers suite (led_so_far_by m fixed world answers suite from) ≡ None
      → led_so_far_by n fixed world answers suite from ≡ led_so_far_by m fixed world answers suite from
  one_end zero m from one other = sym (stays m from one)
  one_end (suc n) zero from one other = stays (suc n) from other
  one_end (suc n) (suc m) from one other = search (one_end n m, arith)

-- ---- how many pass a test

module _ {X : Type 0} (f g : X → Bool) where
  within : (xs : List X) → length (filter f xs) ≤ length xs
  within [] = omega arith
  within (x ∷ xs) = let rest = within xs in elim (f x) as (λ b. length (cond b (x ∷ filter f xs) (filter f xs)) ≤ suc (length xs)) [ true ↦ omega (arith, rest) | false ↦ omega (arith, rest) ]

  counted : (xs : List X) (x : X) → Has xs x → f x ≡ true → 1 ≤ length (filter f xs)
  counted [] x has is = absurd has
  counted (y ∷ ys) x has is = search (false≢true, counted ys x, arith)

  not_more : ((x : X) → g x ≡ true → f x ≡ true) → (xs : List X) → length (filter g xs) ≤ length (filter f xs)
  not_more so [] = omega arith
  not_more so (x ∷ xs) = search (not_more so xs, arith)

  fewer : ((x : X) → g x ≡ true → f x ≡ true) → (xs : List X) (x : X) → Has xs x → f x ≡ true → g x ≡ false → length (filter g xs) < length (filter f xs)
  fewer so [] x has is isnt = absurd has
  fewer so (y ∷ ys) x has is isnt = search (not_more, fewer so ys x, arith)

-- ---- from one prefix to the next

-- a server that is up is there
record IsUp (world : worlds.World) (i : ℕ) : Type 0 where
  st : State
  at : server_at world i ≡ Some st
  up : st.up ≡ true

up_so : (world : worlds.World) (i : ℕ) → is_up world i ≡ true → IsUp world i
up_so world i up = search arith

module _ (given : Opening) (z : ℕ) (w : World) (world : worlds.World) (inv : Inv (beginning z given) w) (answers : ℕ → Bool) (answering : Answering (fixed_of given) world z w answers) where
  -- the servers that are up and show a newer one
  abbrev above : Prefix → State → Bool
  above prefix st = st.up && nat_lt prefix.pver (copy_of st.store z).prefix.pver

  record Newer (prefix next : Prefix) : Type 0 where
    was : WasPrefix (beginning z given) w.log next
    st : State
    has : Has world.servers st
    up : st.up ≡ true
    shown : (copy_of st.store z).prefix ≡ next
    greater : nat_lt prefix.pver next.pver ≡ true

  newer : (prefix next : Prefix) → newer_by (fixed_of given) world answers z prefix ≡ Some next → Newer prefix next
  newer prefix next is = of (find (shows_newer_by (fixed_of given) world answers z prefix) prefix.votes.reps) refl is
    where
      of : (found : Option Representative) → find (shows_newer_by (fixed_of given) world answers z prefix) prefix.votes.reps ≡ found
          → option_map (λ (rep : Representative). shown_at (fixed_of given) world z rep.0) found ≡ Some next → Newer prefix next
      of None found is = absurd (none-some next is)
      of (Some rep) found is =
          let test = (find_some (shows_newer_by (fixed_of given) world answers z prefix) prefix.votes.reps rep found).1 in
          let parts = and_parts (nat_lt 0 rep.1 && answers rep.0) (nat_lt prefix.pver (shown_at (fixed_of given) world z rep.0).pver) test in
          let up = (and_parts (nat_lt 0 rep.1) (answers rep.0) parts.0).1 in
          let up' = up_so world rep.0 (answering.up rep.0 up) in
          let shown : shown_at (fixed_of given) world z rep.0 ≡ next = same_Some (shown_at (fixed_of given) world z rep.0) next is in
          record {
            was = subst (WasPrefix (beginning z given) w.log) (answering.stored rep.0 up ∙ shown) (inv.current.were rep.0).0;
            st = up'.st;
            has = at_has world.servers rep.0 up'.st up'.at;
            up = up'.up;
            shown = sym (ap (λ found. shown_in (fixed_of given) found z) up'.at) ∙ shown;
            greater = subst (λ (shown : Prefix). nat_lt prefix.pver shown.pver ≡ true) shown parts.1;
          }

  less_left : (prefix next : Prefix) → Newer prefix next → length (filter (above next) world.servers) < length (filter (above prefix) world.servers)
  less_left prefix next is = search (fewer, and_parts, nat_lt, and_from, not_itself, nat_tests, arith)

  some_left : (prefix next : Prefix) → Newer prefix next → 1 ≤ length (filter (above prefix) world.servers)
  some_left prefix next is = search (counted, and_from, nat_lt, arith)

  pub record Led (prefix : Prefix) : Type 0 where
    pub was : WasPrefix (beginning z given) w.log prefix
    pub last : newer_by (fixed_of given) world answers z prefix ≡ None

  leads : (more : ℕ) (prefix : Prefix) → WasPrefix (beginning z given) w.log prefix → length (filter (above prefix) world.servers) ≤ more → Led (led_so_far_by more (fixed_of given) world answers z prefix)
  leads zero prefix was few = record { was = was; last = of (newer_by (fixed_of given) world answers z prefix) refl }
    where
      of : (found : Option Prefix) → newer_by (fixed_of given) world answers z prefix ≡ found → newer_by (fixed_of given) world answers z prefix ≡ None
      of None is = is
      of (Some next) is = let some = some_left prefix next (newer prefix next is) in absurd (omega (arith, few, some))
  leads (suc more) prefix was few = of (newer_by (fixed_of given) world answers z prefix) refl (λ next was few. leads more next was few)
    where
      of : (found : Option Prefix) → newer_by (fixed_of given) world answers z prefix ≡ found
          → ((next : Prefix) → WasPrefix (beginning z given) w.log next → length (filter (above next) world.servers) ≤ more → Led (led_so_far_by more (fixed_of given) world answers z next))
          → Led (led_on prefix found (λ newer. led_so_far_by more (fixed_of given) world answers z newer))
      of None is go = record { was = was; last = is }
      of (Some next) is go = let new = newer prefix next is in let less = less_left prefix next new in go next new.was (omega (arith, few, less))

  pub led : (start : Prefix) → WasPrefix (beginning z given) w.log start → Led (led_to_by (fixed_of given) world answers z start)
  led start was = leads (length world.servers) start was (within (above start) (above start) world.servers)
