-- Where servers are up as before, and show what they showed, a transaction demands what it did before.
use Rattle.law_run_recovers.proofs.Vocabulary.{◌≡◌, ◌⊎◌, inl, inr, ⊎_elim, ℕ, zero, suc, Bool, true, cond, List, [], ◌∷◌, length, Option, Some, None, refl, ap, ◌∙◌, ◌&&◌, nat_lt, find, option_map, and_parts, Identity, arith, Representative}
use Rattle.law_run_recovers.proofs.Vocabulary.{Configuration, votes_in, absent_prefix, Prefix, find_some, Op, PlainTable, Cache, hint, Fixed, World, is_up, shown_at, demands, all_met, shows_newer_by, newer_by, newer_from, led_so_far_by, led_to}
use Rattle.law_run_recovers.proofs.Vocabulary.{MayStart, VotesAreUp}
use Rattle.law_run_recovers.proofs.Leading.{stays}
use Rattle.law_run_recovers.proofs.Picks.{votes_alike}
use Rattle.law_run_recovers.proofs.Unmoved.{map_alike}

find_alike : {X : Type 0} (f g : X → Bool) → ((x : X) → f x ≡ g x) → (xs : List X) → find f xs ≡ find g xs
find_alike f g same [] = refl
find_alike f g same (x ∷ xs) = ap (λ b. cond b (Some x) (find f xs)) (same x) ∙ ap (λ rest. cond (g x) (Some x) rest) (find_alike f g same xs)

-- what a site's cache hints later: what it did before, or where such a hint or what was never made leads to
pub record LeadsFrom (led : ℕ → Prefix → Prefix) (fixed : Fixed) (cache : Cache) (site z : ℕ) (prefix : Prefix) : Type 0 where
  pub start : Prefix
  pub may : MayStart fixed cache site z start
  pub is : prefix ≡ led z start

abbrev pub HintsLed : (ℕ → Prefix → Prefix) → Fixed → Cache → ℕ → Cache → Type 0
HintsLed led fixed cache site now = (z : ℕ) (prefix : Prefix) → hint now site z ≡ Some prefix → (hint cache site z ≡ Some prefix) ⊎ LeadsFrom led fixed cache site z prefix

-- what leads to the same
pub hints_alike : (led other : ℕ → Prefix → Prefix) (fixed : Fixed) (cache : Cache) (site : ℕ) (now : Cache) → ((z : ℕ) (start : Prefix) → led z start ≡ other z start) → HintsLed led fixed cache site now
    → HintsLed other fixed cache site now
hints_alike led other fixed cache site now same hints z prefix hinted =
    ⊎_elim
    (λ old. inl old)
    (λ (new : LeadsFrom led fixed cache site z prefix). inr (record { start = new.start; may = new.may; is = new.is ∙ same z new.start }))
    (hints z prefix hinted)

-- where the same answer, and show what they showed, a prefix leads to what it did
module _ (fixed : Fixed) (before after : World) (was now : ℕ → Bool) (same : (i : ℕ) → now i ≡ was i) (shown : (z i : ℕ) → was i ≡ true → shown_at fixed after z i ≡ shown_at fixed before z i) where
  same_test : (z : ℕ) (prefix : Prefix) (rep : Representative) → shows_newer_by fixed after now z prefix rep ≡ shows_newer_by fixed before was z prefix rep
  same_test z prefix rep = search arith

  same_newer : (z : ℕ) (prefix : Prefix) → newer_by fixed after now z prefix ≡ newer_by fixed before was z prefix
  same_newer z prefix =
      ap (option_map (λ (rep : Representative). shown_at fixed after z rep.0)) (find_alike (shows_newer_by fixed after now z prefix) (shows_newer_by fixed before was z prefix) (same_test z prefix) prefix.votes.reps)
      ∙ of (find (shows_newer_by fixed before was z prefix) prefix.votes.reps) refl
    where
      of : (found : Option Representative) → find (shows_newer_by fixed before was z prefix) prefix.votes.reps ≡ found
          → option_map (λ (rep : Representative). shown_at fixed after z rep.0) found ≡ option_map (λ (rep : Representative). shown_at fixed before z rep.0) found
      of None is = refl
      of (Some rep) is =
          let test = (find_some (shows_newer_by fixed before was z prefix) prefix.votes.reps rep is).1 in
          let parts = and_parts (nat_lt 0 rep.1 && was rep.0) (nat_lt prefix.pver (shown_at fixed before z rep.0).pver) test in
          ap (λ (p : Prefix). Some p) (shown z rep.0 (and_parts (nat_lt 0 rep.1) (was rep.0) parts.0).1)

  pub same_so_far : (n z : ℕ) (prefix : Prefix) → led_so_far_by n fixed after now z prefix ≡ led_so_far_by n fixed before was z prefix
  same_so_far zero z prefix = refl
  same_so_far (suc n) z prefix = search (same_newer, same_so_far n z, arith)

module _ (fixed : Fixed) (before after : World) (many : length after.servers ≡ length before.servers) (up : (i : ℕ) → is_up after i ≡ is_up before i)
    (shown : (z i : ℕ) → is_up before i ≡ true → shown_at fixed after z i ≡ shown_at fixed before z i) where
  pub same_led : (z : ℕ) (prefix : Prefix) → led_to fixed after z prefix ≡ led_to fixed before z prefix
  same_led z prefix = ap (λ n. led_so_far_by n fixed after (is_up after) z prefix) many ∙ same_so_far fixed before after (is_up before) (is_up after) up shown (length before.servers) z prefix

  same_votes_up : (votes : Configuration) → votes_in votes.reps (is_up after) ≡ votes_in votes.reps (is_up before)
  same_votes_up votes = votes_alike votes.reps (is_up after) (is_up before) (λ rep has some. up rep.0)

  -- from prefixes that lead to the same
  pub same_demands : (table : PlainTable) (t : ℕ) (caller : Identity) (ops : List Op) (start start' : ℕ → Prefix) → ((z : ℕ) → led_to fixed before z (start' z) ≡ led_to fixed before z (start z))
      → demands fixed after table t caller ops start' ≡ demands fixed before table t caller ops start
  same_demands table t caller ops start start' same = search (map_alike, same_votes_up, same_led, arith)

  record Same (cache : Cache) (site z : ℕ) (later : Prefix) : Type 0 where
    start : Prefix
    may : MayStart fixed cache site z start
    same : led_to fixed before z later ≡ led_to fixed before z start

  -- so where votes are up from wherever a suite may be looked for, they are still, by what its cache then hints
  pub still_up : (table : PlainTable) (cache now : Cache) (t site : ℕ) (caller : Identity) (ops : List Op) → ((z : ℕ) (start : Prefix) → MayStart fixed cache site z start → newer_from fixed before z (led_to fixed before z start) ≡ None)
      → HintsLed (λ z start. led_to fixed before z start) fixed cache site now → VotesAreUp fixed before table cache t site caller ops → VotesAreUp fixed after table now t site caller ops
  still_up table cache now t site caller ops last hints all start' may =
      ap all_met (same_demands table t caller ops (λ z. (from z).start) start' (λ z. (from z).same)) ∙ all (λ z. (from z).start) (λ z. (from z).may)
    where
      from : (z : ℕ) → Same cache site z (start' z)
      from z = ⊎_elim
          (λ absent. record { start = absent_prefix fixed.service.c0; may = inl refl; same = ap (led_to fixed before z) absent })
          (λ hinted. ⊎_elim
          (λ old. record { start = start' z; may = inr old; same = refl })
          (λ (new : LeadsFrom (λ z start. led_to fixed before z start) fixed cache site z (start' z)). record {
            start = new.start;
            may = new.may;
            same = ap (led_to fixed before z) new.is ∙ stays fixed before (is_up before) z (length before.servers) (led_to fixed before z new.start) (last z new.start new.may);
          })
          (hints z (start' z) hinted))
          (may z)
