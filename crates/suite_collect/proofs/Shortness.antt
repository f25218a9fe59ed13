-- What a Short means.
use Rattle.suite_collect.proofs.Vocabulary.{◌≡◌, ℕ, ◌<◌, Bool, true, false, cond, ◌⊎◌, inl, inr, List, [], ◌∷◌, Option, Some, None, refl, sym, ap, ◌∙◌, arith, nat_lt, nat_le, not, ◌&&◌, ◌||◌, ◌==◌, find, nat_tests, Representative, Said}
use Rattle.suite_collect.proofs.Vocabulary.{Busy, Told, is_held, is_down, is_busy_with, has_told, has_refused, busy_in, first_busy, Collector, all_told, counted, needed, got, is_member, is_left, version, members_of, ask_or_short, Current}
use Rattle.suite_collect.proofs.Vocabulary.{Short, ShortHasNoneLeft}
use Rattle.rep_core.proofs.Members.{has_from, find_none}
use Rattle.suite_collect.specs.Telling as telling

-- ---- who was found busy

-- where none was found busy, who refused is down
step_down : (server : ℕ) (said : Said) (before : Option (ℕ × ℕ)) → busy_in server said before ≡ None → (not (is_held said) ≡ is_down said) × (before ≡ None)
step_down server said (Some first) is = cc
step_down server (Busy holder) None is = cc
step_down server _ None is = (refl, refl)

refused_are_down : (told : List Told) → first_busy told ≡ None → (server : ℕ) → has_refused told server ≡ has_told (λ one. is_down one.said) told server
refused_are_down [] none server = refl
refused_are_down (last ∷ told) none server =
    let step = step_down last.server last.said (first_busy told) none in
    ap (λ b. ((last.server == server) && b) || has_refused told server) step.0
    ∙ ap (λ b. ((last.server == server) && is_down last.said) || b) (refused_are_down told step.1 server)

-- one that is found busy was met
later : (a : Bool) {b : Bool} → b ≡ true → (a || b) ≡ true
later true is = refl
later false is = is

met_now : (server holder : ℕ) → ((server == server) && (holder == holder)) ≡ true
met_now server holder = grind (arith, nat_tests)

step_met : (at : ℕ) (said : Said) (before : Option (ℕ × ℕ)) (server holder : ℕ) → busy_in at said before ≡ Some (server, holder)
    → (before ≡ Some (server, holder)) ⊎ (((at == server) && is_busy_with holder said) ≡ true)
step_met at said (Some first) server holder is = inl is
step_met at (Busy other) None server holder is =
    let same : (at ≡ server) × (other ≡ holder) = (ap (λ (found : Option (ℕ × ℕ)). elim found [ Some pair ↦ pair.0 | None ↦ 0 ]) is, ap (λ (found : Option (ℕ × ℕ)). elim found [ Some pair ↦ pair.1 | None ↦ 0 ]) is) in
    inr (ap (λ n. (n == server) && (other == holder)) same.0 ∙ ap (λ n. (server == server) && (n == holder)) same.1 ∙ met_now server holder)
step_met at _ None server holder is = cc

was_met : (told : List Told) (server holder : ℕ) → first_busy told ≡ Some (server, holder) → has_told (λ one. is_busy_with holder one.said) told server ≡ true
was_met [] server holder is = cc
was_met (last ∷ told) server holder is =
    elim (step_met last.server last.said (first_busy told) server holder is) [
      | inl before ↦ later ((last.server == server) && is_busy_with holder last.said) (was_met told server holder before)
      | inr now ↦ ap (λ b. b || has_told (λ one. is_busy_with holder one.said) told server) now
    ]

-- ---- nobody is left

not_left : (some member refused : Bool) → some ≡ true → (some && not member && not refused) ≡ false → (member ≡ true) ⊎ (refused ≡ true)
not_left true true refused is fails = inl refl
not_left true false true is fails = inr refl
not_left true false false is fails = cc
not_left false member refused is fails = cc

-- what stands behind a Short
record Tells (c : Collector) (had wanting : ℕ) (busy : Option (ℕ × ℕ)) : Type 0 where
  too_few : nat_le (needed c) (got c) ≡ false
  nobody : find (is_left c) (counted c).reps ≡ None
  had_is : got c ≡ had
  wanting_is : needed c ≡ wanting
  busy_is : first_busy (all_told c) ≡ busy

short_of : (c : Collector) (b : Bool) (found : Option Representative) (had wanting : ℕ) (busy : Option (ℕ × ℕ))
    → nat_le (needed c) (got c) ≡ b → find (is_left c) (counted c).reps ≡ found
    → cond b (Current (telling.newest c.start c.told) (version c) (members_of (counted c) (is_member c))) (ask_or_short c found) ≡ Short had wanting busy
    → Tells c had wanting busy
short_of c true found had wanting busy few left is = cc
short_of c false (Some rep) had wanting busy few left is = cc
short_of c false None had wanting busy few left is = record { too_few = few; nobody = left; had_is = cc; wanting_is = cc; busy_is = cc }

pub short_has_none_left : ShortHasNoneLeft
short_has_none_left c had wanting busy is =
    let tells = short_of c (nat_le (needed c) (got c)) (find (is_left c) (counted c).reps) had wanting busy refl refl is in
    record {
      votes = sym tells.had_is;
      threshold = sym tells.wanting_is;
      too_few = below (needed c) (got c) tells.too_few tells.wanting_is tells.had_is;
      none_left = λ rep there some.
          not_left (nat_lt 0 rep.1) (is_member c rep.0) (has_refused (all_told c) rep.0) (votes some)
          (find_none (is_left c) (counted c).reps rep tells.nobody (has_from (counted c).reps rep there));
      all_down = λ none server refused. sym (refused_are_down (all_told c) (tells.busy_is ∙ none) server) ∙ refused;
      busy_met = λ server holder found. was_met (all_told c) server holder (tells.busy_is ∙ found);
    }
  where
    votes : {n : ℕ} → 0 < n → nat_lt 0 n ≡ true
    votes some = grind (arith, nat_tests)

    below : (need have : ℕ) → nat_le need have ≡ false → need ≡ wanting → have ≡ had → had < wanting
    below need have fails a b = grind (arith, nat_tests)
