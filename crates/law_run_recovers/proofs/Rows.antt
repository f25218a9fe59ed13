-- Where a transaction's demands are met, those by the votes of the table's own rows are.
use Rattle.law_run_recovers.proofs.Vocabulary.{◌≡◌, inl, inr, ℕ, Bool, true, List, [], ◌∷◌, Option, Some, None, refl, sym, ap, subst, ◌∙◌, arith, map, option_map, list_all, and_parts, nat_tests, list_all-append, none-some, same_Some, Opening, Prefix}
use Rattle.law_run_recovers.proofs.Vocabulary.{LockMode, Row, row_of, find_some, contains_from, Entry, is_of, entry_of, fixed_of, Event, Actor, actor_at, run, table_of, prefix_at, WasPrefix, IsQuorum, Inv, beginning, machine_of, AllKeepSides}
use Rattle.law_run_recovers.proofs.Vocabulary.{register, row_at, CanBe, all_keep, all_consistent, is_up, up_free, demand, is_met, led_to, votes_of_row, MayStart, MetDemandsAreRows}
use Rattle.law_run_knowledge.proofs.Events.{knowledge_was}
use Rattle.law_one_table.proofs.Effects as effects
use Rattle.law_one_table.proofs.Versions as versions
use Rattle.law_run_recovers.proofs.Found.{all_answer, found_is_row}
use Rattle.law_run_recovers.proofs.Leading.{led}

-- tests that hold of one image hold of another
module _ {X Y : Type 0} where
  all_alike : (p : Y → Bool) (f g : X → Y) → ((x : X) → p (f x) ≡ true → p (g x) ≡ true) → (xs : List X) → list_all p (map f xs) ≡ true → list_all p (map g xs) ≡ true
  all_alike p f g so [] is = refl
  all_alike p f g so (x ∷ xs) is = search (and_parts, all_alike p f g so xs, arith)

-- the votes of the row, or the first ones
pub row_votes : (given : Opening) (events : List Event) (can : CanBe given events) (z : ℕ) (found : Option Row) → row_at given events z ≡ found → (register given z events).prefix.votes ≡ votes_of_row (fixed_of given) found
row_votes given events can z (Some row') is = (versions.of given events (all_keep given events can) z row' is).votes
row_votes given events can z None is =
    let kept = all_keep given events can in
    let inv = effects.inv given events kept z in
    let none = (versions.none given events kept z is).0 in
    ap (λ (prefix : Prefix). prefix.votes) (sym inv.logged.own.0.1 ∙ ap (prefix_at (beginning z given) (machine_of given z events).log) none ∙ inv.logged.never.1)

module _ (given : Opening) (events : List Event) (can : CanBe given events) (z : ℕ) where
  abbrev kept : AllKeepSides given events
  kept = all_keep given events can

  abbrev inv : Inv (beginning z given) (machine_of given z events)
  inv = effects.inv given events kept z

  -- what a suite may be looked for from was its prefix
  pub start_was : (agent site : ℕ) (actor : Actor) (start : Prefix) → actor_at (run given events) agent ≡ Some actor → MayStart (fixed_of given) actor.agent.cache site z start
      → WasPrefix (beginning z given) (machine_of given z events).log start
  start_was agent site actor start there (inl absent) = subst (WasPrefix (beginning z given) (machine_of given z events).log) (sym absent) inv.logged.never
  start_was agent site actor start there (inr hinted) = of (entry_of actor.agent.cache site z) refl hinted
    where
      of : (found : Option Entry) → entry_of actor.agent.cache site z ≡ found → option_map (λ (entry : Entry). entry.prefix) found ≡ Some start → WasPrefix (beginning z given) (machine_of given z events).log start
      of None is hinted = absurd (none-some start hinted)
      of (Some entry) is hinted =
          let found = find_some (is_of site z) actor.agent.cache entry is in
          let was = (knowledge_was given z events kept.valid (kept.keep z) agent actor there).cache entry (contains_from actor.agent.cache entry found.0) (of_suite entry found.1) in
          subst (WasPrefix (beginning z given) (machine_of given z events).log) (same_Some entry.prefix start hinted) was.prefix
        where
          of_suite : (entry : Entry) → is_of site z entry ≡ true → entry.suite ≡ z
          of_suite entry is = grind (arith, nat_tests)

  module _ (free : up_free (run given events) ≡ true) where
    met_row : (agent site : ℕ) (actor : Actor) (start : Prefix) → actor_at (run given events) agent ≡ Some actor → MayStart (fixed_of given) actor.agent.cache site z start → (mode : LockMode)
        → is_met (demand (run given events) z mode (led_to (fixed_of given) (run given events) z start).votes) ≡ true
        → is_met (demand (run given events) z mode (votes_of_row (fixed_of given) (row_of (table_of given events).rows z))) ≡ true
    met_row agent site actor start there may mode met =
        let shows = (effects.follows given events kept z).shows in
        let all = all_answer given z (machine_of given z events) (run given events) inv shows (all_consistent given events) free in
        let end = led given z (machine_of given z events) (run given events) inv (is_up (run given events)) all start (start_was agent site actor start there may) in
        let is = found_is_row given z (machine_of given z events) (run given events) inv (is_up (run given events)) all (led_to (fixed_of given) (run given events) z start) end.was end.last (quorum mode met) in
        subst (λ votes. is_met (demand (run given events) z mode votes) ≡ true) (ap (λ (prefix : Prefix). prefix.votes) is ∙ row_votes given events can z (row_at given events z) refl) met
      where
        quorum : (mode : LockMode) → is_met (demand (run given events) z mode (led_to (fixed_of given) (run given events) z start).votes) ≡ true
            → IsQuorum (led_to (fixed_of given) (run given events) z start).votes (is_up (run given events))
        quorum mode h1 = search arith

pub met_demands_are_rows : MetDemandsAreRows
met_demands_are_rows given events can t caller site ops agent actor start free there may met = search (and_parts, list_all-append, all_alike, met_row, arith)
