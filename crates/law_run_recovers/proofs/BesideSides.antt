-- Transactions side by side: so nobody meets any, at each moment.
use Rattle.law_run_recovers.proofs.Vocabulary.{◌≡◌, ⊎_elim, suc, true, List, [], ◌∷◌, ◌++◌, append-nil, sym, ap, subst, ◌∙◌, arith, length, ◌==◌, ◌||◌, not, eqb-true, Opening, Lock, State, Has, all_at, Transaction, Event, Begin, server_at, run}
use Rattle.law_run_recovers.proofs.Vocabulary.{at_has, Begun, GoSideBySideWhileDown, asks_for, is_running, StandsOpen, everywhere}
use Rattle.law_run_recovers.proofs.Found.{or_rest}
use Rattle.law_run_recovers.proofs.AmongCourse.{parted, nil_cons}
use Rattle.law_run_recovers.proofs.BesideUnmet.{IsUnmet, world_then, unmet_more, nil_front, begins_there}
use Rattle.law_run_recovers.proofs.BesideAll.{Sides}
use Rattle.law_run_recovers.proofs.BesideNext.{its_hand, locks_now, stands_then}
use Rattle.law_run_recovers.proofs.Picks.{along}

module _ (given : Opening) (events later : List Event) (go : GoSideBySideWhileDown given events later) where
  module _ (so_far rest : List Event) (event : Event) (split : later ≡ so_far ++ event ∷ rest) (sides : Sides given events later go so_far) where
    unmet_now : (other : Begun given events (so_far ++ event ∷ [])) → IsUnmet given events other.before other.agent other.t other.caller other.site other.ops other.after
    unmet_now other = ⊎_elim new old (parted so_far event other.before (Begin other.agent (Transaction other.caller other.site other.ops)) other.after other.parts)
      where
        new : ((other.before ≡ so_far) × (Begin other.agent (Transaction other.caller other.site other.ops) ≡ event) × (other.after ≡ [])) → IsUnmet given events other.before other.agent other.t other.caller other.site other.ops other.after
        new here = search (begins_there, world_then, nil_front, stands_then, nil_cons, arith)

        old : ((front : List Event) × (so_far ≡ other.before ++ Begin other.agent (Transaction other.caller other.site other.ops) ∷ front) × (other.after ≡ front ++ event ∷ []))
            → IsUnmet given events other.before other.agent other.t other.caller other.site other.ops other.after
        old was =
            let one : Begun given events so_far = record { before = other.before; after = was.0; agent = other.agent; t = other.t; caller = other.caller; site = other.site; ops = other.ops; parts = was.1; begins = other.begins } in
            subst (λ after. IsUnmet given events other.before other.agent other.t other.caller other.site other.ops after) (sym was.2)
            (unmet_more given events other.before other.agent other.t other.caller other.site other.ops was.0 event (sides.unmet one) (its_hand given events later go so_far rest event split sides one)
            (subst (λ after. is_running (world_then given events other.before other.agent other.t other.caller other.site other.ops after) other.agent other.t ≡ true
            → StandsOpen (run given (events ++ other.before)) (world_then given events other.before other.agent other.t other.caller other.site other.ops after) other.t
            (asks_for given (events ++ other.before) other.t other.caller other.ops) everywhere)
            was.2 (stands_then given events later go so_far rest event split sides other)))

    sides_next : Sides given events later go (so_far ++ event ∷ [])
    sides_next = search (unmet_now, locks_now, arith)

  -- ---- all along

  sides_first : Sides given events later go []
  sides_first = record {
    unmet = λ one. absurd (nil_cons one.before (Begin one.agent (Transaction one.caller one.site one.ops)) one.after one.parts);
    locks = λ server st at up lock has. absurd
        (none st.locks (or_rest (not st.up) (length st.locks == 0) (ap not up)
        (all_at (λ (st : State). not st.up || (length st.locks == 0)) (run given events).servers st go.free
        (at_has (run given events).servers server st (ap (λ all. server_at (run given all) server) (sym (append-nil events)) ∙ at)))) lock has);
  }
    where
      none : (locks : List Lock) → (length locks == 0) ≡ true → (lock : Lock) → Has locks lock → ⊥
      none [] is lock has = has
      none (one ∷ locks) is lock has = let some : suc (length locks) ≡ 0 = eqb-true (suc (length locks)) 0 is in absurd (omega (arith, some))

  pub sides_at : (so_far rest : List Event) → later ≡ so_far ++ rest → Sides given events later go so_far
  sides_at = along later (Sides given events later go) sides_next sides_first
