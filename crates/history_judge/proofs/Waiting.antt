-- A call that waits for another one need not be placed: what comes of it comes of the other.
use Rattle.history_judge.proofs.Vocabulary.{◌≡◌, inl, inr, ⊎_elim, ℕ, zero, suc, ◌≤◌, ◌<◌, List, [], ◌∷◌, ◌++◌, Option, Some, None, sym, subst, ◌∙◌, arith, slice_get, Contains, same_Some, Contains-append_cases, Rows, PlainTable, Call, CallReply}
use Rattle.history_judge.proofs.Vocabulary.{Placed, Due, Waits, IsPassed, IsDone, IsGone, GoesOn, WasToldBefore, calls_of, Calls, set_of, LeadsTo, IsDue}
use Rattle.history_judge.proofs.Sameness.{outcome_same}
use Rattle.history_judge.proofs.Searching.{StandsFor, stand_for}
use Rattle.history_judge.proofs.Standing.{precede_told, untold_call}
use Rattle.history_judge.proofs.Going.{into_then, comes_on}

told_later : (told : Option CallReply) (called later : ℕ) → called ≤ later → WasToldBefore told called → WasToldBefore told later
told_later told called later h3 h4 = search arith

module _ (opening : PlainTable) (history : List Call) where
  abbrev calls : Calls Rows
  calls = calls_of opening.service history

  untold_right : (number : ℕ) (call : Call) → slice_get history number ≡ Some call → call.told ≡ None → (rows : Rows) → calls.IsRight rows number
  untold_right number call at none rows other at' = search arith

  waits_stands : (pending early : List ℕ) (number : ℕ) (waits : Waits history pending early number) → StandsFor calls waits.other number
  waits_stands pending early number waits = search (untold_call, told_later, same_Some, untold_right, outcome_same, arith)

  module _ (settled pending : List ℕ) (due : Due) (is : IsDue history pending settled due) (found : List Placed) (placed : Placed) where
    passed_waits : (number : ℕ) → Waits history pending placed.early.items number → ((other : ℕ) → other < number → Contains pending other → IsPassed opening history settled found placed other)
        → IsPassed opening history settled found placed number
    passed_waits number waits lower stands =
        let set = set_of settled placed in
        let rows = placed.table.rows in
        let alike = waits_stands pending placed.early.items number waits in
        let new : Contains set waits.other → ⊥ = λ there. ⊎_elim (λ old. is.apart waits.other waits.among old) waits.new (Contains-append_cases settled placed.early.items waits.other there) in
        let less = waits.lower in
        ⊎_elim
        (λ idle. inl (record { untold = alike.other_untold; stays = λ right. sym (alike.same rows) ∙ idle.stays (alike.right rows) }))
        (λ into. inr (into_then opening history settled found (set ++ number ∷ []) (set ++ waits.other ∷ []) (calls.next rows number) (calls.next rows waits.other)
        (subst (LeadsTo calls (set ++ number ∷ []) (calls.next rows number) (set ++ waits.other ∷ [])) (sym (alike.same rows))
        (stand_for calls (precede_told opening history) waits.other number alike set rows stands new (λ same. absurd (omega (arith, less, same))) (calls.next rows number)))
        into))
        (lower waits.other waits.lower waits.among (record {
          made = is.made waits.other waits.among;
          once = new;
          in_time = λ other precedes. stands.in_time other (alike.in_time other precedes);
          right = alike.right rows;
        }))

    passed_below : ((number : ℕ) → Contains pending number → IsDone opening history settled pending found placed number)
        → (most number : ℕ) → number < most → Contains pending number → IsPassed opening history settled found placed number
    passed_below done zero number below there = absurd (omega (arith, below))
    passed_below done (suc most) number below there = ⊎_elim
        (λ waits. passed_waits number waits (λ other less. passed_below done most other (omega (arith, below, less))))
        (λ passed. passed)
        (done number there)

    pub passed_all : ((number : ℕ) → Contains pending number → IsDone opening history settled pending found placed number)
        → (number : ℕ) → Contains pending number → IsPassed opening history settled found placed number
    passed_all done number = passed_below done (suc number) number (omega arith)

  pub goes_on : (settled pending : List ℕ) (due : Due) → IsDue history pending settled due → (found : List Placed) (head : ℕ)
      → ((placed : Placed) → slice_get found head ≡ Some placed → Contains placed.early.items due.number → ⊥)
      → ((number : ℕ) → Contains pending number → IsGone opening history settled pending found head number) → GoesOn opening history settled found head
  goes_on settled pending due is found head lacks gone placed at = search (comes_on, passed_all, arith)
