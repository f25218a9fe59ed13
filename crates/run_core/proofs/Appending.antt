-- A run goes on from where it was.
use Rattle.run_core.proofs.Vocabulary.{◌≡◌, List, [], ◌∷◌, ◌++◌, Option, refl, ap, ◌∙◌, sym, cons_option, Fixed, Event, Done, World, step, after, dones, outcomes, decided, decisions_from, arith}

pub after-append : (fixed : Fixed) (world : World) (events later : List Event) → after fixed world (events ++ later) ≡ after fixed (after fixed world events) later
after-append fixed world [] later = refl
after-append fixed world (event ∷ events) later = after-append fixed (step fixed world event).world events later

pub dones-append : (fixed : Fixed) (world : World) (events later : List Event) → dones fixed world (events ++ later) ≡ dones fixed world events ++ dones fixed (after fixed world events) later
dones-append fixed world [] later = refl
dones-append fixed world (event ∷ events) later = ap (λ (done : List Done). (step fixed world event).done ∷ done) (dones-append fixed (step fixed world event).world events later)

pub cons_option-append : {X : Type 0} (one : Option X) (xs ys : List X) → cons_option one xs ++ ys ≡ cons_option one (xs ++ ys)
cons_option-append one xs ys = search arith

pub outcomes-append : (done later : List Done) → outcomes (done ++ later) ≡ outcomes done ++ outcomes later
outcomes-append [] later = refl
outcomes-append (one ∷ done) later = ap (cons_option one.outcome) (outcomes-append done later) ∙ sym (cons_option-append one.outcome (outcomes done) (outcomes later))

pub decisions_from-append : (fixed : Fixed) (world : World) (events later : List Event) → decisions_from fixed world (events ++ later) ≡ decisions_from fixed world events ++ decisions_from fixed (after fixed world events) later
decisions_from-append fixed world [] later = refl
decisions_from-append fixed world (event ∷ events) later =
    let next = (step fixed world event).world in
    ap (cons_option (decided fixed world event)) (decisions_from-append fixed next events later)
    ∙ sym (cons_option-append (decided fixed world event) (decisions_from fixed next events) (decisions_from fixed (after fixed next events) later))
