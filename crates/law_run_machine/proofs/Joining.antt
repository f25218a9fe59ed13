-- Lists of machine events, one after the other.
use Rattle.law_run_machine.proofs.Vocabulary.{◌≡◌, List, [], ◌∷◌, ◌++◌, refl, Beginning, World, Event, happens, run, Obeys}

pub run-append : (start : Beginning) (w : World) (first later : List Event) → run start w (first ++ later) ≡ run start (run start w first) later
run-append start w [] later = refl
run-append start w (event ∷ first) later = run-append start (happens start w event) first later

pub obeys-append : (start : Beginning) (w : World) (first later : List Event) → Obeys start w first → Obeys start (run start w first) later → Obeys start w (first ++ later)
obeys-append start w [] later may next = next
obeys-append start w (event ∷ first) later may next = (may.0, obeys-append start (happens start w event) first later may.1 next)

pub obeys_first : (start : Beginning) (w : World) (first later : List Event) → Obeys start w (first ++ later) → Obeys start w first × Obeys start (run start w first) later
obeys_first start w [] later obeys = (tt, obeys)
obeys_first start w (event ∷ first) later obeys =
    let rest = obeys_first start (happens start w event) first later obeys.1 in
    ((obeys.0, rest.0), rest.1)
