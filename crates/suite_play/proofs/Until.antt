-- `run` is steps until the agent has no job.
use Rattle.suite_play.proofs.Vocabulary.{◌≡◌, ℕ, zero, suc, ◌+◌, ◌-◌, [], ◌++◌, ◌∙◌, ap, sym, append_assoc, zero-add, arith, append-nil, Fixed, World, step, Step, Printed, endless, of_event}
use Rattle.suite_play.specs.Laws.{RunIsUntilIdle}
use Rattle.suite_play.specs.Playing.{steps}
use Rattle.suite_play.proofs.Idle.{steps_idle}

-- what is printed, and then what is printed later
abbrev joined : Printed → Printed → Printed
joined first later = record { text = first.text ++ later.text; world = later.world }

regroup : (a b c : Printed) → joined a (joined b c) ≡ joined (joined a b) c
regroup a b c =
    let text = sym (append_assoc a.text b.text c.text) in
    λ i. record { text = text i; world = c.world }

and_nothing : (a : Printed) → joined a (record { text = []; world = a.world }) ≡ a
and_nothing a =
    let text = append-nil a.text in
    λ i. record { text = text i; world = a.world }

-- so many steps, and so many more
steps_then : (fixed : Fixed) (world : World) (agent count more : ℕ) → steps fixed world agent (count + more) ≡ joined (steps fixed world agent count) (steps fixed (steps fixed world agent count).world agent more)
unfolding steps
steps_then fixed world agent zero more = ap (steps fixed world agent) (zero-add more)
steps_then fixed world agent (suc count) more =
    let first = of_event (step fixed world (Step agent)) in
    let is : suc count + more ≡ suc (count + more) = omega arith in
    ap (steps fixed world agent) is
    ∙ ap (joined first) (steps_then fixed first.world agent count more)
    ∙ regroup first (steps fixed first.world agent count) (steps fixed (steps fixed first.world agent count).world agent more)

pub run_until : RunIsUntilIdle
run_until fixed world agent count fits idle =
    let is : endless ≡ count + (endless - count) = omega (arith, fits) in
    let there = steps fixed world agent count in
    ap (steps fixed world agent) is
    ∙ steps_then fixed world agent count (endless - count)
    ∙ ap (joined there) (steps_idle fixed there.world agent (endless - count) idle)
    ∙ and_nothing there
