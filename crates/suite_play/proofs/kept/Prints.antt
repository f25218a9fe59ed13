-- The lines of a script print the same of transactions that have all their operations and of those that have what is kept of them.
use Rattle.suite_play.proofs.Vocabulary.{◌≡◌, ℕ, zero, suc, List, [], ◌∷◌, ◌++◌, map, refl, ap, sym, ◌∙◌, Opening, Fixed, fixed_of, World, opening, step, Step, kept_command, Command, Printed, all_lines, before, endless, of_event, played}
use Rattle.suite_play.specs.declared.command.Command.TheVariants.{Steps, Run, Audit, Event}
use Rattle.suite_play.specs.Playing.{steps}
use Rattle.suite_play.proofs.kept.Worlds.{cut_stepped, cut_world, opening_same, step_same}

abbrev cut_printed : Printed → Printed
cut_printed printed = record printed { world = cut_world printed.world }

steps_same : (fixed : Fixed) (world : World) (agent count : ℕ) → steps fixed (cut_world world) agent count ≡ cut_printed (steps fixed world agent count)
unfolding steps
steps_same fixed world agent zero = refl
steps_same fixed world agent (suc more) =
    let once = step fixed world (Step agent) in
    ap (λ once. before (of_event once) (λ next. steps fixed next agent more)) (step_same fixed world (Step agent))
    ∙ ap (λ (later : Printed). before (of_event (cut_stepped once)) (λ _. later)) (steps_same fixed once.world agent more)

played_same : (fixed : Fixed) (world : World) (command : Command) → played fixed (cut_world world) (kept_command command) ≡ cut_printed (played fixed world command)
played_same fixed world (Event event) = ap of_event (step_same fixed world event)
played_same fixed world (Steps agent count) = steps_same fixed world agent count
played_same fixed world (Run agent) = steps_same fixed world agent endless
played_same fixed world (Audit server) = refl

lines_same : (fixed : Fixed) (world : World) (commands : List Command) → all_lines fixed (cut_world world) (map kept_command commands) ≡ all_lines fixed world commands
lines_same fixed world [] = refl
lines_same fixed world (command ∷ later) =
    let first = played fixed world command in
    ap (λ (first : Printed). first.text ++ all_lines fixed first.world (map kept_command later)) (played_same fixed world command)
    ∙ ap (λ more. first.text ++ more) (lines_same fixed first.world later)

-- a script's lines print the same whether each transaction that is begun has all its operations or what is kept of them
pub kept_prints : (given : Opening) (commands : List Command) → all_lines (fixed_of given) (opening given) (map kept_command commands) ≡ all_lines (fixed_of given) (opening given) commands
kept_prints given commands =
    ap (λ world. all_lines (fixed_of given) world (map kept_command commands)) (sym (opening_same given))
    ∙ lines_same (fixed_of given) (opening given) commands
