use Rattle.suite_play.proofs.Vocabulary.{◌≡◌, ◌∙◌, ◌++◌, ℕ, Bool, List, Option, None, Result, OnOk, ap, on_ok_weaker, fixed_of, or_nothing, EndedJob, Served, Stepped, World, step, of_event, outcome_text}
use Rattle.run_core.specs.Telling.{ComesTo}
use Rattle.suite_play.proofs.player.push_event.Goals as goal

-- what was put into an empty place is printed
its_line : {A E : Type 0} (stepped : Stepped) (text text' : List ℕ) (outcome : Option EndedJob) (result : Result A E) {world : World} {served : Served} {told : Bool}
    → ComesTo stepped world served None outcome told → OnOk result (text' ≡ text ++ outcome_text outcome) → OnOk result (text' ≡ text ++ (of_event stepped).text)
its_line stepped text text' outcome result comes = on_ok_weaker result (λ printed. printed ∙ ap (λ (one : Option EndedJob). text ++ outcome_text one) (comes.told.ended_is ∙ or_nothing stepped.done.outcome))

pub returns-clause-printed : goal.returns-clause-printed
returns-clause-printed c =
    its_line (step (fixed_of c.args.world.now.given) c.args.world.now.world c.args.event.now) c.args.text.now.items _ c.advance.new.ended c.push_ended.result
    c.in_ok-advance.ensures.ok c.push_ended.ensures
