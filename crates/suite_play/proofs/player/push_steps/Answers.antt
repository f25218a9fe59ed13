use Rattle.suite_play.proofs.Vocabulary.{◌∙◌, ◌++◌, List, ℕ, ap, arith, refl, sym, append-nil, on_ok_weaker, fixed_of, option_or, step, Stepped, Printed}
use Rattle.suite_play.proofs.Idle.{steps_idle}
use Rattle.suite_play.proofs.Ended.{NothingLeft, all_text, all_world, from_start, has_ended, none_left, nothing_put, one_more, something_put}
use Rattle.suite_play.proofs.player.push_steps.Goals as goal
use Rattle.suite_play.proofs.player.push_steps.Goals.{then-loop-left-test+else-is_none, else-loop-left-test}

pub returns-then-idle-clause-printed : goal.returns-then-idle-clause-printed
returns-then-idle-clause-printed c =
    let here = c.args.world.now in
    sym (append-nil c.args.text.now.items)
    ∙ ap (λ (all : Printed). c.args.text.now.items ++ all.text) (sym (steps_idle (fixed_of here.given) here.world c.args.agent c.args.count (sym c.idle.ensures ∙ c.if-idle.true)))

pub returns-then-idle-clause-world : goal.returns-then-idle-clause-world
returns-then-idle-clause-world c =
    let here = c.args.world.now in
    ap (λ (all : Printed). record here { world = all.world }) (sym (steps_idle (fixed_of here.given) here.world c.args.agent c.args.count (sym c.idle.ensures ∙ c.if-idle.true)))

pub loop-left-init : goal.loop-left-init
loop-left-init c = record { played = from_start c.args.world.now c.args.agent c.args.count; event = refl }

pub loop-left-preserved : goal.loop-left-preserved
loop-left-preserved c =
    let left = c.in_ok-advance.ensures in
    let same = ap (λ event. (step (fixed_of c.loop-left.world.given) c.loop-left.world.world event)) c.loop-left.invariant.event in
    record {
      played = one_more c.args.world.now c.loop-left.world c.advance.new.self c.args.agent c.args.count c.loop-left.left c.loop-left.ended c.advance.new.ended
          c.loop-left-test.true (nothing_put c.loop-left.ended c.is_none.result c.is_none.ensures c.if-is_none.true) left.given
          (left.ok.world_is ∙ ap (λ (all : Stepped). all.world) same)
          (left.ok.told.ended_is ∙ ap (λ (all : Stepped). option_or all.done.outcome c.loop-left.ended) same) c.loop-left.invariant.played;
      event = c.loop-left.invariant.event;
    }

pub returns-clause-printed : goal.returns-clause-printed
returns-clause-printed c =
    let start = c.args.world.now in
    let here = c.loop-left.world in
    let nothing : NothingLeft here c.args.agent c.loop-left.left = elim c.loop-left-test.branch [
      | then-loop-left-test+else-is_none w ↦
          has_ended start here c.args.agent c.args.count c.loop-left.left c.loop-left.ended (something_put c.loop-left.ended w.is_none.result w.is_none.ensures w.if-is_none.false) c.loop-left.invariant.played
      | else-loop-left-test w ↦ none_left here c.args.agent c.loop-left.left (omega (arith, w.loop-left-test.false))
    ] in
    on_ok_weaker c.push_ended.result
    (λ printed. printed ∙ ap (λ (text : List ℕ). c.args.text.now.items ++ text) (all_text start here c.args.agent c.args.count c.loop-left.left c.loop-left.ended nothing c.loop-left.invariant.played))
    c.push_ended.ensures

pub returns-clause-world : goal.returns-clause-world
returns-clause-world c =
    let start = c.args.world.now in
    let here = c.loop-left.world in
    let nothing : NothingLeft here c.args.agent c.loop-left.left = elim c.loop-left-test.branch [
      | then-loop-left-test+else-is_none w ↦
          has_ended start here c.args.agent c.args.count c.loop-left.left c.loop-left.ended (something_put c.loop-left.ended w.is_none.result w.is_none.ensures w.if-is_none.false) c.loop-left.invariant.played
      | else-loop-left-test w ↦ none_left here c.args.agent c.loop-left.left (omega (arith, w.loop-left-test.false))
    ] in
    on_ok_weaker c.push_ended.result (λ _. all_world start here c.args.agent c.args.count c.loop-left.left c.loop-left.ended nothing c.loop-left.invariant.played) c.push_ended.ensures
