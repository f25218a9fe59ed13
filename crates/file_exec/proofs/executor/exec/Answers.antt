use Rattle.file_exec.proofs.Vocabulary.{◌≡◌, ◌<◌, false, true, Option, Some, List, [], length, Result, Ok, Err, arith, sym, ap, subst, ◌∙◌, ◌==◌, IfOk, OnErr, nat_tests, take_all, Answer, Op, Refusal, answered, changes_of, PlaysTo}
use Rattle.file_exec.proofs.Vocabulary.{Transaction, Outcome, Stage, Known, Heard, Done, exec_of, play, IsReached, run}
use Rattle.file_exec.specs.declared.executor.Outcome.TheVariants as told
use Rattle.file_exec.proofs.Playing.{exec_plays, well_counted, begun_first}
use Rattle.file_exec.proofs.Reaching.{unbegun_is_reached}
use Rattle.file_exec.proofs.executor.exec.Goals as goal

-- all operations were done
finished : {E : Type 0} (result : Result Outcome E) (known : Known) (stage : Stage) (heard : Heard (List Answer) Refusal) → IfOk result (λ outcome. outcome ≡ told.Done stage.answers.items (changes_of known stage.log))
    → heard ≡ Done (Ok (record { given = stage.answers.items; edits = stage.log })) → IfOk result (λ outcome. outcome ≡ answered known heard)
finished (Err e) known stage heard is done = tt
finished (Ok outcome) known stage heard is done = is ∙ sym (ap (answered known) done)

-- what was told, in other words
said : (transaction : Transaction) (ops : List Op) (stage : Stage) {found other : Option Outcome} → found ≡ other → PlaysTo transaction ops found stage → PlaysTo transaction ops other stage
said transaction ops stage same plays = subst (λ found. PlaysTo transaction ops found stage) same plays

on_err : {A E P : Type 0} (result : Result A E) → P → OnErr result P
on_err (Ok x) holds = tt
on_err (Err e) holds = holds

some : (ops : List Op) → false ≡ (length ops == 0) → 0 < length ops
some ops is = grind (arith, nat_tests)

pub returns-in-Some-Need-clause-answer : goal.returns-in-Some-Need-clause-answer
returns-in-Some-Need-clause-answer c =
    let known = c.args.known.now in
    let all = exec_plays known.suites known.service c.args.t c.args.caller.now c.args.ops.now (well_counted c.args.ops.now c.if-is_empty.ensures c.if-ops-gt-MAX_OPERATIONS.false) in
    let needs : told.Need c.in-Some-Need.need ≡ answered known.suites (exec_of known.service known.suites c.args.t c.args.caller.now c.args.ops.now) =
    said (record { alloc = c.alloc.result; known = c.args.known; t = c.args.t; caller = c.args.caller }) c.args.ops.now c.play_on.new.stage
    (c.in-Some-Need.is ∙ ap (λ outcome. Some outcome) c.in-Some-Need.field-0-is) c.in_ok-need.ensures.ends ∙ ap (answered known.suites) (sym all) in
    cc (c.in-Some-Need.need-is, needs)

pub returns-in-Some : goal.returns-in-Some
returns-in-Some c =
    let known = c.args.known.now in
    let well = well_counted c.args.ops.now c.if-is_empty.ensures c.if-ops-gt-MAX_OPERATIONS.false in
    let all = exec_plays known.suites known.service c.args.t c.args.caller.now c.args.ops.now well in
    let new = c.take-stage.ensures.left in
    record {
      answer = said (record { alloc = c.alloc.result; known = c.args.known; t = c.args.t; caller = c.args.caller }) c.args.ops.now c.play_on.new.stage c.in-Some.is c.in_ok-need.ensures.ends ∙ ap (answered known.suites) (sym all);
      reached = subst (IsReached known.service known.suites c.args.t c.args.caller.now c.args.ops.now) (sym new) (unbegun_is_reached known.service known.suites c.args.t c.args.caller.now c.args.ops.now);
      ended = λ _. new;
      err = tt;
      counted = λ mis. let both : false ≡ true = sym well ∙ mis in cc;
      first = tt;
    }

pub returns-in-None-clause-answer : goal.returns-in-None-clause-answer
returns-in-None-clause-answer c =
    let known = c.args.known.now in
    let all = exec_plays known.suites known.service c.args.t c.args.caller.now c.args.ops.now (well_counted c.args.ops.now c.if-is_empty.ensures c.if-ops-gt-MAX_OPERATIONS.false) in
    finished c.finish.result known.suites c.play_on.new.stage (exec_of known.service known.suites c.args.t c.args.caller.now c.args.ops.now) c.finish.ensures
    (all ∙ said (record { alloc = c.alloc.result; known = c.args.known; t = c.args.t; caller = c.args.caller }) c.args.ops.now c.play_on.new.stage c.in-None.is
    c.in_ok-need.ensures.ends)

pub returns-in-None-clause-first : goal.returns-in-None-clause-first
returns-in-None-clause-first c =
    let known = c.args.known.now in
    let any = some c.args.ops.now c.if-is_empty.ensures in
    on_err c.finish.result
    (begun_first known.suites known.service c.args.t c.args.caller.now c.args.ops.now (length c.args.ops.now) (record { given = c.play_on.new.stage.answers.items; edits = c.play_on.new.stage.log }) any any
    (ap (λ ops. run known.suites [] (play known.service [] c.args.t 0 c.args.caller.now ops)) (take_all (length c.args.ops.now) c.args.ops.now (grind arith)) ∙ said
    (record { alloc = c.alloc.result; known = c.args.known; t = c.args.t; caller = c.args.caller }) c.args.ops.now c.play_on.new.stage c.in-None.is c.in_ok-need.ensures.ends))
