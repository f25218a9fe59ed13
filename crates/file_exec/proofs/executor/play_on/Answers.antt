use Rattle.file_exec.proofs.Vocabulary.{◌≡◌, ◌+◌, ◌<◌, ◌∷◌, length, get_or, drop, Result, Ok, Err, ap, sym, subst, ◌∙◌, IfOk, OnErr, take_rest, answered, is_given, operation, play, run, walked_next, LeadsTo, point_after, reached_of}
use Rattle.file_exec.proofs.Playing.{one_ends, ends_given}
use Rattle.file_exec.proofs.Reaching.{plays_next, done_too, leads_after, given_first}
use Rattle.file_exec.proofs.executor.play_on.Goals as goal

on_err : {A E P : Type 0} (result : Result A E) → P → OnErr result P
on_err (Ok x) holds = tt
on_err (Err e) holds = holds

from_err : {A E P : Type 0} (result : Result A E) (e : E) → result ≡ Err e → OnErr result P → P
from_err (Ok x) e is holds = cc
from_err (Err other) e is holds = holds

from_ok : {A E : Type 0} (P : A → Type 0) (result : Result A E) (x : A) → result ≡ Ok x → IfOk result P → P x
from_ok P (Ok other) x is holds = let same : other ≡ x = cc in subst P same holds
from_ok P (Err e) x is holds = cc

pub returns-in_err-reserve_exact-in-Ok-clause-first : goal.returns-in_err-reserve_exact-in-Ok-clause-first
returns-in_err-reserve_exact-in-Ok-clause-first c =
    let known = c.args.transaction.known.now in
    on_err c.from_residual.result
    (given_first known.service known.suites c.args.transaction.t c.args.transaction.caller.now c.args.ops.now
    (reached_of c.loop-at.stage) c.loop-at.invariant c.index-ops-from.result (subst (λ at. at < length c.args.ops.now) c.from.ensures c.loop-at-test.true)
    (c.index-ops-from.is ∙ ap (λ at. get_or c.args.ops.now at c.index-ops-from.result) c.from-in-loop-at.ensures)
    (ap is_given c.in-Ok.ensures.answer.told))

pub returns-in_err-push-in-Ok-clause-first : goal.returns-in_err-push-in-Ok-clause-first
returns-in_err-push-in-Ok-clause-first c =
    let known = c.args.transaction.known.now in
    on_err c.from_residual-in_err-push-in-Ok.result
    (given_first known.service known.suites c.args.transaction.t c.args.transaction.caller.now c.args.ops.now
    (reached_of c.loop-at.stage) c.loop-at.invariant c.index-ops-from.result (subst (λ at. at < length c.args.ops.now) c.from.ensures c.loop-at-test.true)
    (c.index-ops-from.is ∙ ap (λ at. get_or c.args.ops.now at c.index-ops-from.result) c.from-in-loop-at.ensures)
    (ap is_given c.in-Ok.ensures.answer.told))

pub returns-in_err-outcome-in-Err-clause-first : goal.returns-in_err-outcome-in-Err-clause-first
returns-in_err-outcome-in-Err-clause-first c =
    let known = c.args.transaction.known.now in
    on_err c.from_residual-in_err-outcome-in-Err.result
    (from_err c.end.result _ c.in_err-outcome-in-Err.was
    (ends_given c.loop-at.stage.at c.in-Err.stop c.end.result (run known.suites c.loop-at.stage.log
    (operation known.service c.args.transaction.t c.loop-at.stage.at c.args.transaction.caller.now c.index-ops-from.result)) c.operate.new.log c.in-Err.ensures.answer.told
    c.end.ensures
    (given_first known.service known.suites c.args.transaction.t c.args.transaction.caller.now c.args.ops.now
    (reached_of c.loop-at.stage) c.loop-at.invariant c.index-ops-from.result (subst (λ at. at < length c.args.ops.now) c.from.ensures c.loop-at-test.true)
    (c.index-ops-from.is ∙ ap (λ at. get_or c.args.ops.now at c.index-ops-from.result) c.from-in-loop-at.ensures))))

pub returns-in-Err-clause-ends : goal.returns-in-Err-clause-ends
returns-in-Err-clause-ends c =
    let known = c.args.transaction.known.now in
    from_ok (λ outcome. outcome ≡ answered known.suites (run known.suites c.loop-at.stage.log
    (play known.service c.loop-at.stage.answers.items c.args.transaction.t c.loop-at.stage.at c.args.transaction.caller.now
    (c.index-ops-from.result ∷ drop (c.loop-at.stage.at + 1) c.args.ops.now)))) c.end.result c.in_ok-outcome-in-Err.outcome c.in_ok-outcome-in-Err.was
    (one_ends known.suites known.service c.args.transaction.t c.args.transaction.caller.now c.loop-at.stage.log c.operate.new.log c.loop-at.stage.answers.items c.loop-at.stage.at
    c.index-ops-from.result (drop (c.loop-at.stage.at + 1) c.args.ops.now) c.in-Err.stop c.end.result c.in-Err.ensures.answer c.end.ensures)
    ∙ ap (answered known.suites) (plays_next known.service known.suites c.args.transaction.t c.args.transaction.caller.now c.args.ops.now
    (reached_of c.loop-at.stage) c.loop-at.invariant c.index-ops-from.result (subst (λ at. at < length c.args.ops.now) c.from.ensures c.loop-at-test.true)
    (c.index-ops-from.is ∙ ap (λ at. get_or c.args.ops.now at c.index-ops-from.result) c.from-in-loop-at.ensures))

pub loop-at-preserved : goal.loop-at-preserved
loop-at-preserved c =
    let known = c.args.transaction.known.now in
    let caller = c.args.transaction.caller.now in
    let op = c.index-ops-from.result in
    let begins = c.after-stage.ensures
    ∙ ap (point_after c.operate.new.point op) (take_rest c.args.ops.now (c.from-in-loop-at-2.result + 1))
    ∙ ap (λ at. point_after c.operate.new.point op (drop (at + 1) c.args.ops.now)) c.from-in-loop-at-2.ensures in
    let leads = subst (λ point. LeadsTo known.suites c.operate.new.log caller (walked_next (drop (c.loop-at.stage.at + 1) c.args.ops.now)) point) (sym begins)
    (leads_after known.suites caller c.loop-at.stage.log c.operate.new.log op c.operate.new.point c.in-Ok.ensures.read c.in-Ok.ensures.point (drop (c.loop-at.stage.at + 1) c.args.ops.now)) in
    rw (c.in_ok-push-in-Ok.ensures.items, c.reserve_exact.ensures.items)
    (done_too known.service known.suites c.args.transaction.t caller c.args.ops.now (reached_of c.loop-at.stage) c.loop-at.invariant op
    (subst (λ at. at < length c.args.ops.now) c.from.ensures c.loop-at-test.true) (c.index-ops-from.is ∙ ap (λ at. get_or c.args.ops.now at op) c.from-in-loop-at.ensures)
    c.in-Ok.answer c.operate.new.log c.after-stage.result c.in-Ok.ensures.answer leads)
