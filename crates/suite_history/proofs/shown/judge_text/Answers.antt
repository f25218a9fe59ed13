use Rattle.std.proofs.Common.{◌∙◌, ap, subst}
use Rattle.file_ops.specs.Rows.{opening}
use Rattle.suite_history.specs.Shown.{IsJudged, shown_in}
use Rattle.suite_history.specs.code.Readings.{in_lists}
use Rattle.suite_history.proofs.shown.judge_text.Goals as goal

pub returns : goal.returns
returns c = record {
  history = in_lists c.in_ok-history.history;
  reads = c.in_ok-history.ensures.history;
  judged =
      subst (λ table. IsJudged c.args.tells_order table c.in_ok-history.history.calls.items (shown_in c.in_ok-answer.answer)) (c.in_ok-opening.ensures ∙ ap opening c.settings_of.ensures)
      (subst (λ calls. IsJudged c.args.tells_order c.in_ok-opening.opening calls (shown_in c.in_ok-answer.answer)) c.deref.ensures.value c.in_ok-answer.ensures);
}
