use Rattle.suite_history.proofs.shown.judge_calls.Goals as goal

pub returns : goal.returns
returns c = record { verdict = c.in_ok-verdict.verdict; is_verdict = c.in_ok-verdict.ensures; is = c.in_ok-answer.ensures }
