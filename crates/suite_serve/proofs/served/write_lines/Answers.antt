use Rattle.suite_serve.proofs.Vocabulary.{◌≡◌, ◌∙◌, ◌+◌, ◌++◌, [], ap, drop, get_or, map, sym, drop_all, drop_more, option_map, JobOutcome, wrote_line}
use Rattle.suite_serve.proofs.Vocabulary.{wrote_moved, wrote_rest, end_in, job_lines, told_line}
use Rattle.suite_serve.proofs.Written.{wrote_then}
use Rattle.suite_serve.proofs.served.write_lines.Goals as goal

-- what is read where there is none
abbrev none : JobOutcome
none = record { job = 0; agent = 0; count = 0; at = 0 }

pub loop-outcome-preserved : goal.loop-outcome-preserved
loop-outcome-preserved g c =
    let told = g.O.ByteOut.written c.args.writer.now in
    let now = g.O.ByteOut.written c.loop-outcome.writer in
    let end = end_in c.args.transcripts.now in
    let outcomes = c.args.outcomes.now in
    let i = c.loop-outcome.outcome-index in
    let whole = job_lines (map end outcomes) in
    let job = (get_or outcomes i none).job in
    let line = told_line job (option_map (λ told. told.now) c.ended.result) in
    let rest = job_lines (map end (drop i outcomes)) in
    let more = job_lines (map end (drop (i + 1) outcomes)) in
    let cut : rest ≡ line ++ more = ap (λ os. job_lines (map end os)) (drop_more outcomes i none c.loop-outcome-test.true) ∙ ap (λ one. told_line job one ++ more) (sym c.ended.ensures) in
    let lined = wrote_line told now whole c.loop-outcome.text.items line rest more c.loop-outcome.invariant.written cut in
    record {
      written = wrote_moved told now (g.O.ByteOut.written c.write_if_full.new.writer) whole c.push_told.new.text.items c.write_if_full.new.text.items more (rw c.in_ok-push_told.ensures lined) c.in_ok-write_if_full.ensures.0;
      failures = c.in_ok-write_if_full.ensures.1 ∙ c.loop-outcome.invariant.failures;
    }

pub returns : goal.returns
returns g c =
    let told = g.O.ByteOut.written c.args.writer.now in
    let now = g.O.ByteOut.written c.loop-outcome.writer in
    let after = g.O.ByteOut.written c.write_gathered.new.writer in
    let end = end_in c.args.transcripts.now in
    let outcomes = c.args.outcomes.now in
    let text = c.loop-outcome.text.items in
    let left = drop c.loop-outcome.outcome-index outcomes in
    let none_left : job_lines (map end left) ≡ [] = ap (λ os. job_lines (map end os)) (drop_all c.loop-outcome.outcome-index outcomes c.loop-outcome-test.false) in
    let so = wrote_rest told now (job_lines (map end outcomes)) text (job_lines (map end left)) c.loop-outcome.invariant.written none_left in
    (wrote_then told now after (job_lines (map end outcomes)) text so c.in_ok-write_gathered.ensures.ok, c.in_ok-write_gathered.ensures.kept ∙ c.loop-outcome.invariant.failures)
