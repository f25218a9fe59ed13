use Rattle.std.proofs.Common.{◌≡◌, ◌∙◌, ap, ap₂, arith, subst, List, length}
use Rattle.suite_prefix.specs.SettingsRules.{Opening}
use Rattle.suite_serve.specs.Scripts.{Plan}
use Rattle.suite_serve.specs.Served.{Came, endings_of}
use Rattle.txn_core.specs.declared.ending.Ending.{Ending}
use Rattle.txn_core.specs.declared.job.Job.{Job}
use Rattle.job_history.specs.declared.event.Span.{Span}
use Rattle.job_history.specs.Calls.{Asked, calls_of}
use Rattle.job_history.specs.Histories.{IsHistory}
use Rattle.serve_log.proofs.logged.serve_logged.Goals as goal

pub returns : goal.returns
returns g c =
    let plan : Plan = c.args.script in
    let came : Came = c.in_ok-served.served in
    let spans : List Span = c.in_ok-spans.spans.items in
    let text = c.in_ok-history.history.items in
    let calls : c.in_ok-calls.calls ≡ calls_of plan.settings plan.jobs =
    c.in_ok-calls.ensures ∙ ap₂ (λ (given : Opening) (jobs : List Job). calls_of given jobs) c.settings.ensures c.jobs.ensures in
    let endings : c.deref-2.result.now ≡ endings_of came.ends = c.deref-2.ensures.value ∙ c.in_ok-endings.ensures in
    let many = ap length c.jobs-2.ensures in
    let long = c.in_ok-spans.spans.ok.0 in
    let same = c.in_ok-spans.ensures in
    let all = c.in_ok-clock.ensures in
    record {
      served = c.in_ok-served.ensures;
      spans = spans;
      each = omega (arith, many, long, same, all);
      is =
          subst (λ (x : Asked). IsHistory x (endings_of came.ends) spans text) calls
          (subst (λ (x : List Ending). IsHistory c.in_ok-calls.calls x spans text) endings
          (subst (λ (x : List Span). IsHistory c.in_ok-calls.calls c.deref-2.result.now x text) c.deref-3.ensures.value c.in_ok-history.ensures));
    }
