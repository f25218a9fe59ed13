use Rattle.suite_script.proofs.Vocabulary.{◌∙◌, ◌+◌, ◌++◌, ap, field_text}
use Rattle.suite_script.proofs.Fields.{fields_from, more_fields}
use Rattle.suite_script.proofs.votes.push_fields.Goals as goal

pub loop-server-preserved : goal.loop-server-preserved
loop-server-preserved c =
    let reps = c.args.reps.now in
    let server = c.loop-server.server in
    let end = c.last_server-end.result + 1 in
    ap (λ text. text ++ fields_from reps (server + 1) end) c.in_ok-push_field-2.ensures
    ∙ ap (λ text. (text ++ field_text reps server) ++ fields_from reps (server + 1) end) c.in_ok-push.ensures.items
    ∙ more_fields reps c.loop-server.text.items server end c.loop-server-test.true
    ∙ c.loop-server.invariant
