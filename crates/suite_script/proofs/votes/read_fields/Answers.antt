use Rattle.suite_script.proofs.Vocabulary.{◌≡◌, ◌∙◌, ◌<◌, true, false, take, codes, ap, sym, arith, rules, bytes_eq, max_servers, reps_from}
use Rattle.suite_script.proofs.Fields.{listed_more, reps_after, unlisted_more}
use Rattle.suite_script.proofs.votes.read_fields.Goals as goal
use Rattle.suite_script.proofs.votes.read_fields.Goals.{then-ne+in_ok-read_number, else-ne}

pub loop-field-preserved : goal.loop-field-preserved
loop-field-preserved c =
    let server = c.loop-field.server in
    let field = c.in-Some.field.now in
    let fields = c.next.new.self in
    let inside : server < max_servers = omega arith in
    elim c.if-ne.branch [
      | then-ne+in_ok-read_number w ↦
          let differs : bytes_eq field (codes "-") ≡ false = search rules in
          record {
            places = search rules;
            few = omega arith;
            servers = omega arith;
            read =
                rw (w.reps-is, w.count-is)
                (listed_more c.loop-field.reps c.loop-field.count server w.in_ok-read_number.field-0 field fields (omega arith) inside differs
                (sym w.read_number.ensures ∙ w.in_ok-read_number.was)
                ∙ ap (λ parts. reps_after (take c.loop-field.count c.loop-field.reps) (reps_from server parts)) (sym c.in-Some.ensures.steps)
                ∙ c.loop-field.invariant.read);
          }
      | else-ne w ↦
          let same : bytes_eq field (codes "-") ≡ true = search rules in
          record {
            places = search rules;
            few = omega arith;
            servers = omega arith;
            read =
                rw (w.reps-is, w.count-is)
                (unlisted_more (take c.loop-field.count c.loop-field.reps) server field fields inside same
                ∙ ap (λ parts. reps_after (take c.loop-field.count c.loop-field.reps) (reps_from server parts)) (sym c.in-Some.ensures.steps)
                ∙ c.loop-field.invariant.read);
          }
    ]
