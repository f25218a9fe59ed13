use Rattle.std.proofs.Common.{sym, ◌∙◌}
use Rattle.suite_prefix.proofs.Openings.{none_unknown}
use Rattle.suite_prefix.proofs.settings.Settings.new.Goals as goal
use Rattle.suite_prefix.proofs.settings.Settings.new.Goals.{then-lists_unknown-via-then-lists_unknown, then-lists_unknown-via-else-lists_unknown+then-goes_beyond}

pub returns-then-lists_unknown-clause-accepted : goal.returns-then-lists_unknown-clause-accepted
returns-then-lists_unknown-clause-accepted c = (
  λ no_way. absurd cc,
  λ accepted. elim c.then-lists_unknown.branch [
    | then-lists_unknown-via-then-lists_unknown w ↦ sym (none_unknown c.args.servers c.args.c0.reps accepted.known_servers) ∙ sym c.lists_unknown.ensures ∙ w.if-lists_unknown.true
    | then-lists_unknown-via-else-lists_unknown+then-goes_beyond w ↦ sym (w.goes_beyond.ensures.none.1 accepted.old_known) ∙ w.if-goes_beyond.true
  ],
)

pub returns-then-is_too_large-clause-accepted : goal.returns-then-is_too_large-clause-accepted
returns-then-is_too_large-clause-accepted c = (λ no_way. absurd cc, λ accepted. sym (c.is_too_large.ensures.held.1 accepted.old_fits) ∙ c.if-is_too_large.true)
