use Rattle.suite_collect.proofs.Vocabulary.{ap, sym, ◌∙◌, Shared, Exclusive, MAX_SERVERS, holds, has_refused, shown, first_busy}
use Rattle.suite_collect.proofs.Unseen.{unseen}
use Rattle.suite_collect.proofs.heard.Heard.new.Goals as goal

pub invariant_of-result : goal.invariant_of-result
invariant_of-result c = record {
  held = λ server. c.empty.ensures.members server ∙ ap (λ told. holds Shared told server) (sym c.new.ensures);
  exclusive = λ server. c.empty-2.ensures.members server ∙ ap (λ told. holds Exclusive told server) (sym c.new.ensures);
  refused = λ server. c.empty-3.ensures.members server ∙ ap (λ told. has_refused told server) (sym c.new.ensures);
  shown = λ server. unseen MAX_SERVERS server ∙ ap (λ told. shown told server) (sym c.new.ensures);
  busy = ap first_busy (sym c.new.ensures);
}
