use Rattle.suite_script.proofs.Vocabulary.{◌≡◌, ◌∷◌, ◌∙◌, ap, sym, ok_map, operations_in, kept}
use Rattle.suite_script.proofs.Steps.{kept_more, ops_after}
use Rattle.suite_script.proofs.operation.read_operations.Goals as goal

pub loop-ops-preserved : goal.loop-ops-preserved
loop-ops-preserved c =
    let names = c.args.names.now in
    let front = c.loop-ops.ops.items in
    let op = c.in_ok-read_operation.field-0 in
    let next : c.next_phrase.new.self.here ∷ c.next_phrase.new.self.later ≡ c.loop-ops.phrases.later =
    sym c.if-not-next_phrase.ensures ∙ c.in_ok-read_operation.ensures.later in
    record {
      few = c.in_ok-keep.ensures.few;
      same =
          ap (λ phrases. ok_map kept (ops_after c.keep.new.ops.items (operations_in names phrases))) next
          ∙ ap (λ items. ok_map kept (ops_after items (operations_in names c.loop-ops.phrases.later))) c.in_ok-keep.ensures.ok
          ∙ kept_more names front c.loop-ops.phrases.here c.loop-ops.phrases.later op c.in_ok-read_operation.ensures.operation
          ∙ c.loop-ops.invariant.same;
    }
