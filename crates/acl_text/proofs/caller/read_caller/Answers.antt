use Rattle.acl_text.proofs.Vocabulary.{rules, ◌≡◌, ℕ, [], map, eqb, refl, ap, ◌∙◌, arith, slice_split, number_up_to, max_id}
use Rattle.acl_text.proofs.Ids.{ids_after, ids_at_first}
use Rattle.acl_text.proofs.caller.read_caller.Goals as goal

pub loop-number-init : goal.loop-number-init
loop-number-init c =
    let parts = slice_split (λ (byte : ℕ). eqb byte 44) c.args.text.now in
    let left : c.into_iter-number-iterator.result ≡ map (number_up_to max_id) parts = search rules in
    record { places = refl; few = omega arith; read = ap (ids_after []) left ∙ ids_at_first parts }
