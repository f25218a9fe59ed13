use Rattle.std.proofs.Common.{◌+◌, ◌∷◌, ◌++◌, [], ◌∙◌, ap, drop, sym}
use Rattle.std.proofs.lemmas.List.{drop_more}
use Rattle.event_json.specs.code.Owning.{parted_by}
use Rattle.event_json.proofs.Owning.{kept_step}
use Rattle.event_json.proofs.servers.push_kept.Goals as goal

pub loop-own-preserved : goal.loop-own-preserved
loop-own-preserved c =
    let copies = c.args.copies.now in
    let i = c.loop-own.own-index in
    let own = c.own-item.result in
    kept_step c.loop-own.text.items c.extend_from_slice.new.self.items c.push_own.new.text.items (c.args.text.now.items ++ parted_by [] copies) c.loop-own.between.now
    own (drop (i + 1) copies) (drop i copies)
    (drop_more copies i own c.loop-own-test.true ∙ ap (λ one. one ∷ drop (i + 1) copies) (sym c.own-item.is))
    c.in_ok-extend_from_slice.ensures.items c.in_ok-push_own.ensures c.loop-own.invariant
