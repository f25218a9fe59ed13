use Rattle.std.proofs.Common.{◌≡◌, ◌∙◌, List, ℕ, OnOk, subst, sym}
use Rattle.event_json.proofs.Owning.{some_came}
use Rattle.event_json.proofs.servers.push_came.Goals as goal

pub returns : goal.returns
returns c =
    subst (λ (text : List ℕ). OnOk c.push_denials.result (c.push_denials.new.text.items ≡ text))
    (some_came c.args.items.now c.args.text.now.items c.extend_from_slice.new.self.items (sym c.is_empty.ensures ∙ c.if-is_empty.false) c.in_ok-extend_from_slice.ensures.items)
    c.push_denials.ensures
