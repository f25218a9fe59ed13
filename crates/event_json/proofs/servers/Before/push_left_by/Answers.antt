use Rattle.std.proofs.Common.{◌≡◌, ◌++◌, ◌∙◌, ap, List, ℕ, OnOk, subst}
use Rattle.std.specs.List.{filter_map}
use Rattle.event_json.specs.Strings.{listed}
use Rattle.event_json.specs.Servers.{left_by, own_text}
use Rattle.event_json.proofs.Owning.{left_told}
use Rattle.event_json.proofs.servers.Before.push_left_by.Goals as goal

pub returns : goal.returns
returns c =
    let locks : c.as_slice.result.now ≡ c.args.self.now.locks.items = cc in
    subst (λ (told : List ℕ). OnOk c.push_kept_by.result (c.push_kept_by.new.text.items ≡ c.args.text.now.items ++ told))
    (left_told c.args.t c.copies.result.now c.as_slice.result.now
    ∙ ap (λ copies. listed own_text (filter_map (left_by c.args.t copies) c.as_slice.result.now)) c.copies.ensures
    ∙ ap (λ all. listed own_text (filter_map (left_by c.args.t c.args.server.now.state.store.copies) all)) locks) c.push_kept_by.ensures
