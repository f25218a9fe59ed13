use Rattle.std.proofs.Common.{◌≡◌, ◌++◌, ◌∙◌, ap, List, ℕ, OnOk, subst}
use Rattle.event_json.specs.Strings.{listed}
use Rattle.event_json.specs.Servers.{own_text}
use Rattle.event_json.proofs.Owning.{kept_listed, parted_listed}
use Rattle.event_json.proofs.servers.push_owns.Goals as goal

pub returns : goal.returns
returns c =
    subst (λ (told : List ℕ). OnOk c.push_kept.result (c.push_kept.new.text.items ≡ c.args.text.now.items ++ told))
    (parted_listed c.copies.result.now ∙ kept_listed c.copies.result.now ∙ ap (λ all. listed own_text all) c.copies.ensures) c.push_kept.ensures
