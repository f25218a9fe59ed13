use Rattle.explore.proofs.Vocabulary.{◌≡◌, ◌∙◌, ◌+◌, ap, min, sym, get_or_default, last_number, printed_in}
use Rattle.explore.proofs.Joining.{ends_added}
use Rattle.explore.proofs.ways.JoinedWays.add_ends.Goals as goal

pub returns-clause-ways : goal.returns-clause-ways
returns-clause-ways c = λ way ends.
    let ways = c.args.self.now.ways.items in
    let old = c.index.result.now in
    let same : c.index_mut.result.now ≡ old = c.index_mut.ensures.value ∙ get_or_default ways c.args.place c.index_mut.result.now old c.requires ∙ sym c.index.ensures in
    ends_added printed_in ways old _ way c.args.place c.requires c.index.ensures
    (λ i. record { lines = (same i).lines.items; ends = (c.saturating_add-all.ensures ∙ ap (λ more. min (old.ends + more) last_number) (sym ends)) i; script = (same i).script.now })
