use Rattle.rep_core.proofs.Vocabulary.{rules, ◌≡◌, ap, Store, opening_store, intentions_in}
use Rattle.rep_core.proofs.store.Store.opening.Goals as goal

pub returns : goal.returns
returns c =
    let opened : Store = opening_store c.args.index c.args.settings.now in
    let votes : c.in_ok-absent.absent.votes ≡ opened.c0 = search rules in
    let none : intentions_in c.new-2.result.pairs ≡ opened.intentions = ap intentions_in c.new-2.ensures in
    λ i. record { c0 = votes i; copies = c.in_ok-copies.ensures.copies i; forms = c.in_ok-copies.ensures.forms i; intentions = none i }
