use Rattle.rep_core.proofs.Vocabulary.{◌≡◌, sym, ◌∙◌, ap, copies_in, forms_in, intentions_in, store_of}
use Rattle.rep_core.proofs.store.Store.same.Goals as goal

pub returns : goal.returns
returns c = λ yes.
    let own = c.self.inside in
    let theirs = c.other.inside in
    let votes : own.absent.votes ≡ theirs.absent.votes = ap (λ p. p.votes) (sym c.deref.ensures) ∙ c.same_votes.ensures c.if-not-same_votes.false ∙ ap (λ p. p.votes) c.deref-2.ensures in
    let copies : own.copies.pairs ≡ theirs.copies.pairs = sym c.as_slice.ensures.pairs ∙ c.same_copies.ensures c.if-not-same_copies.false ∙ c.as_slice-2.ensures.pairs in
    let intentions : own.intentions.pairs ≡ theirs.intentions.pairs = sym c.as_slice-3.ensures.pairs ∙ c.same_intentions.ensures yes ∙ c.as_slice-4.ensures.pairs in
    let same : store_of own ≡ store_of theirs = λ i. record { c0 = votes i; copies = copies_in (copies i); forms = forms_in (copies i); intentions = intentions_in (intentions i) } in
    sym (ap (λ s. s.store) c.self.view_is) ∙ same ∙ ap (λ s. s.store) c.other.view_is
