use Rattle.rep_core.proofs.Vocabulary.{◌≡◌, ◌+◌, false, length, ap, sym, ◌∙◌, arith, nat_lt, min, count_by, nat_tests, Storing, store_of, Store, suites_with, intended, max_suites}
use Rattle.rep_core.proofs.Planned.{length_in, rising_in}
use Rattle.rep_core.proofs.Counting.{takes_new, suites_intended, over_most, not_over}
use Rattle.rep_core.proofs.Kept.{length_copies}
use Rattle.rep_core.proofs.store.Store.exceeds.Goals as goal

pub returns-then-most-gt-MAX_SUITES : goal.returns-then-most-gt-MAX_SUITES
returns-then-most-gt-MAX_SUITES c = λ t.
    let store : Store = c.args.self.now.store in
    let parts = c.args.parts.now in
    over_most c.suites_with.result (suites_with store + count_by (takes_new store) parts) c.suites_with.ensures.count
    ∙ ap (λ n. nat_lt max_suites n) (sym (suites_intended store t parts c.requires c.suites_with.ensures.rising))

pub returns-else-most-gt-MAX_SUITES : goal.returns-else-most-gt-MAX_SUITES
returns-else-most-gt-MAX_SUITES c = λ t.
    let parts = c.args.parts.now in
    let old : Store = store_of c.self.inside in
    let same : old ≡ c.args.self.now.store = ap (λ (shown : Storing). shown.store) c.self.view_is in
    let most : c.saturating_add-most.result ≡ min (min (length old.copies + length old.intentions) 18446744073709551615 + length parts) 18446744073709551615 =
    c.saturating_add-most.ensures
    ∙ ap (λ n. min (n + length parts) 18446744073709551615)
    (c.saturating_add.ensures
    ∙ (λ i. min ((c.len.ensures.len ∙ sym (length_copies c.self.inside.copies.pairs)) i + (c.len-2.ensures.len ∙ sym (length_in c.self.inside.intentions.pairs)) i)
    18446744073709551615)) in
    let few : nat_lt max_suites c.saturating_add-most.result ≡ false = grind (arith, nat_tests, c.if-most-gt-MAX_SUITES.false) in
    few
    ∙ sym (not_over old t parts c.saturating_add-most.result c.requires (rising_in c.self.inside.intentions.pairs c.len-2.ensures.ordered) most few)
    ∙ ap (λ (store : Store). nat_lt max_suites (suites_with (intended t parts store))) same
