use Rattle.txn_core.proofs.Vocabulary.{◌≡◌, ◌≤◌, ◌<◌, ◌++◌, ◌∙◌, ℕ, ap, sym, subst, arith, length, get_or, [], nat_cmp, append-nil, at_drop_all, IsOrdered, Known, Suites, known_of, Viewed, known_by}
use Rattle.txn_core.specs.code.Seeing.{told_of}
use Rattle.txn_core.proofs.Seeing.{told_all, told_length, told_item, told_ordered, told_learned, known_seen}
use Rattle.txn_core.proofs.Tellings.{telling_more, known_rises}
use Rattle.txn_core.proofs.knowing.known_of.Goals as goal

pub from_ordered-known-requires : goal.from_ordered-known-requires
from_ordered-known-requires c =
    let just_learned = c.args.after.just_learned.now in
    let old = c.args.after.suites.now.pairs in
    let told = told_all just_learned old in
    let known : Known = c.loop-number.known.items in
    let at = c.loop-number.number-index in
    let past : length told ≤ at =
    subst (λ (n : ℕ). n ≤ at) (ap (λ l. length l) c.as_slice-number-items.ensures.pairs ∙ sym (told_length just_learned old)) c.loop-number-test.false in
    let all : known ≡ known_of told =
    sym (append-nil known)
    ∙ sym (at_drop_all (λ (left : Suites). known ++ known_of left) told at past)
    ∙ c.loop-number.invariant in
    subst (λ (known : Known). IsOrdered nat_cmp known) (sym all) (known_rises told (told_ordered just_learned old c.as_slice-number-items.ensures.ordered))

pub loop-number-preserved : goal.loop-number-preserved
loop-number-preserved c =
    let just_learned = c.args.after.just_learned.now in
    let old = c.args.after.suites.now.pairs in
    let told = told_all just_learned old in
    let at = c.loop-number.number-index in
    let one = c.loop-number-item.result in
    let suite = told_of just_learned one.0 one.1 in
    let known : Known = c.loop-number.known.items in
    let long : length c.as_slice-number-items.result.now ≡ length old = ap (λ l. length l) c.as_slice-number-items.ensures.pairs in
    let item : one ≡ get_or old at one = c.loop-number-item.is ∙ ap (λ l. get_or l at one) c.as_slice-number-items.ensures.pairs in
    let below : at < length old = omega arith in
    let under : at < length told = subst (λ (n : ℕ). at < n) (sym (told_length just_learned old)) below in
    telling_more told at (one.0, suite) known _ under (told_item just_learned old at one below item)
    (c.in_ok-tell.ensures ∙ ap (λ (suite_view : Viewed). known ++ known_by one.0 suite_view []) c.at.ensures ∙ ap (λ l. known ++ l) (known_seen one.0 suite []))
    c.loop-number.invariant

pub returns-clause-known : goal.returns-clause-known
returns-clause-known c =
    let just_learned = c.args.after.just_learned.now in
    let old = c.args.after.suites.now.pairs in
    let told = told_all just_learned old in
    let known : Known = c.loop-number.known.items in
    let at = c.loop-number.number-index in
    let past : length told ≤ at =
    subst (λ (n : ℕ). n ≤ at) (ap (λ l. length l) c.as_slice-number-items.ensures.pairs ∙ sym (told_length just_learned old)) c.loop-number-test.false in
    let all : known ≡ known_of told =
    sym (append-nil known)
    ∙ sym (at_drop_all (λ (left : Suites). known ++ known_of left) told at past)
    ∙ c.loop-number.invariant in
    let service = c.args.fixed_parts.now in
    c.of.ensures
    ∙ ap (λ suites. record { service = c.as_service.result.now; suites = suites }) c.from_ordered-known.ensures.pairs
    ∙ ap (λ s. record { service = s; suites = known }) c.as_service.ensures
    ∙ ap (λ known. record { service = service; suites = known }) (all ∙ ap known_of (told_learned old just_learned c.as_slice-number-items.ensures.ordered))
