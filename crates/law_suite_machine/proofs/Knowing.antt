-- What a transaction knows when it is decided is what the register holds.
use Rattle.law_suite_machine.proofs.Vocabulary.{◌≡◌, ℕ, ◌≤◌, Bool, inl, inr, List, Some, sym, ap, subst, ◌∙◌, arith, Content, Prefix, Replica, Beginning, Known, Entry, row, prefix_at, GoesWith, IsKnown, World, Hold, Told, IsQuorum, effect, IsReady}
use Rattle.law_suite_machine.proofs.Vocabulary.{Knows}
use Rattle.law_suite_machine.proofs.Rows.{Logged}
use Rattle.law_suite_machine.proofs.Sound.{Sound, effect_held}
use Rattle.law_suite_machine.proofs.Invariant.{Inv}

-- where a transaction that is ready was told a copy, its lock still stands
pub still_locked : (w : World) → Sound w → (t : ℕ) → IsReady w t → (i : ℕ) (a : Told) → w.told i t ≡ Some a → (h : Hold) × (w.lock i t ≡ Some h)
still_locked w s t ready i a told = search arith

-- and that copy is in effect there
pub told_effect : (w : World) → Sound w → (t : ℕ) → IsReady w t → (i : ℕ) (a : Told) → w.told i t ≡ Some a → effect w i ≡ a.copy
told_effect w s t ready i a told = search (still_locked, effect_held, arith)

-- the prefix that it knows has the row's version
version_known : (start : Beginning) (w : World) → Inv start w → (t : ℕ) (set : ℕ → Bool) (known : Known) → IsReady w t → Knows start w t set known → known.prefix.pver ≡ (row start w.log).prefix.pver
version_known start w inv t set known ready k =
    let le = k.was.0 in
    let x = inv.current.reach known.prefix.pver le set (subst (λ (p : Prefix). IsQuorum p.votes set) (sym k.was.1) k.quorum) in
    let a = k.told x.0 x.1 in
    let newest = k.newest x.0 a.0 x.1 a.1 in
    let same = ap (λ (c : Replica). c.prefix.pver) (told_effect w inv.sound t ready x.0 a.0 a.1) in
    elim (x.2) [ inl lt ↦ absurd (omega arith) | inr e ↦ omega arith ]

pub prefix_known : (start : Beginning) (w : World) → Inv start w → (t : ℕ) (set : ℕ → Bool) (known : Known) → IsReady w t → Knows start w t set known → known.prefix ≡ (row start w.log).prefix
prefix_known start w inv t set known ready k =
    sym k.was.1 ∙ ap (prefix_at start w.log) (version_known start w inv t set known ready k) ∙ inv.logged.own.0.1

-- no copy in effect has a greater version of the content than the row
pub within_row : (start : Beginning) (w : World) → Inv start w → (i : ℕ) → (effect w i).dver ≤ (row start w.log).dver
within_row start w inv i = elim ((inv.current.were i).1) [ inl was ↦ was.1 | inr zero ↦ let e = zero.0 in omega arith ]

pub dver_known : (start : Beginning) (w : World) → Inv start w → (t : ℕ) (set : ℕ → Bool) (known : Known) → IsReady w t → Knows start w t set known → known.dver ≡ (row start w.log).dver
dver_known start w inv t set known ready k =
    let x = inv.current.content set (subst (λ (p : Prefix). IsQuorum p.votes set) (prefix_known start w inv t set known ready k) k.quorum) in
    let a = k.told x.0 x.1 in
    let greatest = k.greatest x.0 a.0 x.1 a.1 in
    let same = ap (λ (c : Replica). c.dver) (told_effect w inv.sound t ready x.0 a.0 a.1) in
    let most = within_row start w inv k.from in
    let from = ap (λ (c : Replica). c.dver) (told_effect w inv.sound t ready k.from k.from_told k.told_from) in
    let of = k.told_dver in
    let there = x.2 in
    omega arith

-- a content that goes with the row's prefix at the row's version is the row's
row_content : (start : Beginning) (log : List Entry) → Logged start log → (prefix : Prefix) (d : ℕ) (content : Content) → prefix ≡ (row start log).prefix
    → d ≡ (row start log).dver → GoesWith start log prefix d content → content ≡ (row start log).content
row_content start log h2 prefix d content h6 h7 h8 = search arith

pub all_known : (start : Beginning) (w : World) → Inv start w → (t : ℕ) (set : ℕ → Bool) (known : Known) → IsReady w t → Knows start w t set known → IsKnown (row start w.log) known
all_known start w inv t set known ready k = search (prefix_known start w inv t set known ready k, dver_known start w inv t set known ready k, row_content, arith)
