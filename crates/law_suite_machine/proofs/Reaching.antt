-- A decided write: each quorum of votes that the register had shows a newer prefix or the new one, and each quorum of its votes the content.
use Rattle.law_suite_machine.proofs.Vocabulary.{◌≡◌, ℕ, ◌+◌, ◌<◌, ◌≤◌, Bool, IsTrue, ◌⊎◌, inl, inr, Some, sym, ap, subst, ◌∙◌, arith, Configuration, is_write_quorum, SharedMember, IsValid, Prefix, Replica, Beginning, Known, Change, row, prefix_at}
use Rattle.law_suite_machine.proofs.Vocabulary.{World, Answered, IsQuorum, effect, decided, holds_exclusively, MayWrite}
use Rattle.vote_core.proofs.Meet.{reads_meet_writes, writes_meet}
use Rattle.law_suite_machine.proofs.Rows.{prefix_here, prefix_before}
use Rattle.law_suite_machine.proofs.Sound.{Sound}
use Rattle.law_suite_machine.proofs.Invariant.{Inv, Current, ShowsIn}
use Rattle.law_suite_machine.proofs.Knowing.{all_known}
use Rattle.law_suite_machine.proofs.Writing.{new_row, new_log, next_row, lays, taken, IsTaken, write_were}

pub quorum_meets : (votes : Configuration) → IsValid votes → (set writers : ℕ → Bool) → IsQuorum votes set → IsTrue (is_write_quorum votes writers) → SharedMember votes.reps set writers
quorum_meets votes valid set writers (inl read) write = reads_meet_writes votes valid set writers read write
quorum_meets votes valid set writers (inr other) write = writes_meet votes valid set writers other write

-- ---- the quorums that it holds

-- the prefix under which it asked for exclusive locks is the one that it knew
under_known : (start : Beginning) (w : World) → Inv start w → (t : ℕ) (set : ℕ → Bool) (known : Known) (new : Change) → (may : MayWrite start w t set known new) → may.under ≡ known.prefix
under_known start w inv t set known new may = search (all_known start w inv t set known may.ready may.knows, arith)

writes_known : (start : Beginning) (w : World) → Inv start w → (t : ℕ) (set : ℕ → Bool) (known : Known) (new : Change) → MayWrite start w t set known new → IsTrue (is_write_quorum known.prefix.votes (holds_exclusively w t))
writes_known start w inv t set known new may = subst (λ (p : Prefix). IsTrue (is_write_quorum p.votes (holds_exclusively w t))) (under_known start w inv t set known new may) may.quorum

writes_new : (start : Beginning) (w : World) → Inv start w → (t : ℕ) (set : ℕ → Bool) (known : Known) (new : Change) → MayWrite start w t set known new → IsTrue (is_write_quorum new.prefix.votes (holds_exclusively w t))
writes_new start w inv t set known new may = search (writes_known start w inv t set known new may, arith)

-- ---- prefixes

-- what is in effect after the write
abbrev now : Beginning → World → ℕ → Known → Change → ℕ → Replica
now start w t known new = effect (decided w t Answered (new_log start w t known new))

-- a copy of a newer prefix than p, or of the newest one
abbrev IsAbove : ℕ → ℕ → Replica → Type 0
IsAbove p top c = (p < c.prefix.pver) ⊎ (c.prefix.pver ≡ top)

-- the prefix stays: what was shown is shown, or an intention of the same version
kept_above : (p : ℕ) (top : ℕ) (new : Change) (old c : Replica) → new.prefix.pver ≡ top → IsTaken new old c → IsAbove p top old → IsAbove p new.prefix.pver c
kept_above p top new old c h5 h6 h7 = search arith

-- under an older prefix what was shown was newer already
older_above : (p : ℕ) (top : ℕ) (new : Change) (old c : Replica) → p < top → IsTaken new old c → IsAbove p top old → IsAbove p new.prefix.pver c
older_above p top new old c h5 h6 h7 = search arith

-- two versions are equal, or one is above the other
compared : (p n : ℕ) → p ≤ n → (p ≡ n) ⊎ (p < n)
compared p n le = grind arith

-- a write quorum that is to have the new prefix shows it in each quorum of the same votes
shown_prefix : (start : Beginning) (w : World) → Sound w → (t : ℕ) (set : ℕ → Bool) (known : Known) (new : Change) → MayWrite start w t set known new
    → ((i : ℕ) → IsTrue (holds_exclusively w t i) → (left : Replica) × (w.ready i t ≡ Some (Some left)) × (left.prefix.pver ≡ new.prefix.pver))
    → (votes : Configuration) → IsValid votes → IsTrue (is_write_quorum votes (holds_exclusively w t)) → (q : ℕ → Bool) → IsQuorum votes q → ShowsIn (now start w t known new) q (λ c. c.prefix.pver ≡ new.prefix.pver)
shown_prefix start w s t set known new may all votes valid write q quorum = search (quorum_meets votes valid q (holds_exclusively w t) quorum write, new_log start w t known new, lays, arith)

-- quorums of the votes that the register had before
before : (start : Beginning) (w : World) → Inv start w → (t : ℕ) (set : ℕ → Bool) (known : Known) (new : Change) → MayWrite start w t set known new → (n : ℕ)
    → n ≤ (row start w.log).prefix.pver → (q : ℕ → Bool) → IsQuorum (prefix_at start (new_log start w t known new) n).votes q → IsQuorum (prefix_at start w.log n).votes q
before start w inv t set known new may n le q = subst (λ (p : Prefix). IsQuorum p.votes q) (prefix_before start w.log inv.logged t known (new_row start w new) (next_row start w inv t set known new may) n le)

write_reach : (start : Beginning) (w : World) → Inv start w → (t : ℕ) (set : ℕ → Bool) (known : Known) (new : Change) → MayWrite start w t set known new → (n : ℕ)
    → n ≤ new.prefix.pver → (q : ℕ → Bool) → IsQuorum (prefix_at start (new_log start w t known new) n).votes q → ShowsIn (now start w t known new) q (IsAbove n new.prefix.pver)
write_reach start w inv t set known new may n le q quorum =
    let log = new_log start w t known new in
    let top = (row start w.log).prefix.pver in
    let is = all_known start w inv t set known may.ready may.knows in
    let became : (j : ℕ) → IsTaken new (effect w j) (now start w t known new j) = taken w inv.sound t new log may.ready.undecided may.aimed in
    let old : (n ≤ top) → IsQuorum (prefix_at start w.log n).votes q = λ m. before start w inv t set known new may n m q quorum in
    elim (may.covers_prefix) [
      | inl same ↦
          let e : new.prefix.pver ≡ top = ap (λ (p : Prefix). p.pver) (same ∙ is.prefix) in
          let m : n ≤ top = omega arith in
          let x = inv.current.reach n m q (old m) in
          (x.0, x.1, kept_above n top new (effect w x.0) (now start w t known new x.0) e (became x.0) x.2)
      | inr up ↦
          let e : new.prefix.pver ≡ top + 1 = up.0 ∙ ap (λ (p : Prefix). p.pver + 1) is.prefix in
          elim (compared n new.prefix.pver le) [
            | inl newest ↦
                let here = subst (λ (p : Prefix). IsQuorum p.votes q) (prefix_here start w.log t known (new_row start w new) n newest) quorum in
                let x = shown_prefix start w inv.sound t set known new may up.1 new.prefix.votes may.valid (writes_new start w inv t set known new may) q here in
                (x.0, x.1, inr x.2)
            | inr lower ↦
                let m : n ≤ top = omega arith in
                elim (compared n top m) [
                  | inl last ↦
                      let own : prefix_at start w.log n ≡ known.prefix = ap (prefix_at start w.log) last ∙ inv.logged.own.0.1 ∙ sym is.prefix in
                      let x = shown_prefix start w inv.sound t set known new may up.1 known.prefix.votes (subst (λ (p : Prefix). IsValid p.votes) own (inv.logged.valid n))
                      (writes_known start w inv t set known new may) q (subst (λ (p : Prefix). IsQuorum p.votes q) own (old m)) in
                      (x.0, x.1, inr x.2)
                  | inr less ↦
                      let x = inv.current.reach n m q (old m) in
                      (x.0, x.1, older_above n top new (effect w x.0) (now start w t known new x.0) less (became x.0) x.2)
                ]
          ]
    ]

-- ---- contents

-- the content stays: what was shown is shown, or an intention with that content
kept_dver : (new : Change) (top : ℕ) (old c : Replica) → new.dver ≡ top → IsTaken new old c → old.dver ≡ top → c.dver ≡ new.dver
kept_dver new top old c same (inl take) is = elim (take.content) [ inl whole ↦ whole.0 | inr kept ↦ kept.0 ∙ is ∙ sym same ]
kept_dver new top old c same (inr e) is = ap (λ (c : Replica). c.dver) e ∙ is ∙ sym same

write_content : (start : Beginning) (w : World) → Inv start w → (t : ℕ) (set : ℕ → Bool) (known : Known) (new : Change) → MayWrite start w t set known new → (q : ℕ → Bool)
    → IsQuorum new.prefix.votes q → ShowsIn (now start w t known new) q (λ c. c.dver ≡ new.dver)
write_content start w inv t set known new may q quorum =
    let log = new_log start w t known new in
    let is = all_known start w inv t set known may.ready may.knows in
    elim (may.covers_content) [
      | inl same ↦
          let x = inv.current.content q (subst (λ v. IsQuorum v q) (same.1 ∙ ap (λ (p : Prefix). p.votes) is.prefix) quorum) in
          (x.0, x.1, kept_dver new (row start w.log).dver (effect w x.0) (now start w t known new x.0) (same.0.0 ∙ is.dver) (taken w inv.sound t new log may.ready.undecided may.aimed x.0) x.2)
      | inr more ↦
          let m = quorum_meets new.prefix.votes may.valid q (holds_exclusively w t) quorum (writes_new start w inv t set known new may) in
          let x = more.1 m.server m.in_second m.has_vote in
          (m.server, m.in_first, ap (λ (c : Replica). c.dver) (lays w inv.sound t log may.ready m.server x.0 x.1) ∙ x.2)
    ]

pub write_current : (start : Beginning) (w : World) → Inv start w → (t : ℕ) (set : ℕ → Bool) (known : Known) (new : Change) → MayWrite start w t set known new → Current start (now start w t known new) (new_log start w t known new)
write_current start w inv t set known new may = record {
  were = λ j. write_were start w inv t known new (next_row start w inv t set known new may) (effect w j) (now start w t known new j)
      (taken w inv.sound t new (new_log start w t known new) may.ready.undecided may.aimed j) (inv.current.were j);
  reach = write_reach start w inv t set known new may;
  content = write_content start w inv t set known new may;
}
