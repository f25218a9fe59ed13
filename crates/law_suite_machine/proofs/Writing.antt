-- A decided write: its row is the next one, and what it leaves to be in effect was the register's.
use Rattle.law_suite_machine.proofs.Vocabulary.{◌≡◌, ℕ, ◌+◌, Bool, ◌⊎◌, inl, inr, List, ◌∷◌, Some, None, ap, ◌∙◌, arith, Prefix, Replica, Beginning, Known, Change, changed, Entry, Wrote, row, empty_of, WasCopy, IsKnown, IsNext, World, Answered}
use Rattle.law_suite_machine.proofs.Vocabulary.{effect, decided, IsReady, IsTake, MayWrite}
use Rattle.law_suite_machine.proofs.Sound.{Sound}
use Rattle.law_suite_machine.proofs.Invariant.{Inv}
use Rattle.law_suite_machine.proofs.Knowing.{all_known}

-- the row that a write makes
abbrev pub new_row : Beginning → World → Change → Replica
new_row start w new = changed new (row start w.log)

abbrev pub new_log : Beginning → World → ℕ → Known → Change → List Entry
new_log start w t known new = Wrote t known (new_row start w new) ∷ w.log

-- ---- the next row

next_prefix : (start : Beginning) (w : World) (t : ℕ) (set : ℕ → Bool) (known : Known) (new : Change) → IsKnown (row start w.log) known → MayWrite start w t set known new
    → (new.prefix ≡ (row start w.log).prefix) ⊎ (new.prefix.pver ≡ (row start w.log).prefix.pver + 1)
next_prefix start w t set known new is may = search arith

next_content : (start : Beginning) (w : World) (t : ℕ) (set : ℕ → Bool) (known : Known) (new : Change) → IsKnown (row start w.log) known → MayWrite start w t set known new
    → ((new.dver ≡ (row start w.log).dver) × ((new_row start w new).content ≡ (row start w.log).content)) ⊎ (new.dver ≡ (row start w.log).dver + 1)
next_content start w t set known new is may = search arith

pub next_row : (start : Beginning) (w : World) → Inv start w → (t : ℕ) (set : ℕ → Bool) (known : Known) (new : Change) → MayWrite start w t set known new → IsNext (row start w.log) (new_row start w new)
next_row start w inv t set known new may = search (all_known, next_prefix, next_content, arith)

pub same_kind : (start : Beginning) (w : World) → Inv start w → (t : ℕ) (set : ℕ → Bool) (known : Known) (new : Change) → MayWrite start w t set known new → new.dver ≡ 0 → new.prefix.kind ≡ (row start w.log).prefix.kind
same_kind start w inv t set known new may zero = may.kind zero ∙ ap (λ (p : Prefix). p.kind) (all_known start w inv t set known may.ready may.knows).prefix

-- at version 0 it is empty still
pub still_empty : (start : Beginning) (w : World) → Inv start w → (t : ℕ) (set : ℕ → Bool) (known : Known) (new : Change) → MayWrite start w t set known new → new.dver ≡ 0 → (new_row start w new).content ≡ empty_of new.prefix
still_empty start w inv t set known new may zero =
    elim ((next_row start w inv t set known new may).content) [
      | inl kept ↦ search (same_kind, arith)
      | inr up ↦ absurd (omega arith)
    ]

-- ---- what comes into effect

-- what it has prepared at a server is in effect there
pub lays : (w : World) → Sound w → (t : ℕ) (log : List Entry) → IsReady w t → (i : ℕ) (x : Replica) → w.ready i t ≡ Some (Some x) → effect (decided w t Answered log) i ≡ x
lays w s t log ready i x e = search arith

-- what a server has in effect then is an intention, made of what it had in effect, or the same as before
abbrev pub IsTaken : Change → Replica → Replica → Type 0
IsTaken new old c = IsTake old new c ⊎ (c ≡ old)

pub taken : (w : World) → Sound w → (t : ℕ) (new : Change) (log : List Entry) → w.verdict t ≡ None → w.aim t ≡ Some new → (j : ℕ) → IsTaken new (effect w j) (effect (decided w t Answered log) j)
taken w s t new log none aim j = search arith

-- ---- and was the register's

pub write_were : (start : Beginning) (w : World) → Inv start w → (t : ℕ) (known : Known) (new : Change) → IsNext (row start w.log) (new_row start w new) → (old c : Replica)
    → IsTaken new old c → WasCopy start w.log old → WasCopy start (new_log start w t known new) c
write_were start w h2 t known new h6 old c h9 h10 = search arith
