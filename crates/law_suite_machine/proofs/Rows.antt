-- The register: what it had stays so when it is written.
use Rattle.law_suite_machine.proofs.Vocabulary.{◌≡◌, ℕ, ◌<◌, ◌≤◌, ◌⊎◌, inl, inr, List, ◌∷◌, refl, arith, IsValid, Content, Prefix, Replica, Beginning, Known, Entry, Read, Wrote, row, prefix_at, empty_of, WasPrefix, WasContent, GoesWith, WasCopy}
use Rattle.law_suite_machine.proofs.Vocabulary.{IsKnown, IsNext, IsPlain}
use Rattle.law_suite_machine.proofs.Places.{at1}

-- the register's own row is what it had at the row's versions
pub record Logged (start : Beginning) (log : List Entry) : Type 0 where
  pub plain : IsPlain start log
  pub own : WasCopy start log (row start log)
  pub never : WasPrefix start log start.never.prefix
  pub valid : (p : ℕ) → IsValid (prefix_at start log p).votes
  pub kind : (row start log).dver ≡ 0 → (p : ℕ) → (prefix_at start log p).kind ≡ (row start log).prefix.kind

pub none_or_some : (n : ℕ) → (n ≡ 0) ⊎ (0 < n)
none_or_some n = grind arith

-- ---- at the versions of a write

pub prefix_here : (start : Beginning) (log : List Entry) (t : ℕ) (known : Known) (new : Replica) (p : ℕ) → p ≡ new.prefix.pver → prefix_at start (Wrote t known new ∷ log) p ≡ new.prefix
prefix_here start log t known new p e = at1 (λ v. v ≡ new.prefix) (prefix_at start log) new.prefix.pver new.prefix p (λ _. refl) (λ other. absurd (other e))

-- ---- at older ones

pub prefix_before : (start : Beginning) (log : List Entry) → Logged start log → (t : ℕ) (known : Known) (new : Replica) → IsNext (row start log) new → (p : ℕ)
    → p ≤ (row start log).prefix.pver → prefix_at start (Wrote t known new ∷ log) p ≡ prefix_at start log p
prefix_before start log l t known new next p le = search arith

-- ---- what was the register's stays so

pub was_prefix : (start : Beginning) (log : List Entry) → Logged start log → (t : ℕ) (known : Known) (new : Replica) → IsNext (row start log) new → (prefix : Prefix)
    → WasPrefix start log prefix → WasPrefix start (Wrote t known new ∷ log) prefix
was_prefix start log l t known new next prefix was = search arith

pub was_content : (start : Beginning) (log : List Entry) → Logged start log → (t : ℕ) (known : Known) (new : Replica) → IsNext (row start log) new → (d : ℕ) (content : Content)
    → WasContent start log d content → WasContent start (Wrote t known new ∷ log) d content
was_content start log l t known new next d content was = search arith

pub goes_with : (start : Beginning) (log : List Entry) → Logged start log → (t : ℕ) (known : Known) (new : Replica) → IsNext (row start log) new
    → (prefix : Prefix) (d : ℕ) (content : Content) → GoesWith start log prefix d content → GoesWith start (Wrote t known new ∷ log) prefix d content
goes_with start log l t known new next prefix d content (inl was) = inl (was_content start log l t known new next d content was)
goes_with start log l t known new next prefix d content (inr zero) = inr zero

pub was_copy : (start : Beginning) (log : List Entry) → Logged start log → (t : ℕ) (known : Known) (new : Replica) → IsNext (row start log) new → (copy : Replica) → WasCopy start log copy → WasCopy start (Wrote t known new ∷ log) copy
was_copy start log l t known new next copy was =
    (was_prefix start log l t known new next copy.prefix was.0, goes_with start log l t known new next copy.prefix copy.dver copy.content was.1)

-- ---- what a decision leaves of the log

pub read_logged : (start : Beginning) (log : List Entry) (t : ℕ) (known : Known) → IsKnown (row start log) known → Logged start log → Logged start (Read t known ∷ log)
read_logged start log t known is l = record { plain = (is, l.plain); own = l.own; never = l.never; valid = l.valid; kind = l.kind }

pub write_logged : (start : Beginning) (log : List Entry) → Logged start log → (t : ℕ) (known : Known) (new : Replica) → IsKnown (row start log) known → IsNext (row start log) new → IsValid new.prefix.votes
    → (new.dver ≡ 0 → new.content ≡ empty_of new.prefix) → (new.dver ≡ 0 → new.prefix.kind ≡ (row start log).prefix.kind) → Logged start (Wrote t known new ∷ log)
write_logged start log l t known new is next valid empty kind = search arith
