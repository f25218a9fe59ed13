-- What a crash leaves.
use Rattle.line_session.proofs.Vocabulary.{◌≡◌, ◌∙◌, ◌⊎◌, ◌≤◌, ℕ, Bool, inl, inr, true, List, [], ◌∷◌, ◌++◌, ap, sym, subst, length, append_assoc, LineKind, Came, begin, keeps, manner_of, journal_of, cut, run, AreReadBack, JournalRestores, NoneLeft}
use Rattle.journal_file.specs.Files.{CrashLeaves, FileView, IsFrontOf, IsSynced, appended}
use Rattle.line_session.specs.Crashed.{CrashKeepsAll, CrashRestores, IsBetween}
use Rattle.line_session.specs.Restored.{WasIn}

-- a front of one text alone
pub the_front : (bytes one : List ℕ) (others : List (List ℕ)) → others ≡ [] → IsFrontOf bytes (one ∷ others) → (back : List ℕ) × (bytes ++ back ≡ one)
the_front bytes one others none fronts = elim (subst (λ it. IsFrontOf bytes (one ∷ it)) none fronts) [
  | inl front ↦ front
  | inr never ↦ elim never [ ]
]

pub keeps_all : CrashKeepsAll
keeps_all view piece front back bytes synced splits leaves =
    let at = the_front bytes (view.bytes ++ front) view.past synced.1 leaves.1 in
    record {
      back = at.0 ++ back;
      front_of = sym (append_assoc bytes at.0 back) ∙ ap (λ it. it ++ back) at.1 ∙ append_assoc view.bytes front back ∙ ap (λ it. view.bytes ++ it) splits;
      has_all = subst (λ it. it ≤ length bytes) synced.0 leaves.0;
    }

pub crash_restores : {State : Type 0} (kind : State → List ℕ → LineKind) (text : State → ℕ → List ℕ → List ℕ) (next : State → List ℕ → State) → JournalRestores kind text next → CrashRestores kind text next
crash_restores kind text next restores = λ marks start came lines none read view bytes holds past leaves.
    let at = the_front bytes view.bytes view.past past leaves.1 in
    restores marks start came lines none read bytes at.0 (at.1 ∙ holds)
