-- Texts that grow at their end.
use Rattle.acl_text.proofs.Vocabulary.{◌≡◌, ℕ, List, ◌++◌, Result, append_assoc, OnErr, arith}

-- what holds anyway holds on an error
pub held : {T E P : Type 0} (r : Result T E) → P → OnErr r P
held r h1 = search arith

-- what was added to what was added
pub grown_more : (begun begun' text new : List ℕ) → begun' ≡ begun ++ text → (more : List ℕ) × (new ≡ begun' ++ more) → (more : List ℕ) × (new ≡ begun ++ more)
grown_more begun begun' text new so_far grown = search (append_assoc, arith)
