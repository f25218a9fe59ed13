-- Courses of looks, reads and edits: what an operation does, said so that it can be followed on any rows, known wholly or in part.
use Rattle.std.specs.Prelude.{ℕ, ◌+◌, Option, Result, Ok, Err}
use Rattle.suite_content.specs.declared.content.Content.{Content}
use Rattle.file_ops.specs.declared.refusal.Refusal.{Refusal}
use Rattle.file_ops.specs.declared.refusal.Why.{Why}
use Rattle.file_ops.specs.Rows.{Row}
use Rattle.file_exec.specs.declared.edit_log.Edit.{Edit}
use Rattle.suite_prefix.specs.declared.lock_mode.LockMode.{LockMode}

-- A course gives something or is refused in the end. On its way it looks at suites, each held in a mode before it is looked at,
-- reads the content of suites, and sets what its edits say. A look is answered by the row of the suite, whose content says no more
-- than its kind; or by nothing, where there is no row.
pub data Course (A E : Type 0) : Type 0 where
  Give : A → Course A E
  Refuse : E → Course A E
  Look : ℕ → LockMode → (Option Row → Course A E) → Course A E
  Read : ℕ → (Content → Course A E) → Course A E
  Set : ℕ → Edit → Course A E → Course A E

-- one course after another
abbrev pub ◌>>=◌ : {A B E : Type 0} → Course A E → (A → Course B E) → Course B E
◌>>=◌ (Give given) next = next given
◌>>=◌ (Refuse why) next = Refuse why
◌>>=◌ (Look suite mode later) next = Look suite mode (λ row. ◌>>=◌ (later row) next)
◌>>=◌ (Read suite later) next = Read suite (λ content. ◌>>=◌ (later content) next)
◌>>=◌ (Set suite edit later) next = Set suite edit (◌>>=◌ later next)

abbrev pub ◌>>◌ : {A B E : Type 0} → Course A E → Course B E → Course B E
◌>>◌ first second = ◌>>=◌ first (λ _. second)

-- what needs no look: what a rule gives, or its refusal
abbrev pub rule : {A E : Type 0} → Result A E → Course A E
rule (Ok given) = Give given
rule (Err why) = Refuse why

-- a look, a read and an edit alone
abbrev pub look : {E : Type 0} → ℕ → LockMode → Course (Option Row) E
look suite mode = Look suite mode (λ row. Give row)

abbrev pub read : {E : Type 0} → ℕ → Course Content E
read suite = Read suite (λ content. Give content)

abbrev pub set : {E : Type 0} → ℕ → Edit → Course (Unit {0}) E
set suite edit = Set suite edit (Give tt)

-- a course of an operation at a place counted from 0; its refusal names the operation, counted from 1
abbrev pub at_place : {A : Type 0} → ℕ → Course A Why → Course A Refusal
at_place at (Give given) = Give given
at_place at (Refuse why) = Refuse (record { op = at + 1; why = why })
at_place at (Look suite mode later) = Look suite mode (λ row. at_place at (later row))
at_place at (Read suite later) = Read suite (λ content. at_place at (later content))
at_place at (Set suite edit later) = Set suite edit (at_place at later)
