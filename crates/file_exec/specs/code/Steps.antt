-- What the code answers for a part of a course.
use Rattle.std.specs.Prelude.{◌≡◌, ℕ, true, false, Result, Ok, Err}
use Rattle.file_ops.specs.declared.refusal.Why.{Why}
use Rattle.file_exec.specs.declared.stop.Stop.{Stop}
use Rattle.file_exec.specs.declared.stop.Stop.TheVariants as stop
use Rattle.file_exec.specs.declared.view.View.{View}
use Rattle.file_exec.specs.declared.edit_log.Edit.{Edit}
use Rattle.file_exec.specs.Courses.{Course, ◌>>=◌, ◌>>◌, look, set}
use Rattle.file_exec.specs.Following.{Edits}
use Rattle.file_exec.specs.Known.{Known, Heard, Needs, Done, is_given}
use Rattle.file_exec.specs.Operations.{refuse_used}
use Rattle.file_exec.specs.Runs.{run}
use Rattle.suite_prefix.specs.declared.lock_mode.LockMode.TheVariants.{Shared}

-- what it gives, seen as the course gives it, with the edits after it; or what it needs, or its refusal; or, where memory was refused,
-- what is said of that
abbrev pub Told : {A B : Type 0} → (Heard B Why → Type 0) → (A → B) → Result A Stop → Edits → Heard B Why → Type 0
Told memory see (Ok given) after heard = heard ≡ Done (Ok (record { given = see given; edits = after }))
Told memory see (Err (stop.Needs need)) after heard = heard ≡ Needs need
Told memory see (Err (stop.Refused why)) after heard = heard ≡ Done (Err why)
Told memory see (Err stop.Memory) after heard = memory heard

-- the code runs this course on what is known, from some edits to others
pub record RunsOr {A B : Type 0} (memory : Heard B Why → Type 0) (see : A → B) (result : Result A Stop) (known : Known) (before after : Edits) (course : Course B Why) : Type 0 where
  pub told : Told memory see result after (run known before course)

-- memory is refused only where the course gives something: its needs and refusals come first
abbrev pub Runs : {A B : Type 0} → (A → B) → Result A Stop → Known → Edits → Edits → Course B Why → Type 0
Runs see result known before after course = RunsOr (λ heard. is_given heard ≡ true) see result known before after course

-- the same of a part that sets nothing
abbrev pub Answers : {A B : Type 0} → (A → B) → Result A Stop → View → Course B Why → Type 0
Answers see result view course = Runs see result view.known.now.suites view.log.now view.log.now course

-- the same of a part that sets nothing and takes no memory
abbrev pub Sees : {A B : Type 0} → (A → B) → Result A Stop → View → Course B Why → Type 0
Sees see result view course = RunsOr (λ heard. true ≡ false) see result view.known.now.suites view.log.now view.log.now course

-- two edits one after the other
abbrev pub set_both : ℕ × Edit → ℕ × Edit → Course (Unit {0}) Why
set_both first second = do
  set first.0 first.1
  set second.0 second.1

-- a look at a suite, which is refused where it has names
abbrev pub unused : ℕ → Course (Unit {0}) Why
unused suite = do
  row ← look suite Shared
  refuse_used suite row
