-- The code of a course step by step.
use Rattle.file_exec.proofs.Vocabulary.{◌≡◌, ℕ, true, false, ◌∷◌, Result, Ok, Err, refl, sym, ap, subst, ◌∙◌, false≢true, IsErr, IsErrAnd, Why, Stop, Edit, Course, Give, Set, ◌>>=◌, ◌>>◌, rule, set, Exclusive, Hold, Edits, arith, Known, is_met}
use Rattle.file_exec.proofs.Vocabulary.{Heard, is_given, run, then_run, Told, RunsOr, Runs, set_both}
use Rattle.file_exec.specs.declared.stop.Stop.TheVariants as stop
use Rattle.file_exec.proofs.Running.{runs_in_turn}

-- an error that `?` hands on
abbrev pub Fails : {A : Type 0} → Result A Stop → Stop → Type 0
Fails result e = IsErr result × IsErrAnd result (λ error. error ≡ e)

pub failed : {A : Type 0} (result : Result A Stop) (e : Stop) → Fails result e → result ≡ Err e
failed result e h2 = search arith

-- the same course for what is run, in other words
pub in_other_words : {A B : Type 0} {memory : Heard B Why → Type 0} {see : A → B} {result : Result A Stop} {known : Known} {before after : Edits} {course other : Course B Why}
    → run known before course ≡ run known before other → RunsOr memory see result known before after course → RunsOr memory see result known before after other
in_other_words {memory = memory} {see = see} {result = result} {after = after} same runs = record { told = subst (Told memory see result after) same runs.told }

pub goes_on : {A B D : Type 0} {memory : Heard B Why → Type 0} {see : A → B} {known : Known} {before middle : Edits} {first : Course B Why} {x : A} (next : B → Course D Why)
    → RunsOr memory see (Ok x) known before middle first → run known before (◌>>=◌ first next) ≡ run known middle (next (see x))
goes_on {known = known} {before = before} {first = first} next gave = runs_in_turn known before first next ∙ ap (then_run known next) gave.told

module _ {A B C D : Type 0} {memory : Heard B Why → Type 0} {see : A → B} {known : Known} {before middle : Edits} {first : Course B Why} where
  -- after a part that gave something the rest goes on from there
  pub goes : {x : A} {after : Edits} (next : B → Course D Why) {memory' : Heard D Why → Type 0} {see' : C → D} {result : Result C Stop}
      → RunsOr memory see (Ok x) known before middle first → RunsOr memory' see' result known middle after (next (see x)) → RunsOr memory' see' result known before after (◌>>=◌ first next)
  goes next gave later = search (goes_on next gave, arith)

  -- after a part that did not go on nothing does, where that is so of one that was refused memory
  pub stops_with : {e : Stop} {after : Edits} (next : B → Course D Why) {memory' : Heard D Why → Type 0} {see' : C → D} {result : Result C Stop}
      → (memory (run known before first) → memory' (run known before (◌>>=◌ first next)))
      → RunsOr memory see (Err e) known before middle first → Fails result e → RunsOr memory' see' result known before after (◌>>=◌ first next)
  stops_with next refused stopped fails = search (failed, runs_in_turn, arith)

-- the same after a part that takes no memory
pub stops : {A B C D : Type 0} {see : A → B} {known : Known} {before middle after : Edits} {first : Course B Why} {e : Stop} (next : B → Course D Why) {memory : Heard D Why → Type 0} {see' : C → D} {result : Result C Stop}
    → RunsOr (λ heard. true ≡ false) see (Err e) known before middle first → Fails result e → RunsOr memory see' result known before after (◌>>=◌ first next)
stops next stopped fails = stops_with next (λ never. absurd (false≢true (sym never))) stopped fails

-- the same before a part that gives something in each case
pub stops_last : {A B C D : Type 0} {see : A → B} {known : Known} {before middle after : Edits} {first : Course B Why} {e : Stop} (last : B → D) {see' : C → D} {result : Result C Stop}
    → Runs see (Err e) known before middle first → Fails result e → Runs see' result known before after (◌>>=◌ first (λ given. Give (last given)))
stops_last last stopped fails = search (stops_with, runs_in_turn, arith)

module _ {B C D : Type 0} {r : Result B Why} {known : Known} {before after : Edits} {memory : Heard D Why → Type 0} where
  -- what a rule gives, and its refusal
  pub ruled : {x : B} (next : B → Course D Why) {see' : C → D} {result : Result C Stop} → r ≡ Ok x → RunsOr memory see' result known before after (next x) → RunsOr memory see' result known before after (◌>>=◌ (rule r) next)
  ruled next is later = rw is later

  pub overruled : {why : Why} (next : B → Course D Why) {see' : C → D} {result : Result C Stop} → r ≡ Err why → Fails result (stop.Refused why) → RunsOr memory see' result known before after (◌>>=◌ (rule r) next)
  overruled {why = why} next {result = result} is fails = rw (failed result (stop.Refused why) fails, is) (record { told = refl })

-- where memory was refused to a course that gives something
pub out_of_memory : {A B : Type 0} {see : A → B} {result : Result A Stop} {known : Known} {before after : Edits} {course : Course B Why}
    → is_given (run known before course) ≡ true → Fails result stop.Memory → Runs see result known before after course
out_of_memory {result = result} given fails = rw (failed result stop.Memory fails) (record { told = given })

-- a suite that is held exclusively
pub record HoldsAll (known : Known) (suite : ℕ) : Type 0 where
  pub held : is_met known (Hold suite Exclusive) ≡ true

-- an edit of a suite that is held gives what follows on it
set_gives : {D : Type 0} (known : Known) (before : Edits) (suite : ℕ) (edit : Edit) (later : Course D Why) → HoldsAll known suite
    → is_given (run known ((suite, edit) ∷ before) later) ≡ true → is_given (run known before (Set suite edit later)) ≡ true
set_gives known before suite edit later holds given = search arith

-- an edit in other words
pub same_set : {A : Type 0} {see : A → Unit {0}} {result : Result A Stop} {known : Known} {before after : Edits} {suite : ℕ} {edit other : Edit}
    → edit ≡ other → Runs see result known before after (set suite edit) → Runs see result known before after (set suite other)
same_set {see = see} {result = result} {known = known} {before = before} {after = after} {suite = suite} same runs = subst (λ edit. Runs see result known before after (set suite edit)) same runs

-- two edits in other words
pub same_both : {A : Type 0} {see : A → Unit {0}} {result : Result A Stop} {known : Known} {before after : Edits} {first first' second second' : ℕ × Edit}
    → first ≡ first' → second ≡ second' → Runs see result known before after (set_both first second) → Runs see result known before after (set_both first' second')
same_both same same' runs = search arith

-- an edit, and what follows on it
module _ {A C D : Type 0} {see : A → Unit {0}} {known : Known} {before middle : Edits} {suite : ℕ} {edit : Edit} {later : Course D Why} where
  pub after_set : {x : A} {after : Edits} {see' : C → D} {result : Result C Stop} → Runs see (Ok x) known before middle (set suite edit) → Runs see' result known middle after later
      → Runs see' result known before after (Set suite edit later)
  after_set gave rest = goes (λ _. later) gave rest

  pub stopped_set : {e : Stop} {after : Edits} {see' : C → D} {result : Result C Stop} → is_given (run known ((suite, edit) ∷ before) later) ≡ true
      → Runs see (Err e) known before middle (set suite edit) → Fails result e → Runs see' result known before after (Set suite edit later)
  stopped_set rest stopped fails = search arith

-- memory was refused before an edit
pub unset : {C D : Type 0} {known : Known} {before after : Edits} {suite : ℕ} {edit : Edit} {later : Course D Why} {see' : C → D} {result : Result C Stop}
    → HoldsAll known suite → is_given (run known ((suite, edit) ∷ before) later) ≡ true → Fails result stop.Memory → Runs see' result known before after (Set suite edit later)
unset {known = known} {before = before} {suite = suite} {edit = edit} {later = later} holds given fails = out_of_memory (set_gives known before suite edit later holds given) fails

-- two edits one after the other, of suites that are held
module _ {C D : Type 0} {known : Known} {before : Edits} {suite other : ℕ} {edit next : Edit} {later : Course D Why} where
  pub unset_both : {after : Edits} {see' : C → D} {result : Result C Stop} → HoldsAll known suite → HoldsAll known other → is_given (run known ((other, next) ∷ (suite, edit) ∷ before) later) ≡ true → Fails result stop.Memory
      → Runs see' result known before after (Set suite edit (Set other next later))
  unset_both first second given fails = search arith

  pub stopped_first : {A : Type 0} {see : A → Unit {0}} {middle after : Edits} {e : Stop} {see' : C → D} {result : Result C Stop} → HoldsAll known other → is_given (run known ((other, next) ∷ (suite, edit) ∷ before) later) ≡ true
      → Runs see (Err e) known before middle (set suite edit) → Fails result e → Runs see' result known before after (Set suite edit (Set other next later))
  stopped_first second given stopped fails = stopped_set (set_gives known ((suite, edit) ∷ before) other next later second given) stopped fails
