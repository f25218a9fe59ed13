-- On a table a step of a course is the step that it stands for, and what comes after edits sees them.
use Rattle.file_exec.proofs.Vocabulary.{◌≡◌, ℕ, Bool, cond, List, [], ◌∷◌, ◌++◌, Option, Some, None, Result, Ok, Err, refl, sym, ap, ◌∙◌, ◌==◌, unsigned_tied, eqb-true, nat_cmp_total, get-insert, Bytes, Names, arith, kind_of, LockMode, Why, Row}
use Rattle.file_exec.proofs.Vocabulary.{Rows, row_of, ok_map, Kind, Edit, Course, Give, Refuse, Look, Read, Set, ◌>>=◌, ◌>>◌, rule, Edits, changed, seen, emptied, head, content_in, looked, content_read, Ended, ending, put, with_edits}
use Rattle.file_ops.specs.declared.refusal.Why.TheVariants as why
use Rattle.file_ops.specs.Steps as steps
use Rattle.file_ops.specs.Walks as plain
use Rattle.file_exec.specs.Operations as asked

-- ---- edits

row_of-put : (suite : ℕ) (edit : Edit) (rows : Rows) (q : ℕ) (row : Option Row) → row ≡ changed edit (row_of rows suite) → row_of (put suite row rows) q ≡ cond (suite == q) (changed edit (row_of rows q)) (row_of rows q)
row_of-put suite edit rows q (Some row) is =
    get-insert nat_cmp_total rows suite row q
    ∙ ap (λ b. cond b (Some row) (row_of rows q)) (unsigned_tied suite q)
    ∙ at (suite == q) refl
  where
    at : (b : Bool) → (suite == q) ≡ b → cond b (Some row) (row_of rows q) ≡ cond b (changed edit (row_of rows q)) (row_of rows q)
    at b h1 = search (eqb-true, arith)
row_of-put suite edit rows q None is = search (eqb-true, arith)

pub row_of-with_edits : (rows : Rows) (edits : Edits) (q : ℕ) → row_of (with_edits rows edits) q ≡ seen edits q (row_of rows q)
row_of-with_edits rows [] q = refl
row_of-with_edits rows (e ∷ edits) q = search (row_of-put, row_of-with_edits rows edits q, arith)

-- ---- courses one after the other

-- what follows on what a course gave
abbrev pub go_on : {A B E : Type 0} → (ℕ → Option Row) → (A → Course B E) → Result (Ended A) E → Result (Ended B) E
go_on rows next (Ok ended) = ending rows ended.edits (next ended.given)
go_on rows next (Err why) = Err why

pub ending_bind : {A B E : Type 0} (rows : ℕ → Option Row) (edits : Edits) (first : Course A E) (next : A → Course B E) → ending rows edits (◌>>=◌ first next) ≡ go_on rows next (ending rows edits first)
ending_bind rows edits (Give given) next = refl
ending_bind rows edits (Refuse why) next = refl
ending_bind rows edits (Look suite mode later) next = ending_bind rows edits (later (looked rows edits suite)) next
ending_bind rows edits (Read suite later) next = ending_bind rows edits (later (content_read rows edits suite)) next
ending_bind rows edits (Set suite edit later) next = ending_bind rows ((suite, edit) ∷ edits) later next

-- ---- edits first, and then a course

abbrev pub outcome : {A E : Type 0} → Rows → Result (Ended A) E → Result (A × Rows) E
outcome rows (Ok ended) = Ok (ended.given, with_edits rows ended.edits)
outcome rows (Err why) = Err why

with_edits-append : (rows : Rows) (new edits : Edits) → with_edits rows (new ++ edits) ≡ with_edits (with_edits rows edits) new
with_edits-append rows [] edits = refl
with_edits-append rows (e ∷ new) edits = ap (λ rows. put e.0 (changed e.1 (row_of rows e.0)) rows) (with_edits-append rows new edits)

seen-append : (new edits : Edits) (suite : ℕ) (row : Option Row) → seen (new ++ edits) suite row ≡ seen new suite (seen edits suite row)
seen-append [] edits suite row = refl
seen-append (e ∷ new) edits suite row = ap (λ row. cond (e.0 == suite) (changed e.1 row) row) (seen-append new edits suite row)

seen_on : (rows : Rows) (new edits : Edits) (suite : ℕ) → seen (new ++ edits) suite (row_of rows suite) ≡ seen new suite (row_of (with_edits rows edits) suite)
seen_on rows new edits suite = seen-append new edits suite (row_of rows suite) ∙ ap (seen new suite) (sym (row_of-with_edits rows edits suite))

pub outcome_on : {A E : Type 0} (rows : Rows) (new edits : Edits) (course : Course A E) → outcome rows (ending (row_of rows) (new ++ edits) course) ≡ outcome (with_edits rows edits) (ending (row_of (with_edits rows edits)) new course)
outcome_on rows new edits (Give given) = ap (λ rows. Ok (given, rows)) (with_edits-append rows new edits)
outcome_on rows new edits (Refuse why) = refl
outcome_on rows new edits (Look suite mode later) =
    outcome_on rows new edits (later (looked (row_of rows) (new ++ edits) suite))
    ∙ ap (λ row. outcome (with_edits rows edits) (ending (row_of (with_edits rows edits)) new (later (head row)))) (seen_on rows new edits suite)
outcome_on rows new edits (Read suite later) =
    outcome_on rows new edits (later (content_read (row_of rows) (new ++ edits) suite))
    ∙ ap (λ row. outcome (with_edits rows edits) (ending (row_of (with_edits rows edits)) new (later (content_in row)))) (seen_on rows new edits suite)
outcome_on rows new edits (Set suite edit later) = outcome_on rows ((suite, edit) ∷ new) edits later

-- ---- courses that set nothing

abbrev pub unedited : {A E : Type 0} → Result A E → Result (Ended A) E
unedited (Ok given) = Ok (record { given = given; edits = [] })
unedited (Err why) = Err why

abbrev pub On : {A E : Type 0} → Rows → Course A E → Result (Ended A) E
On rows course = ending (row_of rows) [] course

pub on_rule : {A E : Type 0} (rows : Rows) (result : Result A E) → On rows (rule result) ≡ unedited result
on_rule rows result = search arith

-- ---- one step of a course and of what it stands for; P compares the ends, and holds of a refusal and itself

abbrev pub emptied_place : plain.Object → plain.Object
emptied_place place = record { suite = place.suite; row = emptied place.row }

module _ {A Z : Type 0} (rows : Rows) (P : Result (Ended A) Why → Result Z Why → Type 0) (err : (why : Why) → P (Err why) (Err why)) where
  pub free : {B C : Type 0} (first : Course B Why) (see : C → B) (r : Result C Why) (next : B → Course A Why) (later : C → Result Z Why) → On rows first ≡ unedited (ok_map see r)
      → ((x : C) → r ≡ Ok x → P (On rows (next (see x))) (later x)) → P (On rows (◌>>=◌ first next)) (steps.◌>>=◌ r later)
  free first see r next later is same = search (ending_bind, arith)

  pub ruled : {B : Type 0} (r : Result B Why) (next : B → Course A Why) (later : B → Result Z Why) → ((x : B) → r ≡ Ok x → P (On rows (next x)) (later x)) → P (On rows (◌>>=◌ (rule r) next)) (steps.◌>>=◌ r later)
  ruled r next later h3 = search arith

  pub ruled_out : {B : Type 0} (r : Result B Why) (next : Course A Why) (later : Result Z Why) → P (On rows next) later → P (On rows (◌>>◌ (rule r) next)) (steps.◌>>◌ r later)
  ruled_out r next later h3 = search arith

  pub at_held : (suite : ℕ) (mode : LockMode) (next : plain.Object → Course A Why) (later : plain.Object → Result Z Why)
      → ((row : Row) → row_of rows suite ≡ Some row → P (On rows (next (emptied_place (record { suite = suite; row = row })))) (later (record { suite = suite; row = row })))
      → P (On rows (◌>>=◌ (asked.held suite mode) next)) (steps.◌>>=◌ (plain.place_of rows suite) later)
  at_held suite mode next later same = search arith

  pub at_folder : (row : Row) (next : Course A Why) (later : List (List ℕ × ℕ) → Result Z Why) → ((names : List (List ℕ × ℕ)) → row.content ≡ Names names → P (On rows next) (later names))
      → P (On rows (◌>>◌ (rule (plain.names_in (emptied row).content)) next)) (steps.◌>>=◌ (plain.names_in row.content) later)
  at_folder row next later same = search arith

  pub at_file : (row : Row) (next : Course A Why) (later : List ℕ → Result Z Why) → ((bytes : List ℕ) → row.content ≡ Bytes bytes → P (On rows next) (later bytes))
      → P (On rows (◌>>◌ (rule (plain.bytes_in (emptied row).content)) next)) (steps.◌>>=◌ (plain.bytes_in row.content) later)
  at_file row next later same = search arith

  pub at_kind : (row : Row) (rule_of : Kind → Result (Unit {0}) Why) (next : Course A Why) (later : Result Z Why) → P (On rows next) later
      → P (On rows (◌>>◌ (rule (rule_of (kind_of (emptied row).content))) next)) (steps.◌>>◌ (rule_of (kind_of row.content)) later)
  at_kind row rule_of next later same = search arith

-- what is read of a row that is there
pub on_names : {A : Type 0} (rows : Rows) (suite : ℕ) (row : Row) (names : List (List ℕ × ℕ)) (next : List (List ℕ × ℕ) → Course A Why) → row_of rows suite ≡ Some row → row.content ≡ Names names
    → On rows (◌>>=◌ (asked.names_at suite) next) ≡ On rows (next names)
on_names rows suite row names next there is = ap (λ found. On rows (◌>>=◌ (rule (plain.names_in (content_in found))) next)) there ∙ ap (λ content. On rows (◌>>=◌ (rule (plain.names_in content)) next)) is

pub on_bytes : {A : Type 0} (rows : Rows) (suite : ℕ) (row : Row) (bytes : List ℕ) (next : List ℕ → Course A Why) → row_of rows suite ≡ Some row → row.content ≡ Bytes bytes
    → On rows (◌>>=◌ (asked.bytes_at suite) next) ≡ On rows (next bytes)
on_bytes rows suite row bytes next there is = ap (λ found. On rows (◌>>=◌ (rule (plain.bytes_in (content_in found))) next)) there ∙ ap (λ content. On rows (◌>>=◌ (rule (plain.bytes_in content)) next)) is
