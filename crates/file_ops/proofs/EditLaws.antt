-- Edits of one row: one after another, and taken back.
use Rattle.file_ops.proofs.Vocabulary.{◌≡◌, ℕ, List, Option, Some, None, refl, sym, ap, ◌∙◌, subst, option_map_or, nat_cmp, is_eq, cond-true, nat_cmp_total, tied_itself, same_Some, IsOrdered, get-insert, IsOrdered-insert, insert-insert, arith}
use Rattle.file_ops.proofs.Vocabulary.{insert_same, Content, with_name, without_name, without-with_name, Row, Rows, row_of, with_row, edited, number_in, number_at, in_names, put_name, drop_name}
use Rattle.suite_content.specs.declared.content.Content.TheVariants.{Bytes, Names}

-- the row that was put is there
pub row_of-with_same : (rows : Rows) (suite : ℕ) (row : Row) → row_of (with_row rows suite row) suite ≡ Some row
row_of-with_same rows suite row = get-insert nat_cmp_total rows suite row suite ∙ cond-true _ _ _ (ap is_eq (tied_itself nat_cmp_total suite))

-- an edit where the row is, and where it is not
pub edited-some : (rows : Rows) (suite : ℕ) (edit : Row → Row) (row : Row) → row_of rows suite ≡ Some row → edited rows suite edit ≡ with_row rows suite (edit row)
edited-some rows suite edit row there = ap (λ found. option_map_or (λ row. with_row rows suite (edit row)) found rows) there

pub edited-none : (rows : Rows) (suite : ℕ) (edit : Row → Row) → row_of rows suite ≡ None → edited rows suite edit ≡ rows
edited-none rows suite edit absent = ap (λ found. option_map_or (λ row. with_row rows suite (edit row)) found rows) absent

-- each answer of a look-up
by_found : {P : Type 0} (found : Option Row) → (found ≡ None → P) → ((row : Row) → found ≡ Some row → P) → P
by_found None absent there = absent refl
by_found (Some row) absent there = there row refl

-- the order stays
pub ordered-edited : (rows : Rows) (suite : ℕ) (edit : Row → Row) → IsOrdered nat_cmp rows → IsOrdered nat_cmp (edited rows suite edit)
ordered-edited rows suite edit ordered = by_found (row_of rows suite)
    (λ absent. subst (λ r. IsOrdered nat_cmp r) (sym (edited-none rows suite edit absent)) ordered)
    (λ row there. subst (λ r. IsOrdered nat_cmp r) (sym (edited-some rows suite edit row there)) (IsOrdered-insert nat_cmp_total rows suite (edit row) ordered))

-- an edit that takes another one back
pub edited-back : (rows : Rows) (suite : ℕ) (edit back : Row → Row) → IsOrdered nat_cmp rows → ((row : Row) → row_of rows suite ≡ Some row → back (edit row) ≡ row) → edited (edited rows suite edit) suite back ≡ rows
edited-back rows suite edit back ordered undoes = by_found (row_of rows suite)
    (λ absent. ap (λ r. edited r suite back) (edited-none rows suite edit absent) ∙ edited-none rows suite back absent)
    (λ row there.
    ap (λ r. edited r suite back) (edited-some rows suite edit row there)
    ∙ edited-some (with_row rows suite (edit row)) suite back (edit row) (row_of-with_same rows suite (edit row))
    ∙ insert-insert nat_cmp_total rows suite (edit row) (back (edit row))
    ∙ ap (with_row rows suite) (undoes row there)
    ∙ insert_same nat_cmp_total rows suite row ordered there)

-- the same, of a row that is known
pub edited-back-at : (rows : Rows) (suite : ℕ) (edit back : Row → Row) (row : Row) → IsOrdered nat_cmp rows → row_of rows suite ≡ Some row → back (edit row) ≡ row → edited (edited rows suite edit) suite back ≡ rows
edited-back-at rows suite edit back row ordered there undoes = search (edited-back, same_Some, arith)

-- a name that was put is taken out again
drop-put_in : (held : Content) (name : List ℕ) (number : ℕ) → number_in held name ≡ None → in_names (λ names. without_name names name) (in_names (λ names. with_name names name number) held) ≡ held
drop-put_in (Names names) name number absent = ap Names (without-with_name names name number absent)
drop-put_in (Bytes bytes) name number absent = refl

pub drop-put_name : (rows : Rows) (folder : ℕ) (name : List ℕ) (number : ℕ) → IsOrdered nat_cmp rows → number_at rows folder name ≡ None → edited (edited rows folder (put_name name number)) folder (drop_name name) ≡ rows
drop-put_name rows folder name number ordered absent = search (edited-back, drop-put_in, arith)
