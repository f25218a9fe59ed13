-- Each undo takes its change back.
use Rattle.file_ops.proofs.Vocabulary.{◌≡◌, ◌≢◌, ℕ, ◌+◌, ◌<◌, ◌≤◌, true, List, [], ◌∷◌, length, Option, Some, None, refl, sym, ap, ◌∙◌, ⊎_elim, arith, ◌==◌, if◌then◌else◌, is_some, option_map, option_map_or, nat_cmp, cases_Bool, eqb-true, eqb-false}
use Rattle.file_ops.proofs.Vocabulary.{false≢true, nat_cmp_total, none-some, same_Some, IsOrdered, get, replace, Roomy, remove-insert, insert-insert, insert_same, number_of, with_name, Content, StoredContent, StoredRow, Row, Rows, row_of, with_row}
use Rattle.file_ops.proofs.Vocabulary.{with_acl, with_votes, with_content, StoredRows, plain, plain_content, plain_row, exchanged, restored_row, with_stored_content, with_stored_acl, with_stored_votes, edited, number_at, put_acl, put_votes}
use Rattle.file_ops.proofs.Vocabulary.{put_content, put_row, put_name, drop_name, capacity_in, capacity_of, capacity_at, KeepsCapacity, has_room_for, HasRoom, restored, TakesBack}
use Rattle.std.proofs.lemmas.Map.Entries.{lookup_head, lookup_tail}
use Rattle.acl_core.specs.declared.lists.Lists.{Lists}
use Rattle.vote_core.specs.Quorums.{Configuration}
use Rattle.file_ops.specs.declared.stored.StoredContent.TheVariants.{Bytes, Names}
use Rattle.file_ops.specs.declared.undo.Undo.TheVariants.{Held, Listed, Voted, Made, Dropped}
use Rattle.file_ops.specs.code.Restored.{Restores, Makes}
use Rattle.suite_content.specs.declared.content.Content.TheVariants as content
use Rattle.file_ops.proofs.Plain.{row_of-plain, ordered-plain, plain-remove, edited-there, edited-absent}
use Rattle.file_ops.proofs.EditLaws.{row_of-with_same, edited-some, edited-back-at, ordered-edited, drop-put_name}
use Rattle.file_ops.proofs.CapacityLaws.{each, capacity_at-replace_here, capacity_at-replace_apart, capacity_at-remove_apart}

-- each answer of a look-up
by_stored : {P : Type 0} (found : Option StoredRow) → (found ≡ None → P) → ((row : StoredRow) → found ≡ Some row → P) → P
by_stored None absent there = absent refl
by_stored (Some row) absent there = there row refl

exchanged-some : (rows : StoredRows) (s : ℕ) (edit : StoredRow → StoredRow) (row : StoredRow) → get nat_cmp rows s ≡ Some row → exchanged rows s edit ≡ replace nat_cmp rows s (edit row)
exchanged-some rows s edit row there = ap (λ found. option_map_or (λ r. replace nat_cmp rows s (edit r)) found rows) there

exchanged-none : (rows : StoredRows) (s : ℕ) (edit : StoredRow → StoredRow) → get nat_cmp rows s ≡ None → exchanged rows s edit ≡ rows
exchanged-none rows s edit absent = ap (λ found. option_map_or (λ r. replace nat_cmp rows s (edit r)) found rows) absent

-- a row exchanged, as it is seen
pub plain-exchanged : (rows : StoredRows) (s : ℕ) (edit : StoredRow → StoredRow) (seen : Row → Row) → IsOrdered nat_cmp rows
    → ((row : StoredRow) → plain_row (edit row) ≡ seen (plain_row row)) → plain (exchanged rows s edit) ≡ edited (plain rows) s seen
plain-exchanged rows s edit seen ordered same = search (by_stored, exchanged-none, edited-absent, exchanged-some, edited-there, arith)

exchanged_here : (rows : StoredRows) (s : ℕ) (edit : StoredRow → StoredRow) (row : StoredRow) → get nat_cmp rows s ≡ Some row → capacity_at (exchanged rows s edit) s ≡ capacity_in (edit row).content
exchanged_here rows s edit row there = ap (λ r. capacity_at r s) (exchanged-some rows s edit row there) ∙ capacity_at-replace_here rows s row (edit row) there

exchanged_apart : (rows : StoredRows) (s : ℕ) (edit : StoredRow → StoredRow) (q : ℕ) → q ≢ s → capacity_at (exchanged rows s edit) q ≡ capacity_at rows q
exchanged_apart rows s edit q apart = search (by_stored, exchanged-none, exchanged-some, capacity_at-replace_apart, arith)

-- a row that is seen is stored
stored_row : (rows : StoredRows) (s : ℕ) → is_some (row_of (plain rows) s) ≡ true → (row : StoredRow) × (get nat_cmp rows s ≡ Some row)
stored_row rows s there = search (row_of-plain rows s, false≢true, arith)

-- ---- what was held before

pub held_back : (before now : StoredRows) (s : ℕ) (held : StoredContent) → IsOrdered nat_cmp now → TakesBack (Held s held) before now → Restores before (exchanged now s (with_stored_content held))
held_back before now s held ordered back =
    let found = stored_row now s back.there in
    record {
      rows = plain-exchanged now s (with_stored_content held) (put_content (plain_content held)) ordered (λ row. refl) ∙ back.rows;
      capacity = λ q. ⊎_elim
          (λ same. omega (arith, rw same at (back.capacity q), ap (capacity_at (exchanged now s (with_stored_content held))) (eqb-true q s same), exchanged_here now s (with_stored_content held) found.0 found.1))
          (λ other. omega (arith, rw other at (back.capacity q), exchanged_apart now s (with_stored_content held) q (eqb-false q s other)))
          (cases_Bool (q == s));
    }

-- what is exchanged can be taken back
pub held_taken : (rows : StoredRows) (s : ℕ) (held before : StoredContent) → IsOrdered nat_cmp rows → Some before ≡ option_map (λ row. row.content) (get nat_cmp rows s)
    → TakesBack (Held s before) rows (exchanged rows s (with_stored_content held))
held_taken rows s held before ordered was = by_stored (get nat_cmp rows s)
    (λ absent. absurd (none-some before (sym (ap (option_map (λ row. row.content)) absent) ∙ sym was)))
    (λ row there.
    let same : before ≡ row.content = same_Some before row.content (was ∙ ap (option_map (λ r. r.content)) there) in
    let seen : row_of (plain rows) s ≡ Some (plain_row row) = row_of-plain rows s ∙ ap (option_map plain_row) there in
    let edit = put_content (plain_content held) in
    let back = put_content (plain_content before) in
    let after = plain-exchanged rows s (with_stored_content held) edit ordered (λ r. refl) in
    let undoes = ap (λ h. with_content (plain_row row) (plain_content h)) same in
    record {
      rows = ap (λ r. edited r s back) after ∙ edited-back-at (plain rows) s edit back (plain_row row) (ordered-plain rows ordered) seen undoes;
      capacity = λ q. ⊎_elim
          (λ here. rw here (omega (arith, ap (capacity_at rows) (eqb-true q s here), ap capacity_of there, ap capacity_in same)))
          (λ apart. rw apart (omega (arith, exchanged_apart rows s (with_stored_content held) q (eqb-false q s apart))))
          (cases_Bool (q == s));
      there = ap (λ r. is_some (row_of r s)) (after ∙ edited-some (plain rows) s edit (plain_row row) seen) ∙ ap is_some (row_of-with_same (plain rows) s (edit (plain_row row)));
    })

-- ---- the list and the votes before

-- an edit of a row that leaves its content
record Leaves (edit : StoredRow → StoredRow) (seen : Row → Row) : Type 0 where
  plainly : (row : StoredRow) → plain_row (edit row) ≡ seen (plain_row row)
  content : (row : StoredRow) → (edit row).content ≡ row.content

-- it changes no capacity
left_capacity : (rows : StoredRows) (s : ℕ) (edit : StoredRow → StoredRow) (seen : Row → Row) → Leaves edit seen → (q : ℕ) → capacity_at (exchanged rows s edit) q ≡ capacity_at rows q
left_capacity rows s edit seen leaves q = search (each, by_stored, exchanged-none, exchanged_here, exchanged_apart, arith)

-- it can be taken back
left_taken : (rows : StoredRows) (s : ℕ) (edit : StoredRow → StoredRow) (seen back : Row → Row) (row : StoredRow) → IsOrdered nat_cmp rows → Leaves edit seen
    → get nat_cmp rows s ≡ Some row → back (seen (plain_row row)) ≡ plain_row row → edited (plain (exchanged rows s edit)) s back ≡ plain rows
left_taken rows s edit seen back row ordered leaves there undoes =
    ap (λ r. edited r s back) (plain-exchanged rows s edit seen ordered leaves.plainly)
    ∙ edited-back-at (plain rows) s seen back (plain_row row) (ordered-plain rows ordered) (row_of-plain rows s ∙ ap (option_map plain_row) there) undoes

-- and is what takes another one back
left_back : (before now : StoredRows) (s : ℕ) (edit : StoredRow → StoredRow) (seen : Row → Row) → IsOrdered nat_cmp now → Leaves edit seen
    → edited (plain now) s seen ≡ plain before → ((q : ℕ) → capacity_at before q ≤ capacity_at now q) → Restores before (exchanged now s edit)
left_back before now s edit seen ordered leaves rows capacity = search (plain-exchanged, left_capacity, arith)

leaves_listed : (acl : Lists) → Leaves (with_stored_acl acl) (put_acl acl)
leaves_listed acl = record { plainly = λ row. refl; content = λ row. refl }

pub listed_taken : (rows : StoredRows) (s : ℕ) (acl before : Lists) → IsOrdered nat_cmp rows → Some before ≡ option_map (λ row. row.acl) (get nat_cmp rows s) → TakesBack (Listed s before) rows (exchanged rows s (with_stored_acl acl))
listed_taken rows s acl before ordered was = by_stored (get nat_cmp rows s)
    (λ absent. absurd (none-some before (sym (ap (option_map (λ row. row.acl)) absent) ∙ sym was)))
    (λ row there.
    let same : before ≡ row.acl = same_Some before row.acl (was ∙ ap (option_map (λ r. r.acl)) there) in
    record {
      rows = left_taken rows s (with_stored_acl acl) (put_acl acl) (put_acl before) row ordered (leaves_listed acl) there (ap (with_acl (plain_row row)) same);
      capacity = λ q. omega (arith, left_capacity rows s (with_stored_acl acl) (put_acl acl) (leaves_listed acl) q);
      there = tt;
    })

pub listed_back : (before now : StoredRows) (s : ℕ) (acl : Lists) → IsOrdered nat_cmp now → TakesBack (Listed s acl) before now → Restores before (exchanged now s (with_stored_acl acl))
listed_back before now s acl ordered back = left_back before now s (with_stored_acl acl) (put_acl acl) ordered (leaves_listed acl) back.rows back.capacity

leaves_voted : (votes : Configuration) → Leaves (with_stored_votes votes) (put_votes votes)
leaves_voted votes = record { plainly = λ row. refl; content = λ row. refl }

pub voted_taken : (rows : StoredRows) (s : ℕ) (votes before : Configuration) → IsOrdered nat_cmp rows → Some before ≡ option_map (λ row. row.votes) (get nat_cmp rows s)
    → TakesBack (Voted s before) rows (exchanged rows s (with_stored_votes votes))
voted_taken rows s votes before ordered was = by_stored (get nat_cmp rows s)
    (λ absent. absurd (none-some before (sym (ap (option_map (λ row. row.votes)) absent) ∙ sym was)))
    (λ row there.
    let same : before ≡ row.votes = same_Some before row.votes (was ∙ ap (option_map (λ r. r.votes)) there) in
    record {
      rows = left_taken rows s (with_stored_votes votes) (put_votes votes) (put_votes before) row ordered (leaves_voted votes) there (ap (with_votes (plain_row row)) same);
      capacity = λ q. omega (arith, left_capacity rows s (with_stored_votes votes) (put_votes votes) (leaves_voted votes) q);
      there = tt;
    })

pub voted_back : (before now : StoredRows) (s : ℕ) (votes : Configuration) → IsOrdered nat_cmp now → TakesBack (Voted s votes) before now → Restores before (exchanged now s (with_stored_votes votes))
voted_back before now s votes ordered back = left_back before now s (with_stored_votes votes) (put_votes votes) ordered (leaves_voted votes) back.rows back.capacity

-- ---- the row before, and then the name taken out

plain-restored : (rows : StoredRows) (s : ℕ) (saved : Option StoredRow) → IsOrdered nat_cmp rows → plain (restored_row rows s saved) ≡ restored (plain rows) s saved
plain-restored rows s None ordered = plain-remove rows s
plain-restored rows s (Some row) ordered = plain-exchanged rows s (λ r. row) (put_row (plain_row row)) ordered (λ r. refl)

restored_capacity : (rows : StoredRows) (s : ℕ) (saved : Option StoredRow) → IsOrdered nat_cmp rows → is_some (row_of (plain rows) s) ≡ true → (q : ℕ)
    → (if q == s then capacity_of saved else capacity_at rows q) ≤ capacity_at (restored_row rows s saved) q
restored_capacity rows s None ordered there q = search (capacity_at-remove_apart, eqb-false, cases_Bool, arith)
restored_capacity rows s (Some row) ordered there q =
    let found = stored_row rows s there in
    ⊎_elim
    (λ same. rw same (omega (arith, ap (capacity_at (exchanged rows s (λ r. row))) (eqb-true q s same), exchanged_here rows s (λ r. row) found.0 found.1)))
    (λ other. rw other (omega (arith, exchanged_apart rows s (λ r. row) q (eqb-false q s other))))
    (cases_Bool (q == s))

pub made_back : (before now after : StoredRows) (folder : ℕ) (name : List ℕ) (number : ℕ) (saved : Option StoredRow) → IsOrdered nat_cmp now
    → TakesBack (Made folder name number saved) before now → plain after ≡ edited (plain (restored_row now number saved)) folder (drop_name name)
    → KeepsCapacity (restored_row now number saved) after → Restores before after
made_back before now after folder name number saved ordered back dropped kept = search (plain-restored, restored_capacity, arith)

-- what a new row changes can be taken back
back_to : (rows : Rows) (number : ℕ) (row : Row) (saved : Option StoredRow) → IsOrdered nat_cmp rows → option_map plain_row saved ≡ row_of rows number → restored (with_row rows number row) number saved ≡ rows
back_to rows number row None ordered was = remove-insert nat_cmp_total rows number row (sym was)
back_to rows number row (Some before) ordered was =
    edited-some (with_row rows number row) number (put_row (plain_row before)) row (row_of-with_same rows number row)
    ∙ insert-insert nat_cmp_total rows number row (plain_row before)
    ∙ insert_same nat_cmp_total rows number (plain_row before) ordered (sym was)

pub made_taken : (old new : StoredRows) (folder : ℕ) (name : List ℕ) (number : ℕ) (row : StoredRow) (saved : Option StoredRow) → number_at (plain old) folder name ≡ None
    → Makes old new folder name number row saved → TakesBack (Made folder name number saved) old new
made_taken old new folder name number row saved absent made = search (ordered-plain, back_to, ordered-edited, drop-put_name, row_of-with_same, arith)

-- ---- a name put back

-- a name that is absent makes its folder longer by one
longer : (names : List (List ℕ × ℕ)) (name : List ℕ) (number : ℕ) → number_of names name ≡ None → length (with_name names name number) ≡ length names + 1
longer [] name number absent = refl
longer (e ∷ es) name number absent = search (none-some, lookup_head, lookup_tail, longer es name number, arith)

abbrev length_in : Content → ℕ
length_in (content.Names names) = length names
length_in (content.Bytes bytes) = 0

abbrev length_at : Rows → ℕ → ℕ
length_at rows s = option_map_or (λ row. length_in row.content) (row_of rows s) 0

-- a folder can hold the names that it has
length_in-le : (held : StoredContent) → length_in (plain_content held) ≤ capacity_in held
length_in-le (Names names) = omega arith
length_in-le (Bytes bytes) = omega arith

length_at-le : (rows : StoredRows) (s : ℕ) → length_at (plain rows) s ≤ capacity_at rows s
length_at-le rows s = search (by_stored, row_of-plain, length_in-le, arith)

by_held : (held : StoredContent) (name : List ℕ) → ((names : Roomy (List ℕ) ℕ) → held ≡ Names names → number_of names.pairs name ≡ None → 0 < names.room) → has_room_for held name
by_held (Names names) name room = room names refl
by_held (Bytes bytes) name room = tt

-- once the name is put back
length_at-put : (now : StoredRows) (folder : ℕ) (name : List ℕ) (number : ℕ) (row : StoredRow) (names : Roomy (List ℕ) ℕ) → get nat_cmp now folder ≡ Some row
    → row.content ≡ Names names → number_of names.pairs name ≡ None → length_at (edited (plain now) folder (put_name name number)) folder ≡ length names.pairs + 1
length_at-put now folder name number row names there holds absent = search (edited-some, row_of-plain, row_of-with_same, longer, arith)

pub room_to_put_back : (before now : StoredRows) (folder : ℕ) (name : List ℕ) (number : ℕ) → TakesBack (Dropped folder name number) before now → HasRoom now folder name
room_to_put_back before now folder name number back = search (length_at-le before folder, by_stored, by_held, length_at-put, arith)
