-- Where the capacity of folders is kept: wherever names come and go.
use Rattle.file_ops.proofs.Vocabulary.{◌≡◌, ◌≢◌, ℕ, ◌+◌, ◌≤◌, List, length, Option, Some, ap, ◌∙◌, ⊎_elim, arith, ◌==◌, if◌then◌else◌, is_some, Bool, option_map, nat_cmp, cases_Bool, eqb-true, eqb-false, IsOrdered, get, insert, replace, remove}
use Rattle.file_ops.proofs.Vocabulary.{Roomy, IsFolder, number_of, with_name, without_name, length-with_name, length-without_name, StoredRow, StoredRows, capacity_in, capacity_of, capacity_at, KeepsCapacity}
use Rattle.sorted_map.specs.Numbers.{get_insert_apart, get_replace_here, get_replace_apart, get_remove_apart}
use Rattle.file_ops.specs.declared.stored.StoredContent.TheVariants.{Names}

-- the same number, or another one
pub each : {P : Type 0} (q s : ℕ) → (q ≡ s → P) → (q ≢ s → P) → P
each q s here apart = ⊎_elim (λ same. here (eqb-true q s same)) (λ other. apart (eqb-false q s other)) (cases_Bool (q == s))

pub capacity_at-replace_here : (rows : StoredRows) (s : ℕ) (before row : StoredRow) → get nat_cmp rows s ≡ Some before → capacity_at (replace nat_cmp rows s row) s ≡ capacity_in row.content
capacity_at-replace_here rows s before row there = ap capacity_of (get_replace_here rows s row ∙ ap (option_map (λ _. row)) there)

pub capacity_at-replace_apart : (rows : StoredRows) (s : ℕ) (row : StoredRow) (q : ℕ) → q ≢ s → capacity_at (replace nat_cmp rows s row) q ≡ capacity_at rows q
capacity_at-replace_apart rows s row q apart = ap capacity_of (get_replace_apart rows s row q apart)

pub capacity_at-insert_apart : (rows : StoredRows) (s : ℕ) (row : StoredRow) (q : ℕ) → q ≢ s → capacity_at (insert nat_cmp rows s row) q ≡ capacity_at rows q
capacity_at-insert_apart rows s row q apart = ap capacity_of (get_insert_apart rows s row q apart)

pub capacity_at-remove_apart : (rows : StoredRows) (s q : ℕ) → IsOrdered nat_cmp rows → q ≢ s → capacity_at (remove nat_cmp rows s) q ≡ capacity_at rows q
capacity_at-remove_apart rows s q ordered apart = ap capacity_of (get_remove_apart rows s q ordered apart)

-- a row exchanged for one that holds as much
pub keeps_capacity : (rows : StoredRows) (s : ℕ) (before row : StoredRow) → get nat_cmp rows s ≡ Some before → capacity_in before.content ≤ capacity_in row.content → KeepsCapacity rows (replace nat_cmp rows s row)
keeps_capacity rows s before row there more = search (each, capacity_at-replace_apart, capacity_at-replace_here, arith)

-- a name put in, or taken out
pub insert_keeps : (old new : Roomy (List ℕ) ℕ) (name : List ℕ) (number : ℕ) (before : Option ℕ) → IsFolder old.pairs → new.pairs ≡ with_name old.pairs name number
    → before ≡ number_of old.pairs name → old.room ≤ new.room + (if is_some before then 0 else 1) → capacity_in (Names old) ≤ capacity_in (Names new)
insert_keeps old new name number before ordered edit was room =
    let longer = ap length edit ∙ length-with_name old.pairs name number ordered in
    let same = ap is_some was in
    by_test (is_some before) (is_some (number_of old.pairs name)) (length old.pairs) (length new.pairs) old.room new.room same longer room
  where
    by_test : (b c : Bool) (n n' r r' : ℕ) → b ≡ c → n' ≡ n + (if c then 0 else 1) → r ≤ r' + (if b then 0 else 1) → n + r ≤ n' + r'
    by_test b c n n' r r' h6 h7 h8 = search arith

pub remove_keeps : (old new : Roomy (List ℕ) ℕ) (name : List ℕ) (before : Option ℕ) → new.pairs ≡ without_name old.pairs name → before ≡ number_of old.pairs name
    → new.room ≡ old.room + (if is_some before then 1 else 0) → capacity_in (Names old) ≤ capacity_in (Names new)
remove_keeps old new name before edit was room =
    let shorter = ap length edit in
    let all = length-without_name old.pairs name in
    by_test (is_some before) (is_some (number_of old.pairs name)) (length old.pairs) (length new.pairs) (length (without_name old.pairs name)) old.room new.room (ap is_some was) shorter all room
  where
    by_test : (b c : Bool) (n n' m r r' : ℕ) → b ≡ c → n' ≡ m → m + (if c then 1 else 0) ≡ n → r' ≡ r + (if b then 1 else 0) → n + r ≤ n' + r'
    by_test b c n n' m r r' h7 h8 h9 h10 = search arith

-- a row put over another one, whose capacity waits with it
pub made_capacity : (old named new : StoredRows) (number : ℕ) (row : StoredRow) (before : Option StoredRow) → KeepsCapacity old named → before ≡ get nat_cmp named number
    → new ≡ insert nat_cmp named number row → (suite : ℕ) → capacity_at old suite ≤ (if suite == number then capacity_of before else capacity_at new suite)
made_capacity old named new number row before kept was put suite = search (eqb-true, capacity_at-insert_apart, eqb-false, cases_Bool, arith)
