-- The votes that a transaction sets by what it knows are those that it sets on the table.
use Rattle.law_run_recovers.proofs.Vocabulary.{◌≡◌, inl, inr, ℕ, Bool, true, List, [], ◌∷◌, Option, Some, None, Ok, refl, sym, ap, ◌∙◌, map, filter, option_map, nat_cmp, nat_cmp_total, arith, eq_by_cmp_equiv, none-some, same_Some, IsOrdered, insert}
use Rattle.law_run_recovers.proofs.Vocabulary.{IsOrdered-insert, Identity, Configuration, Exclusive, Has, has_filter, has_map, contains_from, all_at, Answer, Op, Service, Row, Rows, row_of, Change, Edit, some, makes, sets_acl, sets_votes}
use Rattle.law_run_recovers.proofs.Vocabulary.{with_change, changes_at, Edits, Ended, seen, is_set, head, Changes, change_of, change_in, changes_on}
use Rattle.std.proofs.lemmas.Map.Keys.{IsDistinct-from_sorted}
use Rattle.std.proofs.lemmas.Map.Views.{lookup-from_Contains}
use Rattle.file_exec.proofs.Alike.{held_head, head_seen}
use Rattle.file_exec.proofs.Unmet.{sets_what_is_held}
use Rattle.std.specs.List.Sorted.{IsStrictlySortedBy}
use Rattle.file_exec.specs.Known.{known_of, Known, known_rows, is_held_for, Done, exec_of, AgreesWith, is_held}
use Rattle.file_exec.specs.Changes as changes

-- ---- what is seen of the values of a map

module _ {V W : Type 0} (see : V → W) where
  abbrev seen_all : List (ℕ × V) → List (ℕ × W)
  seen_all all = map (λ (one : ℕ × V). (one.0, see one.1)) all

  seen_insert : (all : List (ℕ × V)) (key : ℕ) (value : V) → seen_all (insert nat_cmp all key value) ≡ insert nat_cmp (seen_all all) key (see value)
  seen_insert [] key value = refl
  seen_insert (e ∷ es) key value = search (seen_insert es key value, arith)

-- ---- of changes: whether votes are set, and the votes after them

abbrev sees : Change → Bool × Configuration
sees change = (change.votes, change.row.votes)

seen_with : (z : ℕ) (a b : Option Change) → option_map sees a ≡ option_map sees b → (some others : Changes) → seen_all sees some ≡ seen_all sees others → seen_all sees (with_change z a some) ≡ seen_all sees (with_change z b others)
seen_with z a b h3 some others h6 = search (seen_insert, same_Some, none-some, arith)

seen_at : (f g : ℕ → Option Change) (edits : Edits) → ((e : ℕ × Edit) → Has edits e → option_map sees (f e.0) ≡ option_map sees (g e.0)) → seen_all sees (changes_at f edits) ≡ seen_all sees (changes_at g edits)
seen_at f g [] same = refl
seen_at f g (e ∷ edits) same = seen_with e.0 (f e.0) (g e.0) (same e (inl refl)) (changes_at f edits) (changes_at g edits) (seen_at f g edits (λ other has. same other (inr has)))

-- the votes that are set, the suites rising
abbrev pub as_set : ℕ × Change → ℕ × Configuration
as_set one = (one.0, one.1.row.votes)

abbrev pub sets : ℕ × Change → Bool
sets one = one.1.votes

abbrev pub votes_of : Changes → List (ℕ × Configuration)
votes_of all = map as_set (filter sets all)

abbrev as_seen : ℕ × (Bool × Configuration) → ℕ × Configuration
as_seen one = (one.0, one.1.1)

abbrev sets_seen : ℕ × (Bool × Configuration) → Bool
sets_seen one = one.1.0

abbrev votes_seen : List (ℕ × (Bool × Configuration)) → List (ℕ × Configuration)
votes_seen all = map as_seen (filter sets_seen all)

votes_are_seen : (all : Changes) → votes_of all ≡ votes_seen (seen_all sees all)
votes_are_seen [] = refl
votes_are_seen (one ∷ all) = search (votes_are_seen all, arith)

-- ---- known and on the table

row_votes : (made acl votes content : Bool) (a b : Option Row) → head a ≡ head b
    → option_map sees (option_map (λ (row : Row). record { made = made; acl = acl; votes = votes; content = content; row = row }) a)
    ≡ option_map sees (option_map (λ (row : Row). record { made = made; acl = acl; votes = votes; content = content; row = row }) b)
row_votes made acl votes content a b h6 = search arith

-- where the executor is done, what it sets of votes is what the transaction sets on each table that agrees with what is known
pub same_votes : (service : Service) (known : Known) (rows : Rows) (t : ℕ) (caller : Identity) (ops : List Op) (ended : Ended (List Answer)) → AgreesWith known (row_of rows) → exec_of service known t caller ops ≡ Done (Ok ended)
    → votes_of (changes.changes_of known ended.edits) ≡ votes_of (changes_on rows (Ok ended))
same_votes service known rows t caller ops ended agrees is =
    votes_are_seen (changes.changes_of known ended.edits)
    ∙ ap votes_seen (seen_at (changes.change_of known ended.edits) (change_in rows ended.edits) ended.edits (λ e has. alike e.0 (held e has)))
    ∙ sym (votes_are_seen (changes_on rows (Ok ended)))
  where
    held : (e : ℕ × Edit) → Has ended.edits e → is_held Exclusive (known_of known e.0) ≡ true
    held e has = all_at (is_held_for known) ended.edits e (sets_what_is_held service known t caller ops ended is) has

    alike : (z : ℕ) → is_held Exclusive (known_of known z) ≡ true → option_map sees (changes.change_of known ended.edits z) ≡ option_map sees (change_in rows ended.edits z)
    alike z held =
        row_votes (some makes ended.edits z) (some sets_acl ended.edits z) (some sets_votes ended.edits z) (is_set ended.edits z) (seen ended.edits z (known_rows known z)) (seen ended.edits z (row_of rows z))
        (head_seen ended.edits z (known_rows known z) (row_of rows z) (held_head Exclusive (known_of known z) (row_of rows z) (agrees z) held))

-- ---- each of them is of a change

none_ordered : IsOrdered {V = Change} nat_cmp []
unfolding IsStrictlySortedBy
none_ordered = tt

pub changes_ordered : (f : ℕ → Option Change) (edits : Edits) → IsOrdered nat_cmp (changes_at f edits)
changes_ordered f [] = none_ordered
changes_ordered f (e ∷ edits) = of (f e.0) (changes_ordered f edits)
  where
    of : (found : Option Change) → IsOrdered nat_cmp (changes_at f edits) → IsOrdered nat_cmp (with_change e.0 found (changes_at f edits))
    of (Some change) ordered = IsOrdered-insert nat_cmp_total (changes_at f edits) e.0 change ordered
    of None ordered = ordered

pub record IsSet (all : Changes) (one : ℕ × Configuration) : Type 0 where
  pub change : Change
  pub is : change_of all one.0 ≡ Some change
  pub votes : change.row.votes ≡ one.1

pub set_by : (all : Changes) → IsOrdered nat_cmp all → (one : ℕ × Configuration) → Has (votes_of all) one → IsSet all one
set_by all ordered one has =
    let from = has_map as_set (filter sets all) one has in
    let there = (has_filter sets all from.0 from.1).0 in
    record {
      change = from.0.1;
      is = ap (change_of all) (sym (ap (λ (one : ℕ × Configuration). one.0) from.2))
          ∙ lookup-from_Contains (eq_by_cmp_equiv nat_cmp_total) from.0.0 from.0.1 all (IsDistinct-from_sorted nat_cmp _ ordered) (contains_from all from.0 there);
      votes = ap (λ (one : ℕ × Configuration). one.1) from.2;
    }
