-- Stored copies, and intentions: what a prepared transaction leaves of a suite once it is decided.
use Rattle.std.specs.Prelude.{◌≡◌, ℕ, ◌+◌, ◌-◌, ◌^◌, ◌==◌, nat_lt, nat_le, Bool, IsTrue, true, false, ◌&&◌, ◌||◌, not, if◌then◌else◌, List, [], ◌∷◌, length, filter, count_by, unwrap_or, option_map, is_some, IfSome, Option, Some, None}
use Rattle.std.specs.List.{list_any}
use Rattle.std.specs.Ordering.{nat_cmp}
use Rattle.sorted_map.specs.SortedMap.{IsOrdered, get, insert}
use Rattle.vote_core.specs.Quorums.{Configuration}
use Rattle.suite_content.specs.declared.content.Kind.TheVariants as holds
use Rattle.suite_content.specs.Contents.{empty_content}
use Rattle.suite_prefix.specs.declared.copies.PrefixKind.{PrefixKind}
use Rattle.suite_prefix.specs.declared.copies.PrefixKind.TheVariants.{Absent, File, Folder}
use Rattle.suite_prefix.specs.declared.copies.Prefix.{Prefix}
use Rattle.suite_prefix.specs.declared.copies.Replica.{Replica}
use Rattle.suite_prefix.specs.Bytes.{bytes_in}
use Rattle.suite_prefix.specs.Copies.{held_by}
use Rattle.suite_prefix.specs.Forms.{CanHold}
use Rattle.suite_prefix.specs.Tests.{is_valid_prefix, is_valid_copy, is_absent}
use Rattle.suite_prefix.specs.Absent.{absent_copy}
use Rattle.suite_prefix.specs.LockModes.{is_exclusive}
use Rattle.suite_prefix.specs.SettingsRules.{Opening, form_of_root}
use Rattle.suite_prefix.specs.declared.forms.Form.{Form}
use Rattle.suite_prefix.specs.declared.forms.Form.TheVariants.{Two}
use Rattle.rep_core.specs.declared.request.Take.{Take}
use Rattle.rep_core.specs.declared.request.Take.TheVariants as take
use Rattle.rep_core.specs.declared.request.Part.{Part}
use Rattle.rep_core.specs.Intentions.{Intention}

-- the stored copies, the forms that they are written in, and the intentions, each by its suite, the suites rising; and the votes of a
-- suite without others
pub record Store : Type 0 where
  pub c0 : Configuration
  pub copies : List (ℕ × Replica)
  pub forms : List (ℕ × Form)
  pub intentions : List (ℕ × Intention)

-- ---- copies

-- the root folder as a service opens: without names, at versions 1
abbrev pub root_copy : Opening → Replica
root_copy given = record {
  prefix = record { pver = 1; kind = Folder; owner = given.root_owner; group = given.root_group; acl = given.root_acl; votes = given.c0 };
  dver = 1;
  content = empty_content holds.Folder;
}

-- a representative of the opening votes has the root, in the form that the settings name
abbrev pub opening_store : ℕ → Opening → Store
opening_store index given = record {
  c0 = given.c0;
  copies = if list_any (λ rep. rep.0 == index) given.c0.reps then (0, root_copy given) ∷ [] else [];
  forms = if list_any (λ rep. rep.0 == index) given.c0.reps then (0, form_of_root given index) ∷ [] else [];
  intentions = [];
}

-- the copy of a suite
abbrev pub copy_in : Configuration → List (ℕ × Replica) → ℕ → Replica
copy_in c0 copies suite = unwrap_or (get nat_cmp copies suite) (absent_copy c0)

abbrev pub copy_of : Store → ℕ → Replica
copy_of store suite = copy_in store.c0 store.copies suite

-- a copy under another prefix: its content stays, but that of an absent one becomes the empty one of the new kind
abbrev pub with_prefix : Prefix → Replica → Replica
with_prefix prefix copy = record {
  prefix = prefix;
  dver = copy.dver;
  content = if is_absent copy.prefix.kind then empty_content (held_by prefix.kind) else copy.content;
}

-- what a take leaves of a copy
abbrev pub left_by : Take → Replica → Replica
left_by take.Keep copy = copy
left_by (take.Prefix prefix) copy = with_prefix prefix copy
left_by (take.Whole replica) copy = replica

-- ---- what can be prepared

abbrev pub is_keep : Take → Bool
is_keep take.Keep = true
is_keep (take.Prefix prefix) = false
is_keep (take.Whole replica) = false

-- whether a copy of a kind may get a prefix of another: any where nothing was made, and else its own
abbrev pub may_become : PrefixKind → PrefixKind → Bool
may_become Absent next = true
may_become File File = true
may_become File Absent = false
may_become File Folder = false
may_become Folder Folder = true
may_become Folder Absent = false
may_become Folder File = false

-- whether a take goes with a copy: a whole copy is valid; a prefix is that of a valid copy, not absent, and of the kind of a copy that is not absent
abbrev pub goes_with : Take → Replica → Bool
goes_with take.Keep copy = true
goes_with (take.Prefix prefix) copy =
    is_valid_prefix prefix && not (is_absent prefix.kind) && may_become copy.prefix.kind prefix.kind
goes_with (take.Whole replica) copy = is_valid_copy replica

-- whether a part may be prepared: what changes is locked exclusively
abbrev pub is_sound_part : Store → Part → Bool
is_sound_part store part = (is_keep part.take || is_exclusive part.mode) && goes_with part.take (copy_of store part.suite)

abbrev pub lists_twice : List Part → Bool
lists_twice [] = false
lists_twice (part ∷ parts) = list_any (λ later. later.suite == part.suite) parts || lists_twice parts

-- ---- limits

-- the last number of eight bytes, after which no other comes
abbrev pub last_number : ℕ
last_number = 2 ^ 64 - 1

abbrev pub is_used_up : ℕ → Bool
is_used_up number = nat_le last_number number

-- whether a take holds a version that is used up
abbrev pub holds_last : Take → Bool
holds_last take.Keep = false
holds_last (take.Prefix prefix) = is_used_up prefix.pver
holds_last (take.Whole replica) = is_used_up replica.prefix.pver || is_used_up replica.dver

-- the most suites that a server has a copy or an intention of
abbrev pub max_suites : ℕ
max_suites = 4096

-- the form that the copy of a suite is written in, where there is one
abbrev pub form_of : Store → ℕ → Option Form
form_of store suite = get nat_cmp store.forms suite

abbrev pub has_copy : Store → ℕ → Bool
has_copy store suite = is_some (get nat_cmp store.copies suite)

-- these are the bytes of the copy of a suite, where there is one, in the form that it is written in
abbrev pub IsWrittenAs : Store → ℕ → List ℕ → Type 0
IsWrittenAs store suite bytes = IfSome (form_of store suite) (λ form. bytes ≡ bytes_in form (copy_of store suite))

-- the form that the copy of a suite is written in, where there is one, can hold its prefix
abbrev pub IsHeldInForm : Store → ℕ → Type 0
IsHeldInForm store suite = IfSome (form_of store suite) (λ form. CanHold form (copy_of store suite).prefix)

-- how many suites have a copy or an intention: those with a copy, and those with an intention and no copy
abbrev pub suites_with : Store → ℕ
suites_with store = length store.copies + count_by (λ pair. not (has_copy store pair.0)) store.intentions

-- ---- changes

-- the intentions with one more
abbrev pub with_intention : ℕ → Part → List (ℕ × Intention) → List (ℕ × Intention)
with_intention t part intentions =
    if is_keep part.take then intentions else insert nat_cmp intentions part.suite (record { t = t; take = part.take })

-- the intentions with those of a Prepare
abbrev pub with_intentions : ℕ → List Part → List (ℕ × Intention) → List (ℕ × Intention)
with_intentions t [] intentions = intentions
with_intentions t (part ∷ parts) intentions = with_intentions t parts (with_intention t part intentions)

abbrev pub intended : ℕ → List Part → Store → Store
intended t parts store = record store { intentions = with_intentions t parts store.intentions }

-- whether the intentions of a Prepare are too much: one holds a version that is used up, or too many suites would have a copy or an
-- intention
abbrev pub overfills : ℕ → Store → List Part → Bool
overfills t store parts = list_any (λ part. holds_last part.take) parts || nat_lt max_suites (suites_with (intended t parts store))

-- the intentions of other transactions
abbrev pub without_intentions : ℕ → List (ℕ × Intention) → List (ℕ × Intention)
without_intentions t intentions = filter (λ pair. not (pair.1.t == t)) intentions

-- the copies with what a take leaves of a suite's
abbrev pub with_taken : Configuration → ℕ → Take → List (ℕ × Replica) → List (ℕ × Replica)
with_taken c0 suite what copies = if is_keep what then copies else insert nat_cmp copies suite (left_by what (copy_in c0 copies suite))

-- the copies once the transaction's intentions have become copies
abbrev pub with_copies : Configuration → ℕ → List (ℕ × Intention) → List (ℕ × Replica) → List (ℕ × Replica)
with_copies c0 t [] copies = copies
with_copies c0 t (pair ∷ intentions) copies =
    with_copies c0 t intentions (if pair.1.t == t then with_taken c0 pair.0 pair.1.take copies else copies)

-- a copy that is changed is written in form 2, and no other is written again
abbrev pub with_form : ℕ → Take → List (ℕ × Form) → List (ℕ × Form)
with_form suite what forms = if is_keep what then forms else insert nat_cmp forms suite Two

-- the forms once the transaction's intentions have become copies
abbrev pub with_forms : ℕ → List (ℕ × Intention) → List (ℕ × Form) → List (ℕ × Form)
with_forms t [] forms = forms
with_forms t (pair ∷ intentions) forms =
    with_forms t intentions (if pair.1.t == t then with_form pair.0 pair.1.take forms else forms)

-- a store once the transaction has ended, answered or not
abbrev pub finished : ℕ → Bool → Store → Store
finished t answered store = record store {
  copies = if answered then with_copies store.c0 t store.intentions store.copies else store.copies;
  forms = if answered then with_forms t store.intentions store.forms else store.forms;
  intentions = without_intentions t store.intentions;
}

-- ---- the copy in effect

-- what is prepared of a suite: the transaction, and what it leaves of the copy
abbrev pub prepared_of : Store → ℕ → Option (ℕ × Replica)
prepared_of store suite = option_map (λ intention. (intention.t, left_by intention.take (copy_of store suite))) (get nat_cmp store.intentions suite)

abbrev pub in_effect : Option Intention → (ℕ → Bool) → Replica → Replica
in_effect None decided copy = copy
in_effect (Some intention) decided copy = if decided intention.t then left_by intention.take copy else copy

-- the copy in effect: the stored one, or what the intention there leaves of it where its transaction was decided with an answer
abbrev pub copy_in_effect : Store → (ℕ → Bool) → ℕ → Replica
copy_in_effect store decided suite = in_effect (get nat_cmp store.intentions suite) decided (copy_of store suite)

-- ---- what holds of every store

-- a valid copy with versions that are not used up
abbrev pub is_sound : Replica → Bool
is_sound copy = is_valid_copy copy && not (is_used_up copy.prefix.pver) && not (is_used_up copy.dver)

-- each copy is sound, and so is what each intention leaves of it; the intentions' suites rise
pub record IsSound (store : Store) : Type 0 where
  pub copies : (suite : ℕ) → IsTrue (is_sound (copy_of store suite))
  pub intentions : (suite : ℕ) (intention : Intention) → get nat_cmp store.intentions suite ≡ Some intention → IsTrue (is_sound (left_by intention.take (copy_of store suite)))
  pub rising : IsOrdered nat_cmp store.intentions

-- to finish a transaction as it was decided changes no copy in effect
abbrev pub FinishKeepsEffect : Type 0
FinishKeepsEffect = (store : Store) (t : ℕ) (answered : Bool) (decided : ℕ → Bool) (suite : ℕ) → IsSound store → decided t ≡ answered → copy_in_effect (finished t answered store) decided suite ≡ copy_in_effect store decided suite
