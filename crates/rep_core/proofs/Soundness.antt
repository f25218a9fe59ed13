-- Each change keeps a store sound.
use Rattle.rep_core.proofs.Vocabulary.{◌≡◌, ℕ, ◌==◌, Bool, true, false, cond, ◌&&◌, not, List, [], ◌∷◌, Option, Some, refl, sym, ap, ◌∙◌, ◌⊎◌, ⊎_elim, arith, nat_lt, IsTrue, if◌then◌else◌, list_all, list_any, nat_cmp, cases_Bool, and_parts, or_parts}
use Rattle.rep_core.proofs.Vocabulary.{same_Some, IsOrdered, get, insert, get_insert_here, get_insert_apart, Content, empty_content, PrefixKind, Replica, held_by, is_absent, holds, is_empty, is_within_limits, is_valid_prefix, Opening, Intention}
use Rattle.rep_core.proofs.Vocabulary.{Part, Take, Store, IsSound, is_sound, is_used_up, copy_of, left_by, is_keep, goes_with, holds_last, is_sound_part, with_intention, with_intentions, intended, overfills, opening_store}
use Rattle.rep_core.proofs.Vocabulary.{without_intentions, in_effect, finished}
use Rattle.std.specs.List.Sorted.{IsStrictlySortedBy}
use Rattle.rep_core.proofs.Intentions.{copy_in-with_copies, get-without}

-- ---- what a take leaves

-- a content with its version, under a prefix of a kind
abbrev agrees : PrefixKind → ℕ → Content → Bool
agrees kind dver content = holds kind content && (if nat_lt 0 dver then not (is_absent kind) else is_empty content) && is_within_limits content

kept_content : PrefixKind → PrefixKind → Content → Content
kept_content kind next content = if is_absent kind then empty_content (held_by next) else content

-- a test in four parts, split and joined
record Parts (copy : Replica) : Type 0 where
  pub prefix : is_valid_prefix copy.prefix ≡ true
  pub agrees : agrees copy.prefix.kind copy.dver copy.content ≡ true
  pub pver : not (is_used_up copy.prefix.pver) ≡ true
  pub dver : not (is_used_up copy.dver) ≡ true

-- a take that goes with a sound copy, and holds no version that is used up, leaves a sound copy
pub left_sound : (what : Take) (copy : Replica) → is_keep what ≡ false → goes_with what copy ≡ true → holds_last what ≡ false → is_sound copy ≡ true → is_sound (left_by what copy) ≡ true
unfolding kept_content
left_sound what copy h2 h3 h4 h5 = search arith

-- ---- Prepare

same_or_apart : (a b : ℕ) → (a ≡ b) ⊎ (a ≡ b → ⊥)
same_or_apart a b = search arith

-- intentions leave sound copies of a store
abbrev LeaveSound : Store → List (ℕ × Intention) → Type 0
LeaveSound store intentions = (suite : ℕ) (intention : Intention) → get nat_cmp intentions suite ≡ Some intention → IsTrue (is_sound (left_by intention.take (copy_of store suite)))

part_left_sound : (store : Store) (part : Part) → IsSound store → is_sound_part store part ≡ true → holds_last part.take ≡ false → is_keep part.take ≡ false → is_sound (left_by part.take (copy_of store part.suite)) ≡ true
part_left_sound store part sound is last changes = search arith

one_more : (store : Store) (t : ℕ) (part : Part) (intentions : List (ℕ × Intention)) → IsSound store → is_sound_part store part ≡ true → holds_last part.take ≡ false
    → LeaveSound store intentions → LeaveSound store (with_intention t part intentions)
one_more store t part intentions sound is last before suite intention has = ⊎_elim
    (λ keep. before suite intention (ap (λ b. get nat_cmp (cond b intentions (insert nat_cmp intentions part.suite (record { t = t; take = part.take }))) suite) (sym keep) ∙ has))
    (λ changes.
    let new : Intention = record { t = t; take = part.take } in
    let has' : get nat_cmp (insert nat_cmp intentions part.suite new) suite ≡ Some intention = ap (λ b. get nat_cmp (cond b intentions (insert nat_cmp intentions part.suite new)) suite) (sym changes) ∙ has in
    ⊎_elim
    (λ same.
    let is_new : new ≡ intention = same_Some new intention (sym (get_insert_here intentions part.suite new) ∙ ap (λ k. get nat_cmp (insert nat_cmp intentions part.suite new) k) (sym same) ∙ has') in
    ap (λ (x : Intention). is_sound (left_by x.take (copy_of store suite))) (sym is_new)
    ∙ ap (λ k. is_sound (left_by part.take (copy_of store k))) same
    ∙ part_left_sound store part sound is last changes)
    (λ apart. before suite intention (sym (get_insert_apart intentions part.suite new suite apart) ∙ has'))
    (same_or_apart suite part.suite))
    (cases_Bool (is_keep part.take))

all_more : (store : Store) (t : ℕ) (parts : List Part) (intentions : List (ℕ × Intention)) → IsSound store → list_all (is_sound_part store) parts ≡ true
    → list_any (λ part. holds_last part.take) parts ≡ false → LeaveSound store intentions → LeaveSound store (with_intentions t parts intentions)
all_more store t [] intentions sound are last before = before
all_more store t (part ∷ parts) intentions sound are last before =
    let is = and_parts (is_sound_part store part) (list_all (is_sound_part store) parts) are in
    let lasts = or_parts (holds_last part.take) (list_any (λ part. holds_last part.take) parts) last in
    all_more store t parts (with_intention t part intentions) sound is.1 lasts.1 (one_more store t part intentions sound is.0 lasts.0 before)

pub sound_intended : (store : Store) (t : ℕ) (parts : List Part) → IsSound store → list_all (is_sound_part store) parts ≡ true → overfills t store parts ≡ false
    → IsOrdered nat_cmp (with_intentions t parts store.intentions) → IsSound (intended t parts store)
sound_intended store t parts sound are few rising = search (all_more, or_parts, nat_lt, arith)

-- ---- Finish

effect_sound : (store : Store) (suite : ℕ) (decided : ℕ → Bool) (o : Option Intention) → IsSound store → get nat_cmp store.intentions suite ≡ o → is_sound (in_effect o decided (copy_of store suite)) ≡ true
effect_sound store suite decided o h4 h5 = search arith

copy_finished : (store : Store) (t : ℕ) (suite : ℕ) → IsSound store → copy_of (finished t true store) suite ≡ in_effect (get nat_cmp store.intentions suite) (λ u. u == t) (copy_of store suite)
copy_finished store t suite sound = copy_in-with_copies store.c0 t store.intentions store.copies suite sound.rising

pub sound_answered : (store : Store) (t : ℕ) → IsSound store → IsOrdered nat_cmp (without_intentions t store.intentions) → IsSound (finished t true store)
sound_answered store t sound rising = record {
  copies = λ suite. ap is_sound (copy_finished store t suite sound) ∙ effect_sound store suite (λ u. u == t) (get nat_cmp store.intentions suite) sound refl;
  intentions = λ suite intention has.
      let was = get-without t store.intentions suite intention sound.rising has in
      let stays : copy_of (finished t true store) suite ≡ copy_of store suite =
      copy_finished store t suite sound
      ∙ ap (λ o. in_effect o (λ u. u == t) (copy_of store suite)) was.0
      ∙ ap (λ b. cond b (left_by intention.take (copy_of store suite)) (copy_of store suite)) was.1 in
      ap (λ copy. is_sound (left_by intention.take copy)) stays ∙ sound.intentions suite intention was.0;
  rising = rising;
}

pub sound_dropped : (store : Store) (t : ℕ) → IsSound store → IsOrdered nat_cmp (without_intentions t store.intentions) → IsSound (finished t false store)
sound_dropped store t sound rising = record {
  copies = sound.copies;
  intentions = λ suite intention has. sound.intentions suite intention (get-without t store.intentions suite intention sound.rising has).0;
  rising = rising;
}

-- ---- the opening

pub sound_opening : (index : ℕ) (given : Opening) → IsSound (opening_store index given)
unfolding IsStrictlySortedBy
sound_opening index given = search arith

-- ---- the same, of a store that is said to be so

pub sound_once_intended : (old new : Store) (t : ℕ) (parts : List Part) → IsSound old → list_all (is_sound_part old) parts ≡ true → overfills t old parts ≡ false → new ≡ intended t parts old → IsOrdered nat_cmp new.intentions → IsSound new
sound_once_intended old new t parts sound are few is rising = search (sound_intended, arith)

pub sound_once_answered : (old new : Store) (t : ℕ) → IsSound old → new ≡ finished t true old → IsOrdered nat_cmp new.intentions → IsSound new
sound_once_answered old new t sound is rising = search (sound_answered, arith)

pub sound_once_dropped : (old new : Store) (t : ℕ) → IsSound old → new ≡ finished t false old → IsOrdered nat_cmp new.intentions → IsSound new
sound_once_dropped old new t sound is rising = search (sound_dropped, arith)
