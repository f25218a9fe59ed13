-- Copies that fit their types stay so; and sound copies that fit are valid.
use Rattle.rep_core.proofs.Vocabulary.{◌≡◌, ℕ, ◌<◌, ◌^◌, lit<, inl, inr, Bool, true, false, cond, List, [], ◌∷◌, Option, Some, None, refl, sym, ap, subst, ◌∙◌, arith, ◌==◌, All, nat_tests, nat_cmp, and_parts, All-nil, All-cons, All-contains}
use Rattle.rep_core.proofs.Vocabulary.{same_Some, none-some, get, Configuration, IsValid, Content, IsName, empty_content, PrefixKind, Replica, absent_copy, AreAcls, NumbersFit, closed_lists, IsCopy, held_by, Opening, is_absent, ContentFits, CopyFits}
use Rattle.rep_core.proofs.Vocabulary.{Intention, Part, Take, Request, Stamped, Store, IsSound, is_sound, copy_of, left_by, is_keep, lists_twice, intended, in_effect, opening_store, State, opening, step, after_all, reached, TakeFits, RequestFits}
use Rattle.rep_core.proofs.Vocabulary.{OpeningFits, HasValidCopies, TellsOfValid, CopiesAreValid, IsConsistent, is_answered, given, reply_up, reply_down, reply_of, finished}
use Rattle.acl_core.specs.declared.entry.Entry.{Entry}
use Rattle.acl_core.specs.declared.entry.Tag.TheVariants.{UserObj, GroupObj, Other}
use Rattle.acl_core.specs.Entries.{entry_of}
use Rattle.acl_core.specs.AccessLists.{IsAcl}
use Rattle.acl_core.specs.Modes.{minimal_list}
use Rattle.acl_core.specs.Tags.{qualifier}
use Rattle.suite_prefix.proofs.TestsExact.{valid_copy_if_passes}
use Rattle.std.specs.List.Sorted.{IsStrictlySortedBy}
use Rattle.rep_core.proofs.Reached.{always_consistent}
use Rattle.rep_core.proofs.Finding.{find_some}
use Rattle.rep_core.proofs.Members.{Has, contains_from}
use Rattle.rep_core.proofs.Intentions.{get-without}
use Rattle.rep_core.proofs.IntentionLookups.{part_of, planned, get-with_intentions, copy_finished}
use Rattle.rep_core.proofs.Ways.{Ways, by_step}
use Rattle.rep_core.proofs.Consistent.{looked, consistent_step, consistent_opening}

-- ---- what was never made fits

abbrev of_group : Entry
of_group = entry_of GroupObj 0

abbrev of_others : Entry
of_others = entry_of Other 0

closed_acl : IsAcl (minimal_list 0)
closed_acl = search arith

-- its entries name nobody
abbrev small : Entry → Type 0
small entry = qualifier entry.tag < 2 ^ 32

names_nobody : All (λ (entry : Entry). qualifier entry.tag < 2 ^ 32) (minimal_list 0)
names_nobody = All-cons small (entry_of UserObj 0) (of_group ∷ of_others ∷ []) (lit< tt) (All-cons small of_group (of_others ∷ []) (lit< tt) (All-cons small of_others [] (lit< tt) (All-nil small)))

pub closed_acls : AreAcls closed_lists
closed_acls = record { access = closed_acl; default = tt }

pub nobody : NumbersFit closed_lists
nobody = record { access = names_nobody; default = All-nil small }

abbrev is_named : List ℕ × ℕ → Type 0
is_named entry = IsName entry.0

pub absent_fits : (c0 : Configuration) → IsValid c0 → c0.r < 2 ^ 16 → c0.w < 2 ^ 16 → CopyFits (absent_copy c0)
absent_fits c0 valid r w = search arith

empty_fits : (kind : PrefixKind) → ContentFits (empty_content (held_by kind))
unfolding IsStrictlySortedBy
empty_fits kind = search arith

-- ---- what holds of each copy, and of what each intention leaves of it

module _ (P : Replica → Type 0) where
  abbrev pub Each : Store → Type 0
  Each store = ((suite : ℕ) → P (copy_of store suite)) × ((suite : ℕ) (intention : Intention) → get nat_cmp store.intentions suite ≡ Some intention → P (left_by intention.take (copy_of store suite)))

  each_intended : (store : Store) (t : ℕ) (parts : List Part) → lists_twice parts ≡ false → ((part : Part) → Has parts part → P (left_by part.take (copy_of store part.suite))) → Each store → Each (intended t parts store)
  each_intended store t parts once new each = (each.0, λ suite intention has. by_part suite intention (part_of suite parts) refl (sym (get-with_intentions t parts store.intentions suite once) ∙ has))
    where
      same : (a b : ℕ) → (a == b) ≡ true → a ≡ b
      same a b e = grind (arith, nat_tests)

      by_part : (suite : ℕ) (intention : Intention) (o : Option Part) → part_of suite parts ≡ o → planned t o (get nat_cmp store.intentions suite) ≡ Some intention → P (left_by intention.take (copy_of store suite))
      by_part suite intention None is was = each.1 suite intention was
      by_part suite intention (Some part) is was =
          let found = find_some (λ part. part.suite == suite) parts part is in
          elim (is_keep part.take) as (λ b. cond b (get nat_cmp store.intentions suite) (Some (record { t = t; take = part.take })) ≡ Some intention → P (left_by intention.take (copy_of store suite))) [
            | true ↦ λ was. each.1 suite intention was
            | false ↦ λ kept.
                let is_new = same_Some (record { t = t; take = part.take }) intention kept in
                let of_part : P (left_by part.take (copy_of store suite)) = subst (λ z. P (left_by part.take (copy_of store z))) (same part.suite suite found.1) (new part found.0) in
                subst (λ (x : Intention). P (left_by x.take (copy_of store suite))) is_new of_part
          ] was

  each_effect : (store : Store) (decided : ℕ → Bool) (suite : ℕ) (o : Option Intention) → Each store → get nat_cmp store.intentions suite ≡ o → P (in_effect o decided (copy_of store suite))
  each_effect store decided suite o h4 h5 = search arith

  each_finished : (store : Store) (t : ℕ) (answered : Bool) → IsSound store → Each store → Each (finished t answered store)
  each_finished store t false sound each = (each.0, λ suite intention has. each.1 suite intention (get-without t store.intentions suite intention sound.rising has).0)
  each_finished store t true sound each = (
    λ suite. subst P (sym (copy_finished store t true suite sound)) (each_effect store (λ u. u == t) suite (get nat_cmp store.intentions suite) each refl),
    λ suite intention has.
        let was = get-without t store.intentions suite intention sound.rising has in
        let stays : copy_of (finished t true store) suite ≡ copy_of store suite =
        copy_finished store t true suite sound
        ∙ ap (λ o. in_effect o (λ u. u == t) (copy_of store suite)) was.0
        ∙ ap (λ b. cond b (left_by intention.take (copy_of store suite)) (copy_of store suite)) was.1 in
        subst (λ copy. P (left_by intention.take copy)) (sym stays) (each.1 suite intention was.0),
  )

-- ---- a take that fits leaves what fits

kept_fits : (kind next : PrefixKind) (content : Content) → ContentFits content → ContentFits (cond (is_absent kind) (empty_content (held_by next)) content)
kept_fits kind next content h3 = search (empty_fits, arith)

pub left_fits : (what : Take) (copy : Replica) → TakeFits what → CopyFits copy → CopyFits (left_by what copy)
left_fits what copy h2 h3 = search (kept_fits, arith)

all_has : {X : Type 0} (P : X → Type 0) (xs : List X) → All P xs → (x : X) → Has xs x → P x
all_has P xs all x there = All-contains P xs x all (contains_from xs x there)

fit_ways : (st : State) → IsSound st.store → Each CopyFits st.store → Ways st (λ asked new. RequestFits asked → Each CopyFits new.store)
fit_ways st sound fit = record {
  same = λ _ _. fit;
  poll = λ t suite mode free _. fit;
  upgrade = λ t suite has free _. fit;
  prepare = λ t parts does few fits. each_intended CopyFits st.store t parts (looked st t parts does).once
      (λ part there. left_fits part.take (copy_of st.store part.suite) (all_has (λ (part : Part). TakeFits part.take) parts fits part there) (fit.0 part.suite)) fit;
  decide = λ t decision none _. fit;
  resolve = λ t none _. fit;
  finish = λ t verdict is _. each_finished CopyFits st.store t (is_answered verdict) sound fit;
  break = λ t suite _. fit;
  crash = λ _. fit;
  return = λ _. fit;
}

-- one request after the other
pub fit_step : (st : State) (asked : Stamped Request) → IsConsistent st → Each CopyFits st.store → RequestFits asked.value → Each CopyFits (step st asked).store
fit_step st asked is fit fits = by_step st (λ request new. RequestFits request → Each CopyFits new.store) (fit_ways st is.sound fit) (λ _ _ _ holds. holds) asked fits

pub fit_opening : (index : ℕ) (given : Opening) → OpeningFits given → Each CopyFits (opening_store index given)
unfolding IsStrictlySortedBy
fit_opening index given fits = search (none-some, empty_fits, absent_fits, arith)

-- ---- a sound copy that fits is valid

pub sound_valid : (copy : Replica) → is_sound copy ≡ true → CopyFits copy → IsCopy copy
sound_valid copy sound fits = search (and_parts, valid_copy_if_passes, arith)

both : (store : Store) → IsSound store → Each CopyFits store → Each IsCopy store
both store sound fit = search (sound_valid, arith)

pub valid_copies : (store : Store) → IsSound store → Each CopyFits store → HasValidCopies store
valid_copies store sound fit = search (both, each_effect, arith)

-- ---- what is told

module _ (st : State) (valid : (suite : ℕ) → IsCopy (copy_of st.store suite)) where
  tells_up : (asked : Request) → TellsOfValid (reply_up st asked)
  tells_up asked = search arith

  tells_down : (asked : Request) → TellsOfValid (reply_down asked)
  tells_down asked = search arith

  pub tells_of_valid : (asked : Request) → TellsOfValid (reply_of st asked)
  tells_of_valid asked = elim (st.up) as (λ b. TellsOfValid (cond b (reply_up st asked) (reply_down asked))) [ true ↦ tells_up asked | false ↦ tells_down asked ]

-- ---- whole runs

fit_all : (asked : List (Stamped Request)) (st : State) → IsConsistent st → Each CopyFits st.store → ((one : Stamped Request) → Has asked one → RequestFits one.value) → Each CopyFits (after_all st asked).store
fit_all [] st is fit all = fit
fit_all (first ∷ later) st is fit all = fit_all later (step st first) (consistent_step st first is) (fit_step st first is fit (all first (inl refl))) (λ one there. all one (inr there))

reached_valid : (index : ℕ) (given : Opening) (asked : List (Stamped Request)) → OpeningFits given → All (λ asked. RequestFits asked.value) asked → HasValidCopies (reached index given asked).store
reached_valid index given asked opens all =
    valid_copies (reached index given asked).store (always_consistent index given asked).sound
    (fit_all asked (opening index given) (consistent_opening index given) (fit_opening index given opens) (all_has (λ (one : Stamped Request). RequestFits one.value) asked all))

pub copies_are_valid : CopiesAreValid
copies_are_valid = record {
  has = reached_valid;
  tells = λ index given asked opens all next. tells_of_valid (reached index given asked) (reached_valid index given asked opens all).stored next;
}
