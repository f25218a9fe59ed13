-- What a tally tells of the entries that were taken.
use Rattle.acl_core.proofs.Vocabulary.{◌≡◌, ℕ, ◌+◌, ◌≤◌, Bool, true, eqb, ltb, cond, ◌&&◌, ◌||◌, List, [], ◌∷◌, ◌++◌, Option, None, Some, length, take, refl, sym, ap, subst, ◌∙◌, inl, inr, arith, append-nil, length-append, take_all, find, list_any}
use Rattle.acl_core.proofs.Vocabulary.{cons_option, cases_Bool, ltb-true, ltb-false, nat_tests, take-append-le, length-take-le, filter_map-append, sum_by-append, Tag, UserObj, User, GroupObj, Group, Mask, Other, Entry, AclFault, NoUserObj}
use Rattle.acl_core.proofs.Vocabulary.{NoGroupObj, NoOther, TwiceSingle, UserTwice, GroupTwice, MaskMissing, TooMany, same_tag, IsAccepted, count_of, faults, first_fault, has_fault, max_entries, IsTallyOf, IsWhole, Tallied, group_of, is_doubled}
use Rattle.acl_core.proofs.Vocabulary.{up_to_two, user_of}
use Rattle.acl_core.proofs.Faults.{accepted_without_fault}
use Rattle.acl_core.proofs.ListFacts.{count_by-cons}
use Rattle.acl_core.proofs.Numbers.{is_some, twice_users, twice_groups, named_some}

-- ---- one entry more

abbrev pub counted : ℕ → ℕ
counted count = up_to_two (count + 1)

abbrev pub counted_as : Tallied → Tag → Tallied
counted_as tally UserObj = record tally { user_objs = counted tally.user_objs }
counted_as tally (User id) = record tally { users = tally.users ++ id ∷ [] }
counted_as tally GroupObj = record tally { group_objs = counted tally.group_objs }
counted_as tally (Group id) = record tally { groups = tally.groups ++ id ∷ [] }
counted_as tally Mask = record tally { masks = counted tally.masks }
counted_as tally Other = record tally { others = counted tally.others }

abbrev pub kept_with : List Entry → Entry → List Entry
kept_with kept entry = cond (ltb max_entries (length kept)) kept (kept ++ entry ∷ [])

abbrev pub tallied_with : Tallied → Entry → Tallied
tallied_with tally entry = record (counted_as tally entry.tag) { kept = kept_with tally.kept entry }

-- ---- users and groups

users_with : (tally : Tallied) (tag : Tag) → (counted_as tally tag).users ≡ tally.users ++ cons_option (user_of tag) []
users_with tally (User id) = refl
users_with tally _ = sym (append-nil tally.users)

groups_with : (tally : Tallied) (tag : Tag) → (counted_as tally tag).groups ≡ tally.groups ++ cons_option (group_of tag) []
groups_with tally (Group id) = refl
groups_with tally _ = sym (append-nil tally.groups)

-- ---- entries that can stand only once

up_to_two_more : (n : ℕ) → counted (up_to_two n) ≡ up_to_two (n + 1)
up_to_two_more n = omega arith

up_to_two_zero : (n : ℕ) → eqb (up_to_two n) 0 ≡ eqb n 0
up_to_two_zero n = grind (arith, nat_tests)

up_to_two_many : (n : ℕ) → ltb 1 (up_to_two n) ≡ ltb 1 n
up_to_two_many n = grind (arith, nat_tests)

count_more : (tag : Tag) (entries : List Entry) (e : Entry) → count_of tag (entries ++ e ∷ []) ≡ count_of tag entries + cond (same_tag e.tag tag) 1 0
count_more tag entries e = search (sum_by-append, count_by-cons, arith)

counted_more : (tag : Tag) (n : ℕ) (entries : List Entry) (e : Entry) → n ≡ up_to_two (count_of tag entries) → cond (same_tag e.tag tag) (counted n) n ≡ up_to_two (count_of tag (entries ++ e ∷ []))
counted_more tag n entries e is =
    let more = count_more tag entries e in
    let count = count_of tag entries in
    elim (cases_Bool (same_tag e.tag tag)) [
      | inl same ↦
          let one : count_of tag (entries ++ e ∷ []) ≡ count + 1 = more ∙ ap (λ b. count + cond b 1 0) same in
          ap (λ b. cond b (counted n) n) same ∙ ap counted is ∙ up_to_two_more count ∙ ap up_to_two (sym one)
      | inr other ↦
          let none : count_of tag (entries ++ e ∷ []) ≡ count + 0 = more ∙ ap (λ b. count + cond b 1 0) other in
          let same : count_of tag (entries ++ e ∷ []) ≡ count = omega (arith, none) in
          ap (λ b. cond b (counted n) n) other ∙ is ∙ ap up_to_two (sym same)
    ]

user_objs_with : (tally : Tallied) (tag : Tag) → (counted_as tally tag).user_objs ≡ cond (same_tag tag UserObj) (counted tally.user_objs) tally.user_objs
user_objs_with tally UserObj = refl
user_objs_with tally _ = refl

group_objs_with : (tally : Tallied) (tag : Tag) → (counted_as tally tag).group_objs ≡ cond (same_tag tag GroupObj) (counted tally.group_objs) tally.group_objs
group_objs_with tally UserObj = refl
group_objs_with tally _ = refl

masks_with : (tally : Tallied) (tag : Tag) → (counted_as tally tag).masks ≡ cond (same_tag tag Mask) (counted tally.masks) tally.masks
masks_with tally UserObj = refl
masks_with tally _ = refl

others_with : (tally : Tallied) (tag : Tag) → (counted_as tally tag).others ≡ cond (same_tag tag Other) (counted tally.others) tally.others
others_with tally UserObj = refl
others_with tally _ = refl

-- ---- the first entries

kept_more : (entries : List Entry) (e : Entry) → kept_with (take (max_entries + 1) entries) e ≡ take (max_entries + 1) (entries ++ e ∷ [])
kept_more entries e =
    elim (cases_Bool (ltb max_entries (length entries))) [
      | inl many ↦
          let high : max_entries + 1 ≤ length entries = let above = ltb-true max_entries (length entries) many in omega (arith, above) in
          let all : ltb max_entries (length (take (max_entries + 1) entries)) ≡ true = ap (ltb max_entries) (length-take-le (max_entries + 1) entries high) in
          ap (λ b. cond b (take (max_entries + 1) entries) (take (max_entries + 1) entries ++ e ∷ [])) all ∙ sym (take-append-le (max_entries + 1) entries (e ∷ []) high)
      | inr few ↦
          let low = ltb-false max_entries (length entries) few in
          let all : take (max_entries + 1) entries ≡ entries = take_all (max_entries + 1) entries (omega (arith, low)) in
          let longer : length (entries ++ e ∷ []) ≤ max_entries + 1 = let more = length-append entries (e ∷ []) in omega (arith, more, low) in
          ap (λ kept. kept_with kept e) all ∙ ap (λ b. cond b entries (entries ++ e ∷ [])) few ∙ sym (take_all (max_entries + 1) (entries ++ e ∷ []) longer)
    ]

-- the tally of some entries, with one more
pub tally_more : (tally : Tallied) (entries : List Entry) (e : Entry) → IsTallyOf tally entries → IsTallyOf (tallied_with tally e) (entries ++ e ∷ [])
tally_more tally entries e is = record {
  user_objs = user_objs_with tally e.tag ∙ counted_more UserObj tally.user_objs entries e is.user_objs;
  group_objs = group_objs_with tally e.tag ∙ counted_more GroupObj tally.group_objs entries e is.group_objs;
  masks = masks_with tally e.tag ∙ counted_more Mask tally.masks entries e is.masks;
  others = others_with tally e.tag ∙ counted_more Other tally.others entries e is.others;
  users = users_with tally e.tag ∙ ap (λ users. users ++ cons_option (user_of e.tag) []) is.users ∙ sym (filter_map-append (λ (x : Entry). user_of x.tag) entries (e ∷ []));
  groups = groups_with tally e.tag ∙ ap (λ groups. groups ++ cons_option (group_of e.tag) []) is.groups ∙ sym (filter_map-append (λ (x : Entry). group_of x.tag) entries (e ∷ []));
  kept = ap (λ kept. kept_with kept e) is.kept ∙ kept_more entries e;
}

pub whole_more : (tally : Tallied) (e : Entry) → IsWhole tally → IsWhole (tallied_with tally e)
whole_more tally e whole few =
    elim (cases_Bool (ltb max_entries (length tally.kept))) [
      | inl full ↦
          let high = ltb-true max_entries (length tally.kept) full in
          let same : kept_with tally.kept e ≡ tally.kept = ap (λ b. cond b tally.kept (tally.kept ++ e ∷ [])) full in
          let long = ap length same in
          absurd (omega (arith, few, high, long))
      | inr room ↦
          let low = ltb-false max_entries (length tally.kept) room in
          let same : tally.kept ++ e ∷ [] ≡ kept_with tally.kept e = sym (ap (λ b. cond b tally.kept (tally.kept ++ e ∷ [])) room) in
          subst (λ kept. IsTallyOf (tallied_with tally e) kept) same (tally_more tally tally.kept e (whole (omega (arith, low))))
    ]

-- entries of which all are kept
pub all_kept : (tally : Tallied) (entries : List Entry) → IsTallyOf tally entries → length entries ≤ max_entries → tally.kept ≡ entries
all_kept tally entries is few = is.kept ∙ take_all (max_entries + 1) entries (omega (arith, few))

many_kept : (entries : List Entry) → ltb max_entries (length (take (max_entries + 1) entries)) ≡ ltb max_entries (length entries)
many_kept entries =
    elim (cases_Bool (ltb max_entries (length entries))) [
      | inl many ↦ let high = ltb-true max_entries (length entries) many in let all = length-take-le (max_entries + 1) entries (omega (arith, high)) in ap (ltb max_entries) all ∙ sym many
      | inr rest ↦ let low = ltb-false max_entries (length entries) rest in ap (λ es. ltb max_entries (length es)) (take_all (max_entries + 1) entries (omega (arith, low)))
    ]

-- ---- the faults

-- what a tally tells of each fault
abbrev pub told_fault : Tallied → AclFault → Bool
told_fault tally NoUserObj = eqb tally.user_objs 0
told_fault tally NoGroupObj = eqb tally.group_objs 0
told_fault tally NoOther = eqb tally.others 0
told_fault tally TwiceSingle = list_any (λ count. ltb 1 count) (tally.user_objs ∷ tally.group_objs ∷ tally.masks ∷ tally.others ∷ [])
told_fault tally UserTwice = is_doubled tally.users
told_fault tally GroupTwice = is_doubled tally.groups
told_fault tally MaskMissing = (is_some tally.users || is_some tally.groups) && eqb tally.masks 0
told_fault tally TooMany = ltb max_entries (length tally.kept)

-- the first of eight tests that passes
abbrev pub first_of_eight : Bool → Bool → Bool → Bool → Bool → Bool → Bool → Bool → Option AclFault
first_of_eight a b c d e f g h =
    cond a (Some NoUserObj) (cond b (Some NoGroupObj) (cond c (Some NoOther) (cond d (Some TwiceSingle) (cond e (Some UserTwice) (cond f (Some GroupTwice) (cond g (Some MaskMissing) (cond h (Some TooMany) None)))))))

told_same : (fault : AclFault) (tally : Tallied) (entries : List Entry) → IsTallyOf tally entries → told_fault tally fault ≡ has_fault fault entries
told_same fault tally entries h3 = search (up_to_two_zero, up_to_two_many, twice_users, twice_groups, is_some, named_some, many_kept, arith)

-- the first fault that a tally tells is that of the entries
pub first_told : (tally : Tallied) (entries : List Entry) → IsTallyOf tally entries → find (told_fault tally) faults ≡ first_fault entries
first_told tally entries is = λ i. find (λ fault. told_same fault tally entries is i) faults

-- where no fault is told, what is kept makes a list
pub kept_accepted : (tally : Tallied) → IsWhole tally → length tally.kept ≤ max_entries → find (told_fault tally) faults ≡ None → IsAccepted tally.kept
kept_accepted tally whole few none = accepted_without_fault tally.kept (sym (first_told tally tally.kept (whole few)) ∙ none)

-- the entries of a tally that tells no fault are those that it kept
pub kept_all : (tally : Tallied) (entries : List Entry) → IsTallyOf tally entries → first_fault entries ≡ None → tally.kept ≡ entries
kept_all tally entries is none = all_kept tally entries is (accepted_without_fault entries none).few

-- what counting leaves
pub counted_kept : (tally : Tallied) (tag : Tag) → (counted_as tally tag).kept ≡ tally.kept
counted_kept tally UserObj = refl
counted_kept tally _ = refl
