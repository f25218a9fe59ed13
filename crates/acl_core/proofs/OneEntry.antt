-- The one entry of a tag in a canonical list, by the place before which all entries stand before the tag.
use Rattle.acl_core.proofs.Vocabulary.{◌≡◌, ℕ, zero, suc, ◌<◌, Bool, true, false, cond, eqb, Option, None, Some, is_some, List, [], ◌∷◌, All, length, get_or, refl, ◌∙◌, ap, sym, inl, inr, filter, arith, cons_option, list_any, partial_lt}
use Rattle.acl_core.proofs.Vocabulary.{IsPartitionedBy, cases_Bool, nat_tests, All-head, All-tail, Tag, Entry, same_tag, precedes, IsCanonical}
use Rattle.acl_core.specs.contracts.entry.TagPartialOrd.TheImpl as tag_ord

-- the order of tags that `<` asks
abbrev pub tag_lt : Tag → Tag → Bool
tag_lt s t = partial_lt (tag_ord.ghosts).partial_cmp s t

-- it is the canonical one
pub tag_lt_is : (s t : Tag) → tag_lt s t ≡ precedes s t
tag_lt_is s t = search arith

chained : (a b tag : Tag) → precedes a b ≡ true → precedes b tag ≡ true → precedes a tag ≡ true
chained a b tag h k = grind (arith, nat_tests)

-- a canonical list has all that stand before a tag in front
pub before_in_front : (tag : Tag) (entries : List Entry) → IsCanonical entries → IsPartitionedBy (λ (e : Entry). tag_lt e.tag tag) entries
before_in_front tag entries canonical i j d le inside later =
    elim (cases_Bool (eqb i j)) [
      | inl same ↦ let is : i ≡ j = grind (arith, nat_tests) in rw is later
      | inr other ↦
          let less : i < j = grind (arith, nat_tests) in
          tag_lt_is _ tag ∙ chained (get_or entries i d).tag (get_or entries j d).tag tag (canonical i j d less inside) (sym (tag_lt_is _ tag) ∙ later)
    ]

not_later : (a b tag : Tag) → precedes a tag ≡ false → precedes a b ≡ true → same_tag b tag ≡ false
not_later a b tag h k = grind (arith, nat_tests)

not_before : (a tag : Tag) → precedes a tag ≡ true → same_tag a tag ≡ false
not_before a tag h = grind (arith, nat_tests)

-- nothing after an entry that does not stand before a tag has that tag
none_after : (tag : Tag) (e : Entry) (es : List Entry) → precedes e.tag tag ≡ false → All (λ (y : Entry). precedes e.tag y.tag ≡ true) es → filter (λ y. same_tag y.tag tag) es ≡ []
none_after tag e [] h all = refl
none_after tag e (y ∷ es) h all =
    let other = not_later e.tag y.tag tag h (All-head (λ (y : Entry). precedes e.tag y.tag ≡ true) y es all) in
    rw other (none_after tag e es h (All-tail (λ (y : Entry). precedes e.tag y.tag ≡ true) y es all))

rest_canonical : (e : Entry) (es : List Entry) → IsCanonical (e ∷ es) → IsCanonical es
rest_canonical e es canonical = λ i j d lt inside. canonical (suc i) (suc j) d (omega arith) (omega arith)

-- an entry of the tag stands at that place, or nowhere
pub one_at : (tag : Tag) (entries : List Entry) (place : ℕ) (d : Entry) → IsCanonical entries → place < length entries
    → ((k : ℕ) (x : Entry) → k < place → precedes (get_or entries k x).tag tag ≡ true) → precedes (get_or entries place d).tag tag ≡ false
    → filter (λ e. same_tag e.tag tag) entries ≡ cond (same_tag (get_or entries place d).tag tag) (get_or entries place d ∷ []) []
one_at tag [] place d canonical inside before at = absurd (omega (arith, inside))
one_at tag (e ∷ es) zero d canonical inside before at =
    let after : All (λ (y : Entry). precedes e.tag y.tag ≡ true) es = λ k x within. canonical zero (suc k) x (omega arith) (omega arith) in
    let none = none_after tag e es at after in
    elim (cases_Bool (same_tag e.tag tag)) [ inl same ↦ rw same (ap (λ l. e ∷ l) none) | inr other ↦ rw other none ]
one_at tag (e ∷ es) (suc place) d canonical inside before at =
    let other = not_before e.tag tag (before zero e (omega arith)) in
    let within : place < length es = omega (arith, inside) in
    rw other (one_at tag es place d (rest_canonical e es canonical) within (λ k x lt. before (suc k) x (omega arith)) at)

-- where all stand before it, nowhere
pub none_at_end : (tag : Tag) (entries : List Entry) → ((k : ℕ) (x : Entry) → k < length entries → precedes (get_or entries k x).tag tag ≡ true) → filter (λ (e : Entry). same_tag e.tag tag) entries ≡ []
none_at_end tag [] before = refl
none_at_end tag (e ∷ es) before =
    let other = not_before e.tag tag (before zero e (omega arith)) in
    rw other (none_at_end tag es (λ k x lt. before (suc k) x (omega arith)))

-- some entry passes where one is left of those that pass
pub any_kept : (p : Entry → Bool) (entries : List Entry) → list_any p entries ≡ list_any (λ e. true) (filter p entries)
any_kept p [] = refl
any_kept p (e ∷ es) = elim (cases_Bool (p e)) [ inl passes ↦ rw passes refl | inr fails ↦ rw fails (any_kept p es) ]

pub some_of : (o : Option Entry) → is_some o ≡ list_any (λ (e : Entry). true) (cons_option o [])
some_of None = refl
some_of (Some e) = refl
