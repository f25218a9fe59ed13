-- What edits leave of a row that they do not set.
use Rattle.law_headline.proofs.Vocabulary.{◌≡◌, ℕ, ◌+◌, Bool, true, false, cond, [], ◌∷◌, Option, Some, None, refl, sym, ap, subst, ◌∙◌, arith, ◌==◌, ◌&&◌, ◌||◌, option_map, unwrap_or, false≢true, eqb-true, none-some, same_Some, Configuration}
use Rattle.law_headline.proofs.Vocabulary.{IsValid, Content, kind_of, empty_content, Prefix, PrefixKind, Row, Edit, SetAcl, SetVotes, SetContent, Make, makes, sets_acl, sets_votes, some, Edits, changed, seen, sets_content, emptied, head, neither}
use Rattle.law_headline.proofs.Vocabulary.{part_stays, keeps_acl, keeps_votes, ReadPoint, GatheredSuite, row_with, sets_prefix, new_prefix, prefix_kind, one_if, IsFair, FitsAs, told_as}
use Rattle.acl_core.specs.declared.lists.Lists.{Lists}
use Rattle.suite_content.specs.declared.content.Kind.{Kind}
use Rattle.suite_content.specs.declared.content.Kind.TheVariants as holds
use Rattle.suite_prefix.specs.declared.copies.PrefixKind.TheVariants as kind
use Rattle.file_exec.specs.declared.changes.Change as executor
use Rattle.law_headline.proofs.Editing.{FitsRow, AllFit}

-- ---- edits, one by one

keeps_content : (edit : Edit) (row : Option Row) → sets_content edit ≡ false → option_map (λ (row : Row). row.content) row ≡ option_map (λ (row : Row). row.content) (changed edit row)
keeps_content edit row h2 = search arith

keeps_owner : (edit : Edit) (row : Option Row) → makes edit ≡ false → option_map (λ (row : Row). row.owner) row ≡ option_map (λ (row : Row). row.owner) (changed edit row)
keeps_owner edit row h2 = search arith

keeps_group : (edit : Edit) (row : Option Row) → makes edit ≡ false → option_map (λ (row : Row). row.group) row ≡ option_map (λ (row : Row). row.group) (changed edit row)
keeps_group edit row h2 = search arith

-- what makes a row sets all of it
makes_all : (kind : Edit → Bool) → ((edit : Edit) → makes edit ≡ true → kind edit ≡ true) → (edits : Edits) (suite : ℕ) → some kind edits suite ≡ false → some makes edits suite ≡ false
makes_all kind all [] suite none = refl
makes_all kind all (e ∷ edits) suite none =
    elim (e.0 == suite) as (λ b. ((b && kind e.1) || some kind edits suite) ≡ false → ((b && makes e.1) || some makes edits suite) ≡ false) [
      | true ↦ λ none. let both = neither (kind e.1) (some kind edits suite) none in of (makes e.1) refl both.0 (makes_all kind all edits suite both.1)
      | false ↦ λ none. makes_all kind all edits suite none
    ] none
  where
    of : (b : Bool) → makes e.1 ≡ b → kind e.1 ≡ false → some makes edits suite ≡ false → (b || some makes edits suite) ≡ false
    of b h1 h2 h3 = search (false≢true, arith)

made_acl : (edit : Edit) → makes edit ≡ true → sets_acl edit ≡ true
made_acl edit h1 = search arith

made_votes : (edit : Edit) → makes edit ≡ true → sets_votes edit ≡ true
made_votes edit h1 = search arith

made_content : (edit : Edit) → makes edit ≡ true → sets_content edit ≡ true
made_content edit h1 = search arith

-- ---- edits that fit

-- the kind of what a row holds
abbrev kind_in : Option Row → Option Kind
kind_in row = option_map (λ (row : Row). kind_of row.content) row

fit_kind : (edit : Edit) (row : Option Row) → FitsRow edit row → makes edit ≡ false → kind_in row ≡ kind_in (changed edit row)
fit_kind edit row h2 h3 = search arith

-- unless the row is made its kind stays
kind_stays : (rows : ℕ → Option Row) (edits : Edits) (suite : ℕ) → AllFit rows edits → some makes edits suite ≡ false → kind_in (rows suite) ≡ kind_in (seen edits suite (rows suite))
kind_stays rows [] suite fit none = refl
kind_stays rows (e ∷ edits) suite fit none = search (neither, fit_kind, eqb-true, kind_stays rows edits suite, arith)

-- the votes of a row are valid
abbrev pub ValidIn : Option Row → Type 0
ValidIn row = (r : Row) → row ≡ Some r → IsValid r.votes

fit_valid : (edit : Edit) (row : Option Row) → FitsRow edit row → ValidIn row → ValidIn (changed edit row)
fit_valid (Make made) row fits valid r is = subst (λ (r : Row). IsValid r.votes) (same_Some made r is) fits
fit_valid (SetAcl acl) (Some row) fits valid r is = subst (λ (r : Row). IsValid r.votes) (same_Some (record row { acl = acl }) r is) (valid row refl)
fit_valid (SetVotes votes) (Some row) fits valid r is = subst (λ (r : Row). IsValid r.votes) (same_Some (record row { votes = votes }) r is) fits
fit_valid (SetContent content) (Some row) fits valid r is = subst (λ (r : Row). IsValid r.votes) (same_Some (record row { content = content }) r is) (valid row refl)
fit_valid other None fits valid r is = absurd (none-some r is)

stays_valid : (rows : ℕ → Option Row) (edits : Edits) (suite : ℕ) → AllFit rows edits → ValidIn (rows suite) → ValidIn (seen edits suite (rows suite))
stays_valid rows [] suite fit valid = valid
stays_valid rows (e ∷ edits) suite fit valid =
    elim (e.0 == suite) as (λ b. (e.0 == suite) ≡ b → ValidIn (cond b (changed e.1 (seen edits suite (rows suite))) (seen edits suite (rows suite)))) [
      | true ↦ λ same. fit_valid e.1 (seen edits suite (rows suite)) (subst (λ suite. FitsRow e.1 (seen edits suite (rows suite))) (eqb-true e.0 suite same) fit.0) (stays_valid rows edits suite fit.1 valid)
      | false ↦ λ _. stays_valid rows edits suite fit.1 valid
    ] refl

-- ---- a row that a prefix shows, but for its content

pub record IsHeadOf (k : PrefixKind) (prefix : Prefix) (row : Row) : Type 0 where
  pub kind : prefix_kind (kind_of row.content) ≡ k
  pub owner : row.owner ≡ prefix.owner
  pub group : row.group ≡ prefix.group
  pub acl : row.acl ≡ prefix.acl
  pub votes : row.votes ≡ prefix.votes

-- of a content that goes with a kind, or of none
kind_held : (k : Kind) (content : Option Content) → ((c : Content) → content ≡ Some c → kind_of c ≡ k) → kind_of (unwrap_or content (empty_content k)) ≡ k
kind_held k content h2 = search arith

head_shown : (k : Kind) (prefix : Prefix) (content : Content) (row : Row) → kind_of content ≡ k
    → emptied row ≡ emptied (record { owner = prefix.owner; group = prefix.group; acl = prefix.acl; votes = prefix.votes; content = content }) → IsHeadOf (prefix_kind k) prefix row
head_shown k prefix content row fits same = search arith

pub head_of : (k : PrefixKind) (prefix : Prefix) (content : Option Content) (row : Row) → ((c : Content) → content ≡ Some c → FitsAs k c) → head (Some row) ≡ head (row_with k prefix content) → IsHeadOf k prefix row
head_of kind.Absent prefix content row fits is = absurd (none-some (emptied row) (sym is))
head_of kind.File prefix content row fits is = head_shown holds.File prefix (unwrap_or content (empty_content holds.File)) row (kind_held holds.File content fits) (same_Some _ _ is)
head_of kind.Folder prefix content row fits is = head_shown holds.Folder prefix (unwrap_or content (empty_content holds.Folder)) row (kind_held holds.Folder content fits) (same_Some _ _ is)

same_prefix : (p : Prefix) (v : ℕ) (k : PrefixKind) (o g : ℕ) (a : Lists) (c : Configuration) → v ≡ p.pver → k ≡ p.kind → o ≡ p.owner → g ≡ p.group → a ≡ p.acl → c ≡ p.votes
    → record { pver = v; kind = k; owner = o; group = g; acl = a; votes = c } ≡ p
same_prefix p v k o g a c v_is k_is o_is g_is a_is c_is = search arith

-- ---- a change is fair

plus : (n : ℕ) → n + 0 ≡ n
plus n = omega arith

module _ (suite : GatheredSuite) (first : ReadPoint) (rows : ℕ → Option Row) (z : ℕ) (edits : Edits) (row : Row) (fit : AllFit rows edits) (is : seen edits z (rows z) ≡ Some row)
    (fits : (c : Content) → suite.content ≡ Some c → FitsAs first.prefix.kind c)
    (heads : head (rows z) ≡ head (row_with first.prefix.kind first.prefix suite.content)) where
  abbrev change : executor.Change
  change = told_as edits z row

  -- a row that was not made was there
  there : some makes edits z ≡ false → (r : Row) × (rows z ≡ Some r)
  there none = of (rows z) refl
    where
      of : (o : Option Row) → rows z ≡ o → (r : Row) × (rows z ≡ Some r)
      of (Some r) at = (r, at)
      of None at = absurd (none-some (kind_of row.content) (sym (ap kind_in at) ∙ kind_stays rows edits z fit none ∙ ap kind_in is))

  part_same : {A : Type 0} (part : Row → A) (kind : Edit → Bool) → ((edit : Edit) (row : Option Row) → kind edit ≡ false
      → option_map part row ≡ option_map part (changed edit row)) → some kind edits z ≡ false → (r : Row) → rows z ≡ Some r → part row ≡ part r
  part_same part kind keeps none r at = sym (same_Some (part r) (part row) (sym (ap (option_map part) at) ∙ part_stays part kind keeps edits z (rows z) none ∙ ap (option_map part) is))

  head_at : (r : Row) → rows z ≡ Some r → IsHeadOf first.prefix.kind first.prefix r
  head_at r at = head_of first.prefix.kind first.prefix suite.content r fits (sym (ap head at) ∙ heads)

  pub same_kind : some makes edits z ≡ false → prefix_kind (kind_of row.content) ≡ first.prefix.kind
  same_kind none =
      let r = there none in
      ap prefix_kind (sym (same_Some (kind_of r.0.content) (kind_of row.content) (sym (ap kind_in r.1) ∙ kind_stays rows edits z fit none ∙ ap kind_in is)))
      ∙ (head_at r.0 r.1).kind

  pub same_votes : change.votes ≡ false → row.votes ≡ first.prefix.votes
  same_votes none =
      let r = there (makes_all sets_votes made_votes edits z none) in
      part_same (λ (row : Row). row.votes) sets_votes keeps_votes none r.0 r.1 ∙ (head_at r.0 r.1).votes

  same_head : sets_prefix change ≡ false → new_prefix first change ≡ first.prefix
  same_head none =
      let both = neither change.acl change.votes none in
      let unmade = makes_all sets_acl made_acl edits z both.0 in
      let r = there unmade in
      let was = head_at r.0 r.1 in
      same_prefix first.prefix (first.prefix.pver + one_if (sets_prefix change)) (prefix_kind (kind_of row.content)) row.owner row.group row.acl row.votes
      (ap (λ b. first.prefix.pver + one_if b) none ∙ plus first.prefix.pver)
      (same_kind unmade)
      (part_same (λ (row : Row). row.owner) makes keeps_owner unmade r.0 r.1 ∙ was.owner)
      (part_same (λ (row : Row). row.group) makes keeps_group unmade r.0 r.1 ∙ was.group)
      (part_same (λ (row : Row). row.acl) sets_acl keeps_acl both.0 r.0 r.1 ∙ was.acl)
      (same_votes both.1)

  -- the content that was there, where it was not set
  pub same_content : change.content ≡ false → (r : Row) × (rows z ≡ Some r) × (row.content ≡ r.content)
  same_content none = let r = there (makes_all sets_content made_content edits z none) in (r.0, r.1, part_same (λ (row : Row). row.content) sets_content keeps_content none r.0 r.1)

  pub content_kind : change.content ≡ false → prefix_kind (kind_of row.content) ≡ first.prefix.kind
  content_kind none = same_kind (makes_all sets_content made_content edits z none)

  valid_votes : IsValid first.prefix.votes → IsValid row.votes
  valid_votes valid = stays_valid rows edits z fit (λ r at. subst IsValid (sym (head_at r at).votes) valid) row is

  pub fair : IsValid first.prefix.votes → (change.content ≡ false → change.votes ≡ true → (c : Content) × (suite.content ≡ Some c) × (rows z ≡ row_with first.prefix.kind first.prefix (Some c))) → IsFair suite first change
  fair valid known = search (same_head, same_votes, same_content, content_kind, valid_votes, none-some, same_Some, arith)
