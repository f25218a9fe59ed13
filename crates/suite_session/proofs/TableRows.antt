-- What copies tell of a path is what the table has there, where they are those that are in effect.
use Rattle.suite_session.proofs.Vocabulary.{◌≡◌, ◌⊎◌, ℕ, ◌<◌, ◌≤◌, true, List, [], ◌∷◌, Option, Some, None, inl, inr, refl, sym, ap, subst, ◌∙◌, arith}
use Rattle.suite_session.proofs.Vocabulary.{nat_tests, append-nil, none-some, same_Some, nat_le, names_of, Row, Rows, root, row_of, effect_at, greatest, inv}
use Rattle.suite_session.proofs.Vocabulary.{of_row, all_shown, IsShown, NeverAs, copy_at, AllKeepSides, register, row_shown, HaveVersions, machine_of}
use Rattle.suite_session.proofs.Vocabulary.{beginning, quorums_show, Inv, IsQuorum, Beginning, WasCopy, content_at, prefix_at, Event, table_of, empty_content}
use Rattle.suite_session.proofs.Vocabulary.{Content, Kind, held_by, Opening, Prefix, PrefixKind, Replica, Copies, child_in, child_of, found, found_at}
use Rattle.suite_session.proofs.Vocabulary.{found_on, shown_by, shown_for, shown_at, unless_absent, IsTheRow, child_by, leads_at, leads_to, numbered}
use Rattle.suite_session.proofs.Vocabulary.{numbered_at, row_in, row_told, Shown, row_with, Configuration, votes_in, IsValid}
use Rattle.law_suite_machine.specs.Machine.{World}
use Rattle.suite_session.specs.Rows.{newest}
use Rattle.suite_content.specs.declared.content.Kind.TheVariants as holds
use Rattle.suite_prefix.specs.declared.copies.PrefixKind.TheVariants as kind
use Rattle.suite_session.proofs.NewestCopies.{IsNewest, is_newest}
use Rattle.suite_session.specs.declared.side.Side.TheVariants as side

-- each copy of a suite is the one in effect, and where there is none nothing is; so it is behind the last server
pub record ShowEffects (given : Opening) (events : List Event) (copies : Copies) (suite : ℕ) : Type 0 where
  pub some : (server : ℕ) (copy : Replica) → copies server suite ≡ Some copy → copy ≡ copy_at given events suite server
  pub none : (server : ℕ) → copies server suite ≡ None → ((copy_at given events suite server).prefix.pver ≡ 0) × ((copy_at given events suite server).dver ≡ 0)
  pub beyond : (server : ℕ) → given.servers ≤ server → ((copy_at given events suite server).prefix.pver ≡ 0) × ((copy_at given events suite server).dver ≡ 0)

least : (a b : ℕ) → a ≤ b → nat_le a b ≡ true
least a b is = grind (arith, nat_tests)

below_or_not : (a b : ℕ) → (a < b) ⊎ (b ≤ a)
below_or_not a b = grind arith

none_or_some : (n : ℕ) → (n ≡ 0) ⊎ (0 < n)
none_or_some n = grind arith

-- a name leads nowhere from what is empty
no_child : (k : Kind) (name : List ℕ) → child_of (empty_content k) name ≡ None
no_child holds.File name = refl
no_child holds.Folder name = refl

-- of what was never made nothing is told
none_told : (suite : ℕ) (head body : Option Replica) → ((copy : Replica) → head ≡ Some copy → copy.prefix.kind ≡ kind.Absent) → shown_by suite head body ≡ None
none_told suite None body absent = refl
none_told suite (Some head) None absent = refl
none_told suite (Some head) (Some body) absent = rw (absent head refl) refl

abbrev shown_so : ℕ → Prefix → ℕ → Content → Shown
shown_so suite prefix dver content = record { suite = suite; prefix = prefix; dver = dver; content = content }

abbrev shown_of : ℕ → Replica → Shown
shown_of suite held = shown_so suite held.prefix held.dver held.content

made_some : (k : PrefixKind) (shown : Shown) → (k ≡ kind.Absent → ⊥) → unless_absent k shown ≡ Some shown
made_some kind.Absent shown made = absurd (made refl)
made_some kind.File shown made = refl
made_some kind.Folder shown made = refl

made_told : (suite : ℕ) (head body held : Replica) → (held.prefix.kind ≡ kind.Absent → ⊥) → head.prefix ≡ held.prefix → body.dver ≡ held.dver → body.content ≡ held.content
    → shown_by suite (Some head) (Some body) ≡ Some (shown_of suite held)
made_told suite head body held made prefix dver content =
    made_some head.prefix.kind (shown_so suite head.prefix body.dver body.content) (λ is. made (sym (ap (λ (p : Prefix). p.kind) prefix) ∙ is))
    ∙ ap (λ p. Some (shown_so suite p body.dver body.content)) prefix
    ∙ ap (λ d. Some (shown_so suite held.prefix d body.content)) dver
    ∙ ap (λ c. Some (shown_so suite held.prefix held.dver c)) content

-- the row that a register shows
none_shown : (held : Replica) → held.prefix.kind ≡ kind.Absent → row_shown held ≡ None
none_shown held is = rw is refl

made_row : (k : PrefixKind) (prefix : Prefix) (content : Content) → (k ≡ kind.Absent → ⊥)
    → row_with k prefix (Some content) ≡ Some (record { owner = prefix.owner; group = prefix.group; acl = prefix.acl; votes = prefix.votes; content = content })
made_row kind.Absent prefix content made = absurd (made refl)
made_row kind.File prefix content made = refl
made_row kind.Folder prefix content made = refl

made_or_not : (k : PrefixKind) → (k ≡ kind.Absent) ⊎ (k ≡ kind.Absent → ⊥)
made_or_not kind.Absent = inl refl
made_or_not kind.File = inr (λ is. cc)
made_or_not kind.Folder = inr (λ is. cc)

-- what is told of a suite
pub record IsToldAs (suite : ℕ) (held : Replica) (there : Option Row) (head body : Option Replica) : Type 0 where
  pub row : row_told (shown_by suite head body) ≡ numbered suite there
  pub child : (name : List ℕ) → child_in body name ≡ child_by there name
  pub versions : (shown : Shown) → shown_by suite head body ≡ Some shown → (shown.suite ≡ suite) × (shown.prefix.pver ≡ held.prefix.pver) × (shown.dver ≡ held.dver)

module _ (given : Opening) (events : List Event) (kept : AllKeepSides given events) (copies : Copies) (z : ℕ) (tell : ShowEffects given events copies z) where
  abbrev held : Replica
  held = register given z events

  abbrev start : Beginning
  start = beginning z given

  abbrev w : World
  w = machine_of given z events

  abbrev effects : ℕ → Replica
  effects server = copy_at given events z server

  i : Inv start w
  i = inv given events kept z

  shown : IsShown held (row_of (table_of given events).rows z)
  shown = all_shown given events kept z

  was : (server : ℕ) → WasCopy start w.log (effects server)
  was server = subst (WasCopy start w.log) (effect_at given events kept z server) (i.current.were server)

  most : (server : ℕ) → ((effects server).prefix.pver ≤ held.prefix.pver) × ((effects server).dver ≤ held.dver)
  most server = greatest given events kept z server

  -- all servers are a quorum
  every : IsQuorum held.prefix.votes (λ _. true)
  every =
      let valid : IsValid held.prefix.votes = subst (λ (p : Prefix). IsValid p.votes) i.logged.own.0.1 (i.logged.valid held.prefix.pver) in
      inl (least held.prefix.votes.r (votes_in held.prefix.votes.reps (λ _. true)) valid.r_in_range.1)

  some_prefix : (server : ℕ) × ((effects server).prefix ≡ held.prefix)
  some_prefix =
      let found = (quorums_show start w i).prefix (λ _. true) every in
      (found.server, ap (λ (copy : Replica). copy.prefix) (sym (effect_at given events kept z found.server)) ∙ found.is)

  some_content : (server : ℕ) × ((effects server).dver ≡ held.dver)
  some_content =
      let found = (quorums_show start w i).content (λ _. true) every in
      (found.server, ap (λ (copy : Replica). copy.dver) (sym (effect_at given events kept z found.server)) ∙ found.is.0)

  -- one version, one prefix, and above 0 one content
  same_prefix : (server : ℕ) → (effects server).prefix.pver ≡ held.prefix.pver → (effects server).prefix ≡ held.prefix
  same_prefix server is = sym (was server).0.1 ∙ ap (prefix_at start w.log) is ∙ i.logged.own.0.1

  content_had : (copy : Replica) → WasCopy start w.log copy → 0 < copy.dver → content_at start w.log copy.dver ≡ copy.content
  content_had copy had some = elim (had.1) [ inl was ↦ was.2 | inr zero ↦ let e = zero.0 in absurd (omega (arith, e, some)) ]

  same_content : (server : ℕ) → 0 < held.dver → (effects server).dver ≡ held.dver → (effects server).content ≡ held.content
  same_content server some is =
      sym (content_had (effects server) (was server) (subst (λ d. 0 < d) (sym is) some))
      ∙ ap (content_at start w.log) is
      ∙ content_had held i.logged.own some

  -- what was never made is at version 0
  absent_at : held.prefix.pver ≡ 0 → held.prefix.kind ≡ kind.Absent
  absent_at zero = ap (λ (p : Prefix). p.kind) (sym i.logged.own.0.1 ∙ ap (prefix_at start w.log) zero ∙ i.logged.never.1)

  unmade : held.dver ≡ 0 → held.prefix.kind ≡ kind.Absent
  unmade zero = sym (i.logged.kind zero 0) ∙ ap (λ (p : Prefix). p.kind) i.logged.never.1

  never : held.prefix.kind ≡ kind.Absent → (held.prefix.pver ≡ 0) × (held.dver ≡ 0)
  never is = of held.prefix.kind shown.never is
    where
      of : (k : PrefixKind) → NeverAs k held.prefix.pver held.dver → k ≡ kind.Absent → (held.prefix.pver ≡ 0) × (held.dver ≡ 0)
      of kind.Absent never is = never
      of kind.File never is = absurd cc
      of kind.Folder never is = absurd cc

  -- what is in effect somewhere above version 0 is among the copies
  there : (server : ℕ) → (0 < (effects server).prefix.pver) ⊎ (0 < (effects server).dver) → (server < given.servers) × ((copy : Replica) × (copies server z ≡ Some copy))
  there server some = (inside (below_or_not server given.servers), of (copies server z) refl)
    where
      not_none : ((effects server).prefix.pver ≡ 0) × ((effects server).dver ≡ 0) → ⊥
      not_none zero = elim some [ inl p ↦ let e = zero.0 in omega (arith, e, p) | inr d ↦ let e = zero.1 in omega (arith, e, d) ]

      inside : (server < given.servers) ⊎ (given.servers ≤ server) → server < given.servers
      inside (inl less) = less
      inside (inr more) = absurd (not_none (tell.beyond server more))

      of : (found : Option Replica) → copies server z ≡ found → (copy : Replica) × (copies server z ≡ Some copy)
      of None is = absurd (not_none (tell.none server is))
      of (Some copy) is = (copy, is)

  -- ---- what was made

  abbrev head : Option Replica
  head = newest side.Prefix copies z given.servers

  abbrev body : Option Replica
  body = newest side.Content copies z given.servers

  of_prefix : IsNewest side.Prefix copies z given.servers head
  of_prefix = is_newest side.Prefix copies z given.servers

  of_content : IsNewest side.Content copies z given.servers body
  of_content = is_newest side.Content copies z given.servers

  new_prefix : 0 < held.prefix.pver → (copy : Replica) × (head ≡ Some copy) × (copy.prefix ≡ held.prefix)
  new_prefix some =
      let one = some_prefix in
      let version : (effects one.0).prefix.pver ≡ held.prefix.pver = ap (λ (p : Prefix). p.pver) one.1 in
      let at = there one.0 (inl (subst (λ n. 0 < n) (sym version) some)) in
      let best = of_prefix.least one.0 at.1.0 at.0 at.1.1 in
      let its : at.1.0.prefix.pver ≡ held.prefix.pver = ap (λ (c : Replica). c.prefix.pver) (tell.some one.0 at.1.0 at.1.1) ∙ version in
      let from = of_prefix.from best.best best.is in
      let is = tell.some from.0 best.best from.1 in
      let low = best.least in
      let up = subst (λ (c : Replica). c.prefix.pver ≤ held.prefix.pver) (sym is) (most from.0).0 in
      let equal : best.best.prefix.pver ≡ held.prefix.pver = omega (arith, low, up, its) in
      (best.best, best.is, ap (λ (c : Replica). c.prefix) is ∙ same_prefix from.0 (ap (λ (c : Replica). c.prefix.pver) (sym is) ∙ equal))

  new_content : 0 < held.dver → (copy : Replica) × (body ≡ Some copy) × (copy.dver ≡ held.dver) × (copy.content ≡ held.content)
  new_content some =
      let one = some_content in
      let at = there one.0 (inr (subst (λ n. 0 < n) (sym one.1) some)) in
      let best = of_content.least one.0 at.1.0 at.0 at.1.1 in
      let its : at.1.0.dver ≡ held.dver = ap (λ (c : Replica). c.dver) (tell.some one.0 at.1.0 at.1.1) ∙ one.1 in
      let from = of_content.from best.best best.is in
      let is = tell.some from.0 best.best from.1 in
      let low = best.least in
      let up = subst (λ (c : Replica). c.dver ≤ held.dver) (sym is) (most from.0).1 in
      let equal : best.best.dver ≡ held.dver = omega (arith, low, up, its) in
      (best.best, best.is, equal, ap (λ (c : Replica). c.content) is ∙ same_content from.0 some (ap (λ (c : Replica). c.dver) (sym is) ∙ equal))

  positive : (n : ℕ) → (n ≡ 0 → held.prefix.kind ≡ kind.Absent) → (held.prefix.kind ≡ kind.Absent → ⊥) → 0 < n
  positive n zero made = elim (none_or_some n) [ inl is ↦ absurd (made (zero is)) | inr some ↦ some ]

  when_made : (held.prefix.kind ≡ kind.Absent → ⊥) → IsToldAs z held (row_of (table_of given events).rows z) head body
  when_made made =
      let h = new_prefix (positive held.prefix.pver absent_at made) in
      let b = new_content (positive held.dver unmade made) in
      let row = sym shown.shows ∙ made_row held.prefix.kind held.prefix held.content made in
      let told : shown_by z head body ≡ Some (shown_of z held) =
      ap (λ head. shown_by z head body) h.1 ∙ ap (λ body. shown_by z (Some h.0) body) b.1 ∙ made_told z h.0 b.0 held made h.2 b.2 b.3 in
      record {
        row = ap row_told told ∙ sym (ap (numbered z) row);
        child = λ name. ap (λ body. child_in body name) b.1 ∙ ap (λ content. child_of content name) b.3 ∙ sym (ap (λ row. child_by row name) row);
        versions = λ one is.
            let same : shown_of z held ≡ one = same_Some (shown_of z held) one (sym told ∙ is) in
            (ap (λ (s : Shown). s.suite) (sym same), ap (λ (s : Shown). s.prefix.pver) (sym same), ap (λ (s : Shown). s.dver) (sym same));
      }

  -- ---- what was not

  when_absent : held.prefix.kind ≡ kind.Absent → IsToldAs z held (row_of (table_of given events).rows z) head body
  when_absent absent =
      let zero = never absent in
      let none : row_of (table_of given events).rows z ≡ None = sym shown.shows ∙ none_shown held absent in
      let told : shown_by z head body ≡ None = none_told z head body (λ copy is.
      let from = of_prefix.from copy is in
      let its = tell.some from.0 copy from.1 in
      let low = (most from.0).0 in
      let z0 = zero.0 in
      let version : (effects from.0).prefix.pver ≡ held.prefix.pver = omega (arith, low, z0) in
      ap (λ (c : Replica). c.prefix.kind) its ∙ ap (λ (p : Prefix). p.kind) (same_prefix from.0 version) ∙ absent) in
      record {
        row = ap row_told told ∙ sym (ap (numbered z) none);
        child = λ name. no_name name body refl zero.1 ∙ sym (ap (λ row. child_by row name) none);
        versions = λ one is. absurd (none-some one (sym told ∙ is));
      }
    where
      empty : (server : ℕ) (name : List ℕ) → (effects server).dver ≡ 0 → child_of (effects server).content name ≡ None
      empty server name zero = elim ((was server).1) [
        | inl had ↦ let some = had.0 in absurd (omega (arith, some, zero))
        | inr none ↦ ap (λ content. child_of content name) none.1 ∙ no_child (held_by (effects server).prefix.kind) name
      ]

      no_name : (name : List ℕ) (found : Option Replica) → body ≡ found → held.dver ≡ 0 → child_in found name ≡ None
      no_name name None is zero = refl
      no_name name (Some copy) is zero =
          let from = of_content.from copy is in
          let its = tell.some from.0 copy from.1 in
          let low = (most from.0).1 in
          ap (λ (c : Replica). child_of c.content name) its ∙ empty from.0 name (omega (arith, low, zero))

  pub told_as : IsToldAs z held (row_of (table_of given events).rows z) head body
  told_as = elim (made_or_not held.prefix.kind) [ inl absent ↦ when_absent absent | inr made ↦ when_made made ]

  -- the row's versions, whatever they are called
  pub its_versions : (row : Row) (versions : HaveVersions given events) → row_of (table_of given events).rows z ≡ Some row
      → ((versions.at events z).prefix ≡ held.prefix.pver) × ((versions.at events z).content ≡ held.dver)
  its_versions row versions is =
      let hold = versions.hold events [] (sym (append-nil events)) in
      let in_effect = hold.in_effect z row is in
      let whole : IsQuorum row.votes (λ _. true) = subst (λ (votes : Configuration). IsQuorum votes (λ _. true)) (of_votes row (shown.shows ∙ is)) every in
      let h = in_effect.head (λ _. true) whole in
      let c = in_effect.content (λ _. true) whole in
      let p = some_prefix in
      let d = some_content in
      let p1 : (effects p.0).prefix.pver ≡ held.prefix.pver = ap (λ (x : Prefix). x.pver) p.1 in
      let p2 = (hold.greatest z p.0).0 in
      let p3 = (most h.server).0 in
      let p4 = h.is.0 in
      let d1 = d.1 in
      let d2 = (hold.greatest z d.0).1 in
      let d3 = (most c.server).1 in
      let d4 = c.is.0 in
      (omega (arith, p1, p2, p3, p4), omega (arith, d1, d2, d3, d4))
    where
      of_votes : (row : Row) → row_shown held ≡ Some row → held.prefix.votes ≡ row.votes
      of_votes row is = (of_row held.prefix.kind held.prefix held.content row shown.fits is).votes

-- ---- the way

module _ (given : Opening) (events : List Event) (kept : AllKeepSides given events) (copies : Copies) (tell : (suite : ℕ) → ShowEffects given events copies suite) where
  abbrev rows : Rows
  rows = (table_of given events).rows

  same_next : (next : Option ℕ) (f g : ℕ → Option ℕ) → ((n : ℕ) → f n ≡ g n) → found_on next f ≡ found_on next g
  same_next None f g same = refl
  same_next (Some n) f g same = same n

  same_way : (suite : ℕ) (names : List (List ℕ)) → found copies given.servers suite names ≡ leads_to rows suite names
  same_way suite [] = refl
  same_way suite (name ∷ names) =
      ap (λ c. found_on c (λ next. found copies given.servers next names)) ((told_as given events kept copies suite (tell suite)).child name)
      ∙ same_next (child_by (row_of rows suite) name) (λ next. found copies given.servers next names) (λ next. leads_to rows next names) (λ next. same_way next names)

  same_row : (suite : Option ℕ) → row_told (shown_for copies given.servers suite) ≡ numbered_at rows suite
  same_row None = refl
  same_row (Some suite) = (told_as given events kept copies suite (tell suite)).row

  -- a row that is told is there
  row_there : (suite : ℕ) (one : Shown) (told : Option Shown) (row : Option Row) → told ≡ Some one → row_told told ≡ numbered suite row → (its : Row) × (row ≡ Some its)
  row_there suite one None row is same = absurd (none-some one is)
  row_there suite one (Some other) None is same = absurd (none-some (row_in other) (sym same))
  row_there suite one (Some other) (Some row) is same = (row, refl)

  same_versions : (suite : Option ℕ) (one : Shown) (versions : HaveVersions given events) → shown_for copies given.servers suite ≡ Some one
      → ((versions.at events one.suite).prefix ≡ one.prefix.pver) × ((versions.at events one.suite).content ≡ one.dver)
  same_versions None one versions is = absurd (none-some one is)
  same_versions (Some suite) one versions is =
      let told = told_as given events kept copies suite (tell suite) in
      let its = told.versions one is in
      let row = row_there suite one (shown_for copies given.servers (Some suite)) (row_of rows suite) is told.row in
      let at = its_versions given events kept copies suite (tell suite) row.0 versions row.1 in (
        ap (λ n. (versions.at events n).prefix) its.0 ∙ at.0 ∙ sym its.1,
        ap (λ n. (versions.at events n).content) its.0 ∙ at.1 ∙ sym its.2,
      )

  same_at : (names : Option (List (List ℕ))) → found_at copies given.servers names ≡ leads_at rows names
  same_at None = refl
  same_at (Some names) = same_way root names

  pub is_the_row : (text : List ℕ) → IsTheRow given events text (shown_at copies given.servers text)
  is_the_row text =
      let same = ap (shown_for copies given.servers) (same_at (names_of text)) in
      record {
        row = ap row_told same ∙ same_row (leads_at rows (names_of text));
        versions = λ one versions is. same_versions (leads_at rows (names_of text)) one versions (sym same ∙ is);
      }
