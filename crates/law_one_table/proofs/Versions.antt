-- The versions of the table's rows are those of the registers: what follows of copies in effect and of caches.
use Rattle.law_one_table.proofs.Vocabulary.{Configuration, Content, Opening, absent_prefix, Prefix, PrefixKind, Replica, Row, head, row_with, Actor, actor_at, Beginning, row, prefix_at, content_at, WasPrefix, WasContent, GoesWith, WasCopy, World}
use Rattle.law_one_table.proofs.Vocabulary.{IsQuorum, effect, beginning, machine_of, register, AllKeepSides, copy_at, HasOne, HasHead}
use Rattle.std.proofs.Common.{◌≡◌, inl, inr, ℕ, ◌<◌, ◌≤◌, Bool, List, ◌++◌, Some, None, refl, sym, ap, subst, ◌∙◌, arith, Contains}
use Rattle.law_suite_machine.proofs.Rows.{Logged, none_or_some}
use Rattle.law_run_knowledge.proofs.Events.{knowledge_was}
use Rattle.law_one_table.specs.Versions.{row_at, RowVersions, content_of, Rise, HadRow, PrefixWas, ContentWas, CopyWas, EntryWas, HoldAt, RowsHaveVersions}
use Rattle.weak_cache.specs.Entries.{Entry}
use Rattle.run_core.specs.declared.event.Event.{Event}
use Rattle.run_core.specs.Runs.{run}
use Rattle.suite_prefix.specs.declared.copies.PrefixKind.TheVariants as kind
use Rattle.law_suite_machine.specs.Registers as registers
use Rattle.law_run_knowledge.specs.Knowledge as knowledge
use Rattle.law_one_table.proofs.Shown.{FitsAs, NeverAs, IsShown}
use Rattle.law_one_table.proofs.Running.{earlier, all_shown}
use Rattle.law_one_table.proofs.Effects.{IsOfRow, of_row, has_head, in_effect, greatest, newer, inv, effect_at, goes_on}
use Rattle.law_one_table.proofs.Had.{Found, strict, had_all}

-- ---- what a register shows

-- all of a row but the content is a prefix's
head_of : (k : PrefixKind) (prefix : Prefix) (content : Content) → FitsAs k content → head (row_with k prefix (Some content)) ≡ row_with k prefix None
head_of k prefix content h3 = search arith

-- a row that is there has its content
content_is : (k : PrefixKind) (prefix : Prefix) (content : Content) → (k ≡ kind.Absent → ⊥) → content_of (row_with k prefix (Some content)) ≡ Some content
content_is k prefix content h3 = search arith

is_there : (k : PrefixKind) (prefix : Prefix) (content : Content) → (k ≡ kind.Absent → ⊥) → (row : Row) × (row_with k prefix (Some content) ≡ Some row)
is_there kind.Absent prefix content there = absurd (there refl)
is_there _ prefix content there = (record { owner = prefix.owner; group = prefix.group; acl = prefix.acl; votes = prefix.votes; content = content }, refl)

no_row : (k : PrefixKind) (prefix : Prefix) (content : Content) (pver dver : ℕ) → NeverAs k pver dver → row_with k prefix (Some content) ≡ None → (pver ≡ 0) × (dver ≡ 0)
no_row k prefix content pver dver h5 h6 = search arith

-- what is at a version above 0 was made
made_at : (k : PrefixKind) (pver dver : ℕ) → NeverAs k pver dver → k ≡ kind.Absent → (pver ≡ 0) × (dver ≡ 0)
made_at k pver dver h3 h4 = search arith

-- what is at content version 0 was not
never_made : (k : PrefixKind) (prefix : Prefix) (content : Content) → k ≡ kind.Absent → content_of (row_with k prefix (Some content)) ≡ None
never_made k prefix content h3 = search arith

-- ---- the versions

-- those of the register
abbrev pub versions_of : Opening → RowVersions
versions_of given events z = record { prefix = (register given z events).prefix.pver; content = (register given z events).dver }

module _ (given : Opening) (events : List Event) (kept : AllKeepSides given events) (z : ℕ) where
  abbrev held : Replica
  held = register given z events

  abbrev start : Beginning
  start = beginning z given

  abbrev w : World
  w = machine_of given z events

  shown : IsShown held (row_at given events z)
  shown = all_shown given events kept z

  logged : Logged start w.log
  logged = (inv given events kept z).logged

  pub of : (row : Row) → row_at given events z ≡ Some row → IsOfRow held.prefix.kind held.prefix held.content row
  of row is = of_row held.prefix.kind held.prefix held.content row shown.fits (shown.shows ∙ is)

  pub none : row_at given events z ≡ None → (held.prefix.pver ≡ 0) × (held.dver ≡ 0)
  none is = no_row held.prefix.kind held.prefix held.content held.prefix.pver held.dver shown.never (shown.shows ∙ is)

  -- what is at a version above 0 was made
  by_prefix : 0 < held.prefix.pver → held.prefix.kind ≡ kind.Absent → ⊥
  by_prefix some is = let zero = (made_at held.prefix.kind held.prefix.pver held.dver shown.never is).0 in omega arith

  by_content : 0 < held.dver → held.prefix.kind ≡ kind.Absent → ⊥
  by_content some is = let zero = (made_at held.prefix.kind held.prefix.pver held.dver shown.never is).1 in omega arith

  -- and what is at content version 0 was not
  unmade : held.dver ≡ 0 → held.prefix.kind ≡ kind.Absent
  unmade zero = sym (logged.kind zero 0) ∙ ap (λ (prefix : Prefix). prefix.kind) logged.never.1

  pub head_is : head (row_at given events z) ≡ row_with held.prefix.kind held.prefix None
  head_is = ap head (sym shown.shows) ∙ head_of held.prefix.kind held.prefix held.content shown.fits

  pub some_content : 0 < held.dver → content_of (row_at given events z) ≡ Some held.content
  some_content some = ap content_of (sym shown.shows) ∙ content_is held.prefix.kind held.prefix held.content (by_content some)

  pub no_content : held.dver ≡ 0 → content_of (row_at given events z) ≡ None
  no_content zero = ap content_of (sym shown.shows) ∙ never_made held.prefix.kind held.prefix held.content (unmade zero)

  -- the row, where it was made
  pub made_row : (held.prefix.kind ≡ kind.Absent → ⊥) → (row : Row) × (row_at given events z ≡ Some row)
  made_row there = let one = is_there held.prefix.kind held.prefix held.content there in (one.0, sym shown.shows ∙ one.1)

  pub own_prefix : WasPrefix start w.log held.prefix
  own_prefix = logged.own.0

  pub own_content : 0 < held.dver → WasContent start w.log held.dver held.content
  own_content some = elim (logged.own.1) [ inl was ↦ was | inr zero ↦ let e = zero.0 in absurd (omega arith) ]

-- ---- they rise

module _ (given : Opening) (events later : List Event) (kept : AllKeepSides given (events ++ later)) (z : ℕ) where
  abbrev first : AllKeepSides given events
  first = earlier given events later kept

  abbrev old : Replica
  old = register given z events

  abbrev new : Replica
  new = register given z (events ++ later)

  pub still_prefix : WasPrefix (beginning z given) (machine_of given z (events ++ later)).log old.prefix
  still_prefix = (goes_on given events later kept z).prefixes old.prefix (own_prefix given events first z)

  still_content : 0 < old.dver → WasContent (beginning z given) (machine_of given z (events ++ later)).log old.dver old.content
  still_content some = (goes_on given events later kept z).contents old.dver old.content (own_content given events first z some)

  same_prefix : old.prefix.pver ≡ new.prefix.pver → old.prefix ≡ new.prefix
  same_prefix is = sym still_prefix.1 ∙ ap (prefix_at (beginning z given) (machine_of given z (events ++ later)).log) is ∙ (own_prefix given (events ++ later) kept z).1

  same_head : old.prefix.pver ≡ new.prefix.pver → head (row_at given events z) ≡ head (row_at given (events ++ later) z)
  same_head is = head_is given events first z ∙ ap (λ (prefix : Prefix). row_with prefix.kind prefix None) (same_prefix is) ∙ sym (head_is given (events ++ later) kept z)

  same_content : old.dver ≡ new.dver → content_of (row_at given events z) ≡ content_of (row_at given (events ++ later) z)
  same_content is = elim (none_or_some old.dver) [
    | inl zero ↦ no_content given events first z zero ∙ sym (no_content given (events ++ later) kept z (sym is ∙ zero))
    | inr some ↦
        let more : 0 < new.dver = subst (λ d. 0 < d) is some in
        some_content given events first z some
        ∙ ap Some (sym (still_content some).2 ∙ ap (content_at (beginning z given) (machine_of given z (events ++ later)).log) is ∙ (own_content given (events ++ later) kept z more).2)
        ∙ sym (some_content given (events ++ later) kept z more)
  ]

  most_content : old.dver ≤ new.dver
  most_content = elim (none_or_some old.dver) [ inl zero ↦ omega arith | inr some ↦ (still_content some).1 ]

  pub rise : Rise given (versions_of given) z events (events ++ later)
  rise = record {
    prefix = still_prefix.0;
    content = most_content;
    other_head = λ differs. strict old.prefix.pver new.prefix.pver still_prefix.0 (λ is. differs (same_head is));
    other_content = λ differs. strict old.dver new.dver most_content (λ is. differs (same_content is));
  }

  pub replaced : (row : Row) (set : ℕ → Bool) → row_at given events z ≡ Some row → old.prefix.pver < new.prefix.pver → IsQuorum row.votes set
      → HasOne given (events ++ later) z set (λ copy. old.prefix.pver < copy.prefix.pver)
  replaced row set is less quorum =
      newer given (events ++ later) kept z old.prefix.pver old.prefix set less still_prefix.1
      (subst (λ (votes : Configuration). IsQuorum votes set) (sym (of given events first z row is).votes) quorum)

-- ---- what copies and caches have was the table's

module _ (given : Opening) (events : List Event) (kept : AllKeepSides given events) (z : ℕ) where
  abbrev log : List registers.Entry
  log = (machine_of given z events).log

  then : (before later : List Event) → events ≡ before ++ later → AllKeepSides given before
  then before later parts = earlier given before later (subst (AllKeepSides given) parts kept)

  had_prefix : (prefix : Prefix) → WasPrefix (beginning z given) log prefix → Found given z events (λ held. (held.prefix.pver ≡ prefix.pver) × (held.prefix ≡ prefix_at (beginning z given) log prefix.pver)) → 0 < prefix.pver
      → HadRow given events z (λ before row. ((versions_of given before z).prefix ≡ prefix.pver) × HasHead row prefix)
  had_prefix prefix was found some =
      let at = then found.before found.later found.parts in
      let one = made_row given found.before at z (by_prefix given found.before at z (subst (λ p. 0 < p) (sym found.is.0) some)) in
      record {
        before = found.before;
        later = found.later;
        parts = found.parts;
        row = one.0;
        there = one.1;
        is = (
          found.is.0,
          has_head (register given z found.before).prefix (register given z found.before).content one.0 prefix (of given found.before at z one.0 one.1) (sym (found.is.1 ∙ was.1)),
        );
      }

  had_content : (d : ℕ) (content : Content) → WasContent (beginning z given) log d content → Found given z events (λ held. (held.dver ≡ d) × (held.content ≡ content_at (beginning z given) log d))
      → HadRow given events z (λ before row. ((versions_of given before z).content ≡ d) × (row.content ≡ content))
  had_content d content was found =
      let at = then found.before found.later found.parts in
      let one = made_row given found.before at z (by_content given found.before at z (subst (λ d. 0 < d) (sym found.is.0) was.0)) in
      record {
        before = found.before;
        later = found.later;
        parts = found.parts;
        row = one.0;
        there = one.1;
        is = (found.is.0, sym (of given found.before at z one.0 one.1).content_is ∙ found.is.1 ∙ was.2);
      }

  pub prefix_was : (prefix : Prefix) → WasPrefix (beginning z given) log prefix → PrefixWas given (versions_of given) events z prefix
  prefix_was prefix was = record {
    never = λ zero. sym was.1 ∙ ap (prefix_at (beginning z given) log) zero ∙ (logged given events kept z).never.1;
    had = λ some. had_prefix prefix was ((had_all given z events kept).prefix prefix.pver some was.0) some;
  }

  pub content_was : (d : ℕ) (content : Content) → (0 < d → WasContent (beginning z given) log d content) → ContentWas given (versions_of given) events z d content
  content_was d content was = λ some. had_content d content (was some) ((had_all given z events kept).content d some (was some).1)

  goes : (prefix : Prefix) (d : ℕ) (content : Content) → GoesWith (beginning z given) log prefix d content → 0 < d → WasContent (beginning z given) log d content
  goes prefix d content h3 h4 = search arith

  empty : (prefix : Prefix) (d : ℕ) (content : Content) → GoesWith (beginning z given) log prefix d content → d ≡ 0 → content ≡ registers.empty_of prefix
  empty prefix d content h3 h4 = search arith

  copy_was : (copy : Replica) → WasCopy (beginning z given) log copy → CopyWas given (versions_of given) events z copy
  copy_was copy was = search (prefix_was, content_was, goes, empty, arith)

  pub copies_were : (server : ℕ) → CopyWas given (versions_of given) events z (copy_at given events z server)
  copies_were server = subst (CopyWas given (versions_of given) events z) (effect_at given events kept z server) (copy_was (effect (machine_of given z events) server) ((inv given events kept z).current.were server))

  -- every quorum of the first votes, once the suite was made
  pub made : (set : ℕ → Bool) → 0 < (register given z events).prefix.pver → IsQuorum given.c0 set → HasOne given events z set (λ copy. 0 < copy.prefix.pver)
  made set some quorum = newer given events kept z 0 (absent_prefix given.c0) set some (logged given events kept z).never.1 quorum

entry_was : (given : Opening) (events : List Event) → AllKeepSides given events → (number : ℕ) (actor : Actor) (entry : Entry) → actor_at (run given events) number ≡ Some actor → Contains actor.agent.cache entry
    → EntryWas given (versions_of given) events entry
entry_was given events kept number actor entry there inside =
    let was : knowledge.EntryWas (beginning entry.suite given) (machine_of given entry.suite events).log entry =
    (knowledge_was given entry.suite events kept.valid (kept.keep entry.suite) number actor there).cache entry inside refl in
    record {
      prefix = prefix_was given events kept entry.suite entry.prefix was.prefix;
      content = content_was given events kept entry.suite entry.dver entry.content was.content;
    }

-- ---- at each moment

pub hold_at : (given : Opening) (events : List Event) → AllKeepSides given events → HoldAt given (versions_of given) events
hold_at given events kept = record {
  none = λ z is. none given events kept z is;
  in_effect = λ z row is. in_effect given events kept z row (of given events kept z row is);
  greatest = λ z server. greatest given events kept z server;
  copies = λ z server. copies_were given events kept z server;
  caches = entry_was given events kept;
  rise = λ before later z parts. subst (Rise given (versions_of given) z before) (sym parts) (rise given before later (subst (AllKeepSides given) parts kept) z);
  replaced = λ before later z row set parts is less quorum.
      subst (λ all. HasOne given all z set (λ copy. (register given z before).prefix.pver < copy.prefix.pver)) (sym parts)
      (replaced given before later (subst (AllKeepSides given) parts kept) z row set is (subst (λ all. (register given z before).prefix.pver < (register given z all).prefix.pver) parts less) quorum);
  made = λ z set some quorum. made given events kept z set some quorum;
}

pub rows_have_versions : RowsHaveVersions
rows_have_versions given events kept = record {
  at = versions_of given;
  hold = λ before later parts. hold_at given before (earlier given before later (subst (AllKeepSides given) parts kept));
}
