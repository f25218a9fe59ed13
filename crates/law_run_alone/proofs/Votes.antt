-- All votes that a transaction goes by are valid: those of what it was told, of the hints of its agent's cache, and those that it sets.
use Rattle.law_run_alone.proofs.Vocabulary.{unwrap_or, nat_cmp, is_eq, eqb-true, none-some, same_Some, insert, Configuration, IsValid, Opening, Prefix, absent_prefix, Answer, Row, Edit, SetAcl, SetVotes, SetContent, arith, Make, touches, some}
use Rattle.law_run_alone.proofs.Vocabulary.{sets_votes, changes_at, with_change, Edits, Ended, changed, seen, Known, Done, known_rows, exec_of, State, copy_of, Has, has_from, has_map, has_filter, Said, newest, newer, Cache, known_of, change_of}
use Rattle.law_run_alone.proofs.Vocabulary.{Fixed, Task, start_from, to_widen, SetsVotes, Job, Agent, Event, Actor, server_at, actor_at, run, beginning, machine_of, server_there, valid_was, CanBe, JobGivesValidVotes, AllGiveValidVotes, knowledge_was}
use Rattle.law_run_alone.proofs.Vocabulary.{FitsRow, AllFit, edits_fit, holds_after}
use Rattle.file_exec.proofs.Leading.{changes_by_suite}
use Rattle.std.specs.Cmp.{unsigned_tied}
use Rattle.file_exec.specs.declared.changes.Change.{Change}
use Rattle.weak_cache.specs.Cache.{hint}
use Rattle.weak_cache.proofs.Origins.{entries_come_from_puts}
use Rattle.std.proofs.Common.{◌≡◌, ⊎_elim, ℕ, Bool, true, false, cond, List, [], ◌∷◌, Option, Some, None, Ok, refl, sym, ap, subst, ◌∙◌, Equal, ◌==◌, ◌&&◌, ◌||◌, Contains, option_map, filter}
use Rattle.suite_collect.specs.declared.told.Told.{Told}
use Rattle.weak_cache.specs.Entries.{Entry}
use Rattle.txn_core.specs.Laws.{task_of}
use Rattle.file_exec.specs.Changes as changes
use Rattle.suite_collect.specs.declared.told.Said.TheVariants as told
use Rattle.txn_core.specs.Agents as agents

-- ---- copies and caches of a run

-- the votes of a copy that a server has
pub copy_valid : (given : Opening) (events : List Event) → CanBe given events → (s : ℕ) (st : State) → server_at (run given events) s ≡ Some st → (suite : ℕ) → IsValid (copy_of st.store suite).prefix.votes
copy_valid given events can s st at suite = search (holds_after given events can suite, server_there given (run given events) s st, valid_was, arith)

-- the votes that a cache hints
abbrev pub HasValidVotes : Cache → Type 0
HasValidVotes cache = (entry : Entry) → Contains cache entry → IsValid entry.prefix.votes

pub cache_valid : (given : Opening) (events : List Event) → CanBe given events → (i : ℕ) (actor : Actor) → actor_at (run given events) i ≡ Some actor → HasValidVotes actor.agent.cache
cache_valid given events can i actor is entry there =
    let z = entry.suite in
    valid_was (beginning z given) (machine_of given z events) entry.prefix (holds_after given events can z).inv ((knowledge_was given events can z i actor is).cache entry there refl).prefix

-- so those from which a suite is gathered
pub start_valid : (fixed : Fixed) (task : Task) (cache : Cache) (suite : ℕ) → IsValid fixed.service.c0 → HasValidVotes cache → IsValid (start_from fixed task cache suite).votes
start_valid fixed task cache suite c0 valid = of (hint cache task.site suite) refl
  where
    of : (found : Option Prefix) → hint cache task.site suite ≡ found → IsValid (unwrap_or found (absent_prefix fixed.service.c0)).votes
    of None is = c0
    of (Some prefix) is =
        let came = entries_come_from_puts.hint cache task.site suite prefix is in
        subst (λ (prefix : Prefix). IsValid prefix.votes) came.3 (valid came.0 came.1)

-- ---- what a collector was told

abbrev pub SaysValid : Said → Type 0
SaysValid (told.Held prefix dver) = IsValid prefix.votes
SaysValid other = Unit {0}

abbrev pub AllSayValid : List Told → Type 0
AllSayValid [] = Unit {0}
AllSayValid (one ∷ all) = SaysValid one.said × AllSayValid all

newer_valid : (prefix : Prefix) (said : Said) → IsValid prefix.votes → SaysValid said → IsValid (newer prefix said).votes
newer_valid prefix said h2 h3 = search arith

pub newest_valid : (start : Prefix) (all : List Told) → IsValid start.votes → AllSayValid all → IsValid (newest start all).votes
newest_valid start [] valid says = valid
newest_valid start (one ∷ all) valid says = newer_valid (newest start all) one.said (newest_valid start all valid says.1) says.0

-- ---- what a transaction sets

-- the votes of a row, if there is one
abbrev ValidIn : Option Row → Type 0
ValidIn row = (r : Row) → row ≡ Some r → IsValid r.votes

changed_valid : (edit : Edit) (row : Option Row) → FitsRow edit row → (sets_votes edit ≡ false → ValidIn row) → ValidIn (changed edit row)
changed_valid (Make made) row fits valid r is = subst (λ (r : Row). IsValid r.votes) (same_Some made r is) fits
changed_valid (SetAcl acl) (Some row) fits valid r is = subst (λ (r : Row). IsValid r.votes) (same_Some (record row { acl = acl }) r is) (valid refl row refl)
changed_valid (SetVotes votes) (Some row) fits valid r is = subst (λ (r : Row). IsValid r.votes) (same_Some (record row { votes = votes }) r is) fits
changed_valid (SetContent content) (Some row) fits valid r is = subst (λ (r : Row). IsValid r.votes) (same_Some (record row { content = content }) r is) (valid refl row refl)
changed_valid other None fits valid r is = absurd (none-some r is)

the_other : (a b : Bool) → (a || b) ≡ true → a ≡ false → b ≡ true
the_other a b h2 h3 = search arith

-- where an edit sets them
set_valid : (rows : ℕ → Option Row) (edits : Edits) (suite : ℕ) → AllFit rows edits → some sets_votes edits suite ≡ true → ValidIn (seen edits suite (rows suite))
set_valid rows [] suite fit is = cc
set_valid rows (e ∷ edits) suite fit is =
    elim (e.0 == suite) as (λ b. (e.0 == suite) ≡ b → ((b && sets_votes e.1) || some sets_votes edits suite) ≡ true → ValidIn (cond b (changed e.1 (seen edits suite (rows suite))) (seen edits suite (rows suite)))) [
      | true ↦ λ same is.
          changed_valid e.1 (seen edits suite (rows suite)) (subst (λ suite. FitsRow e.1 (seen edits suite (rows suite))) (eqb-true e.0 suite same) fit.0)
          (λ none. set_valid rows edits suite fit.1 (the_other (sets_votes e.1) (some sets_votes edits suite) is none))
      | false ↦ λ _ is. set_valid rows edits suite fit.1 is
    ] refl is

-- each change that is listed is the one of its suite
abbrev pub IsOf : (ℕ → Option Change) → ℕ × Change → Type 0
IsOf change one = change one.0 ≡ Some one.1

pub tied : (a b : ℕ) → nat_cmp a b ≡ Equal → a ≡ b
tied a b is = eqb-true a b (sym (unsigned_tied a b) ∙ ap is_eq is)

inserted : (change : ℕ → Option Change) (all : List (ℕ × Change)) (suite : ℕ) (made : Change) → change suite ≡ Some made → ((one : ℕ × Change) → Has all one → IsOf change one)
    → (one : ℕ × Change) → Has (insert nat_cmp all suite made) one → IsOf change one
inserted change [] suite made is each one has = ⊎_elim (λ same. subst (IsOf change) same is) (λ none. absurd none) has
inserted change (e ∷ all) suite made is each one has = search (tied, inserted change all suite made is, arith)

pub listed : (change : ℕ → Option Change) (edits : Edits) (one : ℕ × Change) → Has (changes_at change edits) one → IsOf change one
listed change [] one has = absurd has
listed change (e ∷ edits) one has = of (change e.0) refl has (listed change edits)
  where
    of : (made : Option Change) → change e.0 ≡ made → Has (with_change e.0 made (changes_at change edits)) one → ((one : ℕ × Change) → Has (changes_at change edits) one → IsOf change one) → IsOf change one
    of None is has later = later one has
    of (Some made) is has later = inserted change (changes_at change edits) e.0 made is later one has

-- what edits told of a suite
record FromEdits (known : Known) (edits : Edits) (suite : ℕ) (change : Change) : Type 0 where
  row : Row
  is : seen edits suite (known_rows known suite) ≡ Some row
  row_is : row ≡ change.row
  votes_are : some sets_votes edits suite ≡ change.votes

from_edits : (known : Known) (edits : Edits) (suite : ℕ) (change : Change) → changes.change_of known edits suite ≡ Some change → FromEdits known edits suite change
from_edits known edits suite change told = search arith

touched : (b : Bool) (found : Option Change) (change : Change) → cond b found None ≡ Some change → found ≡ Some change
touched b found change h3 = search arith

module _ (fixed : Fixed) (c0 : IsValid fixed.service.c0) (before : Agent) (job : Job) (valid : JobGivesValidVotes job) (told' : List agents.Event) (suite : ℕ)
    (votes : Configuration) (sets : SetsVotes fixed before job told' suite votes) where
  abbrev known : Known
  known = known_of sets.suites

  abbrev task : Task
  task = task_of before sets.caller sets.site sets.ops

  ops_valid : AllGiveValidVotes sets.ops
  ops_valid = subst JobGivesValidVotes sets.transaction valid

  by_edits : (ended : Ended (List Answer)) → exec_of fixed.service known task.t task.caller task.ops ≡ Done (Ok ended) → changes.changes_of known ended.edits ≡ sets.changes → IsValid votes
  by_edits ended done same =
      let has : Has (to_widen (changes.changes_of known ended.edits)) suite = subst (λ all. Has (to_widen all) suite) (sym same) (has_from (to_widen sets.changes) suite sets.gets) in
      let at = has_map (λ (one : ℕ × Change). one.0) (filter (λ (one : ℕ × Change). one.1.votes) (changes.changes_of known ended.edits)) suite has in
      let in' = has_filter (λ (one : ℕ × Change). one.1.votes) (changes.changes_of known ended.edits) at.0 at.1 in
      let told : changes.change_of known ended.edits suite ≡ Some at.0.1 = ap (changes.change_of known ended.edits) (sym at.2) ∙ listed (changes.change_of known ended.edits) ended.edits at.0 in'.0 in
      of (change_of (changes.changes_of known ended.edits) suite) refl (ap (λ all. option_map (λ (change : Change). change.row.votes) (change_of all suite)) same ∙ sets.are) at.0.1 told in'.1
    where
      of : (found : Option Change) → change_of (changes.changes_of known ended.edits) suite ≡ found → option_map (λ (change : Change). change.row.votes) found ≡ Some votes
          → (other : Change) → changes.change_of known ended.edits suite ≡ Some other → other.votes ≡ true → IsValid votes
      of None is are other told voted = absurd (none-some votes are)
      of (Some change) is are other told voted =
          let own : changes.change_of known ended.edits suite ≡ Some change = touched (touches ended.edits suite) (changes.change_of known ended.edits suite) change (sym (changes_by_suite known ended.edits suite) ∙ is) in
          let from = from_edits known ended.edits suite change own in
          let same' : other ≡ change = same_Some other change (sym told ∙ own) in
          let fit = edits_fit fixed.service known task.t task.caller task.ops ended c0 ops_valid done in
          subst IsValid (ap (λ (row : Row). row.votes) from.row_is ∙ same_Some change.row.votes votes are)
          (set_valid (known_rows known) ended.edits suite fit (from.votes_are ∙ ap (λ (change : Change). change.votes) (sym same') ∙ voted) from.row from.is)

  pub set_votes_valid : IsValid votes
  set_votes_valid = search (by_edits, arith)
