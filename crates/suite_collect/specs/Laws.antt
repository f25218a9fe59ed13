-- What holds of every collector, whatever it was told.
use Rattle.std.specs.Prelude.{◌≡◌, ℕ, ◌+◌, ◌*◌, ◌<◌, ◌≤◌, ◌==◌, ◌⊎◌, Bool, true, false, List, [], ◌∷◌, length, Option, Some, None, IsSome, Contains}
use Rattle.std.specs.List.{list_any, list_all}
use Rattle.vote_core.specs.Quorums.{Representative, Configuration, votes_in, votes_at}
use Rattle.vote_core.specs.Validity.{IsValid}
use Rattle.suite_prefix.specs.declared.copies.Prefix.{Prefix}
use Rattle.suite_prefix.specs.declared.lock_mode.LockMode.{LockMode}
use Rattle.suite_prefix.specs.declared.lock_mode.LockMode.TheVariants.{Exclusive}
use Rattle.suite_prefix.specs.LockModes.{is_exclusive}
use Rattle.rep_core.specs.declared.reply.Reply.{Reply}
use Rattle.suite_collect.specs.declared.told.Said.TheVariants.{Held}
use Rattle.suite_collect.specs.declared.told.Told.{Told}
use Rattle.suite_collect.specs.Telling.{newest, has_told, holds, has_refused, greatest, is_down, is_busy_with}
use Rattle.suite_collect.specs.Collecting.{Collector, Widening, needed_of, all_told, counted, wanted, is_member, version, source, Asked, Current, Ask, Short, Poll, Upgrade, next, collect, raise, widen, tell, told_by}

-- the test of a list of servers
abbrev pub among : List ℕ → ℕ → Bool
among servers server = list_any (λ one. one == server) servers

-- ---- Current

-- the prefix is one that a held copy showed
abbrev pub WasShown : List Told → Prefix → Type 0
WasShown told prefix = (one : Told) × (dver : ℕ) × Contains told one × (one.said ≡ Held prefix dver)

-- each of some servers has a vote of its own
abbrev pub EachHasAVote : Configuration → List ℕ → Type 0
EachHasAVote votes servers = (server : ℕ) → among servers server ≡ true → 0 < votes_at votes.reps server

-- Before a widening: the prefix that is given is the start or was shown, and no older than the start or any that was shown. The members that
-- are given have a quorum's votes under it, each has a vote and holds what is wanted, and the version of the content is the greatest that
-- they showed.
pub record IsCurrent (c : Collector) (prefix : Prefix) (dver : ℕ) (members : List ℕ) : Type 0 where
  pub known : (prefix ≡ c.start) ⊎ WasShown c.told prefix
  pub not_older : c.start.pver ≤ prefix.pver
  pub voting : EachHasAVote prefix.votes members
  pub quorum : needed_of c.mode prefix.votes ≤ votes_in prefix.votes.reps (among members)
  pub held : (server : ℕ) → among members server ≡ true → holds c.mode c.told server ≡ true
  pub newest : (one : Told) (other : Prefix) (dver : ℕ) → Contains c.told one → one.said ≡ Held other dver → other.pver ≤ prefix.pver
  pub latest : dver ≡ greatest c.told members

abbrev pub CurrentIsAQuorum : Type 0
CurrentIsAQuorum = (c : Collector) (prefix : Prefix) (dver : ℕ) (members : List ℕ) → c.widening ≡ None → next c ≡ Current prefix dver members → IsCurrent c prefix dver members

-- one of them showed that version, so that there is a source of the content; the votes of what is collected are always valid
abbrev pub HasSource : Collector → Type 0
HasSource c = (prefix : Prefix) (dver : ℕ) (members : List ℕ) → c.widening ≡ None → next c ≡ Current prefix dver members → IsSome (source c)

abbrev pub CurrentHasASource : Type 0
CurrentHasASource = (c : Collector) → IsValid (newest c.start c.told).votes → HasSource c

-- After it: they have a write quorum's votes of those that were given, and each has a vote and holds an exclusive lock.
pub record IsWidened (c : Collector) (votes : Configuration) (members : List ℕ) : Type 0 where
  pub voting : EachHasAVote votes members
  pub quorum : votes.w ≤ votes_in votes.reps (among members)
  pub held : (server : ℕ) → among members server ≡ true → holds Exclusive (all_told c) server ≡ true

abbrev pub WidenedIsAWriteQuorum : Type 0
WidenedIsAWriteQuorum =
    (c : Collector) (widening : Widening) (prefix : Prefix) (dver : ℕ) (members : List ℕ) → c.widening ≡ Some widening → next c ≡ Current prefix dver members
    → IsWidened c widening.votes members

-- ---- Short

-- The votes that are told are those of the members that are held, fewer than are needed. Each voting member of the votes that count is held
-- or was found busy or down. Where no busy one is told, all others are down; one that is told was met.
pub record IsShort (c : Collector) (got needed : ℕ) (busy : Option (ℕ × ℕ)) : Type 0 where
  pub votes : got ≡ votes_in (counted c).reps (is_member c)
  pub threshold : needed ≡ needed_of (wanted c) (counted c)
  pub too_few : got < needed
  pub none_left : (rep : Representative) → Contains (counted c).reps rep → 0 < rep.1 → (is_member c rep.0 ≡ true) ⊎ (has_refused (all_told c) rep.0 ≡ true)
  pub all_down : busy ≡ None → (server : ℕ) → has_refused (all_told c) server ≡ true → has_told (λ one. is_down one.said) (all_told c) server ≡ true
  pub busy_met : (server holder : ℕ) → busy ≡ Some (server, holder) → has_told (λ one. is_busy_with holder one.said) (all_told c) server ≡ true

abbrev pub ShortHasNoneLeft : Type 0
ShortHasNoneLeft = (c : Collector) (got needed : ℕ) (busy : Option (ℕ × ℕ)) → next c ≡ Short got needed busy → IsShort c got needed busy

-- ---- Ask

-- no server is polled that ever said anything, and none is asked to raise a lock that was asked for an exclusive one
abbrev pub NobodyIsAskedTwice : Type 0
NobodyIsAskedTwice =
    (c : Collector) (server : ℕ)
    → ((mode : LockMode) → next c ≡ Ask server (Poll mode) → has_told (λ _. true) (all_told c) server ≡ false)
    × (next c ≡ Ask server Upgrade → has_told (λ one. is_exclusive one.mode) (all_told c) server ≡ false)

-- what is done with a collector; a reply that does not answer what was asked changes nothing
pub data Step : Type 0 where
  Raise : Step
  Widen : Configuration → Step
  Take : Reply → Step

abbrev pub told_or : Option Told → Collector → Collector
told_or (Some one) c = tell one c
told_or None c = c

abbrev pub after_step : Collector → Step → Collector
after_step c Raise = raise c
after_step c (Widen votes) = widen votes c
after_step c (Take reply) = told_or (told_by (next c) reply) c

-- a collector after all this, the oldest first
abbrev pub after_all : Collector → List Step → Collector
after_all c [] = c
after_all c (step ∷ steps) = after_all (after_step c step) steps

-- However it is raised and widened: where it asks, and these are all servers that it asked, now and before, it asks at most twice as
-- often as there are of them.
abbrev pub AsksAreFew : Type 0
AsksAreFew =
    (mode : LockMode) (start : Prefix) (steps : List Step) (server : ℕ) (asked : Asked) (servers : List ℕ) →
    let c = after_all (collect mode start) steps in
    next c ≡ Ask server asked → among servers server ≡ true → list_all (λ one. among servers one.server) (all_told c) ≡ true → 1 + length (all_told c) ≤ 2 * length servers

-- ---- prefix and version after a widening

-- the newest prefix, the version of the content and its first source are as they were, and so is what a Current gives
pub record IsKept (before after : Collector) : Type 0 where
  pub same_prefix : newest after.start after.told ≡ newest before.start before.told
  pub same_version : version after ≡ version before
  pub same_source : source after ≡ source before
  pub current : (prefix : Prefix) (dver : ℕ) (members : List ℕ) → next after ≡ Current prefix dver members → (prefix ≡ newest before.start before.told) × (dver ≡ version before)

-- once it is widened, whatever it is told, raised and widened later
abbrev pub PrefixAndVersionStay : Type 0
PrefixAndVersionStay = (c : Collector) (votes : Configuration) (steps : List Step) → IsKept c (after_all (widen votes c) steps)
