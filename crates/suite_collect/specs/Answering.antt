-- What a `Next` tells of a collector, and what comes of a reply.
use Rattle.std.specs.Prelude.{◌≡◌, ℕ, ◌<◌, ◌==◌, List, Bool, true, false, find, unwrap_or, Option, Some, None}
use Rattle.vote_core.specs.declared.TheConstants.{MAX_SERVERS}
use Rattle.suite_prefix.specs.declared.copies.Prefix.{Prefix}
use Rattle.rep_core.specs.declared.reply.Reply.{Reply}
use Rattle.rep_core.specs.declared.reply.Reply.TheVariants as reply
use Rattle.suite_collect.specs.declared.told.Told.{Told}
use Rattle.suite_collect.specs.declared.coming.Asked.{Asked}
use Rattle.suite_collect.specs.declared.coming.Asked.TheVariants as asked
use Rattle.suite_collect.specs.declared.coming.Coming.{Coming}
use Rattle.suite_collect.specs.declared.coming.Coming.TheVariants as coming
use Rattle.suite_collect.specs.declared.hearing.Hearing.{Hearing}
use Rattle.suite_collect.specs.declared.hearing.Hearing.TheVariants as hearing
use Rattle.suite_collect.specs.declared.read_point.ReadPoint.{ReadPoint}
use Rattle.suite_collect.specs.declared.next.Next.{Next}
use Rattle.suite_collect.specs.declared.next.Next.TheVariants.{Current, Ask, Short}
use Rattle.suite_collect.specs.Collecting as spec
use Rattle.suite_collect.specs.Collecting.{Collector, Collecting, counted, is_member, members_of, version, next, tell, told_by, request_for}
use Rattle.suite_collect.specs.Telling.{newest, shown}

-- it is what comes next, with the request in its words
abbrev pub Tells : Next → Collecting → Type 0
Tells (Current prefix dver members) c = next c.collector ≡ spec.Current prefix.now dver members.items
Tells (Ask server request) c = (asked : spec.Asked) × (next c.collector ≡ spec.Ask server asked) × (request ≡ request_for c.t c.suite asked)
Tells (Short got needed busy) c = next c.collector ≡ spec.Short got needed busy

-- a `Coming` leaves out what a quorum gives
abbrev pub asked_in : Asked → spec.Asked
asked_in (asked.Poll mode) = spec.Poll mode
asked_in asked.Upgrade = spec.Upgrade

abbrev pub Comes : Coming → spec.Next → Type 0
Comes coming.Current next = (prefix : Prefix) × (dver : ℕ) × (members : List ℕ) × (next ≡ spec.Current prefix dver members)
Comes (coming.Ask server asked) next = next ≡ spec.Ask server (asked_in asked)
Comes (coming.Short got needed busy) next = next ≡ spec.Short got needed busy

-- whether a reply shows a lock that is held
abbrev pub shows_lock : Reply → Bool
shows_lock (reply.Held prefix dver) = true
shows_lock other = false

-- a server is asked; nobody is left to ask
abbrev pub IsAsk : spec.Next → Type 0
IsAsk next = (server : ℕ) × (asked : spec.Asked) × (next ≡ spec.Ask server asked)

abbrev pub IsShort : spec.Next → Type 0
IsShort next = (got : ℕ) × (needed : ℕ) × (busy : Option (ℕ × ℕ)) × (next ≡ spec.Short got needed busy)

-- whether there is a quorum
abbrev pub has_quorum : spec.Next → Bool
has_quorum (spec.Current prefix dver members) = true
has_quorum other = false

-- ---- what comes of a reply

-- the reply answers what was asked, and the collector was told what it says
pub record IsTold (before : Collecting) (reply : Reply) (after : Collecting) : Type 0 where
  pub last : Told
  pub told : told_by (next before.collector) reply ≡ Some last
  pub new : after ≡ record before { collector = tell last before.collector }

-- or with what it says there is a quorum, and the collector is as it was
pub record Completes (last : Told) (before : Collecting) (reply : Reply) (after : Collecting) : Type 0 where
  pub told : told_by (next before.collector) reply ≡ Some last
  pub known : last.server < MAX_SERVERS
  pub lock : shows_lock reply ≡ true
  pub quorum : has_quorum (next (tell last before.collector)) ≡ true
  pub same : after ≡ before

abbrev pub Hears : Hearing → Collecting → Reply → Collecting → Type 0
Hears hearing.Lost before reply after = (told_by (next before.collector) reply ≡ None) × (after ≡ before)
Hears hearing.Asks before reply after = IsTold before reply after × IsAsk (next after.collector)
Hears hearing.Short before reply after = IsTold before reply after × IsShort (next after.collector)
Hears (hearing.Quorum last) before reply after = Completes last before reply after

-- what a quorum gives, where there is one: its source is the first member that showed the version, and 0, where none did
abbrev pub read_point : Collector → ReadPoint
read_point c = record {
  prefix = newest c.start c.told;
  dver = version c;
  source = unwrap_or (find (λ server. shown c.told server == version c) (members_of (counted c) (is_member c))) 0;
}
