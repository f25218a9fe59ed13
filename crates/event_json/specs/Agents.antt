-- What agents do, and what they gathered of suites, as JSON has it.
use Rattle.std.specs.Prelude.{ℕ, zero, suc, if◌then◌else◌, List, [], ◌++◌, codes, is_some, Option, Some, None}
use Rattle.suite_prefix.specs.declared.copies.Prefix.{Prefix}
use Rattle.suite_collect.specs.Telling.{newest}
use Rattle.txn_core.specs.declared.stage.Stage.{Stage}
use Rattle.txn_core.specs.declared.stage.Stage.TheVariants as stage
use Rattle.txn_core.specs.Suites.{ReadPoint, GatheredSuite, Suites, holds_exclusively, holds_lock}
use Rattle.event_json.specs.Copies.{votes_member}
use Rattle.event_json.specs.Locks.{mode_text}
use Rattle.event_json.specs.Strings.{listed, member, truth}

-- how far a job is, in a word
abbrev pub stage_word : Stage → List ℕ
stage_word stage.Idle = codes "idle"
stage_word stage.Gathering = codes "gathering"
stage_word stage.Fetching = codes "fetching"
stage_word stage.Widening = codes "widening"
stage_word stage.Preparing = codes "preparing"
stage_word stage.Deciding = codes "deciding"
stage_word stage.Finishing = codes "finishing"
stage_word stage.Listing = codes "listing"
stage_word stage.Resolving = codes "resolving"
stage_word stage.Telling = codes "telling"
stage_word stage.Breaking = codes "breaking"

-- ---- what was gathered of a suite

-- the newest prefix that was shown: its version and its votes
abbrev pub newest_text : Prefix → List ℕ
newest_text prefix = member (codes ",\"newest\":") prefix.pver ++ votes_member prefix.votes

-- which lock a server holds: x an exclusive one, s a shared one, - none
abbrev pub held_letter : GatheredSuite → ℕ → List ℕ
held_letter suite server =
    if holds_exclusively suite server then codes "x"
    else if holds_lock suite server then codes "s"
    else codes "-"

-- a letter for each of so many servers
abbrev pub held_letters : GatheredSuite → ℕ → List ℕ
held_letters suite zero = []
held_letters suite (suc count) = held_letters suite count ++ held_letter suite count

abbrev pub held_text : GatheredSuite → ℕ → List ℕ
held_text suite servers = codes ",\"held\":\"" ++ held_letters suite servers ++ codes "\""

-- what its first quorum gave: the versions of prefix and content, and which server showed the latter
abbrev pub first_text : Option ReadPoint → List ℕ
first_text None = []
first_text (Some point) =
    member (codes ",\"prefix\":") point.prefix.pver ++ member (codes ",\"content\":") point.dver ++ member (codes ",\"source\":") point.source

-- and whether its content is there
abbrev pub known_text : GatheredSuite → List ℕ
known_text suite = first_text suite.first ++ codes ",\"open\":" ++ truth (is_some suite.content) ++ codes "}"

abbrev pub told_text : GatheredSuite → ℕ → List ℕ
told_text suite servers = mode_text suite.collector.mode ++ newest_text (newest suite.collector.start suite.collector.told) ++ held_text suite servers

abbrev pub suite_text : ℕ → ℕ × GatheredSuite → List ℕ
suite_text servers one = member (codes "{\"suite\":") one.0 ++ told_text one.1 servers ++ known_text one.1

abbrev pub suites_text : ℕ → Suites → List ℕ
suites_text servers suites = codes "[" ++ listed (suite_text servers) suites ++ codes "]"
