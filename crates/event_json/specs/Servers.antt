-- What servers have as JSON has it.
use Rattle.std.specs.Prelude.{◌≡◌, ℕ, ◌==◌, Bool, ◌&&◌, if◌then◌else◌, List, [], ◌∷◌, ◌++◌, codes, drop, Option, Some, None}
use Rattle.std.specs.List.{filter_map, find}
use Rattle.file_ops.specs.declared.audit.AuditItem.{AuditItem}
use Rattle.suite_prefix.specs.LockModes.{is_exclusive}
use Rattle.suite_prefix.specs.declared.copies.Replica.{Replica}
use Rattle.rep_core.specs.State.{State}
use Rattle.rep_core.specs.declared.lock.Lock.{Lock}
use Rattle.rep_core.specs.declared.request.Request.{Request}
use Rattle.rep_core.specs.declared.request.Request.TheVariants as request
use Rattle.suite_script.specs.Texts.{denial_text}
use Rattle.event_json.specs.Changes.{IsChange}
use Rattle.event_json.specs.Copies.{copy_text}
use Rattle.event_json.specs.Locks.{came_text, freed_text, locks_text}
use Rattle.event_json.specs.Strings.{listed, member, truth}
use Rattle.event_json.specs.declared.servers.Before.{Before}

-- the number of a server, and whether it is up
abbrev pub up_text : ℕ → Bool → List ℕ
up_text number up = member (codes "{\"server\":") number ++ codes ",\"up\":" ++ truth up

-- a denial that a server recorded
abbrev pub item_text : AuditItem → List ℕ
item_text item =
    member (codes "{\"t\":") item.t ++ member (codes ",\"uid\":") item.uid
    ++ codes ",\"denied\":\"" ++ denial_text item.op item.denial ++ codes "\"}"

abbrev pub denials_text : List AuditItem → List ℕ
denials_text items = codes "[" ++ listed item_text items ++ codes "]"

-- a copy of a suite
abbrev pub own_text : ℕ × Replica → List ℕ
own_text own = copy_text own.0 own.1

abbrev pub copies_text : List (ℕ × Replica) → List ℕ
copies_text copies = codes ",\"copies\":[" ++ listed own_text copies ++ codes "]"

-- one text behind another
abbrev pub in_order : List ℕ → List ℕ → List ℕ → List ℕ → List ℕ → List ℕ → List ℕ → List ℕ
in_order a b c d e f g = a ++ b ++ c ++ d ++ e ++ f ++ g

-- all that a server has: its number, whether it is up, its locks, its copies, and the denials that it recorded
abbrev pub server_text : ℕ → State → List ℕ
server_text number st =
    in_order (up_text number st.up) (codes ",\"locks\":") (locks_text st.locks) (copies_text st.store.copies) (codes ",\"denials\":") (denials_text st.audit) (codes "}")

-- ---- what changed by a request

-- the transaction that a Finish ends
abbrev pub finished : Request → Option ℕ
finished (request.Poll t suite mode) = None
finished (request.Upgrade t suite) = None
finished (request.Fetch t suite) = None
finished (request.Prepare t parts) = None
finished (request.Decide t decision) = None
finished (request.Resolve t) = None
finished (request.Finish t verdict) = Some t
finished (request.Break t suite) = None
finished request.Locks = None
finished request.Crash = None
finished request.Return = None

-- the copy of the suite of a lock, where that is one of this transaction to write
abbrev pub left_by : ℕ → List (ℕ × Replica) → Lock → Option (ℕ × Replica)
left_by t copies lock = if (lock.t == t) && is_exclusive lock.mode then find (λ own. own.0 == lock.suite) copies else None

-- the member of the copies that a Finish left of what its transaction had locks to write, in the order of these locks
abbrev pub left_text : Option ℕ → List Lock → List (ℕ × Replica) → List ℕ
left_text None locks copies = []
left_text (Some t) locks copies = copies_text (filter_map (left_by t copies) locks)

-- and of denials that came, where there are some
abbrev pub came_denials : List AuditItem → List ℕ
came_denials [] = []
came_denials (item ∷ items) = codes ",\"denials\":" ++ denials_text (item ∷ items)

-- What changed at a server since it was looked at is told: its number, whether it is up, which locks went and which came, the copies that a Finish left, and
-- the denials behind those that it had recorded.
pub record TellsChanges (old : Before) (asked : Request) (st : State) (before after : List ℕ) : Type 0 where
  pub gone : List Lock
  pub came : List Lock
  pub change : IsChange old.locks.items st.locks gone came
  pub told :
      after ≡ before ++ up_text old.number st.up ++ freed_text gone ++ came_text came ++ left_text (finished asked) old.locks.items st.store.copies
      ++ came_denials (drop old.denials st.audit) ++ codes "}"
