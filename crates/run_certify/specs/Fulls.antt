-- Which servers can have been full.
use Rattle.std.specs.Prelude.{ℕ, ◌+◌, nat_le, Bool, true, ◌||◌, List, length}
use Rattle.std.specs.List.{list_all, sum_by}
use Rattle.rep_core.specs.declared.request.Request.{Request}
use Rattle.rep_core.specs.declared.request.Request.TheVariants as request
use Rattle.rep_core.specs.declared.stamped.Lack.{Lack}
use Rattle.rep_core.specs.declared.stamped.Lack.TheVariants.{Full, Memory}
use Rattle.rep_core.specs.Store.{max_suites}
use Rattle.server_lock.specs.declared.item.Item.{Item}
use Rattle.server_lock.specs.Histories.{max_items}
use Rattle.run_certify.specs.declared.entry.AgentEntry.{AgentEntry}
use Rattle.run_certify.specs.declared.entry.AgentEntry.TheVariants.{Lacked}
use Rattle.run_certify.specs.Merges.{history_of}

-- how many suites a request asks a server to keep something of
abbrev pub parts_of : Request → ℕ
parts_of (request.Prepare t parts) = length parts
parts_of other = 0

-- how many all requests of a history ask for
abbrev pub parts_in : List Item → ℕ
parts_in history = sum_by (λ item. parts_of item.request.value) history

-- more than one request asks for: a transaction has at most 8 operations, and each walks a path of at most 8 names
abbrev pub most_parts : ℕ
most_parts = 256

-- A server can be full where its history has its most items, or was asked for so many suites that it may have no place for those of one request more.
abbrev pub can_be_full : List Item → Bool
can_be_full history = nat_le max_items (length history) || nat_le max_suites (parts_in history + most_parts)

abbrev pub can_lack : List Item → Lack → Bool
can_lack history Full = can_be_full history
can_lack history Memory = true

-- an agent was told of a server that it is full only where that can be
abbrev pub can_be_told : List (List Item) → AgentEntry → Bool
can_be_told histories (Lacked server why) = can_lack (history_of histories server) why
can_be_told histories other = true

abbrev pub can_all_be_told : List (List Item) → List (List AgentEntry) → Bool
can_all_be_told histories transcripts = list_all (λ entries. list_all (λ entry. can_be_told histories entry) entries) transcripts
