-- The header of a script of events: how many servers and agents there are, the opening votes, the root folder, the limits
-- of each agent's cache, and, where a line names some, the servers that open with their root in form 1. Each number is judged where it
-- stands.
use Rattle.std.specs.Prelude.{ℕ, ◌-◌, ◌==◌, ◌^◌, nat_lt, Bool, ◌||◌, if◌then◌else◌, List, [], ◌∷◌, codes, Result, Ok, Err}
use Rattle.std.specs.FinSet.{FinSet, empty, insert}
use Rattle.std.specs.List.{slice_split}
use Rattle.std.specs.Ordering.{nat_cmp}
use Rattle.std.specs.Str.{bytes_eq}
use Rattle.acl_core.specs.declared.lists.Lists.{Lists}
use Rattle.suite_prefix.specs.Forms.{fits_one}
use Rattle.file_ops.specs.Steps.{◌>>=◌, ◌>>◌, found_or}
use Rattle.vote_core.specs.Validity.{max_servers}
use Rattle.suite_prefix.specs.SettingsRules.{Opening, max_cache, max_agents, max_slots}
use Rattle.suite_prefix.specs.declared.settings.SettingsFault.{SettingsFault}
use Rattle.suite_prefix.specs.declared.settings.SettingsFault.TheVariants.{BadCount, BadCache, OldTooLarge}
use Rattle.vote_core.specs.Quorums.{Configuration}
use Rattle.suite_script.specs.declared.fault.LineFault.{LineFault}
use Rattle.suite_script.specs.declared.fault.LineFault.TheVariants.{Form, Settings}
use Rattle.suite_script.specs.declared.fault.ScriptFault.{ScriptFault}
use Rattle.suite_script.specs.Scripts.{Headed, Pending, headed, headed_if, root_in}
use Rattle.script_text.specs.Numbers.{number_up_to}
use Rattle.suite_script.specs.Votes.{votes_in}
use Rattle.suite_script.specs.Words.{Word, at_end, word}
use Rattle.suite_play.specs.declared.caches.Caches.{Caches}
use Rattle.suite_play.specs.Commands.{is_command}

-- the largest number that is judged; a larger one is none
abbrev pub max_number : ℕ
max_number = 2 ^ 64 - 1

-- a number that keeps to its limits, or the fault of one that does not
abbrev pub judged : (ℕ → Bool) → SettingsFault → Word → Result ℕ LineFault
judged is_wrong fault text = do
  given ← found_or (number_up_to max_number text) Form
  if is_wrong given then Err (Settings fault) else Ok given

-- how many there are: at least one
abbrev pub count : ℕ → Word → Result ℕ LineFault
count most text = judged (λ given. (given == 0) || nat_lt most given) BadCount text

-- a limit of the caches
abbrev pub limit : ℕ → Word → Result ℕ LineFault
limit most text = judged (λ given. nat_lt most given) BadCache text

-- ---- what follows the first word of each line

abbrev pub count_in : ℕ → List Word → Result ℕ LineFault
count_in most words = do
  next ← word words
  given ← count most next.value
  at_end next.rest
  Ok given

abbrev pub opening_votes : ℕ → List Word → Result Configuration LineFault
opening_votes servers words = do
  next ← word words
  votes ← votes_in servers next.value
  at_end next.rest
  Ok votes

abbrev pub caches_in : List Word → Result Caches LineFault
caches_in words = do
  first ← word words
  budget ← limit max_cache first.value
  second ← word first.rest
  quota ← limit max_cache second.value
  third ← word second.rest
  slots ← limit max_slots third.value
  at_end third.rest
  Ok (record { budget = budget; quota = quota; slots = slots })

-- servers, with commas between
abbrev pub among : ℕ → FinSet nat_cmp → List Word → Result (FinSet nat_cmp) LineFault
among servers found [] = Ok found
among servers found (text ∷ more) = do
  server ← found_or (number_up_to (servers - 1) text) Form
  among servers (insert found server) more

-- the servers that open with their root in form 1, which has to hold it
abbrev pub old_in : ℕ → Lists → Configuration → List Word → Result (FinSet nat_cmp) LineFault
old_in servers acl votes words = do
  next ← word words
  old ← among servers empty (slice_split (λ byte. byte == 44) next.value)
  if fits_one acl votes then at_end next.rest else Err (Settings OldTooLarge)
  Ok old

-- ---- the header

-- the words that begin the lines of a script of events
abbrev pub is_header : Word → Bool
is_header text =
    bytes_eq text (codes "servers") || bytes_eq text (codes "agents") || bytes_eq text (codes "votes") || bytes_eq text (codes "root") || bytes_eq text (codes "cache") || bytes_eq text (codes "old")

abbrev pub is_known : Word → Bool
is_known text = is_header text || is_command text

-- what a header tells after how many servers and agents there are, in a script whose lines begin with these words
abbrev pub opening_lines : (Word → Bool) → ℕ → ℕ → Pending → Result (Headed Opening) ScriptFault
opening_lines is_known servers agents script = do
  votes ← headed is_known (codes "votes") (opening_votes servers) script
  root ← headed is_known (codes "root") root_in votes.rest
  caches ← headed is_known (codes "cache") caches_in root.rest
  old ← headed_if is_known (codes "old") (old_in servers root.value.acl votes.value) empty caches.rest
  Ok (record {
    value = record {
      servers = servers;
      agents = agents;
      c0 = votes.value;
      root_owner = root.value.owner;
      root_group = root.value.group;
      root_acl = root.value.acl;
      budget = caches.value.budget;
      quota = caches.value.quota;
      slots = caches.value.slots;
      old = old.value;
    };
    rest = old.rest;
  })

abbrev pub header : Pending → Result (Headed Opening) ScriptFault
header script = do
  servers ← headed is_known (codes "servers") (count_in max_servers) script
  agents ← headed is_known (codes "agents") (count_in max_agents) servers.rest
  opening_lines is_known servers.value agents.value agents.rest
