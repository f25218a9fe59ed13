-- The header of a script of events, line by line: what each line tells, from its first word and the words after that, as `Headers` of `play` has it.
use Rattle.std.specs.Prelude.{ℕ, List, ◌∷◌, codes, if◌then◌else◌, Option, Some, None, Result, Ok, Err}
use Rattle.std.specs.FinSet.{empty}
use Rattle.std.specs.Str.{bytes_eq}
use Rattle.file_ops.specs.Steps.{◌>>=◌, ◌>>◌}
use Rattle.suite_play.specs.Headers.{caches_in, count_in, is_known, old_in, opening_votes}
use Rattle.suite_prefix.specs.SettingsRules.{Opening, first_fault, max_agents}
use Rattle.suite_prefix.specs.declared.settings.SettingsFault.{SettingsFault}
use Rattle.suite_script.specs.Scripts.{misplaced, root_in}
use Rattle.suite_script.specs.Words.{Word}
use Rattle.suite_script.specs.declared.fault.LineFault.{LineFault}
use Rattle.suite_script.specs.declared.fault.LineFault.TheVariants.{Settings}
use Rattle.suite_script.specs.declared.root.Root.{Root}
use Rattle.suite_session.specs.declared.heading.Heading.{Heading}
use Rattle.suite_session.specs.declared.heading.Heading.TheVariants as so_far
use Rattle.vote_core.specs.Quorums.{Configuration}
use Rattle.vote_core.specs.Validity.{max_servers}

-- that a line begins with this word
abbrev pub opens_with : Word → Word → Result (Unit {0}) LineFault
opens_with begins first = if bytes_eq first begins then Ok tt else Err (misplaced is_known first)

abbrev pub servers_line : Word → List Word → Result Heading LineFault
servers_line first words = do
  opens_with (codes "servers") first
  servers ← count_in max_servers words
  Ok (so_far.Servers servers)

abbrev pub agents_line : ℕ → Word → List Word → Result Heading LineFault
agents_line servers first words = do
  opens_with (codes "agents") first
  agents ← count_in max_agents words
  Ok (so_far.Agents servers agents)

abbrev pub votes_line : ℕ → ℕ → Word → List Word → Result Heading LineFault
votes_line servers agents first words = do
  opens_with (codes "votes") first
  votes ← opening_votes servers words
  Ok (so_far.Votes servers agents votes)

abbrev pub root_line : ℕ → ℕ → Configuration → Word → List Word → Result Heading LineFault
root_line servers agents votes first words = do
  opens_with (codes "root") first
  root ← root_in words
  Ok (so_far.Root servers agents votes root)

-- settings that are accepted; those of a header that was read line by line are
abbrev pub unless_refused : Opening → Option SettingsFault → Result Opening LineFault
unless_refused settings None = Ok settings
unless_refused settings (Some fault) = Err (Settings fault)

abbrev pub accepted : Opening → Result Opening LineFault
accepted settings = unless_refused settings (first_fault settings)

-- the limits of the caches complete the settings
abbrev pub cache_line : ℕ → ℕ → Configuration → Root → Word → List Word → Result Opening LineFault
cache_line servers agents votes root first words = do
  opens_with (codes "cache") first
  caches ← caches_in words
  accepted (record {
    servers = servers;
    agents = agents;
    c0 = votes;
    root_owner = root.owner;
    root_group = root.group;
    root_acl = root.acl;
    budget = caches.budget;
    quota = caches.quota;
    slots = caches.slots;
    old = empty;
  })

-- the servers that open with their root in form 1, where a line names some, from the words after its first
abbrev pub old_line : Opening → List Word → Result Opening LineFault
old_line settings words = do
  old ← old_in settings.servers settings.root_acl settings.c0 words
  accepted (record settings { old = old })
