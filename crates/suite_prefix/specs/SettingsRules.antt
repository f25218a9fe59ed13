-- What a service is opened with, and what keeps it from being opened.
use Rattle.std.specs.Prelude.{◌≡◌, ℕ, ◌<◌, ◌≤◌, ◌==◌, nat_lt, nat_le, Bool, true, ◌&&◌, ◌||◌, not, if◌then◌else◌, List, [], ◌∷◌, All, Option}
use Rattle.std.specs.List.{list_any, find}
use Rattle.std.specs.Ordering.{nat_cmp}
use Rattle.std.specs.FinSet.{FinSet, contains}
use Rattle.acl_core.specs.declared.lists.Lists.{Lists}
use Rattle.vote_core.specs.Quorums.{Configuration}
use Rattle.vote_core.specs.Servers.{are_below}
use Rattle.vote_core.specs.Validity.{max_servers}
use Rattle.suite_prefix.specs.Forms.{FitsOne, fits_one}
use Rattle.suite_prefix.specs.declared.forms.Form.{Form}
use Rattle.suite_prefix.specs.declared.forms.Form.TheVariants.{One, Two}
use Rattle.suite_prefix.specs.declared.settings.SettingsFault.{SettingsFault}
use Rattle.suite_prefix.specs.declared.settings.SettingsFault.TheVariants.{BadCount, UnknownServer, BadCache, OldTooLarge}

-- how many servers and agents there are, the votes that a file or a folder has before it has others, whose the root
-- is and who may do what there, the limits of each agent's cache, and the servers that have the root as it was written in form 1
pub record Opening : Type 0 where
  pub servers : ℕ
  pub agents : ℕ
  pub c0 : Configuration
  pub root_owner : ℕ
  pub root_group : ℕ
  pub root_acl : Lists
  pub budget : ℕ
  pub quota : ℕ
  pub slots : ℕ
  pub old : FinSet nat_cmp

-- limits of this project
abbrev pub max_agents : ℕ
max_agents = 64

abbrev pub max_cache : ℕ
max_cache = 268435456

abbrev pub max_slots : ℕ
max_slots = 4096

-- settings that are accepted
pub record IsAccepted (given : Opening) : Type 0 where
  pub some_servers : (1 ≤ given.servers) × (given.servers ≤ max_servers)
  pub some_agents : (1 ≤ given.agents) × (given.agents ≤ max_agents)
  pub known_servers : All (λ rep. rep.0 < given.servers) given.c0.reps
  pub budget_fits : given.budget ≤ max_cache
  pub quota_fits : given.quota ≤ max_cache
  pub slots_fit : given.slots ≤ max_slots
  pub old_known : (server : ℕ) → contains given.old server ≡ true → server < given.servers
  pub old_fits : (server : ℕ) → contains given.old server ≡ true → FitsOne given.root_acl given.c0

-- whether settings have a fault
abbrev pub has_fault : SettingsFault → Opening → Bool
has_fault BadCount given = (given.servers == 0) || nat_lt max_servers given.servers || (given.agents == 0) || nat_lt max_agents given.agents
has_fault UnknownServer given = list_any (λ rep. nat_le given.servers rep.0) given.c0.reps || not (are_below given.servers given.old)
has_fault BadCache given = nat_lt max_cache given.budget || nat_lt max_cache given.quota || nat_lt max_slots given.slots
has_fault OldTooLarge given = not (are_below 0 given.old) && not (fits_one given.root_acl given.c0)

-- the faults in the order in which they are answered
abbrev pub faults : List SettingsFault
faults = BadCount ∷ UnknownServer ∷ BadCache ∷ OldTooLarge ∷ []

-- the first fault of settings
abbrev pub first_fault : Opening → Option SettingsFault
first_fault given = find (λ fault. has_fault fault given) faults

-- the form in which a server that has the root opens with it
abbrev pub form_of_root : Opening → ℕ → Form
form_of_root given server = if contains given.old server then One else Two
