-- The faults of a script's line, and their printed codes.
use Rattle.std.specs.Prelude.{ℕ, List, [], ◌∷◌, ◌++◌, codes, decimal}
use Rattle.acl_text.specs.Codes.{text_code}
use Rattle.suite_prefix.specs.declared.settings.SettingsFault.{SettingsFault}
use Rattle.suite_prefix.specs.declared.settings.SettingsFault.TheVariants.{BadCount, BadCache, OldTooLarge}
use Rattle.suite_prefix.specs.declared.settings.SettingsFault.TheVariants as settings
use Rattle.vote_core.specs.declared.fault.VotesFault.{VotesFault}
use Rattle.vote_core.specs.declared.fault.VotesFault.TheVariants.{Empty, UnknownServer, ListedTwice, NoVotes, ThresholdOutOfRange, ReadMissesWrite, WritesDisjoint}
use Rattle.suite_script.specs.declared.fault.LineFault.{LineFault}
use Rattle.suite_script.specs.declared.fault.ScriptFault.{ScriptFault}
use Rattle.suite_script.specs.declared.fault.LineFault.TheVariants as line

-- the codes of what can be wrong with votes
abbrev pub votes_code : VotesFault → List ℕ
votes_code Empty = codes "V1"
votes_code UnknownServer = codes "V2"
votes_code ListedTwice = codes "V3"
votes_code NoVotes = codes "V4"
votes_code ThresholdOutOfRange = codes "V5"
votes_code ReadMissesWrite = codes "V6"
votes_code WritesDisjoint = codes "V7"

-- the codes of what can be wrong with a number of the header
abbrev pub settings_code : SettingsFault → List ℕ
settings_code BadCount = codes "G1"
settings_code settings.UnknownServer = codes "G2"
settings_code BadCache = codes "G3"
settings_code OldTooLarge = codes "G4"

-- the codes of what can be wrong with a line
abbrev pub code_of : LineFault → List ℕ
code_of line.Form = codes "S1"
code_of line.Order = codes "S2"
code_of line.BadName = codes "N1"
code_of line.NameTwice = codes "N2"
code_of (line.List fault) = text_code fault
code_of (line.Votes fault) = votes_code fault
code_of (line.Settings fault) = settings_code fault

abbrev pub line_feed : List ℕ
line_feed = 10 ∷ []

-- the line that a faulty script prints
abbrev pub fault_line : ScriptFault → List ℕ
fault_line fault = codes "fault line " ++ decimal fault.line ++ codes ": " ++ code_of fault.fault ++ line_feed
