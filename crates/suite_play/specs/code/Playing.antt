-- What the lines of a script print on a world, and which of them are written in pieces.
use Rattle.std.specs.Prelude.{ℕ, Bool, false, nat_lt, List, ◌++◌, codes, decimal, length}
use Rattle.txn_core.specs.Agents.{fixed_of}
use Rattle.run_core.specs.Opened.{Opened}
use Rattle.run_core.specs.Worlds.{audit_of}
use Rattle.suite_script.specs.Faults.{line_feed}
use Rattle.suite_play.specs.Playing.{played}
use Rattle.suite_play.specs.declared.command.Command.{Command}
use Rattle.suite_play.specs.declared.command.Command.TheVariants.{Audit}

-- what a line prints, whatever its number
abbrev pub line_of : Opened → ℕ → Command → List ℕ
line_of opened number command = (played (fixed_of opened.given) opened.world command).text

-- the world after it
abbrev pub after_line : Opened → ℕ → Command → Opened
after_line opened number command = record opened { world = (played (fixed_of opened.given) opened.world command).world }

-- an audit of more denials than these
abbrev pub few : ℕ
few = 1024

abbrev pub is_long : Opened → Command → Bool
is_long opened (Audit server) = nat_lt few (length (audit_of opened.world server))
is_long opened other = false

-- the line above so many denials of a server
abbrev pub audit_head : ℕ → ℕ → List ℕ
audit_head server count = codes "audit " ++ decimal server ++ codes " " ++ decimal count ++ line_feed
