-- What is known of a suite, in the words of its contracts.
use Rattle.std.specs.Prelude.{Option, Some, None, option_map, is_some}
use Rattle.std.specs.Option.{option_copied}
use Rattle.suite_content.specs.declared.content.Content.{Content}
use Rattle.suite_prefix.specs.declared.copies.Prefix.{Prefix}
use Rattle.suite_prefix.specs.declared.lock_mode.LockMode.{LockMode}
use Rattle.file_ops.specs.Rows.{Row, with_content}
use Rattle.file_exec.specs.KnownSuites.{KnownSuite}
use Rattle.file_exec.specs.Prefixes.{row_of_prefix}
use Rattle.file_exec.specs.declared.known.KnownSuite.TheInside.{Inside}

-- the row of a prefix, with the content, where that is known
abbrev pub known_row : Prefix → Option Content → Option Row
known_row prefix (Some content) = option_map (λ row. with_content row content) (row_of_prefix prefix)
known_row prefix None = row_of_prefix prefix

-- a suite that is held in a mode, with what is known of it
abbrev pub known_so : LockMode → Prefix → Option Content → KnownSuite
known_so mode prefix content = record { mode = mode; row = known_row prefix content; opened = is_some content }

abbrev pub known_suite : Inside → KnownSuite
known_suite inside = known_so inside.mode inside.prefix.now (option_copied inside.content)
