-- Entries by what they show: whom they are about, and the octal digit of what they grant.
use Rattle.std.specs.Prelude.{ℕ, ◌%◌}
use Rattle.std.proofs.Common.{lit<}
use Rattle.std.proofs.lemmas.Nat.{mod_below}
use Rattle.acl_core.specs.declared.entry.Tag.{Tag}
use Rattle.acl_core.specs.declared.entry.Entry.{Entry}

-- the entry with this tag and this octal digit
abbrev pub entry_of : Tag → ℕ → Entry
entry_of tag digit = record { tag = tag; perms = record { 0 = digit % 8 }; known = mod_below digit 8 (lit< tt) }
