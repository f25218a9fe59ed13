-- Copies kept as their bytes, and copies under another prefix.
use Rattle.std.specs.Prelude.{if◌then◌else◌}
use Rattle.suite_content.specs.Contents.{empty_content}
use Rattle.suite_prefix.specs.declared.copies.Prefix.{Prefix}
use Rattle.suite_prefix.specs.declared.copies.Replica.{Replica}
use Rattle.suite_prefix.specs.declared.forms.Form.{Form}
use Rattle.suite_prefix.specs.Copies.{held_by}
use Rattle.suite_prefix.specs.Tests.{is_absent}

-- a copy, and the form of the bytes that are kept of it
pub record Kept : Type 0 where
  pub form : Form
  pub copy : Replica

-- a copy under another prefix: its content stays, but that of an absent one becomes the empty one of the new kind
abbrev pub under : Prefix → Replica → Replica
under prefix copy = record {
  prefix = prefix;
  dver = copy.dver;
  content = if is_absent copy.prefix.kind then empty_content (held_by prefix.kind) else copy.content;
}
