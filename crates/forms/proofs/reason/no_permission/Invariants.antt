use Rattle.std.proofs.Common.{◌≡◌, drop}
use Rattle.std.specs.List.{list_all}
use Rattle.acl_text.specs.Grammar.{is_permission_byte}
use Rattle.forms.proofs.reason.no_permission.Given as goal

abbrev pub invariant-loop-byte : goal.invariant-loop-byte
invariant-loop-byte l = list_all is_permission_byte (drop l.byte-index l.field) ≡ list_all is_permission_byte l.fn.field
