use Rattle.std.proofs.Common.{◌≡◌, drop}
use Rattle.std.specs.List.{list_all}
use Rattle.acl_text.specs.Qualifiers.{is_name_byte}
use Rattle.forms.proofs.reason.no_name_byte.Given as goal

abbrev pub invariant-loop-byte : goal.invariant-loop-byte
invariant-loop-byte l = list_all is_name_byte (drop l.byte-index l.word) ≡ list_all is_name_byte l.fn.word
