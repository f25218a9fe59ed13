use Rattle.acl_text.proofs.Vocabulary.{◌≡◌, ◌≤◌, true, take, is_ascii_digit, list_all, digits_value, max_id}
use Rattle.acl_text.proofs.qualifier.digits_in.Given as goal

-- the number that the digits so far write
abbrev pub invariant-loop-byte : goal.invariant-loop-byte
invariant-loop-byte l = record {
  digits : list_all is_ascii_digit (take l.byte-index l.bytes) ≡ true;
  number : l.number ≡ digits_value 10 (take l.byte-index l.bytes);
  small : l.number ≤ max_id;
}
