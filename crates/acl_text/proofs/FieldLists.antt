-- Items of more fields than an entry has.
use Rattle.acl_text.proofs.Vocabulary.{◌≡◌, ℕ, true, eqb, List, ◌∷◌, Option, None, Some, is_some, Err, map, Syntax, colon, trimmed, parts_left, Tables, fields_reading, arith}
use denote.Ref.{Bor}
use Rattle.acl_text.proofs.Splits.{some_part}

-- an item with a fourth field is no entry
pub many_fields : (names : Tables) (word : List ℕ) (rest later last : Option (Bor (List ℕ))) (second third : List ℕ)
    → parts_left colon rest ≡ second ∷ parts_left colon later → parts_left colon later ≡ third ∷ parts_left colon last → true ≡ is_some last
    → fields_reading names (word ∷ map trimmed (parts_left colon rest)) ≡ Err Syntax
many_fields names word rest later None second third e f none = cc
many_fields names word rest later (Some bytes) second third e f more = search (some_part (λ b. eqb b colon) bytes.now, arith)
