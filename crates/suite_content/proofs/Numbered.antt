-- A number that is written behind a name.
use Rattle.suite_content.proofs.Vocabulary.{◌≡◌, ℕ, ◌+◌, ◌≤◌, List, ◌++◌, length, take, append_assoc, length-append, length-take-le, take_at, arith}
use borrow.Rule.Slice.PartMut.{put_mid}

-- eight bytes put in behind what ends at a place
pub number_behind : (end k : ℕ) (buffer number front name : List ℕ) → end ≤ length buffer → length number ≡ 8 → take end buffer ≡ front ++ name
    → take (end + 8) (put_mid end k buffer number) ≡ front ++ (name ++ number)
number_behind end k buffer number front name fits eight is = search (length-append, length-take-le, append_assoc, take_at, arith)
