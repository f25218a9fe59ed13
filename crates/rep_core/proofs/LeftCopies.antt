-- What a sound part leaves is a valid copy.
use Rattle.rep_core.proofs.Vocabulary.{◌≡◌, true, false, and_parts, IsCopy, CopyFits, Part, Store, IsSound, copy_of, left_by, is_keep, holds_last, is_sound_part, TakeFits, arith}
use Rattle.rep_core.proofs.Soundness.{left_sound}
use Rattle.rep_core.proofs.Validity.{left_fits, sound_valid}

pub left_valid : (store : Store) (part : Part) → IsSound store → is_sound_part store part ≡ true → holds_last part.take ≡ false → is_keep part.take ≡ false → TakeFits part.take
    → CopyFits (copy_of store part.suite) → IsCopy (left_by part.take (copy_of store part.suite))
left_valid store part sound is new changes takes fits = search (and_parts, sound_valid, left_sound, left_fits, arith)
