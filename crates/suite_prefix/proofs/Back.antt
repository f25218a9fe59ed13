-- What may be read begins nothing else that may be read.
use Rattle.suite_prefix.proofs.Vocabulary.{◌≡◌, ℕ, List, [], ◌++◌, Ok, sym, ap, ◌∙◌, append-nil, Replica, Form, NoneBeginsAnother, bytes_in, IsCopy, CanHold, Shape, shape_at, copy_of}
use Rattle.suite_prefix.proofs.Loop.{ok_is}
use Rattle.suite_prefix.proofs.ReadAgain.{shape_again}
use Rattle.suite_prefix.proofs.ShapeOf.{shape_of, copy_back}

-- the bytes of a valid copy are read as its shape
pub whole_again : (form : Form) (copy : Replica) → IsCopy copy → CanHold form copy.prefix → shape_at (bytes_in form copy) ≡ Ok (shape_of form copy, [])
whole_again form copy valid held = ap shape_at (sym (append-nil (bytes_in form copy))) ∙ shape_again form copy [] valid held

pub none_begins_another : NoneBeginsAnother
none_begins_another copy other bytes rest valid other_valid first whole =
    let begins : shape_at (bytes ++ rest) ≡ Ok (shape_of first.form copy, rest) = ap (λ t. shape_at (t ++ rest)) first.are ∙ shape_again first.form copy rest valid first.held in
    let read : shape_at (bytes ++ rest) ≡ Ok (shape_of whole.form other, []) = ap shape_at whole.are ∙ whole_again whole.form other other_valid whole.held in
    let same : (shape_of first.form copy, rest) ≡ (shape_of whole.form other, []) = ok_is (shape_of first.form copy, rest) (shape_of whole.form other, []) (sym begins ∙ read) in (
      sym (copy_back first.form copy valid.prefix.fits.acl.default) ∙ ap (λ (x : Shape × List ℕ). copy_of x.0) same ∙ copy_back whole.form other other_valid.prefix.fits.acl.default,
      ap (λ (x : Shape × List ℕ). x.1) same,
    )
