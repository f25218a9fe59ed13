-- What is read is a valid copy's, what a valid copy has is read, and faults tell apart.
use Rattle.suite_prefix.proofs.Vocabulary.{◌≡◌, ℕ, ◌<◌, true, get_or, List, [], ◌++◌, Result, Ok, Err, refl, sym, ap, subst, ◌∙◌, inl, inr, arith, All, IfOk, IfErr, IfSome, MatchResult, Option, None, Some, and_from, cases_Bool, cases_lt, append-nil}
use Rattle.suite_prefix.proofs.Vocabulary.{get_or_past, All-map, Entry, IsAcl, IsCanonical, default_entries, Content, Bytes, Names, Replica, Form, CopyFault, NotCanonical, Invalid, TrailingBytes, EntryShape, AreBytesOf, bytes_in, IsCopy, IsContent}
use Rattle.suite_prefix.proofs.Vocabulary.{CanHold, HoldsContent, SpellsCopy, IsFaultOf, IsFaultIn, IsOfValidCopy, Explains, FaultsTellApart, is_canonical, content_rises, IsWhole, Refuses, Shape, copy_of, shape_at}
use Rattle.suite_prefix.specs.declared.faults.DecodeError.{DecodeError}
use Rattle.suite_prefix.specs.declared.faults.DecodeError.TheVariants as errors
use Rattle.suite_prefix.proofs.Back.{whole_again}
use Rattle.suite_prefix.proofs.Judged.{canonical_parts}
use Rattle.suite_prefix.proofs.Loop.{ok_is}
use Rattle.suite_prefix.proofs.Orders.{numbers_of_entries, rise_if_canonical, rise_if_folder}
use Rattle.suite_prefix.proofs.ShapeOf.{entry_shape, shape_of, copy_back}
use Rattle.suite_prefix.proofs.Takes.{IsBytes, shape_takes}
use Rattle.suite_prefix.proofs.Written.{same_text}

-- ---- the shape of a valid copy

content_is_canonical : (content : Content) → IsContent content → content_rises content ≡ true
content_is_canonical (Bytes bytes) valid = refl
content_is_canonical (Names names) valid = rise_if_folder names valid.rising

default_canonical : (default : Option (List Entry)) → IfSome default IsAcl → IsCanonical (default_entries default)
default_canonical None acl = λ i j d lt in_list. absurd (omega arith)
default_canonical (Some list) acl = acl.canonical

canonical_shape : (form : Form) (copy : Replica) → IsCopy copy → is_canonical (shape_of form copy) ≡ true
canonical_shape form copy valid = grind (shape_of, and_from, numbers_of_entries, rise_if_canonical, default_canonical, content_is_canonical, arith)

spells_shape : (form : Form) (copy : Replica) → IsCopy copy → CanHold form copy.prefix → HoldsContent form copy.content → SpellsCopy (shape_of form copy)
spells_shape form copy valid held content_held = record {
  permissions_known = All-map (λ (entry : EntryShape). entry.permissions < 8) entry_shape copy.prefix.acl.access (λ k d in_list. (get_or copy.prefix.acl.access k d).known);
  default_known = All-map (λ (entry : EntryShape). entry.permissions < 8) entry_shape (default_entries copy.prefix.acl.default) (λ k d in_list. (get_or (default_entries copy.prefix.acl.default) k d).known);
  valid = subst IsCopy (sym (copy_back form copy valid.prefix.fits.acl.default)) valid;
  held = subst (λ (made : Replica). CanHold form made.prefix) (sym (copy_back form copy valid.prefix.fits.acl.default)) held;
  content_held = content_held;
}

-- the shape of a valid copy with nothing behind it has no fault
no_fault : (form : Form) (copy : Replica) (fault : CopyFault) → IsCopy copy → CanHold form copy.prefix → HoldsContent form copy.content → IsFaultOf (shape_of form copy) [] fault → ⊥
no_fault form copy NotCanonical valid held content_held h = let yes = canonical_shape form copy valid in absurd cc
no_fault form copy Invalid valid held content_held h = h.1 (spells_shape form copy valid held content_held)
no_fault form copy TrailingBytes valid held content_held h = h.1.1 refl
no_fault form copy _ valid held content_held h = h

-- the bytes of a valid copy are read as its shape, whatever was read of them
pub read_whole : (bytes : List ℕ) (copy : Replica) → IsCopy copy → (has : AreBytesOf copy bytes) → shape_at bytes ≡ Ok (shape_of has.form copy, [])
read_whole bytes copy valid has = ap shape_at has.are ∙ whole_again has.form copy valid has.held

pub never_fails : (bytes : List ℕ) (copy : Replica) (fault : CopyFault) → IsCopy copy → AreBytesOf copy bytes → shape_at bytes ≡ Err fault → ⊥
never_fails bytes copy fault valid has e = let whole = read_whole bytes copy valid has in absurd cc

-- ---- the answers of decode

pub spelled : (bytes : List ℕ) (shape : Shape) (rest : List ℕ) → IsBytes bytes → shape_at bytes ≡ Ok (shape, rest) → IsWhole shape rest → AreBytesOf (copy_of shape) bytes
spelled bytes shape rest fits e whole = record {
  form = shape.form;
  held = whole.copy.held;
  content_held = whole.copy.content_held;
  are =
      (shape_takes bytes (shape, rest) fits e).whole ∙ ap (λ (t : List ℕ). t ++ rest)
      (same_text shape (canonical_parts shape whole.canonical).belongs (canonical_parts shape whole.canonical).default_belongs whole.copy.permissions_known
      whole.copy.default_known)
      ∙ ap (λ (t : List ℕ). bytes_in shape.form (copy_of shape) ++ t) whole.ended ∙ append-nil (bytes_in shape.form (copy_of shape));
}

pub is_read : (bytes : List ℕ) (shape : Shape) (rest : List ℕ) (r : Result Replica DecodeError) → IsBytes bytes → shape_at bytes ≡ Ok (shape, rest)
    → IfOk r (λ copy. copy ≡ copy_of shape) → IfOk r (λ copy. IsWhole shape rest) → IfOk r (λ copy. AreBytesOf copy bytes)
is_read bytes shape rest (Ok copy) fits e value whole = subst (λ (made : Replica). AreBytesOf made bytes) (sym value) (spelled bytes shape rest fits e whole)
is_read bytes shape rest (Err error) fits e value whole = tt

pub is_valid : (shape : Shape) (rest : List ℕ) (r : Result Replica DecodeError) → IfOk r (λ copy. copy ≡ copy_of shape) → IfOk r (λ copy. IsWhole shape rest) → IfOk r IsCopy
is_valid shape rest (Ok copy) value whole = subst IsCopy (sym value) whole.copy.valid
is_valid shape rest (Err error) value whole = tt

explains : (bytes : List ℕ) (shape : Shape) (rest : List ℕ) (error : DecodeError) → IsBytes bytes → shape_at bytes ≡ Ok (shape, rest) → Refuses shape rest error → Explains bytes error
explains bytes shape rest (errors.Fault fault) fits e refused = subst (λ (read : Result (Shape × List ℕ) CopyFault). IsFaultIn read fault) (sym e) refused
explains bytes shape rest errors.Memory fits e whole = record { copy = copy_of shape; valid = whole.copy.valid; has_them = spelled bytes shape rest fits e whole }

pub is_explained : (bytes : List ℕ) (shape : Shape) (rest : List ℕ) (r : Result Replica DecodeError) → IsBytes bytes → shape_at bytes ≡ Ok (shape, rest)
    → IfErr r (Refuses shape rest) → IfErr r (Explains bytes)
is_explained bytes shape rest (Ok copy) fits e refused = tt
is_explained bytes shape rest (Err error) fits e refused = explains bytes shape rest error fits e refused

only_memory : (form : Form) (copy : Replica) (error : DecodeError) → IsCopy copy → CanHold form copy.prefix → HoldsContent form copy.content → Refuses (shape_of form copy) [] error → error ≡ errors.Memory
only_memory form copy (errors.Fault fault) valid held content_held refused = absurd (no_fault form copy fault valid held content_held refused)
only_memory form copy errors.Memory valid held content_held refused = refl

only_this : (form : Form) (copy : Replica) (r : Result Replica DecodeError) → IsCopy copy → CanHold form copy.prefix → HoldsContent form copy.content
    → IfOk r (λ read. read ≡ copy_of (shape_of form copy)) → IfErr r (Refuses (shape_of form copy) [])
    → MatchResult r (λ read. read ≡ copy) (λ error. error ≡ errors.Memory)
only_this form copy (Ok read) valid held content_held value refused = value ∙ copy_back form copy valid.prefix.fits.acl.default
only_this form copy (Err error) valid held content_held value refused = only_memory form copy error valid held content_held refused

abbrev Answered : Replica → Result Replica DecodeError → Shape × List ℕ → Type 0
Answered copy r read = IfOk r (λ made. made ≡ copy_of read.0) → IfErr r (Refuses read.0 read.1) → MatchResult r (λ made. made ≡ copy) (λ error. error ≡ errors.Memory)

pub is_only : (bytes : List ℕ) (shape : Shape) (rest : List ℕ) (r : Result Replica DecodeError) → shape_at bytes ≡ Ok (shape, rest)
    → IfOk r (λ copy. copy ≡ copy_of shape) → IfErr r (Refuses shape rest)
    → (copy : Replica) → IsCopy copy → AreBytesOf copy bytes → MatchResult r (λ read. read ≡ copy) (λ error. error ≡ errors.Memory)
is_only bytes shape rest r e value refused copy valid has =
    let same : (shape_of has.form copy, []) ≡ (shape, rest) = ok_is (shape_of has.form copy, []) (shape, rest) (sym (read_whole bytes copy valid has) ∙ e) in
    subst (Answered copy r) same (only_this has.form copy r valid has.held has.content_held) value refused

-- ---- faults tell apart

one_of : (shape : Shape) (rest : List ℕ) (fault other : CopyFault) → IsFaultOf shape rest fault → IsFaultOf shape rest other → fault ≡ other
one_of shape rest fault other h4 h5 = search arith

one_in : (read : Result (Shape × List ℕ) CopyFault) (fault other : CopyFault) → IsFaultIn read fault → IsFaultIn read other → fault ≡ other
one_in (Ok x) fault other h k = one_of x.0 x.1 fault other h k
one_in (Err first) fault other h k = h ∙ sym k

bytes_if_all : (bytes : List ℕ) → All (λ byte. byte < 256) bytes → IsBytes bytes
bytes_if_all bytes each i = search (cases_lt, get_or_past, arith)

-- a whole shape has a fault, or is that of a valid copy
whole_or_fault : (bytes : List ℕ) (shape : Shape) (rest : List ℕ) → IsBytes bytes → shape_at bytes ≡ Ok (shape, rest)
    → ((fault : CopyFault) → IsFaultOf shape rest fault → ⊥) → (IsOfValidCopy bytes → ⊥) → ⊥
whole_or_fault bytes shape rest fits e no_fault no_copy =
    elim (cases_Bool (is_canonical shape)) [
      | inr other ↦ no_fault NotCanonical other
      | inl canonical ↦ no_fault Invalid (
        canonical,
        λ spells. no_fault TrailingBytes (
          canonical,
          (
            spells,
            λ ended.
                let whole : IsWhole shape rest = record { canonical = canonical; copy = spells; ended = ended } in
                no_copy (record { copy = copy_of shape; valid = spells.valid; has_them = spelled bytes shape rest fits e whole }),
          ),
        ),
      )
    ]

one_or_copy : (bytes : List ℕ) (read : Result (Shape × List ℕ) CopyFault) → IsBytes bytes → shape_at bytes ≡ read
    → ((fault : CopyFault) → IsFaultIn read fault → ⊥) → (IsOfValidCopy bytes → ⊥) → ⊥
one_or_copy bytes (Ok x) fits e no_fault no_copy = whole_or_fault bytes x.0 x.1 fits e no_fault no_copy
one_or_copy bytes (Err first) fits e no_fault no_copy = no_fault first refl

pub told_apart : FaultsTellApart
told_apart = record {
  never_neither = λ bytes each no_fault no_copy. one_or_copy bytes (shape_at bytes) (bytes_if_all bytes each) refl no_fault no_copy;
  never_both = λ bytes fault of_copy h.
      no_fault of_copy.has_them.form of_copy.copy fault of_copy.valid of_copy.has_them.held of_copy.has_them.content_held
      (subst (λ (read : Result (Shape × List ℕ) CopyFault). IsFaultIn read fault) (read_whole bytes of_copy.copy of_copy.valid of_copy.has_them) h);
  one_fault = λ bytes fault other h k. one_in (shape_at bytes) fault other h k;
}
