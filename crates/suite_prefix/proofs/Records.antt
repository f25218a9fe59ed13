-- The bytes of a valid copy are a record of it, and what stands before its content is read again.
use Rattle.suite_prefix.proofs.Vocabulary.{◌≡◌, ℕ, ◌^◌, ◌<◌, List, [], ◌∷◌, ◌++◌, map, get_or, Result, Ok, Err, Option, refl, sym, ap, ◌∙◌, All, IfSome, IsTrue, w64, to_be_bytes, All-map, append-nil, Entry, Lists, IsAcl, arith, Content, Bytes, Names}
use Rattle.suite_prefix.proofs.Vocabulary.{IsWithin, Prefix, Replica, Form, CopyFault, EntryShape, bytes_in, identity_bytes, lists_bytes, votes_bytes, content_bytes, IsCopy, IsContent, content_rises, CanHold, form_code, Reads, content_at, entry_from}
use Rattle.suite_prefix.proofs.Vocabulary.{default_entries, IsOfValid, MakesDefaultAcl, head_of, prefix_of, Kept, IsRecord, kept_in, kept_read}
use Rattle.suite_prefix.specs.code.Heads.{head_at}
use Rattle.suite_prefix.proofs.Back.{whole_again}
use Rattle.suite_prefix.proofs.Joins.{four_pieces}
use Rattle.suite_prefix.proofs.Loop.{ok_is}
use Rattle.suite_prefix.proofs.Orders.{rise_if_folder}
use Rattle.suite_prefix.proofs.ReadAgain.{form_again, identity_again, is_known, lists_again, votes_again, number_again, wide64, content_again}
use Rattle.suite_prefix.proofs.ShapeOf.{entry_shape, copy_back, default_back, entries_back}

-- a copy kept in a form
abbrev pub kept_as : Form → Replica → Kept
kept_as form copy = record { form = form; copy = copy }

-- what the bytes of a valid copy keep is that copy, in their form
pub kept_again : (form : Form) (copy : Replica) → IsCopy copy → CanHold form copy.prefix → kept_in (bytes_in form copy) ≡ kept_as form copy
kept_again form copy valid held = ap kept_read (whole_again form copy valid held) ∙ ap (kept_as form) (copy_back form copy valid.prefix.fits.acl.default)

pub kept_of_bytes : (bytes : List ℕ) (form : Form) (copy : Replica) → IsCopy copy → CanHold form copy.prefix → bytes ≡ bytes_in form copy → kept_in bytes ≡ kept_as form copy
kept_of_bytes bytes form copy valid held are = ap kept_in are ∙ kept_again form copy valid held

pub is_record : (bytes : List ℕ) (form : Form) (copy : Replica) → IsCopy copy → CanHold form copy.prefix → bytes ≡ bytes_in form copy → IsRecord bytes
is_record bytes form copy valid held are = search (kept_of_bytes, arith)

-- what stands before the content is read again
pub head_again : (form : Form) (copy : Replica) → IsCopy copy → CanHold form copy.prefix → head_at (bytes_in form copy) ≡ Ok (head_of copy, content_bytes copy.content)
unfolding head_at
head_again form copy valid held =
    let p = copy.prefix in
    let identity = identity_bytes p in
    let lists = lists_bytes form p.acl in
    let votes = votes_bytes p.votes in
    let dver = to_be_bytes w64 copy.dver in
    let content = content_bytes copy.content in
    let after_votes = dver ++ content in
    let after_lists = votes ++ after_votes in
    let regrouped : bytes_in form copy ≡ form_code form ∷ (identity ++ (lists ++ after_lists)) =
    ap (λ t. form_code form ∷ t) (four_pieces identity lists votes dver content) in
    ap head_at regrouped
    ∙ rw (
      form_again form (identity ++ (lists ++ after_lists)),
      identity_again p (lists ++ after_lists) valid.prefix.fits,
      lists_again form p.acl after_lists valid.prefix.fits.qualifiers (is_known form p held),
      votes_again p.votes after_votes valid.prefix.fits.r valid.prefix.fits.w,
      number_again w64 (2 ^ 64) wide64 copy.dver content valid.dver_fits,
    ) refl

-- ---- the prefix of what stands there

all_known : (entries : List Entry) → All (λ (entry : EntryShape). entry.permissions < 8) (map entry_shape entries)
all_known entries = All-map (λ (entry : EntryShape). entry.permissions < 8) entry_shape entries (λ k d in_list. (get_or entries k d).known)

makes_default : (default : Option (List Entry)) → IfSome default IsAcl → MakesDefaultAcl (map entry_from (map entry_shape (default_entries default)))
makes_default default h1 = search (entries_back, arith)

-- entries of a default list, where there are some
pub acl_if_some : (entries : List EntryShape) → (entries ≡ [] → ⊥) → MakesDefaultAcl (map entry_from entries) → IsAcl (map entry_from entries)
acl_if_some [] some makes = absurd (some refl)
acl_if_some (entry ∷ entries) some makes = makes

pub is_of_valid : (copy : Replica) → IsCopy copy → IsOfValid (head_of copy)
is_of_valid copy valid = search (all_known, entries_back, makes_default, arith)

with_lists : Prefix → Lists → Prefix
with_lists prefix acl = record { pver = prefix.pver; kind = prefix.kind; owner = prefix.owner; group = prefix.group; acl = acl; votes = prefix.votes }

pub prefix_again : (copy : Replica) → IsCopy copy → prefix_of (head_of copy) ≡ copy.prefix
unfolding with_lists
prefix_again copy valid = search (with_lists, entries_back, default_back, arith)

-- ---- the content of what stands there

pub content_read : (copy : Replica) → IsCopy copy → content_at copy.prefix.kind (content_bytes copy.content) ≡ Ok (copy.content, [])
content_read copy valid = ap (content_at copy.prefix.kind) (sym (append-nil (content_bytes copy.content))) ∙ content_again copy.prefix.kind copy.content [] valid.kinds_agree valid.content

pub content_rises_again : (content : Content) → IsContent content → IsTrue (content_rises content)
content_rises_again (Bytes bytes) valid = refl
content_rises_again (Names names) valid = rise_if_folder names valid.rising

pub content_within_again : (content : Content) → IsContent content → IsWithin content
content_within_again (Bytes bytes) valid = valid.few
content_within_again (Names names) valid = record { few = valid.few; are_names = valid.are_names }

-- what a reader gave, where what it reads is known
pub reads_ok : {X Y : Type 0} (view : X → Y) (r : Result X CopyFault) (read : Result Y CopyFault) (x : X) (y : Y) → Reads view r read → r ≡ Ok x → read ≡ Ok y → view x ≡ y
reads_ok view (Ok z) read x y reads is known = ap view (sym (ok_is z x is)) ∙ ok_is (view z) y (sym reads ∙ known)
reads_ok view (Err fault) read x y reads is known = absurd cc
