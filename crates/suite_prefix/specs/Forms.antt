-- The forms in which the bytes of copies are written. Form 1 is what was written before there were default lists: it is read for ever,
-- with the limits of then, so that its bytes mean no more when a limit of today is raised.
-- Form 2 is what is written.
use Rattle.std.specs.Prelude.{◌≡◌, ℕ, ◌<◌, ◌≤◌, nat_lt, nat_le, Bool, true, not, ◌&&◌, length, All, None, is_some}
use Rattle.std.specs.List.{list_all}
use Rattle.acl_core.specs.AccessLists.{max_entries}
use Rattle.acl_core.specs.declared.lists.Lists.{Lists}
use Rattle.vote_core.specs.Quorums.{Configuration}
use Rattle.vote_core.specs.Validity.{max_servers}
use Rattle.suite_content.specs.declared.content.Content.{Content}
use Rattle.suite_content.specs.declared.content.Content.TheVariants.{Bytes, Names}
use Rattle.suite_content.specs.Limits.{max_names, max_content}
use Rattle.suite_prefix.specs.declared.copies.Prefix.{Prefix}
use Rattle.suite_prefix.specs.declared.forms.Form.{Form}
use Rattle.suite_prefix.specs.declared.forms.Form.TheVariants.{One, Two}

-- the first byte
abbrev pub form_code : Form → ℕ
form_code One = 1
form_code Two = 2

-- the servers that votes may name are those below this number
abbrev pub most_servers : Form → ℕ
most_servers One = 16
most_servers Two = max_servers

-- the most entries of a list
abbrev pub most_entries : Form → ℕ
most_entries One = 64
most_entries Two = max_entries

-- the most names of a folder
abbrev pub most_names : Form → ℕ
most_names One = 1024
most_names Two = max_names

-- the most bytes of a file
abbrev pub most_bytes : Form → ℕ
most_bytes One = 65536
most_bytes Two = max_content

-- what form 1 can hold: no default list, and no more entries and servers than there could be
pub record FitsOne (acl : Lists) (votes : Configuration) : Type 0 where
  pub no_default : acl.default ≡ None
  pub few_entries : length acl.access ≤ most_entries One
  pub old_servers : All (λ rep. rep.0 < most_servers One) votes.reps

-- whether a form can hold a copy with these lists and votes: form 2 holds every valid one
abbrev pub Holds : Form → Lists → Configuration → Type 0
Holds One acl votes = FitsOne acl votes
Holds Two acl votes = Unit {0}

abbrev pub CanHold : Form → Prefix → Type 0
CanHold form prefix = Holds form prefix.acl prefix.votes

-- whether it can hold a content
abbrev pub HoldsContent : Form → Content → Type 0
HoldsContent form (Bytes bytes) = length bytes ≤ most_bytes form
HoldsContent form (Names names) = length names ≤ most_names form

-- the same as tests
abbrev pub fits_one : Lists → Configuration → Bool
fits_one acl votes =
    not (is_some acl.default) && nat_le (length acl.access) (most_entries One) && list_all (λ rep. nat_lt rep.0 (most_servers One)) votes.reps

abbrev pub holds : Form → Lists → Configuration → Bool
holds One acl votes = fits_one acl votes
holds Two acl votes = true
