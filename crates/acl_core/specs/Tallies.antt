-- What is kept of entries that are taken one at a time.
use Rattle.std.specs.Prelude.{◌≡◌, ℕ, ◌+◌, ◌==◌, ◌≤◌, nat_lt, min, Bool, List, length, take, count_by, Option, Some, None}
use Rattle.std.specs.List.{filter_map, list_any}
use Rattle.acl_core.specs.declared.entry.Tag.{Tag}
use Rattle.acl_core.specs.declared.entry.Tag.TheVariants.{UserObj, User, GroupObj, Group, Mask, Other}
use Rattle.acl_core.specs.declared.entry.Entry.{Entry}
use Rattle.acl_core.specs.AccessLists.{count_of, max_entries}

-- counts of the entries that can stand only once, users and groups, and entries
pub record Tallied : Type 0 where
  pub user_objs : ℕ
  pub group_objs : ℕ
  pub masks : ℕ
  pub others : ℕ
  pub users : List ℕ
  pub groups : List ℕ
  pub kept : List Entry

-- a count, where two are as good as any more
abbrev pub up_to_two : ℕ → ℕ
up_to_two count = min 2 count

-- the user or the group that an entry is for
abbrev pub user_of : Tag → Option ℕ
user_of (User id) = Some id
user_of _ = None

abbrev pub group_of : Tag → Option ℕ
group_of (Group id) = Some id
group_of _ = None

-- the tally of some entries: how often each came that can stand only once, which users and groups they are
-- for, and the first of them, one more than a list may have
pub record IsTallyOf (tally : Tallied) (entries : List Entry) : Type 0 where
  pub user_objs : tally.user_objs ≡ up_to_two (count_of UserObj entries)
  pub group_objs : tally.group_objs ≡ up_to_two (count_of GroupObj entries)
  pub masks : tally.masks ≡ up_to_two (count_of Mask entries)
  pub others : tally.others ≡ up_to_two (count_of Other entries)
  pub users : tally.users ≡ filter_map (λ e. user_of e.tag) entries
  pub groups : tally.groups ≡ filter_map (λ e. group_of e.tag) entries
  pub kept : tally.kept ≡ take (max_entries + 1) entries

-- as long as no more entries are kept than a list may have, they are all that were taken
abbrev pub IsWhole : Tallied → Type 0
IsWhole tally = length tally.kept ≤ max_entries → IsTallyOf tally tally.kept

-- whether a number stands twice
abbrev pub is_doubled : List ℕ → Bool
is_doubled numbers = list_any (λ number. nat_lt 1 (count_by (λ other. other == number) numbers)) numbers
