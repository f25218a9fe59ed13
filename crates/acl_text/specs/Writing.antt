-- The texts that are written of a list, after acl(5), "LONG TEXT FORM" and "SHORT TEXT FORM". The
-- entries of a list are in canonical order, so two lists have one long text and one short text.
use Rattle.std.specs.Prelude.{ℕ, Bool, true, false, ◌&&◌, not, if◌then◌else◌, List, [], ◌∷◌, ◌++◌, codes, decimal, Option, None, Some, option_map}
use Rattle.std.specs.List.{find, flat_map, join_by}
use Rattle.acl_core.specs.declared.check.Decider.{Decider}
use Rattle.acl_core.specs.declared.check.Decider.TheVariants as decider
use Rattle.acl_core.specs.declared.entry.Tag.{Tag}
use Rattle.acl_core.specs.declared.entry.Tag.TheVariants.{UserObj, User, GroupObj, Group, Mask, Other}
use Rattle.acl_core.specs.declared.entry.Entry.{Entry}
use Rattle.acl_core.specs.declared.lists.Lists.{Lists}
use Rattle.acl_core.specs.declared.perms.Perms.{Perms}
use Rattle.acl_core.specs.Permissions.{may_read, may_write, may_execute, has_permission, has_all}
use Rattle.acl_core.specs.Tags.{same_tag}
use Rattle.acl_text.specs.declared.item.Side.{Side}
use Rattle.acl_text.specs.declared.item.Side.TheVariants.{Access, Default}
use Rattle.acl_text.specs.Grammar.{letter_r, letter_w, letter_x, hyphen}
use Rattle.acl_text.specs.Layout.{line_feed}
use Rattle.acl_text.specs.Sides.{default_entries}

-- whom an entry is about, with both colons
abbrev pub tag_text : Tag → List ℕ
tag_text UserObj = codes "user::"
tag_text (User id) = codes "user:" ++ decimal id ++ codes ":"
tag_text GroupObj = codes "group::"
tag_text (Group id) = codes "group:" ++ decimal id ++ codes ":"
tag_text Mask = codes "mask::"
tag_text Other = codes "other::"

-- what decided a denial: an entry, by whom it is about, or the rule that only the owner may
abbrev pub decider_text : Decider → List ℕ
decider_text decider.UserObj = tag_text UserObj
decider_text (decider.User id) = tag_text (User id)
decider_text decider.GroupObj = tag_text GroupObj
decider_text (decider.Group id) = tag_text (Group id)
decider_text decider.Mask = tag_text Mask
decider_text decider.Other = tag_text Other
decider_text decider.OwnerRule = codes "owner"

-- r, w and x, with a hyphen for each that is absent
abbrev pub letters : (ℕ → Bool) → List ℕ
letters granted = (if granted may_read then letter_r else hyphen) ∷ (if granted may_write then letter_w else hyphen) ∷ (if granted may_execute then letter_x else hyphen) ∷ []

abbrev pub permission_text : Perms → List ℕ
permission_text perms = letters (has_permission perms)

-- what both grant
abbrev pub common_text : Perms → Perms → List ℕ
common_text perms mask = letters (λ permission. has_permission perms permission && has_permission mask permission)

abbrev pub entry_text : Entry → List ℕ
entry_text entry = tag_text entry.tag ++ permission_text entry.perms

-- the kinds of entries that the mask limits
abbrev pub is_limited : Tag → Bool
is_limited (User id) = true
is_limited GroupObj = true
is_limited (Group id) = true
is_limited _ = false

-- a tab and what is left of an entry, where the mask takes something away
abbrev pub remark : Option Perms → Entry → List ℕ
remark None entry = []
remark (Some mask) entry =
    if is_limited entry.tag && not (has_all mask entry.perms) then 9 ∷ codes "#effective:" ++ common_text entry.perms mask else []

-- what the mask of a list grants
abbrev pub mask_of : List Entry → Option Perms
mask_of list = option_map (λ e. e.perms) (find (λ e. same_tag e.tag Mask) list)

-- what stands before an entry of one of the two lists
abbrev pub side_text : Side → List ℕ
side_text Access = []
side_text Default = codes "default:"

-- an entry of one of the two lists
abbrev pub sided_text : Side → Entry → List ℕ
sided_text side entry = side_text side ++ entry_text entry

-- the long text: one entry a line, the default list last, and each list's entries with what its own mask leaves
abbrev pub line_text : Side → Option Perms → Entry → List ℕ
line_text side mask entry = sided_text side entry ++ remark mask entry ++ line_feed ∷ []

abbrev pub long_lines : Side → List Entry → List ℕ
long_lines side list = flat_map (line_text side (mask_of list)) list

abbrev pub canonical : Lists → List ℕ
canonical lists = long_lines Access lists.access ++ long_lines Default (default_entries lists.default)

-- the short text: the same entries without these remarks, with commas between them, and no line end
abbrev pub next_text : Side → Entry → List ℕ
next_text side entry = codes "," ++ sided_text side entry

abbrev pub short_text : Lists → List ℕ
short_text lists = join_by entry_text (codes ",") lists.access ++ flat_map (next_text Default) (default_entries lists.default)
