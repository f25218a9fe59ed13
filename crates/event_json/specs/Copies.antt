-- Prefixes, contents and copies as JSON has them.
use Rattle.std.specs.Prelude.{ℕ, List, ◌++◌, codes, decimal}
use Rattle.acl_core.specs.declared.lists.Lists.{Lists}
use Rattle.acl_text.specs.Writing.{short_text}
use Rattle.hex.specs.Hex.{encode_lower}
use Rattle.vote_core.specs.Quorums.{Configuration}
use Rattle.suite_content.specs.declared.content.Content.{Content}
use Rattle.suite_content.specs.declared.content.Content.TheVariants.{Bytes, Names}
use Rattle.suite_prefix.specs.declared.copies.PrefixKind.{PrefixKind}
use Rattle.suite_prefix.specs.declared.copies.PrefixKind.TheVariants as kind
use Rattle.suite_prefix.specs.declared.copies.Prefix.{Prefix}
use Rattle.suite_prefix.specs.declared.copies.Replica.{Replica}
use Rattle.suite_script.specs.Votes.{votes_text}
use Rattle.event_json.specs.Strings.{listed, member}

abbrev pub kind_text : PrefixKind → List ℕ
kind_text kind.Absent = codes "\"kind\":\"absent\""
kind_text kind.File = codes "\"kind\":\"file\""
kind_text kind.Folder = codes "\"kind\":\"folder\""

-- a name of a folder, with the number of its suite
abbrev pub name_text : List ℕ × ℕ → List ℕ
name_text entry = codes "\"" ++ entry.0 ++ codes "\":" ++ decimal entry.1

-- the member of a content
abbrev pub content_text : Content → List ℕ
content_text (Bytes bytes) = codes "\"bytes\":\"" ++ encode_lower bytes ++ codes "\""
content_text (Names names) = codes "\"names\":{" ++ listed name_text names ++ codes "}"

-- and that of its version before it
abbrev pub version_text : ℕ → Content → List ℕ
version_text dver content = member (codes ",\"content\":") dver ++ codes "," ++ content_text content

-- ---- prefixes

-- the short text of an access list, with the default list
abbrev pub list_text : Lists → List ℕ
list_text lists = codes ",\"list\":\"" ++ short_text lists ++ codes "\""

abbrev pub votes_member : Configuration → List ℕ
votes_member votes = codes ",\"votes\":\"" ++ votes_text votes ++ codes "\""

-- owner and group
abbrev pub owners_text : Prefix → List ℕ
owners_text prefix = member (codes ",\"owner\":") prefix.owner ++ member (codes ",\"group\":") prefix.group

-- who may do what, and whose votes count
abbrev pub rules_text : Prefix → List ℕ
rules_text prefix = owners_text prefix ++ list_text prefix.acl ++ votes_member prefix.votes

-- the members of a prefix
abbrev pub prefix_text : Prefix → List ℕ
prefix_text prefix = kind_text prefix.kind ++ member (codes ",\"prefix\":") prefix.pver ++ rules_text prefix

-- ---- copies

-- the members of a copy
abbrev pub replica_text : Replica → List ℕ
replica_text copy = prefix_text copy.prefix ++ version_text copy.dver copy.content

-- a copy of a suite
abbrev pub copy_text : ℕ → Replica → List ℕ
copy_text suite copy = member (codes "{\"suite\":") suite ++ codes "," ++ replica_text copy ++ codes "}"
