-- What a transaction leaves of each suite at each server.
use Rattle.std.specs.Prelude.{ℕ, ◌+◌, ◌==◌, nat_lt, Bool, true, false, ◌&&◌, ◌||◌, if◌then◌else◌, List, map, filter, is_some, Option, Some, None}
use Rattle.std.specs.List.{list_any}
use Rattle.std.specs.Ordering.{nat_cmp}
use Rattle.vote_core.specs.Quorums.{Configuration}
use Rattle.suite_content.specs.declared.content.Kind.{Kind}
use Rattle.suite_content.specs.declared.content.Kind.TheVariants as holds
use Rattle.suite_content.specs.Contents.{kind_of}
use Rattle.suite_prefix.specs.declared.copies.Prefix.{Prefix}
use Rattle.suite_prefix.specs.declared.copies.PrefixKind.{PrefixKind}
use Rattle.suite_prefix.specs.declared.copies.PrefixKind.TheVariants.{File, Folder}
use Rattle.suite_prefix.specs.declared.copies.Replica.{Replica}
use Rattle.sorted_map.specs.SortedMap.{get}
use Rattle.rep_core.specs.declared.request.Take.{Take}
use Rattle.rep_core.specs.declared.request.Take.TheVariants as take
use Rattle.rep_core.specs.declared.request.Part.{Part}
use Rattle.file_exec.specs.declared.changes.Change.{Change}
use Rattle.txn_core.specs.Suites.{ReadPoint, GatheredSuite, Suites, holds_lock, holds_exclusively, lock_mode}
use Rattle.txn_core.specs.Doing.{Changes}

-- ---- what is set

abbrev pub change_of : Changes → ℕ → Option Change
change_of changes suite = get nat_cmp changes suite

abbrev pub is_changed : Changes → ℕ → Bool
is_changed changes suite = is_some (change_of changes suite)

-- whether the votes of a suite are set; what is made is set in all its parts
abbrev pub gets_votes : Option Change → Bool
gets_votes (Some change) = change.votes
gets_votes None = false

abbrev pub sets_votes : Changes → ℕ → Bool
sets_votes changes suite = gets_votes (change_of changes suite)

-- lists and votes stand in the prefix
abbrev pub sets_prefix : Change → Bool
sets_prefix change = change.acl || change.votes

-- ---- the new copy

-- one more, where something was set
abbrev pub one_if : Bool → ℕ
one_if true = 1
one_if false = 0

abbrev pub prefix_kind : Kind → PrefixKind
prefix_kind holds.File = File
prefix_kind holds.Folder = Folder

abbrev pub new_prefix : ReadPoint → Change → Prefix
new_prefix first change = record {
  pver = first.prefix.pver + one_if (sets_prefix change);
  kind = prefix_kind (kind_of change.row.content);
  owner = change.row.owner;
  group = change.row.group;
  acl = change.row.acl;
  votes = change.row.votes;
}

abbrev pub new_copy : ReadPoint → Change → Replica
new_copy first change = record {
  prefix = new_prefix first change;
  dver = first.dver + one_if change.content;
  content = change.row.content;
}

-- ---- who takes what

abbrev pub has_vote : Configuration → ℕ → Bool
has_vote votes server = list_any (λ rep. (rep.0 == server) && nat_lt 0 rep.1) votes.reps

-- where content or votes change, whoever has a vote takes the whole copy
abbrev pub takes_whole : Change → ℕ → Bool
takes_whole change server = (change.content || change.votes) && has_vote change.row.votes server

-- what one server that holds the suite exclusively takes of a changed copy
abbrev pub take_of_changed : ReadPoint → Change → ℕ → Take
take_of_changed first change server =
    if takes_whole change server then take.Whole (new_copy first change)
    else if sets_prefix change then take.Prefix (new_prefix first change)
    else take.Keep

abbrev pub take_from : GatheredSuite → ℕ → Option ReadPoint → Option Change → Take
take_from suite server (Some first) (Some change) = if holds_exclusively suite server then take_of_changed first change server else take.Keep
take_from suite server first change = take.Keep

abbrev pub part_of : Changes → ℕ → ℕ × GatheredSuite → Part
part_of changes server one = record { suite = one.0; mode = lock_mode one.1 server; take = take_from one.1 server one.1.first (change_of changes one.0) }

-- what a server is to prepare: the locks that it answered to hold, the suites rising
abbrev pub parts_at : Suites → Changes → ℕ → List Part
parts_at suites changes server = map (part_of changes server) (filter (λ one. holds_lock one.1 server) suites)
