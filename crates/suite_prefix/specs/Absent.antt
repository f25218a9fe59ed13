-- What was never made: a prefix at version 0 with the votes that a service opens with, and a copy without content.
use Rattle.vote_core.specs.Quorums.{Configuration}
use Rattle.suite_content.specs.declared.content.Kind.TheVariants as holds
use Rattle.suite_content.specs.Contents.{empty_content}
use Rattle.suite_prefix.specs.TwoLists.{closed_lists}
use Rattle.suite_prefix.specs.declared.copies.PrefixKind.TheVariants.{Absent}
use Rattle.suite_prefix.specs.declared.copies.Prefix.{Prefix}
use Rattle.suite_prefix.specs.declared.copies.Replica.{Replica}

abbrev pub absent_prefix : Configuration → Prefix
absent_prefix c0 = record { pver = 0; kind = Absent; owner = 0; group = 0; acl = closed_lists; votes = c0 }

abbrev pub absent_copy : Configuration → Replica
absent_copy c0 = record { prefix = absent_prefix c0; dver = 0; content = empty_content holds.File }
