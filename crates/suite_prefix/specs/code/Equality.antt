-- When two prefixes, and two copies, are the same: where all their fields are. `==` tells it.
use Rattle.std.specs.Prelude.{◌≡◌, ◌==◌, Bool, ◌&&◌}
use Rattle.std.specs.Bool.{Decides}
use Rattle.std.specs.Cmp.{IsEquivalence, IsPartialEquivalence, partial_equiv_from_equiv, decided, unsigned_Decides}
use Rattle.std.proofs.Common.{ap, refl}
use Rattle.std.proofs.lemmas.Bool.{and_parts, and_from}
use Rattle.acl_core.specs.Pairs.{same_lists}
use Rattle.acl_core.proofs.ListsEquality.{same_lists_decides}
use Rattle.vote_core.specs.code.SameVotes.{same_votes, same_votes_decides}
use Rattle.suite_content.specs.Contents.{same_content}
use Rattle.suite_content.specs.code.ContentEquality.{same_content_decides}
use Rattle.suite_prefix.specs.declared.copies.PrefixKind.{PrefixKind}
use Rattle.suite_prefix.specs.declared.copies.PrefixKind.TheVariants.{Absent, File, Folder}
use Rattle.suite_prefix.specs.declared.copies.Prefix.{Prefix}
use Rattle.suite_prefix.specs.declared.copies.Replica.{Replica}
use Rattle.suite_prefix.specs.Bytes.{kind_code}

abbrev pub same_prefix : Prefix → Prefix → Bool
same_prefix a b =
    (a.pver == b.pver) && ((kind_code a.kind == kind_code b.kind) && ((a.owner == b.owner) && ((a.group == b.group) && (same_lists a.acl b.acl && same_votes a.votes b.votes))))

abbrev pub same_replica : Replica → Replica → Bool
same_replica a b = same_prefix a.prefix b.prefix && ((a.dver == b.dver) && same_content a.content b.content)

same_kind : (a b : PrefixKind) → kind_code a ≡ kind_code b → a ≡ b
same_kind Absent Absent same = refl
same_kind File File same = refl
same_kind Folder Folder same = refl
same_kind Absent File same = absurd cc
same_kind Absent Folder same = absurd cc
same_kind File Absent same = absurd cc
same_kind File Folder same = absurd cc
same_kind Folder Absent same = absurd cc
same_kind Folder File same = absurd cc

pub same_prefix_decides : (a b : Prefix) → Decides (same_prefix a b) (a ≡ b)
same_prefix_decides a b =
    let list = same_lists_decides a.acl b.acl in
    let votes = same_votes_decides a.votes b.votes in
    let ends = same_lists a.acl b.acl && same_votes a.votes b.votes in
    let groups = (a.group == b.group) && ends in
    let owners = (a.owner == b.owner) && groups in
    let kinds = (kind_code a.kind == kind_code b.kind) && owners in (
      λ same.
          let p = and_parts (a.pver == b.pver) kinds same in
          let k = and_parts (kind_code a.kind == kind_code b.kind) owners p.1 in
          let o = and_parts (a.owner == b.owner) groups k.1 in
          let g = and_parts (a.group == b.group) ends o.1 in
          let e = and_parts (same_lists a.acl b.acl) (same_votes a.votes b.votes) g.1 in
          let kind = same_kind a.kind b.kind ((unsigned_Decides (kind_code a.kind) (kind_code b.kind)).0 k.0) in
          λ i. record {
            pver = (unsigned_Decides a.pver b.pver).0 p.0 i;
            kind = kind i;
            owner = (unsigned_Decides a.owner b.owner).0 o.0 i;
            group = (unsigned_Decides a.group b.group).0 g.0 i;
            acl = list.0 e.0 i;
            votes = votes.0 e.1 i;
          },
      λ equal.
          and_from (a.pver == b.pver) kinds ((unsigned_Decides a.pver b.pver).1 (ap (λ p. p.pver) equal))
          (and_from (kind_code a.kind == kind_code b.kind) owners ((unsigned_Decides (kind_code a.kind) (kind_code b.kind)).1 (ap (λ p. kind_code p.kind) equal))
          (and_from (a.owner == b.owner) groups ((unsigned_Decides a.owner b.owner).1 (ap (λ p. p.owner) equal))
          (and_from (a.group == b.group) ends ((unsigned_Decides a.group b.group).1 (ap (λ p. p.group) equal))
          (and_from (same_lists a.acl b.acl) (same_votes a.votes b.votes) (list.1 (ap (λ p. p.acl) equal)) (votes.1 (ap (λ p. p.votes) equal)))))),
    )

pub same_replica_decides : (a b : Replica) → Decides (same_replica a b) (a ≡ b)
same_replica_decides a b =
    let prefix = same_prefix_decides a.prefix b.prefix in
    let content = same_content_decides a.content b.content in
    let rest = (a.dver == b.dver) && same_content a.content b.content in (
      λ same.
          let p = and_parts (same_prefix a.prefix b.prefix) rest same in
          let d = and_parts (a.dver == b.dver) (same_content a.content b.content) p.1 in
          λ i. record { prefix = prefix.0 p.0 i; dver = (unsigned_Decides a.dver b.dver).0 d.0 i; content = content.0 d.1 i },
      λ equal.
          and_from (same_prefix a.prefix b.prefix) rest (prefix.1 (ap (λ c. c.prefix) equal))
          (and_from (a.dver == b.dver) (same_content a.content b.content) ((unsigned_Decides a.dver b.dver).1 (ap (λ c. c.dver) equal)) (content.1 (ap (λ c. c.content) equal))),
    )

pub same_prefix_laws : IsEquivalence same_prefix
same_prefix_laws = decided same_prefix same_prefix_decides

pub same_prefix_partial_laws : IsPartialEquivalence same_prefix
same_prefix_partial_laws = partial_equiv_from_equiv same_prefix_laws

pub same_replica_laws : IsEquivalence same_replica
same_replica_laws = decided same_replica same_replica_decides

pub same_replica_partial_laws : IsPartialEquivalence same_replica
same_replica_partial_laws = partial_equiv_from_equiv same_replica_laws
