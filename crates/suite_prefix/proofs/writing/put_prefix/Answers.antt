use Rattle.suite_prefix.specs.Bytes.{identity_bytes, lists_bytes, votes_bytes}
use Rattle.suite_prefix.proofs.Joins.{joined}
use Rattle.suite_prefix.proofs.writing.put_prefix.Goals as goal

pub returns : goal.returns
returns c =
    let prefix = c.args.prefix.now in
    joined c.put_votes.result c.args.out.now.items c.put_identity.new.out.items c.put_lists.new.out.items c.put_votes.new.out.items
    (identity_bytes prefix) (lists_bytes c.args.form prefix.acl) (votes_bytes prefix.votes) c.in_ok-put_identity.ensures c.in_ok-put_lists.ensures c.put_votes.ensures
