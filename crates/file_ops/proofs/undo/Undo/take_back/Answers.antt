use Rattle.file_ops.proofs.Vocabulary.{subst, ap, ◌∙◌, KeepsCapacity, edited, drop_name, plain, TakesBack}
use Rattle.file_ops.proofs.TakingBack.{held_back, listed_back, voted_back, made_back, room_to_put_back}
use Rattle.file_ops.proofs.undo.Undo.take_back.Goals as goal

pub returns-in-Held : goal.returns-in-Held
returns-in-Held c = λ before back.
    rw c.exchange_content.ensures.after (held_back before c.args.rows.now c.in-Held.suite c.in-Held.before c.exchange_content.ensures.ordered (subst (λ undo. TakesBack undo before c.args.rows.now) c.in-Held.is back))

pub returns-in-Listed : goal.returns-in-Listed
returns-in-Listed c = λ before back.
    rw c.exchange_acl.ensures.after (listed_back before c.args.rows.now c.in-Listed.suite c.in-Listed.before c.exchange_acl.ensures.ordered (subst (λ undo. TakesBack undo before c.args.rows.now) c.in-Listed.is back))

pub returns-in-Voted : goal.returns-in-Voted
returns-in-Voted c = λ before back.
    rw c.exchange_votes.ensures.after (voted_back before c.args.rows.now c.in-Voted.suite c.in-Voted.before c.exchange_votes.ensures.ordered (subst (λ undo. TakesBack undo before c.args.rows.now) c.in-Voted.is back))

pub returns-in-Made : goal.returns-in-Made
returns-in-Made c = λ before back.
    let folder = c.in-Made.folder in
    let name = c.in-Made.name in
    made_back before c.args.rows.now c.drop_name.new.rows folder name c.in-Made.number c.in-Made.before c.restore_row.ensures.ordered
    (subst (λ undo. TakesBack undo before c.args.rows.now) c.in-Made.is back)
    (c.drop_name.ensures.rows ∙ ap (λ rows. edited (plain rows) folder (drop_name name)) c.restore_row.ensures.rows)
    (subst (λ rows. KeepsCapacity rows c.drop_name.new.rows) c.restore_row.ensures.rows c.drop_name.ensures.capacity)

pub put_back_name-requires : goal.put_back_name-requires
put_back_name-requires c =
    room_to_put_back c.requires.0 c.args.rows.now c.in-Dropped.folder c.in-Dropped.name c.in-Dropped.number (subst (λ undo. TakesBack undo c.requires.0 c.args.rows.now) c.in-Dropped.is c.requires.1)
