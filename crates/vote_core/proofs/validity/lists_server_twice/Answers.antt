use Rattle.vote_core.proofs.Vocabulary.{◌≡◌, ◌+◌, ◌∙◌, sym, ap, ◌||◌, ◌∷◌, drop, get_or, drop-cons, add-one, contains, lists_twice}
use Rattle.vote_core.proofs.Doubles.{lists_one, lists_one-none, seen_more}
use Rattle.vote_core.proofs.validity.lists_server_twice.Goals as goal

pub loop-server-init : goal.loop-server-init
loop-server-init c = ap (λ b. b || lists_twice c.args.reps.now) (lists_one-none (contains c.empty-seen.result) c.empty-seen.ensures.members c.args.reps.now)

pub loop-server-preserved : goal.loop-server-preserved
loop-server-preserved c =
    let reps = c.args.reps.now in
    let i = c.loop-server.server-index in
    let rep = get_or reps i (0, 0) in
    let inside = c.loop-server-test.true in
    let front : drop i reps ≡ rep ∷ drop (i + 1) reps = rw (add-one, drop-cons reps i (0, 0)) in
    seen_more (contains c.loop-server.seen) (contains c.insert.new.self) rep (drop (i + 1) reps) (sym c.contains.ensures ∙ c.if-contains.false) c.insert.ensures.members
    ∙ ap (λ rest. lists_one (contains c.loop-server.seen) rest || lists_twice rest) (sym front)
    ∙ c.loop-server.invariant
