use Rattle.suite_serve.proofs.Vocabulary.{◌∷◌, ◌++◌, [], ◌∙◌, List, sym, ap, subst, AllZip, into_iter_items, Played, zip_push, FollowsAll}
use Rattle.std.proofs.Common.{append_assoc, append-nil}
use Rattle.suite_serve.proofs.serving.followers.Goals as goal

pub loop-player-preserved : goal.loop-player-preserved
loop-player-preserved c =
    let at = c.loop-player in
    let x = c.in-Some.player in
    let steps = c.in-Some.ensures.steps.0 in (
      append_assoc at.yielded (x ∷ []) _ ∙ rw (← steps) at.invariant.0,
      subst (λ (ps : List Played). AllZip (FollowsAll c.args.leaders.now) (at.yielded ++ x ∷ []) ps) (sym c.in_ok-push.ensures.items)
          (zip_push (FollowsAll c.args.leaders.now) at.yielded at.followers.items x _ at.invariant.1 c.follower.ensures),
    )
