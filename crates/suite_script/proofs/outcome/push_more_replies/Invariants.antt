use Rattle.suite_script.proofs.Vocabulary.{◌≡◌, ◌++◌, drop, codes, flat_map, reply_text}
use Rattle.suite_script.proofs.outcome.push_more_replies.Given as goal

abbrev pub invariant-loop-reply : goal.invariant-loop-reply
invariant-loop-reply l =
    l.text.items ++ flat_map (λ next. codes "; " ++ reply_text next) (drop l.reply-index l.replies)
    ≡ l.fn.text.items ++ flat_map (λ next. codes "; " ++ reply_text next) l.replies
