use Rattle.run_core.proofs.Vocabulary.{◌≡◌, true, Err, sym, ap, subst, ◌∙◌, Reply, Stamped, State, answer_of, served, is_full, Replied, option_or, after_response, ending_by}
use Rattle.run_core.proofs.Exchanging.{served_exchange, full_exchange}
use Rattle.run_core.proofs.exchange.exchange.Goals as goal

pub returns-in_ok-take_reply-in-Ok-clause-ok : goal.returns-in_ok-take_reply-in-Ok-clause-ok
returns-in_ok-take_reply-in-Ok-clause-ok c =
    let asked = c.args.asked.now in
    let request = asked.request in
    let reply_is : c.evaluate.new.reply ≡ answer_of c.args.host.now request = c.in-Ok.ensures.reply ∙ ap (λ (st : State). answer_of st request) c.host.view_is in
    served_exchange c.args.host.now c.apply.new.self.state c.args.seat.now c.take_reply.new.self c.args.agent asked _ c.args.ended.now c.take_reply.new.ended
    c.requires.stamp
    (λ full. let clash = c.in-Ok.ensures.full.1 (subst (λ (st : State). is_full st request ≡ true) (sym c.host.view_is) full) in cc)
    (c.apply.ensures ∙ (c.in-Ok.ensures.step.gives ∙ ap (λ (st : State). served st request) (c.in-Ok.ensures.same ∙ c.host.view_is)))
    (ap (λ (reply : Stamped Reply). record { server = asked.server; request = request; reply = reply }) reply_is)
    (c.in_ok-take_reply-in-Ok.ensures.ended ∙ ap (λ (reply : Stamped Reply). option_or (ending_by c.args.agent c.args.seat.now (Replied reply.value)) c.args.ended.now) reply_is)
    (c.in_ok-take_reply-in-Ok.ensures.state ∙ ap (λ (reply : Stamped Reply). after_response c.args.seat.now reply.stamp (Replied reply.value)) reply_is)

pub returns-in-Err-Full-clause-ok : goal.returns-in-Err-Full-clause-ok
returns-in-Err-Full-clause-ok c =
    let request = c.args.asked.now.request in
    full_exchange c.args.host.now c.evaluate.new.self.state c.args.seat.now c.lack.new.self c.args.agent c.args.asked.now _
    c.args.ended.now c.lack.new.ended
    c.requires.stamp (subst (λ (st : State). is_full st request ≡ true) c.host.view_is (c.in-Err-Full.ensures.full.0 (ap Err c.in-Err-Full.field-0-is))) (c.in-Err-Full.ensures.same ∙ c.host.view_is)
    c.lack.ensures.ended c.lack.ensures.state
