-- When what was served is an item, and when an entry is the end of a job: where all their parts are the same.
use Rattle.run_certify.proofs.Vocabulary.{◌≡◌, ℕ, Bool, ap, ◌==◌, ◌&&◌, Decides, Decides-and, Decides-eqb, Decides-like, same_reply, same_reply_decides, same_request, same_request_decides, same_stamped, same_stamped_decides, same_outcome}
use Rattle.run_certify.proofs.Vocabulary.{same_outcome_decides, EndedJob, Served, Item, AgentEntry, Ended, ItemAt, item_by, at_server}

abbrev pub same_item : Served → ℕ → Item → Bool
same_item served server item =
    (((served.server == server) && (served.reply.stamp == item.stamp)) && same_stamped same_request served.request item.request) && same_reply served.reply.value item.reply

pub same_item_decides : (served : Served) (server : ℕ) (item : Item) → Decides (same_item served server item) (item_by item.agent served ≡ at_server server item)
same_item_decides served server item =
    Decides-like _
    (λ same i. record { server = same.0.0.0 i; item = record { stamp = same.0.0.1 i; agent = item.agent; request = same.0.1 i; reply = same.1 i } })
    (λ same. (((ap (λ (at : ItemAt). at.server) same, ap (λ (at : ItemAt). at.item.stamp) same), ap (λ (at : ItemAt). at.item.request) same), ap (λ (at : ItemAt). at.item.reply) same))
    (Decides-and _ _
    (Decides-and _ _ (Decides-and _ _ (Decides-eqb served.server server) (Decides-eqb served.reply.stamp item.stamp)) (same_stamped_decides same_request_decides served.request item.request))
    (same_reply_decides served.reply.value item.reply))

outcome_in : EndedJob → AgentEntry → EndedJob
outcome_in other (Ended outcome) = outcome
outcome_in other entry = other

pub same_end_decides : (told outcome : EndedJob) → Decides (same_outcome told outcome) (◌≡◌ {A = AgentEntry} (Ended told) (Ended outcome))
unfolding outcome_in
same_end_decides told outcome =
    let decides = same_outcome_decides told outcome in
    ((λ same. ap Ended (decides.0 same)), (λ same. decides.1 (ap (outcome_in told) same)))
