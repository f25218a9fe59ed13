-- The jobs that a woven run begins are those that agents put down; so it can be, and is promised.
use Rattle.run_certify.proofs.Vocabulary.{ℕ, zero, suc, ◌+◌, List, [], ◌∷◌, slice_set, Option, subst, IsValid, IsAccepted, Opening, Request, Item, CanBe, VotesAreValid, both, front, promised, AgentEntry, Asked, Begun, Ended, arith, Forgot, Lacked}
use Rattle.run_certify.proofs.Vocabulary.{ItemAt, CertifiedIsPromised, events_at, events_of, operated, past_stamp, rest_from, transcript_of, unused_at, up_to_stamp, weave, AllBegunAreValid, EntriesGiveValidVotes}

-- ---- a transcript

transcript_valid : (transcripts : List (List AgentEntry)) → AllBegunAreValid transcripts → (agent : ℕ) → EntriesGiveValidVotes (transcript_of transcripts agent)
transcript_valid [] valid agent = tt
transcript_valid (entries ∷ later) valid zero = valid.0
transcript_valid (entries ∷ later) valid (suc agent) = transcript_valid later valid.1 agent

set_valid : (transcripts : List (List AgentEntry)) → AllBegunAreValid transcripts → (agent : ℕ) (entries : List AgentEntry) → EntriesGiveValidVotes entries → AllBegunAreValid (slice_set transcripts agent entries)
set_valid [] valid agent entries here = tt
set_valid (other ∷ later) valid zero entries here = (here, valid.1)
set_valid (other ∷ later) valid (suc agent) entries here = (valid.0, set_valid later valid.1 agent entries here)

up_to_valid : (entries : List AgentEntry) → EntriesGiveValidVotes entries → EntriesGiveValidVotes (up_to_stamp entries)
up_to_valid [] valid = tt
up_to_valid (Begun job ∷ entries) valid = (valid.0, up_to_valid entries valid.1)
up_to_valid (Asked server stamp ∷ entries) valid = (tt, tt)
up_to_valid (Lacked server lack ∷ entries) valid = (tt, up_to_valid entries valid.1)
up_to_valid (Forgot site ∷ entries) valid = (tt, up_to_valid entries valid.1)
up_to_valid (Ended outcome ∷ entries) valid = (tt, up_to_valid entries valid.1)

past_valid : (entries : List AgentEntry) → EntriesGiveValidVotes entries → EntriesGiveValidVotes (past_stamp entries)
past_valid [] valid = tt
past_valid (Begun job ∷ entries) valid = past_valid entries valid.1
past_valid (Asked server stamp ∷ entries) valid = valid.1
past_valid (Lacked server lack ∷ entries) valid = past_valid entries valid.1
past_valid (Forgot site ∷ entries) valid = past_valid entries valid.1
past_valid (Ended outcome ∷ entries) valid = past_valid entries valid.1

-- ---- its events

events_valid : (agent : ℕ) (entries : List AgentEntry) → EntriesGiveValidVotes entries → VotesAreValid (events_of agent entries)
events_valid agent [] valid = tt
events_valid agent (Begun job ∷ entries) valid = (valid.0, events_valid agent entries valid.1)
events_valid agent (Asked server stamp ∷ entries) valid = (tt, events_valid agent entries valid.1)
events_valid agent (Lacked server lack ∷ entries) valid = (tt, events_valid agent entries valid.1)
events_valid agent (Forgot site ∷ entries) valid = (tt, events_valid agent entries valid.1)
events_valid agent (Ended outcome ∷ entries) valid = events_valid agent entries valid.1

operated_valid : (server : ℕ) (asked : Request) → VotesAreValid (operated server asked)
operated_valid server asked = search arith

at_valid : (unused : List (List AgentEntry)) → AllBegunAreValid unused → (one : ItemAt) (who : Option ℕ) → VotesAreValid (events_at unused one who)
at_valid unused h1 one who = search (operated_valid, events_valid, up_to_valid, transcript_valid, arith)

unused_valid : (unused : List (List AgentEntry)) → AllBegunAreValid unused → (who : Option ℕ) → AllBegunAreValid (unused_at unused who)
unused_valid unused h1 who = search (set_valid, past_valid, transcript_valid, arith)

rest_valid : (agent : ℕ) (unused : List (List AgentEntry)) → AllBegunAreValid unused → VotesAreValid (rest_from agent unused)
rest_valid agent [] valid = tt
rest_valid agent (entries ∷ later) valid = both (events_of agent entries) (rest_from (agent + 1) later) (events_valid agent entries valid.0) (rest_valid (agent + 1) later valid.1)

weave_valid : (items : List ItemAt) (unused : List (List AgentEntry)) → AllBegunAreValid unused → VotesAreValid (weave items unused)
weave_valid [] unused valid = rest_valid 0 unused valid
weave_valid (one ∷ items) unused valid = search (both, at_valid, unused_valid, weave_valid items, arith)

-- ---- what is certified

pub certified_is_promised : (given : Opening) → IsAccepted given → IsValid given.c0 → (histories : List (List Item)) (transcripts : List (List AgentEntry)) → AllBegunAreValid transcripts → CertifiedIsPromised given histories transcripts
certified_is_promised given accepted c0 histories transcripts valid certified before later is =
    let can : CanBe given before = front given before later (record { accepted = accepted; c0 = c0; votes = subst VotesAreValid is (weave_valid certified.items transcripts valid) }) in
    (can, promised given before can)
