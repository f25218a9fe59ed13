-- What a server answers fits the request.
use Rattle.rep_core.proofs.Vocabulary.{◌≡◌, Bool, true, ◌||◌, Request, arith, IsSound, State, reply_of}
use Rattle.rep_core.specs.declared.reply.Reply.{Reply}
use Rattle.rep_core.specs.Fits.{fits, is_held, is_busy, is_lost, is_down}

-- ---- by the form of the reply

abbrev fits_locking : Reply → Bool
fits_locking r = is_held r || is_busy r || is_lost r || is_down r

-- ---- by the request

pub reply_fits : (st : State) (asked : Request) → IsSound st.store → fits asked (reply_of st asked) ≡ true
reply_fits st asked sound = search arith
