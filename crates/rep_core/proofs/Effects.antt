-- A Finish stores what is in effect.
use Rattle.rep_core.proofs.Vocabulary.{◌≡◌, ℕ, Bool, Option, Replica, Intention, in_effect, FinishKeepsEffect, arith}
use Rattle.rep_core.proofs.IntentionLookups.{others, stored, get-without_intentions, copy_finished}

same_effect : (t : ℕ) (answered : Bool) (decided : ℕ → Bool) (o : Option Intention) (copy : Replica) → decided t ≡ answered → in_effect (others t o) decided (stored answered t o copy) ≡ in_effect o decided copy
same_effect t answered decided o copy h5 = search arith

pub finish_keeps_effect : FinishKeepsEffect
finish_keeps_effect store t answered decided suite sound says = search (get-without_intentions, copy_finished, same_effect, arith)
