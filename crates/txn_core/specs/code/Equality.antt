-- When two causes, and two ends of jobs, are the same: where all their parts are. `==` tells it.
use Rattle.std.specs.Prelude.{◌≡◌, ◌==◌, Bool, true, false, ◌&&◌}
use Rattle.std.specs.Bool.{Decides}
use Rattle.std.specs.Cmp.{IsEquivalence, IsPartialEquivalence, partial_equiv_from_equiv, decided}
use Rattle.std.proofs.Common.{refl, ap}
use Rattle.std.proofs.lemmas.Bool.Decides.{Decides-eqb, Decides-and, Decides-like}
use Rattle.file_ops.specs.code.AnswerEquality.{same_answers, same_answers_decides}
use Rattle.file_ops.specs.code.RefusalEquality.{same_refusal, same_refusal_decides}
use Rattle.txn_core.specs.declared.ending.Cause.{Cause}
use Rattle.txn_core.specs.declared.ending.Cause.TheVariants as cause
use Rattle.txn_core.specs.declared.ending.Ending.{Ending}
use Rattle.txn_core.specs.declared.ending.Ending.TheVariants as ending

abbrev pub same_cause : Cause → Cause → Bool
same_cause (cause.Unavailable suite got needed) (cause.Unavailable place had wanted) = (suite == place) && ((got == had) && (needed == wanted))
same_cause (cause.Busy server holder) (cause.Busy at other) = (server == at) && (holder == other)
same_cause (cause.Lost server) (cause.Lost at) = server == at
same_cause cause.Overruled cause.Overruled = true
same_cause cause.HomeDown cause.HomeDown = true
same_cause (cause.Full server) (cause.Full at) = server == at
same_cause cause.Memory cause.Memory = true
same_cause _ _ = false

abbrev pub same_ending : Ending → Ending → Bool
same_ending (ending.Answered a) (ending.Answered b) = same_answers a b
same_ending (ending.Refused a) (ending.Refused b) = same_refusal a b
same_ending (ending.Swept broken finished left) (ending.Swept locks ended others) = (broken == locks) && ((finished == ended) && (left == others))
same_ending (ending.Undecided a) (ending.Undecided b) = same_cause a b
same_ending _ _ = false

-- ---- they are the same where they are equal

pub same_cause_decides : (a b : Cause) → Decides (same_cause a b) (a ≡ b)
same_cause_decides (cause.Unavailable suite got needed) (cause.Unavailable place had wanted) =
    Decides-like _ (λ same i. cause.Unavailable (same.0 i) (same.1.0 i) (same.1.1 i)) (λ same. (cc, (cc, cc)))
    (Decides-and _ _ (Decides-eqb suite place) (Decides-and _ _ (Decides-eqb got had) (Decides-eqb needed wanted)))
same_cause_decides (cause.Busy server holder) (cause.Busy at other) =
    Decides-like _ (λ same i. cause.Busy (same.0 i) (same.1 i)) (λ same. (cc, cc)) (Decides-and _ _ (Decides-eqb server at) (Decides-eqb holder other))
same_cause_decides (cause.Lost server) (cause.Lost at) = Decides-like _ (ap cause.Lost) (λ same. cc) (Decides-eqb server at)
same_cause_decides cause.Overruled cause.Overruled = (λ same. refl, λ same. refl)
same_cause_decides cause.HomeDown cause.HomeDown = (λ same. refl, λ same. refl)
same_cause_decides (cause.Full server) (cause.Full at) = Decides-like _ (ap cause.Full) (λ same. cc) (Decides-eqb server at)
same_cause_decides cause.Memory cause.Memory = (λ same. refl, λ same. refl)
same_cause_decides _ _ = (λ same. cc, λ same. cc)

pub same_ending_decides : (a b : Ending) → Decides (same_ending a b) (a ≡ b)
same_ending_decides (ending.Answered a) (ending.Answered b) = Decides-like _ (ap ending.Answered) (λ same. cc) (same_answers_decides a b)
same_ending_decides (ending.Refused a) (ending.Refused b) = Decides-like _ (ap ending.Refused) (λ same. cc) (same_refusal_decides a b)
same_ending_decides (ending.Swept broken finished left) (ending.Swept locks ended others) =
    Decides-like _ (λ same i. ending.Swept (same.0 i) (same.1.0 i) (same.1.1 i)) (λ same. (cc, (cc, cc)))
    (Decides-and _ _ (Decides-eqb broken locks) (Decides-and _ _ (Decides-eqb finished ended) (Decides-eqb left others)))
same_ending_decides (ending.Undecided a) (ending.Undecided b) = Decides-like _ (ap ending.Undecided) (λ same. cc) (same_cause_decides a b)
same_ending_decides _ _ = (λ same. cc, λ same. cc)

pub same_cause_laws : IsEquivalence same_cause
same_cause_laws = decided same_cause same_cause_decides

pub same_cause_partial_laws : IsPartialEquivalence same_cause
same_cause_partial_laws = partial_equiv_from_equiv same_cause_laws

pub same_ending_laws : IsEquivalence same_ending
same_ending_laws = decided same_ending same_ending_decides

pub same_ending_partial_laws : IsPartialEquivalence same_ending
same_ending_partial_laws = partial_equiv_from_equiv same_ending_laws
