-- The names that the proofs of this crate take from elsewhere, each with one meaning here.
pub use Rattle.std.proofs.Common.{Bool, IsTrue, List, None, Option, Some, [], ap, append_assoc, arith, cond, false, inl, inr, lit<, lit≤, map, nat_eq, refl, subst, sym, true, ℕ, ◌*◌, ◌++◌, ◌+◌, ◌<◌, ◌==◌, ◌∙◌, ◌∷◌, ◌≡◌, ◌≢◌, ◌≤◌, ◌⊎◌}
pub use Rattle.std.specs.List.{AllByRecursion, IsDistinct, list_any}
pub use Rattle.suite_content.specs.declared.content.Content.{Content}
pub use Rattle.suite_prefix.specs.declared.copies.Prefix.{Prefix}
pub use Rattle.suite_prefix.specs.declared.copies.Replica.{Replica}
pub use Rattle.vote_core.specs.Quorums.{Configuration, SharedMember, is_write_quorum, votes_at}
pub use Rattle.vote_core.specs.Validity.{IsValid, max_servers}
pub use Rattle.law_suite_machine.specs.Conditions.{IsFree, IsReady, IsTake, Knows, May, MayAim, MayFinish, MayGiveUp, MayGrant, MayHear, MayLose, MayPrepare, MayRaise, MayRead, MayWrite, Obeys, holds_exclusively, is_exclusive}
pub use Rattle.law_suite_machine.specs.Events.{Aim, DecideElsewhere, DecideRead, DecideRefused, DecideWrite, Event, Finish, GiveUp, Grant, Hear, Lose, Overrule, Prepare, Raise, aimed, copy_after, decided, finished, given_up, granted, happens, heard, intended, lost}
pub use Rattle.law_suite_machine.specs.Events.{plan_after, prepared, prepared_hold, raised, raised_hold, run}
pub use Rattle.law_suite_machine.specs.Laws.{Always, AlwaysCurrent, AlwaysOnce, AlwaysSuperseded, CopiesWere, DecidedOnce, EveryCopyWas, IsOneRegister, LocksAlwaysHold, LocksAlwaysStand, LocksHoldCopies, LocksStand, OneRegister, QuorumsShowRow}
pub use Rattle.law_suite_machine.specs.Laws.{ReplacedIsSuperseded, SomeRunObeys, Stays, WhatWasStays, after}
pub use Rattle.law_suite_machine.specs.Machine.{Aborted, Answered, Hold, Intention, IsQuorum, Refused, Told, Verdict, World, begun, effect, first_copy, in_effect, is_answered, set1, set2}
pub use Rattle.law_suite_machine.specs.Registers.{Beginning, Change, Entry, GoesWith, IsBeginning, IsKnown, IsNext, IsPlain, Known, Read, WasContent, WasCopy, WasPrefix, Wrote, changed, empty_of, prefix_at, row, transaction}
