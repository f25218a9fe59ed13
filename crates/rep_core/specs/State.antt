-- What a server is, and the state in which it opens.
use Rattle.std.specs.Prelude.{ℕ, Bool, true, false, List, [], Option, Some, None}
use Rattle.std.specs.Ordering.{nat_cmp}
use Rattle.sorted_map.specs.SortedMap.{get}
use Rattle.suite_prefix.specs.SettingsRules.{Opening}
use Rattle.file_ops.specs.declared.audit.AuditItem.{AuditItem}
use Rattle.rep_core.specs.declared.lock.Lock.{Lock}
use Rattle.rep_core.specs.declared.reply.Verdict.{Verdict}
use Rattle.rep_core.specs.declared.reply.Verdict.TheVariants as verdict
use Rattle.rep_core.specs.Store.{Store, opening_store}

-- Copies, intentions, locks and verdicts; the denials that it recorded, in their order; its stamp; and whether it is up.
pub record State : Type 0 where
  pub store : Store
  pub locks : List Lock
  pub verdicts : List (ℕ × Verdict)
  pub audit : List AuditItem
  pub stamp : ℕ
  pub up : Bool

-- how a transaction ended, where a record says so
abbrev pub record_of : State → ℕ → Option Verdict
record_of st t = get nat_cmp st.verdicts t

-- whether a record says that it was answered
abbrev pub was_answered : Option Verdict → Bool
was_answered (Some (verdict.Answered answers)) = true
was_answered (Some (verdict.Refused refusal)) = false
was_answered (Some verdict.Aborted) = false
was_answered None = false

-- the server of this number as it opens
abbrev pub opening : ℕ → Opening → State
opening index given = record {
  store = opening_store index given;
  locks = [];
  verdicts = [];
  audit = [];
  stamp = 0;
  up = true;
}
