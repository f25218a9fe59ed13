-- What a reply tells a transaction of a suite, its machine tells it.
use Rattle.law_run_knowledge.proofs.Vocabulary.{◌≡◌, inl, inr, ℕ, ◌<◌, Bool, Option, Some, refl, sym, ap, subst, ◌∙◌, arith, same_Some, Content, Prefix, Replica, LockMode, Request, Reply, Said, GatheredSuite, Task, Beginning}
use Rattle.law_run_knowledge.proofs.Vocabulary.{WasContent, Event, run, at2, Inv, TellsContent, Tells, ToldOf, SaidIs, ToldVersion}
use Rattle.suite_collect.specs.Collecting.{Poll, Upgrade}
use Rattle.txn_core.specs.Transactions.{said_to, asked_for}
use Rattle.law_suite_machine.specs.Machine.{World}
use Rattle.rep_core.specs.declared.request.Request.TheVariants as request
use Rattle.rep_core.specs.declared.reply.Reply.TheVariants as reply
use Rattle.suite_collect.specs.declared.told.Said.TheVariants as said
use Rattle.law_suite_machine.specs.Events as machine
use Rattle.law_run_machine.proofs.Asked.{exchanged}
use Rattle.law_suite_machine.proofs.Places.{itself}
use Rattle.law_suite_machine.specs.Events.{Grant, Raise, Hear}
use Rattle.suite_prefix.specs.LockModes.{is_exclusive}
use Rattle.std.proofs.Common.{[], ◌∷◌, ◌++◌, cond, true}
use Rattle.law_run_knowledge.proofs.Lasting.{Lasts}

module _ (start : Beginning) (z : ℕ) (home : ℕ → ℕ) (decision : Event) (i : ℕ) (w : World) (inv : Inv start w) where
  heard_tells : (later : World) (t : ℕ) (exclusive : Bool) (prefix : Prefix) (dver : ℕ) → (later.copy i).prefix ≡ prefix → (later.copy i).dver ≡ dver → ToldOf ((machine.heard later i t exclusive).told i t) prefix dver
  heard_tells later t exclusive prefix dver prefix_is dver_is =
      at2 (λ o. ToldOf o prefix dver) later.told i t (Some (record { exclusive = exclusive; copy = later.copy i })) i t
      (λ _. record { one = record { exclusive = exclusive; copy = later.copy i }; is = refl; prefix_is = prefix_is; dver_is = dver_is })
      (λ apart. absurd (apart (refl, refl)))

  -- a reply to a request for a lock
  abbrev pub HeldTells : ℕ → Prefix → ℕ → Request → Type 0
  HeldTells t prefix dver asked =
      Tells z home i w (run start w (exchanged z home decision i w asked (reply.Held prefix dver))) asked (reply.Held prefix dver)
      → ToldOf ((run start w (exchanged z home decision i w asked (reply.Held prefix dver))).told i t) prefix dver

  poll_tells : (t : ℕ) (mode : LockMode) (prefix : Prefix) (dver : ℕ) → HeldTells t prefix dver (request.Poll t z mode)
  poll_tells t mode prefix dver tells =
      let exclusive = is_exclusive mode in
      subst (λ b. ToldOf ((run start w (cond b (Grant i t exclusive ∷ []) [] ++ cond b (Hear i t exclusive ∷ []) [])).told i t) prefix dver) (sym (itself z z refl))
      (heard_tells (machine.granted w i t exclusive) t exclusive prefix dver (tells refl).prefix_is (tells refl).dver_is)

  upgrade_tells : (t : ℕ) (prefix : Prefix) (dver : ℕ) → HeldTells t prefix dver (request.Upgrade t z)
  upgrade_tells t prefix dver tells =
      subst (λ b. ToldOf ((run start w (cond b (Raise i t ∷ []) [] ++ cond b (Hear i t true ∷ []) [])).told i t) prefix dver) (sym (itself z z refl))
      (heard_tells (machine.raised w i t) t true prefix dver (tells refl).prefix_is (tells refl).dver_is)

  -- what asks for a lock of the suite
  asked_tells : (P : Request → Type 0) (task : Task) (found : Option GatheredSuite) (server : ℕ) (asked : Request) → asked_for task z found ≡ Some (server, asked)
      → ((mode : LockMode) → P (request.Poll task.t z mode)) → P (request.Upgrade task.t z) → P asked
  asked_tells h0 task found server asked h5 h6 h7 = search arith

  held_tells : (task : Task) (found : Option GatheredSuite) (server : ℕ) (asked : Request) (prefix : Prefix) (dver : ℕ) → asked_for task z found ≡ Some (server, asked) → HeldTells task.t prefix dver asked
  held_tells task found server asked prefix dver is = asked_tells (HeldTells task.t prefix dver) task found server asked is (λ mode. poll_tells task.t mode prefix dver) (upgrade_tells task.t prefix dver)

  -- what a collector hears is what the machine told
  pub says_so : (task : Task) (found : Option GatheredSuite) (server : ℕ) (asked : Request) (answer : Reply) → asked_for task z found ≡ Some (server, asked)
      → Tells z home i w (run start w (exchanged z home decision i w asked answer)) asked answer
      → (heard : Said) → said_to asked answer ≡ Some heard → SaidIs ((run start w (exchanged z home decision i w asked answer)).told i task.t) heard
  says_so task found server asked (reply.Held prefix dver) is tells heard says = search (same_Some (said.Held prefix dver) heard says, held_tells task found server asked prefix dver is tells, arith)
  says_so task found server asked (reply.Busy holder prepared) is tells heard says = search (same_Some, arith)
  says_so task found server asked reply.Down is tells heard says = search (same_Some, arith)
  says_so task found server asked other is tells heard says = cc

  -- and a content that is given is of the version of which it was told
  pub gives_so : (later : World) → Lasts start w later → later.told ≡ w.told → (t dver given : ℕ) (content : Content) → TellsContent w i t given content → 0 < dver → ToldVersion later t i dver → WasContent start later.log dver content
  gives_so later l same t dver given content tells some told =
      let shown : w.copy i ≡ told.told.copy = inv.sound.shown i t told.told tells.hold (ap (λ f. f i t) (sym same) ∙ told.is) tells.stands in
      let version : (w.copy i).dver ≡ dver = ap (λ (copy : Replica). copy.dver) shown ∙ told.dver_is in
      elim ((inv.stored i).1) [
        | inl was ↦ l.stays.contents dver content (subst (λ content. WasContent start w.log dver content) tells.content_is (subst (λ d. WasContent start w.log d (w.copy i).content) version was))
        | inr none ↦ let zero = none.0 in absurd (omega (arith, zero, version, some))
      ]
