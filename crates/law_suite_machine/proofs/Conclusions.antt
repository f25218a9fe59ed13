-- The laws, from what every event keeps.
use Rattle.law_suite_machine.proofs.Vocabulary.{◌≡◌, ◌≤◌, inl, inr, List, sym, subst, ◌∙◌, arith, Prefix, Replica, Beginning, Entry, row, WasCopy, World, IsQuorum, effect, begun, Always, after, IsOneRegister, CopiesWere, ReplacedIsSuperseded}
use Rattle.law_suite_machine.proofs.Vocabulary.{QuorumsShowRow, DecidedOnce, LocksHoldCopies, LocksStand, OneRegister, EveryCopyWas, AlwaysSuperseded, AlwaysCurrent, AlwaysOnce, LocksAlwaysHold, LocksAlwaysStand, WhatWasStays}
use Rattle.law_suite_machine.proofs.Rows.{Logged}
use Rattle.law_suite_machine.proofs.Sound.{effect_held}
use Rattle.law_suite_machine.proofs.Invariant.{Inv}
use Rattle.law_suite_machine.proofs.Knowing.{within_row}
use Rattle.law_suite_machine.proofs.Steps.{all_steps}
use Rattle.law_suite_machine.proofs.Starting.{begins}
use Rattle.law_suite_machine.proofs.Lasting.{run_stays}

-- ---- from the invariant

pub copies_were : (start : Beginning) (w : World) → Inv start w → CopiesWere start w
copies_were start w inv = record { stored = inv.stored; in_effect = inv.current.were; told = inv.told; never = inv.logged.never }

pub superseded : (start : Beginning) (w : World) → Inv start w → ReplacedIsSuperseded start w
superseded start w inv p lt set quorum =
    let x = inv.current.reach p (omega arith) set quorum in
    record { server = x.0; inside = x.1; is = elim (x.2) [ inl above ↦ above | inr top ↦ omega arith ] }

-- a copy of the row's version has the row's prefix
row_prefix : (start : Beginning) (log : List Entry) → Logged start log → (c : Replica) → WasCopy start log c → (row start log).prefix.pver ≤ c.prefix.pver → c.prefix ≡ (row start log).prefix
row_prefix start log l c was le = search arith

-- a copy of the row's content version has the row's content
row_content : (start : Beginning) (log : List Entry) → Logged start log → (c : Replica) → WasCopy start log c → c.dver ≡ (row start log).dver → c.content ≡ (row start log).content
row_content start log l c was e = search arith

pub quorums_show : (start : Beginning) (w : World) → Inv start w → QuorumsShowRow start w
quorums_show start w inv =
    let l = inv.logged in
    let top = (row start w.log).prefix.pver in
    record {
      prefix = λ set quorum.
          let x = inv.current.reach top (omega arith) set (subst (λ (p : Prefix). IsQuorum p.votes set) (sym l.own.0.1) quorum) in
          let le : top ≤ (effect w x.0).prefix.pver = elim (x.2) [ inl above ↦ omega arith | inr e ↦ omega arith ] in
          record { server = x.0; inside = x.1; is = row_prefix start w.log l (effect w x.0) (inv.current.were x.0) le };
      content = λ set quorum.
          let x = inv.current.content set quorum in
          record { server = x.0; inside = x.1; is = (x.2, row_content start w.log l (effect w x.0) (inv.current.were x.0) x.2) };
      greatest = λ i. ((inv.current.were i).0.0, within_row start w inv i);
    }

pub decided_once : (start : Beginning) (w : World) → Inv start w → DecidedOnce start w
decided_once start w inv = record { once = inv.once; recorded = inv.recorded; given_up = inv.sound.ended }

pub locks_hold : (start : Beginning) (w : World) → Inv start w → LocksHoldCopies start w
locks_hold start w inv = record {
  stored = inv.sound.shown;
  in_effect = λ i t a h told lock unanswered. effect_held w inv.sound i t h lock unanswered ∙ inv.sound.shown i t a h told lock;
}

pub locks_stand : (start : Beginning) (w : World) → Inv start w → LocksStand start w
locks_stand start w inv = record {
  alone = inv.sound.alone;
  at_a_decision = λ t ready i told said.
      let prepared = ready.prepared i told said in
      let stands = inv.sound.stands i t prepared.0 prepared.1 (ready.undecided, ready.going) in
      (stands.0, stands.1, stands.2, inv.sound.shown i t told stands.0 said stands.1);
}

-- ---- after every list of events

pub always : (Law : Beginning → World → Type 0) → ((start : Beginning) (w : World) → Inv start w → Law start w) → Always Law
always Law law start is events obeys = law start (after start events) (all_steps start (begun start) (begins start is) events obeys)

pub one_register : OneRegister
one_register = always IsOneRegister (λ start w inv. inv.logged.plain)

pub every_copy_was : EveryCopyWas
every_copy_was = always CopiesWere copies_were

pub always_superseded : AlwaysSuperseded
always_superseded = always ReplacedIsSuperseded superseded

pub always_current : AlwaysCurrent
always_current = always QuorumsShowRow quorums_show

pub always_once : AlwaysOnce
always_once = always DecidedOnce decided_once

pub always_held : LocksAlwaysHold
always_held = always LocksHoldCopies locks_hold

pub always_stand : LocksAlwaysStand
always_stand = always LocksStand locks_stand

pub what_was_stays : WhatWasStays
what_was_stays start is events later obeys obey_later = run_stays start (after start events) (all_steps start (begun start) (begins start is) events obeys) later obey_later
