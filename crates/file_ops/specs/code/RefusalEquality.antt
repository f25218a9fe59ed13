-- When two refusals, and two denials of an audit, are the same. `==` tells it.
use Rattle.std.specs.Prelude.{◌≡◌, ◌==◌, Bool, true, false, ◌&&◌}
use Rattle.std.specs.Bool.{Decides}
use Rattle.std.proofs.Common.{refl, ap}
use Rattle.std.proofs.lemmas.Bool.Decides.{Decides-eqb, Decides-and, Decides-like}
use Rattle.acl_core.specs.declared.check.Decider.{Decider}
use Rattle.acl_core.specs.declared.check.Decider.TheVariants as decider
use Rattle.file_ops.specs.declared.refusal.Denial.{Denial}
use Rattle.file_ops.specs.declared.refusal.Why.{Why}
use Rattle.file_ops.specs.declared.refusal.Why.TheVariants as why
use Rattle.file_ops.specs.declared.refusal.Refusal.{Refusal}
use Rattle.file_ops.specs.declared.audit.AuditItem.{AuditItem}

abbrev pub same_decider : Decider → Decider → Bool
same_decider decider.UserObj decider.UserObj = true
same_decider (decider.User a) (decider.User b) = a == b
same_decider decider.GroupObj decider.GroupObj = true
same_decider (decider.Group a) (decider.Group b) = a == b
same_decider decider.Mask decider.Mask = true
same_decider decider.Other decider.Other = true
same_decider decider.OwnerRule decider.OwnerRule = true
same_decider _ _ = false

abbrev pub same_denial : Denial → Denial → Bool
same_denial a b = (a.suite == b.suite) && ((a.wanted.0 == b.wanted.0) && same_decider a.decider b.decider)

abbrev pub same_why : Why → Why → Bool
same_why why.BadPath why.BadPath = true
same_why why.NotFolder why.NotFolder = true
same_why (why.Denied a) (why.Denied b) = same_denial a b
same_why why.NoName why.NoName = true
same_why why.Exists why.Exists = true
same_why why.IsFolder why.IsFolder = true
same_why why.NotEmpty why.NotEmpty = true
same_why why.TooLong why.TooLong = true
same_why why.FolderFull why.FolderFull = true
same_why why.OpCount why.OpCount = true
same_why why.UnknownServer why.UnknownServer = true
same_why why.DefaultOnFile why.DefaultOnFile = true
same_why _ _ = false

abbrev pub same_refusal : Refusal → Refusal → Bool
same_refusal a b = (a.op == b.op) && same_why a.why b.why

abbrev pub same_item : AuditItem → AuditItem → Bool
same_item a b = (a.t == b.t) && ((a.uid == b.uid) && ((a.op == b.op) && same_denial a.denial b.denial))

pub same_decider_decides : (a b : Decider) → Decides (same_decider a b) (a ≡ b)
same_decider_decides decider.UserObj decider.UserObj = (λ same. refl, λ same. refl)
same_decider_decides (decider.User a) (decider.User b) = Decides-like _ (ap decider.User) (λ same. cc) (Decides-eqb a b)
same_decider_decides decider.GroupObj decider.GroupObj = (λ same. refl, λ same. refl)
same_decider_decides (decider.Group a) (decider.Group b) = Decides-like _ (ap decider.Group) (λ same. cc) (Decides-eqb a b)
same_decider_decides decider.Mask decider.Mask = (λ same. refl, λ same. refl)
same_decider_decides decider.Other decider.Other = (λ same. refl, λ same. refl)
same_decider_decides decider.OwnerRule decider.OwnerRule = (λ same. refl, λ same. refl)
same_decider_decides _ _ = (λ same. cc, λ same. cc)

pub same_denial_decides : (a b : Denial) → Decides (same_denial a b) (a ≡ b)
same_denial_decides a b =
    Decides-like _ (λ same i. record { suite = same.0 i; wanted = record { 0 = same.1.0 i }; decider = same.1.1 i })
    (λ same. (ap (λ d. d.suite) same, (ap (λ d. d.wanted.0) same, ap (λ d. d.decider) same)))
    (Decides-and _ _ (Decides-eqb a.suite b.suite) (Decides-and _ _ (Decides-eqb a.wanted.0 b.wanted.0) (same_decider_decides a.decider b.decider)))

pub same_why_decides : (a b : Why) → Decides (same_why a b) (a ≡ b)
same_why_decides why.BadPath why.BadPath = (λ same. refl, λ same. refl)
same_why_decides why.NotFolder why.NotFolder = (λ same. refl, λ same. refl)
same_why_decides (why.Denied a) (why.Denied b) = Decides-like _ (ap why.Denied) (λ same. cc) (same_denial_decides a b)
same_why_decides why.NoName why.NoName = (λ same. refl, λ same. refl)
same_why_decides why.Exists why.Exists = (λ same. refl, λ same. refl)
same_why_decides why.IsFolder why.IsFolder = (λ same. refl, λ same. refl)
same_why_decides why.NotEmpty why.NotEmpty = (λ same. refl, λ same. refl)
same_why_decides why.TooLong why.TooLong = (λ same. refl, λ same. refl)
same_why_decides why.FolderFull why.FolderFull = (λ same. refl, λ same. refl)
same_why_decides why.OpCount why.OpCount = (λ same. refl, λ same. refl)
same_why_decides why.UnknownServer why.UnknownServer = (λ same. refl, λ same. refl)
same_why_decides why.DefaultOnFile why.DefaultOnFile = (λ same. refl, λ same. refl)
same_why_decides _ _ = (λ same. cc, λ same. cc)

pub same_refusal_decides : (a b : Refusal) → Decides (same_refusal a b) (a ≡ b)
same_refusal_decides a b =
    Decides-like _ (λ same i. record { op = same.0 i; why = same.1 i }) (λ same. (ap (λ r. r.op) same, ap (λ r. r.why) same))
    (Decides-and _ _ (Decides-eqb a.op b.op) (same_why_decides a.why b.why))

pub same_item_decides : (a b : AuditItem) → Decides (same_item a b) (a ≡ b)
same_item_decides a b =
    Decides-like _ (λ same i. record { t = same.0 i; uid = same.1.0 i; op = same.1.1.0 i; denial = same.1.1.1 i })
    (λ same. (ap (λ d. d.t) same, (ap (λ d. d.uid) same, (ap (λ d. d.op) same, ap (λ d. d.denial) same))))
    (Decides-and _ _ (Decides-eqb a.t b.t) (Decides-and _ _ (Decides-eqb a.uid b.uid) (Decides-and _ _ (Decides-eqb a.op b.op) (same_denial_decides a.denial b.denial))))
