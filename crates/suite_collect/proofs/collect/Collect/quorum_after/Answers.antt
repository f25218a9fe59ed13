use Rattle.suite_collect.proofs.Vocabulary.{◌≡◌, ℕ, List, ◌∷◌, ◌++◌, Option, None, Some, rules, ap, sym, subst, ◌∙◌, ◌==◌, find, contains, Exclusive, Prefix, Told, newest, holds, shown, greatest, Collector, first_members, members_of, version, tell}
use Rattle.std.specs.Prelude.{IfOk, unwrap_or}
use Rattle.suite_collect.specs.code.CollectFields.{widening_of}
use Rattle.suite_collect.specs.declared.read_point.ReadPoint.{ReadPoint}
use Rattle.suite_collect.specs.Answering.{read_point}
use Rattle.suite_collect.specs.Collecting as spec
use Rattle.suite_collect.proofs.collect.Collect.quorum_after.Goals as goal

abbrev gives : Prefix → ℕ → List Told → List ℕ → ReadPoint
gives prefix dver told members = record { prefix = prefix; dver = dver; source = unwrap_or (find (λ server. shown told server == dver) members) 0 }

pub returns-in-Some : goal.returns-in-Some
returns-in-Some c =
    let now = c.args.self.now.collector in
    let last = c.args.last.now in
    let w = widening_of c.in-Some.widening in
    let all = last ∷ (w.told ++ now.told) in
    let wide : now.widening ≡ Some w = search rules in
    let before : c.self.inside.told ≡ now.told = search rules in
    let told : c.add.new.self ≡ all = search rules in
    let held : contains c.holders.result ≡ holds Exclusive all = (λ i other. c.holders.ensures other i) ∙ ap (holds Exclusive) told in
    let members : c.members_of-members.result.items ≡ members_of w.votes (holds Exclusive all) = c.members_of-members.ensures.members ∙ ap (members_of w.votes) held in
    let prefix : c.newest.result.now ≡ newest now.start now.told = search rules in
    let dver : c.version.result ≡ version now = search rules in
    let same : gives c.newest.result.now c.version.result c.self.inside.told c.members_of-members.result.items ≡ read_point (tell last (record now { widening = Some w })) =
    λ i. gives (prefix i) (dver i) (before i) (members i) in
    subst (λ (point : ReadPoint). IfOk c.read_point.result (λ (one : ReadPoint). one ≡ point)) (subst (λ (w : Option spec.Widening). gives c.newest.result.now c.version.result c.self.inside.told c.members_of-members.result.items ≡ read_point (tell last (record now { widening = w }))) (sym wide) same) c.read_point.ensures

pub returns-in-None : goal.returns-in-None
returns-in-None c =
    let now = c.args.self.now.collector in
    let last = c.args.last.now in
    let after : Collector = record now { told = last ∷ now.told; widening = None } in
    let narrow : now.widening ≡ None = search rules in
    let told : c.add-in-None.new.self ≡ last ∷ now.told = search rules in
    let mode : c.self.inside.mode ≡ now.mode = search rules in
    let prefix : c.newer_of-newest.result.now ≡ newest now.start (last ∷ now.told) = search rules in
    let held : contains c.holders-in-None.result ≡ holds now.mode (last ∷ now.told) =
    (λ i other. c.holders-in-None.ensures other i) ∙ ap (λ mode. holds mode c.add-in-None.new.self) mode ∙ ap (holds now.mode) told in
    let members : c.members_of-members-in-None.result.items ≡ first_members after =
    c.members_of-members-in-None.ensures.members ∙ ap (λ (prefix : Prefix). members_of prefix.votes (contains c.holders-in-None.result)) (c.deref.ensures ∙ prefix) ∙ ap (members_of (newest now.start (last ∷ now.told)).votes) held in
    let dver : c.greatest-dver.result ≡ version after =
    c.greatest-dver.ensures ∙ ap (λ told. greatest told c.as_slice.result.now) told ∙ ap (greatest (last ∷ now.told)) (c.as_slice.ensures.value ∙ members) in
    let same : gives c.newer_of-newest.result.now c.greatest-dver.result c.add-in-None.new.self c.members_of-members-in-None.result.items ≡ read_point (tell last (record now { widening = None })) =
    λ i. gives (prefix i) (dver i) (told i) (members i) in
    subst (λ (point : ReadPoint). IfOk c.read_point-in-None.result (λ (one : ReadPoint). one ≡ point)) (subst (λ (w : Option spec.Widening). gives c.newer_of-newest.result.now c.greatest-dver.result c.add-in-None.new.self c.members_of-members-in-None.result.items ≡ read_point (tell last (record now { widening = w }))) (sym narrow) same) c.read_point-in-None.ensures
