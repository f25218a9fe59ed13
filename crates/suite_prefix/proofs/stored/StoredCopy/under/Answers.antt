use Rattle.suite_prefix.proofs.Vocabulary.{rules, ◌≡◌, ◌∷◌, ◌++◌, false, sym, subst, ap, ◌∙◌, if◌then◌else◌, w64, to_be_bytes, empty_content, Two, bytes_of, content_bytes, prefix_bytes, held_by, is_absent, under, Head, IsRecord, kept_in}
use Rattle.std.specs.Arc.{arc_value}
use Rattle.suite_prefix.proofs.Records.{is_record, kept_of_bytes}
use Rattle.suite_prefix.proofs.stored.StoredCopy.under.Goals as goal

pub kept-requires : goal.kept-requires
kept-requires c =
    let items = c.extend_from_slice-2.new.self.items in
    let same : items ≡ (arc_value c.in_ok-shared.shared).items = ap (λ v. v.items) (sym c.in_ok-shared.ensures.ok) in
    let copy = under c.args.prefix.now c.args.self.now.copy in
    let made : is_absent c.args.self.now.copy.prefix.kind ≡ false = ap (λ (head : Head). is_absent head.identity.kind) (sym (c.head.view_is ∙ c.parts-head.ensures.head)) ∙ search rules in
    let stays : copy.content ≡ c.args.self.now.copy.content = ap (λ b. if b then empty_content (held_by c.args.prefix.now.kind) else c.args.self.now.copy.content) made in
    let dver : c.head.inside.dver ≡ c.args.self.now.copy.dver = ap (λ (head : Head). head.dver) (c.head.view_is ∙ c.parts-head.ensures.head) in
    let built : items ≡ ((2 ∷ prefix_bytes Two c.args.prefix.now) ++ to_be_bytes w64 c.head.inside.dver) ++ c.parts-head.result.1.now = search rules in
    let are : items ≡ bytes_of copy = built ∙ ap (λ d. ((2 ∷ prefix_bytes Two c.args.prefix.now) ++ to_be_bytes w64 d) ++ c.parts-head.result.1.now) dver
    ∙ ap (λ t. ((2 ∷ prefix_bytes Two c.args.prefix.now) ++ to_be_bytes w64 c.args.self.now.copy.dver) ++ t) (c.parts-head.ensures.content ∙ ap content_bytes (sym stays)) in
    subst IsRecord same (is_record items Two copy c.requires tt are)

pub returns : goal.returns
returns c =
    let items = c.extend_from_slice-2.new.self.items in
    let same : items ≡ (arc_value c.in_ok-shared.shared).items = ap (λ v. v.items) (sym c.in_ok-shared.ensures.ok) in
    let copy = under c.args.prefix.now c.args.self.now.copy in
    let made : is_absent c.args.self.now.copy.prefix.kind ≡ false = ap (λ (head : Head). is_absent head.identity.kind) (sym (c.head.view_is ∙ c.parts-head.ensures.head)) ∙ search rules in
    let stays : copy.content ≡ c.args.self.now.copy.content = ap (λ b. if b then empty_content (held_by c.args.prefix.now.kind) else c.args.self.now.copy.content) made in
    let dver : c.head.inside.dver ≡ c.args.self.now.copy.dver = ap (λ (head : Head). head.dver) (c.head.view_is ∙ c.parts-head.ensures.head) in
    let built : items ≡ ((2 ∷ prefix_bytes Two c.args.prefix.now) ++ to_be_bytes w64 c.head.inside.dver) ++ c.parts-head.result.1.now = search rules in
    let are : items ≡ bytes_of copy = built ∙ ap (λ d. ((2 ∷ prefix_bytes Two c.args.prefix.now) ++ to_be_bytes w64 d) ++ c.parts-head.result.1.now) dver
    ∙ ap (λ t. ((2 ∷ prefix_bytes Two c.args.prefix.now) ++ to_be_bytes w64 c.args.self.now.copy.dver) ++ t) (c.parts-head.ensures.content ∙ ap content_bytes (sym stays)) in
    c.kept.ensures ∙ ap kept_in (sym same) ∙ kept_of_bytes items Two copy c.requires tt are
