use Rattle.explore.proofs.Vocabulary.{◌≡◌, ◌∙◌, ℕ, false, List, Global, None, Some, Vec, ap, map, refl, sym, list_any, position, bytes_eq, printed_in, ways_in}
use Rattle.explore.specs.Ways.{Printed}
use Rattle.explore.proofs.Joining.{same_lines, text_last, text_place, texts_added, way_added}
use Rattle.explore.proofs.ways.JoinedWays.add.Goals as goal

pub returns-in-Some-clause-texts : goal.returns-in-Some-clause-texts
returns-in-Some-clause-texts c =
    let way = printed_in c.args.next in
    ap (λ texts. map (λ (text : Vec ℕ Global). text.items) texts.keys) c.add_ends.ensures.texts
    ∙ c.requires.texts
    ∙ sym (same_lines (ways_in c.args.self.now.ways.items) way c.in-Some.place)
    ∙ sym (ap (map (λ (one : Printed). one.lines)) (c.add_ends.ensures.ways way refl))

pub returns-in-Some-clause-ways : goal.returns-in-Some-clause-ways
returns-in-Some-clause-ways c =
    let way = printed_in c.args.next in
    let keys = c.args.self.now.texts.keys in
    let here : position (λ (text : Vec ℕ Global). bytes_eq c.args.next.lines.items text.items) keys ≡ Some c.in-Some.place =
    ap (λ (lines : List ℕ). position (λ (text : Vec ℕ Global). bytes_eq lines text.items) keys) (sym c.as_slice.ensures.value) ∙ sym c.in-Some.ensures.index
    in
    c.add_ends.ensures.ways way refl
    ∙ text_place (λ (text : Vec ℕ Global). text.items) keys (ways_in c.args.self.now.ways.items) way (Some c.in-Some.place) c.requires.texts here

pub returns-in_ok-push-in-None-clause-texts : goal.returns-in_ok-push-in-None-clause-texts
returns-in_ok-push-in-None-clause-texts c =
    let keys = c.args.self.now.texts.keys in
    let text = c.in_ok-text-in-None.text in
    let its : text.items ≡ c.args.next.lines.items = c.in_ok-text-in-None.ensures.items ∙ c.deref.ensures.value in
    let none : list_any (λ (one : Vec ℕ Global). bytes_eq c.args.next.lines.items one.items) keys ≡ false =
    ap (λ (lines : List ℕ). list_any (λ (one : Vec ℕ Global). bytes_eq lines one.items) keys) (sym c.as_slice.ensures.value) ∙ sym c.in-None.ensures.found
    in
    texts_added (λ (one : Vec ℕ Global). one.items) printed_in keys c.insert.new.self.keys c.args.self.now.ways.items c.push.new.self.items text c.args.next c.requires.texts
    (text_last (λ (one : Vec ℕ Global). one.items) keys c.insert.new.self.keys text c.args.next.lines.items its none c.in_ok-insert-in-None.ensures.keys)
    c.in_ok-push-in-None.ensures.items its

pub returns-in_ok-push-in-None-clause-ways : goal.returns-in_ok-push-in-None-clause-ways
returns-in_ok-push-in-None-clause-ways c =
    let way = printed_in c.args.next in
    let keys = c.args.self.now.texts.keys in
    let here : position (λ (text : Vec ℕ Global). bytes_eq c.args.next.lines.items text.items) keys ≡ None =
    ap (λ (lines : List ℕ). position (λ (text : Vec ℕ Global). bytes_eq lines text.items) keys) (sym c.as_slice.ensures.value) ∙ sym c.in-None.ensures.index
    in
    way_added printed_in c.args.self.now.ways.items c.push.new.self.items c.args.next c.in_ok-push-in-None.ensures.items
    ∙ text_place (λ (text : Vec ℕ Global). text.items) keys (ways_in c.args.self.now.ways.items) way None c.requires.texts here
