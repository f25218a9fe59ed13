use Rattle.weak_cache.proofs.Vocabulary.{◌≡◌, ◌≤◌, ◌<◌, not, length, sym, ap, ◌∙◌, subst, arith, filter, is_some, option_copied, Cache, is_of, entry_of, stays}
use Rattle.weak_cache.proofs.Beside.{all_stay, one_for_one, last_goes, others_kept, none_copied, some_copied}
use Rattle.weak_cache.proofs.Found.{none_stays}
use Rattle.weak_cache.proofs.Shelving.{no_last}
use Rattle.weak_cache.proofs.stock.Stock.find_beside.Goals as goal
use Rattle.weak_cache.proofs.stock.Stock.find_beside.Goals.{else-is_full-via-then-is_full+then-is_none+in_ok-oldest+else-is_of, else-is_full-via-then-is_full+else-is_none, else-is_full-via-else-is_full}

pub returns-in_err-found : goal.returns-in_err-found
returns-in_err-found c =
    let n = c.args.new in
    ap option_copied c.from_residual.ensures
    ∙ none_stays c.args.site c.args.suite n.site n.suite n.quota n.budget n.slots c.args.self.now (sym c.find.ensures ∙ ap option_copied c.in_err-found.was)

pub returns-in_err-oldest : goal.returns-in_err-oldest
returns-in_err-oldest c =
    let empty = no_last c.args.self.now (sym c.oldest.ensures ∙ ap option_copied c.in_err-oldest.was) in
    let e = sym (sym c.find.ensures ∙ ap option_copied c.in_ok-found.was) ∙ ap (λ l. entry_of l c.args.site c.args.suite) empty in absurd (cc e)

pub returns-then-is_of : goal.returns-then-is_of
returns-then-is_of c =
    let n = c.args.new in
    let all = c.args.self.now in
    let bytes = c.all_have_bytes.ensures.0 c.if-not-all_have_bytes.false in
    let above : n.slots < length all = omega (arith, c.if-is_full.true, c.self.invariant.counted.count, ap length c.self.view_is) in
    let none = sym c.find-then-is_full.ensures ∙ none_copied c.find-then-is_full.result (c.is_none.ensures ∙ ap not c.if-is_none.true) in
    let once = subst (λ (l : Cache). length (filter (is_of c.args.site c.args.suite) l) ≤ 1) c.self.view_is (c.self.invariant.once c.args.site c.args.suite) in
    last_goes n.site n.suite n.quota n.budget n.slots all c.in_ok-oldest.field-0.now bytes c.requires.few above none
    (sym c.oldest.ensures ∙ ap option_copied c.in_ok-oldest.was) c.args.site c.args.suite once (sym c.is_of.ensures ∙ c.if-is_of.true)

pub returns : goal.returns
returns c =
    let n = c.args.new in
    let all = c.args.self.now in
    let bytes = c.all_have_bytes.ensures.0 c.if-not-all_have_bytes.false in
    let kept : entry_of all c.args.site c.args.suite ≡ entry_of (stays n.site n.suite n.quota n.budget n.slots all) c.args.site c.args.suite = elim c.else-is_full.branch [
      | else-is_full-via-then-is_full+then-is_none+in_ok-oldest+else-is_of w ↦
          let above : n.slots < length all = omega (arith, w.if-is_full.true, c.self.invariant.counted.count, ap length c.self.view_is) in
          let none = sym w.find-then-is_full.ensures ∙ none_copied w.find-then-is_full.result (w.is_none.ensures ∙ ap not w.if-is_none.true) in
          others_kept n.site n.suite n.quota n.budget n.slots all w.in_ok-oldest.field-0.now bytes c.requires.few above none
          (sym w.oldest.ensures ∙ ap option_copied w.in_ok-oldest.was) c.args.site c.args.suite (sym w.is_of.ensures ∙ w.if-is_of.false)
      | else-is_full-via-then-is_full+else-is_none w ↦
          let there = ap is_some (sym w.find-then-is_full.ensures) ∙ some_copied w.find-then-is_full.result (w.is_none.ensures ∙ ap not w.if-is_none.false) in
          one_for_one c.args.site c.args.suite n.site n.suite n.quota n.budget n.slots all c.requires.other bytes c.requires.few there
      | else-is_full-via-else-is_full w ↦
          let few : length all ≤ n.slots = omega (arith, w.if-is_full.false, c.self.invariant.counted.count, ap length c.self.view_is) in
          all_stay c.args.site c.args.suite n.site n.suite n.quota n.budget n.slots all c.requires.other bytes few
    ] in
    sym (sym c.find.ensures ∙ ap option_copied c.in_ok-found.was) ∙ kept
