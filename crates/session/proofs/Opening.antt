-- A journal that is opened.
use Rattle.std.proofs.Common.{◌≡◌, ◌∙◌, ◌<◌, ◌≤◌, ◌-◌, ◌+◌, ◌^◌, ◌==◌, ℕ, Bool, true, false, List, Option, Some, None, Ok, [], ap, arith, cond, length, refl, sym, subst, take}
use Rattle.std.proofs.lemmas.List.{length-take-le}
use Rattle.journal_file.specs.Files.{FileView, Locks, locked, rest_at}
use Rattle.line_session.specs.Replayed.{IsReplayed, ReplaysLines}
use Rattle.line_session.specs.declared.line_kind.LineKind.{LineKind}
use Rattle.session.specs.Extents.{IsExtentOf, extent_in, head}
use Rattle.session.specs.Opened.{CutsBehind, Opens, Restores, is_begun, kept_bytes}
use Rattle.session.specs.declared.extent.Extent.{Extent}
use Rattle.session.proofs.Extending.{fits_in}

is_some_line : (lines : ℕ) → (lines ≡ 0 → ⊥) → (lines == 0) ≡ false
is_some_line lines some = grind arith

begun : (bytes : List ℕ) → ((extent_in bytes).lines ≡ 0 → ⊥) → is_begun bytes ≡ true
begun bytes some = ap (λ (it : Bool). cond it false true) (is_some_line (extent_in bytes).lines some)

kept_is : (bytes : List ℕ) → ((extent_in bytes).lines ≡ 0 → ⊥) → kept_bytes bytes ≡ take (extent_in bytes).whole bytes
kept_is bytes some = ap (λ (it : Bool). cond it (take (extent_in bytes).whole bytes) head) (begun bytes some)

module _ {State : Type 0} (kind : State → List ℕ → LineKind) (next : State → List ℕ → State) (start later : State) where
  found : (view : FileView) (after : Option FileView) → (extent_in view.bytes).is_journal ≡ true → ((extent_in view.bytes).lines ≡ 0 → ⊥)
      → ReplaysLines kind next start (take (extent_in view.bytes).whole view.bytes) later → CutsBehind (extent_in view.bytes) (Some (locked view)) after
      → Opens kind next (Ok (record { size = (extent_in view.bytes).whole; lines = (extent_in view.bytes).lines - 1 })) start (Some view) later after
  found view after journal some replays cuts = λ few.
      let fits = fits_in view.bytes (grind arith) in
      let all_is = fits.all_is in
      let within = fits.within in
      record {
        is_journal = journal;
        after_is = subst (λ it. after ≡ Some (record { bytes = it; safe = length it; past = []; locked = true })) (sym (kept_is view.bytes some)) (cuts refl all_is within);
        size_is = sym (length-take-le (extent_in view.bytes).whole view.bytes (grind arith)) ∙ ap (λ it. length it) (sym (kept_is view.bytes some));
        lines_are = refl;
        restored = subst (λ it. Restores it kind next start view.bytes later) (sym (begun view.bytes some)) replays;
      }

  found_as : (view : FileView) (after : Option FileView) (extent : Extent) → extent ≡ extent_in view.bytes → extent.is_journal ≡ true → (extent.lines ≡ 0 → ⊥)
      → ReplaysLines kind next start (take extent.whole view.bytes) later → CutsBehind extent (Some (locked view)) after
      → Opens kind next (Ok (record { size = extent.whole; lines = extent.lines - 1 })) start (Some view) later after
  found_as view after extent is =
      subst (λ (it : Extent). it.is_journal ≡ true → (it.lines ≡ 0 → ⊥) → ReplaysLines kind next start (take it.whole view.bytes) later → CutsBehind it (Some (locked view)) after
      → Opens kind next (Ok (record { size = it.whole; lines = it.lines - 1 })) start (Some view) later after) (sym is) (found view after)

  pub opens_found : (told mid after : Option FileView) (extent : Extent) → Locks (Ok true) told mid → IsExtentOf (rest_at mid 0) extent → extent.is_journal ≡ true → (extent.lines ≡ 0 → ⊥)
      → IsReplayed kind next start (rest_at mid 0) extent.whole later → CutsBehind extent mid after
      → Opens kind next (Ok (record { size = extent.whole; lines = extent.lines - 1 })) start told later after
  opens_found None mid after extent locks = λ is journal some replays cuts. tt
  opens_found (Some view) mid after extent locks =
      subst (λ it. IsExtentOf (rest_at it 0) extent → extent.is_journal ≡ true → (extent.lines ≡ 0 → ⊥) → IsReplayed kind next start (rest_at it 0) extent.whole later → CutsBehind extent it after
      → Opens kind next (Ok (record { size = extent.whole; lines = extent.lines - 1 })) start (Some view) later after) (sym locks) (found_as view after extent)
