-- What stays of a collector once it is widened.
use Rattle.suite_collect.proofs.Vocabulary.{◌≡◌, true, List, [], ◌∷◌, Option, Some, None, is_some, refl, sym, ap, ◌∙◌, Prefix, LockMode, Told, newest, Widening, Collector, raised, widen, tell_at, version, source, next, told_by, Step, Raise}
use Rattle.suite_collect.proofs.Vocabulary.{Widen, Take, told_or, after_step, after_all, IsKept, PrefixAndVersionStay}
use Rattle.suite_collect.proofs.Collected.{gives_of}

-- it is widened, and all that prefix and version follow from is as before
record IsFixed (before after : Collector) : Type 0 where
  start : after.start ≡ before.start
  mode : after.mode ≡ before.mode
  told : after.told ≡ before.told
  wide : is_some after.widening ≡ true

fixed_told : (before c : Collector) (one : Told) (w : Option Widening) → is_some w ≡ true → IsFixed before c → IsFixed before (tell_at w one c)
fixed_told before c one (Some widening) wide fixed = record { start = fixed.start; mode = fixed.mode; told = fixed.told; wide = refl }
fixed_told before c one None wide fixed = cc

not_raised : (w : Option Widening) (mode : LockMode) → is_some w ≡ true → raised w mode ≡ mode
not_raised (Some widening) mode wide = refl
not_raised None mode wide = cc

fixed_step : (before c : Collector) (step : Step) → IsFixed before c → IsFixed before (after_step c step)
fixed_step before c Raise fixed = record { start = fixed.start; mode = not_raised c.widening c.mode fixed.wide ∙ fixed.mode; told = fixed.told; wide = fixed.wide }
fixed_step before c (Widen votes) fixed = record { start = fixed.start; mode = fixed.mode; told = fixed.told; wide = refl }
fixed_step before c (Take reply) fixed = of (told_by (next c) reply)
  where
    of : (said : Option Told) → IsFixed before (told_or said c)
    of (Some one) = fixed_told before c one c.widening fixed.wide fixed
    of None = fixed

fixed_all : (before c : Collector) (steps : List Step) → IsFixed before c → IsFixed before (after_all c steps)
fixed_all before c [] fixed = fixed
fixed_all before c (step ∷ steps) fixed = fixed_all before (after_step c step) steps (fixed_step before c step fixed)

-- so what is a function of these is the same
same : {X : Type 0} (f : Prefix → LockMode → List Told → X) (before after : Collector) → IsFixed before after → f after.start after.mode after.told ≡ f before.start before.mode before.told
same f before after fixed =
    ap (λ start. f start after.mode after.told) fixed.start
    ∙ ap (λ mode. f before.start mode after.told) fixed.mode
    ∙ ap (f before.start before.mode) fixed.told

abbrev narrow : Prefix → LockMode → List Told → Collector
narrow start mode told = record { start = start; mode = mode; told = told; widening = None }

kept : (before after : Collector) → IsFixed before after → IsKept before after
kept before after fixed =
    let prefix : newest after.start after.told ≡ newest before.start before.told = same (λ start mode told. newest start told) before after fixed in
    let same_version : version after ≡ version before = same (λ start mode told. version (narrow start mode told)) before after fixed in
    record {
      same_prefix = prefix;
      same_version = same_version;
      same_source = same (λ start mode told. source (narrow start mode told)) before after fixed;
      current = λ shown dver members is.
          let gives = gives_of after shown dver members is in
          (sym gives.prefix_is ∙ prefix, sym gives.version_is ∙ same_version);
    }

pub prefix_and_version_stay : PrefixAndVersionStay
prefix_and_version_stay c votes steps =
    kept c (after_all (widen votes c) steps) (fixed_all c (widen votes c) steps (record { start = refl; mode = refl; told = refl; wide = refl }))
