-- Words that are told to mend a line, one after another.
use Rattle.std.proofs.Common.{◌≡◌, ◌<◌, ◌≤◌, ◌+◌, ◌-◌, ◌%◌, ◌^◌, ℕ, Bool, arith, bytes_eq, cond, length, true, false, IsTrue, List, [], ◌∷◌, ◌++◌, refl, ◌∙◌, ap, sym, append_assoc, append-nil, subst}
use Rattle.std.specs.Prelude.{Contains, Some, decimal, codes, nat_lt}
use Rattle.std.specs.List.{AllByRecursion, filter, flat_map}
use Rattle.std.proofs.lemmas.Bool.{lt-ltb, ne_eqb}
use Rattle.std.proofs.lemmas.Fmt.{decimal_by_steps}
use Rattle.std.proofs.lemmas.Slice.Eq.{bytes_eq-Decides}
use Rattle.std.proofs.lemmas.List.Elements.{All-from_recursion}
use Rattle.std.proofs.lemmas.List.{length-append}
use Rattle.std.proofs.lemmas.List.Splits.{slice_split_none}
use Rattle.std.proofs.lemmas.Grind.{flat_map-append}
use Rattle.script_text.specs.Words.{is_blank, words}
use Rattle.suite_script.specs.Misfits.{line_misfit}
use Rattle.suite_script.specs.Words.{Word}
use Rattle.suite_script.specs.declared.form.FormEnding.TheVariants.{Operations}
use Rattle.suite_script.specs.declared.form.LineForm.{LineForm}
use Rattle.suite_script.specs.declared.misfit.Expected.TheVariants.{End}
use Rattle.suite_script.specs.declared.misfit.Misfit.{Misfit}
use Rattle.suite_script.specs.declared.scope.Scope.{Scope}
use Rattle.suite_script.specs.declared.form.Forms.{Forms}
use Rattle.forms.specs.Mends.{AreTold, Before, Instead, IsCut, IsMissing, IsShift, IsWord, Path, Missing, Many, IsTooMany, Mends, Without, all_of, field, is_verb, numbered, spaced}
use Rattle.forms.specs.declared.mend.Trial.{Trial}
use Rattle.forms.specs.code.Trials.{Adds, AddsFields, IsShiftIn, MendsIn}

-- what holds of each of two lists holds of each of both
both_all : {X : Type 0} (P : X → Type 0) (xs ys : List X) → AllByRecursion P xs → AllByRecursion P ys → AllByRecursion P (xs ++ ys)
both_all P [] ys first later = later
both_all P (x ∷ xs) ys first later = (first.0, both_all P xs ys first.1 later)

-- nothing is added
pub adds_none : (P : Word → Type 0) (old new : List ℕ) → new ≡ old → Adds P old new
adds_none P old new same = record { added = []; told = record { told = []; are_words = tt; all = tt; is = refl }; is = same ∙ sym (append-nil old) }

-- a word with a space behind it is added
pub adds_one : (P : Word → Type 0) (word : Word) (old new : List ℕ) → IsWord word → P word → new ≡ old ++ spaced word → Adds P old new
adds_one P word old new is_word holds same =
    record { added = spaced word; told = record { told = word ∷ []; are_words = (is_word, tt); all = (holds, tt); is = sym (append-nil (spaced word)) }; is = same }

-- words are added, and then others
pub adds_more : (P : Word → Type 0) (old middle new : List ℕ) → Adds P old middle → Adds P middle new → Adds P old new
adds_more P old middle new first later =
    record {
      added = first.added ++ later.added;
      told = record {
        told = first.told.told ++ later.told.told;
        are_words = both_all IsWord first.told.told later.told.told first.told.are_words later.told.are_words;
        all = both_all P first.told.told later.told.told first.told.all later.told.all;
        is = ap (λ text. text ++ later.added) first.told.is ∙ ap (λ text. flat_map spaced first.told.told ++ text) later.told.is
            ∙ sym (flat_map-append spaced first.told.told later.told.told);
      };
      is = later.is ∙ ap (λ text. text ++ later.added) first.is ∙ append_assoc old first.added later.added;
    }

-- all that was added to nothing
pub told_all : (P : Word → Type 0) (text : List ℕ) → Adds P [] text → AreTold P text
told_all P text adds = record { told = adds.told.told; are_words = adds.told.are_words; all = adds.told.all; is = adds.is ∙ adds.told.is }

-- a text that has one word, which is all of it
pub one_word : (text word : Word) (rest : List Word) (same : Bool) → words text ≡ word ∷ rest → rest ≡ [] → same ≡ bytes_eq word text → IsTrue same → IsWord text
one_word text word rest true is none same holds = is ∙ ap (λ more. word ∷ more) none ∙ ap (λ one. one ∷ []) ((bytes_eq-Decides word text).0 (sym same))
one_word text word rest false is none same holds = let no : false ≡ true = holds in cc

-- a word of digits is one word
digit_stays : (d : ℕ) → is_blank (48 + d) ≡ false
digit_stays d = rw (ne_eqb (48 + d) 32 (λ same. omega (arith, same)), ne_eqb (48 + d) 9 (λ same. omega (arith, same))) refl

record HasDigits (text : List ℕ) : Type 0 where
  unblank : AllByRecursion (λ byte. is_blank byte ≡ false) text
  some : 0 < length text

one_digit : (n : ℕ) → n < 10 → HasDigits ((48 + n) ∷ [])
one_digit n digit = record { unblank = (digit_stays n, tt); some = omega arith }

digit_more : (n : ℕ) (text : List ℕ) → 10 ≤ n → HasDigits text → HasDigits (text ++ (48 + n % 10) ∷ [])
digit_more n text large has = record {
  unblank = both_all (λ byte. is_blank byte ≡ false) text ((48 + n % 10) ∷ []) has.unblank (digit_stays (n % 10), tt);
  some = omega (arith, has.some, length-append text ((48 + n % 10) ∷ []));
}

unblank_word : (text : List ℕ) → HasDigits text → IsWord text
unblank_word [] has = absurd (omega (arith, has.some))
unblank_word (byte ∷ text) has =
    ap (filter (λ word. nat_lt 0 (length word))) (slice_split_none is_blank (byte ∷ text) (All-from_recursion (λ one. is_blank one ≡ false) (byte ∷ text) has.unblank))
    ∙ ap (λ (is_some : Bool). cond is_some ((byte ∷ text) ∷ []) []) (lt-ltb 0 (length (byte ∷ text)) has.some)

pub decimal_word : (n : ℕ) → n < 2 ^ 64 → IsWord (decimal n)
decimal_word n small = unblank_word (decimal n) (decimal_by_steps (λ n text. HasDigits text) one_digit digit_more n small)

-- the number of a word is added, and a space
adds_number : (scope : Scope) (forms : Forms) (line : List ℕ) (at : ℕ) (old new : List ℕ) → at < 2 ^ 64 → Mends scope forms line at Without
    → new ≡ (old ++ decimal at) ++ codes " " → Adds (IsTooMany scope forms line) old new
adds_number scope forms line at old new small mends is =
    adds_one (IsTooMany scope forms line) (decimal at) old new (decimal_word at small) (record { at = at; is = refl; mends = mends }) (is ∙ append_assoc old (decimal at) (codes " "))

-- the same behind others
pub adds_next : (scope : Scope) (forms : Forms) (line : List ℕ) (at : ℕ) (old new : List ℕ) → Adds (IsTooMany scope forms line) [] old → at < 2 ^ 64
    → Mends scope forms line at Without → new ≡ (old ++ decimal at) ++ codes " " → Adds (IsTooMany scope forms line) [] new
adds_next scope forms line at old new adds small mends is =
    adds_more (IsTooMany scope forms line) [] old new adds (adds_number scope forms line at old new small mends is)

-- what is told of a word too many or too few
pub path_told : (scope : Scope) (forms : Forms) (line text : List ℕ) → IsCut scope forms line → text ≡ codes "path" → IsShift scope forms line text
path_told scope forms line text cut is = subst (IsShift scope forms line) (sym is) (Path cut)

pub missing_told : (scope : Scope) (forms : Forms) (line text : List ℕ) → IsMissing scope forms line → text ≡ codes "missing" → IsShift scope forms line text
missing_told scope forms line text missing is = subst (IsShift scope forms line) (sym is) (Missing missing)

pub none_told : (scope : Scope) (forms : Forms) (line text : List ℕ) → text ≡ [] → IsShift scope forms line text
none_told scope forms line text is = Many text (record { told = []; are_words = tt; all = tt; is = is })

pub many_told : (scope : Scope) (forms : Forms) (line text : List ℕ) → Adds (IsTooMany scope forms line) [] text → IsShift scope forms line text
many_told scope forms line text adds = Many text (told_all (IsTooMany scope forms line) text adds)

pub is_cut : (scope : Scope) (forms : Forms) (line : List ℕ) (form : LineForm) (first : Word) (rest : List Word) (misfit : Misfit) → Contains (all_of forms) form → words line ≡ first ∷ rest
    → form.word.now ≡ first → form.ending ≡ Operations → line_misfit scope form.places.now form.ending rest ≡ Some misfit → misfit.expected ≡ End
    → is_verb (numbered (misfit.number - 1) (words line)) ≡ false → IsCut scope forms line
is_cut scope forms line form first rest misfit is_one is_line begins has_operations misfits ends before =
    record {
      form = form;
      rest = rest;
      misfit = misfit;
      is_one = is_one;
      is_line = is_line ∙ ap (λ one. one ∷ rest) (sym begins);
      has_operations = has_operations;
      misfits = misfits;
      ends = ends;
      before = before;
    }

pub is_missing : (scope : Scope) (forms : Forms) (line : List ℕ) (at : ℕ) (word : Word) → Mends scope forms line at (Before word) → IsMissing scope forms line
is_missing scope forms line at word mends = record { at = at; word = word; mends = mends }

-- three fields, one after another
pub fields_added : (trial : Trial) (at : ℕ) (old one two new instead before shift : List ℕ)
    → AreTold (λ word. MendsIn trial at (Instead word)) instead → AreTold (λ word. MendsIn trial at (Before word)) before → IsShiftIn trial shift
    → one ≡ old ++ field instead → two ≡ one ++ field before → new ≡ two ++ field shift → AddsFields trial at old new
fields_added trial at old one two new instead before shift each_instead each_before is_shift one_is two_is new_is =
    record {
      added = field instead ++ field before ++ field shift;
      mends = record { instead = instead; before = before; shift = shift; each_instead = each_instead; each_before = each_before; is_shift = is_shift; is = refl };
      is = new_is ∙ ap (λ text. text ++ field shift) (two_is ∙ ap (λ text. text ++ field before) one_is ∙ append_assoc old (field instead) (field before))
          ∙ append_assoc old (field instead ++ field before) (field shift);
    }
