-- What a parse comes to, by where the words of a command line stand.
use Rattle.std.proofs.Common.{◌≡◌, ◌∙◌, ap, sym, subst, refl, codes, arith, ℕ, Bool, true, false, ◌+◌, ◌≤◌, ◌==◌, ◌||◌, ◌⊎◌, ◌++◌, List, [], ◌∷◌, length, map, find, fold}
use Rattle.std.proofs.Common.{Option, Some, None, is_some, Result, Ok, Err, inl, inr, if◌then◌else◌, option_and_then, slice_get, slice_index_or, bytes_eq, append-nil, append_assoc, length-append}
use Rattle.std.proofs.lemmas.Bool.{cases_Bool}
use Rattle.std.proofs.lemmas.Bool.Decides.{nat_tests}
use Rattle.std.proofs.lemmas.Slice.Eq.{bytes_eq-Decides}
use Rattle.std.specs.List.{list_all}
use Rattle.std.specs.Option.{option_map_or}
use Rattle.std.specs.Str.{chars}
use Rattle.clap.proofs.WalkLemmas.{both}
use Rattle.clap.specs.Faults.{bundle_fault, bundle_step_fault, check_fault, defaults_fault, entered_fault, fault_of, flag_word_fault, flags_fault, level_fault, long_fault}
use Rattle.clap.specs.Faults.{settle_fault, short_fault, step_fault, turn_fault, walk_fault}
use Rattle.clap.specs.Kinds.{IsAmong, Kinds, or_else, range_kinds, values_kinds}
use Rattle.clap.specs.Lexer.{long_of, short_of, usize_max}
use Rattle.clap.specs.Simple.{App, Shape, built, entered, filled, help_rule, names_of, new_shape, subcommand_of}
use Rattle.clap.specs.Walk.{Held, Names, Row, Rule, Step, Text, Waiting, Walk, after_flag, after_step, arg_by_long, arg_by_short, bundle_met, bundle_step, finished, idle, long_met, long_or_other}
use Rattle.clap.specs.Walk.{nothing_held, option as option_waits, plain, plain_word, positional, reacted, settled, short_or_plain, subcommand_met, used, walk_from, walked}
use Rattle.clap.specs.declared.builder.value_parser.ValueParser.TheVariants as vp
use Rattle.clap.specs.declared.error.kind.ErrorKind.{ErrorKind}
use Rattle.clap.specs.declared.error.kind.ErrorKind.TheVariants.{DisplayHelp, OutOfMemory, TooManyValues, UnknownArgument}
use Rattle.suite_args.specs.Answering.{Answers, AnswersServe, AnswersTo, asked_in}
use Rattle.suite_args.specs.CommandLine.{Asked, Known, Token, agents, agents_of, asked_after, asked_at_end, asked_by, asked_of, awaited, commands, ends, help, helps}
use Rattle.suite_args.specs.CommandLine.{names, nothing, operand, option_or_operand, script, serves, short_option, told, tokens, topic, unknown, unnamed, untold, with_token}
use Rattle.suite_args.specs.code.Commands.{agents_rule, suites}
use Rattle.suite_args.specs.declared.request.ArgsError.{ArgsError}
use Rattle.suite_args.specs.declared.request.ArgsError.TheVariants.{CommandLine, Memory}
use Rattle.suite_args.specs.declared.request.Invocation.{Invocation}
use Rattle.suite_args.specs.declared.request.Invocation.TheVariants.{Help}
use Rattle.suite_args.specs.declared.script.Script.{Script}
use Rattle.suite_args.specs.declared.script.Script.TheVariants.{Play, Table}

-- whether an error of this kind may come of words that ask for this
abbrev allows : Asked → ErrorKind → Bool
allows help DisplayHelp = true
allows topic kind = true
allows nothing DisplayHelp = false
allows nothing kind = true
allows asked kind = false

-- the faults of a parse, or what its matches ask for where it has none, fit what the words ask for
abbrev pub Meets : Asked → Kinds → Asked → Type 0
Meets asked [] found = found ≡ asked
Meets asked (kind ∷ kinds) found = list_all (allows asked) (kind ∷ kinds) ≡ true

-- ---- a word that is not `--`

-- what holds of a word holds where it is this one, and where it is not
decide : (name word : Text) (P : Text → Type 0) → P name → (bytes_eq name word ≡ false → P word) → P word
decide name word P same other = elim (cases_Bool (bytes_eq name word)) [ inl e ↦ subst P ((bytes_eq-Decides name word).0 e) same | inr e ↦ other e ]

abbrev help_flag : Rule
help_flag = filled help_rule

abbrev own : Bool → Option Rule
own true = Some (filled agents_rule)
own false = None

abbrev found_by : Bool → Bool → Bool → Option Rule
found_by true is_own is_help = if (is_own || false) then own true else (if (is_help || false) then Some help_flag else None)
found_by false is_own is_help = if (is_help || false) then Some help_flag else None

-- the rules have no option but help, and `--agents` where it is taken
record Knows (takes : Bool) (rules : List Rule) : Type 0 where
  long : (name : Text) → arg_by_long rules name ≡ found_by takes (bytes_eq (codes "agents") name) (bytes_eq (codes "help") name)
  short : (flag : ℕ) → arg_by_short rules flag ≡ (if (104 == flag || false) then Some help_flag else None)

not_both : (name : Text) → bytes_eq (codes "agents") name ≡ true → bytes_eq (codes "help") name ≡ false
not_both name is = subst (λ (n : Text). bytes_eq (codes "help") n ≡ false) ((bytes_eq-Decides (codes "agents") name).0 is) refl

abbrev held_so_far : List Row → Option (Text × List Text) → Held
held_so_far rows pending = record { rows = rows; pending = pending; skip = 0 }

help_at_once : (kinds next : Kinds) → or_else (or_else kinds (DisplayHelp ∷ [])) next ≡ or_else kinds (DisplayHelp ∷ [])
help_at_once [] next = refl
help_at_once (kind ∷ kinds) next = refl

module _ (rules : List Rule) (again : Bool) (rows : List Row) (pending : Option (Text × List Text)) (waiting : Waiting) (word : Text) where
  abbrev h : Held
  h = held_so_far rows pending

  -- the faults of the word, and where it leads
  abbrev Reads : Bool → Token → Kinds → Held × Step → Type 0
  Reads takes ends faults met = ⊥
  Reads takes helps faults met = faults ≡ or_else (settle_fault rules again h) (DisplayHelp ∷ [])
  Reads takes unknown faults met = (kind : ErrorKind) × ((faults ≡ kind ∷ []) × (allows nothing kind ≡ true))
  Reads takes (agents value) faults met = (faults ≡ long_fault rules again (own takes) value h)
      × (met ≡ after_flag rules waiting word (long_met rules (own takes) value h).0 (long_met rules (own takes) value h).1)
  Reads takes (operand text) faults met = (text ≡ word) × (faults ≡ []) × (met ≡ plain_word rules waiting word h)

  by_name : (takes is_own is_help : Bool) (value : Option Text) (found : Option Rule) → (is_own ≡ true → is_help ≡ false) → found ≡ found_by takes is_own is_help
      → Reads takes (if is_own then agents value else (if is_help then (if is_some value then unknown else helps) else unknown)) (long_fault rules again found value h)
      (after_flag rules waiting word (long_met rules found value h).0 (long_met rules found value h).1)
  by_name true true is_help value found either is = rw is (refl, refl)
  by_name false true is_help value found either is = rw (is, either refl) (refl, refl)
  by_name true false true None found either is = rw is refl
  by_name false false true None found either is = rw is refl
  by_name true false true (Some value) found either is = rw is (TooManyValues, (refl, refl))
  by_name false false true (Some value) found either is = rw is (TooManyValues, (refl, refl))
  by_name true false false value found either is = rw is (UnknownArgument, (refl, refl))
  by_name false false false value found either is = rw is (UnknownArgument, (refl, refl))

  by_flag : (takes is_help : Bool) (rest : Text) (next : Held → Kinds) (found : Option Rule) → found ≡ (if (is_help || false) then Some help_flag else None) → (met : Held × Step)
      → Reads takes (if is_help then helps else unknown) (short_fault rules again found rest h next) met
  by_flag takes true rest next found is met = rw is (help_at_once (settle_fault rules again h) (next (reacted rules help_flag [] h)))
  by_flag takes false rest next found is met = rw is (UnknownArgument, (refl, refl))

  module _ (takes : Bool) (knows : Knows takes rules) where
    by_char : (flag : Option ℕ) (x : ℕ) (rest : Text)
        → Reads takes (option_map_or short_option flag (operand word)) (bundle_step_fault rules again flag (x ∷ rest) 0 h (flags_fault rules again (length rest)))
        (after_flag rules waiting word (bundle_step rules flag (x ∷ rest) 0 plain h (bundle_met rules (length rest))).0 (bundle_step rules flag (x ∷ rest) 0 plain h (bundle_met rules (length rest))).1)
    by_char None x rest = (refl, refl, refl)
    by_char (Some flag) x rest = by_flag takes (104 == flag) _ _ _ (knows.short flag) _

    by_flags : (flags : Option Text) → Reads takes (option_map_or short_option (option_and_then (λ f. slice_get (chars f) 0) flags) (operand word)) (option_map_or (λ f. bundle_fault rules again f h) flags []) (short_or_plain rules waiting word flags h)
    unfolding flags_fault bundle_met chars
    by_flags None = (refl, refl, refl)
    by_flags (Some []) = (refl, refl, refl)
    by_flags (Some (x ∷ rest)) = by_char (slice_get (chars (x ∷ rest)) 0) x rest

    by_option : (option : Option (Text × Option Text)) → Reads takes (option_or_operand option word) (flag_word_fault rules again option word h) (long_or_other rules waiting word option h)
    by_option None = by_flags (short_of word)
    by_option (Some option) =
        by_name takes (bytes_eq (codes "agents") option.0) (bytes_eq (codes "help") option.0) option.1 _ (not_both option.0) (knows.long option.0)

-- ---- where words stand behind a command

-- behind names, at a script, or by what is known of the number of agents; a text for it that is no part of its word waits to be
-- counted, and where the number is told again, perhaps with this text, nothing is right from there
data Stand : Type 0 where
  at_acl at_serve waits : Stand
  after_names : Text → List Text → Stand
  at_script : Script → Stand
  given counted : Text → Stand
  retold : Text → Option Text → Stand

abbrev program : App
program = built suites

abbrev shape_of : Stand → Shape
shape_of at_acl = slice_index_or program.subs 0 (new_shape [])
shape_of (after_names name more) = slice_index_or program.subs 0 (new_shape [])
shape_of (at_script Table) = slice_index_or program.subs 1 (new_shape [])
shape_of (at_script Play) = slice_index_or program.subs 2 (new_shape [])
shape_of stand = slice_index_or program.subs 3 (new_shape [])

-- what is known there, what was counted, what waits for that, and what waits for a word
abbrev place : Stand → Known × List Row × Option (Text × List Text) × Waiting
place at_acl = (names [], [], None, idle)
place (after_names name more) = (names (name ∷ more), [], Some (codes "NAME", name ∷ more), positional)
place (at_script kind) = (script kind, [], None, idle)
place at_serve = (untold, [], None, idle)
place waits = (awaited, [], Some (codes "agents", []), option_waits (codes "agents"))
place (given text) = (told text, [], Some (codes "agents", text ∷ []), idle)
place (counted text) = (told text, used (filled agents_rule) (text ∷ []) [], None, idle)
place (retold text None) = (awaited, used (filled agents_rule) (text ∷ []) [], Some (codes "agents", []), option_waits (codes "agents"))
place (retold text (Some more)) = (awaited, used (filled agents_rule) (text ∷ []) [], Some (codes "agents", more ∷ []), idle)

abbrev known_of : Stand → Known
known_of stand = (place stand).0

abbrev held_of : Stand → Held
held_of stand = held_so_far (place stand).1 (place stand).2

abbrev walk_of : Bool → Stand → Walk
walk_of ended stand = record { held = held_of stand; waiting = (place stand).3; position = 1; is_trailing = ended; stopped = None }

-- what is checked after the words
abbrev checks_of : Shape → Held → Bool → Kinds
checks_of s end has =
    or_else (settle_fault s.rules s.args_override_self end)
    (or_else (defaults_fault (settled s.rules end).rows s.rules) (check_fault s (finished s.rules end) has))

-- the words from where a walk stands ask for this, by what is checked and found after them
module _ (s : Shape) (below : Names) (checks : Walk → Kinds) (found : Walk → Asked) (asked : Asked) where
  abbrev MeetsOn : Walk → List Text → Type 0
  MeetsOn w words = let end = fold (walked s.rules below) w words in Meets asked (or_else (walk_fault s below w words) (checks end)) (found end)

  goes_on : (w next : Walk) (word : Text) (words : List Text) → turn_fault s below w word ≡ [] → walked s.rules below w word ≡ next → MeetsOn next words → MeetsOn w (word ∷ words)
  unfolding walk_fault
  goes_on w next word words right there later =
      let end = fold (walked s.rules below) (walked s.rules below w word) words in
      subst (λ (k : Kinds). Meets asked (or_else (or_else k (walk_fault s below (walked s.rules below w word) words)) (checks end)) (found end)) (sym right)
      (subst (λ (x : Walk). MeetsOn x words) (sym there) later)

abbrev checks_at : Shape → Walk → Kinds
checks_at s end = checks_of s end.held false

abbrev found_at : Shape → Walk → Asked
found_at s end = asked_in (Some (s.name, finished s.rules end.held))

abbrev At : Shape → Asked → Walk → List Text → Type 0
At s asked w words = MeetsOn s [] (checks_at s) (found_at s) asked w words

-- the words from there ask for this, behind `--` or not
abbrev MeetsFrom : Asked → Bool → Stand → List Text → Type 0
MeetsFrom asked ended stand words = At (shape_of stand) asked (walk_of ended stand) words

abbrev takes_of : Stand → Bool
takes_of stand = is_some (arg_by_long (shape_of stand).rules (codes "agents"))

knows_of : (stand : Stand) → Knows (takes_of stand) (shape_of stand).rules
knows_of (at_script Table) = record { long = λ name. refl; short = λ flag. refl }
knows_of stand = record { long = λ name. refl; short = λ flag. refl }

abbrev ReadsAt : Stand → Text → Token → Type 0
ReadsAt stand word token =
    let s = shape_of stand in
    Reads s.rules s.args_override_self (place stand).1 (place stand).2 (place stand).3 word (takes_of stand) token
    (flag_word_fault s.rules s.args_override_self (long_of word) word (held_of stand)) (long_or_other s.rules (place stand).3 word (long_of word) (held_of stand))

read : (stand : Stand) (word : Text) → ReadsAt stand word (option_or_operand (long_of word) word)
read stand word =
    by_option (shape_of stand).rules (shape_of stand).args_override_self (place stand).1 (place stand).2 (place stand).3 word (takes_of stand) (knows_of stand) (long_of word)

no_command : (waiting : Waiting) (word : Text) → subcommand_met [] waiting word ≡ None
no_command idle word = refl
no_command positional word = refl
no_command (option_waits name) word = refl

-- `--`
dashes : (asked : Asked) (stand : Stand) (word : Text) (words : List Text) → bytes_eq word (codes "--") ≡ true → MeetsFrom asked true stand words → MeetsFrom asked false stand (word ∷ words)
unfolding walked
dashes asked stand word words end later =
    goes_on (shape_of stand) [] (checks_at (shape_of stand)) (found_at (shape_of stand)) asked (walk_of false stand) (walk_of true stand) word words
    (rw (no_command (place stand).3 word, end) refl) (rw (no_command (place stand).3 word, end) refl) later

-- a word by which the walk comes to stand elsewhere
leads : {faults : Kinds} {met : Held × Step} (asked : Asked) (stand next : Stand) (word : Text) (words : List Text) → bytes_eq word (codes "--") ≡ false
    → flag_word_fault (shape_of stand).rules (shape_of stand).args_override_self (long_of word) word (held_of stand) ≡ faults
    → long_or_other (shape_of stand).rules (place stand).3 word (long_of word) (held_of stand) ≡ met
    → or_else faults (step_fault (shape_of stand) 1 met.0 met.1) ≡ [] → after_step (shape_of stand).rules word (walk_of false stand) met.0 met.1 ≡ walk_of false next
    → At (shape_of stand) asked (walk_of false next) words → MeetsFrom asked false stand (word ∷ words)
unfolding walked
leads {faults} {met} asked stand next word words other of_word to right there later =
    goes_on (shape_of stand) [] (checks_at (shape_of stand)) (found_at (shape_of stand)) asked (walk_of false stand) (walk_of false next) word words
    (rw (no_command (place stand).3 word, other, of_word, to) right) (rw (no_command (place stand).3 word, other, to) there) later

-- what holds of the tokens of a line, by whether its first word is `--`
by_dashes : (P : List Token → Type 0) (word : Text) (words : List Text) → (bytes_eq word (codes "--") ≡ true → P (ends ∷ map operand words))
    → (bytes_eq word (codes "--") ≡ false → P (option_or_operand (long_of word) word ∷ tokens words)) → P (tokens (word ∷ words))
by_dashes P word words end other = elim (cases_Bool (bytes_eq word (codes "--"))) [ inl e ↦ rw e (end e) | inr e ↦ rw e (other e) ]

-- ---- where the number is told again

lost_word : (text : Text) (more : Option Text) (word : Text) (words : List Text) → bytes_eq word (codes "--") ≡ false → MeetsFrom nothing false (retold text (Some word)) words
    → (token : Token) → ReadsAt (retold text more) word token → MeetsFrom nothing false (retold text more) (word ∷ words)
unfolding walk_fault walked
lost_word text None word words other later (operand t) r = leads nothing (retold text None) (retold text (Some word)) word words other r.1 r.2 refl refl later
lost_word text (Some more) word words other later (operand t) r = rw (other, r.1, r.2) refl
lost_word text more word words other later ends r = absurd r
lost_word text None word words other later helps r = rw (other, r) refl
lost_word text (Some more) word words other later helps r = rw (other, r) refl
lost_word text None word words other later unknown r = rw (other, r.1.0, r.1.1) refl
lost_word text (Some more) word words other later unknown r = rw (other, r.1.0, r.1.1) refl
lost_word text None word words other later (agents None) r = rw (other, r.0) refl
lost_word text (Some more) word words other later (agents None) r = rw (other, r.0) refl
lost_word text None word words other later (agents (Some value)) r = rw (other, r.0) refl
lost_word text (Some more) word words other later (agents (Some value)) r = rw (other, r.0) refl

lost : (ended : Bool) (text : Text) (more : Option Text) (words : List Text) → MeetsFrom nothing ended (retold text more) words
unfolding walk_fault walked
lost ended text None [] = refl
lost ended text (Some more) [] = refl
lost true text None (word ∷ words) = refl
lost true text (Some more) (word ∷ words) = refl
lost false text more (word ∷ words) = elim (cases_Bool (bytes_eq word (codes "--"))) [
  | inl end ↦ dashes nothing (retold text more) word words end (lost true text more words)
  | inr other ↦ lost_word text more word words other (lost false text (Some word) words) (option_or_operand (long_of word) word) (read (retold text more) word)
]

-- ---- from each stand

-- there are not more names than can be counted, and the number is told once
abbrev Fits : Stand → List Text → Type 0
Fits at_acl words = length words ≤ usize_max
Fits (after_names name more) words = length (name ∷ more) + length words ≤ usize_max
Fits (retold text more) words = ⊥
Fits stand words = Unit {0}

one_fewer : (stand : Stand) (word : Text) (words : List Text) → Fits stand (word ∷ words) → Fits stand words
one_fewer at_acl word words fits = omega arith
one_fewer (after_names name more) word words fits = omega arith
one_fewer (retold text more) word words fits = absurd fits
one_fewer stand word words fits = fits

strings_pass : (words : List Text) → values_kinds false vp.String words ≡ []
strings_pass [] = refl
strings_pass (word ∷ words) = strings_pass words

any_number_passes : (n : ℕ) → n ≤ usize_max → range_kinds 0 usize_max n ≡ []
any_number_passes n h = grind (arith, nat_tests)

names_settle : (name : Text) (more : List Text) → length (name ∷ more) ≤ usize_max
    → settle_fault (shape_of at_acl).rules false (held_of (after_names name more)) ≡ []
names_settle name more h =
    ap (λ k. or_else k (values_kinds false vp.String (name ∷ more))) (any_number_passes (length (name ∷ more)) h) ∙ strings_pass (name ∷ more)

at_end : (ended : Bool) (stand : Stand) → Fits stand [] → MeetsFrom (asked_at_end (known_of stand)) ended stand []
unfolding walk_fault defaults_fault
at_end ended (after_names name more) fits = rw (names_settle name more (omega arith)) refl
at_end ended (at_script Table) fits = refl
at_end ended (retold text more) fits = absurd fits
at_end ended stand fits = refl

-- the words after `--`
behind : (stand : Stand) (words : List Text) → Fits stand words → MeetsFrom (asked_after (with_token ends (known_of stand)) (λ known. asked_of known (map operand words))) true stand words
unfolding walk_fault walked
behind (retold text more) words fits = absurd fits
behind stand [] fits = at_end true stand fits
behind at_acl (word ∷ words) fits = behind (after_names word []) words (omega arith)
behind (after_names name more) (word ∷ words) fits = behind (after_names name (more ++ word ∷ [])) words (simp length-append (omega arith))
behind (at_script Table) (word ∷ words) fits = refl
behind stand (word ∷ words) fits = refl

abbrev Later : List Text → Type 0
Later words = (next : Stand) → Fits next words → MeetsFrom (asked_of (known_of next) (tokens words)) false next words

step : (stand : Stand) (word : Text) (words : List Text) → bytes_eq word (codes "--") ≡ false → Fits stand (word ∷ words) → Later words → (token : Token) → ReadsAt stand word token
    → MeetsFrom (asked_after (with_token token (known_of stand)) (λ known. asked_of known (tokens words))) false stand (word ∷ words)
unfolding walk_fault walked
step (retold text more) word words other fits later token r = absurd fits
step stand word words other fits later ends r = absurd r
step (at_script Table) word words other fits later unknown r = rw (other, r.1.0, r.1.1) refl
step (at_script Table) word words other fits later helps r = rw (other, r) refl
step (at_script Table) word words other fits later (agents value) r = rw (other, r.0) refl
step (at_script Table) word words other fits later (operand t) r = rw (other, r.1, r.2) refl
step at_acl word words other fits later (operand t) r =
    subst (λ (x : Text). MeetsFrom (asked_of (names (x ∷ [])) (tokens words)) false at_acl (word ∷ words)) (sym r.0)
    (leads _ at_acl (after_names word []) word words other r.1 r.2 refl refl (later (after_names word []) (omega arith)))
step (after_names name more) word words other fits later (operand t) r =
    subst (λ (x : Text). MeetsFrom (asked_of (names ((name ∷ more) ++ x ∷ [])) (tokens words)) false (after_names name more) (word ∷ words)) (sym r.0)
    (leads _ (after_names name more) (after_names name (more ++ word ∷ [])) word words other r.1 r.2 refl refl
    (later (after_names name (more ++ word ∷ [])) (simp length-append (omega arith))))
step (after_names name more) word words other fits later helps r = rw (other, r, names_settle name more (omega arith)) refl
step at_serve word words other fits later (agents None) r = leads _ at_serve waits word words other r.0 r.1 refl refl (later waits tt)
step at_serve word words other fits later (agents (Some text)) r = leads _ at_serve (counted text) word words other r.0 r.1 refl refl (later (counted text) tt)
step waits word words other fits later (operand t) r =
    subst (λ (x : Text). MeetsFrom (asked_of (told x) (tokens words)) false waits (word ∷ words)) (sym r.0)
    (leads _ waits (given word) word words other r.1 r.2 refl refl (later (given word) tt))
step waits word words other fits later (agents None) r = rw (other, r.0) refl
step (given text) word words other fits later (agents None) r = leads nothing (given text) (retold text None) word words other r.0 r.1 refl refl (lost false text None words)
step (counted text) word words other fits later (agents None) r = leads nothing (counted text) (retold text None) word words other r.0 r.1 refl refl (lost false text None words)
step stand word words other fits later unknown r = rw (other, r.1.0, r.1.1) refl
step stand word words other fits later helps r = rw (other, r) refl
step stand word words other fits later (agents value) r = rw (other, r.0) refl
step stand word words other fits later (operand t) r = rw (other, r.1, r.2) refl

leaf_meets : (stand : Stand) (words : List Text) → Fits stand words → MeetsFrom (asked_of (known_of stand) (tokens words)) false stand words
leaf_meets stand [] fits = at_end false stand fits
leaf_meets stand (word ∷ words) fits =
    by_dashes (λ line. MeetsFrom (asked_of (known_of stand) line) false stand (word ∷ words)) word words
    (λ end. dashes _ stand word words end (behind stand words (one_fewer stand word words fits)))
    (λ other. step stand word words other fits (λ next fits. leaf_meets next words fits) (option_or_operand (long_of word) word) (read stand word))

-- ---- the whole line

-- where a command is named; the words after one that was met are left to it
abbrev start : Walk
start = walk_from nothing_held

abbrev stopped_at : Text → List Text → Walk
stopped_at name words = record start { stopped = Some (name, words) }

abbrev faults_after : Walk → Kinds
faults_after end = or_else (entered_fault program end.stopped) (checks_of program.top end.held (is_some (entered program end.stopped)))

abbrev found_after : Walk → Asked
found_after end = asked_in (entered program end.stopped)

abbrev MeetsTop : Asked → Walk → List Text → Type 0
MeetsTop asked w words = MeetsOn program.top (names_of program) faults_after found_after asked w words

left_alone : (name : Text) (seen all words : List Text) (asked : Asked) → (seen ++ words) ≡ all
    → Meets asked (faults_after (stopped_at name all)) (asked_in (entered program (Some (name, all)))) → MeetsTop asked (stopped_at name seen) words
unfolding walk_fault walked
left_alone name seen all [] asked are meets =
    subst (λ (x : List Text). Meets asked (faults_after (stopped_at name x)) (asked_in (entered program (Some (name, x))))) (sym (sym (append-nil seen) ∙ are)) meets
left_alone name seen all (word ∷ words) asked are meets =
    left_alone name (seen ++ word ∷ []) all words asked (append_assoc seen (word ∷ []) words ∙ are) meets

or_nothing : (kinds : Kinds) → or_else kinds [] ≡ kinds
or_nothing [] = refl
or_nothing (kind ∷ kinds) = refl

-- a line that names the command of this stand
named : (name : Text) (stand : Stand) (words : List Text) → faults_after (stopped_at name words) ≡ or_else (level_fault (shape_of stand) [] nothing_held words false []) []
    → Meets (asked_of (known_of stand) (tokens words)) (level_fault (shape_of stand) [] nothing_held words false []) (asked_in (entered program (Some (name, words))))
    → MeetsTop (asked_of (known_of stand) (tokens words)) (stopped_at name []) words
named name stand words faults meets =
    left_alone name [] words words (asked_of (known_of stand) (tokens words)) refl
    (subst (λ (k : Kinds). Meets (asked_of (known_of stand) (tokens words)) k (asked_in (entered program (Some (name, words)))))
    (sym (faults ∙ or_nothing (level_fault (shape_of stand) [] nothing_held words false []))) meets)

-- the word is no command
module _ (word : Text) (words : List Text) (none : subcommand_met (names_of program) idle word ≡ None) where
  first_token : bytes_eq word (codes "--") ≡ false → (token : Token)
      → Reads program.top.rules program.top.args_override_self [] None idle word false token
      (flag_word_fault program.top.rules program.top.args_override_self (long_of word) word nothing_held) (long_or_other program.top.rules idle word (long_of word) nothing_held)
      → MeetsTop (asked_after (with_token token unnamed) (λ known. asked_of known (tokens words))) start (word ∷ words)
  unfolding walk_fault walked
  first_token other ends r = absurd r
  first_token other helps r = rw (none, other, r) refl
  first_token other unknown r = rw (none, other, r.1.0, r.1.1) refl
  first_token other (agents value) r = rw (none, other, r.0) refl
  first_token other (operand text) r = rw (none, other, r.1, r.2) refl

  behind_first : (words : List Text) → MeetsTop (asked_of unnamed (map operand words)) (record start { is_trailing = true }) words
  unfolding walk_fault defaults_fault
  behind_first [] = refl
  behind_first (next ∷ more) = refl

  first_word : MeetsTop (asked_of unnamed (tokens (word ∷ words))) start (word ∷ words)
  unfolding walked
  first_word =
      by_dashes (λ line. MeetsTop (asked_of unnamed line) start (word ∷ words)) word words
      (λ end. goes_on program.top (names_of program) faults_after found_after (asked_of unnamed (map operand words)) start (record start { is_trailing = true }) word words (rw (none, end) refl) (rw (none, end) refl) (behind_first words))
      (λ other. first_token other (option_or_operand (long_of word) word)
      (by_option program.top.rules program.top.args_override_self [] None idle word false (record { long = λ name. refl; short = λ flag. refl }) (long_of word)))

abbrev Line : List Text → Text → Type 0
Line words word = Meets (asked_by (word ∷ words)) (fault_of suites (word ∷ words)) (asked_in (subcommand_of suites (word ∷ words)))

pub lines_meet : (words : List Text) → length words ≤ usize_max → Meets (asked_by words) (fault_of suites words) (asked_in (subcommand_of suites words))
unfolding walk_fault defaults_fault walked
lines_meet [] fits = refl
lines_meet (word ∷ words) fits =
    decide (codes "acl") word (Line words) (named (codes "acl") at_acl words refl (leaf_meets at_acl words (omega arith))) (λ a.
    decide (codes "table") word (Line words) (named (codes "table") (at_script Table) words refl (leaf_meets (at_script Table) words tt)) (λ b.
    decide (codes "play") word (Line words) (named (codes "play") (at_script Play) words refl (leaf_meets (at_script Play) words tt)) (λ c.
    decide (codes "serve") word (Line words) (named (codes "serve") at_serve words refl (leaf_meets at_serve words tt)) (λ d.
    decide (codes "help") word (Line words) refl (λ e.
    let none : find (λ command. bytes_eq command.0 word) commands ≡ None = rw (a, b, c, d, e) refl in
    subst (λ (found : Option (Text × (List Token → Asked))). Meets (option_map_or (λ command. command.1 (tokens words)) found (asked_of unnamed (tokens (word ∷ words))))
    (fault_of suites (word ∷ words)) (asked_in (subcommand_of suites (word ∷ words)))) (sym none) (first_word word words (rw (a, b, c, d, e) refl)))))))

-- ---- from there to the answer

-- being out of memory answers anything
no_room : (agents : Option ℕ) → AnswersServe agents (Err Memory)
no_room (Some number) = tt
no_room None = tt

no_memory : (asked : Asked) (r : Result Invocation ArgsError) → r ≡ Err Memory → Answers asked r
no_memory (serves text) r is = subst (λ (x : Result Invocation ArgsError). AnswersServe (agents_of text) x) (sym is) (no_room (agents_of text))
no_memory asked r is = subst (λ (x : Result Invocation ArgsError). Answers asked x) (sym is) tt

helps_topic : (r : Result Invocation ArgsError) → Answers help r → Answers topic r
helps_topic (Ok (Help text)) answers = tt
helps_topic (Ok other) answers = absurd answers
helps_topic (Err Memory) answers = tt
helps_topic (Err CommandLine) answers = absurd answers

fails_topic : (r : Result Invocation ArgsError) → Answers nothing r → Answers topic r
fails_topic (Ok invocation) answers = absurd answers
fails_topic (Err CommandLine) answers = tt
fails_topic (Err Memory) answers = tt

answered : (asked : Asked) (kind : ErrorKind) (r : Result Invocation ArgsError) → allows asked kind ≡ true → AnswersTo kind r → Answers asked r
answered asked OutOfMemory r allowed answers = no_memory asked r answers
answered help DisplayHelp r allowed answers = answers
answered topic DisplayHelp r allowed answers = helps_topic r answers
answered topic kind r allowed answers = fails_topic r answers
answered nothing DisplayHelp r allowed answers = cc
answered nothing kind r allowed answers = answers
answered asked kind r allowed answers = cc

allowed_among : (asked : Asked) (kind : ErrorKind) (kinds : Kinds) → list_all (allows asked) kinds ≡ true → IsAmong kind kinds → allows asked kind ≡ true
allowed_among asked kind [] all among = absurd among
allowed_among asked kind (k ∷ ks) all (inl is) = subst (λ (x : ErrorKind). allows asked x ≡ true) (sym is) (both (allows asked k) _ all).0
allowed_among asked kind (k ∷ ks) all (inr among) = allowed_among asked kind ks (both (allows asked k) _ all).1 among

-- a parse that fails for one of its faults, or for want of memory
pub failed : (asked found : Asked) (faults : Kinds) (kind : ErrorKind) (r : Result Invocation ArgsError) → Meets asked faults found
    → (kind ≡ OutOfMemory) ⊎ IsAmong kind faults → AnswersTo kind r → Answers asked r
failed asked found faults kind r meets (inl memory) answers = no_memory asked r (subst (λ (k : ErrorKind). AnswersTo k r) memory answers)
failed asked found [] kind r meets (inr among) answers = absurd among
failed asked found (k ∷ ks) kind r meets (inr among) answers = answered asked kind r (allowed_among asked kind (k ∷ ks) meets among) answers
