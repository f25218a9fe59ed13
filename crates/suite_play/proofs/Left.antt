-- A header that was read leaves no more lines than there were.
use Rattle.suite_play.proofs.Vocabulary.{ℕ, ◌≤◌, Bool, true, false, List, [], ◌∷◌, if◌then◌else◌, length, Result, Ok, Err, arith, empty, IfOk, codes, IfOk-weaker, Headed, Pending, header_line_in, headed, headed_if, next_begins, said_at}
use Rattle.suite_play.proofs.Vocabulary.{Word, ScriptFault, header, old_in, opening_lines}
use Rattle.file_ops.specs.Steps.{◌>>=◌}
use Rattle.suite_script.specs.declared.fault.LineFault.{LineFault}
use Rattle.suite_script.specs.declared.line.Line.{Line}

-- it leaves no more than so many lines
abbrev Leaves : {A : Type 0} → ℕ → Result (Headed A) ScriptFault → Type 0
Leaves count read = IfOk read (λ headed. length headed.rest.lines ≤ count)

and_then : {A B : Type 0} (count : ℕ) (first : Result (Headed A) ScriptFault) (next : Headed A → Result (Headed B) ScriptFault)
    → Leaves count first → ((headed : Headed A) → Leaves (length headed.rest.lines) (next headed)) → Leaves count (◌>>=◌ first next)
and_then count (Ok headed) next few each =
    IfOk-weaker (next headed) (λ later. length later.rest.lines ≤ length headed.rest.lines) (λ later. length later.rest.lines ≤ count) (λ later fewer. omega (arith, fewer, few)) (each headed)
and_then count (Err fault) next few each = tt

-- so many are left, whatever was said
said : {A B : Type 0} (count : ℕ) (read : Result A ScriptFault) (value : A → B) (rest : Pending) → length rest.lines ≤ count → Leaves count (◌>>=◌ read (λ given. Ok (record { value = value given; rest = rest })))
said count (Ok given) value rest few = few
said count (Err fault) value rest few = tt

-- the rest is left as it was
kept_left : {A B : Type 0} (count : ℕ) (read : Result (Headed A) ScriptFault) (value : Headed A → B) → Leaves count read → Leaves count (◌>>=◌ read (λ headed. Ok (record { value = value headed; rest = headed.rest })))
kept_left count (Ok headed) value few = few
kept_left count (Err fault) value few = tt

line_left : (is_known : Word → Bool) (begins : Word) (script : Pending) (lines : List Line) → Leaves (length lines) (header_line_in is_known begins script lines)
line_left is_known begins script [] = tt
line_left is_known begins script (line ∷ more) = said (length (line ∷ more)) _ (λ words. record { number = line.number; words = words }) (record script { lines = more }) (omega arith)

headed_left : {A : Type 0} (is_known : Word → Bool) (begins : Word) (reading : List Word → Result A LineFault) (script : Pending) → Leaves (length script.lines) (headed is_known begins reading script)
headed_left is_known begins reading script =
    and_then (length script.lines) (header_line_in is_known begins script script.lines) _ (line_left is_known begins script script.lines)
    (λ line. said (length line.rest.lines) (said_at line.value.number (reading line.value.words)) (λ value. value) line.rest (omega arith))

perhaps_left : {A : Type 0} (is_known : Word → Bool) (begins : Word) (reading : List Word → Result A LineFault) (otherwise : A) (script : Pending) (there : Bool)
    → Leaves (length script.lines) (if there then headed is_known begins reading script else Ok (record { value = otherwise; rest = script }))
perhaps_left is_known begins reading otherwise script true = headed_left is_known begins reading script
perhaps_left is_known begins reading otherwise script false = omega arith

headed_if_left : {A : Type 0} (is_known : Word → Bool) (begins : Word) (reading : List Word → Result A LineFault) (otherwise : A) (script : Pending)
    → Leaves (length script.lines) (headed_if is_known begins reading otherwise script)
headed_if_left is_known begins reading otherwise script = perhaps_left is_known begins reading otherwise script (next_begins begins script.lines)

opening_left : (is_known : Word → Bool) (servers agents : ℕ) (script : Pending) → Leaves (length script.lines) (opening_lines is_known servers agents script)
opening_left is_known servers agents script =
    and_then _ _ _ (headed_left is_known _ _ script)
    (λ votes. and_then _ _ _ (headed_left is_known _ _ votes.rest)
    (λ root. and_then _ _ _ (headed_left is_known _ _ root.rest)
    (λ caches.
    let old = headed_if is_known (codes "old") (old_in servers root.value.acl votes.value) empty caches.rest in
    let few : Leaves (length caches.rest.lines) old = headed_if_left is_known (codes "old") (old_in servers root.value.acl votes.value) empty caches.rest in
    kept_left (length caches.rest.lines) old _ few)))

pub header_left : (script : Pending) → IfOk (header script) (λ headed. length headed.rest.lines ≤ length script.lines)
header_left script =
    and_then _ _ _ (headed_left _ _ _ script)
    (λ servers. and_then _ _ _ (headed_left _ _ _ servers.rest)
    (λ agents. opening_left _ servers.value agents.value agents.rest))
