-- Reading more bytes gives the same with more behind it, and a bad tag stays one. So each proper front of a valid copy's bytes ends too early.
use Rattle.suite_prefix.proofs.Vocabulary.{◌≡◌, ◌≢◌, ℕ, zero, suc, List, [], ◌∷◌, ◌++◌, length, Result, Ok, Err, refl, sym, ap, subst, ◌∙◌, arith, Width, w16, w32, w64, cases_lt, lt-ltb, le-ltb, length-append, take-append-le, drop-append-le}
use Rattle.suite_prefix.proofs.Vocabulary.{PrefixKind, Folder, Form, One, Two, CopyFault, Short, BadTag, NotCanonical, Invalid, TrailingBytes, IsFaultIn, FrontsAreShort, ◌>>=◌, Shape, byte_at, number_at, bytes_at, default_at, form_at, kind_of_code}
use Rattle.suite_prefix.proofs.Vocabulary.{content_at}
use Rattle.suite_prefix.specs.Reading.{identity_at, entry_at, representative_at, name_at, many_at, list_at, lists_at, listed_at, votes_at, file_at, folder_at, shape_at}
use Rattle.suite_prefix.proofs.Back.{whole_again}
use Rattle.suite_prefix.proofs.ShapeOf.{shape_of}
use Rattle.suite_prefix.proofs.Takes.{identity_1, identity_2, identity_3, identity_4, votes_1, votes_2, shape_0, shape_1, shape_2, shape_3, shape_4, shape_5}

-- what ended too early may go on
abbrev Fails : {X : Type 0} → CopyFault → Result (X × List ℕ) CopyFault → Type 0
Fails Short longer = Unit {0}
Fails BadTag longer = longer ≡ Err BadTag
Fails NotCanonical longer = longer ≡ Err NotCanonical
Fails Invalid longer = longer ≡ Err Invalid
Fails TrailingBytes longer = longer ≡ Err TrailingBytes

-- what is read of some bytes, and with more behind them
abbrev Extends : {X : Type 0} → List ℕ → Result (X × List ℕ) CopyFault → Result (X × List ℕ) CopyFault → Type 0
Extends more (Ok x) longer = longer ≡ Ok (x.0, x.1 ++ more)
Extends more (Err fault) longer = Fails fault longer

fails_then : {X Y : Type 0} (fault : CopyFault) (longer : Result (X × List ℕ) CopyFault) (f : X × List ℕ → Result (Y × List ℕ) CopyFault) → Fails fault longer → Fails fault (longer >>= f)
fails_then Short longer f h = tt
fails_then _ longer f h = ap (λ l. l >>= f) h

then_extends : {X Y : Type 0} (more : List ℕ) (r longer : Result (X × List ℕ) CopyFault) (f : X × List ℕ → Result (Y × List ℕ) CopyFault)
    → Extends more r longer → ((x : X × List ℕ) → Extends more (f x) (f (x.0, x.1 ++ more))) → Extends more (r >>= f) (longer >>= f)
then_extends more (Ok x) longer f h each = subst (λ l. Extends more (f x) (l >>= f)) (sym h) (each x)
then_extends more (Err fault) longer f h each = fails_then fault longer f h

fails_again : (X : Type 0) (fault : CopyFault) → Fails {X = X} fault (Err fault)
fails_again X Short = tt
fails_again X _ = refl

same_then : {A Y : Type 0} (more : List ℕ) (r : Result A CopyFault) (f g : A → Result (Y × List ℕ) CopyFault) → ((a : A) → Extends more (f a) (g a)) → Extends more (r >>= f) (r >>= g)
same_then more (Ok a) f g each = each a
same_then more (Err fault) f g each = fails_again _ fault

-- ---- the readers

byte_extends : (bytes more : List ℕ) → Extends more (byte_at bytes) (byte_at (bytes ++ more))
byte_extends [] more = tt
byte_extends (b ∷ bytes) more = refl

bytes_extend : (n : ℕ) (bytes more : List ℕ) → Extends more (bytes_at n bytes) (bytes_at n (bytes ++ more))
bytes_extend n bytes more = search (cases_lt, lt-ltb, le-ltb, length-append, take-append-le, drop-append-le, arith)

number_extends : (w : Width) (bytes more : List ℕ) → Extends more (number_at w bytes) (number_at w (bytes ++ more))
number_extends w bytes more = search (cases_lt, lt-ltb, le-ltb, length-append, take-append-le, drop-append-le, arith)

identity_extends : (bytes more : List ℕ) → Extends more (identity_at bytes) (identity_at (bytes ++ more))
unfolding identity_at
identity_extends bytes more =
    then_extends more (number_at w64 bytes) (number_at w64 (bytes ++ more)) (λ pver. byte_at pver.1 >>= identity_1 pver.0) (number_extends w64 bytes more) (λ pver.
    then_extends more (byte_at pver.1) (byte_at (pver.1 ++ more)) (identity_1 pver.0) (byte_extends pver.1 more) (λ code.
    same_then more (kind_of_code code.0) (identity_2 pver.0 code.1) (identity_2 pver.0 (code.1 ++ more)) (λ kind.
    then_extends more (number_at w32 code.1) (number_at w32 (code.1 ++ more)) (identity_3 pver.0 kind) (number_extends w32 code.1 more) (λ owner.
    then_extends more (number_at w32 owner.1) (number_at w32 (owner.1 ++ more)) (identity_4 pver.0 kind owner.0) (number_extends w32 owner.1 more) (λ group. refl)))))

entry_extends : (bytes more : List ℕ) → Extends more (entry_at bytes) (entry_at (bytes ++ more))
unfolding entry_at
entry_extends bytes more = search arith

representative_extends : (bytes more : List ℕ) → Extends more (representative_at bytes) (representative_at (bytes ++ more))
unfolding representative_at
representative_extends bytes more = search arith

name_extends : (bytes more : List ℕ) → Extends more (name_at bytes) (name_at (bytes ++ more))
unfolding name_at
name_extends bytes more = search (then_extends, byte_extends, bytes_extend, number_extends, arith)

many_extend : {X : Type 0} (one : List ℕ → Result (X × List ℕ) CopyFault) → ((bytes more : List ℕ) → Extends more (one bytes) (one (bytes ++ more)))
    → (n : ℕ) (bytes more : List ℕ) → Extends more (many_at one n bytes) (many_at one n (bytes ++ more))
unfolding many_at
many_extend one each zero bytes more = refl
many_extend one each (suc n) bytes more = search (then_extends, many_extend one each n, arith)

list_extends : (bytes more : List ℕ) → Extends more (list_at bytes) (list_at (bytes ++ more))
unfolding list_at
list_extends bytes more = search (then_extends, byte_extends, many_extend, entry_extends, arith)

default_extends : (form : Form) (bytes more : List ℕ) → Extends more (default_at form bytes) (default_at form (bytes ++ more))
default_extends One bytes more = refl
default_extends Two bytes more = list_extends bytes more

lists_extend : (form : Form) (bytes more : List ℕ) → Extends more (lists_at form bytes) (lists_at form (bytes ++ more))
unfolding lists_at
lists_extend form bytes more = search (then_extends, list_extends, default_extends, arith)

listed_extends : (bytes more : List ℕ) → Extends more (listed_at bytes) (listed_at (bytes ++ more))
unfolding listed_at
listed_extends bytes more = search (then_extends, byte_extends, many_extend, representative_extends, arith)

votes_extend : (bytes more : List ℕ) → Extends more (votes_at bytes) (votes_at (bytes ++ more))
unfolding votes_at
votes_extend bytes more =
    then_extends more (listed_at bytes) (listed_at (bytes ++ more)) (λ reps. number_at w16 reps.1 >>= votes_1 reps.0) (listed_extends bytes more) (λ reps.
    then_extends more (number_at w16 reps.1) (number_at w16 (reps.1 ++ more)) (votes_1 reps.0) (number_extends w16 reps.1 more) (λ r.
    then_extends more (number_at w16 r.1) (number_at w16 (r.1 ++ more)) (votes_2 reps.0 r.0) (number_extends w16 r.1 more) (λ w. refl)))

file_extends : (bytes more : List ℕ) → Extends more (file_at bytes) (file_at (bytes ++ more))
unfolding file_at
file_extends bytes more = search (then_extends, number_extends, bytes_extend, arith)

folder_extends : (bytes more : List ℕ) → Extends more (folder_at bytes) (folder_at (bytes ++ more))
unfolding folder_at
folder_extends bytes more = search (then_extends, number_extends, many_extend, name_extends, arith)

content_extends : (kind : PrefixKind) (bytes more : List ℕ) → Extends more (content_at kind bytes) (content_at kind (bytes ++ more))
content_extends Folder bytes more = folder_extends bytes more
content_extends _ bytes more = file_extends bytes more

form_extends : (bytes more : List ℕ) → Extends more (form_at bytes) (form_at (bytes ++ more))
form_extends bytes more = search arith

shape_extends : (bytes more : List ℕ) → Extends more (shape_at bytes) (shape_at (bytes ++ more))
unfolding shape_at
shape_extends bytes more =
    then_extends more (form_at bytes) (form_at (bytes ++ more)) shape_0 (form_extends bytes more) (λ f.
    then_extends more (identity_at f.1) (identity_at (f.1 ++ more)) (shape_1 f.0) (identity_extends f.1 more) (λ i.
    then_extends more (lists_at f.0 i.1) (lists_at f.0 (i.1 ++ more)) (shape_2 f.0 i.0) (lists_extend f.0 i.1 more) (λ l.
    then_extends more (votes_at l.1) (votes_at (l.1 ++ more)) (shape_3 f.0 i.0 l.0) (votes_extend l.1 more) (λ v.
    then_extends more (number_at w64 v.1) (number_at w64 (v.1 ++ more)) (shape_4 f.0 i.0 l.0 v.0) (number_extends w64 v.1 more) (λ d.
    then_extends more (content_at i.0.kind d.1) (content_at i.0.kind (d.1 ++ more)) (shape_5 f.0 i.0 l.0 v.0 d.0) (content_extends i.0.kind d.1 more) (λ c. refl))))))

-- ---- fronts

nothing_after : (rest more : List ℕ) → rest ++ more ≡ [] → more ≡ []
nothing_after [] more e = e
nothing_after (b ∷ rest) more e = absurd cc

rest_of : Result (Shape × List ℕ) CopyFault → List ℕ
rest_of (Ok x) = x.1
rest_of (Err fault) = []

short_front : (shape : Shape) (more : List ℕ) (read : Result (Shape × List ℕ) CopyFault) → Extends more read (Ok (shape, [])) → more ≢ [] → IsFaultIn read Short
unfolding rest_of
short_front shape more read h3 h4 = search (rest_of, nothing_after, arith)

pub fronts_are_short : FrontsAreShort
fronts_are_short copy front rest valid whole some =
    let read = ap shape_at whole.are ∙ whole_again whole.form copy valid whole.held in
    short_front (shape_of whole.form copy) rest (shape_at front) (subst (Extends rest (shape_at front)) read (shape_extends front rest)) some
