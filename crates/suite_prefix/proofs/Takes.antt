-- What is read is what was written: each part that a reader takes from the front of bytes is spelled so.
use Rattle.suite_prefix.proofs.Vocabulary.{◌≡◌, ℕ, zero, suc, ◌+◌, ◌^◌, ◌<◌, ◌≤◌, Bool, true, false, cond, ltb, List, [], ◌∷◌, ◌++◌, length, get_or, take, drop, All, Result, Ok, Err, refl, sym, ap, subst, ◌∙◌, append_assoc, arith, inl, inr, flat_map}
use Rattle.suite_prefix.proofs.Vocabulary.{AllByRecursion, Width, w16, w32, w64, byte_len, from_be_bytes, to_be_bytes, cases_lt, ltb-false, le-ltb, take-append-drop, length-take, get_or-drop, get_or-take, get_or_past, flat_map-cons}
use Rattle.suite_prefix.proofs.Vocabulary.{All-from_recursion, qualifier, Configuration, Representative, kind_of, Content, Bytes, Names, PrefixKind, Absent, File, Folder, Form, One, Two, CopyFault, Short, BadTag, EntryShape, Identity, kind_code}
use Rattle.suite_prefix.proofs.Vocabulary.{tag_code, representative_bytes, name_bytes, content_bytes, held_by, form_code, FitsForm, ContentFits, ◌>>=◌, Shape, byte_at, number_at, bytes_at, default_at, form_at, kind_of_code, code_at, tag_of}
use Rattle.suite_prefix.proofs.Vocabulary.{content_at}
use Rattle.std.proofs.lemmas.Nat.{be_bytes_2, be_bytes_4, be_bytes_8}
use Rattle.suite_prefix.specs.Reading.{identity_at, entry_at, representative_at, name_at, many_at, list_at, lists_at, listed_at, votes_at, file_at, folder_at, shape_at}
use Rattle.suite_prefix.proofs.Loop.{ok_is}

-- ---- bytes

abbrev pub IsBytes : List ℕ → Type 0
IsBytes bytes = (i : ℕ) → get_or bytes i 0 < 256

IsBytes-drop : (n : ℕ) (bytes : List ℕ) → IsBytes bytes → IsBytes (drop n bytes)
IsBytes-drop n bytes h i = rw get_or-drop (h (n + i))

IsBytes-take : (n : ℕ) (bytes : List ℕ) → IsBytes bytes → IsBytes (take n bytes)
IsBytes-take n bytes h i =
    elim (cases_lt i n) [
      | inl lt ↦ rw (get_or-take n bytes i 0 lt) (h i)
      | inr le ↦ rw (get_or_past (take n bytes) i 0 (omega (arith, length-take n bytes))) (omega arith)
    ]

IsBytes-rest : (b : ℕ) (bytes : List ℕ) → IsBytes (b ∷ bytes) → IsBytes bytes
IsBytes-rest b bytes h i = h (suc i)

each_byte : (bytes : List ℕ) → IsBytes bytes → AllByRecursion (λ byte. byte < 256) bytes
each_byte [] h = tt
each_byte (b ∷ bytes) h = (h 0, each_byte bytes (IsBytes-rest b bytes h))

-- ---- steps of reading

-- the value of a step that did not fail
bind_ok : {A B : Type 0} (r : Result A CopyFault) (f : A → Result B CopyFault) (y : B) → (r >>= f) ≡ Ok y → (x : A) × (r ≡ Ok x) × (f x ≡ Ok y)
bind_ok (Ok x) f y e = (x, refl, e)
bind_ok (Err d) f y e = absurd cc

-- a test that did not fail
guard_ok : {A : Type 0} (b : Bool) (d : CopyFault) (x y : A) → cond b (Err d) (Ok x) ≡ Ok y → (b ≡ false) × (x ≡ y)
guard_ok true d x y e = absurd cc
guard_ok false d x y e = (refl, cc)

-- what a reader took from the front
record Takes (bytes text rest : List ℕ) : Type 0 where
  parts : bytes ≡ text ++ rest
  rest_fits : IsBytes rest

Takes-then : (a x b y c : List ℕ) → Takes a x b → Takes b y c → Takes a (x ++ y) c
Takes-then a x b y c p q = record { parts = p.parts ∙ ap (λ (t : List ℕ). x ++ t) q.parts ∙ sym (append_assoc x y c); rest_fits = q.rest_fits }

-- ---- numbers

record IsWide (w : Width) (limit : ℕ) : Type 0 where
  back : (bytes : List ℕ) → length bytes ≡ byte_len w → IsBytes bytes → to_be_bytes w (from_be_bytes w bytes) ≡ bytes
  below : (bytes : List ℕ) → IsBytes bytes → from_be_bytes w bytes < limit

wide16 : IsWide w16 (2 ^ 16)
wide16 = search (be_bytes_2, arith)

wide32 : IsWide w32 (2 ^ 32)
wide32 = search (be_bytes_4, arith)

wide64 : IsWide w64 (2 ^ 64)
wide64 = search (be_bytes_8, arith)

number_takes : (w : Width) (limit : ℕ) (wide : IsWide w limit) (bytes : List ℕ) (n : ℕ) (rest : List ℕ) → IsBytes bytes → number_at w bytes ≡ Ok (n, rest) → Takes bytes (to_be_bytes w n) rest × (n < limit)
number_takes w limit wide bytes n rest fits e =
    let g = guard_ok (ltb (length bytes) (byte_len w)) Short (from_be_bytes w (take (byte_len w) bytes), drop (byte_len w) bytes) (n, rest) e in
    let long : byte_len w ≤ length bytes = ltb-false _ _ g.0 in
    let n-is : from_be_bytes w (take (byte_len w) bytes) ≡ n = ap (λ (p : ℕ × List ℕ). p.0) g.1 in
    let rest-is : drop (byte_len w) bytes ≡ rest = ap (λ (p : ℕ × List ℕ). p.1) g.1 in
    let front : to_be_bytes w n ≡ take (byte_len w) bytes = rw (← n-is) (wide.back (take (byte_len w) bytes) (omega (arith, length-take (byte_len w) bytes)) (IsBytes-take (byte_len w) bytes fits)) in (
      record { parts = rw (front, ← rest-is) (sym (take-append-drop (byte_len w) bytes)); rest_fits = rw (← rest-is) (IsBytes-drop (byte_len w) bytes fits) },
      rw (← n-is) (wide.below (take (byte_len w) bytes) (IsBytes-take (byte_len w) bytes fits)),
    )

u16_takes : (bytes : List ℕ) (x : ℕ × List ℕ) → IsBytes bytes → number_at w16 bytes ≡ Ok x → Takes bytes (to_be_bytes w16 x.0) x.1 × (x.0 < 2 ^ 16)
u16_takes bytes x = number_takes w16 (2 ^ 16) wide16 bytes x.0 x.1

u32_takes : (bytes : List ℕ) (x : ℕ × List ℕ) → IsBytes bytes → number_at w32 bytes ≡ Ok x → Takes bytes (to_be_bytes w32 x.0) x.1 × (x.0 < 2 ^ 32)
u32_takes bytes x = number_takes w32 (2 ^ 32) wide32 bytes x.0 x.1

u64_takes : (bytes : List ℕ) (x : ℕ × List ℕ) → IsBytes bytes → number_at w64 bytes ≡ Ok x → Takes bytes (to_be_bytes w64 x.0) x.1 × (x.0 < 2 ^ 64)
u64_takes bytes x = number_takes w64 (2 ^ 64) wide64 bytes x.0 x.1

byte_takes : (bytes : List ℕ) (x : ℕ × List ℕ) → IsBytes bytes → byte_at bytes ≡ Ok x → Takes bytes (x.0 ∷ []) x.1 × (x.0 < 256)
byte_takes [] x fits e = absurd cc
byte_takes (b ∷ bytes) x fits e =
    subst (λ (y : ℕ × List ℕ). Takes (b ∷ bytes) (y.0 ∷ []) y.1 × (y.0 < 256)) (ok_is (b, bytes) x e) (record { parts = refl; rest_fits = IsBytes-rest b bytes fits }, fits 0)

bytes_take : (n : ℕ) (bytes : List ℕ) (x : List ℕ × List ℕ) → IsBytes bytes → bytes_at n bytes ≡ Ok x → Takes bytes x.0 x.1 × (length x.0 ≡ n) × IsBytes x.0
bytes_take n bytes x fits e =
    let g = guard_ok (ltb (length bytes) n) Short (take n bytes, drop n bytes) x e in
    let long : n ≤ length bytes = ltb-false _ _ g.0 in
    let len : length (take n bytes) ≡ n = omega (arith, length-take n bytes) in
    subst (λ (y : List ℕ × List ℕ). Takes bytes y.0 y.1 × (length y.0 ≡ n) × IsBytes y.0) g.1
    (record { parts = sym (take-append-drop n bytes); rest_fits = IsBytes-drop n bytes fits }, len, IsBytes-take n bytes fits)

-- ---- form, kind, identity

form_takes : (bytes : List ℕ) (x : Form × List ℕ) → IsBytes bytes → form_at bytes ≡ Ok x → Takes bytes (form_code x.0 ∷ []) x.1
form_takes [] x fits e = absurd cc
form_takes (zero ∷ bytes) x fits e = absurd cc
form_takes (suc zero ∷ bytes) x fits e =
    subst (λ (y : Form × List ℕ). Takes (1 ∷ bytes) (form_code y.0 ∷ []) y.1) (ok_is (One, bytes) x e) (record { parts = refl; rest_fits = IsBytes-rest 1 bytes fits })
form_takes (suc (suc zero) ∷ bytes) x fits e =
    subst (λ (y : Form × List ℕ). Takes (2 ∷ bytes) (form_code y.0 ∷ []) y.1) (ok_is (Two, bytes) x e) (record { parts = refl; rest_fits = IsBytes-rest 2 bytes fits })
form_takes (suc (suc (suc b)) ∷ bytes) x fits e = absurd cc

kind_takes : (code : ℕ) (kind : PrefixKind) → kind_of_code code ≡ Ok kind → kind_code kind ≡ code
kind_takes code kind h2 = search arith

abbrev pub identity_text : Identity → List ℕ
identity_text i = to_be_bytes w64 i.pver ++ kind_code i.kind ∷ to_be_bytes w32 i.owner ++ to_be_bytes w32 i.group

record IdentityFits (i : Identity) : Type 0 where
  pver : i.pver < 2 ^ 64
  owner : i.owner < 2 ^ 32
  group : i.group < 2 ^ 32

abbrev pub identity_4 : ℕ → PrefixKind → ℕ → ℕ × List ℕ → Result (Identity × List ℕ) CopyFault
identity_4 pver kind owner group = Ok (record { pver = pver; kind = kind; owner = owner; group = group.0 }, group.1)

abbrev pub identity_3 : ℕ → PrefixKind → ℕ × List ℕ → Result (Identity × List ℕ) CopyFault
identity_3 pver kind owner = number_at w32 owner.1 >>= identity_4 pver kind owner.0

abbrev pub identity_2 : ℕ → List ℕ → PrefixKind → Result (Identity × List ℕ) CopyFault
identity_2 pver rest kind = number_at w32 rest >>= identity_3 pver kind

abbrev pub identity_1 : ℕ → ℕ × List ℕ → Result (Identity × List ℕ) CopyFault
identity_1 pver code = kind_of_code code.0 >>= identity_2 pver code.1

identity_takes : (bytes : List ℕ) (x : Identity × List ℕ) → IsBytes bytes → identity_at bytes ≡ Ok x → Takes bytes (identity_text x.0) x.1 × IdentityFits x.0
unfolding identity_at
identity_takes bytes x fits e =
    let a = bind_ok (number_at w64 bytes) (λ pver. byte_at pver.1 >>= identity_1 pver.0) x e in
    let b = bind_ok (byte_at a.0.1) (identity_1 a.0.0) x a.2 in
    let k = bind_ok (kind_of_code b.0.0) (identity_2 a.0.0 b.0.1) x b.2 in
    let c = bind_ok (number_at w32 b.0.1) (identity_3 a.0.0 k.0) x k.2 in
    let d = bind_ok (number_at w32 c.0.1) (identity_4 a.0.0 k.0 c.0.0) x c.2 in
    let t0 = u64_takes bytes a.0 fits a.1 in
    let t1 = byte_takes a.0.1 b.0 t0.0.rest_fits b.1 in
    let t2 = u32_takes b.0.1 c.0 t1.0.rest_fits c.1 in
    let t3 = u32_takes c.0.1 d.0 t2.0.rest_fits d.1 in
    let code : kind_code k.0 ≡ b.0.0 = kind_takes b.0.0 k.0 k.1 in
    let t23 = Takes-then b.0.1 (to_be_bytes w32 c.0.0) c.0.1 (to_be_bytes w32 d.0.0) d.0.1 t2.0 t3.0 in
    let kinds : Takes a.0.1 (kind_code k.0 ∷ []) b.0.1 = rw code t1.0 in
    let t123 = Takes-then a.0.1 (kind_code k.0 ∷ []) b.0.1 (to_be_bytes w32 c.0.0 ++ to_be_bytes w32 d.0.0) d.0.1 kinds t23 in
    let all = Takes-then bytes (to_be_bytes w64 a.0.0) a.0.1 (kind_code k.0 ∷ to_be_bytes w32 c.0.0 ++ to_be_bytes w32 d.0.0) d.0.1 t0.0 t123 in
    let made : Identity × List ℕ = (record { pver = a.0.0; kind = k.0; owner = c.0.0; group = d.0.0 }, d.0.1) in
    subst (λ (y : Identity × List ℕ). Takes bytes (identity_text y.0) y.1 × IdentityFits y.0) (ok_is made x d.2) (all, record { pver = t0.1; owner = t2.1; group = t3.1 })

-- ---- so many of a kind

many_take : {X : Type 0} (one : List ℕ → Result (X × List ℕ) CopyFault) (text : X → List ℕ) (Fits : X → Type 0)
    → ((bytes : List ℕ) (x : X × List ℕ) → IsBytes bytes → one bytes ≡ Ok x → Takes bytes (text x.0) x.1 × Fits x.0)
    → (n : ℕ) (bytes : List ℕ) (x : List X × List ℕ) → IsBytes bytes → many_at one n bytes ≡ Ok x → Takes bytes (flat_map text x.0) x.1 × (length x.0 ≡ n) × AllByRecursion Fits x.0
unfolding many_at
many_take one text Fits takes zero bytes x fits e = search (ok_is, arith)
many_take one text Fits takes (suc n) bytes x fits e =
    let a = bind_ok (one bytes) (λ first. many_at one n first.1 >>= λ others. Ok (first.0 ∷ others.0, others.1)) x e in
    let b = bind_ok (many_at one n a.0.1) (λ others. Ok (a.0.0 ∷ others.0, others.1)) x a.2 in
    let first = takes bytes a.0 fits a.1 in
    let second = many_take one text Fits takes n a.0.1 b.0 first.0.rest_fits b.1 in
    let both = Takes-then bytes (text a.0.0) a.0.1 (flat_map text b.0.0) b.0.1 first.0 second.0 in
    subst (λ (y : List _ × List ℕ). Takes bytes (flat_map text y.0) y.1 × (length y.0 ≡ suc n) × AllByRecursion Fits y.0) (ok_is (a.0.0 ∷ b.0.0, b.0.1) x b.2)
    (rw flat_map-cons both, ap suc second.1, (first.1, second.2))

-- ---- entries

abbrev pub entry_text : EntryShape → List ℕ
entry_text e = tag_code e.tag ∷ to_be_bytes w32 e.number ++ e.permissions ∷ []

code_of_tag : (n number : ℕ) → n < 6 → tag_code (tag_of (suc n) number) ≡ suc n
code_of_tag n number h2 = search arith

number_of_tag : (n number : ℕ) → n < 6 → qualifier (tag_of (suc n) number) ≤ number
number_of_tag n number h2 = search arith

-- a code was read
record TakesCode (bytes : List ℕ) (x : ℕ × List ℕ) : Type 0 where
  takes : Takes bytes (x.0 ∷ []) x.1
  code : (number : ℕ) → tag_code (tag_of x.0 number) ≡ x.0
  number : (number : ℕ) → qualifier (tag_of x.0 number) ≤ number

chosen_code : {A : Type 0} (b : Bool) (x y : A) (d : CopyFault) → cond b (Ok x) (Err d) ≡ Ok y → (b ≡ true) × (x ≡ y)
chosen_code true x y d e = (refl, ok_is x y e)
chosen_code false x y d e = absurd cc

ltb-true-is : (n m : ℕ) → ltb n m ≡ true → n < m
ltb-true-is n m h = elim (cases_lt n m) [ inl lt ↦ lt | inr le ↦ let not : ltb n m ≡ false = le-ltb n m le in absurd cc ]

code_takes : (bytes : List ℕ) (x : ℕ × List ℕ) → IsBytes bytes → code_at bytes ≡ Ok x → TakesCode bytes x
code_takes [] x fits e = absurd cc
code_takes (zero ∷ bytes) x fits e = absurd cc
code_takes (suc n ∷ bytes) x fits e =
    let g = chosen_code (ltb n 6) (suc n, bytes) x BadTag e in
    let lt = ltb-true-is n 6 g.0 in
    subst (TakesCode (suc n ∷ bytes)) g.1 (record {
      takes = record { parts = refl; rest_fits = IsBytes-rest (suc n) bytes fits };
      code = λ number. code_of_tag n number lt;
      number = λ number. number_of_tag n number lt;
    })

abbrev pub entry_2 : ℕ → ℕ → ℕ × List ℕ → Result (EntryShape × List ℕ) CopyFault
entry_2 code number permissions = Ok (record { tag = tag_of code number; number = number; permissions = permissions.0 }, permissions.1)

abbrev pub entry_1 : ℕ → ℕ × List ℕ → Result (EntryShape × List ℕ) CopyFault
entry_1 code number = byte_at number.1 >>= entry_2 code number.0

entry_takes : (bytes : List ℕ) (x : EntryShape × List ℕ) → IsBytes bytes → entry_at bytes ≡ Ok x → Takes bytes (entry_text x.0) x.1 × (qualifier x.0.tag < 2 ^ 32)
unfolding entry_at
entry_takes bytes x fits e =
    let a = bind_ok (code_at bytes) (λ code. number_at w32 code.1 >>= entry_1 code.0) x e in
    let b = bind_ok (number_at w32 a.0.1) (entry_1 a.0.0) x a.2 in
    let c = bind_ok (byte_at b.0.1) (entry_2 a.0.0 b.0.0) x b.2 in
    let t0 = code_takes bytes a.0 fits a.1 in
    let t1 = u32_takes a.0.1 b.0 t0.takes.rest_fits b.1 in
    let t2 = byte_takes b.0.1 c.0 t1.0.rest_fits c.1 in
    let code : tag_code (tag_of a.0.0 b.0.0) ≡ a.0.0 = t0.code b.0.0 in
    let below : qualifier (tag_of a.0.0 b.0.0) < 2 ^ 32 = let le = t0.number b.0.0 in let lt = t1.1 in omega (arith, le, lt) in
    let t12 = Takes-then a.0.1 (to_be_bytes w32 b.0.0) b.0.1 (c.0.0 ∷ []) c.0.1 t1.0 t2.0 in
    let first : Takes bytes (tag_code (tag_of a.0.0 b.0.0) ∷ []) a.0.1 = rw code t0.takes in
    let all = Takes-then bytes (tag_code (tag_of a.0.0 b.0.0) ∷ []) a.0.1 (to_be_bytes w32 b.0.0 ++ c.0.0 ∷ []) c.0.1 first t12 in
    let made : EntryShape × List ℕ = (record { tag = tag_of a.0.0 b.0.0; number = b.0.0; permissions = c.0.0 }, c.0.1) in
    subst (λ (y : EntryShape × List ℕ). Takes bytes (entry_text y.0) y.1 × (qualifier y.0.tag < 2 ^ 32)) (ok_is made x c.2) (all, below)

abbrev pub list_text : List EntryShape → List ℕ
list_text entries = length entries ∷ flat_map entry_text entries

list_takes : (bytes : List ℕ) (x : List EntryShape × List ℕ) → IsBytes bytes → list_at bytes ≡ Ok x → Takes bytes (list_text x.0) x.1 × All (λ entry. qualifier entry.tag < 2 ^ 32) x.0
unfolding list_at
list_takes bytes x fits e =
    let a = bind_ok (byte_at bytes) (λ count. many_at entry_at count.0 count.1) x e in
    let t0 = byte_takes bytes a.0 fits a.1 in
    let t1 = many_take entry_at entry_text (λ entry. qualifier entry.tag < 2 ^ 32) entry_takes a.0.0 a.0.1 x t0.0.rest_fits a.2 in
    let all = Takes-then bytes (a.0.0 ∷ []) a.0.1 (flat_map entry_text x.0) x.1 t0.0 t1.0 in
    (subst (λ n. Takes bytes (n ∷ flat_map entry_text x.0) x.1) (sym t1.1) all, All-from_recursion (λ (entry : EntryShape). qualifier entry.tag < 2 ^ 32) x.0 t1.2)

abbrev pub Entries : Type 0
Entries = List EntryShape × List EntryShape

abbrev pub default_text : Form → List EntryShape → List ℕ
default_text One entries = []
default_text Two entries = list_text entries

abbrev pub lists_text : Form → Entries → List ℕ
lists_text form lists = list_text lists.0 ++ default_text form lists.1

abbrev NumbersOf : Entries → Type 0
NumbersOf lists = All (λ (entry : EntryShape). qualifier entry.tag < 2 ^ 32) lists.0 × All (λ (entry : EntryShape). qualifier entry.tag < 2 ^ 32) lists.1

-- the entries of a default list were read, of which form 1 has none
record TakesDefault (form : Form) (bytes : List ℕ) (x : List EntryShape × List ℕ) : Type 0 where
  takes : Takes bytes (default_text form x.0) x.1
  numbers : All (λ entry. qualifier entry.tag < 2 ^ 32) x.0
  none : form ≡ One → x.0 ≡ []

default_takes : (form : Form) (bytes : List ℕ) (x : List EntryShape × List ℕ) → IsBytes bytes → default_at form bytes ≡ Ok x → TakesDefault form bytes x
default_takes One bytes x fits e = search (ok_is, arith)
default_takes Two bytes x fits e = search (list_takes, arith)

-- the entries of both lists were read
record TakesLists (form : Form) (bytes : List ℕ) (x : Entries × List ℕ) : Type 0 where
  takes : Takes bytes (lists_text form x.0) x.1
  numbers : NumbersOf x.0
  none : form ≡ One → x.0.1 ≡ []

lists_take : (form : Form) (bytes : List ℕ) (x : Entries × List ℕ) → IsBytes bytes → lists_at form bytes ≡ Ok x → TakesLists form bytes x
unfolding lists_at
lists_take form bytes x fits e =
    let a = bind_ok (list_at bytes) (λ access. default_at form access.1 >>= λ default. Ok ((access.0, default.0), default.1)) x e in
    let b = bind_ok (default_at form a.0.1) (λ default. Ok ((a.0.0, default.0), default.1)) x a.2 in
    let t0 = list_takes bytes a.0 fits a.1 in
    let t1 = default_takes form a.0.1 b.0 t0.0.rest_fits b.1 in
    let all = Takes-then bytes (list_text a.0.0) a.0.1 (default_text form b.0.0) b.0.1 t0.0 t1.takes in
    let made : Entries × List ℕ = ((a.0.0, b.0.0), b.0.1) in
    subst (TakesLists form bytes) (ok_is made x b.2) (record { takes = all; numbers = (t0.1, t1.numbers); none = t1.none })

-- ---- votes

representative_takes : (bytes : List ℕ) (x : Representative × List ℕ) → IsBytes bytes → representative_at bytes ≡ Ok x → Takes bytes (representative_bytes x.0) x.1 × Unit {0}
unfolding representative_at
representative_takes bytes x fits e = search (bind_ok, byte_takes, ok_is, arith)

listed_takes : (bytes : List ℕ) (x : List Representative × List ℕ) → IsBytes bytes → listed_at bytes ≡ Ok x → Takes bytes (length x.0 ∷ flat_map representative_bytes x.0) x.1
unfolding listed_at
listed_takes bytes x fits e =
    let a = bind_ok (byte_at bytes) (λ count. many_at representative_at count.0 count.1) x e in
    let t0 = byte_takes bytes a.0 fits a.1 in
    let t1 = many_take representative_at representative_bytes (λ rep. Unit {0}) representative_takes a.0.0 a.0.1 x t0.0.rest_fits a.2 in
    let all = Takes-then bytes (a.0.0 ∷ []) a.0.1 (flat_map representative_bytes x.0) x.1 t0.0 t1.0 in
    subst (λ n. Takes bytes (n ∷ flat_map representative_bytes x.0) x.1) (sym t1.1) all

abbrev pub votes_text : Configuration → List ℕ
votes_text votes = (length votes.reps ∷ flat_map representative_bytes votes.reps) ++ (to_be_bytes w16 votes.r ++ to_be_bytes w16 votes.w)

abbrev pub votes_2 : List Representative → ℕ → ℕ × List ℕ → Result (Configuration × List ℕ) CopyFault
votes_2 reps r w = Ok (record { reps = reps; r = r; w = w.0 }, w.1)

abbrev pub votes_1 : List Representative → ℕ × List ℕ → Result (Configuration × List ℕ) CopyFault
votes_1 reps r = number_at w16 r.1 >>= votes_2 reps r.0

votes_take : (bytes : List ℕ) (x : Configuration × List ℕ) → IsBytes bytes → votes_at bytes ≡ Ok x → Takes bytes (votes_text x.0) x.1 × (x.0.r < 2 ^ 16) × (x.0.w < 2 ^ 16)
unfolding votes_at
votes_take bytes x fits e =
    let a = bind_ok (listed_at bytes) (λ reps. number_at w16 reps.1 >>= votes_1 reps.0) x e in
    let b = bind_ok (number_at w16 a.0.1) (votes_1 a.0.0) x a.2 in
    let c = bind_ok (number_at w16 b.0.1) (votes_2 a.0.0 b.0.0) x b.2 in
    let t0 = listed_takes bytes a.0 fits a.1 in
    let t1 = u16_takes a.0.1 b.0 t0.rest_fits b.1 in
    let t2 = u16_takes b.0.1 c.0 t1.0.rest_fits c.1 in
    let t12 = Takes-then a.0.1 (to_be_bytes w16 b.0.0) b.0.1 (to_be_bytes w16 c.0.0) c.0.1 t1.0 t2.0 in
    let all = Takes-then bytes (length a.0.0 ∷ flat_map representative_bytes a.0.0) a.0.1 (to_be_bytes w16 b.0.0 ++ to_be_bytes w16 c.0.0) c.0.1 t0 t12 in
    let made : Configuration × List ℕ = (record { reps = a.0.0; r = b.0.0; w = c.0.0 }, c.0.1) in
    subst (λ (y : Configuration × List ℕ). Takes bytes (votes_text y.0) y.1 × (y.0.r < 2 ^ 16) × (y.0.w < 2 ^ 16)) (ok_is made x c.2) (all, t1.1, t2.1)

-- ---- contents

name_takes : (bytes : List ℕ) (x : (List ℕ × ℕ) × List ℕ) → IsBytes bytes → name_at bytes ≡ Ok x → Takes bytes (name_bytes x.0) x.1 × (x.0.1 < 2 ^ 64)
unfolding name_at
name_takes bytes x fits e =
    let a = bind_ok (byte_at bytes) (λ len. bytes_at len.0 len.1 >>= λ name. number_at w64 name.1 >>= λ suite. Ok ((name.0, suite.0), suite.1)) x e in
    let b = bind_ok (bytes_at a.0.0 a.0.1) (λ name. number_at w64 name.1 >>= λ suite. Ok ((name.0, suite.0), suite.1)) x a.2 in
    let c = bind_ok (number_at w64 b.0.1) (λ suite. Ok ((b.0.0, suite.0), suite.1)) x b.2 in
    let t0 = byte_takes bytes a.0 fits a.1 in
    let t1 = bytes_take a.0.0 a.0.1 b.0 t0.0.rest_fits b.1 in
    let t2 = u64_takes b.0.1 c.0 t1.0.rest_fits c.1 in
    let t12 = Takes-then a.0.1 b.0.0 b.0.1 (to_be_bytes w64 c.0.0) c.0.1 t1.0 t2.0 in
    let all = Takes-then bytes (a.0.0 ∷ []) a.0.1 (b.0.0 ++ to_be_bytes w64 c.0.0) c.0.1 t0.0 t12 in
    let made : (List ℕ × ℕ) × List ℕ = ((b.0.0, c.0.0), c.0.1) in
    subst (λ (y : (List ℕ × ℕ) × List ℕ). Takes bytes (name_bytes y.0) y.1 × (y.0.1 < 2 ^ 64)) (ok_is made x c.2)
    (subst (λ n. Takes bytes (n ∷ b.0.0 ++ to_be_bytes w64 c.0.0) c.0.1) (sym t1.1) all, t2.1)

-- a content of a kind was read
record TakesContent (kind : PrefixKind) (bytes : List ℕ) (x : Content × List ℕ) : Type 0 where
  takes : Takes bytes (content_bytes x.0) x.1
  fits : ContentFits x.0
  agrees : kind_of x.0 ≡ held_by kind

file_takes : (kind : PrefixKind) (bytes : List ℕ) (x : Content × List ℕ) → held_by kind ≡ held_by File → IsBytes bytes → file_at bytes ≡ Ok x → TakesContent kind bytes x
unfolding file_at
file_takes kind bytes x held fits e =
    let a = bind_ok (number_at w32 bytes) (λ len. bytes_at len.0 len.1 >>= λ file. Ok (Bytes file.0, file.1)) x e in
    let b = bind_ok (bytes_at a.0.0 a.0.1) (λ file. Ok (Bytes file.0, file.1)) x a.2 in
    let t0 = u32_takes bytes a.0 fits a.1 in
    let t1 = bytes_take a.0.0 a.0.1 b.0 t0.0.rest_fits b.1 in
    let all = Takes-then bytes (to_be_bytes w32 a.0.0) a.0.1 b.0.0 b.0.1 t0.0 t1.0 in
    let made : Content × List ℕ = (Bytes b.0.0, b.0.1) in
    subst (TakesContent kind bytes) (ok_is made x b.2) (record {
      takes = subst (λ n. Takes bytes (to_be_bytes w32 n ++ b.0.0) b.0.1) (sym t1.1) all;
      fits = All-from_recursion (λ byte. byte < 256) b.0.0 (each_byte b.0.0 t1.2);
      agrees = sym held;
    })

folder_takes : (bytes : List ℕ) (x : Content × List ℕ) → IsBytes bytes → folder_at bytes ≡ Ok x → TakesContent Folder bytes x
unfolding folder_at
folder_takes bytes x fits e =
    let a = bind_ok (number_at w16 bytes) (λ count. many_at name_at count.0 count.1 >>= λ names. Ok (Names names.0, names.1)) x e in
    let b = bind_ok (many_at name_at a.0.0 a.0.1) (λ names. Ok (Names names.0, names.1)) x a.2 in
    let t0 = u16_takes bytes a.0 fits a.1 in
    let t1 = many_take name_at name_bytes (λ entry. entry.1 < 2 ^ 64) name_takes a.0.0 a.0.1 b.0 t0.0.rest_fits b.1 in
    let all = Takes-then bytes (to_be_bytes w16 a.0.0) a.0.1 (flat_map name_bytes b.0.0) b.0.1 t0.0 t1.0 in
    let made : Content × List ℕ = (Names b.0.0, b.0.1) in
    subst (TakesContent Folder bytes) (ok_is made x b.2) (record {
      takes = subst (λ n. Takes bytes (to_be_bytes w16 n ++ flat_map name_bytes b.0.0) b.0.1) (sym t1.1) all;
      fits = All-from_recursion (λ (entry : List ℕ × ℕ). entry.1 < 2 ^ 64) b.0.0 t1.2;
      agrees = refl;
    })

content_takes : (kind : PrefixKind) (bytes : List ℕ) (x : Content × List ℕ) → IsBytes bytes → content_at kind bytes ≡ Ok x → TakesContent kind bytes x
content_takes Absent bytes x fits e = file_takes Absent bytes x refl fits e
content_takes File bytes x fits e = file_takes File bytes x refl fits e
content_takes Folder bytes x fits e = folder_takes bytes x fits e

-- ---- the whole shape

abbrev pub shape_5 : Form → Identity → List EntryShape × List EntryShape → Configuration → ℕ → Content × List ℕ → Result (Shape × List ℕ) CopyFault
shape_5 form identity lists votes dver content =
    Ok (record { form = form; identity = identity; entries = lists.0; default = lists.1; votes = votes; dver = dver; content = content.0 }, content.1)

abbrev pub shape_4 : Form → Identity → List EntryShape × List EntryShape → Configuration → ℕ × List ℕ → Result (Shape × List ℕ) CopyFault
shape_4 form identity entries votes dver = content_at identity.kind dver.1 >>= shape_5 form identity entries votes dver.0

abbrev pub shape_3 : Form → Identity → List EntryShape × List EntryShape → Configuration × List ℕ → Result (Shape × List ℕ) CopyFault
shape_3 form identity entries votes = number_at w64 votes.1 >>= shape_4 form identity entries votes.0

abbrev pub shape_2 : Form → Identity → (List EntryShape × List EntryShape) × List ℕ → Result (Shape × List ℕ) CopyFault
shape_2 form identity entries = votes_at entries.1 >>= shape_3 form identity entries.0

abbrev pub shape_1 : Form → Identity × List ℕ → Result (Shape × List ℕ) CopyFault
shape_1 form identity = lists_at form identity.1 >>= shape_2 form identity.0

abbrev pub shape_0 : Form × List ℕ → Result (Shape × List ℕ) CopyFault
shape_0 form = identity_at form.1 >>= shape_1 form.0

abbrev pub shape_text : Shape → List ℕ
shape_text s =
    form_code s.form ∷ ((((identity_text s.identity ++ lists_text s.form (s.entries, s.default)) ++ votes_text s.votes) ++ to_be_bytes w64 s.dver) ++ content_bytes s.content)

-- what is true of a shape that was read, and the bytes that it was read from
pub record TakesShape (bytes : List ℕ) (x : Shape × List ℕ) : Type 0 where
  pub whole : bytes ≡ shape_text x.0 ++ x.1
  pub fits : FitsForm x.0

pub shape_takes : (bytes : List ℕ) (x : Shape × List ℕ) → IsBytes bytes → shape_at bytes ≡ Ok x → TakesShape bytes x
unfolding shape_at
shape_takes bytes x fits e =
    let f = bind_ok (form_at bytes) shape_0 x e in
    let i = bind_ok (identity_at f.0.1) (shape_1 f.0.0) x f.2 in
    let l = bind_ok (lists_at f.0.0 i.0.1) (shape_2 f.0.0 i.0.0) x i.2 in
    let v = bind_ok (votes_at l.0.1) (shape_3 f.0.0 i.0.0 l.0.0) x l.2 in
    let d = bind_ok (number_at w64 v.0.1) (shape_4 f.0.0 i.0.0 l.0.0 v.0.0) x v.2 in
    let c = bind_ok (content_at i.0.0.kind d.0.1) (shape_5 f.0.0 i.0.0 l.0.0 v.0.0 d.0.0) x d.2 in
    let tf = form_takes bytes f.0 fits f.1 in
    let ti = identity_takes f.0.1 i.0 tf.rest_fits i.1 in
    let tl = lists_take f.0.0 i.0.1 l.0 ti.0.rest_fits l.1 in
    let tv = votes_take l.0.1 v.0 tl.takes.rest_fits v.1 in
    let td = u64_takes v.0.1 d.0 tv.0.rest_fits d.1 in
    let tc = content_takes i.0.0.kind d.0.1 c.0 td.0.rest_fits c.1 in
    let lists = lists_text f.0.0 l.0.0 in
    let s1 = Takes-then f.0.1 (identity_text i.0.0) i.0.1 lists l.0.1 ti.0 tl.takes in
    let s2 = Takes-then f.0.1 (identity_text i.0.0 ++ lists) l.0.1 (votes_text v.0.0) v.0.1 s1 tv.0 in
    let s3 = Takes-then f.0.1 ((identity_text i.0.0 ++ lists) ++ votes_text v.0.0) v.0.1 (to_be_bytes w64 d.0.0) d.0.1 s2 td.0 in
    let s4 = Takes-then f.0.1 (((identity_text i.0.0 ++ lists) ++ votes_text v.0.0) ++ to_be_bytes w64 d.0.0) d.0.1 (content_bytes c.0.0) c.0.1 s3 tc.takes in
    let made : Shape × List ℕ = (record { form = f.0.0; identity = i.0.0; entries = l.0.0.0; default = l.0.0.1; votes = v.0.0; dver = d.0.0; content = c.0.0 }, c.0.1) in
    subst (TakesShape bytes) (ok_is made x c.2) (record {
      whole = tf.parts ∙ ap (λ (t : List ℕ). form_code f.0.0 ∷ t) s4.parts;
      fits = record {
        pver = ti.1.pver;
        owner = ti.1.owner;
        group = ti.1.group;
        numbers = tl.numbers.0;
        default_numbers = tl.numbers.1;
        r = tv.1;
        w = tv.2;
        dver = td.1;
        content = tc.fits;
        kinds_agree = tc.agrees;
        no_default = tl.none;
      };
    })
