-- The texts that are written of two lists spell these lists.
use Rattle.acl_text.proofs.Vocabulary.{◌≡◌, ℕ, ◌≤◌, ◌&&◌, Bool, true, false, not, eqb, List, [], ◌∷◌, ◌++◌, map, Option, None, Some, Ok, codes, refl, sym, ap, ◌∙◌, ◌⊎◌, inl, inr, append_assoc, append-nil, list_all, filter_map, flat_map, arith}
use Rattle.acl_text.proofs.Vocabulary.{join_by, cases_Bool, and_parts, and_from, list_all-append, Entry, Perms, has_all, qualifier, SidedEntry, Side, Access, Default, reading, LongTextSpells, ShortTextSpells, NumbersFit, items_of, items_of_line}
use Rattle.acl_text.proofs.Vocabulary.{uncommented, parts, comma, line_feed, max_id, default_entries, entries_of, sided_entry, Tables, Spells, readings, canonical, entry_text, remark, is_limited, line_text, long_lines, mask_of, next_text, sided_text}
use Rattle.acl_text.proofs.CleanText.{lacks, split_lacking, split_at_byte, before_lacking, before_at_byte, list_all_wider}
use Rattle.acl_text.proofs.Letters.{tail, is_plain}
use Rattle.acl_text.proofs.EntryTexts.{sided_text_read, sided_text_plain}

-- plain bytes are no line feed, no comment mark and no comma
no_line_feed : (b : ℕ) → is_plain b ≡ true → not (eqb b 10) ≡ true
no_line_feed b plain = (and_parts (not (eqb b 10)) (not (eqb b 35)) (and_parts (not (eqb b 10) && not (eqb b 35)) (not (eqb b 44)) plain).0).0

no_mark : (b : ℕ) → is_plain b ≡ true → not (eqb b 35) ≡ true
no_mark b plain = (and_parts (not (eqb b 10)) (not (eqb b 35)) (and_parts (not (eqb b 10) && not (eqb b 35)) (not (eqb b 44)) plain).0).1

no_comma : (b : ℕ) → is_plain b ≡ true → not (eqb b 44) ≡ true
no_comma b plain = (and_parts (not (eqb b 10) && not (eqb b 35)) (not (eqb b 44)) plain).1

-- what follows an entry in its line: nothing, or a tab and a comment
abbrev IsRemark : List ℕ → Type 0
IsRemark text = (text ≡ []) ⊎ ((more : List ℕ) × (text ≡ 9 ∷ 35 ∷ more) × (lacks (λ b. eqb b 10) more ≡ true))

remark_of : (mask : Option Perms) (e : Entry) → IsRemark (remark mask e)
remark_of None e = inl refl
remark_of (Some mask) e = search (cases_Bool (is_limited e.tag && not (has_all mask e.perms)), list_all_wider, is_plain, no_line_feed, arith)

-- a line without its end
abbrev body : Side → Option Perms → Entry → List ℕ
body side mask e = sided_text side e ++ remark mask e

record IsLine (names : Tables) (side : Side) (mask : Option Perms) (e : Entry) : Type 0 where
  unbroken : lacks (λ b. eqb b line_feed) (body side mask e) ≡ true
  item : List ℕ
  one_item : items_of_line (body side mask e) ≡ item ∷ []
  read_back : reading names item ≡ Ok (Some (sided_entry side e))

line_by : (names : Tables) (side : Side) (mask : Option Perms) (e : Entry) → qualifier e.tag ≤ max_id → IsRemark (remark mask e) → IsLine names side mask e
line_by names side mask e small (inl none) =
    let text = sided_text side e ++ tail false in
    let plain = sided_text_plain names side e false small in
    let is : body side mask e ≡ text = ap (λ r. sided_text side e ++ r) none in
    record {
      unbroken = ap (lacks (λ b. eqb b line_feed)) is ∙ list_all_wider is_plain (λ b. not (eqb b 10)) no_line_feed text plain;
      item = text;
      one_item = search (before_lacking, list_all_wider, is_plain, no_mark, split_lacking, no_comma, arith);
      read_back = sided_text_read names side e false small;
    }
line_by names side mask e small (inr some) =
    let text = sided_text side e ++ tail true in
    let plain = sided_text_plain names side e true small in
    let more = some.0 in
    let is : body side mask e ≡ text ++ 35 ∷ more = ap (λ r. sided_text side e ++ r) some.1 ∙ sym (append_assoc (sided_text side e) (9 ∷ []) (35 ∷ more)) in
    record {
      unbroken = search (lacks, list_all-append, and_from, list_all_wider, is_plain, no_line_feed, arith);
      item = text;
      one_item = search (before_at_byte, list_all_wider, is_plain, no_mark, split_lacking, no_comma, arith);
      read_back = sided_text_read names side e true small;
    }

-- the lines of one of the lists, and what stands behind them
lines_of : (names : Tables) (side : Side) (mask : Option Perms) (list : List Entry) (rest : List ℕ) → NumbersFit list
    → parts line_feed (flat_map (line_text side mask) list ++ rest) ≡ map (body side mask) list ++ parts line_feed rest
lines_of names side mask [] rest fit = refl
lines_of names side mask (e ∷ list) rest fit = search (line_by names side mask e fit.0 (remark_of mask e), remark_of mask e, append_assoc, split_at_byte, lines_of names side mask list rest, arith)

-- what these lines say
said_by : Side → List Entry → List (Option SidedEntry)
said_by side list = map (λ e. Some (sided_entry side e)) list

lines_read : (names : Tables) (side : Side) (mask : Option Perms) (list : List Entry) (lines : List (List ℕ)) (said : List (Option SidedEntry)) → NumbersFit list
    → map (reading names) (flat_map items_of_line lines) ≡ map Ok said
    → map (reading names) (flat_map items_of_line (map (body side mask) list ++ lines)) ≡ map Ok (said_by side list ++ said)
unfolding said_by
lines_read names side mask [] lines said fit read = read
lines_read names side mask (e ∷ list) lines said fit read = search (line_by names side mask e fit.0 (remark_of mask e), remark_of mask e, lines_read names side mask list lines said, arith)

-- the entries of a side among what is said of the two lists, access list first, and nothing after it
access_said : (access : List Entry) (rest : List (Option SidedEntry)) → entries_of Access (filter_map (λ entry. entry) (said_by Access access ++ rest)) ≡ access ++ entries_of Access (filter_map (λ entry. entry) rest)
unfolding said_by
access_said [] rest = refl
access_said (e ∷ access) rest = ap (λ more. e ∷ more) (access_said access rest)

access_passed : (default : List Entry) (rest : List (Option SidedEntry)) → entries_of Access (filter_map (λ entry. entry) (said_by Default default ++ rest)) ≡ entries_of Access (filter_map (λ entry. entry) rest)
unfolding said_by
access_passed [] rest = refl
access_passed (e ∷ default) rest = access_passed default rest

default_said : (default : List Entry) (rest : List (Option SidedEntry)) → entries_of Default (filter_map (λ entry. entry) (said_by Default default ++ rest)) ≡ default ++ entries_of Default (filter_map (λ entry. entry) rest)
unfolding said_by
default_said [] rest = refl
default_said (e ∷ default) rest = ap (λ more. e ∷ more) (default_said default rest)

default_passed : (access : List Entry) (rest : List (Option SidedEntry)) → entries_of Default (filter_map (λ entry. entry) (said_by Access access ++ rest)) ≡ entries_of Default (filter_map (λ entry. entry) rest)
unfolding said_by
default_passed [] rest = refl
default_passed (e ∷ access) rest = default_passed access rest

-- what is said: the entries of both lists, and in between and at the end nothing more
both_said : List Entry → List Entry → List (Option SidedEntry) → List (Option SidedEntry)
both_said access default rest = said_by Access access ++ (said_by Default default ++ rest)

of_access_side : (access default : List Entry) (rest : List (Option SidedEntry)) → filter_map (λ entry. entry) rest ≡ [] → entries_of Access (filter_map (λ entry. entry) (both_said access default rest)) ≡ access
unfolding both_said
of_access_side access default rest none = search (both_said, access_said, said_by, access_passed, append-nil, arith)

of_default_side : (access default : List Entry) (rest : List (Option SidedEntry)) → filter_map (λ entry. entry) rest ≡ [] → entries_of Default (filter_map (λ entry. entry) (both_said access default rest)) ≡ default
unfolding both_said
of_default_side access default rest none = search (both_said, default_passed, said_by, default_said, append-nil, arith)

pub long_text_spells : LongTextSpells
unfolding both_said
long_text_spells lists names fit =
    let access = lists.access in
    let default = default_entries lists.default in
    let lines : parts line_feed (canonical lists) ≡ map (body Access (mask_of access)) access ++ (map (body Default (mask_of default)) default ++ [] ∷ []) =
    lines_of names Access (mask_of access) access (long_lines Default default) fit.0
    ∙ ap (λ more. map (body Access (mask_of access)) access ++ more)
    (ap (parts line_feed) (sym (append-nil (long_lines Default default))) ∙ lines_of names Default (mask_of default) default [] fit.1) in
    record {
      said = both_said access default (None ∷ []);
      each_read = search (lines_read, arith);
      of_access = of_access_side access default (None ∷ []) refl;
      of_default = of_default_side access default (None ∷ []) refl;
    }

no_names : Tables
no_names = record { users = []; groups = [] }

plain_entry : (side : Side) (e : Entry) → qualifier e.tag ≤ max_id → list_all is_plain (sided_text side e) ≡ true
plain_entry side e small = ap (list_all is_plain) (sym (append-nil (sided_text side e))) ∙ sided_text_plain no_names side e false small

-- a test that plain bytes and commas pass is passed by a short text
passes_more : (p : ℕ → Bool) → ((b : ℕ) → is_plain b ≡ true → p b ≡ true) → p 44 ≡ true → (side : Side) (list : List Entry) → NumbersFit list → list_all p (flat_map (next_text side) list) ≡ true
passes_more p wider at_comma side [] fit = refl
passes_more p wider at_comma side (e ∷ list) fit =
    list_all-append p (next_text side e) (flat_map (next_text side) list)
    ∙ and_from _ _ (and_from (p 44) _ at_comma (list_all_wider is_plain p wider (sided_text side e) (plain_entry side e fit.0))) (passes_more p wider at_comma side list fit.1)

-- the entries of a side, each with a comma before it
abbrev later : Side → List Entry → List ℕ
later side list = flat_map (next_text side) list

lacks_comma : (text : List ℕ) → list_all is_plain text ≡ true → lacks (λ b. eqb b comma) text ≡ true
lacks_comma text plain = list_all_wider is_plain (λ b. not (eqb b 44)) no_comma text plain

-- what is cut at commas: what stands first, and the entries behind it
cut_later : (side : Side) (list : List Entry) (more : List ℕ) (tail : List (List ℕ)) → ((text : List ℕ) → list_all is_plain text ≡ true → parts comma (text ++ more) ≡ text ∷ tail) → NumbersFit list
    → (first : List ℕ) → list_all is_plain first ≡ true → parts comma (first ++ (later side list ++ more)) ≡ first ∷ (map (sided_text side) list ++ tail)
cut_later side [] more tail ends fit first plain = ends first plain
cut_later side (e ∷ list) more tail ends fit first plain = search (lacks_comma first plain, plain_entry side e fit.0, append_assoc, split_at_byte, cut_later side list more tail ends, arith)

cut_end : (text : List ℕ) → list_all is_plain text ≡ true → parts comma (text ++ []) ≡ text ∷ []
cut_end text plain = ap (parts comma) (append-nil text) ∙ split_lacking (λ b. eqb b comma) text (lacks_comma text plain)

cut_default : (default : List Entry) → NumbersFit default → (text : List ℕ) → list_all is_plain text ≡ true → parts comma (text ++ later Default default) ≡ text ∷ map (sided_text Default) default
cut_default default fit text plain =
    ap (λ end. parts comma (text ++ end)) (sym (append-nil (later Default default)))
    ∙ cut_later Default default [] [] cut_end fit text plain
    ∙ ap (λ rest. text ∷ rest) (append-nil (map (sided_text Default) default))

-- what the entries' texts say
entries_read : (names : Tables) (side : Side) (list : List Entry) (items : List (List ℕ)) (said : List (Option SidedEntry)) → NumbersFit list → map (reading names) items ≡ map Ok said
    → map (reading names) (map (sided_text side) list ++ items) ≡ map Ok (said_by side list ++ said)
unfolding said_by
entries_read names side [] items said fit read = read
entries_read names side (e ∷ list) items said fit read = search (append-nil (sided_text side e), sided_text_read names side e false fit.0, entries_read names side list items said, arith)

-- what a text without line ends says that begins with a text of one item
short_by : (names : Tables) (first : List ℕ) (said : Option SidedEntry) (list default : List Entry) → list_all is_plain first ≡ true → reading names first ≡ Ok said → NumbersFit list → NumbersFit default
    → readings ((first ++ later Access list) ++ later Default default) names ≡ map Ok (said ∷ both_said list default [])
unfolding both_said
short_by names first said list default plain read fit fit_default =
    let text = first ++ (later Access list ++ later Default default) in
    let passes : (p : ℕ → Bool) → ((b : ℕ) → is_plain b ≡ true → p b ≡ true) → p 44 ≡ true → list_all p text ≡ true = λ p wider at_comma.
    list_all-append p first (later Access list ++ later Default default)
    ∙ and_from _ _ (list_all_wider is_plain p wider first plain)
    (list_all-append p (later Access list) (later Default default) ∙ and_from _ _ (passes_more p wider at_comma Access list fit) (passes_more p wider at_comma Default default fit_default)) in
    let one_line : parts line_feed text ≡ text ∷ [] = split_lacking (λ b. eqb b line_feed) text (passes (λ b. not (eqb b 10)) no_line_feed refl) in
    let no_comment : uncommented text ≡ text = before_lacking (λ b. eqb b 35) text (passes (λ b. not (eqb b 35)) no_mark refl) in
    let items : items_of text ≡ first ∷ (map (sided_text Access) list ++ map (sided_text Default) default) =
    ap (flat_map items_of_line) one_line ∙ append-nil (items_of_line text) ∙ ap (parts comma) no_comment
    ∙ cut_later Access list (later Default default) (map (sided_text Default) default) (cut_default default fit_default) fit first plain in
    let ends : map (reading names) (map (sided_text Default) default) ≡ map Ok (said_by Default default ++ []) =
    ap (map (reading names)) (sym (append-nil (map (sided_text Default) default))) ∙ entries_read names Default default [] [] fit_default refl in
    ap (λ t. map (reading names) (items_of t)) (append_assoc first (later Access list) (later Default default))
    ∙ ap (map (reading names)) items
    ∙ (λ i. read i ∷ entries_read names Access list (map (sided_text Default) default) (said_by Default default ++ []) fit ends i)

short_spells : (names : Tables) (access default : List Entry) → NumbersFit access → NumbersFit default → Spells (join_by entry_text (codes ",") access ++ later Default default) names access default
unfolding both_said said_by
short_spells names [] default fit fit_default = record {
  said = None ∷ both_said [] default [];
  each_read = short_by names [] None [] default refl refl fit fit_default;
  of_access = of_access_side [] default [] refl;
  of_default = of_default_side [] default [] refl;
}
short_spells names (e ∷ list) default fit fit_default =
    let read_back : reading names (entry_text e) ≡ Ok (Some (sided_entry Access e)) = ap (reading names) (sym (append-nil (entry_text e))) ∙ sided_text_read names Access e false fit.0 in
    record {
      said = Some (sided_entry Access e) ∷ both_said list default [];
      each_read = short_by names (entry_text e) (Some (sided_entry Access e)) list default (plain_entry Access e fit.0) read_back fit.1 fit_default;
      of_access = of_access_side (e ∷ list) default [] refl;
      of_default = of_default_side (e ∷ list) default [] refl;
    }

pub short_text_spells : ShortTextSpells
short_text_spells lists names fit = short_spells names lists.access (default_entries lists.default) fit.0 fit.1
