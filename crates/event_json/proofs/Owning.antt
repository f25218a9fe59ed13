-- Copies as servers keep them, and as they are told.
use Rattle.std.proofs.Common.{◌≡◌, ℕ, ◌==◌, Bool, true, false, ◌&&◌, if◌then◌else◌, cond, List, [], ◌∷◌, ◌++◌, codes, drop, length, map, Option, Some, None, refl, ◌∙◌, ap, sym, append_assoc}
use Rattle.std.specs.List.{cons_option, filter_map, find, flat_map}
use Rattle.std.specs.Option.{option_map}
use Rattle.suite_prefix.specs.declared.copies.Replica.{Replica}
use Rattle.suite_prefix.specs.LockModes.{is_exclusive}
use Rattle.suite_prefix.specs.Stored.{Kept}
use Rattle.file_ops.specs.declared.audit.AuditItem.{AuditItem}
use Rattle.rep_core.specs.State.{State}
use Rattle.rep_core.specs.declared.lock.Lock.{Lock}
use Rattle.rep_core.specs.declared.request.Request.{Request}
use Rattle.rep_core.specs.code.Planning.{copies_in}
use Rattle.event_json.specs.Locks.{TellsLockChange, came_text, freed_text, locks_text}
use Rattle.event_json.specs.Servers.{TellsChanges, came_denials, copies_text, denials_text, finished, in_order, left_by, left_text, own_text, server_text, up_text}
use Rattle.event_json.specs.Strings.{listed}
use Rattle.event_json.specs.declared.servers.Before.{Before}
use Rattle.event_json.specs.code.Owning.{kept_by, kept_text, parted_by}

-- ---- their texts

more_kept : (all : List (ℕ × Kept)) → flat_map (λ next. codes "," ++ kept_text next) all ≡ flat_map (λ next. codes "," ++ own_text next) (copies_in all)
more_kept [] = refl
more_kept (own ∷ more) = ap (λ rest. (codes "," ++ kept_text own) ++ rest) (more_kept more)

pub kept_listed : (all : List (ℕ × Kept)) → listed kept_text all ≡ listed own_text (copies_in all)
kept_listed [] = refl
kept_listed (own ∷ more) = ap (λ rest. kept_text own ++ rest) (more_kept more)

parted_more : (all : List (ℕ × Kept)) → parted_by (codes ",") all ≡ flat_map (λ next. codes "," ++ kept_text next) all
parted_more [] = refl
parted_more (own ∷ more) = ap (λ rest. (codes "," ++ kept_text own) ++ rest) (parted_more more)

pub parted_listed : (all : List (ℕ × Kept)) → parted_by [] all ≡ listed kept_text all
parted_listed [] = refl
parted_listed (own ∷ more) = ap (λ rest. kept_text own ++ rest) (parted_more more)

-- ---- which are left

-- a copy as it is told
abbrev seen : ℕ × Kept → ℕ × Replica
seen own = (own.0, own.1.copy)

seen_if : (is : Bool) (own : ℕ × Kept) (rest : Option (ℕ × Kept)) → option_map seen (cond is (Some own) rest) ≡ cond is (Some (seen own)) (option_map seen rest)
seen_if true own rest = refl
seen_if false own rest = refl

find_seen : (test : ℕ → Bool) (all : List (ℕ × Kept)) → option_map seen (find (λ own. test own.0) all) ≡ find (λ own. test own.0) (copies_in all)
find_seen test [] = refl
find_seen test (own ∷ all) =
    seen_if (test own.0) own (find (λ own. test own.0) all) ∙ ap (λ rest. cond (test own.0) (Some (seen own)) rest) (find_seen test all)

seen_where : (is : Bool) (one : Option (ℕ × Kept)) (told : Option (ℕ × Replica)) → option_map seen one ≡ told → option_map seen (if is then one else None) ≡ (if is then told else None)
seen_where true one told same = same
seen_where false one told same = refl

seen_one : (one : Option (ℕ × Kept)) (rest : List (ℕ × Kept)) → copies_in (cons_option one rest) ≡ cons_option (option_map seen one) (copies_in rest)
seen_one None rest = refl
seen_one (Some own) rest = refl

left_one : (t : ℕ) (copies : List (ℕ × Kept)) (lock : Lock) → option_map seen (kept_by t copies lock) ≡ left_by t (copies_in copies) lock
left_one t copies lock =
    seen_where ((lock.t == t) && is_exclusive lock.mode) (find (λ own. own.0 == lock.suite) copies) (find (λ own. own.0 == lock.suite) (copies_in copies))
    (find_seen (λ suite. suite == lock.suite) copies)

left_seen : (t : ℕ) (copies : List (ℕ × Kept)) (locks : List Lock) → copies_in (filter_map (kept_by t copies) locks) ≡ filter_map (left_by t (copies_in copies)) locks
left_seen t copies [] = refl
left_seen t copies (lock ∷ locks) =
    seen_one (kept_by t copies lock) (filter_map (kept_by t copies) locks)
    ∙ ap (λ one. cons_option one (copies_in (filter_map (kept_by t copies) locks))) (left_one t copies lock)
    ∙ ap (λ rest. cons_option (left_by t (copies_in copies) lock) rest) (left_seen t copies locks)

pub left_told : (t : ℕ) (copies : List (ℕ × Kept)) (locks : List Lock) → parted_by [] (filter_map (kept_by t copies) locks) ≡ listed own_text (filter_map (left_by t (copies_in copies)) locks)
left_told t copies locks =
    parted_listed (filter_map (kept_by t copies) locks)
    ∙ kept_listed (filter_map (kept_by t copies) locks)
    ∙ ap (λ all. listed own_text all) (left_seen t copies locks)

-- ---- texts that are put one behind another

-- a copy more is told
pub kept_step : (t t1 t2 fn between : List ℕ) (own : ℕ × Kept) (rest all : List (ℕ × Kept)) → all ≡ own ∷ rest → t1 ≡ t ++ between → t2 ≡ t1 ++ kept_text own → t ++ parted_by between all ≡ fn
    → t2 ++ parted_by (codes ",") rest ≡ fn
kept_step t t1 t2 fn between own rest all is h1 h2 so =
    let joined : t2 ++ parted_by (codes ",") rest ≡ t ++ parted_by between (own ∷ rest) = rw (h2, h1) (simp append_assoc) in
    let here : t ++ parted_by between (own ∷ rest) ≡ fn = ap (λ (x : List (ℕ × Kept)). t ++ parted_by between x) (sym is) ∙ so in
    joined ∙ here

-- denials that came, where there are some
pub some_came : (items : List AuditItem) (old mid : List ℕ) → (length items == 0) ≡ false → mid ≡ old ++ codes ",\"denials\":" → mid ++ denials_text items ≡ old ++ came_denials items
some_came [] old mid some is = cc
some_came (item ∷ items) old mid some is =
    ap (λ text. text ++ denials_text (item ∷ items)) is ∙ append_assoc old (codes ",\"denials\":") (denials_text (item ∷ items))

five : (t0 t1 t2 t3 t4 t5 a b b' c d e : List ℕ) → t1 ≡ t0 ++ a → t2 ≡ t1 ++ b ++ b' → t3 ≡ t2 ++ c → t4 ≡ t3 ++ d → t5 ≡ t4 ++ e
    → t5 ≡ t0 ++ a ++ b ++ b' ++ c ++ d ++ e
five t0 t1 t2 t3 t4 t5 a b b' c d e h1 h2 h3 h4 h5 = rw (h5, h4, h3, h2, h1) (simp append_assoc)

-- all that changed at a server is told, one after another
pub changes_told : (old : Before) (asked : Request) (st : State) (one : Option ℕ) (t0 t1 t2 t3 t4 t5 : List ℕ) → one ≡ finished asked
    → t1 ≡ t0 ++ up_text old.number st.up → TellsLockChange old.locks.items st.locks t1 t2 → t3 ≡ t2 ++ left_text one old.locks.items st.store.copies
    → t4 ≡ t3 ++ came_denials (drop old.denials st.audit) → t5 ≡ t4 ++ codes "}" → TellsChanges old asked st t0 t5
changes_told old asked st one t0 t1 t2 t3 t4 t5 is h1 locks h3 h4 h5 = record {
  gone = locks.gone;
  came = locks.came;
  change = locks.change;
  told =
      five t0 t1 t2 t3 t4 t5 (up_text old.number st.up) (freed_text locks.gone) (came_text locks.came) (left_text (finished asked) old.locks.items st.store.copies)
      (came_denials (drop old.denials st.audit)) (codes "}") h1 locks.told (h3 ∙ ap (λ one. t2 ++ left_text one old.locks.items st.store.copies) is) h4 h5;
}

seven : (t0 t1 t2 t3 t4 t5 t6 t7 a b c d e f g : List ℕ) → t1 ≡ t0 ++ a → t2 ≡ t1 ++ b → t3 ≡ t2 ++ c → t4 ≡ t3 ++ d → t5 ≡ t4 ++ e → t6 ≡ t5 ++ f → t7 ≡ t6 ++ g
    → t7 ≡ t0 ++ in_order a b c d e f g
seven t0 t1 t2 t3 t4 t5 t6 t7 a b c d e f g h1 h2 h3 h4 h5 h6 h7 = rw (h7, h6, h5, h4, h3, h2, h1) (simp append_assoc)

-- all that a server has is told, one after another
pub server_told : (number : ℕ) (st : State) (t0 t1 t2 t3 t4 t5 t6 t7 : List ℕ) → t1 ≡ t0 ++ up_text number st.up → t2 ≡ t1 ++ codes ",\"locks\":"
    → t3 ≡ t2 ++ locks_text st.locks → t4 ≡ t3 ++ copies_text st.store.copies → t5 ≡ t4 ++ codes ",\"denials\":" → t6 ≡ t5 ++ denials_text st.audit → t7 ≡ t6 ++ codes "}"
    → t7 ≡ t0 ++ server_text number st
server_told number st t0 t1 t2 t3 t4 t5 t6 t7 h1 h2 h3 h4 h5 h6 h7 =
    seven t0 t1 t2 t3 t4 t5 t6 t7 (up_text number st.up) (codes ",\"locks\":") (locks_text st.locks) (copies_text st.store.copies) (codes ",\"denials\":") (denials_text st.audit) (codes "}")
    h1 h2 h3 h4 h5 h6 h7
