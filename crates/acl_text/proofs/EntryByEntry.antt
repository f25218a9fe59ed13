-- Entries of two lists that are taken one at a time.
use Rattle.acl_text.proofs.Vocabulary.{◌≡◌, ℕ, List, [], ◌∷◌, ◌++◌, Option, None, Some, Result, Err, refl, ap, ◌∙◌, append-nil, IsPermutation, cons_option, IfErr, IfOk, IsErrAnd, OnOk, Entry, fault_in, arith, first_fault, SidedEntry, Side, Access}
use Rattle.acl_text.proofs.Vocabulary.{Default, Memory, AreTallied, fault_of_list, default_entries, entries_of, if_of, Tables, Spells, SpellsLists, lists_fault, Lists}
use Rattle.acl_core.specs.declared.fault.AclError.{AclError}
use Rattle.acl_core.specs.declared.fault.AclFault.{AclFault}
use Rattle.acl_core.specs.Tallies.{IsTallyOf, Tallied}
use Rattle.acl_text.specs.declared.read.Tallies.{Tallies}

pub on_ok : {T E P Q : Type 0} (r : Result T E) → OnOk r P → (P → Q) → OnOk r Q
on_ok r h1 h2 = search arith

cons_more : (o : Option Entry) (entries more : List Entry) → cons_option o (entries ++ more) ≡ cons_option o entries ++ more
cons_more o entries more = search arith

-- one more entry
entries_more : (side : Side) (taken : List SidedEntry) (said : SidedEntry) → entries_of side (taken ++ said ∷ []) ≡ entries_of side taken ++ entries_of side (said ∷ [])
entries_more side [] said = refl
entries_more side (first ∷ taken) said = search (cons_more, entries_more side taken said, arith)

one_more : (side : Side) (taken : List SidedEntry) (said : SidedEntry) (entry : Entry) → if_of side said.side said.entry ≡ Some entry → entries_of side (taken ++ said ∷ []) ≡ entries_of side taken ++ entry ∷ []
one_more side taken said entry is = entries_more side taken said ∙ ap (λ o. entries_of side taken ++ cons_option o []) is

no_more : (side : Side) (taken : List SidedEntry) (said : SidedEntry) → if_of side said.side said.entry ≡ None → entries_of side (taken ++ said ∷ []) ≡ entries_of side taken
no_more side taken said is = entries_more side taken said ∙ ap (λ o. entries_of side taken ++ cons_option o []) is ∙ append-nil (entries_of side taken)

pub tally_more : (old new : Tallied) (side : Side) (taken : List SidedEntry) (said : SidedEntry) → said.side ≡ side → if_of side side said.entry ≡ Some said.entry
    → ((entries : List Entry) → IsTallyOf old entries → IsTallyOf new (entries ++ said.entry ∷ [])) → IsTallyOf old (entries_of side taken)
    → IsTallyOf new (entries_of side (taken ++ said ∷ []))
tally_more old new side taken said of_side same more is = search (one_more, arith)

pub tally_stays : (old : Tallied) (side other : Side) (taken : List SidedEntry) (said : SidedEntry) → said.side ≡ other → if_of side other said.entry ≡ None
    → IsTallyOf old (entries_of side taken) → IsTallyOf old (entries_of side (taken ++ said ∷ []))
tally_stays old side other taken said of_other none is = search (no_more, arith)

-- the fault of an access list is that of both
refused_first : (a : AclError) (told : Option AclFault) (taken : List SidedEntry) → told ≡ fault_in {T = Unit {0}} (Err a) → told ≡ first_fault (entries_of Access taken)
    → (fault_of_list a ≡ Memory → ⊥) → lists_fault taken ≡ Some (fault_of_list a)
refused_first a told taken h3 h4 h5 = search arith

named_by : (T : Type 0) (a : AclError) → fault_in {T = T} (Err a) ≡ fault_in {T = Unit {0}} (Err a)
named_by h0 a = search arith

pub access_refused : (T : Type 0) (r : Result T AclError) (a : AclError) (taken : List SidedEntry) → r ≡ Err a → fault_in r ≡ first_fault (entries_of Access taken)
    → (fault_of_list a ≡ Memory → ⊥) → lists_fault taken ≡ Some (fault_of_list a)
access_refused T r a taken failed is other = refused_first a (fault_in r) taken (ap fault_in failed ∙ named_by T a) is other

pub err_told : {T E : Type 0} (Q : E → Type 0) (r : Result T E) (f : E) → IsErrAnd r (λ e. e ≡ f) → Q f → IfErr r Q
err_told h0 r f h3 h4 = search arith

-- a text that spells entries spells the lists that they make
pub lists_spelled : {E : Type 0} (r : Result Lists E) (tallies : Tallies) (text : List ℕ) (names : Tables) (said : List SidedEntry) → AreTallied tallies said → Spells text names (entries_of Access said) (entries_of Default said)
    → IfOk r (λ lists. (taken : List SidedEntry) → AreTallied tallies taken → IsPermutation (entries_of Access taken) lists.access)
    → IfOk r (λ lists. (taken : List SidedEntry) → AreTallied tallies taken → IsPermutation (entries_of Default taken) (default_entries lists.default))
    → IfOk r (SpellsLists text names)
lists_spelled r tallies text names said h5 h6 h7 h8 = search arith
