-- Changes between two lists, as far as they are looked through.
use Rattle.std.proofs.Common.{◌≡◌, ◌∙◌, List, [], ◌∷◌, ◌++◌, append_assoc, ap, inl, inr, refl, subst, sym}
use Rattle.event_json.specs.Changes.{IsChange, IsParted}
use Rattle.event_json.specs.code.Going.{GoesOn, Meets}
use Rattle.event_json.proofs.Parting.{parted_all, parted_go, parted_stay}

-- of the old list this is left, and of the new one this was looked at
pub record IsChanging {A : Type 0} (old rest seen gone came : List A) : Type 0 where
  pub front : List A
  pub kept : List A
  pub parts : old ≡ front ++ rest
  pub before : IsParted front kept gone
  pub after : IsParted seen kept came

pub changing_first : {A : Type 0} (old : List A) → IsChanging old old [] [] []
changing_first old = record { front = []; kept = []; parts = refl; before = (refl, refl); after = (refl, refl) }

-- some of what is left went
pub changing_goes : {A : Type 0} (old rest later seen was now came : List A) → IsChanging old rest seen was came → GoesOn rest later was now → IsChanging old later seen now came
changing_goes old rest later seen was now came so on = record {
  front = so.front ++ on.front;
  kept = so.kept;
  parts = so.parts ∙ ap (λ xs. so.front ++ xs) on.parts ∙ sym (append_assoc so.front on.front later);
  before = subst (λ gs. IsParted (so.front ++ on.front) so.kept gs) (sym on.went) (parted_all so.front so.kept was on.front so.before);
  after = so.after;
}

-- the next of the new one is the first of what is left, or it came
pub changing_meets : {A : Type 0} (old rest later seen gone was now : List A) (x : A) → IsChanging old rest seen gone was → Meets rest x later was now
    → IsChanging old later (seen ++ x ∷ []) gone now
changing_meets old rest later seen gone was now x so meets = elim meets [
  | inl a ↦ record {
    front = so.front ++ x ∷ [];
    kept = so.kept ++ x ∷ [];
    parts = so.parts ∙ ap (λ xs. so.front ++ xs) a.0 ∙ sym (append_assoc so.front (x ∷ []) later);
    before = parted_stay so.front so.kept gone x so.before;
    after = subst (λ cs. IsParted (seen ++ x ∷ []) (so.kept ++ x ∷ []) cs) (sym a.1) (parted_stay seen so.kept was x so.after);
  }
  | inr b ↦ record {
    front = so.front;
    kept = so.kept;
    parts = so.parts ∙ ap (λ xs. so.front ++ xs) (sym b.0);
    before = so.before;
    after = subst (λ cs. IsParted (seen ++ x ∷ []) so.kept cs) (sym b.1) (parted_go seen so.kept was x so.after);
  }
]

-- all was looked at, and what is left went
pub changed : {A : Type 0} (old rest new was now came : List A) → IsChanging old rest new was came → now ≡ was ++ rest → IsChange old new now came
changed old rest new was now came so all = record {
  kept = so.kept;
  before = subst (λ os. IsParted os so.kept now) (sym so.parts) (subst (λ gs. IsParted (so.front ++ rest) so.kept gs) (sym all) (parted_all so.front so.kept was rest so.before));
  after = so.after;
}

-- ---- where what came stands behind

-- of the new list this is left
pub record IsEnding {A : Type 0} (seen new came gone : List A) : Type 0 where
  pub kept : List A
  pub before : IsParted seen kept gone
  pub after : new ≡ kept ++ came

pub ending_first : {A : Type 0} (new : List A) → IsEnding [] new new []
ending_first new = record { kept = []; before = (refl, refl); after = refl }

pub ending_meets : {A : Type 0} (seen new rest later was now : List A) (x : A) → IsEnding seen new rest was → Meets rest x later was now → IsEnding (seen ++ x ∷ []) new later now
ending_meets seen new rest later was now x so meets = elim meets [
  | inl a ↦ record {
    kept = so.kept ++ x ∷ [];
    before = subst (λ gs. IsParted (seen ++ x ∷ []) (so.kept ++ x ∷ []) gs) (sym a.1) (parted_stay seen so.kept was x so.before);
    after = so.after ∙ ap (λ xs. so.kept ++ xs) a.0 ∙ sym (append_assoc so.kept (x ∷ []) later);
  }
  | inr b ↦ record {
    kept = so.kept;
    before = subst (λ gs. IsParted (seen ++ x ∷ []) so.kept gs) (sym b.1) (parted_go seen so.kept was x so.before);
    after = so.after ∙ ap (λ xs. so.kept ++ xs) (sym b.0);
  }
]
