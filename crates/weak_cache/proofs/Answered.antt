-- What an answer that is an error or none leaves to show.
use Rattle.std.specs.Prelude.{Result, Ok, Err, OnOk, OnErr}

pub on_ok : {T E : Type 0} → (r : Result T E) (P Q : Type 0) → (P → Q) → OnOk r P → OnOk r Q
on_ok (Ok x) P Q f h = f h
on_ok (Err e) P Q f h = tt

pub either : {T E : Type 0} → (r : Result T E) (P Q : Type 0) → (P → Q) → OnOk r P → (S : Type 0) → (S → Q) → OnErr r S → Q
either (Ok x) P Q f h S g k = f h
either (Err e) P Q f h S g k = g k
