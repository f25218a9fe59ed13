-- What a listing finds.
use Rattle.file_ops.proofs.Vocabulary.{◌≡◌, ℕ, List, Some, Result, Ok, Err, IfOk, refl, ap, Identity, Content, Why, Rows, row_of, root, ◌>>=◌, listed_in, names_listed, Object, names_in, permit, arith, place_of, reach, to_read, walk}
use Rattle.suite_content.specs.declared.content.Content.TheVariants.{Bytes, Names}
use Rattle.suite_content.specs.Folders as folders
use Rattle.file_ops.specs.declared.answer.Answer.TheVariants as answer

-- the names of a folder are those that are listed
pub listed : (content : Content) (entries : List (List ℕ × ℕ)) → names_in content ≡ Ok entries → listed_in content ≡ folders.names_in entries
listed (Names names) entries is = ap folders.names_in (cc is)
listed (Bytes bytes) entries is = absurd (cc is)

walked : (rows : Rows) (place : Object) (suite : Result ℕ Why) → ◌>>=◌ suite (place_of rows) ≡ Ok place → row_of rows place.suite ≡ Some place.row
walked rows place suite h3 = search arith

-- what is reached is there
pub reached : (rows : Rows) (caller : Identity) (names : List (List ℕ)) (place : Object) → reach rows caller names ≡ Ok place → row_of rows place.suite ≡ Some place.row
reached rows caller names place is = walked rows place (walk rows caller root names) is

-- a listing, step by step
pub listed_is : (rows : Rows) (caller : Identity) (names : List (List ℕ)) (place : Object) (entries : List (List ℕ × ℕ)) (list : List (List ℕ))
    → reach rows caller names ≡ Ok place → permit caller place to_read ≡ Ok tt → names_in place.row.content ≡ Ok entries → list ≡ folders.names_in entries
    → names_listed rows caller names ≡ Ok (record { answer = answer.List list; rows = rows })
listed_is rows caller names place entries list there may holds is = rw (there, may, holds, is) refl

pub if_ok : {T E : Type 0} → (r : Result T E) (P Q : T → Type 0) → ((x : T) → P x → Q x) → IfOk r P → IfOk r Q
if_ok (Ok x) P Q weaker h = weaker x h
if_ok (Err e) P Q weaker h = tt
