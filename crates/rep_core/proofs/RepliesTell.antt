-- What a reply tells of the server that gave it, and of the server after it.
use Rattle.rep_core.proofs.Vocabulary.{◌≡◌, ℕ, true, None, Content, Prefix, LockMode, Exclusive, in_the_way, has_lock, copy_of, State, reply_of, after, arith}
use Rattle.rep_core.specs.declared.request.Request.TheVariants as request
use Rattle.rep_core.specs.declared.reply.Reply.TheVariants as reply
use Rattle.rep_core.proofs.Ways.{with_locked}

-- ---- Held

-- nothing stood in the way, the copy has what is told, and the transaction has the lock afterwards
pub record LockTold (st new : State) (t suite : ℕ) (mode : LockMode) (prefix : Prefix) (dver : ℕ) : Type 0 where
  pub free : in_the_way t suite mode st.locks ≡ None
  pub prefix_is : (copy_of st.store suite).prefix ≡ prefix
  pub dver_is : (copy_of st.store suite).dver ≡ dver
  pub later : new ≡ with_locked t suite mode st

pub poll_told : (st : State) (t suite : ℕ) (mode : LockMode) (prefix : Prefix) (dver : ℕ) → reply_of st (request.Poll t suite mode) ≡ reply.Held prefix dver → LockTold st (after st (request.Poll t suite mode)) t suite mode prefix dver
poll_told st t suite mode prefix dver said = search arith

pub upgrade_told : (st : State) (t suite : ℕ) (prefix : Prefix) (dver : ℕ) → reply_of st (request.Upgrade t suite) ≡ reply.Held prefix dver
    → (has_lock t suite st.locks ≡ true) × LockTold st (after st (request.Upgrade t suite)) t suite Exclusive prefix dver
upgrade_told st t suite prefix dver said = search arith

-- ---- Given

-- the transaction has a lock there, and the copy has the content at the version
pub record ContentTold (st : State) (t suite dver : ℕ) (content : Content) : Type 0 where
  pub locked : has_lock t suite st.locks ≡ true
  pub dver_is : (copy_of st.store suite).dver ≡ dver
  pub content_is : (copy_of st.store suite).content ≡ content

pub fetch_told : (st : State) (t suite dver : ℕ) (content : Content) → reply_of st (request.Fetch t suite) ≡ reply.Given dver content → ContentTold st t suite dver content
fetch_told st t suite dver content said = search arith
