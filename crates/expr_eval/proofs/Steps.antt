-- How evaluations are put together.
use Rattle.std.specs.Prelude.{◌≡◌, ℕ, zero, suc, ◌+◌, ◌<◌, ◌≤◌, Bool, true, false, ◌&&◌, ◌==◌, if◌then◌else◌, List, [], ◌∷◌, ◌++◌, map, length, drop, slice_get, Option, Some, None, Result, Ok, Err, MatchResult}
use Rattle.std.proofs.Common.{refl, sym, ap, subst, ◌∙◌, append-nil, append_assoc, arith, get_or}
use Rattle.std.proofs.lemmas.Bool.Decides.{Decides-eqb}
use Rattle.db_model.specs.declared.database.Database.{Database}
use Rattle.db_model.specs.declared.database.KeyDecl.{KeyDecl}
use Rattle.db_model.specs.declared.database.TableDecl.{TableDecl}
use Rattle.db_model.specs.declared.env.Env.{Env}
use Rattle.db_model.specs.declared.question.Question.TheVariants.{Look}
use Rattle.db_model.specs.declared.tree.Reason.{Reason}
use Rattle.db_model.specs.declared.value.Value.{Value}
use Rattle.db_model.specs.declared.value.Value.TheVariants.{Num}
use Rattle.db_model.specs.Expression.{Eval, ◌>>=◌, result, buf, when, keys_from}
use Rattle.db_model.specs.Fitting.{keys_fit, look_fits_in, look_fits, question_fits}
use Rattle.db_model.specs.Table.{KeyList}
use Rattle.db_model.specs.declared.tree.Reason.TheVariants as reason
use Rattle.db_model.specs.Over.{Point, Ends}
use Rattle.db_model.specs.Questions.{play, pure, on_ok}
use Rattle.db_model.proofs.Over.{ends_pure, ends_refused, ends_first, leads_then, leads_same}
use Rattle.expr_eval.specs.declared.end.EvalEnd.{EvalEnd}
use Rattle.expr_eval.specs.declared.end.EvalEnd.TheVariants as end
use Rattle.expr_eval.specs.declared.operand.Operand.{Operand}
use Rattle.expr_eval.specs.declared.operand.Operand.TheVariants.{Own}
use Rattle.expr_eval.specs.Operand.{shown}
use Rattle.expr_eval.specs.Reads.{looked_up}
use Rattle.expr_eval.specs.Sources.{Sources, sources}
use Rattle.expr_eval.specs.Evaluates.{outcome, Stays, Evaluates, itself, counted, Gave}

stays_on : (x y z : Env) → Stays x y → Stays y z → Stays x z
stays_on x y z h k = k ∙ ap (λ (e : Env). record e { hits = z.hits; questions = z.questions }) h

-- the packet stays
pub packet_stays : (x y : Env) → Stays x y → y.packet ≡ x.packet
packet_stays x y h = ap (λ (e : Env). e.packet) h

-- what operands are read from stays
pub sources_stay : (x y : Env) → Stays x y → sources y ≡ sources x
sources_stay x y h = ap sources h

module _ {A B : Type 0} (db : Database) where
  -- a computation that is another one from where it begins
  pub same : {p q : Eval A} {f : Sources → B → A} {m n : Point Env} {o : Result B EvalEnd} → p m.held ≡ q m.held → Evaluates db q f m o n → Evaluates db p f m o n
  same {p} {q} {f} {m} {n} {o} e h = record { ends = (leads_same db m.held.packet.stamp p q m e).leads (outcome (f (sources m.held)) o) n h.ends; stays = h.stays }

  -- a result that is there
  pub gives : {f : Sources → B → A} {m : Point Env} {o : Result B EvalEnd} (r : Result A Reason) → Gave (f (sources m.held)) r o → Evaluates db (result r) f m o m
  gives {f} {m} {o} r h = by o h
    where
      by : (o : Result B EvalEnd) → Gave (f (sources m.held)) r o → Evaluates db (result r) f m o m
      by (Ok b) h = record { ends = subst (λ (x : Result A Reason). Ends db m.held.packet.stamp (pure x) m (Ok (Ok (f (sources m.held) b))) m) (sym h) (ends_pure db m.held.packet.stamp (Ok (f (sources m.held) b)) m.held m.content m.told); stays = refl }
      by (Err (end.Fault r')) h = record { ends = subst (λ (x : Result A Reason). Ends db m.held.packet.stamp (pure x) m (Ok (Err r')) m) (sym h) (ends_pure db m.held.packet.stamp (Err r') m.held m.content m.told); stays = refl }
      by (Err end.NoMemory) h = record { ends = ends_refused db m.held.packet.stamp (result r) (record {}) m.held m.held m.content m.told; stays = refl }

  -- memory refused before anything was asked
  pub refused : {f : Sources → B → A} {m : Point Env} (p : Eval A) → Evaluates db p f m (Err end.NoMemory) m
  refused {f} {m} p = record { ends = ends_refused db m.held.packet.stamp p (record {}) m.held m.held m.content m.told; stays = refl }

module _ {A B C D : Type 0} (db : Database) where
  -- after the first part, the rest is what follows its value
  pub then_ok : {p : Eval A} (g : A → Eval C) {f : Sources → B → A} {h : Sources → D → C} {m n k : Point Env} {o : Result D EvalEnd} (b : B) → Evaluates db p f m (Ok b) n → Evaluates db (g (f (sources m.held) b)) h n o k → Evaluates db (p >>= g) h m o k
  then_ok {p} g {f} {h} {m} {n} {k} {o} b x y = record {
    ends = (leads_then db m.held.packet.stamp p (on_ok g) m n (Ok (f (sources m.held) b)) x.ends).leads (outcome (h (sources m.held)) o) k
        (subst (λ (z : Env). Ends db z.packet.stamp (g (f (sources m.held) b)) n (outcome (h (sources z)) o) k) x.stays y.ends);
    stays = stays_on m.held n.held k.held x.stays y.stays;
  }

  -- the first reason is the reason of the whole
  pub then_err : {p : Eval A} (g : A → Eval C) {f : Sources → B → A} {h : Sources → D → C} {m n : Point Env} (e : EvalEnd) → Evaluates db p f m (Err e) n → Evaluates db (p >>= g) h m (Err e) n
  then_err {p} g {f} {h} {m} {n} (end.Fault r) x = record {
    ends = (leads_then db m.held.packet.stamp p (on_ok g) m n (Err r) x.ends).leads (Ok (Err r)) n (ends_pure db m.held.packet.stamp (Err r) n.held n.content n.told);
    stays = x.stays;
  }
  then_err {p} g {f} {h} {m} {n} end.NoMemory x = record { ends = ends_first db m.held.packet.stamp p (on_ok g) m n (record {}) x.ends; stays = x.stays }

-- ---- answers that stand for values

module _ (db : Database) where
  -- the same computation, and the same answer
  pub same_as : {A B : Type 0} {p q : Eval A} {f : Sources → B → A} {m n : Point Env} {o : Result B EvalEnd} → p ≡ q → Evaluates db q f m o n → Evaluates db p f m o n
  same_as {m = m} e h = same db (ap (λ r. r m.held) e) h

  pub recast : {A B : Type 0} {p : Eval A} {f : Sources → B → A} {m n : Point Env} {o o' : Result B EvalEnd} → o ≡ o' → Evaluates db p f m o' n → Evaluates db p f m o n
  recast {p = p} {f = f} {m = m} {n = n} e h = subst (λ o. Evaluates db p f m o n) (sym e) h

  -- an answer that is known at the first state, or at the last
  pub finish_1 : {p : Eval Value} {m n : Point Env} {o : Result ℕ EvalEnd} (d : Value → Result Value Reason) (x : Operand) → Evaluates db p shown m (Ok x) n → Gave Num (d (shown (sources n.held) x)) o → Evaluates db (p >>= (λ v. result (d v))) counted m o n
  finish_1 {p} {m} {n} {o} d x h g =
      then_ok db (λ v. result (d v)) x h (gives db (d (shown (sources m.held) x))
      (subst (λ (q : Sources). Gave Num (d (shown q x)) o) (sources_stay m.held n.held h.stays) g))

  pub finish_2 : {p q : Eval Value} {m n k : Point Env} {o : Result ℕ EvalEnd} (d : Value → Value → Result Value Reason) (x y : Operand) → Evaluates db p shown m (Ok x) n → Evaluates db q shown n (Ok y) k
      → Gave Num (d (shown (sources k.held) x) (shown (sources k.held) y)) o → Evaluates db (p >>= (λ v. q >>= (λ w. result (d v w)))) counted m o k
  finish_2 {p} {q} {m} {n} {k} {o} d x y h i g =
      then_ok db (λ v. q >>= (λ w. result (d v w))) x h (finish_1 (d (shown (sources m.held) x)) y i
      (subst (λ (r : Sources). Gave Num (d (shown r x) (shown (sources k.held) y)) o) (sources_stay n.held k.held i.stays ∙ sources_stay m.held n.held h.stays) g))

  -- memory refused after the whole was done
  pub refused_after : {A B C : Type 0} {p : Eval A} {f : Sources → B → A} (h : Sources → C → A) {m n : Point Env} (b : B) → Evaluates db p f m (Ok b) n → Evaluates db p h m (Err end.NoMemory) n
  refused_after {p = p} h {m} {n} b x = record {
    ends = record { ends = record { done = (play db m.held.packet.stamp (p m.held) m.content).log; rest = []; is_prefix = sym (append-nil (play db m.held.packet.stamp (p m.held) m.content).log); follows = x.ends.ends.follows } };
    stays = x.stays;
  }

  pub kept : {A B C : Type 0} {p : Eval A} {f : Sources → B → A} (h : Sources → C → A) {m n : Point Env} (b : B) (c : C) → f (sources m.held) b ≡ h (sources m.held) c → Evaluates db p f m (Ok b) n → Evaluates db p h m (Ok c) n
  kept {p = p} h {m} {n} b c e x = record { ends = subst (λ v. Ends db m.held.packet.stamp p m (Ok (Ok v)) n) e x.ends; stays = x.stays }

-- an answer that gives no value stands for itself
pub unvalued : (db : Database) {A B C : Type 0} {p : Eval A} (f : Sources → B → A) {h : Sources → C → A} {m n : Point Env} (e : EvalEnd) → Evaluates db p f m (Err e) n → Evaluates db p h m (Err e) n
unvalued db f (end.Fault r) x = record { ends = x.ends; stays = x.stays }
unvalued db f end.NoMemory x = record { ends = x.ends; stays = x.stays }

-- an operand is handed out as its value, unless memory for it is refused
pub handed : (db : Database) {p : Eval Value} {m n : Point Env} (x : Operand) (o : Result Value EvalEnd) → Evaluates db p shown m (Ok x) n → MatchResult o (λ v. v ≡ shown (sources n.held) x) (λ e. e ≡ end.NoMemory) → Evaluates db p itself m o n
handed db {p} {m} {n} x (Ok v) h e = kept db itself x v (sym (e ∙ ap (λ (q : Sources). shown q x) (sources_stay m.held n.held h.stays))) h
handed db {p} {m} {n} x (Err e) h r = recast db (ap Err r) (refused_after db itself x h)

-- an operand that is a value of its own
pub own_is : (held : Sources) (v : Value) (x : Operand) → x ≡ Own v → Gave (shown held) (Ok v) (Ok x)
own_is held v x e = ap (λ (y : Operand). Ok (shown held y)) (sym e)

-- ---- the keys of a look-up

-- what is there of the keys: whatever the rest does, the whole does; and with any further keys that fit, all fit
pub record Keys_so_far (db : Database) (sizes : List ℕ) (parts : List (Eval Value)) (m : Point Env) (keys : KeyList) (left : List ℕ) (rest : List (Eval Value)) (n : Point Env) : Type 0 where
  pub goes : (o : Result KeyList EvalEnd) (k : Point Env) → Evaluates db (keys_from keys left rest) itself n o k → Evaluates db (keys_from [] sizes parts) itself m o k
  pub fits : (more : KeyList) → keys_fit left more ≡ true → keys_fit sizes (keys ++ more) ≡ true

pub no_keys_yet : (db : Database) (sizes : List ℕ) (parts : List (Eval Value)) (m : Point Env) → Keys_so_far db sizes parts m [] sizes parts m
no_keys_yet db sizes parts m = record { goes = λ o k h. h; fits = λ more h. h }

-- a key that is checked right after it is evaluated
abbrev pub checked_key : ℕ → Value → Result (List ℕ) Reason
checked_key size v = when (length (buf v) == size) reason.KeySize (buf v)

module _ (db : Database) (sizes : List ℕ) (parts : List (Eval Value)) (m : Point Env) (keys : KeyList) (size : ℕ) (left : List ℕ) (p : Eval Value) (rest : List (Eval Value)) (n : Point Env) where
  -- its evaluation gave no value
  pub key_unevaluated : (e : EvalEnd) (k : Point Env) → Keys_so_far db sizes parts m keys (size ∷ left) (p ∷ rest) n → Evaluates db p shown n (Err e) k → Evaluates db (keys_from [] sizes parts) itself m (Err e) k
  key_unevaluated e k s h = s.goes (Err e) k (then_err db _ e h)

  -- it has a wrong size, or memory for it was refused
  pub key_unmade : (x : Operand) (e : EvalEnd) (k : Point Env) → Keys_so_far db sizes parts m keys (size ∷ left) (p ∷ rest) n → Evaluates db p shown n (Ok x) k → Gave (λ (b : List ℕ). b) (checked_key size (shown (sources k.held) x)) (Err e)
      → Evaluates db (keys_from [] sizes parts) itself m (Err e) k
  key_unmade x e k s h g =
      s.goes (Err e) k (then_ok db _ x h (then_err db _ {f = itself} e (gives db (checked_key size (shown (sources n.held) x))
      (subst (λ (q : Sources). Gave (λ (b : List ℕ). b) (checked_key size (shown q x)) (Err e)) (sources_stay n.held k.held h.stays) g))))

  pub key_made : (x : Operand) (key : List ℕ) (k : Point Env) → Keys_so_far db sizes parts m keys (size ∷ left) (p ∷ rest) n → Evaluates db p shown n (Ok x) k → Gave (λ (b : List ℕ). b) (checked_key size (shown (sources k.held) x)) (Ok key)
      → Keys_so_far db sizes parts m (keys ++ key ∷ []) left rest k
  key_made x key k s h g = record {
    goes = λ o l r. s.goes o l (then_ok db _ x h (then_ok db (λ (b : List ℕ). keys_from (keys ++ b ∷ []) left rest) {f = itself} key (gives db (checked_key size (shown (sources n.held) x))
        (subst (λ (q : Sources). Gave (λ (b : List ℕ). b) (checked_key size (shown q x)) (Ok key)) (sources_stay n.held k.held h.stays) g)) r));
    fits = λ more r. subst (λ l. keys_fit sizes l ≡ true) (sym (append_assoc keys (key ∷ []) more)) (s.fits (key ∷ more) (one_more key more (size_of g) r));
  }
    where
      by : (b : Bool) (v : List ℕ) → (length v == size) ≡ b → when b reason.KeySize v ≡ Ok key → length key ≡ size
      by true v e g = let same : v ≡ key = cc in ap length (sym same) ∙ (Decides-eqb (length v) size).0 e
      by false v e g = (cc)

      size_of : checked_key size (shown (sources k.held) x) ≡ Ok key → length key ≡ size
      size_of g = by (length (buf (shown (sources k.held) x)) == size) (buf (shown (sources k.held) x)) refl g

      one_more : (key : List ℕ) (more : KeyList) → length key ≡ size → keys_fit left more ≡ true → keys_fit (size ∷ left) (key ∷ more) ≡ true
      one_more key more e r = ap (λ (b : Bool). b && keys_fit left more) ((Decides-eqb (length key) size).1 e) ∙ r

-- all keys are there, and fit, where no size is left
pub keys_end : (db : Database) (sizes : List ℕ) (parts : List (Eval Value)) (m : Point Env) (keys : KeyList) (rest : List (Eval Value)) (n : Point Env) → Keys_so_far db sizes parts m keys [] rest n → Evaluates db (keys_from [] sizes parts) itself m (Ok keys) n
keys_end db sizes parts m keys rest n s = s.goes (Ok keys) n (gives db (Ok keys) refl)

pub keys_fitted : (db : Database) (sizes : List ℕ) (parts : List (Eval Value)) (m : Point Env) (keys : KeyList) (rest : List (Eval Value)) (n : Point Env) → Keys_so_far db sizes parts m keys [] rest n → keys_fit sizes keys ≡ true
keys_fitted db sizes parts m keys rest n s = subst (λ l. keys_fit sizes l ≡ true) (append-nil keys) (s.fits [] refl)

-- a size is left, and no part
pub key_missing : (db : Database) (sizes : List ℕ) (parts : List (Eval Value)) (m : Point Env) (keys : KeyList) (left : List ℕ) (n : Point Env) → 0 < length left → Keys_so_far db sizes parts m keys left [] n → Evaluates db (keys_from [] sizes parts) itself m (Err (end.Fault reason.KeySize)) n
key_missing db sizes parts m keys [] n l s = absurd (omega arith)
key_missing db sizes parts m keys (size ∷ left) n l s = s.goes (Err (end.Fault reason.KeySize)) n (gives db (Err reason.KeySize) refl)

-- the keys of these declarations, and then one question
abbrev pub keys_then : List KeyDecl → List (Eval Value) → ℕ → Bool → Eval Value
keys_then declared parts n renew = keys_from [] (map (λ (k : KeyDecl). k.size) declared) parts >>= (λ keys. looked_up n keys renew)

-- keys that fit are a question that fits
pub look_is_fit : (db : Database) (n k : ℕ) (d : TableDecl) (sizes : List ℕ) (keys : KeyList) (renew : Bool) → slice_get db.tables k ≡ Some d → n ≡ k → sizes ≡ map (λ (k : KeyDecl). k.size) d.keys → keys_fit sizes keys ≡ true → question_fits db (Look n keys renew) ≡ true
unfolding question_fits look_fits
look_is_fit db n k d sizes keys renew e p q h = ap (λ (i : ℕ). look_fits_in (slice_get db.tables i) keys) p ∙ ap (λ (o : Option TableDecl). look_fits_in o keys) e ∙ ap (λ (l : List ℕ). keys_fit l keys) (sym q) ∙ h

-- the rest of a mapped list from a place on
pub drop_some : {A B : Type 0} (f : A → B) (xs : List A) (i : ℕ) (x : A) → slice_get xs i ≡ Some x → drop i (map f xs) ≡ f x ∷ drop (i + 1) (map f xs)
drop_some f [] i x e = (cc)
drop_some f (y ∷ ys) zero x e = let same : y ≡ x = cc in ap (λ z. f z ∷ map f ys) same
drop_some f (y ∷ ys) (suc i) x e = let k : suc (i + 1) ≡ suc i + 1 = omega arith in drop_some f ys i x e ∙ ap (λ n. f x ∷ drop n (f y ∷ map f ys)) k

pub drop_past : {A B : Type 0} (f : A → B) (xs : List A) (i : ℕ) → slice_get xs i ≡ None → drop i (map f xs) ≡ []
drop_past f [] zero e = refl
drop_past f [] (suc i) e = refl
drop_past f (y ∷ ys) zero e = (cc)
drop_past f (y ∷ ys) (suc i) e = drop_past f ys i e

pub drop_beyond : {A B : Type 0} (f : A → B) (xs : List A) (i : ℕ) → length xs ≤ i → drop i (map f xs) ≡ []
drop_beyond f [] zero l = refl
drop_beyond f [] (suc i) l = refl
drop_beyond f (x ∷ xs) zero l = absurd (omega arith)
drop_beyond f (x ∷ xs) (suc i) l = drop_beyond f xs i (omega arith)

pub drop_leaves : {A B : Type 0} (f : A → B) (xs : List A) (i : ℕ) → i < length xs → 0 < length (drop i (map f xs))
drop_leaves f [] i l = absurd (omega arith)
drop_leaves f (x ∷ xs) zero l = omega arith
drop_leaves f (x ∷ xs) (suc i) l = drop_leaves f xs i (omega arith)

pub drop_all : {A B : Type 0} (f : A → B) (xs : List A) → drop (length xs) (map f xs) ≡ []
drop_all f [] = refl
drop_all f (x ∷ xs) = drop_all f xs

pub drop_at : {A B : Type 0} (f : A → B) (xs : List A) (i : ℕ) (x : A) → i < length xs → x ≡ get_or xs i x → drop i (map f xs) ≡ f x ∷ drop (i + 1) (map f xs)
drop_at f [] i x l e = absurd (omega arith)
drop_at f (y ∷ ys) zero x l e = ap (λ z. f z ∷ map f ys) (sym e)
drop_at f (y ∷ ys) (suc i) x l e = let k : suc (i + 1) ≡ suc i + 1 = omega arith in drop_at f ys i x (omega arith) e ∙ ap (λ n. f x ∷ drop n (f y ∷ map f ys)) k

-- the next key and the next part, at a place of the whole lists
pub keys_at : (db : Database) (sizes : List ℕ) (parts : List (Eval Value)) (m : Point Env) (keys : KeyList) (i size : ℕ) (p : Eval Value) (n : Point Env) → drop i sizes ≡ size ∷ drop (i + 1) sizes → drop i parts ≡ p ∷ drop (i + 1) parts
    → Keys_so_far db sizes parts m keys (drop i sizes) (drop i parts) n → Keys_so_far db sizes parts m keys (size ∷ drop (i + 1) sizes) (p ∷ drop (i + 1) parts) n
keys_at db sizes parts m keys i size p n e f s =
    subst (λ (l : List ℕ). Keys_so_far db sizes parts m keys l (p ∷ drop (i + 1) parts) n) e (subst (λ (r : List (Eval Value)). Keys_so_far db sizes parts m keys (drop i sizes) r n) f s)
