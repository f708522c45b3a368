-- The first answer that isn't the noted one is none exactly where a log agrees.
use Rattle.std.specs.Prelude.{◌≡◌, ℕ, Bool, true, false, [], ◌∷◌, Option, Some, None}
use Rattle.std.proofs.Common.{refl, ap, Decides}
use Rattle.std.proofs.lemmas.Bool.Decides.{Decides-eqb}
use Rattle.std.specs.Cmp.Lexicographic.{pointwise_decides, bytes_decides}
use Rattle.db_model.specs.declared.database.Database.{Database}
use Rattle.db_model.specs.declared.question.Answer.{Answer}
use Rattle.db_model.specs.declared.question.Answer.TheVariants.{Miss, Hit, Done}
use Rattle.db_model.specs.declared.value.Value.{Value}
use Rattle.db_model.specs.declared.value.Value.TheVariants.{Num, Buf, Proto}
use Rattle.db_model.specs.Questions.{Log}
use Rattle.db_model.specs.Replay.{Agrees, Difference, differs, differs_by, later, same_answer, same_value}
use Rattle.db_model.specs.Session.{Session, ask}

pub value_decides : (a b : Value) → Decides (same_value a b) (a ≡ b)
value_decides (Num m) (Num n) = ((λ e. ap Num ((Decides-eqb m n).0 e)), (λ e. (Decides-eqb m n).1 (cc)))
value_decides (Num m) (Buf t) = ((λ e. (cc)), (λ e. (cc)))
value_decides (Num m) (Proto n) = ((λ e. (cc)), (λ e. (cc)))
value_decides (Buf s) (Num n) = ((λ e. (cc)), (λ e. (cc)))
value_decides (Buf s) (Buf t) = ((λ e. ap Buf ((bytes_decides s t).0 e)), (λ e. (bytes_decides s t).1 (cc)))
value_decides (Buf s) (Proto n) = ((λ e. (cc)), (λ e. (cc)))
value_decides (Proto m) (Num n) = ((λ e. (cc)), (λ e. (cc)))
value_decides (Proto m) (Buf t) = ((λ e. (cc)), (λ e. (cc)))
value_decides (Proto m) (Proto n) = ((λ e. ap Proto ((Decides-eqb m n).0 e)), (λ e. (Decides-eqb m n).1 (cc)))

pub answer_decides : (a b : Answer) → Decides (same_answer a b) (a ≡ b)
answer_decides Miss Miss = ((λ e. refl), (λ e. refl))
answer_decides Miss (Hit r) = ((λ e. (cc)), (λ e. (cc)))
answer_decides Miss Done = ((λ e. (cc)), (λ e. (cc)))
answer_decides (Hit r) Miss = ((λ e. (cc)), (λ e. (cc)))
answer_decides (Hit r) (Hit s) = ((λ e. ap Hit ((pointwise_decides value_decides r s).0 e)), (λ e. (pointwise_decides value_decides r s).1 (cc)))
answer_decides (Hit r) Done = ((λ e. (cc)), (λ e. (cc)))
answer_decides Done Miss = ((λ e. (cc)), (λ e. (cc)))
answer_decides Done (Hit s) = ((λ e. (cc)), (λ e. (cc)))
answer_decides Done Done = ((λ e. refl), (λ e. refl))

later_none : (d : Option Difference) → later d ≡ None → d ≡ None
later_none None e = refl
later_none (Some d) e = (cc)

none_by : {P Q : Type 0} (b : Bool) (old new : Answer) (rest : Option Difference) → Decides b P → (rest ≡ None → Q) → differs_by b old new rest ≡ None → P × Q
none_by true old new rest d h e = (d.0 refl, h (later_none rest e))
none_by false old new rest d h e = (cc)

by_none : {P Q : Type 0} (b : Bool) (old new : Answer) (rest : Option Difference) → Decides b P → (Q → rest ≡ None) → P × Q → differs_by b old new rest ≡ None
by_none true old new rest d h k = ap later (h k.1)
by_none false old new rest d h k = let e = d.1 k.0 in (cc)

pub differs_none : (db : Database) (t : ℕ) (l : Log) (s : Session) → differs db t l s ≡ None → Agrees db t l s
differs_none db t [] s e = tt
differs_none db t (x ∷ l) s e = none_by (same_answer (ask db s x.0 t).0 x.1) x.1 (ask db s x.0 t).0 (differs db t l (ask db s x.0 t).1) (answer_decides (ask db s x.0 t).0 x.1) (differs_none db t l (ask db s x.0 t).1) e

pub none_differs : (db : Database) (t : ℕ) (l : Log) (s : Session) → Agrees db t l s → differs db t l s ≡ None
none_differs db t [] s h = refl
none_differs db t (x ∷ l) s h = by_none (same_answer (ask db s x.0 t).0 x.1) x.1 (ask db s x.0 t).0 (differs db t l (ask db s x.0 t).1) (answer_decides (ask db s x.0 t).0 x.1) (none_differs db t l (ask db s x.0 t).1) h
