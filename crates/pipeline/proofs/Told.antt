-- What is said where something is told.
use Rattle.std.proofs.Common.{◌≡◌, Option, Some, None, IfSome, subst}
use Rattle.std.specs.Prelude.{IsSomeAnd}

pub none_is_some : {A : Type 0} {a : A} → ◌≡◌ {A = Option A} None (Some a) → ⊥
none_is_some e = cc

pub told_all : {A : Type 0} (o : Option A) (P : A → Type 0) → ((a : A) → P a) → IfSome o P
told_all None P f = tt
told_all (Some a) P f = f a

pub told_map : {A : Type 0} (o : Option A) (P Q : A → Type 0) → ((a : A) → P a → Q a) → IfSome o P → IfSome o Q
told_map None P Q f h = tt
told_map (Some a) P Q f h = f a h

-- of two things that are told
pub told_both : {A : Type 0} (o : Option A) (P Q R : A → Type 0) → ((a : A) → P a → Q a → R a) → IfSome o P → IfSome o Q → IfSome o R
told_both None P Q R f h k = tt
told_both (Some a) P Q R f h k = f a h k

-- what holds of what is told holds of this
pub told_here : {A : Type 0} (o : Option A) (a : A) (P : A → Type 0) → o ≡ Some a → IfSome o P → P a
told_here o a P e h = let Q : Option _ → Type 0 = λ p. IfSome p P in subst Q e h

-- of something that there is
pub match_map : {A : Type 0} (o : Option A) (P Q : A → Type 0) → ((a : A) → P a → Q a) → IsSomeAnd o P → IsSomeAnd o Q
match_map None P Q f h = absurd h
match_map (Some a) P Q f h = f a h
