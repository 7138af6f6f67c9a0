-- Facts of optional values.
use Rattle.std.proofs.Common.{◌≡◌, true, is_some, Option, Some, None, IfSome, refl, subst}

pub record Found {A : Type 0} (o : Option A) : Type 0 where
  pub one : A
  pub is : o ≡ Some one

pub found : {A : Type 0} (o : Option A) → is_some o ≡ true → Found o
found None e = absurd (cc)
found (Some x) e = record { one = x; is = refl }

pub fact_there : {A : Type 0} (P : A → Type 0) (o : Option A) (x : A) → o ≡ Some x → IfSome o P → P x
fact_there P o x e h = subst (λ q. IfSome q P) e h

pub if_there : {A : Type 0} (o : Option A) (P : A → Type 0) → ((x : A) → o ≡ Some x → P x) → IfSome o P
if_there None P h = tt
if_there (Some x) P h = h x refl

pub one_there : {A : Type 0} (o : Option A) (x y : A) → o ≡ Some x → o ≡ Some y → x ≡ y
one_there o x y e f = cc
