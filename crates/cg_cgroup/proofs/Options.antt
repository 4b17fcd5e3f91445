-- What an option has, once it is mapped.
use Rattle.std.proofs.Common.{◌≡◌, true, false, refl, sym, ap, true≢false, Option, Some, None, is_some, option_map, unwrap_or}

pub some_value : {A : Type 0} (o : Option A) → is_some o ≡ true → (x : A) × (o ≡ Some x)
some_value None h = absurd (true≢false (sym h))
some_value (Some x) h = (x, refl)

pub none_value : {A : Type 0} (o : Option A) → is_some o ≡ false → o ≡ None
none_value None h = refl
none_value (Some x) h = absurd (true≢false h)

-- what a mapped value comes from
pub mapped_from : {A B : Type 0} (g : A → B) (o : Option A) (y : B) → option_map g o ≡ Some y → (x : A) × (o ≡ Some x) × (g x ≡ y)
mapped_from g None y is = absurd (true≢false (sym (ap is_some is)))
mapped_from g (Some x) y is = (x, refl, ap (λ o. unwrap_or o (g x)) is)

pub is_some-mapped : {A B : Type 0} (g : A → B) (o : Option A) → is_some (option_map g o) ≡ is_some o
is_some-mapped g None = refl
is_some-mapped g (Some x) = refl

pub same_some : {A : Type 0} (x y : A) → Some x ≡ Some y → x ≡ y
same_some x y is = ap (λ o. unwrap_or o x) is
