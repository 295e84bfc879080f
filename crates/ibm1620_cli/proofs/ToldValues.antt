-- What holds where a value is told.
use Rattle.std.proofs.Common.{◌≡◌, ℕ, List, false, refl, sym, ap, subst}
use Rattle.std.proofs.lemmas.Bool.{true≢false}
use Rattle.std.specs.Prelude.{Option, Some, None, is_some, IfSome, option_map}

pub if_some : {A : Type 0} {P Q : A → Type 0} (o : Option A) → ((x : A) → P x → Q x) → IfSome o P → IfSome o Q
if_some None f p = tt
if_some (Some x) f p = f x p

pub all_some : {A : Type 0} {P : A → Type 0} (o : Option A) → ((x : A) → P x) → IfSome o P
all_some None f = tt
all_some (Some x) f = f x

pub if_both : {A : Type 0} {P Q R : A → Type 0} (o : Option A) → ((a : A) → P a → Q a → R a) → IfSome o P → IfSome o Q → IfSome o R
if_both None f p q = tt
if_both (Some a) f p q = f a p q

-- what holds of what a told value comes to
pub if_told : {A B : Type 0} (P : B → Type 0) (o : Option A) (g : A → B) (x : Option B) → x ≡ option_map g o → IfSome x P → IfSome o (λ a. P (g a))
if_told {B = B} P None g x is holds = tt
if_told {B = B} P (Some a) g x is holds = subst (λ (y : Option B). IfSome y P) is holds

-- what holds at each told value holds of what it comes to
pub if_mapped : {A B : Type 0} (P : B → Type 0) (Q : A → Type 0) (o : Option A) (f : A → B) → ((a : A) → Q a → P (f a)) → IfSome o Q → IfSome (option_map f o) P
if_mapped P Q None f by holds = tt
if_mapped P Q (Some a) f by holds = by a holds

-- what holds of a told value that is a map's
pub of_map : {A B : Type 0} (o : Option A) (f : A → B) (x : Option B) (P : A → Type 0) → x ≡ option_map f o → ((a : A) → x ≡ Some (f a) → P a) → IfSome o P
of_map None f x P is by = tt
of_map (Some a) f x P is by = by a is

-- a map after a map
pub map_twice : {A B C : Type 0} (o : Option A) (f : B → C) (g : A → B) → option_map f (option_map g o) ≡ option_map (λ x. f (g x)) o
map_twice None f g = refl
map_twice (Some x) f g = refl

pub none_told : {A : Type 0} (o : Option A) → is_some o ≡ false → o ≡ None
none_told None none = refl
none_told (Some x) none = absurd (true≢false none)

-- what was read is what is told
pub told_text : (o : Option (List ℕ)) (a b : List ℕ) → o ≡ Some a → IfSome o (λ text. text ≡ b) → Some b ≡ Some a
told_text o a b is told = let same : a ≡ b = subst (λ (x : Option (List ℕ)). IfSome x (λ text. text ≡ b)) is told in ap Some (sym same)
