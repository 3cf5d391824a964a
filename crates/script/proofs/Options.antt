-- Options and what is made of them, taken apart.
use Rattle.std.proofs.Common.{◌≡◌, Bool, true, false, Option, Some, None, option_and_then, option_map, if◌then◌else◌, refl, ap}
use Rattle.script.specs.working.Readers.{chosen}

abbrev some_or : {A : Type 0} → A → Option A → A
some_or x None = x
some_or x (Some y) = y

pub same_some : {A : Type 0} (x y : A) → Some x ≡ Some y → x ≡ y
same_some x y is = ap (some_or x) is

pub none_some : {A P : Type 0} {x : A} → None ≡ Some x → P
none_some is = absurd (cc)

pub bind_then : {A B P : Type 0} (o : Option A) (f : A → Option B) (y : B) → option_and_then f o ≡ Some y → ((x : A) → o ≡ Some x → f x ≡ Some y → P) → P
bind_then None f y is go = absurd (cc)
bind_then (Some x) f y is go = go x refl is

pub map_then : {A B P : Type 0} (o : Option A) (f : A → B) (y : B) → option_map f o ≡ Some y → ((x : A) → o ≡ Some x → f x ≡ y → P) → P
map_then None f y is go = absurd (cc)
map_then (Some x) f y is go = go x refl (same_some (f x) y is)

pub chosen_then : {A B P : Type 0} (o : Option A) (x : B) (f : A → B) (y : B) → chosen o x f ≡ y → (o ≡ None → x ≡ y → P) → ((a : A) → o ≡ Some a → f a ≡ y → P) → P
chosen_then None x f y is none some = none refl is
chosen_then (Some a) x f y is none some = some a refl is

pub if_then : {A P : Type 0} (b : Bool) (x : A) (y : A) → (if b then Some x else None) ≡ Some y → (b ≡ true → x ≡ y → P) → P
if_then true x y is go = go refl (same_some x y is)
if_then false x y is go = absurd (cc)

pub either_then : {A P : Type 0} (b : Bool) (x y z : A) → (if b then x else y) ≡ z → (b ≡ true → x ≡ z → P) → (b ≡ false → y ≡ z → P) → P
either_then true x y z is holds fails = holds refl is
either_then false x y z is holds fails = fails refl is
