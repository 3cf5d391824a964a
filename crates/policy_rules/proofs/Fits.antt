-- Which types fit, form by form; and two types, of which one fits the other.
use Rattle.std.proofs.Common.{◌≡◌, Bool, true, false, Some, None, refl, ap}
use Rattle.policy_rules.proofs.Folds.{fold-named_type-Int, fold-named_type-Bool, fold-named_type-Str, fold-named_type-Raw, fold-named_type-Ident, fold-named_type-Enum, fold-named_type-Struct, fold-named_type-Optional, fold-named_type-Never}
use Rattle.policy_rules.specs.Names.{Name}
use Rattle.policy_rules.specs.Types.{fits, fits_layer, joined}
use Rattle.policy_rules.specs.declared.types.NamedType.{NamedType, map-NamedType, out-NamedType}
use Rattle.policy_rules.specs.declared.types.NamedType.TheOpen.{NamedType-F}
use Rattle.policy_rules.specs.declared.types.NamedType.TheVariants as ty

-- one layer of a type, where the type inside an optional is its test
abbrev pub tests : NamedType-F NamedType → NamedType-F (NamedType → Bool)
tests layer = map-NamedType NamedType (NamedType → Bool) fits layer

abbrev pub fits_step : NamedType-F (NamedType → Bool) → NamedType → Bool
fits_step layer other = fits_layer layer (out-NamedType other)

pub fits-Int : (u : NamedType) → fits ty.Int u ≡ fits_layer (tests NamedType-F.Int) (out-NamedType u)
fits-Int u = ap (λ test. test u) (fold-named_type-Int fits_step)

pub fits-Bool : (u : NamedType) → fits ty.Bool u ≡ fits_layer (tests NamedType-F.Bool) (out-NamedType u)
fits-Bool u = ap (λ test. test u) (fold-named_type-Bool fits_step)

pub fits-Str : (u : NamedType) → fits ty.Str u ≡ fits_layer (tests NamedType-F.Str) (out-NamedType u)
fits-Str u = ap (λ test. test u) (fold-named_type-Str fits_step)

pub fits-Raw : (u : NamedType) → fits ty.Raw u ≡ fits_layer (tests NamedType-F.Raw) (out-NamedType u)
fits-Raw u = ap (λ test. test u) (fold-named_type-Raw fits_step)

pub fits-Ident : (u : NamedType) → fits ty.Ident u ≡ fits_layer (tests NamedType-F.Ident) (out-NamedType u)
fits-Ident u = ap (λ test. test u) (fold-named_type-Ident fits_step)

pub fits-Enum : (name : Name) (u : NamedType) → fits (ty.Enum name) u ≡ fits_layer (tests (NamedType-F.Enum name)) (out-NamedType u)
fits-Enum name u = ap (λ test. test u) (fold-named_type-Enum fits_step name)

pub fits-Struct : (name : Name) (u : NamedType) → fits (ty.Struct name) u ≡ fits_layer (tests (NamedType-F.Struct name)) (out-NamedType u)
fits-Struct name u = ap (λ test. test u) (fold-named_type-Struct fits_step name)

pub fits-Optional : (inner : NamedType) (u : NamedType) → fits (ty.Optional inner) u ≡ fits_layer (tests (NamedType-F.Optional inner)) (out-NamedType u)
fits-Optional inner u = ap (λ test. test u) (fold-named_type-Optional fits_step inner)

pub fits-Never : (u : NamedType) → fits ty.Never u ≡ fits_layer (tests NamedType-F.Never) (out-NamedType u)
fits-Never u = ap (λ test. test u) (fold-named_type-Never fits_step)

pub joined_first : (t u : NamedType) → fits t u ≡ true → joined t u ≡ Some u
joined_first t u is = rw is refl

pub joined_second : (t u : NamedType) → fits t u ≡ false → fits u t ≡ true → joined t u ≡ Some t
joined_second t u is other = rw (is, other) refl

pub joined_neither : (t u : NamedType) → fits t u ≡ false → fits u t ≡ false → joined t u ≡ None
joined_neither t u is other = rw (is, other) refl

pub ruleset fitting_rules = (fits-Int, fits-Bool, fits-Str, fits-Raw, fits-Ident, fits-Enum, fits-Struct, fits-Optional, fits-Never, joined_first, joined_second, joined_neither)
