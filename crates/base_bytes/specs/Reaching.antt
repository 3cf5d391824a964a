-- Which structs stand in which.
use Rattle.std.specs.Prelude.{ℕ, Bool, false, ◌==◌, IsTrue, List, []}
use Rattle.std.specs.List.{list_any}
use Rattle.base_bytes.specs.declared.shapes.Shape.{Shape}
use Rattle.base_bytes.specs.declared.shapes.Shape.TheVariants as shape
use Rattle.base_bytes.specs.declared.shapes.Shapes.{Shapes}
use Rattle.base_bytes.specs.declared.ty.Ty.{Ty, fold-Ty}
use Rattle.base_bytes.specs.declared.ty.Ty.TheOpen.{Ty-F}
use Rattle.base_bytes.specs.Values.{shape_at}

-- One layer of a type, where the type inside an optional is given by its answer.
abbrev pub has_struct_layer : ℕ → Ty-F Bool → Bool
has_struct_layer item (Ty-F.Struct other) = item == other
has_struct_layer item (Ty-F.Optional inner) = inner
has_struct_layer item _ = false

-- The type is the struct of this item, or optionals around it.
abbrev pub has_struct : ℕ → Ty → Bool
has_struct item = fold-Ty Bool (has_struct_layer item)

-- The types of the fields of a struct; other shapes have none.
abbrev pub field_types : Shape → List Ty
field_types (shape.Fields types) = types
field_types _ = []

-- A field of the first struct holds the second.
abbrev pub Holds : Shapes → ℕ → ℕ → Type 0
Holds shapes item other = IsTrue (list_any (has_struct other) (field_types (shape_at shapes item)))

-- The first struct holds the second, or holds one that reaches it.
pub data Reaches (shapes : Shapes) (last : ℕ) : ℕ → Type 0 where
  directly : (item : ℕ) → Holds shapes item last → Reaches shapes last item
  through : (item other : ℕ) → Holds shapes item other → Reaches shapes last other → Reaches shapes last item

-- No struct reaches itself, so a value of each type is finite.
abbrev pub NoneReachesItself : Shapes → Type 0
NoneReachesItself shapes = (item : ℕ) → Reaches shapes item item → ⊥
