-- How far the decoder may still descend: a number that falls with each of its calls.
use Rattle.std.proofs.Common.{ℕ, zero, suc, ◌+◌, max, List, [], ◌∷◌}
use Rattle.base_bytes.specs.Values.{shape_at}
use Rattle.base_bytes.specs.declared.shapes.Shape.{Shape}
use Rattle.base_bytes.specs.declared.shapes.Shape.TheVariants as shape
use Rattle.base_bytes.specs.declared.shapes.Shapes.{Shapes}
use Rattle.base_bytes.specs.declared.ty.Ty.{Ty, fold-Ty}
use Rattle.base_bytes.specs.declared.ty.Ty.TheOpen.{Ty-F}

abbrev pub greatest : {A : Type 0} → (A → ℕ) → List A → ℕ
greatest f [] = 0
greatest f (x ∷ xs) = max (f x) (greatest f xs)

abbrev pub room_layer : (ℕ → ℕ) → Ty-F ℕ → ℕ
room_layer below (Ty-F.Struct item) = below item + 1
room_layer below (Ty-F.Optional room) = room + 2
room_layer below _ = 0

abbrev pub room_by : (ℕ → ℕ) → Ty → ℕ
room_by below = fold-Ty ℕ (room_layer below)

abbrev pub fields_room : (Ty → ℕ) → Shape → ℕ
fields_room room (shape.Fields types) = greatest room types + 2
fields_room room _ = 0

abbrev pub struct_room : Shapes → ℕ → ℕ → ℕ
struct_room shapes zero item = 0
struct_room shapes (suc depth) item = fields_room (room_by (struct_room shapes depth)) (shape_at shapes item)

abbrev pub room : Shapes → ℕ → Ty → ℕ
room shapes depth = room_by (struct_room shapes depth)
