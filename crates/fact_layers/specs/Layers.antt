-- What layers mean: one list of rows.
use Rattle.std.specs.Prelude.{not, List, [], ◌∷◌, Option, Some, None}
use Rattle.std.specs.Arc.{arc_value}
use Rattle.std.specs.BTreeMap.{BTreeMap}
use Rattle.std.specs.List.{filter}
use Rattle.std.specs.declared.sync.Arc.{Arc}
use Rattle.base_bytes.specs.declared.value.Value.{Value}
use Rattle.fact_store.specs.declared.row.Row.{Row}
use Rattle.fact_store.specs.declared.wanted.Wanted.{Wanted}
use Rattle.fact_store.specs.Matching.{is_at}
use Rattle.fact_store.specs.Writes.{with_row}
use Rattle.fact_store.specs.Stored.{row_of}

-- What a layer says of a place: the values of the row there, or None: no row is there.
abbrev pub Said : Type 0
Said = Option (List Value)

-- What it says, place by place.
abbrev pub Entries : Type 0
Entries = List (Wanted × Said)

-- The rows without the one at the place.
abbrev pub without : Wanted → List Row → List Row
without place rows = filter (λ row. not (is_at place.fact place.keys row)) rows

-- The rows where this is said of the place.
abbrev pub put : Wanted → Said → List Row → List Row
put place None rows = without place rows
put place (Some values) rows = with_row (row_of (place, values)) (without place rows)

-- A layer over the rows below it.
abbrev pub over : Entries → List Row → List Row
over [] rows = rows
over (e ∷ es) rows = put e.0 e.1 (over es rows)

-- The rows of layers, of which the newest is the first.
abbrev pub layered : List Entries → List Row
layered [] = []
layered (layer ∷ layers) = over layer (layered layers)

-- What shared layers say.
abbrev pub shared : {A : Type 0} → List (Arc (BTreeMap Wanted Said) A) → List Entries
shared [] = []
shared (layer ∷ layers) = (arc_value layer).entries ∷ shared layers
