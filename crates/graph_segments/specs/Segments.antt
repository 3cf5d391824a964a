-- Segments: chains of commands, each the only parent of the next. Both tables are folds over the stored list.
use Rattle.std.specs.Prelude.{ℕ, ◌+◌, Bool, false, if◌then◌else◌, List, [], ◌∷◌, ◌++◌, length, get_or, set, Option, Some, None}
use Rattle.std.specs.List.{list_any}
use Rattle.std.specs.Str.{bytes_eq}
use Rattle.command.specs.declared.command.Command.{Command}
use Rattle.command.specs.Closed.{place_of}
use Rattle.command.specs.Kinds.{parents_of}
use Rattle.command.specs.Cuts.{cuts, next_cut}
use Rattle.graph_segments.specs.declared.tables.Location.{Location}
use Rattle.graph_segments.specs.declared.tables.Segment.{Segment}

-- where each command stands, and the segments
pub record Tables : Type 0 where
  pub locations : List Location
  pub segments : List Segment

-- whether these are the parents of a basic or finalize command, of which this is the one
abbrev pub is_only : List ℕ → List (List ℕ) → Bool
is_only id [] = false
is_only id (one ∷ []) = bytes_eq id one
is_only id (left ∷ right ∷ more) = false

-- whether some basic or finalize command of the list has this parent
abbrev pub goes_on : List Command → List ℕ → Bool
goes_on cs id = list_any (λ y. is_only id (parents_of y)) cs

-- the place of the parent in whose segment a command with these parents stands: it is a basic or finalize command, and the first
-- of its parent's. None: it begins a new segment.
abbrev pub follows : List Command → List (List ℕ) → Option ℕ
follows front [] = None
follows front (id ∷ []) = if goes_on front id then None else place_of front id
follows front (left ∷ right ∷ more) = None

abbrev pub located : ℕ → ℕ → Location
located segment index = record { segment = segment; index = index }

abbrev pub segment_of : ℕ → ℕ → ℕ → ℕ → Segment
segment_of first last len cut = record { first = first; last = last; len = len; cut = cut }

-- a segment with one more command, which stands at the place and has the cut
abbrev pub longer : ℕ → ℕ → Segment → Segment
longer place cut s = segment_of s.first place (s.len + 1) cut

-- the command at the place stands in the segment of the one that is located there, at the next index
abbrev pub behind : Tables → ℕ → ℕ → Location → Tables
behind t place cut at = record {
  locations = t.locations ++ located at.segment (at.index + 1) ∷ [];
  segments = set t.segments at.segment (longer place cut (get_or t.segments at.segment (segment_of 0 0 0 0)));
}

-- the command at the place begins a new segment
abbrev pub begun : Tables → ℕ → ℕ → Tables
begun t place cut = record {
  locations = t.locations ++ located (length t.segments) 0 ∷ [];
  segments = t.segments ++ segment_of place place 1 cut ∷ [];
}

abbrev pub one_more : Tables → ℕ → ℕ → Option ℕ → Tables
one_more t place cut None = begun t place cut
one_more t place cut (Some parent) = behind t place cut (get_or t.locations parent (located 0 0))

-- the tables once a command with these parents is behind these
abbrev pub with_next : List Command → Tables → List (List ℕ) → Tables
with_next front t parents = one_more t (length front) (next_cut front (cuts front) parents) (follows front parents)

abbrev pub tables_from : List Command → Tables → List Command → Tables
tables_from front t [] = t
tables_from front t (c ∷ cs) = tables_from (front ++ c ∷ []) (with_next front t (parents_of c)) cs

abbrev pub tables : List Command → Tables
tables cs = tables_from [] (record { locations = []; segments = [] }) cs

-- Where each command stands, in stored order. A basic or finalize command that is the first stored of its parent's basic and
-- finalize children is in its parent's segment, at the next index. Every other begins a new segment, at index 0.
abbrev pub locations : List Command → List Location
locations cs = (tables cs).locations

-- The segments in the order in which they began.
abbrev pub segments : List Command → List Segment
segments cs = (tables cs).segments
