-- The sections and the attributes of a command, and its kind.
use Rattle.std.specs.Prelude.{pos, ℕ, ◌^◌, Bool, true, false, not, ◌&&◌, ◌||◌, ◌==◌, nat_le, nat_lt, List, [], ◌∷◌, ◌++◌, codes, count_by, filter, length}
use Rattle.std.specs.List.{list_all}
use Rattle.std.specs.Str.{bytes_eq}
use Rattle.policy_ast.specs.declared.item.Attribute.{Attribute}
use Rattle.policy_ast.specs.declared.item.Section.{Section}
use Rattle.policy_ast.specs.declared.item.Section.TheVariants as section
use Rattle.policy_ast.specs.declared.literal.Literal.{Literal}
use Rattle.policy_ast.specs.declared.literal.Literal.TheVariants as literal

-- The section is that of the attributes.
abbrev pub is_attributes : Section → Bool
is_attributes (section.Attributes attributes) = true
is_attributes other = false

-- The section is that of the fields.
abbrev pub is_fields : Section → Bool
is_fields (section.Fields fields) = true
is_fields other = false

-- The section is `seal`.
abbrev pub is_seal : Section → Bool
is_seal section.Seal = true
is_seal other = false

-- The section is `open`.
abbrev pub is_open : Section → Bool
is_open section.Open = true
is_open other = false

-- The section is the policy block.
abbrev pub is_policy : Section → Bool
is_policy (section.Policy body) = true
is_policy other = false

-- The section is the recall block.
abbrev pub is_recall : Section → Bool
is_recall (section.Recall body) = true
is_recall other = false

-- There is one such section.
abbrev pub stands_once : (Section → Bool) → List Section → Bool
stands_once test sections = count_by test sections == 1

-- There is no second such section.
abbrev pub stands_at_most_once : (Section → Bool) → List Section → Bool
stands_at_most_once test sections = nat_le (count_by test sections) 1

-- Fields, seal, open and policy once, recall and attributes at most once, in any order.
abbrev pub has_its_sections : List Section → Bool
has_its_sections sections =
    stands_once is_fields sections && stands_once is_seal sections && stands_once is_open sections && stands_once is_policy sections
    && stands_at_most_once is_recall sections && stands_at_most_once is_attributes sections

-- The attributes of a command.
abbrev pub attributes_of : List Section → List Attribute
attributes_of [] = []
attributes_of (section.Attributes attributes ∷ sections) = attributes ++ attributes_of sections
attributes_of (other ∷ sections) = attributes_of sections

-- A truth value.
abbrev pub is_truth : Literal → Bool
is_truth literal.True = true
is_truth literal.False = true
is_truth other = false

-- From 0 to 2^32 - 1.
abbrev pub is_priority : Literal → Bool
is_priority (literal.Number (pos n)) = nat_lt n (2 ^ 32)
is_priority other = false

-- The word `false`.
abbrev pub is_false : Literal → Bool
is_false literal.False = true
is_false other = false

-- `init` and `finalize` have a truth value.
abbrev pub is_mark : Attribute → Bool
is_mark a = bytes_eq a.name (codes "init") || bytes_eq a.name (codes "finalize")

-- A mark with a truth value, or a priority in its bounds.
abbrev pub is_attribute : Attribute → Bool
is_attribute a = is_mark a && is_truth a.value || bytes_eq a.name (codes "priority") && is_priority a.value

-- A mark that is false is as if it were absent.
abbrev pub has_effect : Attribute → Bool
has_effect a = not (is_mark a && is_false a.value)

-- At most one of `init`, `finalize` and `priority`.
abbrev pub are_attributes : List Attribute → Bool
are_attributes attributes = list_all is_attribute attributes && nat_le (length (filter has_effect attributes)) 1

-- The kinds of commands; a basic one has a priority.
pub data CommandKind : Type 0 where
  Init : CommandKind
  Basic : ℕ → CommandKind
  Finalize : CommandKind

-- The kind that the attributes with an effect give.
abbrev pub kind_by : List Attribute → CommandKind
kind_by [] = Basic 0
kind_by (a ∷ more) = kind_of_attribute (bytes_eq a.name (codes "init")) (bytes_eq a.name (codes "finalize")) a.value
  where
    kind_of_attribute : Bool → Bool → Literal → CommandKind
    kind_of_attribute true finalize value = Init
    kind_of_attribute false true value = Finalize
    kind_of_attribute false false (literal.Number (pos n)) = Basic n
    kind_of_attribute false false value = Basic 0

-- The kind of a command: what its one attribute says, and without one it is basic with priority 0.
abbrev pub command_kind : List Section → CommandKind
command_kind sections = kind_by (filter has_effect (attributes_of sections))
