-- What one attribute or one section tells of a command's kind.
use Rattle.std.specs.Prelude.{[], ◌∷◌, Option, find, option_map}
use Rattle.policy_ast.specs.declared.item.Attribute.{Attribute}
use Rattle.policy_ast.specs.declared.item.Section.{Section}
use Rattle.policy_rules.specs.Commands.{CommandKind, attributes_of, has_effect, kind_by}

-- The kind that one attribute with an effect gives.
abbrev pub kind_told : Attribute → CommandKind
kind_told a = kind_by (a ∷ [])

-- What the first attribute with an effect in a section tells.
abbrev pub section_told : Section → Option CommandKind
section_told section = option_map kind_told (find has_effect (attributes_of (section ∷ [])))
