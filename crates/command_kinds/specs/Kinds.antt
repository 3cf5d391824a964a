-- The kinds of commands in the code, and as the rules of a policy have them.
use Rattle.command_kinds.specs.declared.kind.Kind.{Kind}
use Rattle.command_kinds.specs.declared.kind.Kind.TheVariants as kind
use Rattle.policy_rules.specs.Commands.{CommandKind, Basic, Finalize, Init}

-- The kind of the rules.
abbrev pub kind_seen : Kind → CommandKind
kind_seen kind.Init = Init
kind_seen (kind.Basic priority) = Basic priority
kind_seen kind.Finalize = Finalize
