-- What is said of a policy that is refused.
use Rattle.std.specs.Prelude.{List}
use Rattle.policy_ast.specs.declared.policy.PlacedItem.{PlacedItem}
use Rattle.policy_check.specs.declared.fault.TypeFault.{TypeFault}
use Rattle.policy_check.specs.declared.fault.TypeFault.TheVariants as fault
use Rattle.policy_rules.specs.WellTyped.{HasTypeFault}

-- The fault is that of the policy: the first item that isn't well typed begins in its line. Want of memory says nothing of the policy.
abbrev pub IsTypeFault : List PlacedItem → TypeFault → Type 0
IsTypeFault policy (fault.IllTyped line) = HasTypeFault policy line
IsTypeFault policy fault.NoMemory = Unit
