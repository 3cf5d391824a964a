-- How contracts see what an evaluator keeps by reference.
use Rattle.std.specs.Prelude.{List, map}
use Rattle.base_bytes.specs.declared.value.Value.{Value}
use Rattle.base_bytes.specs.declared.value.Value.TheVariants as value
use Rattle.policy_meaning.specs.Environments.{Bound, Env}
use Rattle.policy_expressions.specs.declared.env.Binding.{Binding}
use Rattle.policy_expressions.specs.declared.setting.This.{This}

-- A name and its value.
abbrev pub bound_of : Binding → Bound
bound_of b = record { name = b.name.now; value = b.value }

-- Names with their values.
abbrev pub env_of : List Binding → Env
env_of = map bound_of

-- The command that `this` means.
abbrev pub this_value : This → Value
this_value this = value.Struct this.command this.fields.now
