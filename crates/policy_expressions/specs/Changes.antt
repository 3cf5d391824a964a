-- A change as the code keeps it.
use Rattle.std.specs.Prelude.{IsTrue, ⊤}
use Rattle.fact_store.specs.Rows.{are_keys}
use Rattle.policy_meaning.specs.Finish.{Change, Create, Update, Delete, Emit}
use Rattle.policy_expressions.specs.declared.change.Listed.{Listed}
use Rattle.policy_expressions.specs.declared.change.Listed.TheVariants as listed

-- The change that is kept so.
abbrev pub meant : Listed → Change
meant (listed.Create row) = Create row
meant (listed.Update old values) = Update old values
meant (listed.Delete fact keys) = Delete fact keys
meant (listed.Emit effect) = Emit effect

-- The keys of a write may be keys.
abbrev pub HasKeys : Listed → Type 0
HasKeys (listed.Create row) = IsTrue (are_keys row.keys)
HasKeys (listed.Update old values) = IsTrue (are_keys old.keys)
HasKeys (listed.Delete fact keys) = IsTrue (are_keys keys)
HasKeys (listed.Emit effect) = ⊤
