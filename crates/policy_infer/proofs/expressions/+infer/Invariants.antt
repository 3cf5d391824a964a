use Rattle.policy_infer.proofs.SoFar.{Led, SoFar}
use Rattle.policy_infer.specs.working.Types.{bind_types, gap_types_of, types_of}
use Rattle.policy_infer.proofs.expressions.+infer.Given as goal

abbrev pub invariant-infer_all-loop-e : goal.invariant-infer_all-loop-e
invariant-infer_all-loop-e l = SoFar (types_of l.heads l.context) l.es l.fn.scope l.scope l.e-index l.types

abbrev pub invariant-infer_binds-loop-bind : goal.invariant-infer_binds-loop-bind
invariant-infer_binds-loop-bind l = SoFar (bind_types l.heads l.context) l.binds l.fn.scope l.scope l.bind-index l.types

abbrev pub invariant-infer_otherwise-loop-one : goal.invariant-infer_otherwise-loop-one
invariant-infer_otherwise-loop-one l = Led l.heads l.context l.one-items l.fn.scope l.scope l.one-index

abbrev pub invariant-infer_then-loop-one : goal.invariant-infer_then-loop-one
invariant-infer_then-loop-one l = Led l.heads l.context l.one-items l.fn.scope l.scope l.one-index

abbrev pub invariant-pattern_keys-loop-field : goal.invariant-pattern_keys-loop-field
invariant-pattern_keys-loop-field l = SoFar (gap_types_of l.heads l.context) l.field-items l.fn.scope l.scope l.field-index l.types

abbrev pub invariant-pattern_values-loop-field : goal.invariant-pattern_values-loop-field
invariant-pattern_values-loop-field l = SoFar (gap_types_of l.heads l.context) l.field-items l.fn.scope l.scope l.field-index l.types
