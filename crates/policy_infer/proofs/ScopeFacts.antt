-- The scope as the entries of a map.
use Rattle.std.proofs.Common.{◌≡◌, Bool, true, false, cond, List, [], ◌∷◌, ◌++◌, String, length, take, Some, None, refl, ap, string_bytes}
use Rattle.std.specs.Map.{lookup}
use Rattle.std.specs.String.{string_eq}
use Rattle.indexmap.specs.IndexMap.{insert_entry}
use Rattle.std.specs.Str.{bytes_eq}
use Rattle.std.proofs.Math.Seq.{take-append_seam, take-length}
use Rattle.policy_rules.specs.Names.{Name}
use Rattle.policy_rules.specs.Scopes.{Scope, type_in, with_name}
use Rattle.policy_rules.specs.declared.types.NamedType.{NamedType}
use Rattle.policy_infer.specs.working.Answers.{Keeps}
use Rattle.policy_infer.specs.working.ScopeViews.{named, scope_of}

nothing : {A P : Type 0} {x : A} → Some x ≡ None → P
nothing is = cc

module _ {Y : Type 0} where
  pub looked_up : (name : Name) (entries : List (String Y × NamedType)) → lookup (λ k. bytes_eq name (string_bytes k)) entries ≡ type_in (scope_of entries) name
  looked_up name [] = refl
  looked_up name (e ∷ entries) = ap (λ rest. cond (bytes_eq name (string_bytes e.0)) (Some e.1) rest) (looked_up name entries)

  pub inserted : (name : String Y) (t : NamedType) (entries : List (String Y × NamedType)) → type_in (scope_of entries) (string_bytes name) ≡ None
      → scope_of (insert_entry string_eq entries name t) ≡ with_name (scope_of entries) (string_bytes name) t
  inserted name t [] absent = refl
  inserted name t (e ∷ entries) absent = by (string_eq name e.0) refl (inserted name t entries)
    where
      by : (b : Bool) → string_eq name e.0 ≡ b
          → (type_in (scope_of entries) (string_bytes name) ≡ None → scope_of (insert_entry string_eq entries name t) ≡ with_name (scope_of entries) (string_bytes name) t)
          → scope_of (insert_entry string_eq (e ∷ entries) name t) ≡ with_name (scope_of (e ∷ entries)) (string_bytes name) t
      by true is later = nothing (rw is at absent)
      by false is later = rw is (ap (λ scope. named e ∷ scope) (later (rw is at absent)))

pub keeps_all : (scope : Scope) → Keeps scope scope
keeps_all scope = take-length scope

pub keeps_same : (scope after : Scope) → after ≡ scope → Keeps scope after
keeps_same scope after is = rw is (keeps_all scope)

pub keeps_more : (scope more : Scope) → Keeps scope (scope ++ more)
keeps_more scope more = take-append_seam scope more

taken_in : {A : Type 0} (first second third : List A) → take (length first) second ≡ first → take (length second) third ≡ second → take (length first) third ≡ first
taken_in [] second third one other = refl
taken_in (x ∷ first) [] third one other = cc
taken_in (x ∷ first) (y ∷ second) [] one other = cc
taken_in (x ∷ first) (y ∷ second) (z ∷ third) one other =
    let xy : y ≡ x = cc in
    let yz : z ≡ y = cc in
    let e : take (length first) second ≡ first = cc in
    let h : take (length second) third ≡ second = cc in
    let r : take (length first) third ≡ first = taken_in first second third e h in
    cc

pub keeps_both : (first second third : Scope) → Keeps first second → Keeps second third → Keeps first third
keeps_both first second third one other = taken_in first second third one other
