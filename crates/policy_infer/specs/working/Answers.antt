-- What private calls answer, and what they leave of the scope that they were lent.
use Rattle.std.specs.Prelude.{◌≡◌, ℕ, Bool, IfOk, true, false, List, take, length, Option, Some, None, Result, Ok, Err, ⊤}
use Rattle.policy_infer.specs.declared.refusal.Refusal.{Refusal}
use Rattle.policy_infer.specs.declared.refusal.Refusal.TheVariants as refusal
use Rattle.policy_rules.specs.FieldLists.{are_distinct}
use Rattle.policy_rules.specs.Names.{Name, is_among}
use Rattle.policy_rules.specs.Scopes.{Scope}

-- A call answered what a definition gives, or that it gives nothing. Out of memory says nothing.
abbrev pub Judges : {A : Type 0} → Result A Refusal → Option A → Type 0
Judges (Ok x) found = found ≡ Some x
Judges (Err refusal.IllTyped) found = found ≡ None
Judges (Err refusal.NoMemory) found = ⊤

-- A scope begins with another, as it was lent.
abbrev pub Keeps : Scope → Scope → Type 0
Keeps before after = take (length before) after ≡ before

-- A call answered what a definition gives in a scope, and left the scope as it was.
pub record Infers {A : Type 0} (result : Result A Refusal) (found : Scope → Option A) (before after : Scope) : Type 0 where
  pub judged : Judges result (found before)
  pub kept : after ≡ before

-- The same of a list with this many elements.
pub record InfersEach {A : Type 0} (result : Result (List A) Refusal) (found : Scope → Option (List A)) (before after : Scope) (n : ℕ) : Type 0 where
  pub judged : Judges result (found before)
  pub kept : after ≡ before
  pub sized : IfOk result (λ xs. length xs ≡ n)

-- A call answered what a definition gives in a scope, and may have put names behind it.
pub record InfersWithin {A : Type 0} (result : Result A Refusal) (found : Scope → Option A) (before after : Scope) : Type 0 where
  pub judged : Judges result (found before)
  pub kept : Keeps before after

-- A call led on to the scope that a definition gives, or it gives none. Out of memory says nothing.
abbrev pub Leads : Result Unit Refusal → Option Scope → Scope → Type 0
Leads (Ok x) found after = found ≡ Some after
Leads (Err refusal.IllTyped) found after = found ≡ None
Leads (Err refusal.NoMemory) found after = ⊤

-- A call found that a test is passed, or that it isn't. Out of memory says nothing.
abbrev pub Allows : Result Unit Refusal → Bool → Type 0
Allows (Ok x) test = test ≡ true
Allows (Err refusal.IllTyped) test = test ≡ false
Allows (Err refusal.NoMemory) test = ⊤

-- A call tested something in a scope, and left the scope as it was.
pub record Tests (result : Result Unit Refusal) (test : Scope → Bool) (before after : Scope) : Type 0 where
  pub judged : Allows result (test before)
  pub kept : after ≡ before

-- A call tested something in a scope, and may have put names behind it.
pub record TestsWithin (result : Result Unit Refusal) (test : Scope → Bool) (before after : Scope) : Type 0 where
  pub judged : Allows result (test before)
  pub kept : Keeps before after

-- A call led on from a scope, which stays the front of what it left.
pub record LeadsOn (result : Result Unit Refusal) (behind : Scope → Option Scope) (before after : Scope) : Type 0 where
  pub judged : Leads result (behind before) after
  pub kept : Keeps before after

-- The set has just these names, and there is none where two of them are the same.
abbrev pub AreNames : List Name → Option (List Name) → Type 0
AreNames names None = are_distinct names ≡ false
AreNames names (Some set) = (are_distinct names ≡ true) × ((name : Name) → is_among name set ≡ is_among name names)
