-- What is spelled from some tokens to others, and how its nodes are counted.
use Rattle.std.specs.Prelude.{ℕ, ◌+◌, max, List, [], ◌∷◌, ◌++◌}
use Rattle.policy_ast.specs.declared.token.TokenKind.{TokenKind}
use Rattle.policy_ast.specs.declared.part.Part.{Part}

abbrev pub Kinds : Type 0
Kinds = List TokenKind

-- something spelled: the tokens where it begins, the tokens behind it, and the part that stands between them
abbrev pub Nonterminal : Type 0 → Type 1
Nonterminal A = Kinds → Kinds → Part A → Type 0

abbrev pub part : {A : Type 0} → A → ℕ → Part A
part tree height = record { tree = tree; height = height }

-- the part made of one part, and of two: no node is added
abbrev pub made : {A B : Type 0} → (A → B) → Part A → Part B
made make a = part (make a.tree) a.height

abbrev pub made_both : {A B C : Type 0} → (A → B → C) → Part A → Part B → Part C
made_both make a b = part (make a.tree b.tree) (max a.height b.height)

-- the node above one part, and above two
abbrev pub node : {A B : Type 0} → (A → B) → Part A → Part B
node make a = part (make a.tree) (a.height + 1)

abbrev pub node_both : {A B C : Type 0} → (A → B → C) → Part A → Part B → Part C
node_both make a b = part (make a.tree b.tree) (max a.height b.height + 1)

-- a list so far, with one more at its end
abbrev pub appended : {A : Type 0} → Part (List A) → Part A → Part (List A)
appended xs a = made_both (λ xs x. xs ++ x ∷ []) xs a

abbrev pub nothing_yet : {A : Type 0} → Part (List A)
nothing_yet = part [] 0
