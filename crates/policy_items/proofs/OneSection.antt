-- The attributes of a command with one section of them at most.
use Rattle.std.proofs.Common.{◌≡◌, ℕ, ◌+◌, ◌<◌, ◌≤◌, List, [], ◌∷◌, length, drop, get_or, refl, sym, ◌∙◌, arith, cond, count_by}
use Rattle.std.proofs.lemmas.List.Sums.{sum_by-cons}
use Rattle.std.proofs.lemmas.List.{append-nil, at_drop_more}
use Rattle.policy_ast.specs.declared.item.Attribute.{Attribute}
use Rattle.policy_ast.specs.declared.item.Section.{Section}
use Rattle.policy_ast.specs.declared.item.Section.TheVariants as section
use Rattle.policy_rules.specs.Commands.{attributes_of, is_attributes}

first_counts : (attributes : List Attribute) (sections : List Section) → count_by is_attributes (section.Attributes attributes ∷ sections) ≡ 1 + count_by is_attributes sections
first_counts attributes sections = sum_by-cons (λ s. cond (is_attributes s) 1 0) (section.Attributes attributes) sections

no_attributes : (sections : List Section) → count_by is_attributes sections ≤ 0 → attributes_of sections ≡ []
no_attributes [] none = refl
no_attributes (section.Attributes attributes ∷ sections) none = let all : 1 + count_by is_attributes sections ≤ 0 = rw (first_counts attributes sections) at none in absurd (omega (arith, all))
no_attributes (section.Fields fields ∷ sections) none = no_attributes sections none
no_attributes (section.Seal ∷ sections) none = no_attributes sections none
no_attributes (section.Open ∷ sections) none = no_attributes sections none
no_attributes (section.Policy body ∷ sections) none = no_attributes sections none
no_attributes (section.Recall body ∷ sections) none = no_attributes sections none

only_attributes : (first : Section) (attributes : List Attribute) (sections : List Section) → first ≡ section.Attributes attributes → count_by is_attributes (first ∷ sections) ≤ 1
    → attributes ≡ attributes_of (first ∷ sections)
only_attributes first attributes sections is one =
    let none : count_by is_attributes sections ≤ 0 = let all : 1 + count_by is_attributes sections ≤ 1 = rw (is, first_counts attributes sections) at one in omega (arith, all) in
    sym (rw (is, no_attributes sections none) (append-nil attributes))

-- the section of attributes is found at this place
pub attributes_here : (sections : List Section) (i : ℕ) (s : Section) (attributes : List Attribute) → i < length sections → s ≡ get_or sections i s → s ≡ section.Attributes attributes
    → count_by is_attributes (drop i sections) ≤ 1 → attributes ≡ attributes_of (drop i sections)
attributes_here sections i s attributes lt at is one =
    only_attributes (get_or sections i s) attributes (drop (i + 1) sections) (sym at ∙ is) (rw (at_drop_more (count_by is_attributes) sections i s lt) at one)
    ∙ sym (at_drop_more attributes_of sections i s lt)
