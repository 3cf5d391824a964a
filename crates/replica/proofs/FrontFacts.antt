-- The front that two braids share is found from the ids of their entries.
use Rattle.std.proofs.Common.{◌≡◌, ℕ, zero, suc, ◌+◌, ◌-◌, ◌≤◌, ◌⊎◌, inl, inr, Bool, true, false, cond, List, [], ◌∷◌, ◌++◌, length, map, take, drop, refl, sym, ap, subst, ◌∙◌, arith, append-nil}
use Rattle.std.specs.List.{Contains, common_prefix_len}
use Rattle.std.specs.Str.{bytes_eq}
use Rattle.std.proofs.lemmas.List.{length-drop, drop_all}
use Rattle.std.proofs.lemmas.List.Elements.{Contains-append_left}
use Rattle.braid.specs.Braids.{IsBraid}
use Rattle.braid_run.specs.Batches.{IsCommonPrefix, IsCut}
use Rattle.braid_run.specs.Runs.{run_of}
use Rattle.braid_run.specs.declared.entry.Entry.{Entry}
use Rattle.command.specs.Closed.{IsClosed}
use Rattle.command.specs.Wire.{command_id}
use Rattle.command.specs.declared.command.Command.{Command}
use Rattle.command.proofs.ClosedFacts.{bytes_of_same, same_by_id, same_bytes}
use Rattle.command.proofs.ListFacts.{at_head, behind_head}
use Rattle.policy_ast.specs.declared.policy.PlacedItem.{PlacedItem}
use Rattle.replica.specs.Takes.{HasBatch}
use Rattle.replica.specs.working.Changes.{same_entry}

-- two commands have one id
abbrev pub same_id : Command → Command → Bool
same_id x y = bytes_eq (command_id x) (command_id y)

-- entries that are named as commands share as much as these do
by_names : (olds news : List Entry) (before now : List Command) → map (λ e. e.id) olds ≡ map command_id before → map (λ e. e.id) news ≡ map command_id now →
    common_prefix_len same_entry olds news ≡ common_prefix_len same_id before now
by_names [] news [] now old new = refl
by_names [] news (x ∷ before) now old new = absurd cc
by_names (e ∷ olds) news [] now old new = absurd cc
by_names (e ∷ olds) [] (x ∷ before) [] old new = refl
by_names (e ∷ olds) [] (x ∷ before) (y ∷ now) old new = absurd cc
by_names (e ∷ olds) (f ∷ news) (x ∷ before) [] old new = absurd cc
by_names (e ∷ olds) (f ∷ news) (x ∷ before) (y ∷ now) old new =
    let first : e.id ≡ command_id x = cc in
    let second : f.id ≡ command_id y = cc in
    let olds_rest : map (λ e. e.id) olds ≡ map command_id before = cc in
    let news_rest : map (λ e. e.id) news ≡ map command_id now = cc in
    ap (λ b. cond b (1 + common_prefix_len same_entry olds news) 0) (ap (λ i. bytes_eq i f.id) first ∙ ap (λ i. bytes_eq (command_id x) i) second)
    ∙ ap (λ n. cond (same_id x y) (1 + n) 0) (by_names olds news before now olds_rest news_rest)

take_next : {X : Type 0} (n k : ℕ) (x : X) (xs : List X) → n ≡ suc k → take n (x ∷ xs) ≡ x ∷ take k xs
take_next n k x xs is = ap (λ m. take m (x ∷ xs)) is

-- commands of which those with one id are the same
abbrev pub AreOneEach : List Command → List Command → Type 0
AreOneEach xs ys = (x y : Command) → Contains xs x → Contains ys y → command_id x ≡ command_id y → x ≡ y

rest_one_each : (x y : Command) (xs ys : List Command) → AreOneEach (x ∷ xs) (y ∷ ys) → AreOneEach xs ys
rest_one_each x y xs ys one a b inside other is = one a b (behind_head x xs a inside) (behind_head y ys b other) is

common : (xs ys : List Command) → AreOneEach xs ys → IsCommonPrefix xs ys (common_prefix_len same_id xs ys)
common [] ys one = record { within = (omega arith, omega arith); alike = refl }
common (x ∷ xs) [] one = record { within = (omega arith, omega arith); alike = refl }
common (x ∷ xs) (y ∷ ys) one = by (same_id x y) refl (common xs ys (rest_one_each x y xs ys one))
  where
    further : x ≡ y → IsCommonPrefix xs ys (common_prefix_len same_id xs ys) → (n : ℕ) → n ≡ suc (common_prefix_len same_id xs ys) → IsCommonPrefix (x ∷ xs) (y ∷ ys) n
    further same rest n is = record {
      within = (omega (arith, is, rest.within.0), omega (arith, is, rest.within.1));
      alike = take_next n (common_prefix_len same_id xs ys) x xs is ∙ ap (λ z. z ∷ take (common_prefix_len same_id xs ys) xs) same ∙ ap (λ l. y ∷ l) rest.alike ∙ sym (take_next n (common_prefix_len same_id xs ys) y ys is);
    }

    by : (b : Bool) → same_id x y ≡ b → IsCommonPrefix xs ys (common_prefix_len same_id xs ys) → IsCommonPrefix (x ∷ xs) (y ∷ ys) (cond b (1 + common_prefix_len same_id xs ys) 0)
    by false is rest = record { within = (omega arith, omega arith); alike = refl }
    by true is rest =
        further (one x y (at_head x xs) (at_head y ys) (same_bytes (command_id x) (command_id y) is)) rest (1 + common_prefix_len same_id xs ys) (omega arith)

longest : (n : ℕ) (xs ys : List Command) → IsCommonPrefix xs ys n → n ≤ common_prefix_len same_id xs ys
longest zero xs ys prefix = omega arith
longest (suc n) [] ys prefix = let none = prefix.within.0 in absurd (omega (arith, none))
longest (suc n) (x ∷ xs) [] prefix = let none = prefix.within.1 in absurd (omega (arith, none))
longest (suc n) (x ∷ xs) (y ∷ ys) prefix =
    let alike : x ∷ take n xs ≡ y ∷ take n ys = prefix.alike in
    let same : x ≡ y = cc in
    let rest : take n xs ≡ take n ys = cc in
    by (same_id x y) (bytes_of_same (command_id x) (command_id y) (ap command_id same))
    (longest n xs ys (record { within = (omega (arith, prefix.within.0), omega (arith, prefix.within.1)); alike = rest }))
  where
    by : (b : Bool) → b ≡ true → n ≤ common_prefix_len same_id xs ys → suc n ≤ cond b (1 + common_prefix_len same_id xs ys) 0
    by true is le = omega (arith, le)
    by false is le = absurd cc

pub cut_of : (before now : List Command) → AreOneEach before now → IsCut before now (common_prefix_len same_id before now)
cut_of before now one = record { common = common before now one; longest = λ n prefix. longest n before now prefix }

-- the commands of two braids are of one closed list
pub braids_one_each : (cs more before now : List Command) → IsClosed (cs ++ more) → IsBraid cs before → IsBraid (cs ++ more) now → AreOneEach before now
braids_one_each cs more before now closed was is x y inside other named =
    same_by_id (cs ++ more) closed x y (Contains-append_left cs more x ((was.holds x).0 inside).0) ((is.holds y).0 other).0 named

-- the batch from a list to a longer one, by the entries of both runs
pub batch_of : (policy : List PlacedItem) (cs more before now : List Command) (olds news : List Entry) (cut entries : ℕ) → IsClosed (cs ++ more) → IsBraid cs before → IsBraid (cs ++ more) now →
    ((xs : List Command) → map (λ e. e.id) (run_of policy xs).entries ≡ map command_id xs) → olds ≡ (run_of policy before).entries → news ≡ (run_of policy now).entries →
    cut ≡ common_prefix_len same_entry olds news → entries ≡ length news - cut → HasBatch policy cs (cs ++ more) cut entries
batch_of policy cs more before now olds news cut entries closed was is names old new found left = record {
  batch = record { cut = cut; entries = drop cut (run_of policy now).entries };
  is = record {
    before = before;
    was = was;
    now = now;
    is = is;
    cuts = subst (λ n. IsCut before now n) (sym same) (cut_of before now (braids_one_each cs more before now closed was is));
    same_entries = refl;
  };
  same_cut = refl;
  counted = left ∙ ap (λ l. length l - cut) new ∙ sym (length-drop cut (run_of policy now).entries);
}
  where
    same : cut ≡ common_prefix_len same_id before now
    same = found ∙ by_names olds news before now (ap (map (λ e. e.id)) old ∙ names before) (ap (map (λ e. e.id)) new ∙ names now)

-- a list is all shared with one that goes on from it
pub front_shared : (entries more : List Entry) → common_prefix_len same_entry entries (entries ++ more) ≡ length entries
front_shared [] more = refl
front_shared (e ∷ entries) more =
    ap (λ b. cond b (1 + common_prefix_len same_entry entries (entries ++ more)) 0) (bytes_of_same e.id e.id refl) ∙ ap (λ n. 1 + n) (front_shared entries more) ∙ one_more
  where
    one_more : 1 + length entries ≡ length (e ∷ entries)
    one_more = omega arith

pub all_shared : (entries : List Entry) → common_prefix_len same_entry entries entries ≡ length entries
all_shared entries = ap (λ l. common_prefix_len same_entry entries l) (sym (append-nil entries)) ∙ front_shared entries []

-- where one of two lists has no more
pub shared_whole : (n : ℕ) (olds news : List Entry) → (length olds ≤ n) ⊎ (length news ≤ n) → common_prefix_len same_entry (drop n olds) (drop n news) ≡ 0
shared_whole n olds news (inl all) = ap (λ l. common_prefix_len same_entry l (drop n news)) (drop_all n olds all)
shared_whole n olds news (inr all) = ap (λ l. common_prefix_len same_entry (drop n olds) l) (drop_all n news all) ∙ no_more (drop n olds)
  where
    no_more : (entries : List Entry) → common_prefix_len same_entry entries [] ≡ 0
    no_more [] = refl
    no_more (e ∷ entries) = refl
