-- Parts of an action one after another: what is told of each is told of the whole.
use Rattle.std.proofs.Common.{◌≡◌, ℕ, List, [], ◌∷◌, ◌++◌, map, Some, refl, sym, ap, subst, ◌∙◌, arith}
use Rattle.std.proofs.lemmas.List.{append-nil, map-append}
use Rattle.std.proofs.lemmas.List.Sums.{sum_by-append}
use mathlib.Core.List.{append_assoc}
use Rattle.base_bytes.specs.declared.value.Value.{Value}
use Rattle.fact_store.specs.declared.row.Row.{Row}
use Rattle.policy_ast.specs.declared.policy.PlacedItem.{PlacedItem}
use Rattle.policy_meaning.specs.Actions.{Answer, Brought, Deed, Did, Stops, World, ◌>>>◌, after_answer, published}
use Rattle.policy_meaning.specs.Desks.{Chain, Posting, Publishes, Stay, answer, brought}
use Rattle.policy_meaning.specs.Typed.{AreTyped}
use Rattle.policy_meaning.specs.declared.ends.Posted.{Posted}
use Rattle.policy_types.specs.ActsWell.{LeaveTyped}
use Rattle.policy_eval.specs.working.Acting.{Acted, GoesWell, Standing, StopsWell, settled, world}

typed_both : (policy : List PlacedItem) (one other : List Answer) → LeaveTyped policy one → LeaveTyped policy other → LeaveTyped policy (one ++ other)
typed_both policy [] other is is_too = is_too
typed_both policy (a ∷ one) other is is_too = (is.0, typed_both policy one other is.1 is_too)

settled_then : {A B : Type 0} (d : Deed A) (next : A → World → Deed B) → settled (d >>> next) ≡ settled (settled d >>> next)
settled_then (Did x w) next = refl
settled_then (Stops why w) next = refl

stops_settled : {A : Type 0} (policy : List PlacedItem) (d : Deed A) → StopsWell policy d → StopsWell policy (settled d)
stops_settled policy (Did x w) is = tt
stops_settled policy (Stops why w) is = is

stops_unsettled : {A : Type 0} (policy : List PlacedItem) (d : Deed A) → StopsWell policy (settled d) → StopsWell policy d
stops_unsettled policy (Did x w) is = tt
stops_unsettled policy (Stops why w) is = is

module _ {D : Type 0} (publishes : D → List Row → Posting → D → Type 0) where
  chain_both : (ps qs : List Posting) (old mid new : D) (rows middle last : List Row) → Chain publishes old rows ps mid middle → Chain publishes mid middle qs new last → Chain publishes old rows (ps ++ qs) new last
  chain_both [] qs old mid new rows middle last c d = subst (λ r. Chain publishes old r qs new last) c.1 (subst (λ x. Chain publishes x middle qs new last) c.0 d)
  chain_both (p ∷ ps) qs old mid new rows middle last c d = (c.0, c.1, c.2, chain_both ps qs c.0 mid new p.rows middle last c.3 d)

  module _ (policy : List PlacedItem) where
    -- nothing is published
    pub acted_still : {A : Type 0} (deed rest : World → Deed A) (desk : D) (rows : List Row) (turns now ticks : ℕ) → AreTyped policy rows
        → ((left : List Answer) (made : List Brought) → settled (deed (world rows left made turns)) ≡ settled (rest (world rows left made now)))
        → Acted publishes policy deed rest (record { desk = desk; rows = rows; turns = turns; ticks = ticks }) (record { desk = desk; rows = rows; turns = now; ticks = ticks })
    acted_still deed rest desk rows turns now ticks typed is = record {
      postings = [];
      chain = (refl, refl);
      counted = omega arith;
      answers = tt;
      typed = typed;
      acts = λ left made. is left made ∙ ap (λ made. settled (rest (world rows left made now))) (sym (append-nil made));
    }

    -- one publish
    pub acted_publish : (command : ℕ) (fields : List Value) (posted : Posted) (old new : Standing D)
        → Publishes publishes old.desk old.rows command fields posted old.ticks new.ticks new.desk new.rows → Stay posted old.rows new.rows → AreTyped policy new.rows → new.turns ≡ old.turns
        → Acted publishes policy (published (Some (command, fields))) (after_answer posted) old new
    acted_publish command fields posted old new told stay typed turns = record {
      postings = record { command = command; fields = fields; posted = posted; rows = new.rows; ticks = told.ticks } ∷ [];
      chain = (new.desk, told.told, stay, (refl, refl));
      counted = let counted = told.counted in omega (arith, counted);
      answers = (typed, tt);
      typed = typed;
      acts = λ left made. ap (λ n. settled (after_answer posted (world new.rows left (made ++ record { command = command; fields = fields } ∷ []) n))) (sym turns);
    }

    -- all of what is left to do
    pub acted_all : {A : Type 0} (deed first rest : World → Deed A) (old mid new : Standing D)
        → Acted publishes policy deed first old mid → Acted publishes policy first rest mid new → Acted publishes policy deed rest old new
    acted_all deed first rest old mid new a b = record {
      postings = a.postings ++ b.postings;
      chain = chain_both a.postings b.postings old.desk mid.desk new.desk old.rows mid.rows new.rows a.chain b.chain;
      counted = let sum = sum_by-append (λ p. p.ticks) a.postings b.postings in let one = a.counted in let two = b.counted in omega (arith, sum, one, two);
      answers = subst (LeaveTyped policy) (sym (map-append answer a.postings b.postings)) (typed_both policy (map answer a.postings) (map answer b.postings) a.answers b.answers);
      typed = b.typed;
      acts = λ left made.
          ap (λ xs. settled (deed (world old.rows xs made old.turns))) (ap (λ xs. xs ++ left) (map-append answer a.postings b.postings) ∙ append_assoc (map answer a.postings) (map answer b.postings) left)
          ∙ a.acts (map answer b.postings ++ left) made
          ∙ b.acts left (made ++ map brought a.postings)
          ∙ ap (λ m. settled (rest (world new.rows left m new.turns))) (append_assoc made (map brought a.postings) (map brought b.postings) ∙ sym (ap (λ xs. made ++ xs) (map-append brought a.postings b.postings)));
    }

    -- whatever follows
    pub acted_then : {A B : Type 0} (deed rest : World → Deed A) (next : A → World → Deed B) (old new : Standing D)
        → Acted publishes policy deed rest old new → Acted publishes policy (λ w. deed w >>> next) (λ w. rest w >>> next) old new
    acted_then deed rest next old new a = record {
      postings = a.postings;
      chain = a.chain;
      counted = a.counted;
      answers = a.answers;
      typed = a.typed;
      acts = λ left made.
          settled_then (deed (world old.rows (map answer a.postings ++ left) made old.turns)) next
          ∙ ap (λ d. settled (d >>> next)) (a.acts left made)
          ∙ sym (settled_then (rest (world new.rows left (made ++ map brought a.postings) new.turns)) next);
    }

    -- the first part of what is left to do
    pub acted_on : {A B : Type 0} (deed : World → Deed B) (first rest : World → Deed A) (next : A → World → Deed B) (old mid new : Standing D)
        → Acted publishes policy deed (λ w. first w >>> next) old mid → Acted publishes policy first rest mid new → Acted publishes policy deed (λ w. rest w >>> next) old new
    acted_on deed first rest next old mid new a b = acted_all deed (λ w. first w >>> next) (λ w. rest w >>> next) old mid new a (acted_then first rest next mid new b)

    -- what comes to the same
    pub acted_as : {A : Type 0} (deed other rest : World → Deed A) (old new : Standing D) → ((w : World) → settled (deed w) ≡ settled (other w)) → Acted publishes policy other rest old new → Acted publishes policy deed rest old new
    acted_as deed other rest old new same a = record {
      postings = a.postings;
      chain = a.chain;
      counted = a.counted;
      answers = a.answers;
      typed = a.typed;
      acts = λ left made. same (world old.rows (map answer a.postings ++ left) made old.turns) ∙ a.acts left made;
    }

    pub acted_to : {A : Type 0} (deed rest other : World → Deed A) (old new : Standing D) → ((w : World) → settled (rest w) ≡ settled (other w)) → Acted publishes policy deed rest old new → Acted publishes policy deed other old new
    acted_to deed rest other old new same a = record {
      postings = a.postings;
      chain = a.chain;
      counted = a.counted;
      answers = a.answers;
      typed = a.typed;
      acts = λ left made. a.acts left made ∙ same (world new.rows left (made ++ map brought a.postings) new.turns);
    }

    -- what is left goes well
    pub goes_from : {A : Type 0} (deed rest : World → Deed A) (old new : Standing D) → GoesWell policy deed old.rows old.turns → Acted publishes policy deed rest old new → GoesWell policy rest new.rows new.turns
    goes_from deed rest old new goes a = record {
      made = goes.made ++ map brought a.postings;
      stops = λ left are. stops_unsettled policy (rest (world new.rows left (goes.made ++ map brought a.postings) new.turns)) (subst (StopsWell policy) (a.acts left goes.made)
          (stops_settled policy (deed (world old.rows (map answer a.postings ++ left) goes.made old.turns)) (goes.stops (map answer a.postings ++ left) (typed_both policy (map answer a.postings) left a.answers are))));
    }

module _ (policy : List PlacedItem) where
  stops_into : {A B : Type 0} (d : Deed A) (next : A → World → Deed B) → StopsWell policy (d >>> next) → StopsWell policy d
  stops_into (Did x w) next is = tt
  stops_into (Stops stop w) next is = is

  -- the first part goes well
  pub goes_into : {A B : Type 0} (deed : World → Deed A) (next : A → World → Deed B) (rows : List Row) (turns : ℕ) → GoesWell policy (λ w. deed w >>> next) rows turns → GoesWell policy deed rows turns
  goes_into deed next rows turns goes = record { made = goes.made; stops = λ left are. stops_into (deed (world rows left goes.made turns)) next (goes.stops left are) }
