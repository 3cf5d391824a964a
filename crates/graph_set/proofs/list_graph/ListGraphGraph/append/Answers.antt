use Rattle.std.proofs.Common.{ℕ, ◌≤◌, [], ◌∷◌, ◌++◌, filter, length, List, rules, sym, ap, subst, ◌∙◌, arith, length-append}
use Rattle.std.proofs.lemmas.List.{length-map}
use Rattle.command.specs.Ancestors.{heads}
use Rattle.command.specs.declared.command.Command.{Command}
use Rattle.command.specs.Closed.{IsClosed, IsNext, max_commands}
use Rattle.command.specs.Kinds.{parents_of}
use Rattle.command.proofs.ListFacts.{each_more}
use Rattle.indexmap.specs.IndexMap.{values}
use Rattle.graph_set.proofs.KeptHeads.{heads_more, kept_shorter}
use Rattle.graph_set.specs.working.Heads.{is_other}
use Rattle.graph_set.proofs.list_graph.ListGraphGraph.append.Goals as goal

pub put_place-requires : goal.put_place-requires
put_place-requires c =
    let few = kept_shorter (is_other (values c.args.self.now.commands) c.as_slice.result.now) c.args.self.now.tips.items c.keep_others.new.heads.items c.keep_others.ensures.items in
    record { room = omega (arith, few, c.keep_others.ensures.capacity, c.args.self.now.places, c.requires.room) }

pub invariant_of-self : goal.invariant_of-self
invariant_of-self c =
    let cs = values c.args.self.now.commands in
    let grown = c.in-Ok.ensures.values in
    let ids = c.as_slice.result.now in
    let few = kept_shorter (is_other cs ids) c.args.self.now.tips.items c.keep_others.new.heads.items c.keep_others.ensures.items in
    record {
      graph = record {
        named = c.in-Ok.ensures.keys;
        closed = subst IsClosed (sym grown)
            (each_more IsNext cs c.args.command c.args.self.now.graph.closed (record { formed = c.in-Ok.ensures.formed; fresh = c.requires.fresh; held = c.requires.held; cut = c.requires.cut }));
        few = subst (λ l. length l ≤ max_commands) (sym grown) (omega (arith, c.requires.few, length-append cs (c.args.command ∷ [])));
      };
      roomy = omega (arith, c.args.self.now.roomy, c.requires.room, c.put.ensures.spare);
      heads =
          c.put_place.ensures.items
          ∙ ap (λ l. l ++ c.len-place.result ∷ []) (c.keep_others.ensures.items ∙ ap (filter (is_other cs ids)) c.args.self.now.heads)
          ∙ ap (λ (is : List (List ℕ)). filter (is_other cs is) (heads cs) ++ c.len-place.result ∷ []) (search rules)
          ∙ ap (λ (k : ℕ). filter (is_other cs (parents_of c.args.command)) (heads cs) ++ k ∷ []) (c.len-place.ensures.len ∙ sym (length-map c.args.self.now.commands.entries (λ (e : List ℕ × Command). e.1)))
          ∙ sym (heads_more cs c.args.command c.args.self.now.graph.closed c.requires.fresh c.requires.held)
          ∙ ap heads (sym grown);
      places = omega (arith, few, ap length c.put_place.ensures.items, length-append c.keep_others.new.heads.items (c.len-place.result ∷ []), c.put_place.ensures.capacity, c.keep_others.ensures.capacity, c.args.self.now.places, c.requires.room);
    }
