use Rattle.std.proofs.Common.{ap, map, option_map, sym, ◌∙◌}
use Rattle.std.specs.Option.{option_copied}
use Rattle.std.proofs.lemmas.Option.{slice_get-map}
use Rattle.state_texts.proofs.names.effect_name_at.Goals as goal

pub returns-in-Some : goal.returns-in-Some
returns-in-Some c = sym
    (slice_get-map (λ f. f.name) (map (λ f. f.field) c.args.fields.now) c.args.place ∙ ap (option_map (λ f. f.name)) (slice_get-map (λ f. f.field) c.args.fields.now c.args.place)
    ∙ ap (λ o. option_map (λ f. f.name) (option_map (λ f. f.field) o)) (sym c.at.ensures ∙ ap option_copied c.in-Some.is))

pub returns-in-None : goal.returns-in-None
returns-in-None c = sym
    (slice_get-map (λ f. f.name) (map (λ f. f.field) c.args.fields.now) c.args.place ∙ ap (option_map (λ f. f.name)) (slice_get-map (λ f. f.field) c.args.fields.now c.args.place)
    ∙ ap (λ o. option_map (λ f. f.name) (option_map (λ f. f.field) o)) (sym c.at.ensures ∙ ap option_copied c.in-None.is))
