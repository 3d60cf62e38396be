use Rattle.std.proofs.Common.{◌≡◌, [], ◌∷◌, Some, sym, ap, ◌∙◌}
use Rattle.std.specs.Option.{option_map}
use Rattle.trace.specs.Cuts.{split}
use Rattle.trace.specs.Lines.{left, left_of, first_said, without_first}
use Rattle.trace.proofs.Parts.{split_more, split_last}
use Rattle.trace.proofs.line.Fields.next.Goals as goal

more : (c : goal.After-read_field) → left c.args.self.now ≡ c.in-Some.field.now ∷ split 32 c.in-Some.rest.now
more c =
    ap (λ o. left_of (option_map (λ text. text.now) o)) c.in_ok-text.was
    ∙ split_more 32 c.in_ok-text.text.now c.in-Some.field.now c.in-Some.rest.now c.in-Some.ensures.parts

pub returns-in-Some : goal.returns-in-Some
returns-in-Some c =
    record {
      field = ap Some c.read_field.ensures ∙ sym (ap first_said (more c));
      rest = sym (ap without_first (more c));
    }

last : (c : goal.After-read_field-in-None) → left c.args.self.now ≡ c.in_ok-text.text.now ∷ []
last c =
    ap (λ o. left_of (option_map (λ text. text.now) o)) c.in_ok-text.was
    ∙ split_last 32 c.in_ok-text.text.now c.in-None.ensures.parts

pub returns-in-None : goal.returns-in-None
returns-in-None c =
    record {
      field = ap Some c.read_field-in-None.ensures ∙ sym (ap first_said (last c));
      rest = sym (ap without_first (last c));
    }
