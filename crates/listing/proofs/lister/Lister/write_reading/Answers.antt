use Rattle.std.proofs.Common.{sym, ap, ◌∙◌}
use Rattle.self_clocked.specs.States.{state}
use Rattle.listing.specs.Listings.{after_line}
use Rattle.listing.proofs.Tellings.{goes_on}
use Rattle.listing.proofs.lister.Lister.write_reading.Goals as goal

pub returns-in-Ok-clause-fair : goal.returns-in-Ok-clause-fair
returns-in-Ok-clause-fair c =
    goes_on (state c.args.self.now) (state c.answer_to.new.self) c.args.reading.line
    (c.answer_to.ensures.after ∙ ap (after_line (state c.args.self.now)) (sym c.in-Ok.is))
