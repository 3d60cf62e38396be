use Rattle.self_clocked.specs.States.{state}
use Rattle.listing.proofs.Tellings.{goes_on}
use Rattle.listing.proofs.lister.Lister.write_reading_into.Goals as goal

pub returns-clause-fair : goal.returns-clause-fair
returns-clause-fair c = goes_on (state c.args.self.now) (state c.put_reading.new.self) c.args.reading.line c.put_reading.ensures.after
