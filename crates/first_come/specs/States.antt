-- What a line of first come is, as a model.
use Rattle.sessions.specs.Meanings.{meaning_of}
use Rattle.first_come.specs.declared.line.FirstCome.{FirstCome}
use Rattle.first_come.specs.Invariants.{arrivals_in}
use Rattle.first_come.specs.Models.{Model}

abbrev pub model_of : FirstCome → Model
model_of x = record { meaning = meaning_of x.sessions; arrivals = arrivals_in x.sessions x.ring }
