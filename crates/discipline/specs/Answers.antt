-- The answers of the four calls, as a history has them.
use Rattle.std.specs.Prelude.{ℕ, Ok, Err, Result}
use Rattle.calls.specs.Answers.{Answer}
use Rattle.calls.specs.declared.call.Reply.TheVariants.{Opened, Entered, Started, Finished}
use Rattle.calls.specs.declared.call.Service.{Service}
use Rattle.calls.specs.declared.refusal.Refusal.{Refusal}

abbrev pub opened : Result (Unit {0}) Refusal → Answer
opened (Ok done) = Ok Opened
opened (Err reason) = Err reason

abbrev pub entered : Result ℕ Refusal → Answer
entered (Ok mark) = Ok (Entered mark)
entered (Err reason) = Err reason

abbrev pub started : Result Service Refusal → Answer
started (Ok service) = Ok (Started service)
started (Err reason) = Err reason

abbrev pub finished : Result Service Refusal → Answer
finished (Ok service) = Ok (Finished service)
finished (Err reason) = Err reason
