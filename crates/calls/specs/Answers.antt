-- What a line answers: a reply, or why it refuses the call.
use Rattle.std.specs.Prelude.{Result}
use Rattle.calls.specs.declared.call.Reply.{Reply}
use Rattle.calls.specs.declared.refusal.Refusal.{Refusal}

abbrev pub Answer : Type 0
Answer = Result Reply Refusal
