-- What a self-clocked line means.
use Rattle.std.specs.Prelude.{ℕ, List, slice_index}
use Rattle.sharing.specs.Clocked.{Clocked}
use Rattle.sessions.specs.Meanings.{meaning_of}
use Rattle.self_clocked.specs.declared.line.SelfClocked.{SelfClocked}

abbrev pub last_in : List ℕ → ℕ → ℕ
last_in lasts s = slice_index lasts s

abbrev pub state : {R : Type 0} → SelfClocked R → Clocked
state x = record { meaning = meaning_of x.sessions; clock = x.clock; last = last_in x.lasts }
