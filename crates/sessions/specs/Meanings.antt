-- What the sessions mean.
use Rattle.waiting.specs.Queues.{queue}
use Rattle.sharing.specs.Meanings.{Meaning}
use Rattle.sessions.specs.declared.parts.Parts.{Parts}
use Rattle.sessions.specs.declared.state.Sessions.{Sessions}
use Rattle.sessions.specs.Seats.{seat_at, session_of}
use Rattle.sessions.specs.Conditions.{service_of}

abbrev pub meaning_in : Parts → Meaning
meaning_in p =
    record { session = λ s. session_of (seat_at p.seats s) (queue p.waiting s); in_service = service_of p.condition }

-- a closed session is None; an open one has its terms, its octets and its queue
unfoldable pub meaning_of : Sessions → Meaning
meaning_of x = meaning_in x.parts
