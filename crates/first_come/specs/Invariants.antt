-- What always holds of a line of first come.
use Rattle.std.specs.Prelude.{◌≡◌, ℕ, List, length, count_by, nat_eq}
use Rattle.sharing.specs.Meanings.{Meaning, waiting_in, all_waiting}
use Rattle.sessions.specs.declared.state.Sessions.{Sessions}
use Rattle.sessions.specs.Meanings.{meaning_of}
use Rattle.first_come.specs.declared.ring.Ring.{Ring}
use Rattle.first_come.specs.Rings.{entries_of}

-- each session stands among the arrivals once for each of its waiting packets
abbrev pub ListsAll : Meaning → List ℕ → Type 0
ListsAll m arrivals = (s : ℕ) → count_by (λ k. nat_eq k s) arrivals ≡ length (waiting_in m s)

-- the arrivals are as many entries of the ring as packets wait
abbrev pub arrivals_in : Sessions → Ring → List ℕ
arrivals_in sessions ring = entries_of ring (all_waiting (meaning_of sessions))

abbrev pub ArrivalsListed : Sessions → Ring → Type 0
ArrivalsListed sessions ring = ListsAll (meaning_of sessions) (arrivals_in sessions ring)
