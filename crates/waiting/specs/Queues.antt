-- What the table means: a queue for each session; and what each call answers and makes of the queues.
use Rattle.std.specs.Prelude.{ℕ, cond, List, [], ◌∷◌, ◌++◌, length, Some, None, Ok, Err, Option, Result, ◌==◌, nat_lt}
use Rattle.calls.specs.Sums.{sum_below}
use Rattle.calls.specs.declared.call.Packet.{Packet}
use Rattle.calls.specs.declared.refusal.Refusal.{Refusal}
use Rattle.calls.specs.declared.refusal.Refusal.TheVariants.{NoSuchSession, Full}
use Rattle.waiting.specs.declared.chains.Chains.{Chains}
use Rattle.waiting.specs.declared.table.Waiting.{Waiting}
use Rattle.waiting.specs.Chains.{header, queue_chain, packets}
pub use Rattle.waiting.specs.Chains.{total_length}

abbrev pub queue_in : Chains → ℕ → List Packet
queue_in t s = packets t.places (queue_chain t.places (header t s))

-- the packets of session s, in order of arrival; none above 63
unfoldable pub queue : Waiting → ℕ → List Packet
queue w s = queue_in w.chains s

-- ---- lists of packets
abbrev pub first_of : List Packet → Option Packet
first_of [] = None
first_of (p ∷ ps) = Some p

abbrev pub rest_of : List Packet → List Packet
rest_of [] = []
rest_of (p ∷ ps) = ps

-- ---- queues
abbrev pub no_packets : ℕ → List Packet
no_packets s = []

-- the packets of all sessions together
abbrev pub total : (ℕ → List Packet) → ℕ
total q = sum_below 64 (λ s. length (q s))

abbrev pub all_waiting : Waiting → ℕ
all_waiting w = total (queue w)

-- the queues with ps in the place of that of session s
abbrev pub put : (ℕ → List Packet) → ℕ → List Packet → ℕ → List Packet
put q s ps n = cond (n == s) ps (q n)

-- ---- answers
-- there is no session above 63
abbrev pub of_session : {X : Type 0} → ℕ → X → Result X Refusal
of_session s x = cond (nat_lt s 64) (Ok x) (Err NoSuchSession)

abbrev pub first_answer : (ℕ → List Packet) → ℕ → Result (Option Packet) Refusal
first_answer q s = of_session s (first_of (q s))

abbrev pub count_answer : (ℕ → List Packet) → ℕ → Result ℕ Refusal
count_answer q s = of_session s (length (q s))

abbrev pub lengths_answer : (ℕ → List Packet) → ℕ → Result ℕ Refusal
lengths_answer q s = of_session s (total_length (q s))

-- there are 256 places
abbrev pub room_answer : ℕ → Result (Unit {0}) Refusal
room_answer waiting = cond (nat_lt waiting 256) (Ok tt) (Err Full)

abbrev pub put_answer : (ℕ → List Packet) → ℕ → Result (Unit {0}) Refusal
put_answer q s = cond (nat_lt s 64) (room_answer (total q)) (Err NoSuchSession)

-- ---- the queues after a call
abbrev pub after_put : (ℕ → List Packet) → ℕ → Packet → Result (Unit {0}) Refusal → ℕ → List Packet
after_put q s p (Ok u) = put q s (q s ++ p ∷ [])
after_put q s p (Err e) = q

abbrev pub after_take : (ℕ → List Packet) → ℕ → ℕ → List Packet
after_take q s = put q s (rest_of (q s))
