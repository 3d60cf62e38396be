-- What every line means, whatever its discipline: its sessions and the packet in service; what each call changes, and what each question answers.
use Rattle.std.specs.Prelude.{◌≡◌, ℕ, ◌+◌, min, cond, List, [], ◌∷◌, ◌++◌, length, is_some, Some, None, Ok, Err, sum_by, Option, Result, ◌==◌, nat_lt}
use Rattle.std.specs.Option.{option_map}
use Rattle.calls.specs.Strides.{charge}
use Rattle.calls.specs.Sums.{sum_below}
use Rattle.calls.specs.declared.call.Packet.{Packet}
pub use Rattle.calls.specs.declared.call.Service.{Service}
use Rattle.calls.specs.declared.call.Call.{Call}
use Rattle.calls.specs.declared.call.Call.TheVariants.{Open, Enter, Start, Finish}
use Rattle.calls.specs.Answers.{Answer}
use Rattle.calls.specs.declared.call.Reply.TheVariants.{Opened, Entered, Started, Finished}
use Rattle.calls.specs.declared.refusal.Refusal.{Refusal}
use Rattle.calls.specs.declared.refusal.Refusal.TheVariants.{NoSuchSession, NotOpen}
use Rattle.sharing.specs.Histories.{Terms, packet_of}
use Rattle.sharing.specs.Rules.{open_refusal, enter_refusal, start_refusal, finish_refusal}

pub record Session : Type 0 where
  pub weight : ℕ
  pub limit : ℕ
  -- what its finished packets were charged
  pub octets : ℕ
  -- the first to start first
  pub waiting : List Packet

pub record Meaning : Type 0 where
  -- None: the session is closed
  pub session : ℕ → Option Session
  pub in_service : Option Service

abbrev pub nothing_open : Meaning
nothing_open = record { session = λ s. None; in_service = None }

-- ---- what is read of a meaning

abbrev pub terms_at : Meaning → ℕ → Option Terms
terms_at m s = option_map (λ t. record { weight = t.weight; limit = t.limit }) (m.session s)

abbrev pub waiting_of : Option Session → List Packet
waiting_of None = []
waiting_of (Some t) = t.waiting

abbrev pub waiting_in : Meaning → ℕ → List Packet
waiting_in m s = waiting_of (m.session s)

abbrev pub all_waiting : Meaning → ℕ
all_waiting m = sum_below 64 (λ s. length (waiting_in m s))

-- the packet in service, if it is of session s
abbrev pub served_of : ℕ → Option Service → List Packet
served_of s None = []
served_of s (Some service) = packet_of s service.session service.packet

abbrev pub in_service_of : Meaning → ℕ → List Packet
in_service_of m s = served_of s m.in_service

-- ---- why a call is refused, with the room and the reach of each session

abbrev pub refusal : Meaning → (ℕ → ℕ) → (ℕ → ℕ) → Call → Option Refusal
refusal m room reach (Open s weight limit) = open_refusal (is_some (m.session s)) s weight limit
refusal m room reach (Enter s length ticket) = enter_refusal (option_map (λ t. t.limit) (m.session s)) (room s) (reach s) s length
refusal m room reach Start = start_refusal (is_some m.in_service) (all_waiting m)
refusal m room reach Finish = finish_refusal (is_some m.in_service)

-- ---- what an accepted call changes; nothing else changes

abbrev pub with_session : Meaning → ℕ → Option Session → Option Service → Meaning
with_session m n new service = record { session = λ s. cond (n == s) new (m.session s); in_service = service }

abbrev pub with_waiting : List Packet → Session → Session
with_waiting packets t = record { weight = t.weight; limit = t.limit; octets = t.octets; waiting = packets }

abbrev pub after_first : List Packet → List Packet
after_first [] = []
after_first (first ∷ rest) = rest

-- a sum above 18446744073709551615 becomes that number
abbrev pub credited : ℕ → Session → Session
credited amount t =
    record { weight = t.weight; limit = t.limit; octets = min (t.octets + amount) 18446744073709551615; waiting = t.waiting }

-- the session is open, with nothing waiting and 0 octets
abbrev pub after_open : Meaning → ℕ → ℕ → ℕ → Meaning
after_open m s weight limit = with_session m s (Some (record { weight = weight; limit = limit; octets = 0; waiting = [] })) m.in_service

-- the packet waits as the last of its session
abbrev pub after_enter : Meaning → ℕ → Packet → Meaning
after_enter m s packet = with_session m s (option_map (λ t. with_waiting (t.waiting ++ packet ∷ []) t) (m.session s)) m.in_service

-- the first waiting packet of the session is in service
abbrev pub after_start : Meaning → ℕ → Packet → Meaning
after_start m s packet =
    with_session m s (option_map (λ t. with_waiting (after_first t.waiting) t) (m.session s)) (Some (record { session = s; packet = packet }))

-- the packet has left, and its charge is added to its session's octets
abbrev pub after_finish : Meaning → ℕ → Packet → Meaning
after_finish m s packet = with_session m s (option_map (credited (charge packet.length)) (m.session s)) None

-- ---- the general step, from x to y; `why` is the reason that the rules give to refuse the call, if there is one

pub data General (x : Meaning) (why : Option Refusal) (y : Meaning) : Call → Answer → Type 0 where
  opens : {s weight limit : ℕ} → why ≡ None → y ≡ after_open x s weight limit → General x why y (Open s weight limit) (Ok Opened)
  enters :
      {s length ticket mark : ℕ} → why ≡ None → y ≡ after_enter x s (record { length = length; ticket = ticket; mark = mark }) →
      General x why y (Enter s length ticket) (Ok (Entered mark))
  starts :
      {s : ℕ} {first : Packet} {rest : List Packet} → why ≡ None → waiting_in x s ≡ first ∷ rest → y ≡ after_start x s first →
      General x why y Start (Ok (Started (record { session = s; packet = first })))
  finishes :
      {s : ℕ} {packet : Packet} → why ≡ None → x.in_service ≡ Some (record { session = s; packet = packet }) →
      y ≡ after_finish x s packet → General x why y Finish (Ok (Finished (record { session = s; packet = packet })))
  refuses : {call : Call} {reason : Refusal} → why ≡ Some reason → y ≡ x → General x why y call (Err reason)

-- at some room and some reach the rules give no reason to refuse the call
abbrev pub Allowed : Meaning → Call → Type 0
Allowed m call = (room : ℕ → ℕ) × (reach : ℕ → ℕ) × (refusal m room reach call ≡ None)

-- a general step at some room and some reach
abbrev pub RuledStep : Meaning → Call → Answer → Meaning → Type 0
RuledStep x call answer y = (room : ℕ → ℕ) × (reach : ℕ → ℕ) × General x (refusal x room reach call) y call answer

-- ---- what the questions answer

abbrev pub if_open : {A : Type 0} → Option Session → (Session → A) → Result A Refusal
if_open None ask = Err NotOpen
if_open (Some t) ask = Ok (ask t)

abbrev pub asked : {A : Type 0} → Meaning → ℕ → (Session → A) → Result A Refusal
asked m s ask = cond (nat_lt s 64) (if_open (m.session s) ask) (Err NoSuchSession)

-- weight and limit, as one record
abbrev pub terms_answer : Meaning → ℕ → Result Terms Refusal
terms_answer m s = asked m s (λ t. record { weight = t.weight; limit = t.limit })

-- how many packets of the session wait
abbrev pub count_answer : Meaning → ℕ → Result ℕ Refusal
count_answer m s = asked m s (λ t. length t.waiting)

-- their lengths together
abbrev pub lengths_answer : Meaning → ℕ → Result ℕ Refusal
lengths_answer m s = asked m s (λ t. sum_by (λ packet. packet.length) t.waiting)

abbrev pub octets_answer : Meaning → ℕ → Result ℕ Refusal
octets_answer m s = asked m s (λ t. t.octets)

abbrev pub room_answer : Meaning → (ℕ → ℕ) → ℕ → Result ℕ Refusal
room_answer m room s = asked m s (λ t. room s)

abbrev pub reach_answer : Meaning → (ℕ → ℕ) → ℕ → Result ℕ Refusal
reach_answer m reach s = asked m s (λ t. reach s)
