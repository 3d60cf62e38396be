-- The texts of calls, and of the lines of a listing.
use Rattle.std.specs.Prelude.{ℕ, List, [], ◌∷◌, ◌++◌, codes, decimal, Ok, Err}
use Rattle.calls.specs.declared.call.Call.{Call}
use Rattle.calls.specs.declared.call.Service.{Service}
use Rattle.calls.specs.declared.call.Call.TheVariants.{Open, Enter, Start, Finish}
use Rattle.calls.specs.Refusals.{refusal_number}
use Rattle.calls.specs.declared.refusal.Refusal.{Refusal}
use Rattle.calls.specs.Answers.{Answer}
use Rattle.calls.specs.declared.call.Reply.TheVariants.{Opened, Entered, Started, Finished}
use Rattle.trace.specs.declared.fault.LineFault.{LineFault}
use Rattle.trace.specs.declared.field.Key.{Key}
use Rattle.trace.specs.declared.field.Key.TheVariants.{Session, Weight, Limit, Length, Ticket}
use Rattle.trace.specs.declared.field.Order.{Order}
use Rattle.trace.specs.declared.field.Order.TheVariants.{Open as OpenOrder, Enter as EnterOrder, Start as StartOrder, Finish as FinishOrder}
use Rattle.trace.specs.Faults.{fault_number, fault_field}
use Rattle.trace.specs.Fields.{key_name, order_name}

-- the parts with a separator s between each two
abbrev pub join : ℕ → List (List ℕ) → List ℕ
join s [] = []
join s (part ∷ []) = part
join s (part ∷ next ∷ parts) = part ++ (s ∷ join s (next ∷ parts))

abbrev pub value_text : Key → ℕ → List ℕ
value_text key n = key_name key ++ (61 ∷ decimal n)

abbrev pub order_text : Order → List ℕ
order_text o = codes "do=" ++ order_name o

-- a call as the fields of a line
abbrev pub call_fields : Call → List (List ℕ)
call_fields (Open s w l) = order_text OpenOrder ∷ value_text Session s ∷ value_text Weight w ∷ value_text Limit l ∷ []
call_fields (Enter s len t) = order_text EnterOrder ∷ value_text Session s ∷ value_text Length len ∷ value_text Ticket t ∷ []
call_fields Start = order_text StartOrder ∷ []
call_fields Finish = order_text FinishOrder ∷ []

-- the line that writes the call
abbrev pub call_text : Call → List ℕ
call_text call = join 32 (call_fields call)

-- ---- the listing

abbrev pub numbered_line : ℕ → List ℕ
numbered_line at = codes "at=" ++ decimal at

-- a faulty line is told by the fault's number and the place of its field
abbrev pub fault_text : ℕ → LineFault → List ℕ
fault_text at fault =
    numbered_line at ++ (codes " said=fault number=" ++ decimal (fault_number fault)) ++ (codes " field=" ++ decimal (fault_field fault)) ++ codes "\n"

-- the session that a call names, 0 where it names none
abbrev pub session_of : Call → ℕ
session_of (Open s w l) = s
session_of (Enter s len t) = s
session_of Start = 0
session_of Finish = 0

-- a packet was started: it is in service
abbrev pub started_text : ℕ → Service → List ℕ
started_text at service =
    numbered_line at ++ (codes " said=started session=" ++ decimal service.session) ++ (codes " ticket=" ++ decimal service.packet.ticket) ++
    (codes " mark=" ++ decimal service.packet.mark) ++ codes "\n"

-- a packet was finished: it has left
abbrev pub finished_text : ℕ → Service → List ℕ
finished_text at service =
    numbered_line at ++ (codes " said=finished session=" ++ decimal service.session) ++ (codes " ticket=" ++ decimal service.packet.ticket) ++
    (codes " length=" ++ decimal service.packet.length) ++ codes "\n"

-- the call was refused
abbrev pub refused_text : ℕ → Refusal → List ℕ
refused_text at reason = numbered_line at ++ (codes " said=refused number=" ++ decimal (refusal_number reason)) ++ codes "\n"

-- what was said to the call of this line
abbrev pub answer_text : ℕ → Call → Answer → List ℕ
answer_text at call (Ok Opened) = numbered_line at ++ (codes " said=opened session=" ++ decimal (session_of call)) ++ codes "\n"
answer_text at call (Ok (Entered mark)) =
    numbered_line at ++ (codes " said=entered session=" ++ decimal (session_of call)) ++ (codes " mark=" ++ decimal mark) ++ codes "\n"
answer_text at call (Ok (Started service)) = started_text at service
answer_text at call (Ok (Finished service)) = finished_text at service
answer_text at call (Err reason) = refused_text at reason

-- the line of an open session at the end
abbrev pub closing_text : ℕ → ℕ → ℕ → ℕ → List ℕ
closing_text s weight octets waiting =
    (codes "end=" ++ decimal s) ++ (codes " weight=" ++ decimal weight) ++ (codes " octets=" ++ decimal octets) ++
    (codes " waiting=" ++ decimal waiting) ++ codes "\n"
