-- A line of a trace: four forms, each field at its place.
use Rattle.std.specs.Prelude.{ℕ, suc, cond, List, [], ◌∷◌, length, Some, None, Ok, Err, Option, Result, nat_lt, slice_index}
use Rattle.std.specs.Option.{option_map}
use Rattle.calls.specs.declared.call.Call.{Call}
use Rattle.calls.specs.declared.call.Call.TheVariants.{Open, Enter, Start, Finish}
use Rattle.trace.specs.declared.fault.BadNumber.{BadNumber}
use Rattle.trace.specs.declared.fault.FieldFault.{FieldFault}
use Rattle.trace.specs.declared.fault.FieldFault.TheVariants.{Malformed, Number}
use Rattle.trace.specs.declared.fault.LineFault.{LineFault}
use Rattle.trace.specs.declared.fault.LineFault.TheVariants.{TooLong, Field}
use Rattle.trace.specs.declared.field.Key.{Key}
use Rattle.trace.specs.declared.field.Key.TheVariants.{Session, Weight, Limit, Length, Ticket}
use Rattle.trace.specs.declared.field.Order.{Order}
use Rattle.trace.specs.declared.field.Order.TheVariants.{Open as OpenOrder, Enter as EnterOrder, Start as StartOrder, Finish as FinishOrder}
use Rattle.trace.specs.declared.line.Fields.{Fields}
use Rattle.trace.specs.declared.number.NumberFault.{NumberFault}
use Rattle.trace.specs.Cuts.{split}
use Rattle.trace.specs.Fields.{Said, order, keyed, other, field_of, has_name, order_of}
use Rattle.trace.specs.Numbers.{read_number}

-- the fields that are still to be read
abbrev pub left_of : Option (List ℕ) → List (List ℕ)
left_of None = []
left_of (Some text) = split 32 text

abbrev pub left : Fields → List (List ℕ)
left fields = left_of (option_map (λ text. text.now) fields.rest)

abbrev pub first_said : List (List ℕ) → Option Said
first_said [] = None
first_said (field ∷ fields) = Some (field_of field)

abbrev pub without_first : List (List ℕ) → List (List ℕ)
without_first [] = []
without_first (field ∷ fields) = fields

-- a value that is no number keeps its cause and gets its place
abbrev pub numbered : ℕ → Result ℕ NumberFault → Result ℕ BadNumber
numbered place (Ok n) = Ok n
numbered place (Err fault) = Err (record { place = place; fault = fault })

abbrev pub of_field : Result ℕ BadNumber → Result ℕ FieldFault
of_field (Ok n) = Ok n
of_field (Err bad) = Err (Number bad)

-- the number under the key: the key is looked at before its value
abbrev pub value_at : ℕ → Key → Option Said → Result ℕ FieldFault
value_at place key None = Err (Malformed place)
value_at place key (Some (order word)) = Err (Malformed place)
value_at place key (Some (keyed name value)) = cond (has_name key name) (of_field (numbered place (read_number value))) (Err (Malformed place))
value_at place key (Some (other text)) = Err (Malformed place)

-- the order at the head of the line
abbrev pub known : Option Order → Result Order FieldFault
known None = Err (Malformed 1)
known (Some o) = Ok o

abbrev pub order_at : Option Said → Result Order FieldFault
order_at None = Err (Malformed 1)
order_at (Some (order word)) = known (order_of word)
order_at (Some (keyed name value)) = Err (Malformed 1)
order_at (Some (other text)) = Err (Malformed 1)

-- nothing may follow the last field of the form
abbrev pub nothing_at : {A : Type 0} → ℕ → Option A → Result (Unit {0}) FieldFault
nothing_at place None = Ok tt
nothing_at place (Some f) = Err (Malformed place)

-- go on with what was read, or stop at the fault
abbrev pub then : {A B E : Type 0} → Result A E → (A → Result B E) → Result B E
then (Ok x) next = next x
then (Err e) next = Err e

-- the keys that follow an order, from the second field on
abbrev pub keys_of : Order → List Key
keys_of OpenOrder = Session ∷ Weight ∷ Limit ∷ []
keys_of EnterOrder = Session ∷ Length ∷ Ticket ∷ []
keys_of StartOrder = []
keys_of FinishOrder = []

-- the numbers under these keys, the first of them at this place, and nothing more
abbrev pub read_values : ℕ → List Key → List (List ℕ) → Result (List ℕ) FieldFault
read_values place [] fields = then (nothing_at place (first_said fields)) (λ _. Ok [])
read_values place (key ∷ keys) fields =
    then (value_at place key (first_said fields)) (λ n. then (read_values (suc place) keys (without_first fields)) (λ ns. Ok (n ∷ ns)))

abbrev pub call_of : Order → List ℕ → Call
call_of OpenOrder ns = Open (slice_index ns 0) (slice_index ns 1) (slice_index ns 2)
call_of EnterOrder ns = Enter (slice_index ns 0) (slice_index ns 1) (slice_index ns 2)
call_of StartOrder ns = Start
call_of FinishOrder ns = Finish

abbrev pub read_call : List (List ℕ) → Result Call FieldFault
read_call fields =
    then (order_at (first_said fields)) (λ o. then (read_values 2 (keys_of o) (without_first fields)) (λ ns. Ok (call_of o ns)))

abbrev pub of_line : Result Call FieldFault → Result Call LineFault
of_line (Ok call) = Ok call
of_line (Err fault) = Err (Field fault)

-- a line above 80 octets is too long, whatever it holds; else its fields are what stands between the spaces
abbrev pub read_line : List ℕ → Result Call LineFault
read_line text = cond (nat_lt 80 (length text)) (Err TooLong) (of_line (read_call (split 32 text)))
