-- What a reader of the format may rely on, above the definitions of numbers, fields and lines.
use Rattle.std.specs.Prelude.{◌≡◌, ℕ, zero, suc, ◌+◌, ◌^◌, ◌<◌, List, [], ◌∷◌, Some, None, Ok, Err, decimal, Option, Result, ◌≢◌}
use Rattle.std.specs.Option.{option_map}
use Rattle.std.specs.List.{AllByRecursion}
use Rattle.calls.specs.declared.call.Call.{Call}
use Rattle.calls.specs.declared.call.Call.TheVariants.{Open, Enter, Start, Finish}
use Rattle.trace.specs.declared.fault.FieldFault.{FieldFault}
use Rattle.trace.specs.declared.fault.FieldFault.TheVariants.{Malformed}
use Rattle.trace.specs.declared.fault.LineFault.TheVariants.{Field}
use Rattle.trace.specs.declared.field.Key.{Key}
use Rattle.trace.specs.declared.field.Order.{Order}
use Rattle.trace.specs.Cuts.{split}
use Rattle.trace.specs.Faults.{field_place}
use Rattle.trace.specs.Fields.{field_of}
use Rattle.trace.specs.Lines.{order_at, value_at, keys_of, first_said, without_first, read_line}
use Rattle.trace.specs.Numbers.{read_number}
use Rattle.trace.specs.Texts.{join, call_text}

-- a number and its decimal text belong to each other: the text is read as the number, and no other text is
pub record NumbersHaveOneText : Type 0 where
  pub reads_back : (n : ℕ) → n < 2 ^ 32 → read_number (decimal n) ≡ Ok n
  pub only_so : (text : List ℕ) (n : ℕ) → read_number text ≡ Ok n → text ≡ decimal n
  pub same_text : (text other : List ℕ) (n : ℕ) → read_number text ≡ Ok n → read_number other ≡ Ok n → text ≡ other

-- splitting and joining undo each other, and no part has a separator in it
pub record PartsAreBetweenSeparators (s : ℕ) : Type 0 where
  pub joined : (text : List ℕ) → join s (split s text) ≡ text
  pub apart : (text : List ℕ) → AllByRecursion (λ part. AllByRecursion (λ c. c ≢ s) part) (split s text)

-- the element at this place, from 0
abbrev pub at : {A : Type 0} → List A → ℕ → Option A
at [] k = None
at (x ∷ xs) zero = Some x
at (x ∷ xs) (suc k) = at xs k

abbrev pub error_of : {A E : Type 0} → Result A E → Option E
error_of (Ok x) = None
error_of (Err e) = Some e

-- what is wrong with a field, by the key that belongs at its place; a field where none belongs is wrong
abbrev pub field_fault : ℕ → Option Key → Option (List ℕ) → Option FieldFault
field_fault place None None = None
field_fault place None (Some text) = Some (Malformed place)
field_fault place (Some key) text = error_of (value_at place key (option_map field_of text))

-- the fault of the k-th field behind the order, which is field 2 + k of the line
abbrev pub fault_behind : Order → List (List ℕ) → ℕ → Option FieldFault
fault_behind o fields k = field_fault (2 + k) (at (keys_of o) k) (at (without_first fields) k)

-- a line that is read has no wrong field
pub record NoFault (fields : List (List ℕ)) : Type 0 where
  pub order : Order
  pub begins : order_at (first_said fields) ≡ Ok order
  pub behind : (k : ℕ) → fault_behind order fields k ≡ None

-- the fault is that of the first wrong field, and names its place
pub data FirstFault (fields : List (List ℕ)) (fault : FieldFault) : Type 0 where
  no_order : order_at (first_said fields) ≡ Err fault → field_place fault ≡ 1 → FirstFault fields fault
  behind_order : (o : Order) (k : ℕ) → order_at (first_said fields) ≡ Ok o → fault_behind o fields k ≡ Some fault →
      field_place fault ≡ 2 + k → ((j : ℕ) → j < k → fault_behind o fields j ≡ None) → FirstFault fields fault

pub record FaultsAreFirst (text : List ℕ) : Type 0 where
  pub good : (call : Call) → read_line text ≡ Ok call → NoFault (split 32 text)
  pub faulty : (fault : FieldFault) → read_line text ≡ Err (Field fault) → FirstFault (split 32 text) fault

-- the numbers of a call have 32 bits
abbrev pub FitsCall : Call → Type 0
FitsCall (Open s w l) = (s < 2 ^ 32) × (w < 2 ^ 32) × (l < 2 ^ 32)
FitsCall (Enter s len t) = (s < 2 ^ 32) × (len < 2 ^ 32) × (t < 2 ^ 32)
FitsCall Start = Unit {0}
FitsCall Finish = Unit {0}

-- every call that is written out reads back as that call
abbrev pub CallsReadBack : Type 0
CallsReadBack = (call : Call) → FitsCall call → read_line (call_text call) ≡ Ok call
