-- The numbers and places of the faults of a trace line.
use Rattle.std.specs.Prelude.{ℕ, Some, None, Option}
use Rattle.trace.specs.declared.fault.FieldFault.{FieldFault}
use Rattle.trace.specs.declared.fault.FieldFault.TheVariants.{Malformed, Number}
use Rattle.trace.specs.declared.fault.LineFault.{LineFault}
use Rattle.trace.specs.declared.fault.LineFault.TheVariants.{TooLong, Field}

abbrev pub fault_number : LineFault → ℕ
fault_number TooLong = 16
fault_number (Field (Malformed place)) = 14
fault_number (Field (Number bad)) = 15

-- the place of the faulty field, from 1
abbrev pub field_place : FieldFault → ℕ
field_place (Malformed place) = place
field_place (Number bad) = bad.place

-- the place of the faulty field, if one is at fault and not the line as a whole
abbrev pub faulty_field : LineFault → Option ℕ
faulty_field TooLong = None
faulty_field (Field fault) = Some (field_place fault)

-- the same as a number, 0 where none is
abbrev pub fault_field : LineFault → ℕ
fault_field TooLong = 0
fault_field (Field fault) = field_place fault
