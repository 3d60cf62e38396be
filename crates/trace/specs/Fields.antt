-- A field of a trace line: an order word, a key with its value, or neither.
use Rattle.std.specs.Prelude.{ℕ, Bool, cond, List, Some, None, codes, Option}
use Rattle.std.specs.Str.{bytes_eq}
use Rattle.trace.specs.declared.field.Field.{Field}
use Rattle.trace.specs.declared.field.Field.TheVariants.{Order, Keyed, Other}
use Rattle.trace.specs.declared.field.Order.{Order as Orders}
use Rattle.trace.specs.declared.field.Order.TheVariants.{Open, Enter, Start, Finish}
use Rattle.trace.specs.declared.field.Key.{Key}
use Rattle.trace.specs.declared.field.Key.TheVariants.{Session, Weight, Limit, Length, Ticket}
use Rattle.trace.specs.Cuts.{split_once}

-- what a field says, with its octets
pub data Said : Type 0 where
  order : List ℕ → Said
  keyed : List ℕ → List ℕ → Said
  other : List ℕ → Said

abbrev pub said_by : Field → Said
said_by (Order word) = order word.now
said_by (Keyed key value) = keyed key.now value.now
said_by (Other text) = other text.now

-- a field with an `=` is cut at the first one; behind the key `do` stands an order word
abbrev pub cut_field : List ℕ → Option (List ℕ × List ℕ) → Said
cut_field text None = other text
cut_field text (Some p) = cond (bytes_eq p.0 (codes "do")) (order p.1) (keyed p.0 p.1)

abbrev pub field_of : List ℕ → Said
field_of text = cut_field text (split_once 61 text)

abbrev pub key_name : Key → List ℕ
key_name Session = codes "session"
key_name Weight = codes "weight"
key_name Limit = codes "limit"
key_name Length = codes "length"
key_name Ticket = codes "ticket"

abbrev pub has_name : Key → List ℕ → Bool
has_name key name = bytes_eq name (key_name key)

abbrev pub order_name : Orders → List ℕ
order_name Open = codes "open"
order_name Enter = codes "enter"
order_name Start = codes "start"
order_name Finish = codes "finish"

-- the order that a word names
abbrev pub order_of : List ℕ → Option Orders
order_of word =
    cond (bytes_eq word (order_name Open)) (Some Open)
    (cond (bytes_eq word (order_name Enter)) (Some Enter)
    (cond (bytes_eq word (order_name Start)) (Some Start)
    (cond (bytes_eq word (order_name Finish)) (Some Finish) None)))
