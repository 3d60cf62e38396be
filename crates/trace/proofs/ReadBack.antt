-- A call that is written out reads back as that call.
use Rattle.std.proofs.Common.{◌≡◌, ℕ, ◌^◌, ◌<◌, ◌≤◌, Bool, true, cond, ◌&&◌, ltb, leb, List, [], ◌∷◌, ◌++◌, length, Some, Ok, Err, decimal, refl, ap, ◌∙◌, arith}
use Rattle.std.proofs.lemmas.Fmt.{length-decimal-le, digits_decimal}
use Rattle.std.proofs.ByRecursion.{All-append}
use Rattle.std.proofs.lemmas.List.{length-append}
use Rattle.std.proofs.lemmas.Bool.{le-ltb, and_parts, leb-true, ltb-true}
use Rattle.std.specs.List.{AllByRecursion}
use Rattle.calls.specs.declared.call.Call.{Call}
use Rattle.calls.specs.declared.call.Call.TheVariants.{Open, Enter, Start, Finish}
use Rattle.trace.specs.declared.fault.FieldFault.TheVariants.{Malformed}
use Rattle.trace.specs.declared.fault.LineFault.TheVariants.{TooLong}
use Rattle.trace.specs.declared.field.Key.{Key}
use Rattle.trace.specs.declared.field.Key.TheVariants.{Session, Weight, Limit, Length, Ticket}
use Rattle.trace.specs.declared.field.Order.TheVariants.{Open as OpenOrder, Enter as EnterOrder}
use Rattle.trace.specs.Cuts.{split}
use Rattle.trace.specs.Fields.{field_of, key_name, has_name, keyed}
use Rattle.trace.specs.Laws.{CallsReadBack}
use Rattle.trace.specs.Lines.{value_at, of_field, numbered, of_line, call_of, read_values, read_call, read_line, then}
use Rattle.trace.specs.Numbers.{is_digit, all_digits, read_number}
use Rattle.trace.specs.Texts.{join, order_text, value_text}
use Rattle.trace.proofs.OneText.{own, reads_back}
use Rattle.trace.proofs.Parts.{split_join}

-- octets above a space
above_space : List ℕ → Bool
above_space [] = true
above_space (c ∷ cs) = ltb 32 c && above_space cs

no_space : (cs : List ℕ) → above_space cs ≡ true → AllByRecursion (λ c. c ≡ 32 → ⊥) cs
unfolding above_space
no_space [] above = tt
no_space (c ∷ cs) above =
    let both = and_parts (ltb 32 c) (above_space cs) above in
    let high : 32 < c = ltb-true 32 c both.0 in
    ((λ e. omega arith), no_space cs both.1)

digits_no_space : (ds : List ℕ) → all_digits ds ≡ true → AllByRecursion (λ c. c ≡ 32 → ⊥) ds
digits_no_space [] d = tt
digits_no_space (c ∷ cs) d =
    let both = and_parts (is_digit c) (all_digits cs) d in
    let high : 48 ≤ c = leb-true 48 c (and_parts (leb 48 c) (leb c 57) both.0).0 in
    ((λ e. omega arith), digits_no_space cs both.1)

-- what is to know of a key's name
record Named (key : Key) : Type 0 where
  said : (value : List ℕ) → field_of (key_name key ++ (61 ∷ value)) ≡ keyed (key_name key) value
  itself : has_name key (key_name key) ≡ true
  plain : above_space (key_name key) ≡ true
  short : length (key_name key) ≤ 7

named : (key : Key) → Named key
unfolding above_space
named Session = record { said = λ v. refl; itself = refl; plain = refl; short = omega arith }
named Weight = record { said = λ v. refl; itself = refl; plain = refl; short = omega arith }
named Limit = record { said = λ v. refl; itself = refl; plain = refl; short = omega arith }
named Length = record { said = λ v. refl; itself = refl; plain = refl; short = omega arith }
named Ticket = record { said = λ v. refl; itself = refl; plain = refl; short = omega arith }

module _ (n : ℕ) (small : n < 2 ^ 32) where
  value_no_space : (key : Key) → AllByRecursion (λ c. c ≡ 32 → ⊥) (value_text key n)
  value_no_space key =
      All-append (λ c. c ≡ 32 → ⊥) (key_name key) (61 ∷ decimal n) (no_space (key_name key) (named key).plain)
      ((λ e. omega arith), digits_no_space (decimal n) (digits_decimal own n (omega arith)))

  value_reads : (place : ℕ) (key : Key) → value_at place key (Some (field_of (value_text key n))) ≡ Ok n
  value_reads place key =
      ap (λ s. value_at place key (Some s)) ((named key).said (decimal n))
      ∙ ap (λ b. cond b (of_field (numbered place (read_number (decimal n)))) (Err (Malformed place))) (named key).itself
      ∙ ap (λ r. of_field (numbered place r)) (reads_back n small)

  value_length : (key : Key) → length (value_text key n) ≤ 18
  value_length key =
      omega (
        arith,
        length-append (key_name key) (61 ∷ decimal n),
        (named key).short,
        length-decimal-le 10 n (omega arith) (omega arith) (omega arith),
      )

-- three values behind an order
module _ (j k m : Key) (a b c : ℕ) (x : a < 2 ^ 32) (y : b < 2 ^ 32) (z : c < 2 ^ 32) where
  values : List (List ℕ)
  values = value_text j a ∷ value_text k b ∷ value_text m c ∷ []

  three_read : read_values 2 (j ∷ k ∷ m ∷ []) values ≡ Ok (a ∷ b ∷ c ∷ [])
  unfolding values
  three_read =
      λ i. then (value_reads a x 2 j i)
      (λ n. then
      (then (value_reads b y 3 k i) (λ n. then (then (value_reads c z 4 m i) (λ n. then (Ok []) (λ ns. Ok (n ∷ ns)))) (λ ns. Ok (n ∷ ns))))
      (λ ns. Ok (n ∷ ns)))

  three_lack : (word : List ℕ) → above_space word ≡ true → AllByRecursion (λ part. AllByRecursion (λ c. c ≡ 32 → ⊥) part) (word ∷ values)
  unfolding values
  three_lack word plain = (no_space word plain, (value_no_space a x j, (value_no_space b y k, (value_no_space c z m, tt))))

  three_length : (word : List ℕ) → length word ≤ 8 → length (join 32 (word ∷ values)) ≤ 80
  unfolding values
  three_length word short =
      omega (
        arith,
        length-append word (32 ∷ join 32 values),
        length-append (value_text j a) (32 ∷ join 32 (value_text k b ∷ value_text m c ∷ [])),
        length-append (value_text k b) (32 ∷ value_text m c),
        value_length a x j,
        value_length b y k,
        value_length c z m,
      )

-- a line that is short enough and whose fields say a call
fits_line : (fields : List (List ℕ)) (call : Call) → 0 < length fields → AllByRecursion (λ part. AllByRecursion (λ c. c ≡ 32 → ⊥) part) fields →
    length (join 32 fields) ≤ 80 → read_call fields ≡ Ok call → read_line (join 32 fields) ≡ Ok call
fits_line fields call some lack short reads =
    ap (λ b. cond b (Err TooLong) (of_line (read_call (split 32 (join 32 fields))))) (le-ltb 80 (length (join 32 fields)) short)
    ∙ ap (λ fs. of_line (read_call fs)) (split_join 32 fields some lack)
    ∙ ap of_line reads

pub calls_read_back : CallsReadBack
unfolding above_space values
calls_read_back (Open s w l) fits =
    let vs = values Session Weight Limit s w l fits.0 fits.1 fits.2 in
    fits_line (order_text OpenOrder ∷ vs) (Open s w l) (omega arith)
    (three_lack Session Weight Limit s w l fits.0 fits.1 fits.2 (order_text OpenOrder) refl)
    (three_length Session Weight Limit s w l fits.0 fits.1 fits.2 (order_text OpenOrder) (omega arith))
    (ap (λ r. then r (λ ns. Ok (call_of OpenOrder ns))) (three_read Session Weight Limit s w l fits.0 fits.1 fits.2))
calls_read_back (Enter s len t) fits =
    let vs = values Session Length Ticket s len t fits.0 fits.1 fits.2 in
    fits_line (order_text EnterOrder ∷ vs) (Enter s len t) (omega arith)
    (three_lack Session Length Ticket s len t fits.0 fits.1 fits.2 (order_text EnterOrder) refl)
    (three_length Session Length Ticket s len t fits.0 fits.1 fits.2 (order_text EnterOrder) (omega arith))
    (ap (λ r. then r (λ ns. Ok (call_of EnterOrder ns))) (three_read Session Length Ticket s len t fits.0 fits.1 fits.2))
calls_read_back Start fits = refl
calls_read_back Finish fits = refl
