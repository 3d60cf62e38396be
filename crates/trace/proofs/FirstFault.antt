-- A line's fault is that of its first wrong field.
use Rattle.std.proofs.Common.{◌≡◌, ℕ, zero, suc, ◌+◌, ◌<◌, Bool, true, false, cond, ltb, List, [], ◌∷◌, length, Some, None, Ok, Err, Option, Result, sym, refl, ap, ◌∙◌, arith}
use Rattle.std.specs.Option.{option_map}
use Rattle.calls.specs.declared.call.Call.{Call}
use Rattle.trace.specs.declared.fault.FieldFault.{FieldFault}
use Rattle.trace.specs.declared.fault.FieldFault.TheVariants.{Malformed, Number}
use Rattle.trace.specs.declared.fault.LineFault.TheVariants.{TooLong, Field}
use Rattle.trace.specs.declared.field.Key.{Key}
use Rattle.trace.specs.declared.field.Order.{Order}
use Rattle.trace.specs.declared.number.NumberFault.{NumberFault}
use Rattle.trace.specs.Cuts.{split}
use Rattle.trace.specs.Faults.{field_place}
use Rattle.trace.specs.Fields.{Said, order, keyed, other, field_of, has_name, order_of}
use Rattle.trace.specs.Laws.{at, error_of, field_fault, fault_behind, NoFault, FirstFault, no_order, behind_order, FaultsAreFirst}
use Rattle.trace.specs.Lines.{numbered, of_field, value_at, known, order_at, then, keys_of, read_values, call_of, read_call, of_line, first_said, without_first}
use Rattle.trace.specs.Numbers.{read_number}

module _ {A E : Type 0} where
  never : (e : E) (x : A) → ◌≡◌ {A = Result A E} (Err e) (Ok x) → ⊥
  never e x p = let z : ◌≡◌ {A = ℕ} 0 1 = cc in omega arith

  never_ok : (x : A) (e : E) → ◌≡◌ {A = Result A E} (Ok x) (Err e) → ⊥
  never_ok x e p = let z : ◌≡◌ {A = ℕ} 0 1 = cc in omega arith

  same_error : (e f : E) → ◌≡◌ {A = Result A E} (Err e) (Err f) → e ≡ f
  same_error e f p = cc

-- the fault of the k-th of the fields, the first of which stands at this place
faults : ℕ → List Key → List (List ℕ) → ℕ → Option FieldFault
faults place keys fields k = field_fault (place + k) (at keys k) (at fields k)

at_first : (fields : List (List ℕ)) → option_map field_of (at fields 0) ≡ first_said fields
at_first [] = refl
at_first (field ∷ fields) = refl

at_rest : (fields : List (List ℕ)) (k : ℕ) → at (without_first fields) k ≡ at fields (suc k)
at_rest [] k = refl
at_rest (field ∷ fields) k = refl

first_key : (place : ℕ) (key : Key) (keys : List Key) (fields : List (List ℕ)) →
    faults place (key ∷ keys) fields 0 ≡ error_of (value_at place key (first_said fields))
unfolding faults
first_key place key keys fields = λ i. error_of (value_at ((let e : place + 0 ≡ place = omega arith in e) i) key (at_first fields i))

next_key : (place : ℕ) (key : Key) (keys : List Key) (fields : List (List ℕ)) (k : ℕ) →
    faults place (key ∷ keys) fields (suc k) ≡ faults (suc place) keys (without_first fields) k
unfolding faults
next_key place key keys fields k =
    λ i. field_fault ((let e : place + suc k ≡ suc place + k = omega arith in e) i) (at keys k) (sym (at_rest fields k) i)

-- ---- a good line
no_more : (place : ℕ) (fields : List (List ℕ)) (ns : List ℕ) → read_values place [] fields ≡ Ok ns → (k : ℕ) → faults place [] fields k ≡ None
unfolding faults
no_more place [] ns e k = refl
no_more place (field ∷ fields) ns e k = absurd (never (Malformed place) ns e)

all_right : (place : ℕ) (keys : List Key) (fields : List (List ℕ)) (ns : List ℕ) →
    read_values place keys fields ≡ Ok ns → (k : ℕ) → faults place keys fields k ≡ None
all_right place [] fields ns e k = no_more place fields ns e k
all_right place (key ∷ keys) fields ns e k =
    go (value_at place key (first_said fields)) refl (read_values (suc place) keys (without_first fields)) refl e (all_right (suc place) keys (without_first fields)) k
  where
    go : (r : Result ℕ FieldFault) → value_at place key (first_said fields) ≡ r → (t : Result (List ℕ) FieldFault) →
        read_values (suc place) keys (without_first fields) ≡ t → then r (λ n. then t (λ ms. Ok (n ∷ ms))) ≡ Ok ns →
        ((ms : List ℕ) → read_values (suc place) keys (without_first fields) ≡ Ok ms → (j : ℕ) → faults (suc place) keys (without_first fields) j ≡ None) →
        (j : ℕ) → faults place (key ∷ keys) fields j ≡ None
    go (Err f) p t q e more j = absurd (never f ns e)
    go (Ok n) p (Err f) q e more j = absurd (never f ns e)
    go (Ok n) p (Ok ms) q e more zero = first_key place key keys fields ∙ ap error_of p
    go (Ok n) p (Ok ms) q e more (suc j) = next_key place key keys fields j ∙ more ms q j

-- ---- a faulty one
record Found (place : ℕ) (keys : List Key) (fields : List (List ℕ)) (fault : FieldFault) : Type 0 where
  k : ℕ
  here : faults place keys fields k ≡ Some fault
  place_of : field_place fault ≡ place + k
  before : (j : ℕ) → j < k → faults place keys fields j ≡ None

number_place : (place : ℕ) (r : Result ℕ NumberFault) (fault : FieldFault) → of_field (numbered place r) ≡ Err fault → field_place fault ≡ place
number_place place (Ok n) fault e = absurd (never_ok n fault e)
number_place place (Err c) fault e = sym (ap field_place (same_error (Number (record { place = place; fault = c })) fault e))

malformed_place : (place : ℕ) (fault : FieldFault) → ◌≡◌ {A = Result ℕ FieldFault} (Err (Malformed place)) (Err fault) → field_place fault ≡ place
malformed_place place fault e = sym (ap field_place (same_error (Malformed place) fault e))

value_place : (place : ℕ) (key : Key) (said : Option Said) (fault : FieldFault) → value_at place key said ≡ Err fault → field_place fault ≡ place
value_place place key None fault e = malformed_place place fault e
value_place place key (Some (order word)) fault e = malformed_place place fault e
value_place place key (Some (other text)) fault e = malformed_place place fault e
value_place place key (Some (keyed name value)) fault e = go (has_name key name) e
  where
    go : (b : Bool) → cond b (of_field (numbered place (read_number value))) (Err (Malformed place)) ≡ Err fault → field_place fault ≡ place
    go true e = number_place place (read_number value) fault e
    go false e = malformed_place place fault e

first_wrong : (place : ℕ) (keys : List Key) (fields : List (List ℕ)) (fault : FieldFault) →
    read_values place keys fields ≡ Err fault → Found place keys fields fault
unfolding faults
first_wrong place [] [] fault e = absurd (never_ok [] fault e)
first_wrong place [] (field ∷ fields) fault e =
    let f : Malformed place ≡ fault = same_error (Malformed place) fault e in
    let p : place + 0 ≡ place = omega arith in
    record {
      k = 0;
      here = ap (λ n. Some (Malformed n)) p ∙ ap Some f;
      place_of = sym (ap field_place f) ∙ sym p;
      before = λ j h. let no : ⊥ = omega arith in absurd no;
    }
first_wrong place (key ∷ keys) fields fault e =
    go (value_at place key (first_said fields)) refl (read_values (suc place) keys (without_first fields)) refl e (first_wrong (suc place) keys (without_first fields) fault)
  where
    later : (n : ℕ) → value_at place key (first_said fields) ≡ Ok n → (j : ℕ) → (q : Found (suc place) keys (without_first fields) fault) →
        j < suc q.k → faults place (key ∷ keys) fields j ≡ None
    later n p zero q h = first_key place key keys fields ∙ ap error_of p
    later n p (suc j) q h = next_key place key keys fields j ∙ q.before j (omega arith)

    go : (r : Result ℕ FieldFault) → value_at place key (first_said fields) ≡ r → (t : Result (List ℕ) FieldFault) →
        read_values (suc place) keys (without_first fields) ≡ t → then r (λ n. then t (λ ms. Ok (n ∷ ms))) ≡ Err fault →
        (read_values (suc place) keys (without_first fields) ≡ Err fault → Found (suc place) keys (without_first fields) fault) →
        Found place (key ∷ keys) fields fault
    go (Err f) p t q e more =
        let same : f ≡ fault = same_error f fault e in
        record {
          k = 0;
          here = first_key place key keys fields ∙ ap error_of p ∙ ap Some same;
          place_of = value_place place key (first_said fields) fault (p ∙ ap Err same) ∙ (let z : place ≡ place + 0 = omega arith in z);
          before = λ j h. let no : ⊥ = omega arith in absurd no;
        }
    go (Ok n) p (Ok ms) q e more = absurd (never_ok (n ∷ ms) fault e)
    go (Ok n) p (Err f) q e more =
        let found = more (q ∙ ap Err (same_error f fault e)) in
        let z : suc place + found.k ≡ place + suc found.k = omega arith in
        record {
          k = suc found.k;
          here = next_key place key keys fields found.k ∙ found.here;
          place_of = found.place_of ∙ z;
          before = λ j h. later n p j found h;
        }

-- ---- the line as a whole
order_place : (said : Option Said) (fault : FieldFault) → order_at said ≡ Err fault → field_place fault ≡ 1
order_place None fault e = sym (ap field_place (same_error (Malformed 1) fault e))
order_place (Some (keyed name value)) fault e = sym (ap field_place (same_error (Malformed 1) fault e))
order_place (Some (other text)) fault e = sym (ap field_place (same_error (Malformed 1) fault e))
order_place (Some (order word)) fault e = go (order_of word) e
  where
    go : (o : Option Order) → known o ≡ Err fault → field_place fault ≡ 1
    go None e = sym (ap field_place (same_error (Malformed 1) fault e))
    go (Some o) e = absurd (never_ok o fault e)

good_call : (fields : List (List ℕ)) (call : Call) → read_call fields ≡ Ok call → NoFault fields
unfolding faults
good_call fields call e = go (order_at (first_said fields)) refl e
  where
    behind : (o : Order) (t : Result (List ℕ) FieldFault) → read_values 2 (keys_of o) (without_first fields) ≡ t →
        then t (λ ns. Ok (call_of o ns)) ≡ Ok call → (k : ℕ) → fault_behind o fields k ≡ None
    behind o (Err f) q e k = absurd (never f call e)
    behind o (Ok ns) q e k = all_right 2 (keys_of o) (without_first fields) ns q k

    go : (r : Result Order FieldFault) → order_at (first_said fields) ≡ r →
        then r (λ o. then (read_values 2 (keys_of o) (without_first fields)) (λ ns. Ok (call_of o ns))) ≡ Ok call → NoFault fields
    go (Err f) p e = absurd (never f call e)
    go (Ok o) p e = record { order = o; begins = p; behind = behind o (read_values 2 (keys_of o) (without_first fields)) refl e }

faulty_call : (fields : List (List ℕ)) (fault : FieldFault) → read_call fields ≡ Err fault → FirstFault fields fault
unfolding faults
faulty_call fields fault e = go (order_at (first_said fields)) refl e
  where
    behind : (o : Order) → order_at (first_said fields) ≡ Ok o → (t : Result (List ℕ) FieldFault) →
        read_values 2 (keys_of o) (without_first fields) ≡ t → then t (λ ns. Ok (call_of o ns)) ≡ Err fault → FirstFault fields fault
    behind o p (Ok ns) q e = absurd (never_ok (call_of o ns) fault e)
    behind o p (Err f) q e =
        let found = first_wrong 2 (keys_of o) (without_first fields) fault (q ∙ ap Err (same_error f fault e)) in
        behind_order o found.k p found.here found.place_of found.before

    go : (r : Result Order FieldFault) → order_at (first_said fields) ≡ r →
        then r (λ o. then (read_values 2 (keys_of o) (without_first fields)) (λ ns. Ok (call_of o ns))) ≡ Err fault → FirstFault fields fault
    go (Err f) p e =
        let q : order_at (first_said fields) ≡ Err fault = p ∙ ap Err (same_error f fault e) in
        no_order q (order_place (first_said fields) fault q)
    go (Ok o) p e = behind o p (read_values 2 (keys_of o) (without_first fields)) refl e

-- what a line of a fitting length says is what its fields say
ok_line : (b : Bool) (r : Result Call FieldFault) (call : Call) → cond b (Err TooLong) (of_line r) ≡ Ok call → r ≡ Ok call
ok_line true r call e = absurd (never TooLong call e)
ok_line false (Ok c) call e = cc
ok_line false (Err f) call e = absurd (never (Field f) call e)

err_line : (b : Bool) (r : Result Call FieldFault) (fault : FieldFault) → cond b (Err TooLong) (of_line r) ≡ Err (Field fault) → r ≡ Err fault
err_line true r fault e = let z : ◌≡◌ {A = ℕ} 0 1 = cc in let no : ⊥ = omega arith in absurd no
err_line false (Ok c) fault e = absurd (never_ok c (Field fault) e)
err_line false (Err f) fault e = cc

pub faults_are_first : (text : List ℕ) → FaultsAreFirst text
faults_are_first text =
    record {
      good = λ call e. good_call (split 32 text) call (ok_line (ltb 80 (length text)) (read_call (split 32 text)) call e);
      faulty = λ fault e. faulty_call (split 32 text) fault (err_line (ltb 80 (length text)) (read_call (split 32 text)) fault e);
    }
