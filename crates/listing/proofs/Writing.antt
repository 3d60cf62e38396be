-- Writing text: one piece after another.
use Rattle.std.proofs.Common.{◌≡◌, ℕ, zero, suc, ◌+◌, ◌-◌, ◌*◌, ◌/◌, ◌%◌, ◌^◌, ◌<◌, ◌≤◌, List, [], ◌++◌, length, take, drop, decimal, refl, sym, ap, ◌∙◌, mul_comm, div-lt_iff_lt-mul, pow-suc, zero-add, div-one, arith}
use native.Mathlib.Nat.{one-le-pow, div-div-eq-div-mul}
use Rattle.std.proofs.lemmas.Fmt.{decimal_digit, decimal_step, length-decimal-le}
use borrow.Rule.Slice.PartMut.{put_mid}
use Rattle.std.proofs.lemmas.List.{append_assoc, append-nil, length-append, length_push, length-drop, length-take-le, take_all, take_at, take-append-drop, drop_all, drop_at, drop-drop}
use Rattle.listing.specs.Texts.{put_at, Wrote}

module _ (out : List ℕ) (at : ℕ) (within : at ≤ length out) where
  head_length : length (take at out) ≡ at
  head_length = length-take-le at out within

  -- two pieces, one behind the other
  pub put_put : (a b : List ℕ) → put_at (put_at out at a) (at + length a) b ≡ put_at out at (a ++ b)
  unfolding put_at
  put_put a b =
      let n : ℕ = at + length a in
      let front : List ℕ = take at out ++ a in
      let whole : take at out ++ (a ++ drop n out) ≡ front ++ drop n out = sym (append_assoc (take at out) a (drop n out)) in
      let long : length front ≡ n = length-append (take at out) a ∙ ap (λ k. k + length a) head_length in
      let kept : take n (take at out ++ (a ++ drop n out)) ≡ front = ap (take n) whole ∙ take_at front (drop n out) n long in
      let gone : drop n (take at out ++ (a ++ drop n out)) ≡ drop n out = ap (drop n) whole ∙ drop_at front (drop n out) n long in
      let rest : drop (n + length b) (take at out ++ (a ++ drop n out)) ≡ drop (n + length b) out =
      sym (drop-drop (length b) n (take at out ++ (a ++ drop n out))) ∙ ap (drop (length b)) gone ∙ drop-drop (length b) n out in
      let same : n + length b ≡ at + length (a ++ b) = omega (arith, length-append a b) in
      (λ i. kept i ++ (b ++ rest i))
      ∙ append_assoc (take at out) a (b ++ drop (n + length b) out)
      ∙ ap (λ xs. take at out ++ xs) (sym (append_assoc a b (drop (n + length b) out)))
      ∙ ap (λ k. take at out ++ (a ++ b ++ drop k out)) same

-- nothing written
pub put_none : (out : List ℕ) (at : ℕ) → put_at out at [] ≡ out
unfolding put_at
put_none out at = ap (λ k. take at out ++ drop k out) (let e : at + 0 ≡ at = omega arith in e) ∙ take-append-drop at out

-- the part of a slice from a place on, and the slice with that part as it was written
abbrev pub part_from : ℕ → List ℕ → List ℕ
part_from at x = take (length x - at) (drop at x)

abbrev pub with_part : ℕ → List ℕ → List ℕ → List ℕ
with_part at x part = put_mid at (length x - at) x part

-- what is written at the front of the part from a place on is written at that place of the whole
wrote_part : {x part text : List ℕ} {at n : ℕ} → at ≤ length x → Wrote (part_from at x) 0 text part n →
    Wrote x at text (with_part at x part) (at + n)
unfolding put_at
wrote_part {x} {part} {text} {at} {n} within w =
    let left : length (drop at x) ≤ length x - at = omega (arith, length-drop at x) in
    let rest : part_from at x ≡ drop at x = take_all (length x - at) (drop at x) left in
    let none : drop (length x - at) (drop at x) ≡ [] = drop_all (length x - at) (drop at x) left in
    let behind : drop (0 + length text) (drop at x) ≡ drop (at + length text) x =
    drop-drop (0 + length text) at x ∙ ap (λ k. drop (at + k) x) (zero-add (length text)) in
    record {
      octets =
          ap (λ ys. take at x ++ (part ++ ys)) none ∙ ap (λ ys. take at x ++ ys) (append-nil part ∙ w.octets) ∙
          ap (λ ys. take at x ++ (text ++ ys)) (ap (drop (0 + length text)) rest ∙ behind);
      place = ap (λ k. at + k) (w.place ∙ zero-add (length text));
    }

-- the part from a place on, with the piece over it
pub wrote_piece : (out : List ℕ) (at : ℕ) (part piece : List ℕ) → part ≡ piece →
    Wrote out at piece (put_mid at (at + length piece - at) out part) (at + length piece)
unfolding put_at
wrote_piece out at part piece e =
    let n : at + (at + length piece - at) ≡ at + length piece = omega arith in
    record { octets = λ i. take at out ++ (e i ++ (drop-drop (at + length piece - at) at out ∙ ap (λ k. drop k out) n) i); place = refl }

-- the digits of a number, written so that they end at a place
pub wrote_digits : (out written : List ℕ) (at start n : ℕ) → start + length (decimal n) ≡ at + length (decimal n) →
    drop start written ≡ decimal n ++ drop (at + length (decimal n)) out → take start written ≡ take start out →
    Wrote out at (decimal n) written (at + length (decimal n))
unfolding put_at
wrote_digits out written at start n same digits before =
    let e : start ≡ at = omega (arith, same) in
    record {
      octets = sym (take-append-drop start written) ∙ (λ i. before i ++ digits i) ∙ ap (λ k. take k out ++ (decimal n ++ drop (at + length (decimal n)) out)) e;
      place = refl;
    }

-- one piece behind another
pub wrote_both : {x y z a b : List ℕ} {at middle end : ℕ} → at ≤ length x → Wrote x at a y middle → Wrote y middle b z end → Wrote x at (a ++ b) z end
wrote_both {x} {y} {z} {a} {b} {at} {middle} {end} within first second =
    record {
      octets = second.octets ∙ (λ i. put_at (first.octets i) (first.place i) b) ∙ put_put x at within a b;
      place = omega (arith, length-append a b, first.place, second.place);
    }

-- the place behind what was written is within
wrote_within : {x y a : List ℕ} {at middle : ℕ} → at ≤ length x → Wrote x at a y middle → middle ≤ length y
unfolding put_at
wrote_within {x} {y} {a} {at} within first =
    let behind : List ℕ = drop (at + length a) x in
    omega (
      arith,
      ap length first.octets,
      length-append (take at x) (a ++ behind),
      length-append a behind,
      length-take-le at x within,
      first.place,
    )

-- one piece behind another, where the second is written to the front of what lies behind the first
pub wrote_then : {x y part a b : List ℕ} {at middle n : ℕ} → at ≤ length x → Wrote x at a y middle →
    Wrote (part_from middle y) 0 b part n → Wrote x at (a ++ b) (with_part middle y part) (middle + n)
wrote_then within first second = wrote_both within first (wrote_part (wrote_within within first) second)

-- the same text in other words
pub wrote_as : {x y : List ℕ} {at end : ℕ} (a b : List ℕ) → a ≡ b → Wrote x at a y end → Wrote x at b y end
wrote_as {x} {y} {at} {end} a b e w = record { octets = w.octets ∙ ap (put_at x at) e; place = w.place ∙ ap (λ t. at + length t) e }

-- nothing is written
pub wrote_none : (x : List ℕ) (at : ℕ) → Wrote x at [] x at
wrote_none x at = record { octets = sym (put_none x at); place = omega arith }

-- ---- how many digits a number has

decimal_longer : (n : ℕ) → 10 ≤ n → n < 2 ^ 64 → length (decimal n) ≡ length (decimal (n / 10)) + 1
decimal_longer n ten fits = ap length (decimal_step n ten fits) ∙ length_push (decimal (n / 10)) (48 + n % 10)

pub decimal_one : (n : ℕ) → n < 10 → length (decimal n) ≡ 1
decimal_one n h = ap length (decimal_digit n h)

-- a number of more than k digits has k more than what is left without its last k
pub decimal_over : (k n : ℕ) → 10 ^ k ≤ n → n < 2 ^ 64 → length (decimal n) ≡ k + length (decimal (n / 10 ^ k))
decimal_over zero n over fits = sym (zero-add (length (decimal (n / 1))) ∙ ap (λ q. length (decimal q)) (div-one n))
decimal_over (suc k) n over fits =
    let power : 10 ^ suc k ≡ 10 ^ k * 10 = pow-suc 10 k in
    let positive : 0 < 10 ^ k = one-le-pow k 10 (omega arith) in
    let ten : 10 ≤ n = omega arith in
    let rest : 10 ^ k ≤ n / 10 = omega arith in
    let below : n / 10 < 2 ^ 64 = omega arith in
    let whole : n / 10 / 10 ^ k ≡ n / 10 ^ suc k = div-div-eq-div-mul n 10 (10 ^ k) ∙ ap (λ q. n / q) (mul_comm 10 (10 ^ k) ∙ sym power) in
    omega (arith, decimal_longer n ten fits, decimal_over k (n / 10) rest below, ap (λ q. length (decimal q)) whole)

-- a number with one digit more than k
pub decimal_with : (k n : ℕ) → 10 ^ k ≤ n → n < 10 ^ k * 10 → n < 2 ^ 64 → length (decimal n) ≡ k + 1
decimal_with k n over under fits =
    let one : n / 10 ^ k < 10 = (div-lt_iff_lt-mul (one-le-pow k 10 (omega arith))).1 (omega (arith, mul_comm (10 ^ k) 10)) in
    omega (arith, decimal_over k n over fits, decimal_one (n / 10 ^ k) one)

pub decimal_at_most : (n : ℕ) → n < 2 ^ 64 → length (decimal n) ≤ 20
decimal_at_most n fits = length-decimal-le 20 n (omega arith) (omega arith) fits

pub decimal_short : (n : ℕ) → n < 2 ^ 32 → length (decimal n) ≤ 10
decimal_short n fits = length-decimal-le 10 n (omega arith) (omega arith) (omega arith)
