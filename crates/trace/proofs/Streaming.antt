-- A trace that comes in chunks: what is held of a line, and that the cuts between the chunks do not matter.
use Rattle.std.proofs.Common.{◌≡◌, ℕ, ◌+◌, min, true, cond, eqb, List, [], ◌∷◌, ◌++◌, length, take, Err, sym, ap, ◌∙◌, ⊎_elim, arith}
use Rattle.std.proofs.Math.Nat.{min_comm}
use Rattle.std.proofs.Math.Seq.{take-append-add}
use Rattle.std.proofs.lemmas.List.{length-take-le, take_all, take_min}
use Rattle.std.proofs.lemmas.Bool.{cases_lt, lt-ltb, eqb-true}
use Rattle.trace.specs.declared.fault.LineFault.TheVariants.{TooLong}
use Rattle.trace.specs.Cuts.{split}
use Rattle.trace.specs.Lines.{read_line, of_line, read_call}
use Rattle.trace.specs.Streams.{kept}

-- what is held after a part of the line was put behind it
pub held_more : (held part : List ℕ) (room n : ℕ) → room + length held ≡ 81 → n ≡ min (length part) room → held ++ take n part ≡ kept (held ++ part)
held_more held part room n all e =
    ap (λ k. held ++ take k part) (e ∙ min_comm (length part) room)
    ∙ ap (λ r. held ++ r) (take_min room part)
    ∙ sym (take-append-add held part room)
    ∙ ap (λ k. take k (held ++ part)) (let s : length held + room ≡ 81 = omega arith in s)

-- 81 octets say as much as the whole line
pub kept_reads : (line : List ℕ) → read_line (kept line) ≡ read_line line
kept_reads line =
    ⊎_elim
    (λ long.
    let n : length (kept line) ≡ 81 = length-take-le 81 line (omega arith) in
    ap (λ b. cond b (Err TooLong) (of_line (read_call (split 32 (kept line))))) (lt-ltb 80 (length (kept line)) (omega arith))
    ∙ sym (ap (λ b. cond b (Err TooLong) (of_line (read_call (split 32 line)))) (lt-ltb 80 (length line) (omega arith))))
    (λ short. ap read_line (take_all 81 line (omega arith)))
    (cases_lt 80 (length line))

-- where nothing is held the line is what ends it
pub line_alone : (held part : List ℕ) → (eqb (length held) 0) ≡ true → read_line part ≡ read_line (kept (held ++ part))
line_alone [] part none = sym (kept_reads part)
line_alone (c ∷ cs) part none = let no : ⊥ = omega (arith, eqb-true (length (c ∷ cs)) 0 none) in absurd no
