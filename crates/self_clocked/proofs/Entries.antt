-- What entering a packet makes of the line and of its ready line.
use Rattle.std.proofs.Common.{◌≡◌, ℕ, ◌<◌, true, false, cond, ◌⊎◌, List, [], ◌∷◌, length, set, is_some, None, Ok, sym, refl, ap, ◌∙◌, inl, inr, arith}
use Rattle.std.proofs.lemmas.List.{get_or-set_same, get_or-set_other}
use Rattle.std.proofs.lemmas.Bool.{cases_eq, eq-eqb, ne_eqb}
use Rattle.calls.specs.declared.call.Packet.{Packet}
use Rattle.waiting.specs.Queues.{first_of}
use Rattle.ready.specs.Tags.{Tags, add_answer, added}
use Rattle.sharing.specs.Meanings.{Meaning, waiting_in, after_enter}
use Rattle.sharing.specs.Clocked.{with_mark}
use Rattle.sessions.specs.Verdicts.{settled, why_put}
use Rattle.sessions.proofs.Using.{Puttable, put_parts}
use Rattle.self_clocked.specs.Exact.{first_marks, entered_at}
use Rattle.self_clocked.specs.States.{last_in}
use Rattle.self_clocked.specs.Keeps.{first_added, first_ready, later_ready}

last_set : (lasts : List ℕ) (s mark : ℕ) → s < length lasts → last_in (set lasts s mark) ≡ with_mark (last_in lasts) s mark
last_set lasts s mark inside = λ i n. at_session n (cases_eq n s) i
  where
    at_session : (n : ℕ) → (n ≡ s) ⊎ (n ≡ s → ⊥) → last_in (set lasts s mark) n ≡ with_mark (last_in lasts) s mark n
    at_session n (inl e) =
        ap (last_in (set lasts s mark)) e ∙ get_or-set_same lasts s mark 0 inside ∙ ap (λ b. cond b mark (last_in lasts n)) (sym (eq-eqb s n (sym e)))
    at_session n (inr ne) = get_or-set_other lasts s n mark 0 ne ∙ ap (λ b. cond b mark (last_in lasts n)) (sym (ne_eqb s n (λ e. ne (sym e))))

-- m is what the sessions meant, and y what they mean after the packet was put
module _ (m y : Meaning) (s : ℕ) (p : Packet) (put : y ≡ settled (why_put m s) m (after_enter m s p)) where
  put_is : why_put m s ≡ None → y ≡ after_enter m s p
  put_is none = put ∙ ap (λ o. settled o m (after_enter m s p)) none

  pub entered_state : (clock : ℕ) (lasts : List ℕ) → length lasts ≡ 64 → why_put m s ≡ None →
      record { meaning = y; clock = clock; last = last_in (set lasts s p.mark) } ≡
      entered_at (record { meaning = m; clock = clock; last = last_in lasts }) s p
  entered_state clock lasts long none =
      let inside : s < length lasts = omega (arith, (put_parts m s none).session) in
      λ i. record { meaning = put_is none i; clock = clock; last = last_set lasts s p.mark inside i }

  -- a packet of the session waited
  pub entered_later : (tags : Tags) → is_some (first_of (waiting_in m s)) ≡ true → tags ≡ first_marks m → why_put m s ≡ None → tags ≡ first_marks y
  entered_later tags some ready none =
      later (waiting_in m s) refl some (put_parts m s none) ∙ ap first_marks (sym (put_is none))
    where
      later : (ps : List Packet) → waiting_in m s ≡ ps → is_some (first_of ps) ≡ true → Puttable m s → tags ≡ first_marks (after_enter m s p)
      later [] is e o = let z : ◌≡◌ {A = ℕ} 0 1 = cc in let no : ⊥ = omega arith in absurd no
      later (q ∷ qs) is e o = later_ready tags m s p o.session o.is_open ready q qs is

  no_first : (ps : List Packet) → is_some (first_of ps) ≡ false → ps ≡ []
  no_first [] e = refl
  no_first (q ∷ qs) e = let z : ◌≡◌ {A = ℕ} 0 1 = cc in let no : ⊥ = omega arith in absurd no

  -- none did
  pub entered_answer : (tags : Tags) → is_some (first_of (waiting_in m s)) ≡ false → tags ≡ first_marks m → why_put m s ≡ None → add_answer tags s ≡ Ok tt
  entered_answer tags first ready none =
      let o = put_parts m s none in
      first_added tags m s p o.session o.is_open ready (no_first (waiting_in m s) first)

  pub entered_first : (tags : Tags) → is_some (first_of (waiting_in m s)) ≡ false → tags ≡ first_marks m → why_put m s ≡ None →
      added tags p.mark s ≡ first_marks y
  entered_first tags first ready none =
      let o = put_parts m s none in
      first_ready tags m s p o.session o.is_open ready (no_first (waiting_in m s) first) ∙ ap first_marks (sym (put_is none))
