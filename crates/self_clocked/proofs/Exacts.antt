-- A run by the exact rule is a run of self-clocked steps, and so it is fair.
use Rattle.std.proofs.Common.{◌≡◌, ℕ, ◌<◌, List, ◌∷◌, length, ap, arith}
use Rattle.std.proofs.lemmas.List.{length-append}
use Rattle.calls.specs.declared.call.Packet.{Packet}
use Rattle.calls.specs.declared.call.Call.{Call}
use Rattle.calls.specs.Answers.{Answer}
use Rattle.sharing.specs.Histories.{History}
use Rattle.sharing.specs.Meanings.{waiting_in, in_service_of}
use Rattle.sharing.specs.Clocked.{Clocked, New, ClockedStep}
use Rattle.sharing.specs.Runs.{Led}
use Rattle.sharing.specs.Statements.{Fair}
use Rattle.sharing.proofs.Views.{open_has}
use Rattle.sharing.proofs.Steps.{view, Sound, sound_step}
use Rattle.sharing.proofs.Runs.{led_along, led_keeps}
use Rattle.sharing.proofs.Fairness.{follows_new, clocked_runs_share}
use Rattle.self_clocked.specs.Exact.{Exact}
use Rattle.self_clocked.specs.Steps.{exact_clocked}

-- a session with a waiting packet is one of the 64
pub sound_waits : (x : Clocked) → Sound x → (s : ℕ) (first : Packet) (rest : List Packet) → waiting_in x.meaning s ≡ first ∷ rest → s < 64
sound_waits x ok s first rest is =
    let good = ok.each s in
    let some : 0 < length (view s x).pending =
    omega (arith, ap length is, length-append (in_service_of x.meaning s) (waiting_in x.meaning s)) in
    good.number (open_has s (view s x) good some)

new_sound : (x : Clocked) → New x → Sound x
new_sound x new = (follows_new x new).sound

pub exact_keeps : (x y : Clocked) (c : Call) (a : Answer) → Sound x → Exact x c a y → Sound y
exact_keeps x y c a ok e = sound_step x y ok (exact_clocked x (sound_waits x ok) y c a e)

pub exact_sound : (h : History) (x : Clocked) → Led New Exact h x → Sound x
exact_sound h x led = led_keeps New Exact Sound new_sound exact_keeps h x led

pub exact_fair : (h : History) (x : Clocked) → Led New Exact h x → Fair h x.meaning
exact_fair h x led =
    clocked_runs_share h x
    (led_along New Exact New ClockedStep (λ y. y) Sound new_sound exact_keeps (λ y new. new)
    (λ y z c a ok e. exact_clocked y (sound_waits y ok) z c a e) h x led)
