-- Every run of a self-clocked line: what its history says of its state, and the statements on shares.
use Rattle.std.proofs.Common.{◌≡◌, ℕ, ◌<◌, [], ◌∷◌, ◌++◌, length, Option, sym, refl, ap, ◌∙◌, subst, arith}
use Rattle.std.proofs.lemmas.List.{length-append}
use Rattle.calls.specs.declared.call.Call.{Call}
use Rattle.calls.specs.Answers.{Answer}
use Rattle.sharing.specs.Histories.{History, finished, Backlogged, BackloggedThroughout, Terms, terms_of, latest, opened_by}
use Rattle.sharing.specs.Meanings.{nothing_open}
use Rattle.sharing.specs.Clocked.{Clocked, New, ClockedStep}
use Rattle.sharing.specs.Runs.{Led}
use Rattle.sharing.specs.Statements.{PairwiseFairness, GuaranteedShare, OrderPreserved, Fair, EveryClockedRunShares}
use Rattle.sharing.proofs.Pending.{agrees}
use Rattle.sharing.proofs.Steps.{view, Sound, sound_step}
use Rattle.sharing.proofs.Runs.{led_along, led_before}
use Rattle.sharing.proofs.Orders.{order_step}
use Rattle.sharing.proofs.Stretches.{Stretch, still, further, stretch_sound}
use Rattle.sharing.proofs.Comparisons.{Compared, is_open, compare, sent_sum, weight_counted, most_counted, share}

-- ---- what a history says of the state that it led to

pub record Follows (h : History) (x : Clocked) : Type 0 where
  pub sound : Sound x
  pub order : OrderPreserved h x.meaning
  pub opened : (s : ℕ) → terms_of s h ≡ (view s x).terms

pub follows_new : (x : Clocked) → New x → Follows [] x
follows_new x new =
    let to : x ≡ record { meaning = nothing_open; clock = 0; last = λ s. 0 } =
    λ i. record { meaning = new.meaning i; clock = new.clock i; last = new.last i }
    in
    let good : Follows [] (record { meaning = nothing_open; clock = 0; last = λ s. 0 }) =
    record {
      sound = record {
        each = λ s.
            record {
              number = λ k. let no : ⊥ = omega arith in absurd no;
              fits = omega arith;
              weighs = tt;
              empty = λ k. refl;
              tag = 0;
              tagged = (refl, omega arith);
            };
        held = tt;
      };
      order = λ s. refl;
      opened = λ s. refl;
    }
    in
    subst (Follows []) (sym to) good

pub follows_step : (h : History) (x y : Clocked) (c : Call) (a : Answer) → Follows h x → ClockedStep x c a y →
    Follows (record { call = c; answer = a } ∷ h) y
follows_step h x y c a before step =
    record {
      sound = sound_step x y before.sound step;
      order = order_step h x.meaning y.meaning step.why c a step.allowed step.general before.order;
      opened = λ s. ap (latest (opened_by s c a)) (before.opened s) ∙ agrees x.meaning step.why y.meaning step.general s;
    }

pub follows : (h : History) (x : Clocked) → Led New ClockedStep h x → Follows h x
follows [] x new = follows_new x new
follows (e ∷ h) x led = follows_step h led.0 x e.call e.answer (follows h led.0 led.1) led.2

-- a backlogged session has packets pending
backlogged_pending : (s : ℕ) (h : History) (x : Clocked) → Follows h x → Backlogged s h → 0 < length (view s x).pending
backlogged_pending s h x f more = omega (arith, ap length (f.order s), length-append (finished s h) (view s x).pending)

-- a run over later ++ before in which session i is backlogged from `before` on is a run over `before` and a stretch
pub stretch : (i : ℕ) (later before : History) (x : Clocked) → Led New ClockedStep (later ++ before) x → BackloggedThroughout i later before →
    (y : Clocked) × Led New ClockedStep before y × Stretch i y later x
stretch i [] before x led has = (x, led, still (backlogged_pending i before x (follows before x led) has))
stretch i (e ∷ later) before x led has =
    let r = stretch i later before led.0 led.1 has.1 in
    (r.0, r.1, further r.2 led.2 (backlogged_pending i (e ∷ (later ++ before)) x (follows (e ∷ (later ++ before)) x led) has.0))

-- ---- the statements

module _ (later before : History) (x : Clocked) (led : Led New ClockedStep (later ++ before) x) where
  history_compare : (i : ℕ) → BackloggedThroughout i later before → Compared (λ s. terms_of s (later ++ before)) i later
  history_compare i has =
      let r = stretch i later before x led has in
      let same : (λ s. (view s x).terms) ≡ (λ s. terms_of s (later ++ before)) = λ j s. sym ((follows (later ++ before) x led).opened s) j in
      subst (λ terms. Compared terms i later) same (compare i r.0 x later (follows before r.0 r.1).sound r.2)

  pub pairwise_fairness : PairwiseFairness later before
  pairwise_fairness i j i-has j-has = omega (arith, history_compare j j-has i)

  pub guaranteed_share : GuaranteedShare later before
  guaranteed_share i has =
      let r = stretch i later before x led has in
      let sound = (follows before r.0 r.1).sound in
      let number : i < 64 = ((stretch_sound i sound r.2).each i).number (is_open i r.0 x later sound r.2) in
      let terms : ℕ → Option Terms = λ s. terms_of s (later ++ before) in
      record {
        weight_counted = weight_counted terms i later number;
        most_counted = most_counted terms i later number;
        share = share terms i later number (sent_sum i sound r.2) (history_compare i has);
      }

pub clocked_runs_share : EveryClockedRunShares
clocked_runs_share h x led =
    let run : History → Type 0 = λ k. Led New ClockedStep k x in
    record {
      shares = record {
        pairwise = λ since later before cut.
            let at = led_before New ClockedStep since (later ++ before) x (subst run cut led) in pairwise_fairness later before at.0 at.1;
        guaranteed = λ since later before cut.
            let at = led_before New ClockedStep since (later ++ before) x (subst run cut led) in guaranteed_share later before at.0 at.1;
      };
      order = (follows h x led).order;
    }

-- the same of any state that has a clock and marks and whose steps are self-clocked ones
pub runs_share : {X : Type 0} (fresh sound : X → Type 0) (steps : X → Call → Answer → X → Type 0) (clocked : X → Clocked) →
    ((x : X) → fresh x → sound x) → ((x y : X) (c : Call) (a : Answer) → sound x → steps x c a y → sound y) →
    ((x : X) → fresh x → New (clocked x)) →
    ((x y : X) (c : Call) (a : Answer) → sound x → steps x c a y → ClockedStep (clocked x) c a (clocked y)) →
    (h : History) (x : X) → Led fresh steps h x → Fair h (clocked x).meaning
runs_share fresh sound steps clocked begins keeps starts moves h x led =
    clocked_runs_share h (clocked x) (led_along fresh steps New ClockedStep clocked sound begins keeps starts moves h x led)
