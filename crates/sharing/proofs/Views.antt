-- A self-clocked step as one session sees it: what it sees before and after, and which of its packets the step finished.
use Rattle.std.proofs.Common.{◌≡◌, ℕ, zero, suc, ◌+◌, ◌*◌, ◌<◌, ◌≤◌, Bool, true, false, List, [], ◌∷◌, ◌++◌, length, Some, None, Option, refl, ap, arith}
use Rattle.calls.specs.Strides.{charge, stride}
use Rattle.calls.specs.declared.call.Packet.{Packet}
use Rattle.sharing.specs.Histories.{Terms, charges, weight_in, most_in}
use Rattle.sharing.specs.Rules.{mark_after}
use Rattle.sharing.proofs.Tags.{Tagged, Ahead, tag_push, tag_rise, tag_end}

pub record View : Type 0 where
  pub clock : ℕ
  pub terms : Option Terms
  pub last : ℕ
  -- the packet in service, and then those that wait
  pub pending : List Packet

abbrev pub weight : View → ℕ
weight a = weight_in a.terms

abbrev pub most : View → ℕ
most a = most_in a.terms

abbrev pub Tag : View → ℕ → Type 0
Tag a t = Tagged a.clock (stride (weight a)) (most a) a.last a.pending t

abbrev pub Weighs : Option Terms → Type 0
Weighs None = Unit {0}
Weighs (Some terms) = 0 < terms.weight

-- what always holds of the view of session s
pub record Good (s : ℕ) (a : View) : Type 0 where
  pub number : 0 < weight a → s < 64
  pub fits : weight a ≤ 16
  pub weighs : Weighs a.terms
  pub empty : weight a ≡ 0 → a.pending ≡ []
  pub tag : ℕ
  pub tagged : Tag a tag

pub unweighed : (o : Option Terms) → Weighs o → weight_in o ≡ 0 → most_in o ≡ 0
unweighed None w e = refl
unweighed (Some terms) w e = omega arith

pub weighed : (o : Option Terms) (t : Terms) → Weighs o → o ≡ Some t → 0 < weight_in o
weighed None t w e = let z : ◌≡◌ {A = ℕ} 0 1 = cc in omega arith
weighed (Some u) t w e = w

-- a session with something pending is open
pub open_has : (s : ℕ) (a : View) → Good s a → 0 < length a.pending → 0 < weight a
open_has s a good k = go (weight a) refl
  where
    go : (w : ℕ) → weight a ≡ w → 0 < weight a
    go zero z = omega (arith, ap length (good.empty z))
    go (suc w) z = omega arith

-- false: packets go on to wait; true: none is left, and the clock goes back to 0
pub data Changes (s : ℕ) : Bool → View → View → List Packet → Type 0 where
  stays : {a : View} → Changes s false a a []
  opens :
      {a : View} {terms : Terms} → s < 64 → 0 < terms.weight → terms.weight ≤ 16 → a.terms ≡ None → a.pending ≡ [] →
      Changes s false a (record { clock = a.clock; terms = Some terms; last = a.last; pending = a.pending }) []
  enters :
      {a : View} (p : Packet) → 0 < weight a → p.mark ≡ mark_after a.last a.clock p.length (weight a) → charge p.length ≤ most a →
      Changes s false a (record { clock = a.clock; terms = a.terms; last = p.mark; pending = a.pending ++ (p ∷ []) }) []
  rises :
      {a : View} {v : ℕ} → a.clock ≤ v → Ahead v a.pending →
      Changes s false a (record { clock = v; terms = a.terms; last = a.last; pending = a.pending }) []
  ends :
      {a : View} {p : Packet} {ps : List Packet} → a.pending ≡ p ∷ ps → p.mark ≡ a.clock →
      Changes s false a (record { clock = a.clock; terms = a.terms; last = a.last; pending = ps }) (p ∷ [])
  clears : {a : View} → Changes s true a (record { clock = 0; terms = a.terms; last = 0; pending = [] }) a.pending

-- g is the stride of the weight w, if that is the weight of an open session
abbrev pub Agrees : ℕ → ℕ → Type 0
Agrees g w = 0 < w → g ≡ stride w

-- from a tag t to a tag u while these packets are finished
pub record Gains (g t u : ℕ) (before finished : List Packet) : Type 0 where
  pub least : t + charges finished * g ≤ u
  pub exact : 0 < length before → u ≡ t + charges finished * g

-- while packets go on to wait, the tag gains what is finished times the stride
pub gain : (s : ℕ) {a b : View} {finished : List Packet} → Changes s false a b finished → Good s a → (t : ℕ) → Tag a t →
    (u : ℕ) × Tag b u × ((g : ℕ) → Agrees g (weight b) → Gains g t u a.pending finished)
gain s stays good t h = (t, h, λ g ag. record { least = omega arith; exact = λ k. omega arith })
gain s (opens {a} {terms} n p f z e) good t h =
    let free : Tagged a.clock (stride (weight a)) (most a) a.last [] t = rw e at h in
    let still : Tagged a.clock (stride terms.weight) (charge terms.limit) a.last [] t = free in
    (t, rw e still, λ g ag. record { least = omega arith; exact = λ k. omega arith })
gain s (enters {a} p o m f) good t h = (
  t,
  tag_push a.clock (stride (weight a)) (most a) a.last t a.pending p h m f,
  λ g ag. record { least = omega arith; exact = λ k. omega arith },
)
gain s (rises {a} {v} up ahead) good t h =
    let r = tag_rise a.clock (stride (weight a)) (most a) a.last t v a.pending h up ahead in
    (r.0, r.1, λ g ag. record { least = omega (arith, r.2); exact = λ k. omega (arith, r.3 k) })
gain s (ends {a} {p} {ps} e m) good t h =
    let here : Tagged a.clock (stride (weight a)) (most a) a.last (p ∷ ps) t = rw e at h in
    let w = open_has s a good (omega (arith, ap length e)) in (
      t + charge p.length * stride (weight a),
      tag_end a.clock (stride (weight a)) (most a) a.last t p ps here m,
      λ g ag. rw (ag w) (record { least = omega arith; exact = λ k. omega arith }),
    )

-- the view stays good
pub keeps : (s : ℕ) {idle : Bool} {a b : View} {finished : List Packet} → Changes s idle a b finished → Good s a → Good s b
keeps s stays good = good
keeps s (opens {a} {terms} n p f z e) good =
    let r = gain s (opens {terms = terms} n p f z e) good good.tag good.tagged in
    record { number = λ k. n; fits = f; weighs = p; empty = λ k. e; tag = r.0; tagged = r.1 }
keeps s (enters {a} p o m f) good =
    let shut : weight a ≡ 0 → ⊥ = λ k. omega arith in
    let r = gain s (enters p o m f) good good.tag good.tagged in
    record { number = good.number; fits = good.fits; weighs = good.weighs; empty = λ k. absurd (shut k); tag = r.0; tagged = r.1 }
keeps s (rises up ahead) good =
    let r = gain s (rises up ahead) good good.tag good.tagged in
    record { number = good.number; fits = good.fits; weighs = good.weighs; empty = good.empty; tag = r.0; tagged = r.1 }
keeps s (ends {a} {p} {ps} e m) good =
    let r = gain s (ends e m) good good.tag good.tagged in
    let w = open_has s a good (omega (arith, ap length e)) in
    let shut : weight a ≡ 0 → ⊥ = λ k. omega arith in
    record { number = good.number; fits = good.fits; weighs = good.weighs; empty = λ k. absurd (shut k); tag = r.0; tagged = r.1 }
keeps s clears good =
    record { number = good.number; fits = good.fits; weighs = good.weighs; empty = λ k. refl; tag = 0; tagged = (refl, omega arith) }

-- an open session keeps its terms
pub stays_open : (s : ℕ) {idle : Bool} {a b : View} {finished : List Packet} → Changes s idle a b finished → 0 < weight a → b.terms ≡ a.terms
stays_open s stays k = refl
stays_open s (opens {a} n p f z e) k = let no : ⊥ = omega (arith, ap weight_in z) in absurd no
stays_open s (enters p o m f) k = refl
stays_open s (rises up ahead) k = refl
stays_open s (ends e m) k = refl
stays_open s clears k = refl

pub cleared : (s : ℕ) {a b : View} {finished : List Packet} → Changes s true a b finished → b.pending ≡ []
cleared s clears = refl
