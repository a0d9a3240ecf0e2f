-- Laws of a table of bands in which each band begins where the band before it ends.
-- Assumes nothing.
use mathlib.Core.Bool.{Bool, true, false, ◌&&◌, cond}
use mathlib.Core.List.{List, [], ◌∷◌}
use mathlib.Core.Path.{◌≡◌, refl}
use Prim.Native.Nat.{ℕ, zero, suc, ◌+◌, ◌≤◌, ◌<◌}
use native.Mathlib.Nat.{le_refl, le_of_suc-le-suc, not-suc-le-zero}
use native.Mathlib.Omega.{arith}
use lib.Dec.{T, leb, ltb, eqb, ltb→lt, eqb→eq}
use lib.ListN.{length, get_or, drop}
use borrow.Author.Tests.{leb-true, leb-false, le-leb, lt-leb}
use Rattle.ladder.specs.declared.Band.{Band}
use Rattle.ladder.specs.Ladder.{last_band, position_in, price_in}
use Rattle.ladder.proofs.Step as step
use Rattle.ladder.proofs.Table.{both_left, both_right}

-- b has a step, and c begins after b, at the price that b's steps reach
abbrev pub meets : Band → Band → Bool
meets b c = ltb 0 b.step && ltb b.first c.first && eqb c.from (price_in b c.first)

-- the test of a whole table, which antt computes
abbrev pub chained : Band → List Band → Bool
chained b [] = ltb 0 b.step
chained b (c ∷ cs) = meets b c && chained c cs

pub record Meets (b c : Band) : Type 0 where
  pub steps : 0 < b.step
  pub later : b.first < c.first
  pub from : c.from ≡ price_in b c.first

pub data Chained : Band → List Band → Type 0 where
  last : {b : Band} → 0 < b.step → Chained b []
  next : {b c : Band} {cs : List Band} → Meets b c → Chained c cs → Chained b (c ∷ cs)

pub tested : (b : Band) (cs : List Band) → T (chained b cs) → Chained b cs
tested b [] t = last (ltb→lt 0 b.step t)
tested b (c ∷ cs) t =
    let here = both_left (meets b c) (chained c cs) t in
    let two = both_left (ltb 0 b.step && ltb b.first c.first) (eqb c.from (price_in b c.first)) here in
    next
    (record {
      steps = ltb→lt 0 b.step (both_left (ltb 0 b.step) (ltb b.first c.first) two);
      later = ltb→lt b.first c.first (both_right (ltb 0 b.step) (ltb b.first c.first) two);
      from = eqb→eq c.from (price_in b c.first) (both_right (ltb 0 b.step && ltb b.first c.first) (eqb c.from (price_in b c.first)) here);
    })
    (tested c cs (both_right (meets b c) (chained c cs) t))

-- what holds of the band that a search stops at: of b where the next begins after n, and of what the search finds further on where it does not
split : (P : Band → Type 0) (b d : Band) (t : Bool) → (t ≡ true → P d) → (t ≡ false → P b) → P (cond t d b)
split P b d true further here = further refl
split P b d false further here = here refl

pub has-step : (key : Band → ℕ) (n : ℕ) {b : Band} {cs : List Band} → Chained b cs → 0 < (last_band key n b cs).step
unfolding last_band
has-step key n (last steps) = steps
has-step key n (next {b = b} {c = c} {cs = cs} m rest) =
    let further = has-step key n rest in
    split (λ d. 0 < d.step) b (last_band key n c cs) (leb (key c) n) (λ _. further) (λ _. m.steps)

pub begins-by : (key : Band → ℕ) (n : ℕ) (b : Band) (cs : List Band) → key b ≤ n → key (last_band key n b cs) ≤ n
unfolding last_band
begins-by key n b [] h = h
begins-by key n b (c ∷ cs) h =
    let further = begins-by key n c cs in
    split (λ d. key d ≤ n) b (last_band key n c cs) (leb (key c) n) (λ t. further (leb-true (key c) n t)) (λ _. h)

-- the price at a position, by a table that may be any chain
abbrev pub price_by : Band → List Band → ℕ → ℕ
price_by b cs k = price_in (last_band (λ d. d.first) k b cs) k

pub starts : (k : ℕ) {b : Band} {cs : List Band} → Chained b cs → b.first ≤ k → b.from ≤ price_by b cs k
unfolding last_band
starts k (last steps) h = omega arith
starts k (next {b = b} {c = c} {cs = cs} m rest) h =
    let further = starts k rest in
    split (λ d. b.from ≤ price_in d k) b (last_band (λ d. d.first) k c cs) (leb c.first k)
    (λ t. let later : c.from ≤ price_by c cs k = further (leb-true c.first k t) in omega (arith, m.from))
    (λ _. omega arith)

pub price-grows : (j k : ℕ) {b : Band} {cs : List Band} → Chained b cs → b.first ≤ j → j < k → price_by b cs j < price_by b cs k
unfolding last_band
price-grows j k (last {b = b} steps) h less = step.price-grows b steps j k h less
price-grows j k (next {b = b} {c = c} {cs = cs} m rest) h less =
    let further = price-grows j k rest in
    let begins = starts k rest in
    split (λ d. price_in (cond (leb c.first j) (last_band (λ e. e.first) j c cs) b) j < price_in d k) b (last_band (λ e. e.first) k c cs) (leb c.first k)
    (λ tk.
    let reached : c.from ≤ price_by c cs k = begins (leb-true c.first k tk) in
    split (λ d. price_in d j < price_by c cs k) b (last_band (λ e. e.first) j c cs) (leb c.first j)
    (λ tj. further (leb-true c.first j tj) less)
    (λ tj.
    let below : price_in b j < price_in b c.first = step.price-grows b m.steps j c.first h (leb-false c.first j tj) in
    omega (arith, m.from)))
    (λ tk.
    let before : k < c.first = leb-false c.first k tk in
    rw (lt-leb c.first j (omega arith)) (step.price-grows b m.steps j k h less))

pub band-of-price : (k : ℕ) {b : Band} {cs : List Band} → Chained b cs → b.first ≤ k
    → last_band (λ d. d.from) (price_by b cs k) b cs ≡ last_band (λ d. d.first) k b cs
unfolding last_band
band-of-price k (last steps) h = refl
band-of-price k (next {b = b} {c = c} {cs = cs} m rest) h =
    let further = band-of-price k rest in
    let begins = starts k rest in
    split (λ d. cond (leb c.from (price_in d k)) (last_band (λ e. e.from) (price_in d k) c cs) b ≡ d) b (last_band (λ e. e.first) k c cs) (leb c.first k)
    (λ t.
    let reached : c.first ≤ k = leb-true c.first k t in
    rw (le-leb c.from (price_by c cs k) (begins reached)) (further reached))
    (λ t.
    let below : price_in b k < price_in b c.first = step.price-grows b m.steps k c.first h (leb-false c.first k t) in
    rw (lt-leb c.from (price_in b k) (omega (arith, m.from))))

pub position-starts : (p : ℕ) {b : Band} {cs : List Band} → Chained b cs → b.from ≤ p → b.first ≤ position_in (last_band (λ d. d.from) p b cs) p
unfolding last_band
position-starts p (last steps) h = omega arith
position-starts p (next {b = b} {c = c} {cs = cs} m rest) h =
    let further = position-starts p rest in
    split (λ d. b.first ≤ position_in d p) b (last_band (λ d. d.from) p c cs) (leb c.from p)
    (λ t. let later : c.first ≤ position_in (last_band (λ d. d.from) p c cs) p = further (leb-true c.from p t) in omega (arith, m.later))
    (λ _. omega arith)

pub band-of-position : (p : ℕ) {b : Band} {cs : List Band} → Chained b cs → b.from ≤ p
    → last_band (λ d. d.first) (position_in (last_band (λ d. d.from) p b cs) p) b cs ≡ last_band (λ d. d.from) p b cs
unfolding last_band
band-of-position p (last steps) h = refl
band-of-position p (next {b = b} {c = c} {cs = cs} m rest) h =
    let further = band-of-position p rest in
    split (λ d. cond (leb c.first (position_in d p)) (last_band (λ e. e.first) (position_in d p) c cs) b ≡ d) b (last_band (λ e. e.from) p c cs) (leb c.from p)
    (λ t.
    let reached : c.from ≤ p = leb-true c.from p t in
    rw (le-leb c.first (position_in (last_band (λ e. e.from) p c cs) p) (position-starts p rest reached)) (further reached))
    (λ t.
    let below : p < price_in b c.first = omega (arith, m.from, leb-false c.from p t) in
    rw (lt-leb c.first (position_in b p) (step.position-below b m.steps p c.first h (omega (arith, m.later)) below)))

-- the next position's price is above, in the price's own band or as the first of a later one
pub below_next : (p : ℕ) {b : Band} {cs : List Band} → Chained b cs → b.from ≤ p → p < price_by b cs (position_in (last_band (λ d. d.from) p b cs) p + 1)
unfolding last_band
below_next p (last {b = b} steps) h = step.below_next b steps p h
below_next p (next {b = b} {c = c} {cs = cs} m rest) h =
    let further = below_next p rest in
    split (λ d. p < price_in (cond (leb c.first (position_in d p + 1)) (last_band (λ e. e.first) (position_in d p + 1) c cs) b) (position_in d p + 1)) b (last_band (λ e. e.from) p c cs) (leb c.from p)
    (λ t.
    let reached : c.from ≤ p = leb-true c.from p t in
    let later = position-starts p rest reached in
    rw (le-leb c.first (position_in (last_band (λ e. e.from) p c cs) p + 1) (omega (arith, later))) (further reached))
    (λ t.
    let before : p < c.from = leb-false c.from p t in
    let k = position_in b p + 1 in
    split (λ d. p < price_in d k) b (last_band (λ e. e.first) k c cs) (leb c.first k)
    (λ tk. omega (arith, starts k rest (leb-true c.first k tk), before))
    (λ _. step.below_next b m.steps p h))

-- Where the search stops, by a key that grows from band to band: at the i-th band, if that begins at n or below and the next one above n.
module _ (key : Band → ℕ) where
  -- the i-th band begins at n or below; of the first nothing is asked
  abbrev pub begun : ℕ → List Band → ℕ → Band → Type 0
  begun n bs zero d = Unit {0}
  begun n bs (suc i) d = key (get_or bs (suc i) d) ≤ n

  -- the next band, if there is one, begins above n
  abbrev pub ended : ℕ → List Band → Type 0
  ended n [] = Unit {0}
  ended n (c ∷ cs) = n < key c

  weaken : (n : ℕ) (bs : List Band) (i : ℕ) (d : Band) → key (get_or bs i d) ≤ n → begun n bs i d
  weaken n bs zero d h = tt
  weaken n bs (suc i) d h = h

module _ (key : Band → ℕ) (grows : (b c : Band) → Meets b c → key b ≤ key c) where
  first-least : (d : Band) {b : Band} {cs : List Band} → Chained b cs → (i : ℕ) → i ≤ length cs → key b ≤ key (get_or (b ∷ cs) i d)
  first-least d (last steps) zero h = le_refl _
  first-least d (last steps) (suc i) h = absurd (not-suc-le-zero h)
  first-least d (next m rest) zero h = le_refl _
  first-least d (next {b = b} {c = c} m rest) (suc i) h =
      let further = first-least d rest i (le_of_suc-le-suc h) in
      omega (arith, grows b c m)

  pub stops_at : (n : ℕ) (d : Band) {b : Band} {cs : List Band} → Chained b cs → (i : ℕ) → i ≤ length cs
      → begun key n (b ∷ cs) i d → ended key n (drop i cs) → last_band key n b cs ≡ get_or (b ∷ cs) i d
  unfolding last_band
  stops_at n d (last steps) zero h begins ends = refl
  stops_at n d (last steps) (suc i) h begins ends = absurd (not-suc-le-zero h)
  stops_at n d (next {b = b} {c = c} {cs = cs} m rest) zero h begins ends = rw (lt-leb (key c) n ends)
  stops_at n d (next {b = b} {c = c} {cs = cs} m rest) (suc i) h begins ends =
      let within = le_of_suc-le-suc h in
      let further = stops_at n d rest i within (weaken key n (c ∷ cs) i d begins) ends in
      rw (le-leb (key c) n (omega (arith, first-least d rest i within))) further

pub from-grows : (b c : Band) → Meets b c → b.from ≤ c.from
from-grows b c m = omega (arith, m.from)

pub first-grows : (b c : Band) → Meets b c → b.first ≤ c.first
first-grows b c m = omega (arith, m.later)
