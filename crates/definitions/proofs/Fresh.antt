-- A fresh state is well formed, and is at first what the lone run holds.
-- Assumes nothing.
use mathlib.Core.Bool.{true}
use mathlib.Core.List.{List, ◌++◌, append_assoc, ◌∷◌}
use mathlib.Core.Path.{◌≡◌, refl, ap, sym, ◌∙◌}
use Prim.Native.Nat.{ℕ, zero, suc, ◌+◌, ◌-◌, ◌*◌, ◌<◌}
use native.Mathlib.Nat.{le_of_suc-le-suc, not-suc-le-zero}
use native.Mathlib.Omega.{arith}
use lib.Dec.{lit≤}
use lib.ListN.{length, take, drop, replicate, length-append, length-replicate, replicate-append-replicate}
use lib.Seq.{take_at, drop_at, drop-drop, drop-append-add}
use Rattle.definitions.specs.declared.Header.{Header}
use Rattle.definitions.specs.Lists.{part, repeat}
use Rattle.definitions.specs.State.{header_of, security_place, desk_place, sizes_fit, fresh_market, fresh, security_of, security_at, row_of, rows_of, desk_of, desk_at, security_size, desk_size, header_size}
use Rattle.definitions.specs.Desks.{fresh_desk}
use Rattle.definitions.specs.Lone.{market_words}
use Rattle.definitions.proofs.SoundDesk.{sound-fresh-desk}
use Rattle.definitions.proofs.WellFormed.{Good}
use Rattle.definitions.specs.Sound.{sound_security}

length-repeated : (m : ℕ) (xs : List ℕ) → length xs ≡ security_size → length (repeat m xs) ≡ security_size * m
unfolding repeat
length-repeated zero xs h = refl
length-repeated (suc m) xs h = length-append xs (repeat m xs) ∙ omega (arith, length-repeated m xs h)

repeat-part : (s m : ℕ) (xs ys : List ℕ) → length xs ≡ security_size → s < m → take security_size (drop (security_size * s) (repeat m xs ++ ys)) ≡ xs
unfolding repeat
repeat-part s zero xs ys h less = absurd (not-suc-le-zero less)
repeat-part zero (suc m) xs ys h less = rw (append_assoc xs (repeat m xs) ys) (take_at xs (repeat m xs ++ ys) security_size h)
repeat-part (suc s) (suc m) xs ys h less =
    let place : security_size * suc s ≡ security_size + security_size * s = omega arith in
    rw (append_assoc xs (repeat m xs) ys, place, ← (drop-drop (security_size * s) security_size (xs ++ (repeat m xs ++ ys))), drop_at xs (repeat m xs ++ ys) security_size h)
    (repeat-part s m xs ys h (le_of_suc-le-suc less))

abbrev zeros : ℕ → List ℕ
zeros n = replicate n 0

zeros-part : (k m : ℕ) → k < m → take desk_size (drop (desk_size * k) (zeros (desk_size * m))) ≡ zeros desk_size
zeros-part k m less =
    let rest = desk_size * m - desk_size * k - desk_size in
    let all : desk_size * m ≡ desk_size * k + (desk_size + rest) = omega arith in
    rw
    (all, ← (replicate-append-replicate {A = ℕ} (desk_size * k) (desk_size + rest) 0), drop_at (zeros (desk_size * k)) (zeros (desk_size + rest)) (desk_size * k) (length-replicate {A = ℕ} (desk_size * k) 0), ← (replicate-append-replicate {A = ℕ} desk_size rest 0))
    (take_at (zeros desk_size) (zeros rest) desk_size (length-replicate {A = ℕ} desk_size 0))

-- a security's words: "every lot 100 and zeros elsewhere"
abbrev pub fresh_security : List ℕ
fresh_security = 100 ∷ zeros (security_size - 1)

module _ (customers securities : ℕ) where
  length-market : length (fresh_market customers securities) ≡ security_place securities
  unfolding fresh_market
  length-market = omega (arith, length-repeated securities fresh_security refl)

  length-fresh : length (fresh customers securities) ≡ desk_place securities customers
  unfolding fresh
  length-fresh =
      length-append (fresh_market customers securities) (zeros (desk_size * customers))
      ∙ omega (arith, length-market, length-replicate {A = ℕ} (desk_size * customers) 0)

  pub fresh-security : (s : ℕ) → s < securities → security_at (fresh customers securities) s ≡ security_of fresh_security
  unfolding security_at part fresh fresh_market
  fresh-security s below =
      ap (λ (v : List ℕ). security_of (take security_size v)) (sym (drop-drop (security_size * s) header_size (fresh customers securities)))
      ∙ ap security_of (repeat-part s securities fresh_security (zeros (desk_size * customers)) refl below)

  sound-fresh-security : sound_security (security_of fresh_security) ≡ true
  unfolding sound_security security_of
  sound-fresh-security = refl

  fresh-desk-words : (k : ℕ) → k < customers → part (fresh customers securities) (desk_place securities k) desk_size ≡ zeros desk_size
  unfolding part fresh
  fresh-desk-words k below =
      let place : desk_place securities k ≡ length (fresh_market customers securities) + desk_size * k = omega (arith, length-market) in
      ap (λ (n : ℕ). take desk_size (drop n (fresh customers securities))) place
      ∙ ap (take desk_size) (drop-append-add (fresh_market customers securities) (zeros (desk_size * customers)) (desk_size * k))
      ∙ zeros-part k customers below

  zero-desk : desk_of (zeros desk_size) ≡ fresh_desk
  unfolding desk_of rows_of row_of
  zero-desk = refl

  header-fresh : header_of (fresh customers securities) ≡ record { customers = customers; securities = securities; clock = 0; session = 0 }
  unfolding header_of part fresh fresh_market
  header-fresh = refl

  pub fresh-desk : (k : ℕ) → k < customers → desk_at (fresh customers securities) k ≡ fresh_desk
  unfolding desk_at
  fresh-desk k below =
      ap (λ (h : Header). desk_of (part (fresh customers securities) (desk_place h.securities k) desk_size)) header-fresh
      ∙ ap desk_of (fresh-desk-words k below)
      ∙ zero-desk

  pub fresh-market : market_words (fresh customers securities) ≡ fresh_market customers securities
  unfolding market_words fresh
  fresh-market =
      ap (λ (h : Header). take (security_place h.securities) (fresh customers securities)) header-fresh
      ∙ take_at (fresh_market customers securities) (zeros (desk_size * customers)) (security_place securities) length-market

  pub fresh-good : sizes_fit customers securities ≡ true → Good customers securities (fresh customers securities)
  fresh-good fit =
      record {
        sized = record { long = length-fresh; counted = ap (λ (h : Header). h.securities) header-fresh };
        served = ap (λ (h : Header). h.customers) header-fresh;
        fit = fit;
        clock = rw (ap (λ (h : Header). h.clock) header-fresh) (lit≤ tt);
        session = rw (ap (λ (h : Header). h.session) header-fresh) (lit≤ tt);
        securities-sound = λ s below. rw (fresh-security s below) sound-fresh-security;
        desks-sound = λ k below. rw (fresh-desk k below) (sound-fresh-desk securities _);
      }
