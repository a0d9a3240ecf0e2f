-- The clock and the session, set in the header: nothing else of a state changes.
-- Assumes nothing.
use mathlib.Core.List.{List, [], ◌∷◌}
use mathlib.Core.Path.{◌≡◌, refl, ap, ◌∙◌, sym}
use Prim.Native.Nat.{ℕ, ◌+◌, ◌≤◌, ◌<◌}
use native.Mathlib.Omega.{arith}
use lib.ListN.{length}
use Rattle.definitions.specs.declared.Header.{Header}
use Rattle.definitions.specs.Lists.{put, part}
use Rattle.definitions.specs.State.{header_of, clock_place, session_place, security_place, desk_place, security_of, desk_of, security_at, desk_at, security_size, desk_size, header_size}
use Rattle.definitions.specs.Lone.{market_words}
use Rattle.definitions.proofs.Words as words
use Rattle.definitions.proofs.State.{Sized}
use lib.Seq.{get_or-take}
use lib.Dec.{lit<}

abbrev pub with_clock : ℕ → Header → Header
with_clock t h = record { customers = h.customers; securities = h.securities; clock = t; session = h.session }

abbrev pub with_session : ℕ → Header → Header
with_session s h = record { customers = h.customers; securities = h.securities; clock = h.clock; session = s }

pub header-clock : (t : ℕ) (w : List ℕ) → header_size ≤ length w → header_of (put w clock_place (t ∷ [])) ≡ with_clock t (header_of w)
unfolding header_of part put
header-clock t [] h = absurd (omega arith)
header-clock t (a ∷ []) h = absurd (omega arith)
header-clock t (a ∷ b ∷ []) h = absurd (omega arith)
header-clock t (a ∷ b ∷ c ∷ []) h = absurd (omega arith)
header-clock t (a ∷ b ∷ c ∷ d ∷ w) h = refl

pub header-session : (s : ℕ) (w : List ℕ) → header_size ≤ length w → header_of (put w session_place (s ∷ [])) ≡ with_session s (header_of w)
unfolding header_of part put
header-session s [] h = absurd (omega arith)
header-session s (a ∷ []) h = absurd (omega arith)
header-session s (a ∷ b ∷ []) h = absurd (omega arith)
header-session s (a ∷ b ∷ c ∷ []) h = absurd (omega arith)
header-session s (a ∷ b ∷ c ∷ d ∷ w) h = refl

-- a word of the header after the count of securities
module _ {customers securities : ℕ} (w : List ℕ) (sized : Sized customers securities w) (place : ℕ) (after : 2 ≤ place) (within : place < header_size) (x : ℕ) where
  fits : place + length (x ∷ []) ≤ length w
  fits = omega (arith, sized.long)

  counted : (header_of (put w place (x ∷ []))).securities ≡ (header_of w).securities
  unfolding header_of part
  counted =
      get_or-take header_size (put w place (x ∷ [])) 1 0 (lit< tt)
      ∙ words.get_d-put-before w place (x ∷ []) fits 1 (omega arith)
      ∙ sym (get_or-take header_size w 1 0 (lit< tt))

  pub sized-put : Sized customers securities (put w place (x ∷ []))
  sized-put = record { long = words.length-put w place (x ∷ []) fits ∙ sized.long; counted = counted ∙ sized.counted }

  pub security-put : (s : ℕ) → security_at (put w place (x ∷ [])) s ≡ security_at w s
  unfolding security_at
  security-put s = ap security_of (words.part-put-after w place (x ∷ []) fits (security_place s) security_size (omega arith))

  pub desk-put : (k : ℕ) → desk_at (put w place (x ∷ [])) k ≡ desk_at w k
  unfolding desk_at
  desk-put k =
      rw counted (ap desk_of (words.part-put-after w place (x ∷ []) fits (desk_place (header_of w).securities k) desk_size (omega arith)))

  pub market-put : market_words (put w place (x ∷ [])) ≡ put (market_words w) place (x ∷ [])
  unfolding market_words
  market-put =
      rw counted (words.take_put w place (x ∷ []) fits (security_place (header_of w).securities) (omega arith) (omega (arith, sized.long, sized.counted)))
