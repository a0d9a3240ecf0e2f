-- Laws of a state: how long it is where it fits, and what its header, its records and the market's words are after a record was put back.
-- Assumes nothing.
use mathlib.Core.Bool.{true}
use mathlib.Core.List.{List, [], ◌∷◌}
use mathlib.Core.Path.{◌≡◌, refl, ap, sym, ◌∙◌}
use Prim.Native.Nat.{ℕ, ◌+◌, ◌≤◌, ◌<◌}
use native.Mathlib.Omega.{arith}
use lib.Dec.{leb, eqb}
use lib.ListN.{length, take}
use borrow.Author.Tests.{eqb-true}
use Rattle.definitions.specs.declared.Header.{Header}
use Rattle.definitions.specs.declared.Security.{Security}
use Rattle.definitions.specs.declared.Desk.{Desk}
use Rattle.definitions.specs.Lists.{part, put}
use Rattle.definitions.specs.State.{header_of, security_place, desk_place, state_size, security_of, security_words, desk_of, desk_words, security_at, desk_at, put_security, put_desk, header_size, security_size, desk_size, header_in, sizes_fit, state_fits}
use Rattle.definitions.specs.Lone.{market_words, customer_words}
use Rattle.definitions.proofs.Tests.{joined-parts}
use Rattle.definitions.proofs.Words as words
use Rattle.definitions.proofs.Records.{length-security, security-read, length-desk, desk-read, desk-write, length-rows}
use Rattle.definitions.specs.Codes.{desk_rows, last_time, pre_close}

pub header-put : (w : List ℕ) (place : ℕ) (xs : List ℕ) → place + length xs ≤ length w → header_size ≤ place → header_of (put w place xs) ≡ header_of w
unfolding header_of
header-put w place xs fits h = ap header_in (words.part-put-before w place xs fits 0 header_size h)

-- a state of C customers and S securities
pub record Sized (customers securities : ℕ) (w : List ℕ) : Type 0 where
  pub long : length w ≡ state_size customers securities
  pub counted : (header_of w).securities ≡ securities

-- words that fit, condition 1, are as many as their header says
pub fits-length : (w : List ℕ) → state_fits w ≡ true → length w ≡ state_size (header_of w).customers (header_of w).securities
unfolding state_fits
fits-length w fits =
    let h = header_of w in
    let size = state_size h.customers h.securities in
    eqb-true (length w) size (joined-parts (sizes_fit h.customers h.securities) (eqb (length w) size ∷ leb h.clock last_time ∷ leb h.session pre_close ∷ []) fits).1.0

pub fits-sized : (w : List ℕ) → state_fits w ≡ true → Sized (header_of w).customers (header_of w).securities w
fits-sized w fits = record { long = fits-length w fits; counted = refl }

pub length-desk-rows : (w : List ℕ) (k : ℕ) → length (desk_at w k).rows ≡ desk_rows
unfolding desk_at desk_of
length-desk-rows w k = length-rows desk_rows _

module _ {customers securities : ℕ} (w : List ℕ) (sized : Sized customers securities w) where
  -- a desk stands where the count of securities says
  desk-at : (k : ℕ) → desk_at w k ≡ desk_of (part w (desk_place securities k) desk_size)
  unfolding desk_at
  desk-at k = rw sized.counted

  put-desk : (k : ℕ) (d : Desk) → put_desk w k d ≡ put w (desk_place securities k) (desk_words d)
  unfolding put_desk
  put-desk k d = rw sized.counted

  market-is : market_words w ≡ take (security_place securities) w
  unfolding market_words
  market-is = rw sized.counted

  pub header-market : header_of (market_words w) ≡ header_of w
  unfolding header_of
  header-market = rw market-is (ap header_in (words.part-take w (security_place securities) 0 header_size (omega arith)))

  pub security-market : (s : ℕ) → s < securities → security_at (market_words w) s ≡ security_at w s
  unfolding security_at
  security-market s h = rw market-is (ap security_of (words.part-take w (security_place securities) (security_place s) security_size (omega arith)))

  pub customer-words : (k : ℕ) → k < customers → customer_words w k ≡ desk_words (desk_at w k)
  unfolding customer_words desk_at
  customer-words k h =
      sym (desk-write (part w (desk_place (header_of w).securities k) desk_size) (words.length_part w (desk_place (header_of w).securities k) desk_size (omega (arith, sized.long, sized.counted))))

  module _ (s : ℕ) (below : s < securities) (x : Security) where
    security-fits : security_place s + length (security_words x) ≤ length w
    security-fits = omega (arith, length-security x, sized.long)

    pub header-put-security : header_of (put_security w s x) ≡ header_of w
    unfolding put_security
    header-put-security = header-put w (security_place s) (security_words x) security-fits (omega arith)

    pub sized-put-security : Sized customers securities (put_security w s x)
    unfolding put_security
    sized-put-security =
        record {
          long = words.length-put w (security_place s) (security_words x) security-fits ∙ sized.long;
          counted = ap (λ (h : Header). h.securities) (header-put w (security_place s) (security_words x) security-fits (omega arith)) ∙ sized.counted;
        }

    pub security-put-same : security_at (put_security w s x) s ≡ x
    unfolding put_security security_at
    security-put-same =
        ap (λ (n : ℕ). security_of (part (put w (security_place s) (security_words x)) (security_place s) n)) (sym (length-security x))
        ∙ ap security_of (words.part-put-same w (security_place s) (security_words x) security-fits)
        ∙ security-read x

    pub security-put-below : (t : ℕ) → t < s → security_at (put_security w s x) t ≡ security_at w t
    unfolding put_security security_at
    security-put-below t h = ap security_of (words.part-put-before w (security_place s) (security_words x) security-fits (security_place t) security_size (omega arith))

    pub security-put-above : (t : ℕ) → s < t → security_at (put_security w s x) t ≡ security_at w t
    unfolding put_security security_at
    security-put-above t h = ap security_of (words.part-put-after w (security_place s) (security_words x) security-fits (security_place t) security_size (omega (arith, length-security x)))

    pub desk-put-security : (k : ℕ) → desk_at (put_security w s x) k ≡ desk_at w k
    unfolding put_security desk_at
    desk-put-security k =
        rw (header-put w (security_place s) (security_words x) security-fits (omega arith))
        (ap desk_of (words.part-put-after w (security_place s) (security_words x) security-fits (desk_place (header_of w).securities k) desk_size (omega (arith, length-security x, sized.counted))))

    pub market-put-security : market_words (put_security w s x) ≡ put_security (market_words w) s x
    unfolding market_words put_security
    market-put-security =
        rw (header-put w (security_place s) (security_words x) security-fits (omega arith))
        (words.take_put w (security_place s) (security_words x) security-fits (security_place (header_of w).securities) (omega (arith, length-security x, sized.counted)) (omega (arith, sized.long, sized.counted)))

  module _ (k : ℕ) (below : k < customers) (d : Desk) (whole : length d.rows ≡ desk_rows) where
    desk-fits : desk_place securities k + length (desk_words d) ≤ length w
    desk-fits = omega (arith, length-desk d whole, sized.long)

    pub header-put-desk : header_of (put_desk w k d) ≡ header_of w
    header-put-desk = rw (put-desk k d) (header-put w (desk_place securities k) (desk_words d) desk-fits (omega arith))

    pub sized-put-desk : Sized customers securities (put_desk w k d)
    sized-put-desk =
        record {
          long = rw (put-desk k d) (words.length-put w (desk_place securities k) (desk_words d) desk-fits ∙ sized.long);
          counted = ap (λ (h : Header). h.securities) header-put-desk ∙ sized.counted;
        }

    placed : (j : ℕ) → desk_at (put_desk w k d) j ≡ desk_of (part (put w (desk_place securities k) (desk_words d)) (desk_place securities j) desk_size)
    unfolding desk_at
    placed j = rw (ap (λ (h : Header). h.securities) header-put-desk, sized.counted, put-desk k d)

    pub desk-put-same : desk_at (put_desk w k d) k ≡ d
    desk-put-same =
        placed k
        ∙ ap (λ (n : ℕ). desk_of (part (put w (desk_place securities k) (desk_words d)) (desk_place securities k) n)) (sym (length-desk d whole))
        ∙ ap desk_of (words.part-put-same w (desk_place securities k) (desk_words d) desk-fits)
        ∙ desk-read d whole

    pub desk-put-below : (j : ℕ) → j < k → desk_at (put_desk w k d) j ≡ desk_at w j
    desk-put-below j h =
        placed j
        ∙ ap desk_of (words.part-put-before w (desk_place securities k) (desk_words d) desk-fits (desk_place securities j) desk_size (omega arith))
        ∙ sym (desk-at j)

    pub desk-put-above : (j : ℕ) → k < j → desk_at (put_desk w k d) j ≡ desk_at w j
    desk-put-above j h =
        placed j
        ∙ ap desk_of (words.part-put-after w (desk_place securities k) (desk_words d) desk-fits (desk_place securities j) desk_size (omega (arith, length-desk d whole)))
        ∙ sym (desk-at j)

    pub security-put-desk : (s : ℕ) → s < securities → security_at (put_desk w k d) s ≡ security_at w s
    unfolding security_at
    security-put-desk s h =
        rw (put-desk k d) (ap security_of (words.part-put-before w (desk_place securities k) (desk_words d) desk-fits (security_place s) security_size (omega arith)))

    pub market-put-desk : market_words (put_desk w k d) ≡ market_words w
    unfolding market_words
    market-put-desk =
        rw (ap (λ (h : Header). h.securities) header-put-desk, put-desk k d, sized.counted)
        (words.take-put-before w (desk_place securities k) (desk_words d) desk-fits (security_place securities) (omega arith))
