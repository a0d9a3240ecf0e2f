-- A session change, record by record: every projected price absent, every desk changed, nothing else.
-- Assumes nothing.
use mathlib.Core.List.{List}
use mathlib.Core.Logic.{⊎_elim}
use mathlib.Core.Path.{◌≡◌, refl, ap, sym, ◌∙◌}
use Prim.Native.Nat.{ℕ, zero, suc, ◌≤◌, ◌<◌}
use native.Mathlib.Nat.{eq-or-lt_of_le, le_of_suc-le-suc, not-suc-le-zero}
use native.Mathlib.Omega.{arith}
use lib.ListN.{length}
use Rattle.definitions.specs.declared.Security.{Security}
use Rattle.definitions.specs.declared.Desk.{Desk}
use Rattle.definitions.specs.Lists.{each}
use Rattle.definitions.specs.State.{header_of, security_at, desk_at, put_security, put_desk}
use Rattle.definitions.specs.Desks.{session_row, changed}
use Rattle.definitions.specs.Lone.{market_words}
use Rattle.definitions.specs.Gate.{change_security, change_desk}
use Rattle.definitions.specs.Securities.{without_projected}
use Rattle.definitions.proofs.State as state
use Rattle.definitions.proofs.State.{Sized}
use Rattle.definitions.proofs.SoundDesk.{length-changed}
use Rattle.definitions.specs.Codes.{desk_rows}

-- v is w with the projected prices of the first n securities absent
pub record Cleared (customers securities n : ℕ) (w v : List ℕ) : Type 0 where
  pub sized : Sized customers securities v
  pub header : header_of v ≡ header_of w
  pub cleared : (s : ℕ) → s < n → security_at v s ≡ without_projected (security_at w s)
  pub left : (s : ℕ) → n ≤ s → s < securities → security_at v s ≡ security_at w s
  pub desks : (k : ℕ) → desk_at v k ≡ desk_at w k
  pub market : market_words v ≡ each n (change_security without_projected) (market_words w)

pub clears : {customers securities : ℕ} (n : ℕ) (w : List ℕ) → Sized customers securities w → n ≤ securities → Cleared customers securities n w (each n (change_security without_projected) w)
unfolding each
clears zero w sized h =
    record {
      sized = sized;
      header = refl;
      cleared = λ s less. absurd (not-suc-le-zero less);
      left = λ s from below. refl;
      desks = λ k. refl;
      market = refl;
    }
clears {customers} {securities} (suc n) w sized h = next (clears n w sized (omega arith))
  where
    v : List ℕ
    v = each n (change_security without_projected) w

    x : Security
    x = without_projected (security_at v n)

    next : Cleared customers securities n w v → Cleared customers securities (suc n) w (put_security v n x)
    next c =
        record {
          sized = state.sized-put-security v c.sized n h x;
          header = state.header-put-security v c.sized n h x ∙ c.header;
          cleared =
              λ s less.
              ⊎_elim
              (λ (e : s ≡ n).
              rw e (state.security-put-same v c.sized n h x ∙ ap without_projected (c.left n (omega arith) h)))
              (λ below. state.security-put-below v c.sized n h x s below ∙ c.cleared s below)
              (eq-or-lt_of_le (le_of_suc-le-suc less));
          left = λ s from below. state.security-put-above v c.sized n h x s from ∙ c.left s (omega arith) below;
          desks = λ k. state.desk-put-security v c.sized n h x k ∙ c.desks k;
          market =
              state.market-put-security v c.sized n h x
              ∙ ap (λ (y : Security). put_security (market_words v) n (without_projected y)) (sym (state.security-market v c.sized n h))
              ∙ ap ((change_security without_projected) n) c.market;
        }

-- v is w with the first n desks changed
pub record DesksChanged (customers securities n : ℕ) (w v : List ℕ) : Type 0 where
  pub sized : Sized customers securities v
  pub header : header_of v ≡ header_of w
  pub done : (k : ℕ) → k < n → desk_at v k ≡ changed session_row (desk_at w k)
  pub left : (k : ℕ) → n ≤ k → desk_at v k ≡ desk_at w k
  pub securities-kept : (s : ℕ) → s < securities → security_at v s ≡ security_at w s
  pub market : market_words v ≡ market_words w

pub changes : {customers securities : ℕ} (n : ℕ) (w : List ℕ) → Sized customers securities w → n ≤ customers → DesksChanged customers securities n w (each n (change_desk (changed session_row)) w)
unfolding each
changes zero w sized h =
    record {
      sized = sized;
      header = refl;
      done = λ k less. absurd (not-suc-le-zero less);
      left = λ k from. refl;
      securities-kept = λ s below. refl;
      market = refl;
    }
changes {customers} {securities} (suc n) w sized h = next (changes n w sized (omega arith))
  where
    v : List ℕ
    v = each n (change_desk (changed session_row)) w

    d : Desk
    d = changed session_row (desk_at v n)

    next : DesksChanged customers securities n w v → DesksChanged customers securities (suc n) w (put_desk v n d)
    next c =
        let whole : length d.rows ≡ desk_rows = length-changed session_row (desk_at v n) ∙ state.length-desk-rows v n in
        record {
          sized = state.sized-put-desk v c.sized n h d whole;
          header = state.header-put-desk v c.sized n h d whole ∙ c.header;
          done =
              λ k less.
              ⊎_elim
              (λ (e : k ≡ n). rw e (state.desk-put-same v c.sized n h d whole ∙ ap (changed session_row) (c.left n (omega arith))))
              (λ below. state.desk-put-below v c.sized n h d whole k below ∙ c.done k below)
              (eq-or-lt_of_le (le_of_suc-le-suc less));
          left = λ k from. state.desk-put-above v c.sized n h d whole k from ∙ c.left k (omega arith);
          securities-kept = λ s below. state.security-put-desk v c.sized n h d whole s below ∙ c.securities-kept s below;
          market = state.market-put-desk v c.sized n h d whole ∙ c.market;
        }
