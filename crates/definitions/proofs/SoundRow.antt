-- One row of a sound desk: each change of a row leaves it sound, marks no free row and keeps the number of a row that stays.
-- Assumes nothing.
use mathlib.Core.Bool.{Bool, true, false, cond, ◌&&◌, ◌||◌, not, false≢true}
use mathlib.Core.List.{List, [], ◌∷◌}
use mathlib.Core.Logic.{◌⊎◌, inl, inr, ⊎_elim}
use mathlib.Core.Path.{◌≡◌, refl, ap, ap₂}
use Prim.Native.Nat.{ℕ, ◌-◌, ◌≤◌, ◌<◌}
use native.Mathlib.Omega.{arith}
use lib.Dec.{leb, ltb, eqb}
use lib.ListN.{length, replicate}
use borrow.Author.Tests.{leb-true, leb-false, ltb-true, eqb-true, not-true, le-leb}
use Rattle.ladder.specs.Ladder.{legal}
use Rattle.definitions.specs.declared.Row.{Row}
use Rattle.definitions.specs.Codes.{free_mark, open_mark, cancelled_mark, foreign_board, sell, limit, mp, max_volume, is_auction}
use Rattle.definitions.specs.Sound.{marked, all_zero, priced_as, open_or_cancelled, sound_marked, sound_row, numbered}
use Rattle.definitions.specs.Desks.{free_row, cancelled_in_minute, is_open, open_or_in_minute, open_with, expired_row, session_row, marked_cancelled, cancelled_row, with_volume, matched_row, open_mp_with, limit_at, rest_row, in_minute}
use Rattle.definitions.specs.Refusals.{holds_number}
use Rattle.definitions.proofs.Tests.{never, either, and_parts, and-whole, and_same, or-first, or-second, or_cases, joined-parts, joined-whole}
use Rattle.definitions.proofs.Rows.{KeepsNumbers}
use Rattle.definitions.specs.Lists.{all}
use Rattle.definitions.specs.State.{row_of, row_words}

-- a sound marked row, with a name for each part of the test
pub record SoundMarked (securities clock : ℕ) (r : Row) : Type 0 where
  pub state : open_or_cancelled clock r ≡ true
  pub number : ltb 0 r.number ≡ true
  pub security : ltb r.security securities ≡ true
  pub board : leb r.board foreign_board ≡ true
  pub side : leb r.side sell ≡ true
  pub order_type : leb r.order_type mp ≡ true
  pub price : priced_as r.order_type r.price ≡ true
  pub least : leb 1 r.volume ≡ true
  pub most : leb r.volume max_volume ≡ true

-- the tests of a marked row behind the first
abbrev later_tests : ℕ → Row → List Bool
later_tests securities r =
    ltb 0 r.number
    ∷ ltb r.security securities
    ∷ leb r.board foreign_board
    ∷ leb r.side sell
    ∷ leb r.order_type mp
    ∷ priced_as r.order_type r.price
    ∷ leb 1 r.volume
    ∷ leb r.volume max_volume
    ∷ []

zero-mark : (r : Row) → all_zero r ≡ true → eqb r.mark free_mark ≡ true
unfolding all row_words
zero-mark r e = (and_parts (eqb r.mark free_mark) _ e).0

module _ (S clock : ℕ) where
  pub marked-true : (r : Row) → sound_marked S clock r ≡ true → SoundMarked S clock r
  marked-true r e =
      let p = joined-parts (open_or_cancelled clock r) (later_tests S r) e in
      record {
        state = p.0;
        number = p.1.0;
        security = p.1.1.0;
        board = p.1.1.1.0;
        side = p.1.1.1.1.0;
        order_type = p.1.1.1.1.1.0;
        price = p.1.1.1.1.1.1.0;
        least = p.1.1.1.1.1.1.1.0;
        most = p.1.1.1.1.1.1.1.1.0;
      }

  pub true-marked : (r : Row) → SoundMarked S clock r → sound_row S clock r ≡ true
  unfolding sound_row
  true-marked r h =
      or-second (all_zero r)
      (joined-whole (open_or_cancelled clock r) (later_tests S r)
      (h.state, (h.number, (h.security, (h.board, (h.side, (h.order_type, (h.price, (h.least, (h.most, tt))))))))))

  pub row-cases : (r : Row) → sound_row S clock r ≡ true → (all_zero r ≡ true) ⊎ SoundMarked S clock r
  unfolding sound_row
  row-cases r e = ⊎_elim (λ z. inl z) (λ m. inr (marked-true r m)) (or_cases (all_zero r) (sound_marked S clock r) e)

  row-marked : (r : Row) → sound_row S clock r ≡ true → marked r ≡ true → SoundMarked S clock r
  row-marked r e m = ⊎_elim (λ z. never (zero-mark r z) (not-true (eqb r.mark free_mark) m)) (λ h. h) (row-cases r e)

  pub free-row : sound_row S clock free_row ≡ true
  unfolding sound_row all row_words
  free-row = refl

-- the two states of a marked row
record Open (r : Row) : Type 0 where
  mark : eqb r.mark open_mark ≡ true
  time : eqb r.cancel_time 0 ≡ true

record Cancelled (clock : ℕ) (r : Row) : Type 0 where
  mark : eqb r.mark cancelled_mark ≡ true
  time : leb r.cancel_time clock ≡ true
  order_type : eqb r.order_type limit ≡ true

module _ (clock : ℕ) (r : Row) where
  abbrev when_open : Bool
  when_open = eqb r.mark open_mark && eqb r.cancel_time 0

  abbrev when_cancelled : Bool
  when_cancelled = eqb r.mark cancelled_mark && leb r.cancel_time clock && eqb r.order_type limit

  state-cases : open_or_cancelled clock r ≡ true → Open r ⊎ Cancelled clock r
  state-cases e = ⊎_elim (λ o. inl (opened o)) (λ c. inr (cancelled c)) (or_cases when_open when_cancelled e)
    where
      opened : when_open ≡ true → Open r
      opened o =
          let p = and_parts (eqb r.mark open_mark) (eqb r.cancel_time 0) o in
          record { mark = p.0; time = p.1 }

      cancelled : when_cancelled ≡ true → Cancelled clock r
      cancelled c =
          let p = joined-parts (eqb r.mark cancelled_mark) (leb r.cancel_time clock ∷ eqb r.order_type limit ∷ []) c in
          record { mark = p.0; time = p.1.0; order_type = p.1.1.0 }

  open-state : Open r → open_or_cancelled clock r ≡ true
  open-state o = or-first when_cancelled (and-whole o.mark o.time)

  cancelled-state : Cancelled clock r → open_or_cancelled clock r ≡ true
  cancelled-state c = or-second when_open (and-whole (and-whole c.mark c.time) c.order_type)

-- "a cancelled row is a limit"
pub cancelled-limit : (S clock : ℕ) (r : Row) → sound_row S clock r ≡ true → r.mark ≡ cancelled_mark → r.order_type ≡ limit
cancelled-limit S clock r e m =
    ⊎_elim (λ o. absurd (omega (arith, eqb-true r.mark open_mark o.mark))) (λ c. eqb-true r.order_type limit c.order_type)
    (state-cases clock r (row-marked S clock r e (rw m)).state)

-- "free rows are all zero"
zeros : (xs : List ℕ) → all (λ (n : ℕ). eqb n 0) xs ≡ true → xs ≡ replicate (length xs) 0
unfolding all
zeros [] e = refl
zeros (x ∷ xs) e =
    let parts = and_parts (eqb x 0) (all (λ (n : ℕ). eqb n 0) xs) e in
    ap₂ (λ (y : ℕ) (ys : List ℕ). y ∷ ys) (eqb-true x 0 parts.0) (zeros xs parts.1)

pub zero-free : (r : Row) → all_zero r ≡ true → r ≡ free_row
unfolding row_words row_of
zero-free r e = ap row_of (zeros (row_words r) e)

pub state-marked : (clock : ℕ) (r : Row) → open_or_cancelled clock r ≡ true → marked r ≡ true
state-marked clock r e =
    ⊎_elim (λ o. rw (eqb-true r.mark open_mark o.mark)) (λ c. rw (eqb-true r.mark cancelled_mark c.mark)) (state-cases clock r e)

-- a sound row that is not marked is the free row
pub unmarked-free : (S clock : ℕ) (r : Row) → sound_row S clock r ≡ true → marked r ≡ false → r ≡ free_row
unmarked-free S clock r e m = ⊎_elim (zero-free r) (λ h. never (state-marked clock r h.state) m) (row-cases S clock r e)

-- an open row's cancel time is 0, its number is above 0, and a row of type 3 is open with price 0
pub open-time : (S clock : ℕ) (r : Row) → sound_row S clock r ≡ true → r.mark ≡ open_mark → r.cancel_time ≡ 0
open-time S clock r e m =
    ⊎_elim (λ o. eqb-true r.cancel_time 0 o.time) (λ c. absurd (omega (arith, eqb-true r.mark cancelled_mark c.mark)))
    (state-cases clock r (row-marked S clock r e (rw m)).state)

pub open-number : (S clock : ℕ) (r : Row) → sound_row S clock r ≡ true → r.mark ≡ open_mark → 0 < r.number
open-number S clock r e m = ltb-true 0 r.number (row-marked S clock r e (rw m)).number

pub record MpRow (r : Row) : Type 0 where
  pub mark : r.mark ≡ open_mark
  pub price : r.price ≡ 0

pub mp-row : (S clock : ℕ) (r : Row) → sound_row S clock r ≡ true → r.order_type ≡ mp → MpRow r
mp-row S clock r e type = ⊎_elim (λ z. absurd (omega (arith, ap (λ (x : Row). x.order_type) (zero-free r z)))) sound (row-cases S clock r e)
  where
    sound : SoundMarked S clock r → MpRow r
    sound h =
        record {
          mark =
              ⊎_elim (λ o. eqb-true r.mark open_mark o.mark) (λ c. absurd (omega (arith, eqb-true r.order_type limit c.order_type)))
              (state-cases clock r h.state);
          price = eqb-true r.price 0 (rw type at h.price);
        }

-- a cancel time that is at most the clock is at most a later clock
later-state : (clock later : ℕ) (r : Row) → clock ≤ later → open_or_cancelled clock r ≡ true → open_or_cancelled later r ≡ true
later-state clock later r h e =
    ⊎_elim (open-state later r)
    (λ c.
    let time = le-leb r.cancel_time later (omega (arith, leb-true r.cancel_time clock c.time)) in
    cancelled-state later r (record { mark = c.mark; time = time; order_type = c.order_type }))
    (state-cases clock r e)

pub later-row : (S clock later : ℕ) → clock ≤ later → (r : Row) → sound_row S clock r ≡ true → sound_row S later r ≡ true
unfolding sound_row
later-row S clock later h r e =
    ⊎_elim (λ z. or-first (sound_marked S later r) z)
    (λ m.
    true-marked S later r
    (record {
      state = later-state clock later r h m.state;
      number = m.number;
      security = m.security;
      board = m.board;
      side = m.side;
      order_type = m.order_type;
      price = m.price;
      least = m.least;
      most = m.most;
    }))
    (row-cases S clock r e)

pub open-marked : (number : ℕ) (r : Row) → open_with number r ≡ true → marked r ≡ true
open-marked number r e = rw (eqb-true r.mark open_mark (and_parts (is_open r) (eqb r.number number) e).0)

-- what holds of a free row, of the row itself and of what a change makes of it holds of the changed row. A session change leaves no row of ATO, ATC and MP.
pub session-frees : (P : Row → Type 0) (r : Row) → P free_row → ((is_auction r.order_type || eqb r.order_type mp) ≡ false → P r) → P (session_row r)
session-frees P r free left = either P _ free_row r (λ _. free) left

pub expired-frees : (P : Row → Type 0) (clock : ℕ) (r : Row) → P free_row → P r → P (expired_row clock r)
expired-frees P clock r free left = either P (eqb r.mark cancelled_mark && not (cancelled_in_minute clock r)) free_row r (λ _. free) (λ _. left)

pub cancelled-frees : (P : Row → Type 0) (number clock : ℕ) (r : Row) → P free_row → P r
    → (open_with number r ≡ true → eqb r.order_type limit ≡ true → P (marked_cancelled clock r)) → P (cancelled_row number clock r)
cancelled-frees P number clock r free left marks = either P (open_with number r) _ r (λ opened. either P _ _ free_row (marks opened) (λ _. free)) (λ _. left)

pub matched-frees : (P : Row → Type 0) (number volume : ℕ) (r : Row) → P free_row → P r
    → (open_with number r ≡ true → leb r.volume volume ≡ false → P (with_volume (r.volume - volume) r)) → P (matched_row number volume r)
matched-frees P number volume r free left lowers = either P (open_with number r) _ r (λ opened. either P _ free_row _ (λ _. free) (lowers opened)) (λ _. left)

pub rest-changes : (P : Row → Type 0) (number price : ℕ) (r : Row) → P r → (open_mp_with number r ≡ true → P (limit_at price r)) → P (rest_row number price r)
rest-changes P number price r left limited = either P (open_mp_with number r) (limit_at price r) r limited (λ _. left)

-- the changes leave a row sound
module _ (S clock : ℕ) where
  abbrev Sound : Row → Type 0
  Sound x = sound_row S clock x ≡ true

  pub session-sound : (r : Row) → sound_row S clock r ≡ true → sound_row S clock (session_row r) ≡ true
  session-sound r e = session-frees Sound r (free-row S clock) (λ _. e)

  pub expired-sound : (r : Row) → sound_row S clock r ≡ true → sound_row S clock (expired_row clock r) ≡ true
  expired-sound r e = expired-frees Sound clock r (free-row S clock) e

  marked_cancelled-sound : (r : Row) → SoundMarked S clock r → eqb r.order_type limit ≡ true → sound_row S clock (marked_cancelled clock r) ≡ true
  marked_cancelled-sound r h l =
      true-marked S clock
      (marked_cancelled clock r)
      (record {
        state = and-whole (le-leb (marked_cancelled clock r).cancel_time clock (omega arith)) l;
        number = h.number;
        security = h.security;
        board = h.board;
        side = h.side;
        order_type = h.order_type;
        price = h.price;
        least = h.least;
        most = h.most;
      })

  pub cancelled-sound : (number : ℕ) (r : Row) → sound_row S clock r ≡ true → sound_row S clock (cancelled_row number clock r) ≡ true
  cancelled-sound number r e =
      cancelled-frees Sound number clock r (free-row S clock) e (λ opened. marked_cancelled-sound r (row-marked S clock r e (open-marked number r opened)))

  with_volume-sound : (volume : ℕ) (r : Row) → SoundMarked S clock r → leb r.volume volume ≡ false
      → sound_row S clock (with_volume (r.volume - volume) r) ≡ true
  with_volume-sound volume r h more =
      true-marked S clock
      (with_volume (r.volume - volume) r)
      (record {
        state = h.state;
        number = h.number;
        security = h.security;
        board = h.board;
        side = h.side;
        order_type = h.order_type;
        price = h.price;
        least = le-leb 1 (r.volume - volume) (omega (arith, leb-false r.volume volume more));
        most = le-leb (r.volume - volume) max_volume (omega (arith, leb-true r.volume max_volume h.most));
      })

  pub matched-sound : (number volume : ℕ) (r : Row) → sound_row S clock r ≡ true → sound_row S clock (matched_row number volume r) ≡ true
  matched-sound number volume r e =
      matched-frees Sound number volume r (free-row S clock) e (λ opened. with_volume-sound volume r (row-marked S clock r e (open-marked number r opened)))

  -- the row stays open, or cancelled, as it is
  limit_at-state : (price : ℕ) (r : Row) → open_or_cancelled clock r ≡ true → open_or_cancelled clock (limit_at price r) ≡ true
  limit_at-state price r e =
      let x = limit_at price r in
      ⊎_elim (λ o. open-state clock x (record { mark = o.mark; time = o.time }))
      (λ c. cancelled-state clock x (record { mark = c.mark; time = c.time; order_type = refl }))
      (state-cases clock r e)

  limit_at-sound : (price : ℕ) → legal price ≡ true → (r : Row) → SoundMarked S clock r → sound_row S clock (limit_at price r) ≡ true
  limit_at-sound price on-ladder r h =
      true-marked S clock
      (limit_at price r)
      (record {
        state = limit_at-state price r h.state;
        number = h.number;
        security = h.security;
        board = h.board;
        side = h.side;
        order_type = refl;
        price = or-first false on-ladder;
        least = h.least;
        most = h.most;
      })

  pub rest-sound : (number price : ℕ) → legal price ≡ true → (r : Row) → sound_row S clock r ≡ true → sound_row S clock (rest_row number price r) ≡ true
  rest-sound number price on-ladder r e =
      rest-changes Sound number price r e
      (λ opened. limit_at-sound price on-ladder r (row-marked S clock r e (open-marked number r (and_parts (open_with number r) (eqb r.order_type mp) opened).0)))

-- they mark none anew, and a row that stays keeps its number
abbrev Kept : Row → Row → Type 0
Kept r x = marked x ≡ true → (marked r ≡ true) × (x.number ≡ r.number)

gone : (r : Row) → Kept r free_row
gone r e = absurd (false≢true e)

stays : (r : Row) → Kept r r
stays r e = (e, refl)

pub session-kept : KeepsNumbers session_row
session-kept r = session-frees (Kept r) r (gone r) (λ _. stays r)

pub expired-kept : (clock : ℕ) → KeepsNumbers (expired_row clock)
expired-kept clock r = expired-frees (Kept r) clock r (gone r) (stays r)

pub cancelled-kept : (number clock : ℕ) → KeepsNumbers (cancelled_row number clock)
cancelled-kept number clock r = cancelled-frees (Kept r) number clock r (gone r) (stays r) (λ opened _ _. (open-marked number r opened, refl))

pub matched-kept : (number volume : ℕ) → KeepsNumbers (matched_row number volume)
matched-kept number volume r = matched-frees (Kept r) number volume r (gone r) (stays r) (λ _ _ m. (m, refl))

pub rest-kept : (number price : ℕ) → KeepsNumbers (rest_row number price)
rest-kept number price r = rest-changes (Kept r) number price r (stays r) (λ _ m. (m, refl))

-- the three marks that a sound row may have
mark-cases : (S clock : ℕ) (r : Row) → sound_row S clock r ≡ true
    → (r.mark ≡ free_mark) ⊎ ((r.mark ≡ open_mark) ⊎ (r.mark ≡ cancelled_mark))
mark-cases S clock r e =
    ⊎_elim
    (λ z. inl (eqb-true r.mark free_mark (zero-mark r z)))
    (λ m.
    inr
    (⊎_elim (λ o. inl (eqb-true r.mark open_mark o.mark)) (λ c. inr (eqb-true r.mark cancelled_mark c.mark))
    (state-cases clock r m.state)))
    (row-cases S clock r e)

-- the rows that are open or in their minute are those that are marked when the rows cancelled longer ago are gone
pub expired-open_or_in_minute : (S clock : ℕ) (r : Row) → sound_row S clock r ≡ true → marked (expired_row clock r) ≡ open_or_in_minute clock r
expired-open_or_in_minute S clock r e = ⊎_elim at-free (⊎_elim at_open at-cancelled) (mark-cases S clock r e)
  where
    at-free : r.mark ≡ free_mark → marked (expired_row clock r) ≡ open_or_in_minute clock r
    at-free m = rw m

    at_open : r.mark ≡ open_mark → marked (expired_row clock r) ≡ open_or_in_minute clock r
    at_open m = rw m

    at-cancelled : r.mark ≡ cancelled_mark → marked (expired_row clock r) ≡ open_or_in_minute clock r
    at-cancelled m =
        rw (ap (λ (n : ℕ). eqb n cancelled_mark) m, ap (λ (n : ℕ). eqb n open_mark) m) (go (in_minute clock r.cancel_time))
      where
        go : (t : Bool) → marked (cond (not t) free_row r) ≡ t
        go true = rw m
        go false = refl

pub expired-numbered : (S clock number : ℕ) (r : Row) → sound_row S clock r ≡ true → numbered number (expired_row clock r) ≡ holds_number clock number r
expired-numbered S clock number r e =
    and_same (marked (expired_row clock r)) (eqb (expired_row clock r).number number) (open_or_in_minute clock r) (eqb r.number number)
    (expired-open_or_in_minute S clock r e)
    (λ m. ap (λ (n : ℕ). eqb n number) (expired-kept clock r m).1)
