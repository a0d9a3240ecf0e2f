-- The three demands of paper 00 as theorems over the definitions of paper 01, and of paper 02 as far as it has landed. Read this file first: each theorem stands
-- under the sentence that it proves. The definitions that it names are in crates/definitions/specs, but for those that stand beside their laws: `FoundFirst` in Refused.antt, `Good`,
-- a well-formed state, in WellFormed.antt, `AppliesFirst` in Verdicts.antt, `Belongs` in Ownership.antt, what a counter counts in Counters.antt, what a
-- session change leaves in SessionChange.antt, `StandsIn` in Standing.antt, a row as a cancel marks it in Minute.antt, the session of an ATO, ATC or MP row
-- in SessionRows.antt, `RestLimited` and `without_mp_rows` in RestRows.antt, `MpRow` in SoundRow.antt, warn 10 on a step and between two in AdjustedClose.antt, `Smaller`, `RangeInWords` and C by the
-- base in CeilingFloor.antt, `IsCeiling` and `IsFloor` in RangeLaws.antt, `NoneWithin` in RangeEmpty.antt, what changes figures in FiguresSet.antt, and what an order does in two states that are alike for it in OneOrder.antt. That the code does what `outcome` says is the contract of `gate::handle`.
-- Assumes nothing.
use Rattle.std.specs.Prelude.{Some, None}
use mathlib.Core.Bool.{Bool, true, not, false}
use mathlib.Core.List.{List}
use mathlib.Core.Logic.{◌↔◌, ◌⊎◌}
use mathlib.Core.Path.{◌≡◌, ap, sym, ◌∙◌}
use Prim.Native.Nat.{ℕ, ◌+◌, ◌≤◌, ◌<◌}
use Rattle.ladder.specs.Bands.{last_price, positions}
use Rattle.ladder.specs.Ladder.{legal, price_at}
use Rattle.definitions.specs.declared.Figures.{Figures}
use Rattle.definitions.specs.declared.SecurityFigures.{SecurityFigures}
use Rattle.definitions.specs.declared.Row.{Row}
use Rattle.definitions.specs.declared.MarketView.{MarketView}
use Rattle.definitions.specs.declared.Setup.{Setup}
use Rattle.definitions.specs.declared.Order.{Order}
use Rattle.definitions.specs.declared.Cancel.{Cancel}
use Rattle.definitions.specs.declared.Rest.{Rest}
use Rattle.definitions.specs.declared.Counter.{Counter}
use Rattle.definitions.specs.declared.Event.{Event}
use Rattle.definitions.specs.declared.Event.TheVariants as event
use Rattle.definitions.specs.declared.Verdict.{Verdict}
use Rattle.definitions.specs.Answers.{Answer}
use Rattle.definitions.specs.Answers as answer
use Rattle.definitions.specs.Codes.{open_mark, cancelled_mark, limit, mp, max_shares}
use Rattle.definitions.specs.Lists.{any, all, keep, count, first_met}
use Rattle.definitions.specs.State.{no_figures, header_of, sizes_fit, fresh, security_at, desk_at, put_security, put_desk, desk_words, state_fits}
use Rattle.definitions.specs.Gate.{answer_of, words_of, records_sound, daily_range, conditions, market_view_at, view_at, verdict_at, ordered_at, perform, outcome, event_answer, event_words, words_after, answers_to}
use Rattle.definitions.specs.Lone.{Lone, lone_fresh, lone_after, lone_answers, is_fed, market_words, customer_words}
use Rattle.definitions.proofs.State as state
use Rattle.definitions.proofs.WellFormed as well_formed
use Rattle.definitions.proofs.WellFormed.{Good, fits}
use Rattle.definitions.proofs.Fresh.{fresh-good, fresh-market, fresh-desk}
use Rattle.definitions.proofs.Refused as refusals
use Rattle.definitions.proofs.Refused.{FoundFirst}
use Rattle.definitions.proofs.Verdicts.{AppliesFirst, both_ways}
use Rattle.definitions.proofs.Ownership as ownership
use Rattle.definitions.proofs.Ownership.{Belongs}
use Rattle.definitions.proofs.Isolation.{lone_of}
use Rattle.definitions.proofs.Histories.{good-after, same-answers, same_after}
use Rattle.definitions.proofs.Counters.{counter_in, counts_answer, up_to_max, belongs_to, counts-fresh}
use Rattle.definitions.proofs.SessionChange as sessions
use Rattle.definitions.proofs.SessionChange.{SessionChanged}
use Rattle.definitions.proofs.Minute as minute
use Rattle.definitions.proofs.Standing.{StandsIn, stands-all}
use Rattle.definitions.proofs.Minute.{cancelled_at}
use Rattle.definitions.proofs.SessionRows as session_rows
use Rattle.definitions.proofs.SessionRows.{InItsSession}
use Rattle.definitions.proofs.RestRows as rest_rows
use Rattle.definitions.proofs.RestRows.{is_rest, RestLimited, without_mp_rows}
use Rattle.definitions.proofs.AdjustedClose as adjusted_close
use Rattle.definitions.proofs.AdjustedClose.{warn10_on_ladder, warn10_between}
use Rattle.definitions.proofs.RangeEmpty.{NoneWithin}
use Rattle.definitions.proofs.CeilingFloor as ceiling_floor
use Rattle.definitions.proofs.CeilingFloor.{Smaller, RangeInWords, rule_c_by_base}
use Rattle.definitions.proofs.FiguresSet as figures_set
use Rattle.definitions.proofs.FiguresSet.{with_figures, figures_by}
use Rattle.definitions.proofs.OneOrder as one_order
use Rattle.definitions.proofs.OneOrder.{AlikeFor, OneOrder}
use Rattle.definitions.proofs.SoundRow as sound_row
use Rattle.definitions.proofs.SoundRow.{MpRow}
use Rattle.definitions.proofs.SoundDesk.{desk-true}
use Rattle.definitions.specs.Sound.{price_or_absent, sound_terms, priced_as, sound_row as sound_row_test}
use Rattle.definitions.specs.Ranges.{base, base_of, range_of, has_range}
use Rattle.definitions.specs.Rules.{View, rule_c, rule_w, reference10, warn10}
use Rattle.definitions.specs.Events.{event_in, bytes_conditions}
use Rattle.definitions.specs.Refusals.{bad_name}

-- DEMAND 1, of the definitions. (That nothing steps outside what was lent, wraps, loses bits or fails to end is proved of the code, function by function.)

-- "no refused event changes a single lent word"
pub refused-unchanged : (w b : List ℕ) (n : ℕ) → event_answer w b ≡ answer.Refused n → event_words w b ≡ w
refused-unchanged w b n e = (refusals.refused w b n e).words

-- "Each verdict adds 1 to its counter, except where refusal 12 follows"
pub full-desk-uncounted : (w b : List ℕ) → event_answer w b ≡ answer.Refused 12 → (k : ℕ) (c : Counter) → counter_in c (desk_at (event_words w b) k) ≡ counter_in c (desk_at w k)
full-desk-uncounted w b e k c = ap (λ (v : List ℕ). counter_in c (desk_at v k)) (refused-unchanged w b 12 e)

-- "no refusal comes except under the condition document 01 sets for its number": the condition with that number is met, and none above it in the table
pub refused-by-condition : (w b : List ℕ) (n : ℕ) → event_answer w b ≡ answer.Refused n → FoundFirst n (conditions w b)
refused-by-condition w b n e =
    let t = refusals.refused w b n e in
    refusals.found_first n (conditions w b) t.first t.some

-- "and an event that meets such a condition gets the number found first"
pub condition-refuses : (w b : List ℕ) (n : ℕ) → FoundFirst n (conditions w b) → (n ≡ 0 → ⊥) → event_answer w b ≡ answer.Refused n
condition-refuses w b n found some = refusals.refuses w b n (refusals.first_found n (conditions w b) found) some

abbrev pub Unrefused : List ℕ → List ℕ → Type 0
Unrefused w b = (n : ℕ) → event_answer w b ≡ answer.Refused n → ⊥

-- so that an event that is not refused meets no condition of its table
pub unrefused-meets-none : (w b : List ℕ) → Unrefused w b → all (λ (c : ℕ × Bool). not c.1) (conditions w b) ≡ true
unrefused-meets-none w b answered = refusals.none-met (conditions w b) (refusals.numbered-conditions w b) (refusals.unrefused w b answered)

same-verdict : (x y : Verdict) → ◌≡◌ {A = Answer} (answer.Verdict x) (answer.Verdict y) → x ≡ y
same-verdict x y e = cc

-- DEMAND 2, of the definitions: "From a fresh state, the verdict of every order not refused is the one that the exchange's 2011 screening standard, as
-- condensed in document 01, gives for the events so far .. Rows and counters follow the same definition."
module _ (customers securities : ℕ) (fit : sizes_fit customers securities ≡ true) where
  -- the words after a history from a fresh state
  abbrev pub after : List (List ℕ) → List ℕ
  after history = words_after (fresh customers securities) history

  -- after every history the state is well formed: sizes, clock and session fit and every record is sound
  pub well-formed : (history : List (List ℕ)) → Good customers securities (after history)
  well-formed history = good-after (fresh customers securities) (fresh-good customers securities fit) history

  -- so that conditions 1 and 8 never arise in a history: every event that names what is there reads sound records
  pub state-fits : (history : List (List ℕ)) → state_fits (after history) ≡ true
  state-fits history = fits (after history) (well-formed history)

  pub records-sound : (history : List (List ℕ)) (e : Event) → bad_name (header_of (after history)) e ≡ false
      → records_sound (after history) e ≡ true
  records-sound history = well_formed.records-sound (after history) (well-formed history)

  -- after every history an event that is not refused does what `perform` says of its kind
  pub performs : (history : List (List ℕ)) (b : List ℕ) → Unrefused (after history) b
      → outcome (after history) b ≡ perform (after history) (event_in b)
  performs history b answered = refusals.unrefused-performs (after history) b answered

  -- and an order gets the first verdict that applies to the session, the clock, its security, its customer's desk and itself; its desk's counters and rows
  -- follow that verdict, and no other word changes
  pub record Judged (w b : List ℕ) (k : ℕ) (o : Order) : Type 0 where
    pub verdict : event_answer w b ≡ answer.Verdict (verdict_at w k o)
    pub words : event_words w b ≡ put_desk w k (ordered_at w k o)

  pub judged : (history : List (List ℕ)) (b : List ℕ) (k : ℕ) (o : Order) → event_in b ≡ event.Order k o
      → Unrefused (after history) b
      → Judged (after history) b k o
  unfolding perform
  judged history b k o e answered =
      let w = after history in
      let does : outcome w b ≡ perform w (event.Order k o) = performs history b answered ∙ ap (perform w) e in
      record { verdict = ap answer_of does; words = ap (words_of w) does }

  -- "rejected or warned where the standard says so, and not otherwise": an order that is not refused gets a verdict exactly where its rule applies and none above it
  pub verdict-both-ways : (history : List (List ℕ)) (b : List ℕ) (k : ℕ) (o : Order) → event_in b ≡ event.Order k o
      → Unrefused (after history) b
      → (x : Verdict) → (event_answer (after history) b ≡ answer.Verdict x) ↔ AppliesFirst (view_at (after history) o.security k) o x
  verdict-both-ways history b k o e answered x =
      let given = (judged history b k o e answered).verdict in
      let ways = both_ways (view_at (after history) o.security k) o x in
      (λ a. ways.0 (same-verdict _ x (sym given ∙ a)), λ first. given ∙ ap answer.Verdict (ways.1 first))

  -- "Each verdict adds 1 to its counter, except where refusal 12 follows"; "each stays at 4,294,967,295 once there": after every history each counter of a
  -- customer is the number of the answers of its kind to that customer's events, up to 4,294,967,295
  pub counters : (k : ℕ) → k < customers → (history : List (List ℕ)) (c : Counter)
      → counter_in c (desk_at (after history) k)
      ≡ up_to_max (count (counts_answer c) (answers_to (belongs_to customers k) (fresh customers securities) history))
  counters k below history c =
      counts-fresh c k below (fresh customers securities) (fresh-good customers securities fit) (fresh-desk customers securities k below) history

  -- "A session that differs from the present one removes all ATO and ATC rows and makes every projected price absent", and type 3 goes as ATO does: limit rows
  -- and counters stay, and so does every other word of a security and of the header
  pub another-session : (history : List (List ℕ)) (b : List ℕ) (s : ℕ) → event_in b ≡ event.Session s
      → Unrefused (after history) b
      → (s ≡ (header_of (after history)).session → ⊥)
      → SessionChanged customers securities s (after history) (event_words (after history) b)
  another-session history b s = sessions.another-session (after history) (well-formed history) s b

  -- "the same session changes nothing"
  pub same-session : (history : List (List ℕ)) (b : List ℕ) → event_in b ≡ event.Session (header_of (after history)).session
      → event_words (after history) b ≡ after history
  same-session history = sessions.same-session (after history)

  -- "A cancel marks an open limit row cancelled at the present clock"
  pub cancel-marks : (history : List (List ℕ)) (b : List ℕ) (k : ℕ) (x : Cancel) → event_in b ≡ event.Cancel k x
      → Unrefused (after history) b
      → (r : Row) → StandsIn r (desk_at (after history) k).rows
      → r.mark ≡ open_mark → r.number ≡ x.number → r.order_type ≡ limit
      → StandsIn (cancelled_at (header_of (after history)).clock r) (desk_at (event_words (after history) b) k).rows
  cancel-marks history = minute.cancel-marks (after history) (well-formed history)

  -- "first removes that customer's rows cancelled more than 60,000 ms ago": a row cancelled at time t stands in its desk, unchanged, after any events while the
  -- clock is at most t + 60,000
  pub stays-a-minute : (k : ℕ) → k < customers → (history : List (List ℕ)) (r : Row) → r.mark ≡ cancelled_mark
      → StandsIn r (desk_at (after history) k).rows
      → (later : List (List ℕ)) → (header_of (words_after (after history) later)).clock ≤ r.cancel_time + 60_000
      → StandsIn r (desk_at (words_after (after history) later) k).rows
  stays-a-minute k below history r mark = minute.left-in-minute k below r mark (after history) (well-formed history)

  -- "removes all ATO and ATC rows", "ATO outside 1; ATC outside 4; MP outside 2", "session change treat[s] type 3 as ATO": after every history such a row is
  -- there only in the session that it was entered in
  pub in-its-session : (k : ℕ) → k < customers → (history : List (List ℕ)) (r : Row) → StandsIn r (desk_at (after history) k).rows
      → InItsSession (header_of (after history)).session r
  in-its-session k below =
      session_rows.in-its-session k below (fresh customers securities) (fresh-good customers securities fit) (fresh-desk customers securities k below)

  -- Paper 02, 1: "It makes an open type 3 row a limit at that ladder price": such a row was there, it is made a limit in its place, and no other word changes
  pub rest-limits : (history : List (List ℕ)) (b : List ℕ) (k : ℕ) (x : Rest) → event_in b ≡ event.Rest k x
      → Unrefused (after history) b
      → RestLimited (after history) (event_words (after history) b) k x
  rest-limits history = rest_rows.rest-limits (after history) (well-formed history)

  -- "without such a row it gets refusal 10, a price off the ladder 6", and it is refused for nothing else: read whole, of a customer below C, for such a row and at
  -- a ladder price it is "answered ok"
  pub rest-answered : (k : ℕ) → k < customers → (history : List (List ℕ)) (b : List ℕ) (x : Rest) → first_met (bytes_conditions b) ≡ 0 → event_in b ≡ event.Rest k x
      → any (is_rest x.number) (desk_at (after history) k).rows ≡ true
      → legal x.price ≡ true
      → event_answer (after history) b ≡ answer.Ok
  rest-answered k below history b x read e there on-ladder = rest_rows.rest-answered (after history) (well-formed history) k below x there on-ladder b read e

  -- "of type 3, sound only with price 0": after every history such a row is open, and has no price
  pub mp-row : (k : ℕ) → k < customers → (history : List (List ℕ)) (r : Row) → StandsIn r (desk_at (after history) k).rows → r.order_type ≡ mp → MpRow r
  mp-row k below history r there =
      let clock = (header_of (after history)).clock in
      let sound = desk-true securities clock (desk_at (after history) k) ((well-formed history).desks-sound k below) in
      sound_row.mp-row securities clock r (stands-all (sound_row_test securities clock) sound.each there)

  -- "W compares with such a row only once it is a limit": without its rows of type 3 a desk gives the same W
  pub w-without-mp-rows : (v : View) (o : Order) → rule_w (without_mp_rows v) o ≡ rule_w v o
  w-without-mp-rows = rest_rows.w-without-mp-rows

  -- Paper 02, 2. What the ladder answers between two steps has its laws in crates/ladder/proofs/NearestLaws.antt.
  -- "Refusal 6 .. now take[s] any prior close up to 10,000,000": a setup, read whole, of a security below S with listed codes is answered ok
  -- with an IPO price and a prior close up to 10,000,000, on the ladder or not, and refused with 6 with any other prior close
  pub close-taken : (history : List (List ℕ)) (x : Setup) → x.security < securities → sound_terms x.terms ≡ true
      → (b : List ℕ) → first_met (bytes_conditions b) ≡ 0 → event_in b ≡ event.Setup x
      → x.prior.ipo ≤ last_price → x.prior.close ≤ last_price → event_answer (after history) b ≡ answer.Ok
  close-taken history = adjusted_close.close-taken (after history) (well-formed history)

  pub close-refused : (history : List (List ℕ)) (x : Setup) → x.security < securities → sound_terms x.terms ≡ true
      → (b : List ℕ) → first_met (bytes_conditions b) ≡ 0 → event_in b ≡ event.Setup x
      → last_price < x.prior.close → event_answer (after history) b ≡ answer.Refused 6
  close-refused history = adjusted_close.close-refused (after history) (well-formed history)

  -- "Warn 10 counts up from the lower and down from the upper position": for every legal reference, and for none, the rule is paper 01's
  pub warn-10-on-the-ladder : (m : MarketView) (o : Order) → price_or_absent (reference10 m.security) ≡ true → warn10 m o ≡ warn10_on_ladder m o
  warn-10-on-the-ladder = adjusted_close.on-the-ladder

  -- and for a reference between two steps, those of the positions j and j + 1, it counts up from j and down from j + 1
  pub warn-10-between-two-steps : (m : MarketView) (o : Order) (j : ℕ) → 1 ≤ j → j < positions
      → price_at j < reference10 m.security → reference10 m.security < price_at (j + 1)
      → warn10 m o ≡ warn10_between j m o
  warn-10-between-two-steps = adjusted_close.between-two-steps

  -- so that after every history an order of a security whose prior close is absent or legal gets warn 10 where paper 01 gives it: projected prices and last sales
  -- stay on the ladder
  pub warn-10-as-before : (history : List (List ℕ)) (s : ℕ) → s < securities → price_or_absent (security_at (after history) s).prior.close ≡ true → (o : Order)
      → warn10 (market_view_at (after history) s) o ≡ warn10_on_ladder (market_view_at (after history) s) o
  warn-10-as-before history = adjusted_close.legal-close (after history) (well-formed history)

  -- Paper 02, 3: "The base is the smaller of the prior close and ..; without kind 9 figures it is the prior close."
  pub base-smaller : (close : ℕ) (f : Figures) → 1 ≤ f.old_shares → Smaller close f (base_of close f)
  base-smaller = ceiling_floor.base-smaller

  pub base-without-figures : (close : ℕ) → base_of close no_figures ≡ base close 1
  base-without-figures = ceiling_floor.base-without-figures

  -- "securities that are not free and have a prior close" have a range, after every history, and no others
  pub range-given : (history : List (List ℕ)) (s : ℕ) → s < securities → has_range (security_at (after history) s) ≡ true
      → daily_range (after history) s ≡ Some (range_of (security_at (after history) s).prior.close (security_at (after history) s).figures)
  range-given history = ceiling_floor.range-given (after history) (well-formed history)

  pub range_none : (history : List (List ℕ)) (s : ℕ) → s < securities → has_range (security_at (after history) s) ≡ false → daily_range (after history) s ≡ None
  range_none history = ceiling_floor.range_none (after history) (well-formed history)

  pub range-beyond : (history : List (List ℕ)) (s : ℕ) → securities ≤ s → daily_range (after history) s ≡ None
  range-beyond history = ceiling_floor.range-beyond (after history) (well-formed history)

  -- "Ceiling is 130% of the base, down to a legal price and at most 10,000,000; floor is 70%, up to one; both are at least 1. With a prior close below 1.00 baht the
  -- floor is 0.01 and the ceiling twice the prior close." No other number is such a ceiling or floor (`one-ceiling`, `one-floor` of RangeLaws.antt).
  pub range-in-words : (history : List (List ℕ)) (s : ℕ) → s < securities → has_range (security_at (after history) s) ≡ true
      → RangeInWords (security_at (after history) s).prior.close (base_of (security_at (after history) s).prior.close (security_at (after history) s).figures)
      (range_of (security_at (after history) s).prior.close (security_at (after history) s).figures)
  range-in-words history = ceiling_floor.range-in-words (after history) (well-formed history)

  -- the floor is at most the ceiling, but for a base between 10/7 and 20/13 satang (docs/DECISIONS.md has one)
  pub range-not-empty : (history : List (List ℕ)) (s : ℕ) → s < securities → has_range (security_at (after history) s) ≡ true → 100 ≤ (security_at (after history) s).prior.close
      → ((range_of (security_at (after history) s).prior.close (security_at (after history) s).figures).floor ≤ (range_of (security_at (after history) s).prior.close (security_at (after history) s).figures).ceiling)
      ↔ (NoneWithin (base_of (security_at (after history) s).prior.close (security_at (after history) s).figures) → ⊥)
  range-not-empty history = ceiling_floor.not-empty (after history) (well-formed history)

  -- "a main-board limit outside the range is rejected with C": after every history, of every order whose price condition 6 lets pass, told by the base alone
  pub c-by-base : (history : List (List ℕ)) (s : ℕ) → s < securities → (o : Order) → priced_as o.order_type o.price ≡ true
      → rule_c (market_view_at (after history) s) o ≡ rule_c_by_base (market_view_at (after history) s) o
  c-by-base history = ceiling_floor.c-in-state (after history) (well-formed history)

  -- "13 if old is 0 or the dividend is not below the prior close, checked after 8 on the security", and else ok: read whole, of a security below S. The shares of
  -- bytes are at most 65,535 (`two_bytes` of FiguresSet.antt).
  pub figures-taken : (history : List (List ℕ)) (x : SecurityFigures) → x.security < securities
      → (b : List ℕ) → first_met (bytes_conditions b) ≡ 0 → event_in b ≡ event.Figures x
      → 1 ≤ x.figures.old_shares → x.figures.old_shares ≤ max_shares → x.figures.new_shares ≤ max_shares
      → x.figures.dividend < (security_at (after history) x.security).prior.close → event_answer (after history) b ≡ answer.Ok
  figures-taken history = figures_set.figures-taken (after history) (well-formed history)

  pub figures-refused : (history : List (List ℕ)) (x : SecurityFigures) → x.security < securities
      → (b : List ℕ) → first_met (bytes_conditions b) ≡ 0 → event_in b ≡ event.Figures x
      → (x.figures.old_shares ≡ 0) ⊎ ((security_at (after history) x.security).prior.close ≤ x.figures.dividend)
      → event_answer (after history) b ≡ answer.Refused 13
  figures-refused history = figures_set.figures-refused (after history) (well-formed history)

  -- kind 9 changes these four words of its security, and no other
  pub figures-alone : (history : List (List ℕ)) (b : List ℕ) (x : SecurityFigures) → event_in b ≡ event.Figures x → Unrefused (after history) b
      → event_words (after history) b ≡ put_security (after history) x.security (with_figures x.figures (security_at (after history) x.security))
  figures-alone history = figures_set.figures-alone (after history)

  -- "New kind 9", "kind 3 clears it": they alone change figures, and those of their own security
  pub figures-done : (history : List (List ℕ)) (b : List ℕ) (s : ℕ) → s < securities → Unrefused (after history) b
      → (security_at (event_words (after history) b) s).figures ≡ figures_by (event_in b) s (security_at (after history) s).figures
  figures-done history = figures_set.figures-done (after history) (well-formed history)

  -- "Kinds 5 to 7 belong to the customer they name; 1 to 4 .. are market events. An event that meets condition 2 or 3 below, or one with a customer of C or
  -- more, belongs to nobody."; paper 02, 1, of kind 8: "The event belongs to its customer."; kind 9 names none, and is the market's
  pub belongs : (b : List ℕ) → Belongs customers b
  belongs b = ownership.belongs customers b

  -- DEMAND 3: for every history and every customer k, "these answers, rows, counters and words are exactly those of the lone run in document 01, which is
  -- fed these events and nothing of the others"
  pub record Isolated (k : ℕ) (history : List (List ℕ)) : Type 0 where
    pub answers : answers_to (is_fed customers k) (fresh customers securities) history ≡ lone_answers (lone_fresh customers securities) (keep (is_fed customers k) history)
    pub market : market_words (after history) ≡ (lone_after (lone_fresh customers securities) (keep (is_fed customers k) history)).market
    pub desk : customer_words (after history) k ≡ desk_words (lone_after (lone_fresh customers securities) (keep (is_fed customers k) history)).desk

  fresh-lone : (k : ℕ) → k < customers → lone_of (fresh customers securities) k ≡ lone_fresh customers securities
  fresh-lone k below i = record { market = fresh-market customers securities i; desk = fresh-desk customers securities k below i }

  pub isolated : (k : ℕ) → k < customers → (history : List (List ℕ)) → Isolated k history
  isolated k below history =
      let w = fresh customers securities in
      let good = fresh-good customers securities fit in
      let start = ap (λ (l : Lone). lone_after l (keep (is_fed customers k) history)) (fresh-lone k below) in
      let same = sym (same_after k below w good history) ∙ start in
      record {
        answers =
            sym (same-answers k below w good history) ∙ ap (λ (l : Lone). lone_answers l (keep (is_fed customers k) history)) (fresh-lone k below);
        market = ap (λ (l : Lone). l.market) same;
        desk = state.customer-words (after history) (well-formed history).sized k below ∙ ap (λ (l : Lone). desk_words l.desk) same;
      }

  -- "Any two histories from fresh states of one size that hold the same market events and the same events of one customer, in the same order among
  -- themselves, are alike in the answers to these events and, after the whole list, in that customer's rows and counters and in the market's words,
  -- however the other customers' events, and those that belong to nobody, are changed, added, dropped or moved"
  pub record Alike (k : ℕ) (one other : List (List ℕ)) : Type 0 where
    pub answers : answers_to (is_fed customers k) (fresh customers securities) one ≡ answers_to (is_fed customers k) (fresh customers securities) other
    pub market : market_words (after one) ≡ market_words (after other)
    pub desk : customer_words (after one) k ≡ customer_words (after other) k

  pub alike : (k : ℕ) → k < customers → (one other : List (List ℕ)) → keep (is_fed customers k) one ≡ keep (is_fed customers k) other → Alike k one other
  alike k below one other same =
      let a = isolated k below one in
      let b = isolated k below other in
      let lone = lone_fresh customers securities in
      record {
        answers = a.answers ∙ ap (lone_answers lone) same ∙ sym b.answers;
        market = a.market ∙ ap (λ (bs : List (List ℕ)). (lone_after lone bs).market) same ∙ sym b.market;
        desk = a.desk ∙ ap (λ (bs : List (List ℕ)). desk_words (lone_after lone bs).desk) same ∙ sym b.desk;
      }

-- Paper 02, 4, of any words, since nothing is asked of a history here: "Show that in two lent states of one length, alike in the header, the order's security and its
-- desk, the order gets the same answer, leaves these alike and changes no other word, whatever the others hold." Of calls of `gate::handle` it is in
-- crates/gate/proofs/OneOrder.antt.
pub one-order : (v w b : List ℕ) (k : ℕ) (o : Order) → event_in b ≡ event.Order k o → AlikeFor o.security k v w → OneOrder o.security k b v w
one-order v w b k o is-order alike = one_order.one-order b k o is-order v w alike
