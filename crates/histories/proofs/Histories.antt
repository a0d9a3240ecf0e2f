-- A list of events, handled one after another: the first event and the rest, and demand 3 of the numbers that are written.
-- Assumes nothing.
use mathlib.Core.Bool.{Bool, true, false, cond}
use mathlib.Core.List.{List, [], ◌∷◌, ◌++◌, map, append_assoc, append-nil}
use mathlib.Core.Path.{◌≡◌, refl, ap, ap₂, sym, subst, ◌∙◌}
use Prim.Native.Nat.{ℕ, zero, suc, ◌+◌, ◌-◌, ◌≤◌, ◌<◌, min}
use native.Mathlib.Numerals.{add-one}
use native.Mathlib.Omega.{arith}
use lib.ListN.{length, get_or, take, drop, set, drop_of_length-le, length-drop, length-set, take-append-drop}
use lib.Seq.{take_all, drop-drop, take-suc-set, drop-set-lt, take-append_seam, drop-append_seam, take_at}
use Rattle.std.proofs.lemmas.Option.{cond_some}
use lib.Dec.{ltb, leb}
use borrow.Author.Tests.{ltb-true, ltb-false, leb-true, leb-false}
use Rattle.definitions.specs.Lists.{keep}
use Rattle.definitions.specs.State.{sizes_fit, fresh}
use Rattle.definitions.specs.Gate.{result_of, outcome, event_words, event_answer, words_after, answers_to}
use Rattle.definitions.specs.Lone.{is_fed, market_words, customer_words}
use Rattle.definitions.specs.Walk.{split}
use Rattle.definitions.specs.Answers.{Answer, answer_number}
use Rattle.gate.proofs.Outcomes.{Left}
use Rattle.definitions.proofs.Lists.{drop-next}
use Rattle.definitions.proofs.Demands.{isolated, alike}
use Rattle.std.specs.Prelude.{Option, Some, None}
use Rattle.reader.specs.Places.{found_at}
use Rattle.reader.proofs.Laws.{event-at, end-at, split-none, split-next, joined}
use Rattle.histories.specs.Ran.{picked, Ran, cut, Alone, handed, listed_end}

-- every event is answered
abbrev pub every : List ℕ → Bool
every b = true

abbrev pub numbers : List ℕ → List (List ℕ) → List ℕ
numbers w bs = map answer_number (answers_to every w bs)

-- the numbers written to the events that a test picks are those of the answers to them
picked-numbers : (p : List ℕ → Bool) (w : List ℕ) (bs : List (List ℕ)) → picked p bs (numbers w bs) ≡ map answer_number (answers_to p w bs)
unfolding picked answers_to
picked-numbers p w [] = refl
picked-numbers p w (b ∷ bs) = go (p b) (picked-numbers p (event_words w b) bs)
  where
    go : (t : Bool) → picked p bs (numbers (event_words w b) bs) ≡ map answer_number (answers_to p (event_words w b) bs)
        → cond t (answer_number (event_answer w b) ∷ picked p bs (numbers (event_words w b) bs)) (picked p bs (numbers (event_words w b) bs))
        ≡ map answer_number (cond t (event_answer w b ∷ answers_to p (event_words w b) bs) (answers_to p (event_words w b) bs))
    go true ih = ap (λ (xs : List ℕ). answer_number (event_answer w b) ∷ xs) ih
    go false ih = ih

length-numbers : (w : List ℕ) (bs : List (List ℕ)) → length (numbers w bs) ≡ length bs
unfolding answers_to
length-numbers w [] = refl
length-numbers w (b ∷ bs) = ap suc (length-numbers (event_words w b) bs)

-- demand 3 of the words and the numbers that a history leaves
alone-after : (customers securities : ℕ) → sizes_fit customers securities ≡ true → (k : ℕ) → k < customers → (history : List (List ℕ)) {v xs : List ℕ}
    → v ≡ words_after (fresh customers securities) history → xs ≡ numbers (fresh customers securities) history → Alone customers securities k history xs v
alone-after customers securities fit k below history ends written =
    let i = isolated customers securities fit k below history in
    record {
      answers_same =
          ap (picked (is_fed customers k) history) written
          ∙ picked-numbers (is_fed customers k) (fresh customers securities) history
          ∙ ap (map answer_number) i.answers;
      market_same = ap market_words ends ∙ i.market;
      desk_same = ap (λ (u : List ℕ). customer_words u k) ends ∙ i.desk;
    }

-- what a loop over a history has done: count events are answered, and those that are left do the rest
pub record SoFar (w₀ : List ℕ) (history : List (List ℕ)) (a₀ w a : List ℕ) (left : List (List ℕ)) (count : ℕ) : Type 0 where
  pub long : length a ≡ length a₀
  pub kept : length w ≡ length w₀
  pub rest : drop count a ≡ drop count a₀
  pub words : words_after w left ≡ words_after w₀ history
  pub answers : take count a ++ numbers w left ≡ numbers w₀ history
  pub counted : count + length left ≡ length history

pub begin : (w a : List ℕ) (history : List (List ℕ)) → SoFar w history a w a history 0
begin w a history = record { long = refl; kept = refl; rest = refl; words = refl; answers = refl; counted = omega arith }

module _ (w₀ : List ℕ) (history : List (List ℕ)) (a₀ w a : List ℕ) (left : List (List ℕ)) (count : ℕ) (so_far : SoFar w₀ history a₀ w a left count) where
  -- one event more
  pub turn : (e : List ℕ) (more : List (List ℕ)) {v : List ℕ} {x : ℕ} → count < length a → left ≡ e ∷ more
      → length v ≡ length w → v ≡ event_words w e → x ≡ answer_number (event_answer w e) → SoFar w₀ history a₀ v (set a count x) more (count + 1)
  unfolding words_after answers_to
  turn e more {v} {x} h events same ev ex =
      let stored : take (count + 1) (set a count x) ≡ take count a ++ (x ∷ []) = rw add-one (take-suc-set a count x h) in
      record {
        long = simp length-set so_far.long;
        kept = same ∙ so_far.kept;
        rest =
            drop-set-lt (count + 1) a count x (omega arith)
            ∙ sym (drop-drop 1 count a)
            ∙ ap (drop 1) so_far.rest
            ∙ drop-drop 1 count a₀;
        words = ap (λ (u : List ℕ). words_after u more) ev ∙ ap (words_after w) (sym events) ∙ so_far.words;
        answers =
            ap₂ (λ (t : List ℕ) (u : List ℕ). t ++ numbers u more) stored ev
            ∙ append_assoc (take count a) (x ∷ []) (numbers (event_words w e) more)
            ∙ ap (λ (n : ℕ). take count a ++ (n ∷ numbers (event_words w e) more)) ex
            ∙ ap (λ (bs : List (List ℕ)). take count a ++ numbers w bs) (sym events)
            ∙ so_far.answers;
        counted = omega (arith, so_far.counted, ap length events);
      }

  -- nothing is left
  pub finish : left ≡ [] → Ran w₀ history a₀ count w a
  unfolding words_after answers_to
  finish none =
      let after : w ≡ words_after w₀ history = ap (words_after w) (sym none) ∙ so_far.words in
      let written : take count a ≡ numbers w₀ history =
      sym (append-nil (take count a)) ∙ ap (λ (bs : List (List ℕ)). take count a ++ numbers w bs) (sym none) ∙ so_far.answers in
      record {
        events_counted = omega (arith, so_far.counted, ap length none);
        words_follow = after;
        answers_written = sym (take-append-drop count a) ∙ ap₂ (λ (x y : List ℕ). x ++ y) written so_far.rest;
        alone =
            λ customers securities fit start k below.
            alone-after customers securities fit k below history (after ∙ ap (λ (u : List ℕ). words_after u history) start) (written ∙ ap (λ (u : List ℕ). numbers u history) start);
      }

-- where nothing is found there is no event, and where an end is found the event goes up to it
module _ (ends : ℕ → ℕ → Option ℕ) (b : List ℕ) (at count : ℕ) where
  pub handed-none : (n : ℕ) → ends at count ≡ None → handed ends b n at count ≡ []
  unfolding handed
  handed-none zero none = refl
  handed-none (suc n) none = rw (none, handed)

  pub handed-next : (n end : ℕ) → ends at count ≡ Some end → handed ends b (suc n) at count ≡ take (end - at) (drop at b) ∷ handed ends b n end (count + 1)
  unfolding handed
  handed-next n end some = rw (some, handed)

-- a loop over the events that bytes hand in
abbrev pub Turns : (ℕ → ℕ → Option ℕ) → List ℕ → List ℕ → List ℕ → List ℕ → List ℕ → ℕ → ℕ → Type 0
Turns ends w₀ b a₀ w a at count = SoFar w₀ (handed ends b (length a₀) 0 0) a₀ w a (handed ends b (length a₀ - count) at count) count

pub turns-none : (ends : ℕ → ℕ → Option ℕ) (w b a : List ℕ) → Turns ends w b a w a 0 0
turns-none ends w b a =
    let none : length a ≡ length a - 0 = omega arith in
    subst (λ (n : ℕ). SoFar w (handed ends b (length a) 0 0) a w a (handed ends b n 0 0) 0) none (begin w a (handed ends b (length a) 0 0))

module _ (ends : ℕ → ℕ → Option ℕ) (w₀ b a₀ w a : List ℕ) (at count : ℕ) (turns : Turns ends w₀ b a₀ w a at count) where
  pub turns-next : (end : ℕ) {v : List ℕ} {x : ℕ} {r : Answer} → count < length a → ends at count ≡ Some end
      → length v ≡ length w → ◌≡◌ {A = Left} (r, v) (result_of w (outcome w (take (end - at) (drop at b)))) → x ≡ answer_number r
      → Turns ends w₀ b a₀ v (set a count x) end (count + 1)
  turns-next end h some same done number =
      let left : ℕ = length a₀ - (count + 1) in
      let one_more : length a₀ - count ≡ suc left = omega (arith, turns.long) in
      turn w₀ (handed ends b (length a₀) 0 0) a₀ w a (handed ends b (length a₀ - count) at count) count turns (take (end - at) (drop at b)) (handed ends b left end (count + 1)) h
      (ap (λ (n : ℕ). handed ends b n at count) one_more ∙ handed-next ends b at count left end some)
      same (ap (λ (x : Left). x.1) done) (number ∙ ap answer_number (ap (λ (x : Left). x.0) done))

  -- no event is left, or no place for an answer
  pub turns-end : ends at count ≡ None → Ran w₀ (handed ends b (length a₀) 0 0) a₀ count w a
  turns-end none = finish w₀ _ a₀ w a _ count turns (handed-none ends b at count (length a₀ - count) none)

  pub turns-full : length a ≤ count → Ran w₀ (handed ends b (length a₀) 0 0) a₀ count w a
  unfolding handed
  turns-full full =
      let nothing : length a₀ - count ≡ 0 = omega (arith, turns.long) in
      finish w₀ _ a₀ w a _ count turns (ap (λ (n : ℕ). handed ends b n at count) nothing)

-- the reader's events
pub handed-split : (b : List ℕ) (n at count : ℕ) → handed (λ from _. found_at b from) b n at count ≡ split n (drop at b)
unfolding handed split
handed-split b zero at count = refl
handed-split b (suc n) at count = go (found_at b at) refl (λ end. handed-split b n end (count + 1))
  where
    go : (found : Option ℕ) → found_at b at ≡ found → ((end : ℕ) → handed (λ from _. found_at b from) b n end (count + 1) ≡ split n (drop end b))
        → handed (λ from _. found_at b from) b (suc n) at count ≡ split (suc n) (drop at b)
    go None none more = handed-none (λ from _. found_at b from) b at count (suc n) none ∙ sym (split-none (suc n) b at (end-at b at none))
    go (Some end) some more =
        handed-next (λ from _. found_at b from) b at count n end some
        ∙ ap (λ (es : List (List ℕ)). take (end - at) (drop at b) ∷ es) (more end)
        ∙ sym (split-next n b at end (event-at b at end some))

-- as many bytes as are wanted, or those that are left
module _ (b : List ℕ) (at n : ℕ) (h : at ≤ length b) where
  listed-event : take (at + min n (length b - at) - at) (drop at b) ≡ take n (drop at b)
  listed-event = go (leb n (length b - at)) refl
    where
      go : (t : Bool) → leb n (length b - at) ≡ t → take (at + min n (length b - at) - at) (drop at b) ≡ take n (drop at b)
      go true e =
          let room = leb-true n (length b - at) e in
          let long : at + min n (length b - at) - at ≡ n = omega arith in
          ap (λ (k : ℕ). take k (drop at b)) long
      go false e =
          let short = leb-false n (length b - at) e in
          take_all (at + min n (length b - at) - at) (drop at b) (omega (arith, length-drop at b)) ∙ sym (take_all n (drop at b) (omega (arith, length-drop at b)))

  listed-rest : drop (at + min n (length b - at)) b ≡ drop n (drop at b)
  listed-rest = go (leb n (length b - at)) refl
    where
      go : (t : Bool) → leb n (length b - at) ≡ t → drop (at + min n (length b - at)) b ≡ drop n (drop at b)
      go true e =
          let room = leb-true n (length b - at) e in
          let long : at + min n (length b - at) ≡ at + n = omega arith in
          ap (λ (k : ℕ). drop k b) long ∙ sym (drop-drop n at b)
      go false e =
          let short = leb-false n (length b - at) e in
          drop_of_length-le b (omega arith) ∙ sym (drop_of_length-le (drop at b) {i = n} (omega (arith, length-drop at b)))

pub listed-within : (b ns : List ℕ) (at count end : ℕ) → at ≤ length b → Some end ≡ listed_end b ns at count → (at ≤ end) × (end ≤ length b)
listed-within b ns at count end h some =
    let there = (cond_some (ltb count (length ns)) (at + min (get_or ns count 0) (length b - at)) end (sym some)).1 in
    (omega arith, omega arith)

-- the events by their lengths
pub handed-cut : (b ns : List ℕ) (n at count : ℕ) → at ≤ length b → handed (listed_end b ns) b n at count ≡ cut (take n (drop count ns)) (drop at b)
unfolding handed cut
handed-cut b ns zero at count h = refl
handed-cut b ns (suc n) at count h =
    go (ltb count (length ns)) refl (handed-cut b ns n (at + min (get_or ns count 0) (length b - at)) (count + 1) (omega arith))
  where
    go : (t : Bool) → ltb count (length ns) ≡ t
        → handed (listed_end b ns) b n (at + min (get_or ns count 0) (length b - at)) (count + 1) ≡ cut (take n (drop (count + 1) ns)) (drop (at + min (get_or ns count 0) (length b - at)) b)
        → handed (listed_end b ns) b (suc n) at count ≡ cut (take (suc n) (drop count ns)) (drop at b)
    go true e more =
        let some : listed_end b ns at count ≡ Some (at + min (get_or ns count 0) (length b - at)) = rw e in
        handed-next (listed_end b ns) b at count n _ some
        ∙ rw (more, listed-event b at (get_or ns count 0) h, listed-rest b at (get_or ns count 0) h, drop-next ns count 0 (ltb-true count (length ns) e))
    go false e more =
        let none : listed_end b ns at count ≡ None = rw e in
        handed-none (listed_end b ns) b at count (suc n) none
        ∙ rw (drop_of_length-le ns (ltb-false count (length ns) e))

-- every history can be handed in by its bytes and lengths
pub every-history : (history : List (List ℕ)) → cut (map length history) (joined history) ≡ history
unfolding cut
every-history [] = refl
every-history (e ∷ es) = rw (take-append_seam e (joined es), drop-append_seam e (joined es), every-history es)

-- a history that is handed in by two calls
pub after-joined : (w : List ℕ) (h g : List (List ℕ)) → words_after w (h ++ g) ≡ words_after (words_after w h) g
unfolding words_after
after-joined w [] g = refl
after-joined w (e ∷ h) g = after-joined (event_words w e) h g

pub answers-joined : (w : List ℕ) (h g : List (List ℕ)) → numbers w (h ++ g) ≡ numbers w h ++ numbers (words_after w h) g
unfolding words_after answers_to
answers-joined w [] g = refl
answers-joined w (e ∷ h) g = ap (λ (xs : List ℕ). answer_number (event_answer w e) ∷ xs) (answers-joined (event_words w e) h g)

-- "Any two histories from fresh states of one size that hold the same market events and the same events of one customer, in the same order among
-- themselves, are alike", of what two calls left
pub record Alike (customers k : ℕ) (h g : List (List ℕ)) (answers others v x : List ℕ) : Type 0 where
  pub answers-alike : picked (is_fed customers k) h answers ≡ picked (is_fed customers k) g others
  pub market : market_words v ≡ market_words x
  pub desk : customer_words v k ≡ customer_words x k

ran-numbers : (w : List ℕ) (h : List (List ℕ)) {a : List ℕ} {m : ℕ} {v c : List ℕ} → Ran w h a m v c → take m c ≡ numbers w h
ran-numbers w h {a} {m} ran =
    ap (take m) ran.answers_written ∙ take_at (numbers w h) (drop m a) m (length-numbers w h ∙ sym ran.events_counted)

pub ran-alike : (customers securities k : ℕ) → sizes_fit customers securities ≡ true → k < customers → (h g : List (List ℕ)) {a b : List ℕ} {m n : ℕ} {v c x d : List ℕ}
    → Ran (fresh customers securities) h a m v c → Ran (fresh customers securities) g b n x d → keep (is_fed customers k) h ≡ keep (is_fed customers k) g
    → Alike customers k h g (take m c) (take n d) v x
ran-alike customers securities k fit below h g one other same =
    let start = fresh customers securities in
    let fed = is_fed customers k in
    let both = alike customers securities fit k below h g same in
    record {
      answers-alike =
          ap (picked fed h) (ran-numbers start h one)
          ∙ picked-numbers fed start h
          ∙ ap (map answer_number) both.answers
          ∙ sym (picked-numbers fed start g)
          ∙ sym (ap (picked fed g) (ran-numbers start g other));
      market = ap market_words one.words_follow ∙ both.market ∙ sym (ap market_words other.words_follow);
      desk = ap (λ (u : List ℕ). customer_words u k) one.words_follow ∙ both.desk ∙ sym (ap (λ (u : List ℕ). customer_words u k) other.words_follow);
    }
