-- The loops of a session change, record by record, and the change as the two of them make it.
-- Assumes nothing.
use mathlib.Core.Bool.{Bool, true, cond}
use mathlib.Core.List.{List, [], ◌∷◌}
use mathlib.Core.Path.{◌≡◌, refl, ap, sym, subst, ◌∙◌}
use Prim.Native.Nat.{ℕ, ◌+◌, ◌≤◌, ◌<◌}
use native.Mathlib.Nat.{le_refl}
use native.Mathlib.Omega.{arith}
use lib.Dec.{lit≤, lit<}
use lib.ListN.{length, set}
use lib.Seq.{set_split}
use borrow.Author.Tests.{eq-eqb, ne_eqb}
use Rattle.definitions.specs.declared.Header.{Header}
use Rattle.definitions.specs.declared.Event.TheVariants as event
use Rattle.definitions.specs.Answers as answer
use Rattle.definitions.specs.Lists.{each, put}
use Rattle.definitions.specs.State.{security_size, desk_size, session_place, security_place, desk_place, state_size, header_of, state_fits}
use Rattle.definitions.specs.Desks.{changed, session_row}
use Rattle.definitions.specs.Gate.{result_of, change_security, change_desk, after_session, session_market, perform}
use Rattle.definitions.specs.Securities.{without_projected}
use Rattle.definitions.proofs.Lists.{each_next}
use Rattle.definitions.proofs.State.{Sized, fits-sized}
use Rattle.definitions.proofs.HeaderWords as words
use Rattle.definitions.proofs.Session.{Cleared, clears, DesksChanged, changes}
use Rattle.state.proofs.Fits.{fits-header}
use Rattle.kind_contract.proofs.Done.{Left}

-- what the loops require: the words are as many as the header says
abbrev pub Long : List ℕ → Type 0
Long w = length w ≡ state_size (header_of w).customers (header_of w).securities

abbrev pub cleared_at : ℕ → List ℕ → List ℕ
cleared_at = change_security without_projected

abbrev pub changed_at : ℕ → List ℕ → List ℕ
changed_at = change_desk (changed session_row)

-- after i turns of a loop over n records, the words v are those of the definition so far
pub record SoFar (f : ℕ → List ℕ → List ℕ) (w : List ℕ) (n : ℕ) (v : List ℕ) (i : ℕ) : Type 0 where
  pub within : i ≤ n
  pub words : v ≡ each i f w

module _ (f : ℕ → List ℕ → List ℕ) (w : List ℕ) {n : ℕ} where
  pub so-far-start : SoFar f w n w 0
  unfolding each
  so-far-start = record { within = omega arith; words = refl }

  pub so-far-next : {v u : List ℕ} {i : ℕ} → SoFar f w n v i → i < n → u ≡ f i v → SoFar f w n u (i + 1)
  so-far-next {v} {u} {i} so_far less eu = record { within = omega arith; words = eu ∙ ap (f i) so_far.words ∙ sym (each_next f i w) }

  pub so-far-end : {v : List ℕ} {i m : ℕ} → SoFar f w n v i → n ≤ i → n ≡ m → v ≡ each m f w
  so-far-end {v} {i} {m} so_far past same =
      let all : i ≡ m = omega (arith, so_far.within) in
      so_far.words ∙ ap (λ (j : ℕ). each j f w) all

-- the words keep their size, so that the next record is there
module _ (w : List ℕ) (long : Long w) where
  sized : Sized (header_of w).customers (header_of w).securities w
  sized = record { long = long; counted = refl }

  cleared-so-far : {n : ℕ} {v : List ℕ} {i : ℕ} → n ≡ (header_of w).securities → SoFar cleared_at w n v i → Cleared (header_of w).customers (header_of w).securities i w v
  cleared-so-far {n} {v} {i} en so_far =
      subst (Cleared (header_of w).customers (header_of w).securities i w) (sym so_far.words) (clears i w sized (omega (arith, so_far.within)))

  pub cleared-room : {n : ℕ} {v : List ℕ} {i : ℕ} → n ≡ (header_of w).securities → SoFar cleared_at w n v i → i < n → security_place i + security_size ≤ length v
  cleared-room en so_far less = omega (arith, (cleared-so-far en so_far).sized.long)

  pub cleared-length : {n : ℕ} {v : List ℕ} {i : ℕ} → n ≡ (header_of w).securities → SoFar cleared_at w n v i → length v ≡ length w
  cleared-length en so_far = (cleared-so-far en so_far).sized.long ∙ sym long

  changed-so-far : {n : ℕ} {v : List ℕ} {i : ℕ} → n ≡ (header_of w).customers → SoFar changed_at w n v i → DesksChanged (header_of w).customers (header_of w).securities i w v
  changed-so-far {n} {v} {i} en so_far =
      subst (DesksChanged (header_of w).customers (header_of w).securities i w) (sym so_far.words) (changes i w sized (omega (arith, so_far.within)))

  pub changed-room : {n : ℕ} {v : List ℕ} {i : ℕ} → n ≡ (header_of w).customers → SoFar changed_at w n v i → i < n → desk_place (header_of v).securities i + desk_size ≤ length v
  changed-room en so_far less =
      let c = changed-so-far en so_far in
      omega (arith, c.sized.long, c.sized.counted)

  pub changed-length : {n : ℕ} {v : List ℕ} {i : ℕ} → n ≡ (header_of w).customers → SoFar changed_at w n v i → length v ≡ length w
  changed-length en so_far = (changed-so-far en so_far).sized.long ∙ sym long

module _ (w : List ℕ) (fits : state_fits w ≡ true) (s : ℕ) where
  session-set : set w session_place s ≡ put w session_place (s ∷ [])
  unfolding put
  session-set = set_split w session_place s (omega (arith, fits-header w fits))

  -- the header with the session set has its counts
  header-set : header_of (set w session_place s) ≡ words.with_session s (header_of w)
  header-set = ap header_of session-set ∙ words.header-session s w (fits-header w fits)

  -- the words with the session set are still as many as their header says
  pub session-long : Long (set w session_place s)
  session-long =
      rw (header-set, session-set) (words.sized-put w (fits-sized w fits) session_place (lit≤ tt) (lit< tt) s).long

  abbrev cleared : List ℕ
  cleared = each (header_of (set w session_place s)).securities cleared_at (set w session_place s)

  all-cleared : Cleared (header_of (set w session_place s)).customers (header_of (set w session_place s)).securities (header_of (set w session_place s)).securities (set w session_place s) cleared
  all-cleared = clears _ (set w session_place s) (sized (set w session_place s) session-long) (le_refl _)

  -- and after the first loop too
  pub cleared-long : {v : List ℕ} → v ≡ cleared → Long v
  cleared-long ev = rw (ev, all-cleared.header) all-cleared.sized.long

  pub session-same : {h : Header} → h ≡ header_of w → s ≡ h.session → ◌≡◌ {A = Left} (answer.Ok, w) (result_of w (perform w (event.Session s)))
  unfolding perform after_session
  session-same eh same = rw (eq-eqb s (header_of w).session (same ∙ ap (λ (x : Header). x.session) eh))

  pub session-done : {h : Header} {v u : List ℕ} → h ≡ header_of w → (s ≡ h.session → ⊥) → v ≡ cleared → u ≡ each (header_of v).customers changed_at v
      → ◌≡◌ {A = Left} (answer.Ok, u) (result_of w (perform w (event.Session s)))
  unfolding perform after_session session_market
  session-done {h} {v} {u} eh differ ev eu =
      let market : v ≡ each (header_of w).securities cleared_at (put w session_place (s ∷ [])) = ev ∙ rw (header-set, session-set) in
      let customers : (header_of v).customers ≡ (header_of w).customers = ap (λ (x : List ℕ). (header_of x).customers) ev ∙ ap (λ (x : Header). x.customers) (all-cleared.header ∙ header-set) in
      let apart : s ≡ (header_of w).session → ⊥ = λ e. differ (e ∙ sym (ap (λ (x : Header). x.session) eh)) in
      ap {B = Left} (λ (x : List ℕ). (answer.Ok, x)) (eu ∙ ap (λ (n : ℕ). each n changed_at v) customers ∙ ap (each (header_of w).customers changed_at) market)
      ∙ ap {B = Left} (λ (t : Bool). (answer.Ok, cond t w (each (header_of w).customers changed_at (each (header_of w).securities cleared_at (put w session_place (s ∷ [])))))) (sym (ne_eqb s (header_of w).session apart))
