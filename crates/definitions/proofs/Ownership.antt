-- To whom an event belongs, said a second time, of its bytes: by its kind and by the two bytes in which kinds 5 to 8 name their customer.
-- Assumes nothing.
use mathlib.Core.Bool.{Bool, true, false, cond, ◌&&◌}
use mathlib.Core.List.{List, [], ◌∷◌}
use mathlib.Core.Logic.{◌↔◌, ◌⊎◌, inl, inr, ⊎_elim}
use mathlib.Core.Path.{◌≡◌, refl, ap, sym, subst, ◌∙◌}
use Prim.Native.Nat.{ℕ, zero, suc, ◌+◌, ◌-◌, ◌≤◌, ◌<◌}
use native.Mathlib.Nat.{not-suc-le-zero}
use native.Mathlib.Omega.{arith}
use lib.Dec.{leb, ltb, eqb}
use lib.ListN.{length, get_or, get_or-eq_default}
use borrow.Author.Tests.{eqb-true, eqb-false, eq-eqb, ne_eqb, leb-true, leb-false, le-leb, lt-leb, ltb-true, ltb-false, lt-ltb, le-ltb}
use Rattle.definitions.specs.declared.Event.{Event}
use Rattle.definitions.specs.Lists.{first_met}
use Rattle.definitions.specs.Events.{two, kinds, length_of, event_of, figures_of, bytes_conditions}
use Rattle.definitions.specs.Changes.{customer_named, Owner, market, customer, nobody, owner_named, owner_of}
use Rattle.definitions.proofs.Tests.{and_parts}

-- neither condition 2 nor condition 3 is met
abbrev pub Read : List ℕ → Type 0
Read b = first_met (bytes_conditions b) ≡ 0

abbrev pub kind_of : List ℕ → ℕ
kind_of b = get_or b 0 0

-- the customer, where the kind names one
abbrev pub customer_in : List ℕ → ℕ
customer_in b = two b 1

-- "Kinds 5 to 7 belong to the customer they name", and kind 8; "1 to 4, and any later kind that names no customer, are market events", as kind 9
abbrev pub OfCustomer : ℕ → Type 0
OfCustomer kind = (5 ≤ kind) × (kind ≤ 8)

abbrev pub OfMarket : ℕ → Type 0
OfMarket kind = ((1 ≤ kind) × (kind ≤ 4)) ⊎ (kind ≡ 9)

pub record Belongs (customers : ℕ) (b : List ℕ) : Type 0 where
  pub to-market : (owner_of customers b ≡ market) ↔ (Read b × OfMarket (kind_of b))
  pub to-customer : (k : ℕ) → (owner_of customers b ≡ customer k) ↔ (Read b × OfCustomer (kind_of b) × (customer_in b ≡ k) × (k < customers))
  pub to-nobody : (owner_of customers b ≡ nobody) ↔ ((Read b → ⊥) ⊎ (OfCustomer (kind_of b) × (customers ≤ customer_in b)))

-- a kind that is read is one of the table
read_known : (b : List ℕ) → Read b → length_of (kind_of b) ≡ 0 → ⊥
unfolding first_met
read_known b read unknown = go (eqb (length b) 0) (rw (eq-eqb (length_of (kind_of b)) 0 unknown) at read)
  where
    go : (t : Bool) → ◌≡◌ {A = ℕ} (cond t 2 3) 0 → ⊥
    go true e = omega arith
    go false e = omega arith

-- a number past the table's last is no kind
pub past-kinds : (k : ℕ) → length kinds < k → length_of k ≡ 0
unfolding length_of
past-kinds k more = rw (ne_eqb k 0 (λ e. omega arith)) (ap (λ (x : ℕ × (List ℕ → Event)). x.0) (get_or-eq_default kinds (0, figures_of) {n = k - 1} (omega arith)))

-- a kind of the table is 1 to its last, and so is the kind of an event that is read
known-kind : (n : ℕ) → (length_of n ≡ 0 → ⊥) → (1 ≤ n) × (n ≤ length kinds)
unfolding length_of
known-kind zero known = absurd (known refl)
known-kind (suc n) known = (omega arith, go (ltb (length kinds) (suc n)) refl)
  where
    go : (t : Bool) → ltb (length kinds) (suc n) ≡ t → suc n ≤ length kinds
    go true past = absurd (known (past-kinds (suc n) (ltb-true (length kinds) (suc n) past)))
    go false within = ltb-false (length kinds) (suc n) within

read-kind : (b : List ℕ) → Read b → (1 ≤ kind_of b) × (kind_of b ≤ length kinds)
read-kind b read = known-kind (kind_of b) (read_known b read)

-- whether a kind names its customer
abbrev named : ℕ → Bool
named kind = leb 5 kind && leb kind 8

named-customer : (n : ℕ) → named n ≡ true → OfCustomer n
named-customer n e = let p = and_parts (leb 5 n) (leb n 8) e in (leb-true 5 n p.0, leb-true n 8 p.1)

customer-named : (n : ℕ) → OfCustomer n → named n ≡ true
customer-named n h = rw (le-leb 5 n h.0, le-leb n 8 h.1)

unnamed-market : (n : ℕ) → 1 ≤ n → n ≤ length kinds → named n ≡ false → OfMarket n
unnamed-market n first last = go (leb 5 n) refl
  where
    go : (t : Bool) → leb 5 n ≡ t → (t && leb n 8) ≡ false → OfMarket n
    go true late e = inr (omega (arith, last, leb-false n 8 e))
    go false early e = inl (first, omega (arith, leb-false 5 n early))

market-unnamed : (n : ℕ) → OfMarket n → named n ≡ false
market-unnamed n = ⊎_elim (λ early. rw (lt-leb 5 n (omega (arith, early.1)))) (λ nine. rw nine)

-- the owner by kind, and for the kinds of customers by the customer that is named
abbrev by_kind : ℕ → ℕ → ℕ → Owner
by_kind customers kind k = cond (named kind) (cond (ltb k customers) (customer k) nobody) market

module _ (customers : ℕ) (b : List ℕ) where
  -- the kinds of a part of the table that begins with kind n
  abbrev Owners : ℕ → List (ℕ × (List ℕ → Event)) → Type 0
  Owners n [] = Unit
  Owners n (x ∷ xs) = (owner_named customers (customer_named (x.1 b)) ≡ by_kind customers n (two b 1)) × Owners (suc n) xs

  kinds-owned : Owners 1 kinds
  kinds-owned = (refl, (refl, (refl, (refl, (refl, (refl, (refl, (refl, (refl, tt)))))))))

  owner_at : (n i k : ℕ) → k ≡ n + i → (xs : List (ℕ × (List ℕ → Event))) (other : ℕ × (List ℕ → Event)) → Owners n xs → i < length xs
      → owner_named customers (customer_named ((get_or xs i other).1 b)) ≡ by_kind customers k (two b 1)
  owner_at n i k is [] other owned inside = absurd (not-suc-le-zero inside)
  owner_at n zero k is (x ∷ xs) other owned inside =
      let same : n ≡ k = omega arith in
      owned.0 ∙ ap (λ (m : ℕ). by_kind customers m (two b 1)) same
  owner_at n (suc i) k is (x ∷ xs) other owned inside = owner_at (suc n) i k (omega arith) xs other owned.1 (omega arith)

  owner-of-kind : (n : ℕ) → (length_of n ≡ 0 → ⊥) → owner_named customers (customer_named (event_of n b)) ≡ by_kind customers n (two b 1)
  unfolding event_of
  owner-of-kind n known =
      let inside = known-kind n known in
      owner_at 1 (n - 1) n (omega (arith, inside.0)) kinds (0, figures_of) kinds-owned (omega (arith, inside.0, inside.1))

-- which of the four an owner comes from
data Owns (customers : ℕ) (b : List ℕ) : Owner → Type 0 where
  market-kind : Read b → OfMarket (kind_of b) → Owns customers b market
  own-kind : (k : ℕ) → customer_in b ≡ k → Read b → OfCustomer (kind_of b) → k < customers → Owns customers b (customer k)
  beyond-last : OfCustomer (kind_of b) → customers ≤ customer_in b → Owns customers b nobody
  unread : (Read b → ⊥) → Owns customers b nobody

module _ (customers : ℕ) (b : List ℕ) where
  owner-read : Read b → owner_of customers b ≡ by_kind customers (kind_of b) (customer_in b)
  unfolding owner_of
  owner-read read = rw (eq-eqb (first_met (bytes_conditions b)) 0 read) (owner-of-kind customers b (kind_of b) (read_known b read))

  owner-unread : (Read b → ⊥) → owner_of customers b ≡ nobody
  unfolding owner_of
  owner-unread not-read = rw (ne_eqb (first_met (bytes_conditions b)) 0 not-read)

  owns : Owns customers b (owner_of customers b)
  owns = go (eqb (first_met (bytes_conditions b)) 0) refl
    where
      by-kind : Read b → (t u : Bool) → named (kind_of b) ≡ t → ltb (customer_in b) customers ≡ u → Owns customers b (cond t (cond u (customer (customer_in b)) nobody) market)
      by-kind read true true own inside = own-kind (customer_in b) refl read (named-customer (kind_of b) own) (ltb-true (customer_in b) customers inside)
      by-kind read true false own outside = beyond-last (named-customer (kind_of b) own) (ltb-false (customer_in b) customers outside)
      by-kind read false u other inside =
          let known = read-kind b read in
          market-kind read (unnamed-market (kind_of b) known.0 known.1 other)

      go : (t : Bool) → eqb (first_met (bytes_conditions b)) 0 ≡ t → Owns customers b (owner_of customers b)
      go true e =
          let read : Read b = eqb-true (first_met (bytes_conditions b)) 0 e in
          subst (Owns customers b) (sym (owner-read read)) (by-kind read (named (kind_of b)) (ltb (customer_in b) customers) refl refl)
      go false e =
          let not-read : Read b → ⊥ = eqb-false (first_met (bytes_conditions b)) 0 e in
          subst (Owns customers b) (sym (owner-unread not-read)) (unread not-read)

  market-from : Owns customers b market → Read b × OfMarket (kind_of b)
  market-from (market-kind read kind) = (read, kind)

  customer-from : (k : ℕ) → Owns customers b (customer k) → Read b × OfCustomer (kind_of b) × (customer_in b ≡ k) × (k < customers)
  customer-from k (own-kind j own read kind inside) = (read, kind, own, inside)

  nobody-from : Owns customers b nobody → (Read b → ⊥) ⊎ (OfCustomer (kind_of b) × (customers ≤ customer_in b))
  nobody-from (beyond-last kind outside) = inr (kind, outside)
  nobody-from (unread not-read) = inl not-read

  owner-named : Read b → OfCustomer (kind_of b) → owner_of customers b ≡ cond (ltb (customer_in b) customers) (customer (customer_in b)) nobody
  owner-named read kind = owner-read read ∙ rw (customer-named (kind_of b) kind)

  owner-beyond : OfCustomer (kind_of b) → customers ≤ customer_in b → owner_of customers b ≡ nobody
  owner-beyond kind outside = go (eqb (first_met (bytes_conditions b)) 0) refl
    where
      go : (t : Bool) → eqb (first_met (bytes_conditions b)) 0 ≡ t → owner_of customers b ≡ nobody
      go true e = owner-named (eqb-true (first_met (bytes_conditions b)) 0 e) kind ∙ rw (le-ltb (customer_in b) customers outside)
      go false e = owner-unread (eqb-false (first_met (bytes_conditions b)) 0 e)

  pub belongs : Belongs customers b
  belongs =
      record {
        to-market = (λ e. market-from (subst (Owns customers b) e owns), λ h. owner-read h.0 ∙ rw (market-unnamed (kind_of b) h.1));
        to-customer =
            λ k. (
              λ e. customer-from k (subst (Owns customers b) e owns),
              λ h. owner-named h.0 h.1 ∙ rw (h.2, lt-ltb k customers h.3),
            );
        to-nobody = (λ e. nobody-from (subst (Owns customers b) e owns), ⊎_elim owner-unread (λ h. owner-beyond h.0 h.1));
      }
