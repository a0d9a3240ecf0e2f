-- `events::read_event` meets its contract: each return is the reading that the tests before it leave.
use mathlib.Core.Path.{◌≡◌, refl, ap, sym, ◌∙◌}
use Rattle.std.proofs.Common.{rules}
use Rattle.std.proofs.lemmas.Result.{err_from_is_err_and}
use Prim.Native.Nat.{ℕ}
use mathlib.Core.List.{List}
use lib.ListN.{get_or}
use Rattle.definitions.specs.Events.{length_of, event_of}
use Rattle.events.specs.declared.kind.Kind.{Kind}
use Rattle.events.specs.Kinds.{kind_number}
use Rattle.events.proofs.Laws.{has-length, empty, unknown-kind, wrong-length, read_whole}
use Rattle.events.proofs.read_event.Goals as goal

pub returns-then-is_empty : goal.returns-then-is_empty
returns-then-is_empty c = empty _ (search rules)

pub returns-in_err-kind : goal.returns-in_err-kind
returns-in_err-kind c =
    let p = err_from_is_err_and c.from_residual.result c.from_residual.ensures.1 in
    rw (p.1, p.2, c.in_err-kind.ensures.0) (unknown-kind _ (search rules) refl c.in_err-kind.ensures.1)

-- the length of the kind that the first byte names
of-kind : (b : List ℕ) (k : Kind) {n : ℕ} → n ≡ length_of (kind_number k) → kind_number k ≡ get_or b 0 0 → (n ≡ length_of (get_or b 0 0)) × (n ≡ 0 → ⊥)
of-kind b k e same = (e ∙ ap length_of same, λ none. has-length k (sym e ∙ none))

pub returns-then-bytes-length : goal.returns-then-bytes-length
returns-then-bytes-length c =
    let known = of-kind c.args.bytes.now c.in_ok-kind.kind c.length.ensures c.in_ok-kind.ensures in
    wrong-length _ (search rules) known.0 known.1 c.if-bytes-length.true

pub returns : goal.returns
returns c =
    let named = of-kind c.args.bytes.now c.in_ok-kind.kind c.length.ensures c.in_ok-kind.ensures in
    read_whole _ (search rules) named.0 named.1 c.if-bytes-length.false (c.event_of.ensures ∙ ap (λ (k : ℕ). event_of k c.args.bytes.now) c.in_ok-kind.ensures)
