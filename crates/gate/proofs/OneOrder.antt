-- Paper 02, 4, of the code: two calls of `gate::handle` with one order, over two states that are alike for it. All that is known of a call is `Learnt`, which is what the
-- contract of `gate::handle` in src/lib.rt tells a caller; the theorem over the definitions is `one-order` of crates/definitions/proofs/Demands.antt.
-- Assumes nothing.
use mathlib.Core.List.{List}
use mathlib.Core.Path.{◌≡◌, ap, sym, subst, ◌∙◌}
use Prim.Native.Nat.{ℕ}
use contract.Lifetimes.{Lfts}
use denote.Triple.Clauses.{AtExit}
use borrow.Fn.Kinds.{Dens, ended_of}
use Rattle.definitions.specs.declared.Order.{Order}
use Rattle.definitions.specs.declared.Event.TheVariants as event
use Rattle.definitions.specs.Answers.{answered}
use Rattle.definitions.specs.Events.{event_in}
use Rattle.definitions.specs.Gate.{event_answer, event_words}
use Rattle.definitions.proofs.Answered.{Given, one_answer}
use Rattle.definitions.proofs.OneOrder.{AlikeFor, OnlyItsDesk}
use Rattle.definitions.proofs.Demands.{one-order}
use Rattle.gate.proofs.Outcomes.{Left}
use Rattle.gate.proofs.handle.Kinds.{ps, r}
use Rattle.gate.proofs.handle.Reads.{Learnt}

-- a call that has returned: what it was lent, its answer, and what it was lent as it left it
pub record Call : Type 1 where
  pub lifetimes : Lfts 2
  pub lent : Dens lifetimes ps
  pub answer : Given
  pub left : AtExit (ended_of 2 ps r) lifetimes
  pub contract : Learnt lifetimes lent answer left

abbrev pub words : Call → List ℕ
words c = c.lent.0.now

abbrev pub bytes : Call → List ℕ
bytes c = c.lent.1.0.now

abbrev pub words_left : Call → List ℕ
words_left c = c.left.0.now

-- "the order gets the same answer, leaves these alike and changes no other word"
pub record OneOrderHandled (s k : ℕ) (one other : Call) : Type 0 where
  pub same_answer : one.answer ≡ other.answer
  pub left-alike : AlikeFor s k (words_left one) (words_left other)
  pub one_only : OnlyItsDesk k (words one) (words_left one)
  pub other-only : OnlyItsDesk k (words other) (words_left other)

answers : (c : Call) → answered c.answer ≡ event_answer (words c) (bytes c)
answers c = ap (λ (x : Left). x.0) c.contract

leaves : (c : Call) → words_left c ≡ event_words (words c) (bytes c)
leaves c = ap (λ (x : Left). x.1) c.contract

pub one-order-handled : (one other : Call) (k : ℕ) (o : Order) → bytes one ≡ bytes other → event_in (bytes one) ≡ event.Order k o
    → AlikeFor o.security k (words one) (words other)
    → OneOrderHandled o.security k one other
one-order-handled one other k o same is-order alike =
    let done = one-order (words one) (words other) (bytes one) k o is-order alike in
    let left = leaves other ∙ ap (event_words (words other)) (sym same) in
    record {
      same_answer = one_answer one.answer other.answer (answers one ∙ done.same_answer ∙ ap (event_answer (words other)) same ∙ sym (answers other));
      left-alike = rw (leaves one, left) done.left-alike;
      one_only = subst (OnlyItsDesk k (words one)) (sym (leaves one)) done.one_only;
      other-only = subst (OnlyItsDesk k (words other)) (sym left) done.other-only;
    }
