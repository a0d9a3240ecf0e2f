-- `day::main`: the words are made.
use Prim.Native.Nat.{ℕ}
use lib.ListN.{length-replicate}
use Rattle.day.proofs.Laws.{is_made}
use Rattle.day.proofs.main.Goals as goal

pub prove-unreachable-requires : goal.prove-unreachable-requires
prove-unreachable-requires c = let done = is_made _ (length-replicate {A = ℕ} _ 0) _ c.make-made.ensures in cc
