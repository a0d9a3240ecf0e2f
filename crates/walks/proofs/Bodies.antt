-- What follows some parts of a body, which the generated MIR has under no name.
-- Assumes nothing.
use Prim.Native.Nat.{ℕ, zero, suc}
use mir.Syntax.{Body, skip, seq, assign, block, loop, cond, switch, exit, return, call, unreachable, call_v, lend_static}

-- what follows the first part of a sequence
abbrev pub after : Body → Body
after (seq a b) = b
after skip = skip
after (assign p r) = skip
after (block b) = skip
after (loop b) = skip
after (cond c a b) = skip
after (switch c arms) = skip
after (exit n) = skip
after return = skip
after (call f xs d) = skip
after unreachable = skip
after (call_v o g xs d) = skip
after (lend_static p t c) = skip

-- and the first k
abbrev pub past : ℕ → Body → Body
past zero b = b
past (suc k) b = past k (after b)
