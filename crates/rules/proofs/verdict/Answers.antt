-- `rules::verdict` meets its contract: each return is the verdict of the first rule that applies.
use Prim.Native.Nat.{ℕ}
use lib.ListN.{drop}
use borrow.Author.Tests.{ne_eqb}
use Rattle.definitions.specs.Rules.{View}
use Rattle.definitions.proofs.Tests.{known}
use Rattle.rules.proofs.Laws.{Left, all_rules, all_left, next, first, none, not-w, not-p}
use Rattle.rules.proofs.verdict.Goals as goal
use Rattle.rules.proofs.verdict.Goals.{Else-rule_c, Else-rule_q, Else-rule_s, Else-rule_v, Else-warn_10, Else-warn_30, Joined-else-covered_by_p, Joined-else-o-eq-ONLINE, Start, else-covered_by_p-via-else-covered_by_p, else-covered_by_p-via-then-covered_by_p+else-rule_p, else-o-eq-ONLINE-via-else-o-eq-ONLINE, else-o-eq-ONLINE-via-then-o-eq-ONLINE+else-rule_w}

-- the first n rules do not apply to the arguments
abbrev Past : ℕ → Start → Type 0
Past n c =
    let v : View = record { market = c.args.m; desk = c.args.d } in
    Left v c.args.o (drop n (all_rules v c.args.o))

past-s : (c : Else-rule_s) → Past 1 c.before.before
past-s c = next all_left (search known)

past-v : (c : Else-rule_v) → Past 2 c.before.before.before.before
past-v c = next (past-s c.before.before) (search known)

past-c : (c : Else-rule_c) → Past 3 c.before.before.before.before.before.before
past-c c = next (past-v c.before.before) (known c.rule_c.ensures c.if-rule_c.false)

past-q : (c : Else-rule_q) → Past 4 c.before.before.before.before.before.before.before.before
past-q c = next (past-c c.before.before) (known c.rule_q.ensures c.if-rule_q.false)

past-w : (c : Joined-else-o-eq-ONLINE) → Past 5 c.before.before.before.before.before.before.before.before.before.before
past-w c =
    next (past-q c.before.before)
    (elim c.else-o-eq-ONLINE.branch [
      | else-o-eq-ONLINE-via-then-o-eq-ONLINE+else-rule_w w ↦ known w.rule_w.ensures w.if-rule_w.false
      | else-o-eq-ONLINE-via-else-o-eq-ONLINE w ↦ not-w _ _ (ne_eqb _ _ w.if-o-eq-ONLINE.false)
    ])

past-p : (c : Joined-else-covered_by_p) → Past 6 c.before.before.before.before.before.before.before.before.before.before.before.before
past-p c =
    next (past-w c.before.before)
    (elim c.else-covered_by_p.branch [
      | else-covered_by_p-via-then-covered_by_p+else-rule_p w ↦ known w.rule_p.ensures w.if-rule_p.false
      | else-covered_by_p-via-else-covered_by_p w ↦ not-p _ _ (known c.covered_by_p.ensures w.if-covered_by_p.false)
    ])

past-30 : (c : Else-warn_30) → Past 7 c.before.before.before.before.before.before.before.before.before.before.before.before.before.before
past-30 c = next (past-p c.before.before) (known c.warn_30.ensures c.if-warn_30.false)

past-10 : (c : Else-warn_10) → Past 8 c.before.before.before.before.before.before.before.before.before.before.before.before.before.before.before.before
past-10 c = next (past-30 c.before.before) (known c.warn_10.ensures c.if-warn_10.false)

pub returns-then-rule_s : goal.returns-then-rule_s
returns-then-rule_s c = first all_left (search known)

pub returns-then-rule_v : goal.returns-then-rule_v
returns-then-rule_v c = first (past-s c.before.before) (search known)

pub returns-then-rule_c : goal.returns-then-rule_c
returns-then-rule_c c = first (past-v c.before.before) (known c.rule_c.ensures c.if-rule_c.true)

pub returns-then-rule_q : goal.returns-then-rule_q
returns-then-rule_q c = first (past-c c.before.before) (known c.rule_q.ensures c.if-rule_q.true)

pub returns-then-rule_w : goal.returns-then-rule_w
returns-then-rule_w c = first (past-q c.before.before.before.before) (known c.rule_w.ensures c.if-rule_w.true)

pub returns-then-rule_p : goal.returns-then-rule_p
returns-then-rule_p c = first (past-w c.before.before.before.before) (known c.rule_p.ensures c.if-rule_p.true)

pub returns-then-warn_30 : goal.returns-then-warn_30
returns-then-warn_30 c = first (past-p c.before.before) (known c.warn_30.ensures c.if-warn_30.true)

pub returns-then-warn_10 : goal.returns-then-warn_10
returns-then-warn_10 c = first (past-30 c.before.before) (known c.warn_10.ensures c.if-warn_10.true)

pub returns : goal.returns
returns c = none (past-10 c)

pub rule_c-requires : goal.rule_c-requires
rule_c-requires c = (c.requires.0, c.requires.1)
