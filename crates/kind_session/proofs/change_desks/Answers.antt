-- `kind_session::change_desks` meets its contract: after each turn the words are those of the definition so far.
use mathlib.Core.Path.{ap, ◌∙◌}
use Rattle.definitions.specs.declared.Header.{Header}
use Rattle.definitions.specs.State.{put_desk}
use Rattle.definitions.specs.Desks.{changed, session_row}
use Rattle.kind_session.proofs.Laws.{changed_at, so-far-start, so-far-next, changed-room}
use Rattle.kind_session.proofs.change_desks.Goals as goal

pub loop-k-preserved : goal.loop-k-preserved
loop-k-preserved c =
    so-far-next changed_at _ c.loop-k.invariant c.loop-k-test.true
    (c.put_desk.ensures ∙ ap (put_desk c.loop-k.words c.loop-k.k) (c.session_changed.ensures ∙ ap (changed session_row) c.desk_at-desk.ensures))

pub loop-k-init : goal.loop-k-init
loop-k-init c = so-far-start changed_at _

pub desk_at-desk-requires : goal.desk_at-desk-requires
desk_at-desk-requires c = changed-room _ c.requires (ap (λ (h : Header). h.customers) c.header_of-h.ensures) c.loop-k.invariant c.loop-k-test.true

pub put_desk-requires : goal.put_desk-requires
put_desk-requires c = changed-room _ c.requires (ap (λ (h : Header). h.customers) c.header_of-h.ensures) c.loop-k.invariant c.loop-k-test.true
