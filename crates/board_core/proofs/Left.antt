-- What is left to do on a board falls with each rule that is settled and each cycle that is closed.
use Rattle.std.proofs.Common.{◌≡◌, ℕ, ◌+◌, ◌-◌, ◌*◌, ◌<◌, ◌≤◌, Bool, true, false, List, [], ◌∷◌, length, Option, Some, None, refl, sym, ap, ap₂, ◌∙◌, subst, true≢false, arith}
use Rattle.std.specs.Prelude.{nat_lt, if◌then◌else◌}
use Rattle.std.proofs.Math.Nat.{add-mul}
use Rattle.std.proofs.lemmas.Bool.{ltb-false}
use Rattle.std.proofs.lemmas.Option.{slice_get_within}
use Rattle.typed_core.specs.Valid.{IsContinuation, IsNode}
use Rattle.typed_core.specs.declared.design.Next.{Next}
use Rattle.typed_core.specs.declared.design.Next.TheVariants as next
use Rattle.typed_core.specs.declared.design.Node.{Node}
use Rattle.one_rule.specs.Cycle.{system_of}
use Rattle.one_rule.specs.Run.{run}
use Rattle.one_rule.specs.Stimulus.{inputs_of}
use Rattle.typed_core.specs.Continuations.{root}
use Rattle.attempt_log.specs.Attempt.{Attempted}
use Rattle.attempt_log.specs.Entries.{goes_on}
use Rattle.attempt_log.specs.Verdict.{verdict}
use Rattle.attempt_log.specs.declared.cause.Verdict.{Verdict}
use Rattle.attempt_log.specs.declared.cause.Verdict.TheVariants.{Commit, Skip, Stale}
use Rattle.attempt_log.specs.declared.entry.Settled.{Settled}
use Rattle.attempt_log.specs.declared.entry.Settled.TheVariants as settled
use Rattle.attempt_log.specs.declared.entry.Submitted.TheVariants as submitted
use Rattle.board_core.specs.Board.{Board, Opening, BoardStep, head, is_ahead, is_late, judged, settle, settle_at, settle_with, stands, stays, stored, submit}
use Rattle.board_core.specs.Kept.{AtPlain, Does, Kept, StandsFor, left}
use Rattle.board_core.specs.Laws.{GoingOnLowers, SubmitsKeep, left_of}
use Rattle.board_core.specs.Position.{IsOpening, nodes_left, steps_left}
use Rattle.board_core.specs.declared.event.BoardAnswer.{BoardAnswer}
use Rattle.board_core.specs.declared.event.BoardAnswer.TheVariants as answer
use Rattle.board_core.proofs.Positions.{at_node}

-- a continuation has fewer nodes left
continues : (nodes : List Node) (number : ℕ) (at : Next) → number < length nodes → IsContinuation (length nodes) number at → nodes_left nodes at < length nodes - number
continues nodes number (next.Node to) within inside = omega (arith, within, inside.0, inside.1)
continues nodes number next.End within inside = omega (arith, within)

from_root : (nodes : List Node) → nodes_left nodes (root nodes) ≤ length nodes
from_root [] = omega arith
from_root (n ∷ nodes) = omega arith

-- the measure after this answer
abbrev Measured : Opening → Board → Settled → ℕ → Type 0
Measured o board told after = (goes_on told ≡ true → after < left_of o board) × (goes_on told ≡ false → after ≡ left_of o board)

-- the measure after a step, as its answer says
abbrev Lowers : Opening → Board → BoardStep → Type 0
Lowers o board s = (told : Settled) → s.answer ≡ answer.Settle told → Measured o board told (left_of o s.board)

told_same : (s t : Settled) → answer.Settle s ≡ answer.Settle t → s ≡ t
told_same s t e = ap settled_in e
  where
    settled_in : BoardAnswer → Settled
    settled_in (answer.Settle x) = x
    settled_in (answer.Submit x) = s

lowered : (o : Opening) (board : Board) (s : Settled) (after : Board) → Measured o board s (left_of o after) → Lowers o board (record { answer = answer.Settle s; board = after })
lowered o board s after m told e = subst (λ (t : Settled). Measured o board t (left_of o after)) (told_same s told e) m

falls : (o : Opening) (board : Board) (after : ℕ) → after < left_of o board → (told : Settled) → goes_on told ≡ true → Measured o board told after
falls o board after less told goes = (λ _. less, λ e. absurd (true≢false (sym goes ∙ e)))

keeps : (o : Opening) (board : Board) (after : ℕ) → after ≡ left_of o board → (told : Settled) → goes_on told ≡ false → Measured o board told after
keeps o board after same told stays' = (λ e. absurd (true≢false (sym e ∙ stays')), λ _. same)

module _ (o : Opening) (opening' : IsOpening o) (board : Board) (less : board.cycle ≤ o.to) where
  -- the walk goes on from a node
  moves : (node : Node) → head o board ≡ Some node → (at : Next) → ((number : ℕ) → IsNode (length o.design.rules) (length o.design.nodes) number node → IsContinuation (length o.design.nodes) number at)
      → steps_left o board.cycle at < left_of o board
  moves node here at continuation =
      let (to, is, found) = at_node o.design.nodes board.walk.at node here in
      let inside = opening'.design.nodes to node found in
      let within = slice_get_within o.design.nodes to node found in
      let fewer = continues o.design.nodes to at within (continuation to inside) in
      let same : nodes_left o.design.nodes board.walk.at ≡ length o.design.nodes - to = ap (nodes_left o.design.nodes) is in
      omega (arith, fewer, same)

  judged_lowers : (node : Node) → head o board ≡ Some node → (a : Attempted) (v : Verdict) → Lowers o board (judged board node a v)
  judged_lowers node here a Commit =
      lowered o board (settled.Committed board.cycle node.rule) (judged board node a Commit).board
      (falls o board _ (moves node here node.yes (λ number n. n.yes)) (settled.Committed board.cycle node.rule) refl)
  judged_lowers node here a (Skip cause) =
      lowered o board (settled.Skipped board.cycle node.rule cause) (judged board node a (Skip cause)).board
      (falls o board _ (moves node here node.no (λ number n. n.no)) (settled.Skipped board.cycle node.rule cause) refl)
  judged_lowers node here a (Stale read) =
      lowered o board (settled.Stale board.cycle node.rule read) (judged board node a (Stale read)).board
      (keeps o board _ refl (settled.Stale board.cycle node.rule read) refl)

  with_lowers : (node : Node) → head o board ≡ Some node → (held : Option Attempted) → Lowers o board (settle_with board node held)
  with_lowers node here None = lowered o board (settled.Waiting board.cycle node.rule) board (keeps o board _ refl (settled.Waiting board.cycle node.rule) refl)
  with_lowers node here (Some a) = judged_lowers node here a (verdict board.walk.state.regs board.walk.state.past a.run)

  -- a cycle has one step more than nodes
  closes : steps_left o (board.cycle + 1) (root o.design.nodes) < left_of o board
  closes =
      let n = length o.design.nodes in
      let cycles : o.to + 1 - board.cycle ≡ 1 + (o.to + 1 - (board.cycle + 1)) = omega (arith, less) in
      let one = ap (λ (k : ℕ). k * (n + 1)) cycles ∙ add-mul 1 (o.to + 1 - (board.cycle + 1)) (n + 1) in
      omega (arith, one, from_root o.design.nodes)

  at_lowers : (n : Option Node) → head o board ≡ n → Lowers o board (settle_at o board n)
  at_lowers None here =
      lowered o board (settled.CycleClosed board.cycle) (settle_at o board None).board
      (falls o board _ closes (settled.CycleClosed board.cycle) refl)
  at_lowers (Some node) here = with_lowers node here (board.slots board.cycle node.rule)

pub going_on_lowers : GoingOnLowers
going_on_lowers o board told opening' plain is = chosen (nat_lt o.to board.cycle) refl told is
  where
    chosen : (b : Bool) → nat_lt o.to board.cycle ≡ b → Lowers o board (if b then stays board (answer.Settle settled.Finished) else settle_at o board (head o board))
    chosen true h = lowered o board settled.Finished board (keeps o board _ refl settled.Finished refl)
    chosen false h = at_lowers o opening' board (ltb-false o.to board.cycle h) (head o board) refl

pub submits_keep : SubmitsKeep
submits_keep o board a = chosen (is_late board a) (is_ahead o board a) (stands board a.cycle a.rule)
  where
    chosen : (late ahead twice : Bool)
        → left_of o (if late then stays board (answer.Submit (submitted.Late a)) else if ahead then stays board (answer.Submit (submitted.Ahead a)) else if twice then stays board (answer.Submit (submitted.Twice a)) else record { answer = answer.Submit submitted.Stored; board = stored o board a }).board ≡ left_of o board
    chosen true ahead twice = refl
    chosen false true twice = refl
    chosen false false true = refl
    chosen false false false = refl

-- ---- cores

module _ (old new : Kept) (p : AtPlain old) (same : new.opening ≡ old.opening) where
  left_before : left old ≡ left_of old.opening p.board
  left_before = ap₂ (steps_left old.opening) p.stands.cycle p.stands.place.at

  left_after : (board : Board) → StandsFor new board → left new ≡ left_of old.opening board
  left_after board st = ap (λ (o : Opening). steps_left o new.cycle new.place.at) same ∙ ap₂ (steps_left old.opening) st.cycle st.place.at

  pub settle_measures : (told : Settled) → Does settle old (answer.Settle told) new → (goes_on told ≡ true → left new < left old) × (goes_on told ≡ false → left new ≡ left old)
  settle_measures told does =
      let d = does p.board p.stands in
      let m = going_on_lowers old.opening p.board told p.opening p.plain (sym d.0) in
      let after = left_after (settle old.opening p.board).board d.1 in
      (λ goes. omega (arith, m.0 goes, left_before, after), λ stays'. after ∙ m.1 stays' ∙ sym left_before)

  pub submit_measures : (a : Attempted) (told : BoardAnswer) → Does (λ o board. submit o board a) old told new → left new ≡ left old
  submit_measures a told does =
      let d = does p.board p.stands in
      left_after (submit old.opening p.board a).board d.1 ∙ submits_keep old.opening p.board a ∙ sym left_before

-- a finished core has the rows of the whole run
pub whole_run : (kept : Kept) → AtPlain kept → kept.opening.to < kept.cycle → kept.rows ≡ run (system_of kept.opening.design) (inputs_of kept.opening.stimulus) kept.opening.regs kept.opening.from kept.opening.to
whole_run kept p past =
    let o = kept.opening in
    let last : p.board.cycle - 1 ≡ o.to = omega (arith, past, p.stands.cycle, p.plain.within) in
    p.stands.rows ∙ p.plain.rows ∙ ap (run (system_of o.design) (inputs_of o.stimulus) o.regs o.from) last
