-- The head's own attempt is stored, and is committed or skipped next; and which refusals exclude one another.
use Rattle.std.proofs.Common.{◌≡◌, ℕ, ◌+◌, ◌<◌, ◌≤◌, Bool, true, false, List, [], ◌∷◌, ◌++◌, filter, length, Option, Some, None, refl, sym, ap, ap₂, ◌∙◌, subst, eq-eqb, eqb-true, true≢false, arith, is_some}
use Rattle.std.specs.Prelude.{flat_map, ◌%◌, ◌==◌, ◌&&◌, ◌||◌, not, nat_le, nat_lt, slice_get, if◌then◌else◌}
use Rattle.std.proofs.Math.Nat.{mod-eq_of_lt}
use Rattle.std.proofs.lemmas.Bool.{and_parts, le-ltb, leb-true, lt-leb, ltb-true}
use Rattle.kw_bits.specs.BitVector.{BitVector}
use Rattle.typed_core.specs.declared.design.Node.{Node}
use Rattle.typed_core.specs.declared.design.Parts.{Parts}
use Rattle.one_rule.specs.Cycle.{is_among, system_of}
use Rattle.one_rule.specs.Run.{last_registers}
use Rattle.one_rule.specs.Stimulus.{inputs_of}
use Rattle.one_rule.specs.Walk.{Walk}
use Rattle.one_rule.specs.declared.cycle.State.{State}
use Rattle.attempt_log.specs.Attempt.{Attempted}
use Rattle.attempt_log.specs.Setting.{at_design, attempt_of}
use Rattle.attempt_log.specs.Verdict.{verdict}
use Rattle.attempt_log.specs.declared.cause.StaleRead.{StaleRead}
use Rattle.attempt_log.specs.declared.cause.Verdict.{Verdict}
use Rattle.attempt_log.specs.declared.cause.Verdict.TheVariants.{Commit, Skip, Stale}
use Rattle.attempt_log.specs.declared.entry.Submitted.TheVariants as submitted
use Rattle.attempt_log.specs.declared.job.Job.{Job}
use Rattle.attempt_log.specs.declared.job.JobAnswer.{JobAnswer}
use Rattle.attempt_log.specs.declared.job.JobAnswer.TheVariants as jobs
use Rattle.attempt_log.proofs.Commits.{never_stale}
use Rattle.board_core.specs.Board.{Board, Opening, head, is_ahead, is_late, judged, node_at, settle, stands, stored, submit}
use Rattle.board_core.specs.Candidates.{Chooses, candidates, cycles, first, further, pair_at, pair_of}
use Rattle.board_core.specs.Laws.{HeadComesFirst, HeadSettles, IsRuleSettled, RefusalsExclude, head_attempt}
use Rattle.board_core.specs.Position.{IsOpening, IsPlain, visited}
use Rattle.board_core.specs.declared.candidate.Candidate.{Candidate}
use Rattle.board_core.specs.declared.event.BoardAnswer.TheVariants as answer
use Rattle.board_core.proofs.Paths.{next_is_new}
use Rattle.board_core.proofs.Plain.{scheduled}
use Rattle.board_core.proofs.Positions.{at_node}
use Rattle.board_core.proofs.Sound.{settle_node, submit_near}

-- ---- the head's attempt

judged_settles : (board : Board) (node : Node) (a : Attempted) (v : Verdict) → ((read : StaleRead) → v ≡ Stale read → ⊥) → IsRuleSettled (judged board node a v).answer
judged_settles board node a Commit h = tt
judged_settles board node a (Skip cause) h = tt
judged_settles board node a (Stale read) h = h read refl

-- the rule of the head isn't settled
pub head_is_new : (o : Opening) (board : Board) (node : Node) → IsOpening o → (plain : IsPlain o board) → head o board ≡ Some node → is_among board.settled node.rule ≡ false
head_is_new o board node opening' plain here =
    let place = ap (λ (w : Walk State). node_at o.design.nodes w.at) (sym plain.walk) ∙ here in
    ap (λ (rules : List ℕ). is_among rules node.rule) plain.settled
    ∙ next_is_new (system_of o.design) (scheduled o opening') (inputs_of o.stimulus board.cycle) (last_registers o.regs board.rows) plain.visits node place

pub head_settles : HeadSettles
head_settles o board node opening' plain window less here none =
    (ap (λ s. s.answer) stores, subst (λ s. IsRuleSettled (settle o s.board).answer) (sym stores) settles)
  where
    a : Attempted
    a = head_attempt o board node

    kept : Attempted
    kept = at_design o.design a

    late : is_late board a ≡ false
    late =
        ap₂ (λ (x y : Bool). x || y) (le-ltb board.cycle board.cycle (omega arith))
        (ap₂ (λ (x y : Bool). x && y) (eq-eqb board.cycle board.cycle refl) (head_is_new o board node opening' plain here))

    ahead : is_ahead o board a ≡ false
    ahead = ap₂ (λ (x y : Bool). x || y) (lt-leb (board.cycle + o.window) board.cycle (omega (arith, window))) (le-ltb o.to board.cycle less)

    stores : submit o board a ≡ record { answer = answer.Submit submitted.Stored; board = stored o board a }
    stores =
        submit_near o board a late ahead
        ∙ ap (λ (b : Bool). if b then (record { answer = answer.Submit (submitted.Twice a); board = board }) else record { answer = answer.Submit submitted.Stored; board = stored o board a }) (ap is_some none)

    slot : (stored o board a).slots board.cycle node.rule ≡ Some kept
    slot =
        ap₂ (λ (x y : Bool). if x && y then Some kept else board.slots board.cycle node.rule) (eq-eqb board.cycle board.cycle refl) (eq-eqb node.rule node.rule refl)

    settles : IsRuleSettled (settle o (stored o board a)).answer
    settles =
        subst (λ s. IsRuleSettled s.answer) (sym (settle_node o (stored o board a) less node (Some kept) here slot))
        (judged_settles (stored o board a) node kept (verdict board.walk.state.regs board.walk.state.past a.run)
        (λ read v. never_stale o.design node.rule (inputs_of o.stimulus board.cycle) board.walk.state.regs board.walk.state.past read v))

-- ---- the head's job

-- the attempt at these parts
abbrev made : Parts → ℕ → ℕ → List BitVector → List BitVector → Attempted
made design cycle rule inputs regs =
    record { design = design; cycle = cycle; rule = rule; inputs = inputs; run = (system_of design).alone rule inputs regs }

pub head_comes_first : HeadComesFirst
head_comes_first o board node told less here none chooses = chosen told chooses
  where
    number : ℕ
    number = (at_node o.design.nodes board.walk.at node here).0

    pair : Candidate
    pair = pair_of board.cycle (number, node)

    pairs_here : pair_at board.cycle board.walk.at (head o board) ≡ pair ∷ []
    pairs_here = ap₂ (pair_at board.cycle) (at_node o.design.nodes board.walk.at node here).1 here

    q : Candidate → Bool
    q c = not (stands board c.cycle c.rule)

    first_here : first o board ≡ pair ∷ []
    first_here =
        ap (filter q) pairs_here
        ∙ ap (λ (b : Bool). if not b then pair ∷ [] else []) (ap is_some none)

    flat_rest : List Candidate
    flat_rest = flat_map (further o board) (cycles o board)

    all_here : candidates o board ≡ pair ∷ flat_rest
    all_here = ap (λ (cs : List Candidate). cs ++ flat_rest) first_here

    chosen : (t : JobAnswer) → Chooses o board 0 t → (job : Job) × (t ≡ jobs.Job job) × (attempt_of job ≡ head_attempt o board node)
    chosen jobs.Finished c = absurd (omega (arith, less, c))
    chosen jobs.Idle c = absurd (let e : pair ∷ flat_rest ≡ [] = sym all_here ∙ c.1 in cc)
    chosen (jobs.Job job) c =
        let picked = c.1 in
        let picks = c.2 in
        let is = c.3 in
        let zero' : 0 % length (candidates o board) ≡ 0 = mod-eq_of_lt picks.0 in
        let same : picked ≡ pair = some_same (sym (ap (slice_get (candidates o board)) zero' ∙ ap (λ (cs : List Candidate). slice_get cs 0) all_here) ∙ picks.1) in
        let cycle : job.cycle ≡ board.cycle = is.cycle ∙ ap (λ (x : Candidate). x.cycle) same in
        let rule : job.rule ≡ node.rule = is.rule ∙ ap (λ (x : Candidate). x.rule) same in
        let inputs : job.inputs ≡ inputs_of o.stimulus board.cycle = is.inputs ∙ ap (λ (x : Candidate). inputs_of o.stimulus x.cycle) same in (
          job,
          refl,
          ap₂ (λ (d : Parts) (n : ℕ). made d n job.rule job.inputs job.regs) is.design cycle
              ∙ ap₂ (λ (n : ℕ) (values : List BitVector). made o.design board.cycle n values job.regs) rule inputs
              ∙ ap (made o.design board.cycle node.rule (inputs_of o.stimulus board.cycle)) is.registers,
        )
      where
        some_same : {x y : Candidate} → Some x ≡ Some y → y ≡ x
        some_same {x} {y} e = sym (ap (λ (h : Option Candidate). candidate_or x h) e)
          where
            candidate_or : Candidate → Option Candidate → Candidate
            candidate_or d None = d
            candidate_or d (Some c) = c

-- ---- refusals

pub refusals_exclude : RefusalsExclude
refusals_exclude o board a window plain = (λ late. (not_ahead late, alone late), λ ahead. absent ahead)
  where
    -- nothing is settled past the last cycle
    none_settled : o.to < board.cycle → board.settled ≡ []
    none_settled past = plain.settled ∙ ap (visited (system_of o.design) (inputs_of o.stimulus board.cycle) (last_registers o.regs board.rows)) (plain.rest past)

    not_ahead : is_late board a ≡ true → is_ahead o board a ≡ false
    not_ahead late = by (is_ahead o board a) refl
      where
        far : is_ahead o board a ≡ true → ⊥
        far ahead = first_way (nat_lt a.cycle board.cycle) refl (nat_le (board.cycle + o.window) a.cycle) refl
          where
            in_window : nat_le (board.cycle + o.window) a.cycle ≡ true → a.cycle ≤ board.cycle → ⊥
            in_window far near = let k = leb-true (board.cycle + o.window) a.cycle far in omega (arith, k, near, window)

            past_last : nat_le (board.cycle + o.window) a.cycle ≡ false → o.to < a.cycle
            past_last near = ltb-true o.to a.cycle (sym (ap (λ (b : Bool). b || nat_lt o.to a.cycle) near) ∙ ahead)

            first_way : (closed : Bool) → nat_lt a.cycle board.cycle ≡ closed → (far : Bool) → nat_le (board.cycle + o.window) a.cycle ≡ far → ⊥
            first_way true e true f = in_window f (let k = ltb-true a.cycle board.cycle e in omega (arith, k))
            first_way true e false f = let k = ltb-true a.cycle board.cycle e in let p = past_last f in omega (arith, k, p, plain.within)
            first_way false e far f =
                let here = sym (ap (λ (b : Bool). b || ((a.cycle == board.cycle) && is_among board.settled a.rule)) e) ∙ late in
                let parts = and_parts (a.cycle == board.cycle) (is_among board.settled a.rule) here in
                let same = eqb-true a.cycle board.cycle parts.0 in
                second_way far f same parts.1
              where
                second_way : (far : Bool) → nat_le (board.cycle + o.window) a.cycle ≡ far → a.cycle ≡ board.cycle → is_among board.settled a.rule ≡ true → ⊥
                second_way true f same among = in_window f (omega (arith, same))
                second_way false f same among =
                    let p = past_last f in
                    let none = none_settled (omega (arith, p, same)) in
                    true≢false (sym (sym (ap (λ (rules : List ℕ). is_among rules a.rule) none) ∙ among))

        by : (b : Bool) → is_ahead o board a ≡ b → b ≡ false
        by true e = absurd (far e)
        by false e = refl

    alone : is_late board a ≡ true → stands board a.cycle a.rule ≡ false
    alone late = by (stands board a.cycle a.rule) refl
      where
        by : (b : Bool) → stands board a.cycle a.rule ≡ b → b ≡ false
        by true e = absurd (true≢false (sym late ∙ (plain.stand a.cycle a.rule e).unsettled))
        by false e = refl

    absent : is_ahead o board a ≡ true → stands board a.cycle a.rule ≡ false
    absent ahead = by (stands board a.cycle a.rule) refl
      where
        by : (b : Bool) → stands board a.cycle a.rule ≡ b → b ≡ false
        by true e = absurd (true≢false (sym ahead ∙ (plain.stand a.cycle a.rule e).in_window))
        by false e = refl
