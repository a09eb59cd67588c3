-- What a core does to what it keeps is what the board step does to the board that it stands for.
use Rattle.std.proofs.Common.{◌≡◌, ℕ, ◌+◌, ◌-◌, ◌*◌, ◌<◌, ◌≤◌, Bool, true, false, List, [], ◌∷◌, ◌++◌, length, replicate, Option, Some, None, All, refl, sym, ap, ap₂, ◌∙◌, subst, eqb-true, arith, is_some}
use Rattle.std.specs.Prelude.{◌==◌, ◌&&◌, ◌||◌, nat_le, nat_lt, option_map, slice_index_or, slice_set, if◌then◌else◌}
use Rattle.std.proofs.lemmas.Bool.{le-ltb, leb-false, ltb-false}
use Rattle.std.proofs.lemmas.List.{get_or_default, get_or-replicate, length-replicate, length-set, length_push, set-get_or}
use Rattle.std.proofs.lemmas.List.Elements.{All-pop, All-set}
use Rattle.kw_bits.specs.BitVector.{BitVector}
use Rattle.typed_core.specs.declared.design.Next.TheVariants as next
use Rattle.typed_core.specs.Same.{SameDesign}
use Rattle.typed_core.specs.Widths.{HaveWidths}
use Rattle.typed_core.specs.declared.design.Node.{Node}
use Rattle.typed_core.specs.declared.design.Parts.{Parts}
use Rattle.typed_core.specs.declared.design.RegDecl.{RegDecl}
use Rattle.one_rule.specs.Cycle.{begin, flags, is_among, numbers, system_of}
use Rattle.one_rule.specs.Run.{last_registers, opening}
use Rattle.one_rule.specs.Stimulus.{inputs_of}
use Rattle.one_rule.specs.Walk.{Walk, start}
use Rattle.one_rule.specs.declared.cycle.State.{State}
use Rattle.one_rule.specs.declared.rows.Row.{Row}
use Rattle.one_rule.proofs.Alike.{length-same}
use Rattle.one_rule.proofs.WalkLaws.{IsAhead}
use Rattle.attempt_log.specs.Attempt.{Attempted, IsAttempt}
use Rattle.attempt_log.specs.Past as past
use Rattle.attempt_log.specs.Past.{kinds}
use Rattle.attempt_log.specs.Setting.{IsFor, at_design}
use Rattle.attempt_log.specs.Verdict.{verdict}
use Rattle.attempt_log.specs.declared.cause.Verdict.{Verdict}
use Rattle.attempt_log.specs.declared.cause.Verdict.TheVariants.{Commit, Skip, Stale}
use Rattle.attempt_log.specs.declared.entry.Settled.TheVariants as settled
use Rattle.attempt_log.specs.declared.entry.Submitted.TheVariants as submitted
use Rattle.board_core.specs.Board.{Board, Opening, BoardStep, closed, head, is_ahead, is_late, judged, node_at, opened, with_slot, setting_of, settle, settle_at, settle_with, stands, stays, stored, submit}
use Rattle.board_core.specs.Kept.{Does, IsAt, Kept, StandsFor, slots_from}
use Rattle.board_core.specs.inner.Kept.{HasSlots, HoldsSame, IsBlank, IsNear, IsShaped, IsSound, comes_ahead, comes_late, opened_on}
use Rattle.board_core.specs.Position.{IsOpening, IsPlain, StandsRight}
use Rattle.board_core.specs.declared.blank.Blank.{Blank}
use Rattle.board_core.specs.declared.event.BoardAnswer.{BoardAnswer}
use Rattle.board_core.specs.declared.event.BoardAnswer.TheVariants as answer
use Rattle.board_core.specs.declared.kept.TheConstants.{MAX_CYCLES, MAX_WINDOW}
use Rattle.board_core.specs.declared.place.Place.{Place}
use Rattle.attempt_log.proofs.Alike.{register_widths-same}
use Rattle.board_core.proofs.Flags.{flag_at}
use Rattle.board_core.proofs.Open.{neither}
use Rattle.board_core.proofs.Paths.{next_is_new}
use Rattle.board_core.proofs.Plain.{held_slot, opened_plain, scheduled, settle_plain, stored_plain}
use Rattle.board_core.proofs.Positions.{at_node, position_inside}
use Rattle.board_core.proofs.Slots.{All-moved_up, from_on, moved_up, none_stands, slots_next, slots_set}

-- ---- submitting

module _ (o : Opening) (board : Board) (a : Attempted) where
  pub submit_late : is_late board a ≡ true → submit o board a ≡ stays board (answer.Submit (submitted.Late a))
  submit_late late = ap (λ (b : Bool). if b then stays board (answer.Submit (submitted.Late a)) else if is_ahead o board a then stays board (answer.Submit (submitted.Ahead a)) else if stands board a.cycle a.rule then stays board (answer.Submit (submitted.Twice a)) else record { answer = answer.Submit submitted.Stored; board = stored o board a }) late

  in_time : is_late board a ≡ false → submit o board a ≡ (if is_ahead o board a then stays board (answer.Submit (submitted.Ahead a)) else if stands board a.cycle a.rule then stays board (answer.Submit (submitted.Twice a)) else record { answer = answer.Submit submitted.Stored; board = stored o board a })
  in_time late = ap (λ (b : Bool). if b then stays board (answer.Submit (submitted.Late a)) else if is_ahead o board a then stays board (answer.Submit (submitted.Ahead a)) else if stands board a.cycle a.rule then stays board (answer.Submit (submitted.Twice a)) else record { answer = answer.Submit submitted.Stored; board = stored o board a }) late

  pub submit_ahead : is_late board a ≡ false → is_ahead o board a ≡ true → submit o board a ≡ stays board (answer.Submit (submitted.Ahead a))
  submit_ahead late ahead = in_time late ∙ ap (λ (b : Bool). if b then stays board (answer.Submit (submitted.Ahead a)) else if stands board a.cycle a.rule then stays board (answer.Submit (submitted.Twice a)) else record { answer = answer.Submit submitted.Stored; board = stored o board a }) ahead

  pub submit_near : is_late board a ≡ false → is_ahead o board a ≡ false → submit o board a ≡ (if stands board a.cycle a.rule then stays board (answer.Submit (submitted.Twice a)) else record { answer = answer.Submit submitted.Stored; board = stored o board a })
  submit_near late ahead = in_time late ∙ ap (λ (b : Bool). if b then stays board (answer.Submit (submitted.Ahead a)) else if stands board a.cycle a.rule then stays board (answer.Submit (submitted.Twice a)) else record { answer = answer.Submit submitted.Stored; board = stored o board a }) ahead

-- a step that is this one
pub steps_so : (kept : Kept) (told : BoardAnswer) (s t : BoardStep) → s ≡ t → told ≡ t.answer → StandsFor kept t.board → (told ≡ s.answer) × StandsFor kept s.board
steps_so kept told s t e same st = (same ∙ sym (ap (λ (x : BoardStep). x.answer) e), subst (λ (x : BoardStep). StandsFor kept x.board) (sym e) st)

-- the tests are the board's
module _ (kept : Kept) (board : Board) (st : StandsFor kept board) (a : Attempted) where
  pub late_same : a.rule < length kept.opening.design.rules → comes_late kept a ≡ is_late board a
  late_same within =
      let flag = ap (λ (fs : List Bool). slice_index_or fs a.rule false) st.place.settled ∙ flag_at (length kept.opening.design.rules) board.settled a.rule false within in
      ap₂ (λ (c : ℕ) (f : Bool). nat_lt a.cycle c || ((a.cycle == c) && f)) st.cycle flag

  pub ahead_same : comes_ahead kept a ≡ is_ahead kept.opening board a
  ahead_same = ap (λ (c : ℕ). nat_le (c + kept.opening.window) a.cycle || nat_lt kept.opening.to a.cycle) st.cycle

-- an attempt that is near is in the window
pub near_is : (kept : Kept) (a : Attempted) → IsNear kept a → (kept.cycle ≤ a.cycle) × (a.cycle < kept.cycle + kept.opening.window)
near_is kept a near =
    let late = neither (nat_lt a.cycle kept.cycle) ((a.cycle == kept.cycle) && slice_index_or kept.place.settled.items a.rule false) near.in_time in
    let ahead = neither (nat_le (kept.cycle + kept.opening.window) a.cycle) (nat_lt kept.opening.to a.cycle) near.in_window in
    (ltb-false a.cycle kept.cycle late.0, leb-false (kept.cycle + kept.opening.window) a.cycle ahead.0)

-- the slots with one that is written
abbrev pub written : Kept → ℕ → ℕ → Option Attempted → Kept
written kept ahead rule held = record kept { slots = slice_set kept.slots ahead (slice_set (slice_index_or kept.slots ahead []) rule held) }

-- what is kept at a design of equal value, at the board's own
abbrev pub home : Kept → Option Attempted → Option Attempted
home kept held = option_map (at_design kept.opening.design) held

home_if : (kept : Kept) (b : Bool) (x y : Option Attempted) → home kept (if b then x else y) ≡ (if b then home kept x else home kept y)
home_if kept true x y = refl
home_if kept false x y = refl

pub some_home : (kept : Kept) (held : Option Attempted) → is_some (home kept held) ≡ is_some held
some_home kept None = refl
some_home kept (Some a) = refl

-- a place fits designs of equal value alike
pub shaped_alike : (d e : Parts) (place : Place) → SameDesign d e → IsShaped d place → IsShaped e place
shaped_alike d e place h s =
    record {
      registers = subst (λ (widths : List ℕ). HaveWidths widths place.regs) (register_widths-same d e h) s.registers;
      fired = s.fired ∙ length-same d.rules e.rules h.rules;
      settled = s.settled ∙ length-same d.rules e.rules h.rules;
      places = s.places ∙ ap (λ (regs : List RegDecl). kinds * length regs) h.regs;
      few = s.few;
    }

pub at_alike : (d e : Parts) (place : Place) (walk : Walk State) (done : List ℕ) → SameDesign d e → IsAt d place walk done → IsAt e place walk done
at_alike d e place walk done h at =
    record {
      at = at.at;
      registers = at.registers;
      fired = at.fired ∙ ap (λ (n : ℕ). flags n (numbers walk.state.past)) (length-same d.rules e.rules h.rules);
      past = subst (λ (widths : List ℕ). past.StandsFor widths place.past walk.state.past) (register_widths-same d e h) at.past;
      settled = at.settled ∙ ap (λ (n : ℕ). flags n done) (length-same d.rules e.rules h.rules);
    }

-- there is a slot for each rule
pub has_slot : (kept : Kept) (blanks : List Blank) (room : ℕ) → IsSound kept blanks room → (ahead rule : ℕ) → ahead < length kept.slots → rule < length kept.opening.design.rules → rule < length (slice_index_or kept.slots ahead [])
has_slot kept blanks room s ahead rule inside within = omega (arith, (s.slots ahead [] inside).count, within)

-- empty slots hold nothing
pub no_slots : (design : Parts) → HasSlots design (replicate (length design.rules) None)
no_slots design =
    let none : Option Attempted = None in
    record {
      count = length-replicate (length design.rules) none;
      same = λ k d inside. subst (HoldsSame design) (sym (get_or-replicate (length design.rules) k none d (omega (arith, inside, length-replicate (length design.rules) none)))) tt;
    }

pub slots_written : (kept : Kept) (blanks : List Blank) (room : ℕ) → IsSound kept blanks room → (ahead rule : ℕ) (held : Option Attempted) → ahead < length kept.slots → HoldsSame kept.opening.design held → All (HasSlots kept.opening.design) (written kept ahead rule held).slots
slots_written kept blanks room s ahead rule held inside same =
    let row = slice_index_or kept.slots ahead [] in
    let before = s.slots ahead [] inside in
    All-set (HasSlots kept.opening.design) kept.slots ahead (slice_set row rule held)
    (record { count = length-set row rule held ∙ before.count; same = All-set (HoldsSame kept.opening.design) row rule held same before.same })
    s.slots

module _ (kept : Kept) (blanks : List Blank) (room : ℕ) (s : IsSound kept blanks room) (a : Attempted) (is : IsAttempt a) (for : IsFor (setting_of kept.opening) a) (near : IsNear kept a) where
  ahead_by : ℕ
  ahead_by = a.cycle - kept.cycle

  pub store_inside : a.cycle - kept.cycle < length kept.slots
  store_inside = let n = near_is kept a near in omega (arith, n.0, n.1, s.cycles)

  pub rule_within : a.rule < length kept.opening.design.rules
  rule_within = subst (λ (n : ℕ). a.rule < n) (length-same a.design.rules kept.opening.design.rules for.design.rules) is.rule

  pub store_stands : (board : Board) → StandsFor kept board → StandsFor (written kept (a.cycle - kept.cycle) a.rule (Some a)) (stored kept.opening board a)
  store_stands board st =
      let n = near_is kept a near in
      let this : kept.cycle + (a.cycle - kept.cycle) ≡ a.cycle = omega (arith, n.0) in
      record {
        cycle = st.cycle;
        place = st.place;
        rows = st.rows;
        slots = λ c r.
            ap (home kept) (slots_set kept.cycle kept.slots (a.cycle - kept.cycle) a.rule (Some a) store_inside (has_slot kept blanks room s (a.cycle - kept.cycle) a.rule store_inside rule_within) c r)
            ∙ home_if kept ((c == kept.cycle + (a.cycle - kept.cycle)) && (r == a.rule)) (Some a) (slots_from kept.cycle kept.slots c r)
            ∙ ap₂ (λ (k : ℕ) (old : Option Attempted). if (c == k) && (r == a.rule) then Some (at_design kept.opening.design a) else old) this (st.slots c r);
      }

  pub store_sound : IsSound (written kept (a.cycle - kept.cycle) a.rule (Some a)) blanks room
  store_sound =
      record {
        opening = s.opening;
        last = s.last;
        window = s.window;
        few_ahead = s.few_ahead;
        board = stored kept.opening s.board a;
        stands = store_stands s.board s.stands;
        plain = stored_plain kept.opening s.opening s.board a (record { attempt = is; is_for = for })
            (sym (late_same kept s.board s.stands a rule_within) ∙ near.in_time) (sym (ahead_same kept s.board s.stands a) ∙ near.in_window) s.plain;
        place = s.place;
        cycles = length-set kept.slots (a.cycle - kept.cycle) (slice_set (slice_index_or kept.slots (a.cycle - kept.cycle) []) a.rule (Some a)) ∙ s.cycles;
        slots = slots_written kept blanks room s (a.cycle - kept.cycle) a.rule (Some a) store_inside for.design;
        rooms = s.rooms;
        left = s.left;
        room = s.room;
      }

-- ---- settling

module _ (o : Opening) (board : Board) (less : board.cycle ≤ o.to) where
  settle_here : settle o board ≡ settle_at o board (head o board)
  settle_here = ap (λ (b : Bool). if b then stays board (answer.Settle settled.Finished) else settle_at o board (head o board)) (le-ltb o.to board.cycle less)

  pub settle_node : (node : Node) (held : Option Attempted) → head o board ≡ Some node → board.slots board.cycle node.rule ≡ held → settle o board ≡ settle_with board node held
  settle_node node held here is = settle_here ∙ ap (settle_at o board) here ∙ ap (settle_with board node) is

  pub settle_end : head o board ≡ None → settle o board ≡ record { answer = answer.Settle (settled.CycleClosed board.cycle); board = closed o board }
  settle_end here = settle_here ∙ ap (settle_at o board) here

-- the rest of a board doesn't depend on the verdict
judged_slots : (board : Board) (node : Node) (a : Attempted) (v : Verdict) → (judged board node a v).board.slots ≡ with_slot board.slots board.cycle node.rule None
judged_slots board node a Commit = refl
judged_slots board node a (Skip cause) = refl
judged_slots board node a (Stale read) = refl

pub judged_home : (board : Board) (node : Node) (design : Parts) (a : Attempted) (v : Verdict) → judged board node (at_design design a) v ≡ judged board node a v
judged_home board node design a Commit = refl
judged_home board node design a (Skip cause) = refl
judged_home board node design a (Stale read) = refl

judged_cycle : (board : Board) (node : Node) (a : Attempted) (v : Verdict) → (judged board node a v).board.cycle ≡ board.cycle
judged_cycle board node a Commit = refl
judged_cycle board node a (Skip cause) = refl
judged_cycle board node a (Stale read) = refl

judged_rows : (board : Board) (node : Node) (a : Attempted) (v : Verdict) → (judged board node a v).board.rows ≡ board.rows
judged_rows board node a Commit = refl
judged_rows board node a (Skip cause) = refl
judged_rows board node a (Stale read) = refl

module _ (kept : Kept) (blanks : List Blank) (room : ℕ) (s : IsSound kept blanks room) where
  -- the first list is the current cycle's
  pub some_slots : 0 < length kept.slots
  some_slots = omega (arith, s.window, s.cycles)

  pub first_slot : (board : Board) → StandsFor kept board → (rule : ℕ) → home kept (slice_index_or (slice_index_or kept.slots 0 []) rule None) ≡ board.slots board.cycle rule
  first_slot board st rule =
      let none : kept.cycle - kept.cycle ≡ 0 = omega arith in
      sym (ap (home kept) (from_on kept.cycle kept.slots kept.cycle rule (omega arith) ∙ ap (λ (n : ℕ). slice_index_or (slice_index_or kept.slots n []) rule None) none))
      ∙ st.slots kept.cycle rule ∙ ap (λ (c : ℕ). board.slots c rule) st.cycle

  head_same : (board : Board) → StandsFor kept board → node_at kept.opening.design.nodes kept.place.at ≡ head kept.opening board
  head_same board st = ap (node_at kept.opening.design.nodes) st.place.at

  module _ (node : Node) (here : node_at kept.opening.design.nodes kept.place.at ≡ Some node) where
    board_here : head kept.opening s.board ≡ Some node
    board_here = sym (head_same s.board s.stands) ∙ here

    pub head_rule : node.rule < length kept.opening.design.rules
    head_rule = let (to, at, found) = at_node kept.opening.design.nodes kept.place.at node here in (s.opening.design.nodes to node found).rule

    pub head_new : slice_index_or kept.place.settled.items node.rule true ≡ false
    head_new =
        let o = kept.opening in
        let position' = ap (λ (w : Walk State). node_at o.design.nodes w.at) (sym s.plain.walk) ∙ board_here in
        ap (λ (fs : List Bool). slice_index_or fs node.rule true) s.stands.place.settled
        ∙ flag_at (length o.design.rules) s.board.settled node.rule true head_rule
        ∙ ap (λ (rules : List ℕ). is_among rules node.rule) s.plain.settled
        ∙ next_is_new (system_of o.design) (scheduled o s.opening) (inputs_of o.stimulus s.board.cycle) (last_registers o.regs s.board.rows) s.plain.visits node position'

    pub head_right : (a : Attempted) → slice_index_or (slice_index_or kept.slots 0 []) node.rule None ≡ Some a → StandsRight kept.opening s.board.cycle node.rule (at_design kept.opening.design a)
    head_right a is =
        held_slot (StandsRight kept.opening s.board.cycle node.rule) (s.board.slots s.board.cycle node.rule) (at_design kept.opening.design a) (sym (first_slot s.board s.stands node.rule) ∙ ap (home kept) is)
        (s.plain.slots s.board.cycle node.rule)

    pub head_same_design : (a : Attempted) → slice_index_or (slice_index_or kept.slots 0 []) node.rule None ≡ Some a → SameDesign a.design kept.opening.design
    head_same_design a is =
        subst (HoldsSame kept.opening.design) is ((s.slots 0 [] some_slots).same node.rule None (has_slot kept blanks room s 0 node.rule some_slots head_rule))

    -- the first list without the rule's attempt
    abbrev pub taken : Place → Kept
    taken place = record (written kept 0 node.rule None) { place = place }

    taken_slots : (board : Board) → StandsFor kept board → (c r : ℕ) → home kept (slots_from kept.cycle (taken kept.place).slots c r) ≡ with_slot board.slots board.cycle node.rule None c r
    taken_slots board st c r =
        let this : kept.cycle + 0 ≡ board.cycle = omega (arith, st.cycle) in
        ap (home kept) (slots_set kept.cycle kept.slots 0 node.rule None some_slots (has_slot kept blanks room s 0 node.rule some_slots head_rule) c r)
        ∙ home_if kept ((c == kept.cycle + 0) && (r == node.rule)) None (slots_from kept.cycle kept.slots c r)
        ∙ ap₂ (λ (k : ℕ) (old : Option Attempted). if (c == k) && (r == node.rule) then None else old) this (st.slots c r)

    module _ (place : Place) (shape : IsShaped kept.opening.design place) where
      pub taken_sound : (board : Board) → StandsFor (taken place) board → IsPlain kept.opening board → IsSound (taken place) blanks room
      taken_sound board st plain =
          record {
            opening = s.opening;
            last = s.last;
            window = s.window;
            few_ahead = s.few_ahead;
            board = board;
            stands = st;
            plain = plain;
            place = shape;
            cycles = length-set kept.slots 0 (slice_set (slice_index_or kept.slots 0 []) node.rule None) ∙ s.cycles;
            slots = slots_written kept blanks room s 0 node.rule None some_slots tt;
            rooms = s.rooms;
            left = s.left;
            room = s.room;
          }

    -- nothing waits
    pub waits : slice_index_or (slice_index_or kept.slots 0 []) node.rule None ≡ None → kept.cycle ≤ kept.opening.to → Does settle kept (answer.Settle (settled.Waiting kept.cycle node.rule)) (taken kept.place)
    waits none less board st =
        let slot : board.slots board.cycle node.rule ≡ None = sym (first_slot board st node.rule) ∙ ap (home kept) none in
        steps_so (taken kept.place) (answer.Settle (settled.Waiting kept.cycle node.rule)) (settle kept.opening board) (settle_with board node None)
        (settle_node kept.opening board (omega (arith, less, st.cycle)) node None (sym (head_same board st) ∙ here) slot)
        (ap (λ (c : ℕ). answer.Settle (settled.Waiting c node.rule)) st.cycle)
        (record { cycle = st.cycle; place = st.place; rows = st.rows; slots = λ c r. taken_slots board st c r ∙ unchanged board slot c r })
      where
        unchanged : (board : Board) → board.slots board.cycle node.rule ≡ None → (c r : ℕ) → with_slot board.slots board.cycle node.rule None c r ≡ board.slots c r
        unchanged board slot c r = by (c == board.cycle) (r == node.rule) refl refl
          where
            by : (b d : Bool) → (c == board.cycle) ≡ b → (r == node.rule) ≡ d → (if b && d then None else board.slots c r) ≡ board.slots c r
            by true true e f = sym (ap₂ board.slots (eqb-true c board.cycle e) (eqb-true r node.rule f) ∙ slot)
            by true false e f = refl
            by false d e f = refl

    -- and nothing is changed
    pub waits_still : slice_index_or (slice_index_or kept.slots 0 []) node.rule None ≡ None → taken kept.place ≡ kept
    waits_still none =
        let row = slice_index_or kept.slots 0 [] in
        ap (λ (slots : List (List (Option Attempted))). let k : Kept = record kept { slots = slots } in k)
        (ap (λ (held : Option Attempted). slice_set kept.slots 0 (slice_set row node.rule held)) (sym none)
        ∙ ap (slice_set kept.slots 0) (set-get_or row node.rule None)
        ∙ set-get_or kept.slots 0 [])

    -- an attempt is judged
    pub judges : (a : Attempted) (v : Verdict) (place : Place) (told : BoardAnswer) → slice_index_or (slice_index_or kept.slots 0 []) node.rule None ≡ Some a → kept.cycle ≤ kept.opening.to
        → ((board : Board) → StandsFor kept board → v ≡ verdict board.walk.state.regs board.walk.state.past a.run)
        → ((board : Board) → StandsFor kept board → told ≡ (judged board node a v).answer)
        → ((board : Board) → StandsFor kept board → IsAt kept.opening.design place (judged board node a v).board.walk (judged board node a v).board.settled)
        → Does settle kept told (taken place)
    judges a v place told some less is_verdict is_told at board st =
        steps_so (taken place) told (settle kept.opening board) (judged board node a v)
        (settle_node kept.opening board (omega (arith, less, st.cycle)) node (Some (at_design kept.opening.design a)) (sym (head_same board st) ∙ here) (sym (first_slot board st node.rule) ∙ ap (home kept) some)
        ∙ ap (judged board node (at_design kept.opening.design a)) (sym (is_verdict board st)) ∙ judged_home board node kept.opening.design a v)
        (is_told board st)
        (record {
          cycle = st.cycle ∙ sym (judged_cycle board node a v);
          place = at board st;
          rows = st.rows ∙ sym (judged_rows board node a v);
          slots = λ c r. taken_slots board st c r ∙ sym (ap (λ (slots : ℕ → ℕ → Option Attempted). slots c r) (judged_slots board node a v));
        })

  -- the head is at a node that there is, or at the end
  pub head_inside : (number : ℕ) → kept.place.at ≡ next.Node number → number < length kept.opening.design.nodes
  head_inside number at =
      let o = kept.opening in
      let inside = position_inside (system_of o.design) s.opening.design.nodes (inputs_of o.stimulus s.board.cycle) (last_registers o.regs s.board.rows) s.plain.visits in
      let same = sym (ap (λ (w : Walk State). w.at) s.plain.walk) ∙ sym s.stands.place.at ∙ at in
      (subst (IsAhead (length o.design.nodes) 0) same inside).1

  -- ---- closing

  -- a cycle later, at this place, with these rows and without the first blank
  abbrev pub closed_to : Place → Row → Kept
  closed_to place row =
      record { opening = kept.opening; cycle = kept.cycle + 1; place = place; rows = kept.rows ++ row ∷ []; slots = moved_up (length kept.opening.design.rules) kept.slots }

  -- the rows begin on the same registers
  pub opened_same : (row : Row) → opened_on (kept.rows ++ row ∷ []) ≡ opened_on kept.rows
  opened_same row =
      let same = s.stands.rows ∙ s.plain.rows in
      ap (λ (rows : List Row). opened_on (rows ++ row ∷ [])) same ∙ sym (ap opened_on same)

  length-moved_up : (n : ℕ) (lists : List (List (Option Attempted))) → length (moved_up n lists) ≡ length lists
  length-moved_up n [] = refl
  length-moved_up n (row ∷ rest) = length_push rest (replicate n None) ∙ (let e : length rest + 1 ≡ length (row ∷ rest) = omega arith in e)

  module _ (place : Place) (row : Row) (made : row ≡ record { regs = kept.place.regs; fired = kept.place.fired.items })
      (begins : (walk : Walk State) (done : List ℕ) → IsAt kept.opening.design kept.place walk done → IsAt kept.opening.design place (start kept.opening.design.nodes (begin walk.state.regs)) [])
      (less : kept.cycle ≤ kept.opening.to) (end : kept.place.at ≡ next.End) where
    closed_stands : (board : Board) → StandsFor kept board → StandsFor (closed_to place row) (closed kept.opening board)
    closed_stands board st =
        record {
          cycle = ap (λ (c : ℕ). c + 1) st.cycle;
          place = begins board.walk board.settled st.place;
          rows = ap₂ (λ (rows : List Row) (r : Row). rows ++ r ∷ []) st.rows (made ∙ ap₂ (λ (regs : List BitVector) (fired : List Bool). let r : Row = record { regs = regs; fired = fired } in r) st.place.registers st.place.fired);
          slots = λ c r. ap (home kept) (slots_next kept.cycle (length kept.opening.design.rules) kept.slots (omega (arith, some_slots)) c r)
              ∙ home_if kept (c == kept.cycle) None (slots_from kept.cycle kept.slots c r)
              ∙ ap₂ (λ (k : ℕ) (old : Option Attempted). if c == k then None else old) st.cycle (st.slots c r);
        }

    no_head : (board : Board) → StandsFor kept board → head kept.opening board ≡ None
    no_head board st = sym (head_same board st) ∙ ap (node_at kept.opening.design.nodes) end

    -- the cycle is closed
    pub closes : Does settle kept (answer.Settle (settled.CycleClosed kept.cycle)) (closed_to place row)
    closes board st =
        steps_so (closed_to place row) (answer.Settle (settled.CycleClosed kept.cycle)) (settle kept.opening board) (record { answer = answer.Settle (settled.CycleClosed board.cycle); board = closed kept.opening board })
        (settle_end kept.opening board (omega (arith, less, st.cycle)) (no_head board st))
        (ap (λ (c : ℕ). answer.Settle (settled.CycleClosed c)) st.cycle)
        (closed_stands board st)

    pub closed_sound : (fewer : List Blank) (last : Blank) → blanks ≡ fewer ++ last ∷ [] → IsShaped kept.opening.design place → IsSound (closed_to place row) fewer room
    closed_sound fewer last' popped shape =
        let count = ap (λ (bs : List Blank). length bs) popped ∙ length_push fewer last' in
        let plain = settle_plain kept.opening s.opening s.board s.plain in
        let done = closes s.board s.stands in
        record {
          opening = s.opening;
          last = s.last;
          window = s.window;
          few_ahead = s.few_ahead;
          board = (settle kept.opening s.board).board;
          stands = done.1;
          plain = plain;
          place = shape;
          cycles = length-moved_up (length kept.opening.design.rules) kept.slots ∙ s.cycles;
          slots = All-moved_up (HasSlots kept.opening.design) (length kept.opening.design.rules) kept.slots s.slots (no_slots kept.opening.design);
          rooms = (All-pop (IsBlank kept.opening.design) blanks fewer (Some last') popped s.rooms).0;
          left = omega (arith, count, s.left);
          room = omega (arith, count, s.room, length_push kept.rows row);
        }

-- ---- the code's slots

pub does_for : (step : Opening → Board → BoardStep) (kept old new new' : Kept) (told : BoardAnswer) → kept ≡ old → new ≡ new' → Does step kept told new → Does step old told new'
does_for step kept old new new' told e f d = subst (λ (k : Kept). Does step k told new') e (subst (λ (k : Kept). Does step kept told k) f d)

-- a list that was borrowed and written back
pub written_back : (slots : List (List (Option Attempted))) (k k' rule rule' : ℕ) (row new : List (Option Attempted)) (held : Option Attempted) → k ≡ k' → rule ≡ rule' → row ≡ slice_index_or slots k row → k < length slots → new ≡ slice_set row rule held
    → slice_set slots k new ≡ slice_set slots k' (slice_set (slice_index_or slots k' []) rule' held)
written_back slots k k' rule rule' row new held e f is inside made =
    ap (slice_set slots k) (made ∙ ap (λ (w : List (Option Attempted)). slice_set w rule held) (is ∙ get_or_default slots k row [] inside))
    ∙ ap₂ (λ (n m : ℕ). slice_set slots n (slice_set (slice_index_or slots n []) m held)) e f

-- ---- beginning

module _ (o : Opening) (sure : IsOpening o) (place : Place) (at : IsAt o.design place (start o.design.nodes (begin o.regs)) []) where
  -- what a core keeps when it is begun
  abbrev pub begun : Kept
  begun =
      record {
        opening = o;
        cycle = o.from + 1;
        place = place;
        rows = opening (length o.design.rules) o.regs ∷ [];
        slots = replicate o.window (replicate (length o.design.rules) None);
      }

  pub begun_stands : StandsFor begun (opened o)
  begun_stands = record { cycle = refl; place = at; rows = refl; slots = λ c r. ap (option_map (at_design o.design)) (none_stands (o.from + 1) o.window (length o.design.rules) c r) }

  pub begun_sound : (blanks : List Blank) (room : ℕ) → o.to ≤ MAX_CYCLES → 1 ≤ o.window → o.window ≤ MAX_WINDOW → IsShaped o.design place → All (IsBlank o.design) blanks → length blanks + (o.from + 1) ≡ o.to + 1 → 1 + length blanks ≤ room → IsSound begun blanks room
  begun_sound blanks room last some few shape all count fits =
      record {
        opening = sure;
        last = last;
        window = some;
        few_ahead = few;
        board = opened o;
        stands = begun_stands;
        plain = opened_plain o sure;
        place = shape;
        cycles = length-replicate o.window (replicate (length o.design.rules) (let none : Option Attempted = None in none));
        slots = λ k d inside. let empty : List (Option Attempted) = replicate (length o.design.rules) None in
            subst (HasSlots o.design) (sym (get_or-replicate o.window k empty d (omega (arith, inside, length-replicate o.window empty)))) (no_slots o.design);
        rooms = all;
        left = count;
        room = omega (arith, fits);
      }
