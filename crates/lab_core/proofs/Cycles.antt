-- The cycles of a run, one after another.
use Rattle.std.proofs.Common.{◌≡◌, ℕ, zero, suc, ◌+◌, ◌-◌, List, [], ◌∷◌, ◌++◌, refl, ap, ◌∙◌, append-nil, arith}
use Rattle.std.specs.List.{flat_map, range_with_len}
use Rattle.std.proofs.lemmas.Grind.{flat_map-append}
use Rattle.std.proofs.lemmas.List.FromFn.{map-range_with_len_more}
use Rattle.kw_bits.specs.BitVector.{BitVector}
use Rattle.one_rule.specs.Cycle.{System, cycle, system_of}
use Rattle.one_rule.specs.Run.{InputsByCycle, first_values, last_registers, rows_after}
use Rattle.lab_core.specs.Laws.{FindsFirstValues, FindsWhatWasLeft, TextsByCycle, TrialsByCycle}
use Rattle.lab_core.specs.Runs.{trials_in}
use Rattle.lab_core.specs.Why.{text_in}
use Rattle.lab_core.proofs.Texts.{range_more}

-- the registers after one cycle more
last_next : (system : System) (inputs : InputsByCycle) (count last at : ℕ) (regs : List BitVector) → at ≡ last + suc count
    → last_registers regs (rows_after system inputs (suc count) last regs) ≡ (cycle system (inputs at) (last_registers regs (rows_after system inputs count last regs))).regs
last_next system inputs zero last at regs place = let here : last + 1 ≡ at = omega (arith, place) in ap (λ (n : ℕ). (cycle system (inputs n) regs).regs) here
last_next system inputs (suc count) last at regs place =
    last_next system inputs count (last + 1) at (cycle system (inputs (last + 1)) regs).regs (omega (arith, place))

pub finds_first_values : FindsFirstValues
finds_first_values design inputs = refl

pub finds_what_was_left : FindsWhatWasLeft
finds_what_was_left design inputs c =
    let after : ℕ → List BitVector = λ n. last_registers (first_values design) (rows_after (system_of design) inputs n 0 (first_values design)) in
    let long : c + 2 - 1 - 0 ≡ suc c = omega arith in
    let short : c ≡ c + 1 - 1 - 0 = omega arith in
    ap after long ∙ last_next (system_of design) inputs c 0 (c + 1) (first_values design) (omega arith)
    ∙ ap (λ (n : ℕ). (cycle (system_of design) (inputs (c + 1)) (after n)).regs) short

pub trials_by_cycle : TrialsByCycle
trials_by_cycle design inputs n = map-range_with_len_more (trials_in design inputs) 1 n (n + 1) (omega arith)

pub texts_by_cycle : TextsByCycle
texts_by_cycle design only inputs first count =
    ap (flat_map (text_in design only inputs)) (range_more first count (first + count) refl)
    ∙ flat_map-append (text_in design only inputs) (range_with_len first count) ((first + count) ∷ [])
    ∙ ap (λ (t : List ℕ). flat_map (text_in design only inputs) (range_with_len first count) ++ t) (append-nil (text_in design only inputs (first + count)))
