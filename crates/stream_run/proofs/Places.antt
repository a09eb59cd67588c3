-- Where a run is after one cycle more.
use Rattle.std.proofs.Common.{◌≡◌, ℕ, ◌+◌, List, [], ◌∷◌, ap, ◌∙◌}
use Rattle.kw_bits.specs.BitVector.{BitVector}
use Rattle.koika_assert.specs.Violations.{Watched, watched, watched_on}
use Rattle.koika_check.specs.declared.checked.Checked.{Checked}
use Rattle.one_rule.specs.Run.{opening}
use Rattle.one_rule.specs.declared.rows.Row.{Row}
use Rattle.stim_report.specs.Stimuli.{next_line}
use Rattle.front_end.specs.Marks.{marks_of}
use Rattle.front_end.specs.Systems.{first_values, system_of}
use Rattle.stream_run.specs.inner.Telling.{Place, first_place, next_place, next_row}

pub place-next : (d : Checked) (old : Place) (values : List BitVector) (rows : List Row) (line : ℕ) (regs : List BitVector) (known : Watched)
    → rows ≡ opening (system_of d).rules old.regs ∷ next_row d old values ∷ [] → line ≡ next_line old.line → regs ≡ (next_row d old values).regs → known ≡ watched_on old.known rows
    → record { cycle = old.cycle + 1; line = line; regs = regs; known = known } ≡ next_place d old values
place-next d old values rows line regs known is number left more = λ i.
    record { cycle = old.cycle + 1; line = number i; regs = left i; known = (more ∙ ap (watched_on old.known) is) i }

-- before the first cycle
pub place-first : (d : Checked) (line : ℕ) (regs : List BitVector) (known : Watched) → regs ≡ first_values d → known ≡ watched (marks_of d).names (marks_of d).rules []
    → record { cycle = 0; line = line; regs = regs; known = known } ≡ first_place d line
place-first d line regs known left is = λ i. record { cycle = 0; line = line; regs = left i; known = is i }

-- one cycle more is known
pub cycles-more : (known : Watched) (rows : List Row) (first next : Row) → rows ≡ first ∷ next ∷ [] → (watched_on known rows).cycles ≡ known.cycles + 1
unfolding watched_on
cycles-more known rows first next is = ap (λ (all : List Row). (watched_on known all).cycles) is
