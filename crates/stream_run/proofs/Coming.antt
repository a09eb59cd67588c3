-- The bytes of a session that are still to come: lines, and what they give.
use Rattle.std.proofs.Common.{◌≡◌, ℕ, ◌+◌, ◌<◌, ◌≤◌, Bool, true, false, List, [], ◌∷◌, ◌++◌, length, length-append, Option, None, Some, Result, Ok, Err, refl, sym, ap, ◌∙◌, append_assoc, append-nil, arith}
use Rattle.std.specs.Prelude.{IfSome, OnSome, nat_lt, if◌then◌else◌}
use Rattle.std.specs.Io.KnownBytes.{Consumes, IsAtEnd}
use Rattle.std.proofs.lemmas.Bool.{le-ltb, lt-ltb}
use Rattle.kw_bits.specs.BitVector.{BitVector}
use Rattle.kw_base.specs.declared.fault.Fault.{Fault}
use Rattle.one_rule.specs.Stimulus.{Assignment, inputs_by}
use Rattle.kw_base.specs.Texts.{but_empty_last, without_return}
use Rattle.stim_report.specs.Shapes.{widths_of}
use Rattle.stim_report.specs.Stimuli.{after, line_of}
use Rattle.stim_report.specs.declared.shape.NameWidth.{NameWidth}
use Rattle.stim_report.proofs.SourceInTurn.{pieces}
use Rattle.front_end.specs.Sources.{fault_of_source, longest_source}
use Rattle.stream_run.specs.Lines.{inputs_on, lines_in, most_cycles}
use Rattle.stream_run.specs.Sessions.{MayGive}
use Rattle.stream_run.specs.inner.Reading.{IsOneLine, to_come}
use Rattle.stream_run.proofs.Heads.{goes_on, pieces-more, pieces-one, some_piece}

-- ---- lines

-- a line before bytes
later_first : (line : List ℕ) (ps : List (List ℕ)) → 0 < length ps → but_empty_last (line ∷ ps) ≡ line ∷ but_empty_last ps
later_first line [] some = absurd (omega (arith, some))
later_first [] (p ∷ ps) some = refl
later_first (b ∷ line) (p ∷ ps) some = refl

pub lines-none : lines_in [] ≡ []
lines-none = refl

pub lines-more : (line rest : List ℕ) → IsOneLine line → lines_in (line ++ 10 ∷ rest) ≡ line ∷ lines_in rest
lines-more line rest one = ap but_empty_last (pieces-more line rest one) ∙ later_first line (pieces rest) (some_piece rest)

pub lines-last : (b : ℕ) (line : List ℕ) → IsOneLine (b ∷ line) → lines_in (b ∷ line) ≡ (b ∷ line) ∷ []
lines-last b line one = ap but_empty_last (pieces-one (b ∷ line) one)

-- a first line that is longer than a line may be
pub lines-long : (line more : List ℕ) → IsOneLine line → 0 < length line → (end : List ℕ) × (later : List (List ℕ)) × (lines_in (line ++ more) ≡ (line ++ end) ∷ later)
lines-long [] more one some = absurd (omega (arith, some))
lines-long (b ∷ line) more one some =
    let on = goes_on (b ∷ line) more one in
    (on.end, but_empty_last on.later, ap but_empty_last on.first)

-- what a line gives, by the two tests
abbrev by_tests : List NameWidth → ℕ → List ℕ → Bool → Bool → Result (List BitVector) Fault
by_tests inputs number line long late =
    if long then Err (fault_of_source 40)
    else if late then Err (fault_of_source 45)
    else after (line_of inputs number (without_return line)) (λ (given : List Assignment). Ok (inputs_by (widths_of inputs) given))

pub inputs-long : (inputs : List NameWidth) (cycle number : ℕ) (line : List ℕ) → longest_source < length line → inputs_on inputs cycle number line ≡ Err (fault_of_source 40)
inputs-long inputs cycle number line long =
    ap (λ (b : Bool). by_tests inputs number line b (nat_lt most_cycles cycle)) (lt-ltb longest_source (length line) long)

pub inputs-late : (inputs : List NameWidth) (cycle number : ℕ) (line : List ℕ) → length line ≤ longest_source → most_cycles < cycle → inputs_on inputs cycle number line ≡ Err (fault_of_source 45)
inputs-late inputs cycle number line short late =
    ap (λ (b : Bool). by_tests inputs number line b (nat_lt most_cycles cycle)) (le-ltb longest_source (length line) short)
    ∙ ap (λ (b : Bool). by_tests inputs number line false b) (lt-ltb most_cycles cycle late)

pub inputs-read : (inputs : List NameWidth) (cycle number : ℕ) (line : List ℕ) → length line ≤ longest_source → cycle ≤ most_cycles
    → inputs_on inputs cycle number line ≡ after (line_of inputs number (without_return line)) (λ (given : List Assignment). Ok (inputs_by (widths_of inputs) given))
inputs-read inputs cycle number line short few =
    ap (λ (b : Bool). by_tests inputs number line b (nat_lt most_cycles cycle)) (le-ltb longest_source (length line) short)
    ∙ ap (λ (b : Bool). by_tests inputs number line false b) (le-ltb most_cycles cycle few)

-- ---- bytes

-- bytes that may come after those that were taken
pub may-after : (a b : Option (List ℕ)) (taken rest : List ℕ) → Consumes a b taken → MayGive b rest → MayGive a (taken ++ rest)
may-after None b taken rest took may = tt
may-after (Some all) None taken rest took may = absurd took
may-after (Some all) (Some left) taken rest took may = took ∙ ap (λ (bytes : List ℕ). taken ++ bytes) may

-- some bytes may come
pub some-come : (a : Option (List ℕ)) → (rest : List ℕ) × MayGive a rest
some-come None = ([], tt)
some-come (Some all) = (all, refl)

-- what was taken is all, where nothing is left
pub may-end : (a b : Option (List ℕ)) (taken : List ℕ) → Consumes a b taken → OnSome a (IsAtEnd b) → MayGive a taken
may-end None b taken took end = tt
may-end (Some all) None taken took end = absurd took
may-end (Some all) (Some left) taken took end = took ∙ ap (λ (bytes : List ℕ). taken ++ bytes) end ∙ append-nil taken

-- nothing follows nothing
pub append-empty : (xs ys : List ℕ) → xs ++ ys ≡ [] → ys ≡ []
append-empty [] ys e = e
append-empty (x ∷ xs) ys e = cc

-- nothing that is still to come is nothing that is left
pub source-end : (first coming left : Option (List ℕ)) (taken line unread : List ℕ) → Consumes first coming taken → Consumes coming (to_come unread left) line → OnSome coming (IsAtEnd (to_come unread left))
    → IfSome first (λ _. left ≡ Some [])
source-end None coming left taken line unread took last end = tt
source-end (Some all) None left taken line unread took last end = absurd took
source-end (Some all) (Some more) None taken line unread took last end = absurd last
source-end (Some all) (Some more) (Some rest) taken line unread took last end = ap Some (append-empty unread rest end)
