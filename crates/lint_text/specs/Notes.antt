-- What is noted of a design before its first run, in the order in which it is written. Which rules never fire is given:
-- it is found by the design's circuit.
use Rattle.std.specs.Prelude.{ℕ, ◌+◌, Bool, false, not, ◌==◌, ◌&&◌, List, [], ◌∷◌, ◌++◌, if◌then◌else◌}
use Rattle.std.specs.List.{flat_map, list_any}
use Rattle.koika_check.specs.Sizes.{Size, rule_sizes}
use Rattle.koika_check.specs.declared.checked.Checked.{Checked}
use Rattle.lab_lint.specs.Occurrences.{rule_part}
use Rattle.lab_lint.specs.Order.{Order, is_scheduled}
use Rattle.lab_lint.specs.Refusals.{clashed, clashing, own_writes}
use Rattle.lab_lint.specs.Rules.{has_any, may_be_refused, numbers}
use Rattle.lab_lint.specs.declared.occurrence.Occurrence.{Occurrence}
use Rattle.lab_lint.specs.declared.occurrence.Occurrence.TheVariants as occurrence
use Rattle.lint_text.specs.declared.note.Note.{Note}
use Rattle.lint_text.specs.declared.note.Note.TheVariants as note
use Rattle.lint_text.specs.declared.note.Use.{Use}
use Rattle.lint_text.specs.declared.note.Use.TheVariants as uses

-- a note, where it is so
abbrev pub note_if : Bool → Note → List Note
note_if is_so n = if is_so then n ∷ [] else []

-- ---- each rule

-- the weights and depths of rules' bodies, the first of them of the rule of this number
abbrev pub sizes_from : (rule : ℕ) → List Size → List Note
sizes_from rule [] = []
sizes_from rule (s ∷ sizes) = note.Size rule s.weight s.depth ∷ sizes_from (rule + 1) sizes

-- the rule is scheduled nowhere
abbrev pub unscheduled_note : Checked → (rule : ℕ) → List Note
unscheduled_note d rule = note_if (not (is_scheduled d.nodes rule)) (note.Unscheduled rule)

-- notes of a rule, if it is scheduled
abbrev pub if_scheduled : Checked → (ℕ → List Note) → (rule : ℕ) → List Note
if_scheduled d notes rule = if is_scheduled d.nodes rule then notes rule else []

-- the rule never fires
abbrev pub never_note : (ℕ → Bool) → (rule : ℕ) → List Note
never_note is_never rule = note_if (is_never rule) (note.Never rule)

-- ---- refusals

-- the writes of a register that the rule's own accesses may refuse, if there are any
abbrev pub own_note : Checked → (rule register : ℕ) → List Note
own_note d rule register =
    note_if (has_any (own_writes d rule register)) (note.Own rule register (own_writes d rule register))

-- so it is with each register, in order of declaration
abbrev pub own_notes : Checked → (rule : ℕ) → List Note
own_notes d rule = flat_map (own_note d rule) (numbers d.registers)

-- the accesses of a register that may clash with those of a rule that fired before, and these, if there are any
abbrev pub may_note : Checked → (rule earlier register : ℕ) → List Note
may_note d rule earlier register =
    note_if (has_any (clashing d rule earlier register))
    (note.May rule earlier register (clashing d rule earlier register) (clashed d rule earlier register))

-- so it is with each register
abbrev pub may_notes_between : Checked → (rule earlier : ℕ) → List Note
may_notes_between d rule earlier = flat_map (may_note d rule earlier) (numbers d.registers)

-- and with each rule that may have fired before
abbrev pub may_notes : Order → Checked → (rule : ℕ) → List Note
may_notes order d rule =
    flat_map (λ earlier. if order.may_precede earlier rule then may_notes_between d rule earlier else [])
    (numbers d.rules)

-- ---- assertions

-- the rule of an assertion may be refused, or not tried
abbrev pub assert_notes : Order → Checked → (rule : ℕ) → List Note
assert_notes order d rule =
    note_if (may_be_refused order d rule) (note.MayBeRefused rule)
    ++ note_if (order.may_be_untried rule) (note.MayBeUntried rule)

-- ---- what nothing uses

-- the occurrence is a use of this kind of the declaration of this number
abbrev pub is_of : Use → (number : ℕ) → Occurrence → Bool
is_of uses.Read number (occurrence.Access a) = not a.write && (a.register == number)
is_of uses.Write number (occurrence.Access a) = a.write && (a.register == number)
is_of uses.Input number (occurrence.Input other) = other == number
is_of uses.Table number (occurrence.Table other) = other == number
is_of uses.Host number (occurrence.Host other) = other == number
is_of kind number o = false

-- the body of some scheduled rule has such an occurrence
abbrev pub is_used : Checked → Use → (number : ℕ) → Bool
is_used d kind number =
    list_any (λ rule. is_scheduled d.nodes rule && list_any (is_of kind number) (rule_part d rule).all) (numbers d.rules)

-- no scheduled rule's body has one
abbrev pub unused_note : Checked → Use → (number : ℕ) → List Note
unused_note d kind number = note_if (not (is_used d kind number)) (note.Unused kind number)

-- no scheduled rule reads the register, and none writes it
abbrev pub register_notes : Checked → (register : ℕ) → List Note
register_notes d register = unused_note d uses.Read register ++ unused_note d uses.Write register

-- ---- all notes

-- those of single rules
abbrev pub rule_notes : (is_never : ℕ → Bool) → Checked → List Note
rule_notes is_never d =
    sizes_from 0 (rule_sizes d)
    ++ (flat_map (unscheduled_note d) (numbers d.rules)
    ++ (flat_map (if_scheduled d (never_note is_never)) (numbers d.rules)
    ++ flat_map (if_scheduled d (own_notes d)) (numbers d.rules)))

-- those of pairs of rules
abbrev pub pair_notes : Order → Checked → List Note
pair_notes order d = flat_map (if_scheduled d (may_notes order d)) (numbers d.rules)

-- those of assertions, and of what nothing uses
abbrev pub last_notes : Order → Checked → List Note
last_notes order d =
    flat_map (assert_notes order d) d.asserts
    ++ (flat_map (register_notes d) (numbers d.registers)
    ++ (flat_map (unused_note d uses.Input) (numbers d.inputs)
    ++ (flat_map (unused_note d uses.Table) (numbers d.tables)
    ++ flat_map (unused_note d uses.Host) (numbers d.hosts))))

-- all of them, by the order of rules and by which rules never fire
abbrev pub notes : Order → (is_never : ℕ → Bool) → Checked → List Note
notes order is_never d = rule_notes is_never d ++ (pair_notes order d ++ last_notes order d)
