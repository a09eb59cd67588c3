-- Refusals and what may be so of assertions are among the notes.
use Rattle.std.proofs.Common.{◌≡◌, inl, inr, ℕ, zero, suc, ◌+◌, ◌<◌, Bool, true, false, List, [], ◌∷◌, ◌++◌, length, refl, subst, arith}
use Rattle.std.specs.Prelude.{Contains, if◌then◌else◌}
use Rattle.std.specs.List.{flat_map, range_with_len}
use Rattle.typed_core.specs.declared.access.Access.{Access}
use Rattle.koika_check.specs.Sizes.{rule_sizes}
use Rattle.koika_check.specs.declared.checked.Checked.{Checked}
use Rattle.lab_lint.specs.Order.{Order, is_scheduled}
use Rattle.lab_lint.specs.Refusals.{clashed, clashing, own_writes}
use Rattle.lab_lint.specs.Rules.{has_any, may_be_refused, numbers}
use Rattle.lab_lint.proofs.Among.{Among, among-flat_map, among-left, among-right}
use Rattle.lab_lint.proofs.Listed.{contained, contains}
use Rattle.lab_lint.proofs.Watched.{any-of, numbered}
use Rattle.lint_text.specs.Notes.{assert_notes, if_scheduled, last_notes, may_note, may_notes, may_notes_between, never_note, note_if, notes, own_note, own_notes, pair_notes, rule_notes, sizes_from, unscheduled_note}
use Rattle.lint_text.specs.declared.note.Note.{Note}
use Rattle.lint_text.specs.declared.note.Note.TheVariants as note

if-true : (b : Bool) (xs : List Note) (n : Note) → b ≡ true → Among n xs → Among n (if b then xs else [])
if-true true xs n h among = among
if-true false xs n h among = absurd cc

module _ (order : Order) (is_never : ℕ → Bool) (d : Checked) where
  abbrev all : List Note
  all = notes order is_never d

  -- ---- refusals

  pub own-noted : (rule register : ℕ) (a : Access) → is_scheduled d.nodes rule ≡ true → rule < length d.rules → register < length d.registers
      → Contains (own_writes d rule register) a → Contains all (note.Own rule register (own_writes d rule register))
  own-noted rule register a scheduled there inside has =
      let n : Note = note.Own rule register (own_writes d rule register) in
      let here : Among n (own_note d rule register) = if-true (has_any (own_writes d rule register)) (n ∷ []) n (any-of (own_writes d rule register) a has) (inl refl) in
      let rules : Among n (own_notes d rule) = among-flat_map (own_note d rule) register n (numbers d.registers) (numbered d.registers register inside) here in
      let each : Among n (if_scheduled d (own_notes d) rule) = if-true (is_scheduled d.nodes rule) (own_notes d rule) n scheduled rules in
      let own : Among n (flat_map (if_scheduled d (own_notes d)) (numbers d.rules)) =
      among-flat_map (if_scheduled d (own_notes d)) rule n (numbers d.rules) (numbered d.rules rule there) each in
      contains n all
      (among-left n (rule_notes is_never d) (pair_notes order d ++ last_notes order d)
      (among-right n (sizes_from 0 (rule_sizes d)) _
      (among-right n (flat_map (unscheduled_note d) (numbers d.rules)) _
      (among-right n (flat_map (if_scheduled d (never_note is_never)) (numbers d.rules)) _ own))))

  pub clash-noted : (rule earlier register : ℕ) (a : Access) → is_scheduled d.nodes rule ≡ true → order.may_precede earlier rule ≡ true
      → rule < length d.rules → earlier < length d.rules → register < length d.registers → Contains (clashing d rule earlier register) a
      → Contains all (note.May rule earlier register (clashing d rule earlier register) (clashed d rule earlier register))
  clash-noted rule earlier register a scheduled precedes there early inside has =
      let n : Note = note.May rule earlier register (clashing d rule earlier register) (clashed d rule earlier register) in
      let here : Among n (may_note d rule earlier register) = if-true (has_any (clashing d rule earlier register)) (n ∷ []) n (any-of (clashing d rule earlier register) a has) (inl refl) in
      let between : Among n (may_notes_between d rule earlier) = among-flat_map (may_note d rule earlier) register n (numbers d.registers) (numbered d.registers register inside) here in
      let pair : Among n (if order.may_precede earlier rule then may_notes_between d rule earlier else []) = if-true (order.may_precede earlier rule) (may_notes_between d rule earlier) n precedes between in
      let may : Among n (may_notes order d rule) =
      among-flat_map (λ other. if order.may_precede other rule then may_notes_between d rule other else []) earlier n (numbers d.rules) (numbered d.rules earlier early) pair in
      let each : Among n (if_scheduled d (may_notes order d) rule) = if-true (is_scheduled d.nodes rule) (may_notes order d rule) n scheduled may in
      contains n all
      (among-right n (rule_notes is_never d) (pair_notes order d ++ last_notes order d)
      (among-left n (pair_notes order d) (last_notes order d)
      (among-flat_map (if_scheduled d (may_notes order d)) rule n (numbers d.rules) (numbered d.rules rule there) each)))

  -- ---- assertions

  among-last : (rule : ℕ) (n : Note) → Contains d.asserts rule → Among n (assert_notes order d rule) → Contains all n
  among-last rule n marked among =
      contains n all
      (among-right n (rule_notes is_never d) (pair_notes order d ++ last_notes order d)
      (among-right n (pair_notes order d) (last_notes order d)
      (among-left n (flat_map (assert_notes order d) d.asserts) _
      (among-flat_map (assert_notes order d) rule n d.asserts (contained rule d.asserts marked) among))))

  pub refused-noted : (rule : ℕ) → Contains d.asserts rule → may_be_refused order d rule ≡ true → Contains all (note.MayBeRefused rule)
  refused-noted rule marked may =
      let n : Note = note.MayBeRefused rule in
      among-last rule n marked
      (among-left n (note_if (may_be_refused order d rule) n) _ (if-true (may_be_refused order d rule) (n ∷ []) n may (inl refl)))

  pub untried-noted : (rule : ℕ) → Contains d.asserts rule → order.may_be_untried rule ≡ true → Contains all (note.MayBeUntried rule)
  untried-noted rule marked may =
      let n : Note = note.MayBeUntried rule in
      among-last rule n marked
      (among-right n (note_if (may_be_refused order d rule) (note.MayBeRefused rule)) _ (if-true (order.may_be_untried rule) (n ∷ []) n may (inl refl)))
