-- A source that isn't too long spells something, or has a fault.
use Rattle.std.proofs.Common.{◌≡◌, ◌⊎◌, ◌+◌, ◌≤◌, ℕ, zero, suc, List, [], ◌∷◌, ◌++◌, length, length-append, take, Option, Some, None, Result, Ok, Err, refl, ap, inl, inr, arith, ⊎_elim}
use Rattle.std.specs.Prelude.{position}
use Rattle.std.specs.List.{flat_map, join_with_byte, slice_split}
use Rattle.std.proofs.lemmas.List.Splits.{join_with_byte-slice_split}
use Rattle.kw_base.specs.Fault.{fault_at}
use Rattle.kw_base.specs.Place.{place_at}
use Rattle.kw_base.specs.declared.fault.Fault.{Fault}
use Rattle.koika_syntax.specs.declared.tree.Tree.{Tree}
use Rattle.koika_syntax.specs.Tokens.{AreTokensOf}
use Rattle.koika_syntax.specs.declared.token.Token.{Token}
use Rattle.koika_syntax.proofs.Lexing.{tokens_or_first_fault}
use Rattle.koika_parse.specs.Laws.{IsParsed}
use Rattle.koika_parse.proofs.EachText.{each_text}
use Rattle.koika_check.specs.Checks.{checked}
use Rattle.koika_check.specs.Outcomes.{CheckResult, Fails, Gives}
use Rattle.koika_check.specs.declared.checked.Checked.{Checked}
use Rattle.koika_check.specs.declared.stop.Wrong.{Wrong}
use Rattle.one_rule.specs.Stimulus.{InputVectors}
use Rattle.kw_base.specs.Texts.{ends_line}
use Rattle.stim_report.specs.Cuts.{cut_at, is_mark, parts_of, with_line_feed}
use Rattle.kw_bits.specs.declared.host.HostSpec.{HostSpec}
use Rattle.front_end.specs.Sources.{IsIllTyped, IsUnread, IsUnspelled, Spells, SpellsDesign, SpellsTree, design_part, longest_source, stimulus_in}

-- a stimulus, or the fault of it
pub stimulus_told : (r : Result InputVectors Fault) → ((stimulus : InputVectors) × (r ≡ Ok stimulus)) ⊎ ((fault : Fault) × (r ≡ Err fault))
stimulus_told (Ok stimulus) = inl (stimulus, refl)
stimulus_told (Err fault) = inr (fault, refl)

-- a design, or the fault of it
pub design_told : (o : CheckResult Checked) → ((d : Checked) × (o ≡ Gives d)) ⊎ ((w : Wrong) × (o ≡ Fails w))
design_told (Gives d) = inl (d, refl)
design_told (Fails w) = inr (w, refl)

-- the design of a source is no longer than the source and a line feed
pub marked_length : (mark : ℕ) (lines : List (List ℕ)) → length (flat_map with_line_feed (take mark lines)) ≤ length (join_with_byte 10 lines) + 1
marked_length zero lines = omega arith
marked_length (suc mark) [] = omega arith
marked_length (suc mark) (line ∷ []) = of mark
  where
    of : (mark : ℕ) → length (flat_map with_line_feed (take (suc mark) (line ∷ []))) ≤ length line + 1
    of zero = omega (arith, length-append (line ++ 10 ∷ []) [], length-append line (10 ∷ []))
    of (suc mark) = omega (arith, length-append (line ++ 10 ∷ []) [], length-append line (10 ∷ []))
marked_length (suc mark) (line ∷ next ∷ lines) =
    let behind = next ∷ lines in
    let front : flat_map with_line_feed (take (suc mark) (line ∷ behind)) ≡ (line ++ 10 ∷ []) ++ flat_map with_line_feed (take mark behind) = refl in
    let whole : join_with_byte 10 (line ∷ behind) ≡ line ++ (10 ∷ join_with_byte 10 behind) = refl in
    omega (
      arith,
      ap length front,
      ap length whole,
      length-append line (10 ∷ []),
      length-append (line ++ 10 ∷ []) (flat_map with_line_feed (take mark behind)),
      length-append line (10 ∷ join_with_byte 10 behind),
      marked_length mark behind,
    )

pub design_length : (source : List ℕ) → length (design_part source) ≤ length source + 1
unfolding parts_of
design_length source = of (position is_mark (slice_split ends_line source))
  where
    of : (mark : Option ℕ) → length (cut_at (slice_split ends_line source) mark source).design ≤ length source + 1
    of None = omega arith
    of (Some mark) = omega (arith, marked_length mark (slice_split ends_line source), ap length (join_with_byte-slice_split 10 source))

-- the tokens of its design are a tree's, or have a fault of the grammar
pub parsed : (source : List ℕ) (tokens : List Token) → AreTokensOf tokens (design_part source) → length source ≤ longest_source → IsParsed (design_part source) tokens
parsed source tokens are short = each_text (design_part source) tokens are (omega (arith, design_length source, short))

module _ (hosts : List HostSpec) (source : List ℕ) where
  -- a short source spells a tree, or there is a fault of its tokens or of the grammar
  pub tree_or_fault : length source ≤ longest_source → ((t : Tree) × SpellsTree source t) ⊎ ((f : Fault) × IsUnread source f)
  tree_or_fault short =
      ⊎_elim
      (λ cut.
      ⊎_elim
      (λ found. inl (found.0, record { short = short; tokens = cut.0; are = cut.1; derived = found.1; few = found.2 }))
      (λ wrong. inr (wrong.0, inr (short, (cut.0, cut.1, wrong.1))))
      (parsed source cut.0 cut.1 short))
      (λ first. inr (first.0, inl (short, first.1)))
      (tokens_or_first_fault (design_part source))

  pub design_of : (t : Tree) → SpellsTree source t → ((d : Checked) × SpellsDesign hosts source d) ⊎ ((f : Fault) × IsIllTyped hosts source f)
  design_of t spelled =
      ⊎_elim
      (λ found. inl (found.0, record { tree = t; spelled = spelled; typed = found.1 }))
      (λ wrong. inr (fault_at wrong.0.number (place_at (design_part source) wrong.0.place), inr (t, wrong.0, spelled, wrong.1, refl)))
      (design_told (checked hosts t))

  pub design_or_fault : length source ≤ longest_source → ((d : Checked) × SpellsDesign hosts source d) ⊎ ((f : Fault) × IsIllTyped hosts source f)
  design_or_fault short = ⊎_elim (λ found. design_of found.0 found.1) (λ wrong. inr (wrong.0, inl wrong.1)) (tree_or_fault short)

  abbrev pub Found : Type 0
  Found = (d : Checked) × (s : InputVectors) × Spells hosts source d s

  pub stimulus_of_design : (d : Checked) → SpellsDesign hosts source d → Found ⊎ ((f : Fault) × IsUnspelled hosts source f)
  stimulus_of_design d spelled =
      ⊎_elim
      (λ given. inl (d, given.0, record { spelled = spelled; given = given.1 }))
      (λ wrong. inr (wrong.0, inr (d, spelled, wrong.1)))
      (stimulus_told (stimulus_in source d))

  pub spelled_or_fault : length source ≤ longest_source → Found ⊎ ((f : Fault) × IsUnspelled hosts source f)
  spelled_or_fault short = ⊎_elim (λ found. stimulus_of_design found.0 found.1) (λ wrong. inr (wrong.0, inl wrong.1)) (design_or_fault short)
