-- What is found of a source's design, and what `lint` writes by it.
use Rattle.std.specs.Prelude.{◌≡◌, ℕ, Bool, true, List}
use Rattle.std.specs.List.{flat_map, range_with_len}
use Rattle.koika_syntax.specs.declared.tree.Tree.{Tree}
use Rattle.koika_check.specs.declared.checked.Checked.{Checked}
use Rattle.front_end.specs.Sources.{SpellsTree, design_part}
use Rattle.lab_lint.specs.Order.{Order}
use Rattle.lint_text.specs.Findings.{AreFindings, is_set, order_of}
use Rattle.lint_text.specs.Notes.{if_scheduled, may_notes, notes}
use Rattle.lint_text.specs.Places.{places_in}
use Rattle.lint_text.specs.Text.{notes_text}
use Rattle.lint_text.specs.declared.findings.Findings.{Findings}
use Rattle.lint_text.specs.declared.places.Places.{Places}
use Rattle.lab_top.specs.Lint.{NeverFires}

-- the rules that are marked never fire
abbrev pub NeverFire : Checked → List Bool → Type 0
NeverFire d marks = (rule : ℕ) → is_set marks rule ≡ true → NeverFires d rule

-- the findings are those of the design, and the places those of names in the tree that the source spells
pub record AreNoted (source : List ℕ) (d : Checked) (places : Places) (findings : Findings) : Type 0 where
  pub tree : Tree
  pub spelled : SpellsTree source tree
  pub at : places ≡ places_in (design_part source) tree
  pub found : AreFindings d findings
  pub never : NeverFire d findings.never

-- the lines of a rule and the rules that may have fired before it
abbrev pub pairs_of : Checked → Places → Order → (rule : ℕ) → List ℕ
pairs_of d places order rule = notes_text d places (if_scheduled d (may_notes order d) rule)

-- those of the first that many rules
abbrev pub pairs_to : Checked → Places → Order → (rules : ℕ) → List ℕ
pairs_to d places order rules = flat_map (pairs_of d places order) (range_with_len 0 rules)

-- all lines
abbrev pub lint_text : Checked → Places → Findings → List ℕ
lint_text d places found = notes_text d places (notes (order_of found) (is_set found.never) d)
