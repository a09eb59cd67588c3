-- What the tokens of a line are read as. It asks no more than is needed to find a candidate: a line is taken where
-- what was read fits the design and is printed as the line is.
use Rattle.std.specs.Prelude.{ℕ, Option, List, map, position}
use Rattle.std.specs.Str.{bytes_eq}
use Rattle.typed_core.specs.declared.design.Parts.{Parts}
use Rattle.typed_core.specs.declared.design.RegDecl.{RegDecl}
use Rattle.typed_core.specs.declared.design.Rule.{Rule}

-- ---- names

-- the names of a design's registers
abbrev pub register_names : Parts → List (List ℕ)
register_names design = map (λ (decl : RegDecl). decl.name) design.regs

-- the names of a design's rules
abbrev pub rule_names : Parts → List (List ℕ)
rule_names design = map (λ (rule : Rule). rule.name) design.rules

-- the number of the first thing of a name
abbrev pub number_named : List (List ℕ) → List ℕ → Option ℕ
number_named names name = position (bytes_eq name) names
