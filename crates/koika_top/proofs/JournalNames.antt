-- No name of a lowered design has a space.
use Rattle.std.proofs.Common.{◌≡◌, ℕ, true, false, List, [], ◌∷◌, map, refl, sym, ap, subst, ◌∙◌}
use Rattle.std.specs.Prelude.{◌==◌, not}
use Rattle.std.specs.List.{AllByRecursion, list_all}
use Rattle.std.proofs.lemmas.Bool.{eqb-true, false≢true}
use Rattle.std.proofs.lemmas.List.Elements.{recursion_from_All}
use Rattle.btor2_text.specs.Printable.{IsPlainToken, is_plain}
use Rattle.typed_core.specs.declared.design.Parts.{Parts}
use Rattle.typed_core.specs.declared.design.RegDecl.{RegDecl}
use Rattle.journal_check.specs.Reading as reading
use Rattle.journal_check.specs.Tokens.{register_names}
use Rattle.kw_base.specs.Texts.{is_space}
use Rattle.koika_check.specs.declared.checked.Checked.{Checked}
use Rattle.koika_check.specs.declared.checked.Register.{Register}
use Rattle.koika_check.specs.declared.checked.CheckedRule.{CheckedRule}
use Rattle.koika_lower.specs.Lowering.{IsLowered, register_of}
use Rattle.front_end.specs.Names.{HasWordNames}
use Rattle.front_end.proofs.LoweredRuns.{twice}
use Rattle.koika_top.proofs.PlainNames.{words-tokens}
use Rattle.kw_base.proofs.Conjunction.{and-left, and-right}

-- a plain byte is no space
byte-plain : (b : ℕ) → is_plain b ≡ true → not (b == 32) ≡ true
byte-plain b plain = of (b == 32) refl
  where
    of : (s : _) → (b == 32) ≡ s → not s ≡ true
    of false is = refl
    of true is = absurd (false≢true (ap is_plain (sym (eqb-true b 32 is)) ∙ plain))

bytes-plain : (bytes : List ℕ) → list_all is_plain bytes ≡ true → list_all (λ b. not (is_space b)) bytes ≡ true
bytes-plain [] all = refl
bytes-plain (b ∷ bytes) all =
    let here = byte-plain b (and-left (is_plain b) (list_all is_plain bytes) all) in
    let later = bytes-plain bytes (and-right (is_plain b) (list_all is_plain bytes) all) in
    rw here later

token-plain : (name : List ℕ) → IsPlainToken name → reading.IsPlain name
token-plain name token = bytes-plain name token.plain

all-plain : {X : Type 0} (name : X → List ℕ) (xs : List X) → AllByRecursion (λ x. IsPlainToken (name x)) xs → AllByRecursion reading.IsPlain (map name xs)
all-plain name [] all = tt
all-plain name (x ∷ xs) all = (token-plain (name x) all.0, all-plain name xs all.1)

-- the names of registers and rules are those of the typed design
pub lowered-plain : (d : Checked) (core : Parts) → IsLowered d core → HasWordNames d → reading.HasPlainNames core
lowered-plain d core lowered names =
    let registers : register_names core ≡ map (λ (r : Register). r.name) d.registers =
    ap (map (λ (decl : RegDecl). decl.name)) lowered.registers ∙ twice register_of (λ (decl : RegDecl). decl.name) d.registers in
    record {
      registers = subst (AllByRecursion reading.IsPlain) (sym registers) (all-plain (λ (r : Register). r.name) d.registers (recursion_from_All (λ (r : Register). IsPlainToken r.name) d.registers (words-tokens (λ (r : Register). r.name) d.registers names.registers)));
      rules = subst (AllByRecursion reading.IsPlain) (sym lowered.names) (all-plain (λ (r : CheckedRule). r.name) d.rules (recursion_from_All (λ (r : CheckedRule). IsPlainToken r.name) d.rules (words-tokens (λ (r : CheckedRule). r.name) d.rules names.rules)));
    }
