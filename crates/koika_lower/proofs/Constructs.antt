-- Operations on lowered operands are lowered.
use Rattle.std.proofs.Common.{◌≡◌, ◌≢◌, ℕ, ◌-◌, ◌≤◌, ◌⊎◌, inl, inr, List, [], ◌∷◌, ◌++◌, length, take, Option, Some, IfSome, Bool, false, arith, refl, ap, sym, subst, ◌∙◌}
use Rattle.std.proofs.lemmas.Bool.{cases_eq}
use Rattle.std.proofs.lemmas.List.{length-append}
use Rattle.kw_bits.specs.BitVector.{BitVector}
use Rattle.kw_bits.specs.Laws.{HasWidth, SliceUndoes}
use Rattle.kw_bits.specs.Operators as op
use Rattle.kw_bits.proofs.OperatorLaws.{neg-HasWidth, not-HasWidth, sext-HasWidth, slice-sext, slice-whole, slice-zext, zext-HasWidth}
use Rattle.koika_syntax.specs.declared.operator.Extension.{Extension}
use Rattle.koika_syntax.specs.declared.operator.Extension.TheVariants as extensions
use Rattle.koika_syntax.specs.declared.operator.UnaryOperator.{UnaryOperator}
use Rattle.koika_syntax.specs.declared.operator.UnaryOperator.TheVariants as unary
use Rattle.koika_types.specs.Values.{packed}
use Rattle.koika_types.specs.declared.value.Value.{Value}
use Rattle.koika_types.specs.declared.value.Value.TheVariants as value
use Rattle.typed_core.specs.Evaluation.{Environment, Evaluation, Ports, ◌>>=◌, comes_to, evaluate}
use Rattle.typed_core.specs.Fits.{PortsFit}
use Rattle.typed_core.specs.Valid.{ActionHasWidth, IsWidth}
use Rattle.typed_core.specs.declared.outcome.Stopped.{Stopped}
use Rattle.koika_check.specs.Meaning.{RuleSetting, apply, bodies_behind, extension_value, meaning, prefixed, unpacked}
use Rattle.koika_check.specs.Types.{bits, width_of}
use Rattle.koika_check.specs.Typing.{IsType}
use Rattle.koika_check.specs.declared.checked.Checked.{Checked}
use Rattle.koika_check.specs.declared.checked.CheckedFunction.{CheckedFunction}
use Rattle.koika_check.specs.declared.typed.Operation.{Operation}
use Rattle.koika_check.specs.declared.typed.Operation.TheVariants as operation
use Rattle.koika_check.specs.declared.typed.ValueType.{ValueType}
use Rattle.koika_lower.specs.inner.Actions.{ComesTo}
use Rattle.koika_lower.specs.inner.Applied.{IsExtended, IsPrefixed}
use Rattle.koika_lower.specs.Lowering.{register_widths}
use Rattle.koika_lower.specs.inner.Simulation.{IsApplied, Lowers, LowersAll, NamesFit, Sense, Simulates, Stands, apply_sense, declared_by, environment, width_if, world}
use Rattle.koika_lower.specs.declared.lowered.Bound.{Bound}
use Rattle.koika_lower.specs.declared.lowered.Lowered.{Lowered}
use Rattle.koika_lower.proofs.Operands.{sim-one, sim-same-bits}
use Rattle.koika_lower.proofs.Simulations.{sim-value}
use Rattle.koika_lower.proofs.TypedNumbers.{number-stands}
use Rattle.koika_lower.proofs.Values.{unpacked-stands}
use Rattle.koika_lower.proofs.Widths.{width-bits}

-- ---- the world

behind-design : (s : RuleSetting Stopped) (fs : List CheckedFunction) → (bodies_behind s fs).design ≡ s.design
behind-design s [] = refl
behind-design s (f ∷ fs) = behind-design (record s { bodies = s.bodies ++ meaning s f.body ∷ [] }) fs

behind-ports : (s : RuleSetting Stopped) (fs : List CheckedFunction) → (bodies_behind s fs).ports ≡ s.ports
behind-ports s [] = refl
behind-ports s (f ∷ fs) = behind-ports (record s { bodies = s.bodies ++ meaning s f.body ∷ [] }) fs

module _ (d : Checked) (n : ℕ) (inputs : List BitVector) (ports : Ports Stopped) where
  pub world-design : (world d n inputs ports).design ≡ d
  world-design = behind-design (record { design = d; inputs = inputs; ports = ports; bodies = [] }) (take n d.functions)

  pub world-ports : (world d n inputs ports).ports ≡ ports
  world-ports = behind-ports (record { design = d; inputs = inputs; ports = ports; bodies = [] }) (take n d.functions)

-- ---- the core's part

pub sim-core : {V : Type 0} (regs : List ℕ) (R : V → BitVector → Type 0) (m : Evaluation V Stopped) (a b : Evaluation BitVector Stopped) → a ≡ b → Simulates regs R m b → Simulates regs R m a
sim-core regs R m a b e h = subst (λ (p : Evaluation BitVector Stopped). Simulates regs R m p) (sym e) h

-- ---- one operand

pub record Single (d : Checked) (n depth : ℕ) (names : List Bound) (types : List ValueType) (t : ValueType) (senses : List Sense) (last : Lowered) : Type 0 where
  pub sense : Sense
  pub are : senses ≡ sense ∷ []
  pub lowers : Lowers d n depth names types (Some t) sense last

pub last_one : (l last : Lowered) (init : List Lowered) → l ∷ [] ≡ init ++ last ∷ [] → l ≡ last
last_one l last [] e = cc
last_one l last (x ∷ init) e = absurd (omega (arith, ap length e, length-append init (last ∷ [])))

pub single : (d : Checked) (n depth : ℕ) (rising : Bool) (names : List Bound) (types : List ValueType) (t : ValueType) (senses : List Sense) (operands init : List Lowered) (last : Lowered) →
    operands ≡ init ++ last ∷ [] → LowersAll d n depth rising names types (Some t ∷ []) senses operands → Single d n depth names types t senses last
single d n depth rising names types t [] [] init last e all = absurd all
single d n depth rising names types t [] (l ∷ ls) init last e all = absurd all
single d n depth rising names types t (m ∷ ms) [] init last e all = absurd all
single d n depth rising names types t (m ∷ []) (l ∷ []) init last e all =
    record { sense = m; are = refl; lowers = subst (λ (x : Lowered). Lowers d n depth names types (Some t) m x) (last_one l last init e) all.0 }
single d n depth rising names types t (m ∷ []) (l ∷ k ∷ ls) init last e all = absurd all.1
single d n depth rising names types t (m ∷ p ∷ ms) (l ∷ []) init last e all = absurd all.1
single d n depth rising names types t (m ∷ p ∷ ms) (l ∷ k ∷ ls) init last e all = absurd all.1

-- an operation on one operand, whose action goes on with the operand's bits
module _ (d : Checked) (n depth : ℕ) (names : List Bound) (types : List ValueType) (o : Operation) (t : ValueType) (of : Option ValueType) (senses : List Sense)
    (operands init : List Lowered) (last l : Lowered) (e : operands ≡ init ++ last ∷ []) (rising : Bool)
    (all : LowersAll d n depth rising names types (Some t ∷ []) senses operands) (valid : IfSome of (IsType d)) where
  one : Single d n depth names types t senses last
  one = single d n depth rising names types t senses operands init last e all

  last-typed : (widths : List ℕ) → NamesFit depth names widths → ActionHasWidth (declared_by d) last.action widths (width_of d t)
  last-typed widths f = subst (λ w. ActionHasWidth (declared_by d) last.action widths w) one.lowers.width (one.lowers.typed widths f)

  pub one-lowers : (g : Environment → Ports Stopped → BitVector → Evaluation BitVector Stopped) →
      ComesTo l.action (λ env ports locals. evaluate env ports last.action locals >>= g env ports) → l.width ≡ width_if d of →
      ((widths : List ℕ) → ActionHasWidth (declared_by d) last.action widths (width_of d t) → IsType d t → ActionHasWidth (declared_by d) l.action widths (width_if d of)) →
      ((inputs : List BitVector) (ports : Ports Stopped) (v : Value) (x : BitVector) → PortsFit (register_widths d) ports → Stands d (Some t) (Some v) x →
      Simulates (register_widths d) (Stands d of) (apply (world d n inputs ports) o (v ∷ [])) (g (environment d inputs) ports x)) →
      Lowers d n depth names types of (apply_sense o senses) l
  one-lowers g means width typed value =
      subst (λ (ms : List Sense). Lowers d n depth names types of (apply_sense o ms) l) (sym one.are)
      (record {
        valid = valid;
        width = width;
        typed = λ widths f. subst (λ w. ActionHasWidth (declared_by d) l.action widths w) (sym width) (typed widths (last-typed widths f) one.lowers.valid);
        means = λ inputs ports values locals w p st.
            sim-core (register_widths d) (Stands d of) (apply_sense o (one.sense ∷ []) (world d n inputs ports) values) (evaluate (environment d inputs) ports l.action locals)
            (evaluate (environment d inputs) ports last.action locals >>= g (environment d inputs) ports) (means (environment d inputs) ports locals)
            (sim-one d (register_widths d) (Stands d of) t (one.sense (world d n inputs ports)) values (apply (world d n inputs ports) o)
            (evaluate (environment d inputs) ports last.action locals) (g (environment d inputs) ports) (one.lowers.means inputs ports values locals w p st)
            (λ v x is. value inputs ports v x p is));
      })

  -- and one whose action is the operand's
  pub same-lowers : l ≡ last → width_of d t ≡ width_if d of →
      ((inputs : List BitVector) (ports : Ports Stopped) (v : Value) (x : BitVector) → Stands d (Some t) (Some v) x →
      Simulates (register_widths d) (Stands d of) (apply (world d n inputs ports) o (v ∷ [])) (comes_to x)) →
      Lowers d n depth names types of (apply_sense o senses) l
  same-lowers same wide value =
      subst (λ (x : Lowered). Lowers d n depth names types of (apply_sense o senses) x) (sym same)
      (subst (λ (ms : List Sense). Lowers d n depth names types of (apply_sense o ms) last) (sym one.are)
      (record {
        valid = valid;
        width = one.lowers.width ∙ wide;
        typed = one.lowers.typed;
        means = λ inputs ports values locals w p st.
            sim-same-bits d (register_widths d) (Stands d of) t (one.sense (world d n inputs ports)) values (apply (world d n inputs ports) o)
            (evaluate (environment d inputs) ports last.action locals) (one.lowers.means inputs ports values locals w p st)
            (λ v x is. value inputs ports v x is);
      }))

-- ---- prefix operators

pub prefixed-width : (operators : List UnaryOperator) (x : BitVector) (width : ℕ) → HasWidth x width → HasWidth (prefixed operators x) width
prefixed-width [] x width h = h
prefixed-width (unary.Not ∷ operators) x width h = let inner = prefixed-width operators x width h in let o = not-HasWidth (prefixed operators x) inner.0 in (o.0, o.1 ∙ inner.1)
prefixed-width (unary.Negate ∷ operators) x width h = let inner = prefixed-width operators x width h in let o = neg-HasWidth (prefixed operators x) inner.0 in (o.0, o.1 ∙ inner.1)

-- extensions
pub extended-width : (extension : Extension) (x : BitVector) (from to : ℕ) → HasWidth x from → from ≤ to → to ≤ 128 → HasWidth (extension_value extension x to) to
extended-width extensions.Zero x from to h le few = zext-HasWidth x to h.0 (subst (λ w. w ≤ to) (sym h.1) le) few
extended-width extensions.Sign x from to h le few = sext-HasWidth x to h.0 (subst (λ w. w ≤ to) (sym h.1) le) few

whole-extended : (f : BitVector → ℕ → BitVector) → SliceUndoes f → ((x : BitVector) (to : ℕ) → HasWidth x to → HasWidth (f x to) to) → (x : BitVector) (to : ℕ) → HasWidth x to → f x to ≡ x
whole-extended f undoes wide x to h =
    sym (slice-whole (f x to) (wide x to h).0) ∙
    ap (λ w. op.slice (f x to) (w - 1) 0) ((wide x to h).1 ∙ sym h.1) ∙
    undoes x to h.0 (omega (arith, h.1))

extended-same : (extension : Extension) (x : BitVector) (to : ℕ) → HasWidth x to → extension_value extension x to ≡ x
extended-same extensions.Zero x to h = whole-extended op.zext slice-zext (λ y w k. zext-HasWidth y w k.0 (omega (arith, k.1)) (omega (arith, k.1, k.0.no_wider))) x to h
extended-same extensions.Sign x to h = whole-extended op.sext slice-sext (λ y w k. sext-HasWidth y w k.0 (omega (arith, k.1)) (omega (arith, k.1, k.0.no_wider))) x to h

-- a value of bits has their width
pub bits-width : (d : Checked) (t : ValueType) (width : ℕ) (x : BitVector) → t ≡ bits width → HasWidth x (width_of d t) → HasWidth x width
bits-width d t width x e h = (h.0, h.1 ∙ ap (width_of d) e ∙ width-bits d width)

pub type-of-bits : (d : Checked) (t : ValueType) (width : ℕ) → t ≡ bits width → IsType d t → IsWidth width
type-of-bits d t width e h = subst IsWidth (ap (width_of d) e ∙ width-bits d width) h

pub valid-bits : (d : Checked) (width : ℕ) → IsWidth width → IsType d (bits width)
valid-bits d width h = subst IsWidth (sym (width-bits d width)) h

-- the value of an operation on bits
pub bits-come : (d : Checked) (regs : List ℕ) (width : ℕ) (x y : BitVector) → y ≡ x → HasWidth x width →
    Simulates regs (Stands d (Some (bits width))) (comes_to (Some (value.Number y))) (comes_to x)
bits-come d regs width x y e h = sim-value regs (Stands d (Some (bits width))) (Some (value.Number y)) x (number-stands d width x y e h)

module _ (d : Checked) (n depth : ℕ) (names : List Bound) (types : List ValueType) where
  abbrev regs : List ℕ
  regs = register_widths d

  retyped : (o : Operation) (senses : List Sense) (l : Lowered) (of of' : Option ValueType) → of ≡ of' → Lowers d n depth names types of' (apply_sense o senses) l → Lowers d n depth names types of (apply_sense o senses) l
  retyped o senses l of of' e h = subst (λ (r : Option ValueType). Lowers d n depth names types r (apply_sense o senses) l) (sym e) h

  pub unary-lowers : (operators : List UnaryOperator) (ts : List ValueType) (of : Option ValueType) (senses : List Sense) (operands init : List Lowered) (last l : Lowered) →
      operands ≡ init ++ last ∷ [] → IsPrefixed operators last l → IsApplied d n depth names types (operation.Unary operators) ts of senses operands →
      Lowers d n depth names types of (apply_sense (operation.Unary operators) senses) l
  unary-lowers operators [] of senses operands init last l e h given = absurd given.applies
  unary-lowers operators (t ∷ u ∷ ts) of senses operands init last l e h given = absurd given.applies
  unary-lowers operators (t ∷ []) of senses operands init last l e h given =
      let it = given.applies in
      let lone = (single d n depth false names types t senses operands init last e given.all).lowers in
      let wide : IsWidth it.0 = type-of-bits d t it.0 it.1 lone.valid in
      retyped (operation.Unary operators) senses l of (Some (bits it.0)) (it.2 ∙ ap Some it.1)
      (one-lowers d n depth names types (operation.Unary operators) t (Some (bits it.0)) senses operands init last l e false given.all (valid-bits d it.0 wide)
      (λ env ports x. comes_to (prefixed operators x)) h.means (h.width ∙ lone.width ∙ ap (width_of d) it.1)
      (λ widths a valid. subst (λ w. ActionHasWidth (declared_by d) l.action widths w) (ap (width_of d) it.1) (h.typed (declared_by d) widths (width_of d t) a valid.0))
      (λ inputs ports v x p is. bits-come d regs it.0 (prefixed operators x) (prefixed operators (packed v)) (ap (prefixed operators) is.1)
      (prefixed-width operators x it.0 (bits-width d t it.0 x it.1 is.2))))

  pub pack-lowers : (ts : List ValueType) (of : Option ValueType) (senses : List Sense) (operands init : List Lowered) (last : Lowered) →
      operands ≡ init ++ last ∷ [] → IsApplied d n depth names types operation.Pack ts of senses operands →
      Lowers d n depth names types of (apply_sense operation.Pack senses) last
  pack-lowers [] of senses operands init last e given = absurd given.applies
  pack-lowers (t ∷ u ∷ ts) of senses operands init last e given = absurd given.applies
  pack-lowers (t ∷ []) of senses operands init last e given =
      let lone = (single d n depth false names types t senses operands init last e given.all).lowers in
      retyped operation.Pack senses last of (Some (bits (width_of d t))) given.applies
      (same-lowers d n depth names types operation.Pack t (Some (bits (width_of d t))) senses operands init last last e false given.all (valid-bits d (width_of d t) lone.valid)
      refl (sym (width-bits d (width_of d t)))
      (λ inputs ports v x is. bits-come d regs (width_of d t) x (packed v) is.1 is.2))

  pub unpack-lowers : (to : ValueType) (ts : List ValueType) (of : Option ValueType) (senses : List Sense) (operands init : List Lowered) (last : Lowered) →
      operands ≡ init ++ last ∷ [] → IsApplied d n depth names types (operation.Unpack to) ts of senses operands →
      Lowers d n depth names types of (apply_sense (operation.Unpack to) senses) last
  unpack-lowers to [] of senses operands init last e given = absurd given.applies
  unpack-lowers to (t ∷ u ∷ ts) of senses operands init last e given = absurd given.applies
  unpack-lowers to (t ∷ []) of senses operands init last e given =
      let it = given.applies in
      retyped (operation.Unpack to) senses last of (Some to) it.2
      (same-lowers d n depth names types (operation.Unpack to) t (Some to) senses operands init last last e false given.all it.0
      refl (ap (width_of d) it.1 ∙ width-bits d (width_of d to))
      (λ inputs ports v x is. sim-value regs (Stands d (Some to)) (Some (unpacked (world d n inputs ports).design to (packed v))) x
      (subst (λ (c : Checked). Stands d (Some to) (Some (unpacked c to (packed v))) x) (sym (world-design d n inputs ports))
      (subst (λ y. Stands d (Some to) (Some (unpacked d to y)) x) (sym is.1)
      (unpacked-stands d given.design to x it.0 (bits-width d t (width_of d to) x it.1 is.2))))))

  pub extend-lowers : (extension : Extension) (to : ℕ) (ts : List ValueType) (of : Option ValueType) (senses : List Sense) (operands init : List Lowered) (last l : Lowered) →
      operands ≡ init ++ last ∷ [] → IsExtended extension to last l → IsApplied d n depth names types (operation.Extend extension to) ts of senses operands →
      Lowers d n depth names types of (apply_sense (operation.Extend extension to) senses) l
  extend-lowers extension to [] of senses operands init last l e h given = absurd given.applies
  extend-lowers extension to (t ∷ u ∷ ts) of senses operands init last l e h given = absurd given.applies
  extend-lowers extension to (t ∷ []) of senses operands init last l e h given =
      let it = given.applies in
      let lone = (single d n depth false names types t senses operands init last e given.all).lowers in
      let from : IsWidth it.0 = type-of-bits d t it.0 it.1 lone.valid in
      let wide : last.width ≡ it.0 = lone.width ∙ ap (width_of d) it.1 ∙ width-bits d it.0 in
      let valid : IsWidth to = (omega arith, it.3) in
      retyped (operation.Extend extension to) senses l of (Some (bits to)) it.4
      (by_width it.0 (cases_eq last.width to) wide from valid it.2 it.3 it.1)
    where
      by_width : (from : ℕ) → (last.width ≡ to) ⊎ (last.width ≢ to) → last.width ≡ from → IsWidth from → IsWidth to → from ≤ to → to ≤ 128 → t ≡ bits from →
          Lowers d n depth names types (Some (bits to)) (apply_sense (operation.Extend extension to) senses) l
      by_width from (inl same) wide some valid le few is_bits =
          same-lowers d n depth names types (operation.Extend extension to) t (Some (bits to)) senses operands init last l e false given.all (valid-bits d to valid)
          (h.same same) (ap (width_of d) is_bits ∙ width-bits d from ∙ sym wide ∙ same ∙ sym (width-bits d to))
          (λ inputs ports v x is. bits-come d regs to x (extension_value extension (packed v) to)
          (ap (λ y. extension_value extension y to) is.1 ∙ extended-same extension x to ((bits-width d t from x is_bits is.2).0, (bits-width d t from x is_bits is.2).1 ∙ sym wide ∙ same))
          ((bits-width d t from x is_bits is.2).0, (bits-width d t from x is_bits is.2).1 ∙ sym wide ∙ same))
      by_width from (inr other) wide some valid le few is_bits =
          one-lowers d n depth names types (operation.Extend extension to) t (Some (bits to)) senses operands init last l e false given.all (valid-bits d to valid)
          (λ env ports x. comes_to (extension_value extension x to)) (h.means other) (h.width ∙ sym (width-bits d to))
          (λ widths a ok. subst (λ w. ActionHasWidth (declared_by d) l.action widths w) (sym (width-bits d to))
          (h.typed other (declared_by d) widths from (subst (λ w. ActionHasWidth (declared_by d) last.action widths w) (ap (width_of d) is_bits ∙ width-bits d from) a) some.0 le few))
          (λ inputs ports v x p is. bits-come d regs to (extension_value extension x to) (extension_value extension (packed v) to) (ap (λ y. extension_value extension y to) is.1)
          (extended-width extension x from to (bits-width d t from x is_bits is.2) le few))
