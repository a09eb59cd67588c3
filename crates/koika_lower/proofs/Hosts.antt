-- Host functions and comparisons of signed numbers are lowered.
use Rattle.std.proofs.Common.{◌≡◌, ℕ, zero, suc, ◌+◌, ◌-◌, ◌*◌, ◌/◌, ◌%◌, ◌≤◌, ◌⊎◌, inl, inr, List, [], ◌∷◌, ◌++◌, length, map, replicate, Option, Some, option_map, slice_get, false, arith, refl, ap, ap₂, sym, subst, ◌∙◌}
use Rattle.std.proofs.Math.Pow.{pow_pos}
use Rattle.std.proofs.lemmas.List.{length-append}
use Rattle.std.proofs.lemmas.Option.{slice_get-map}
use Rattle.kw_bits.specs.BitVector.{BitVector, zero_at}
use Rattle.kw_bits.specs.Host as host
use Rattle.kw_bits.specs.Laws.{HasWidth}
use Rattle.kw_bits.specs.Operators as op
use Rattle.kw_bits.specs.declared.host.HostKind.{HostKind}
use Rattle.kw_bits.specs.declared.host.HostKind.TheVariants as kinds
use Rattle.kw_bits.proofs.OperatorLaws.{host-HasWidth, slt-HasWidth, slte-HasWidth}
use Rattle.koika_syntax.specs.declared.operator.BinaryOperator.TheVariants as binary
use Rattle.koika_syntax.specs.declared.operator.SignedComparison.{SignedComparison}
use Rattle.koika_syntax.specs.declared.operator.SignedComparison.TheVariants as comparisons
use Rattle.koika_types.specs.Values.{packed}
use Rattle.koika_types.specs.declared.value.Value.{Value}
use Rattle.typed_core.specs.Evaluation.{Evaluation, ◌>>=◌, answer_of, comes_to, evaluate}
use Rattle.typed_core.specs.Valid.{ActionHasWidth, IsHost, IsWidth, TwoHasWidth}
use Rattle.kw_bits.specs.declared.host.HostSpec.{HostSpec}
use Rattle.typed_core.specs.declared.outcome.Stopped.{Stopped}
use Rattle.koika_check.specs.Meaning.{all_joined, apply, comparison_value, host_by, in_turn, joined_arguments}
use Rattle.koika_check.specs.Types.{bits, width_of}
use Rattle.koika_check.specs.Typing.{Applies, Compares}
use Rattle.koika_check.specs.declared.checked.Checked.{Checked}
use Rattle.koika_check.specs.declared.checked.Host.{Host}
use Rattle.koika_check.specs.declared.typed.Operation.TheVariants as operation
use Rattle.koika_check.specs.declared.typed.ValueType.{ValueType}
use Rattle.koika_lower.specs.inner.Applied.{IsAskedHost, IsChain, chain_part}
use Rattle.koika_lower.specs.inner.Forms.{FormFits, IsFormed, form_value}
use Rattle.koika_lower.specs.Lowering.{register_widths}
use Rattle.koika_lower.specs.inner.Simulation.{IsApplied, Lowers, LowersAll, Sense, StandAll, Stands, apply_sense, declared_by, environment, externs_of, world}
use Rattle.koika_lower.specs.declared.forms.Form.{Form}
use Rattle.koika_lower.specs.declared.lowered.Bound.{Bound}
use Rattle.koika_lower.specs.declared.lowered.Lowered.{Lowered}
use Rattle.koika_lower.proofs.ChainValues.{are-operands, core, meant, operands-count, operands-typed}
use Rattle.koika_lower.proofs.Constructs.{bits-come, bits-width, last_one, sim-core, valid-bits, world-design}
use Rattle.koika_lower.proofs.Groups.{are-wide, as_wide, below, below-width, chains-wide, sim-joined}
use Rattle.koika_lower.proofs.Values.{all-get, total}
use Rattle.koika_lower.proofs.Operands.{sim-cons, sim-one}
use Rattle.koika_lower.proofs.Orders.{bind-assoc}
use Rattle.koika_lower.proofs.Simulations.{sim-bind, sim-same, sim-value}
use Rattle.koika_lower.proofs.Widths.{width-bits}

pub arity-cases : (k : HostKind) → (host.arity k ≡ 1) ⊎ (host.arity k ≡ 2)
unfolding host.arity
arity-cases kinds.Popcount = inl refl
arity-cases kinds.Parity = inl refl
arity-cases kinds.Reverse = inl refl
arity-cases kinds.LeadingZeros = inl refl
arity-cases kinds.Gray = inl refl
arity-cases kinds.Hamming = inr refl
arity-cases kinds.Morton = inr refl
arity-cases kinds.SatAdd = inr refl

-- arguments of equal width together
total-equal : (d : Checked) (a m : ℕ) → total d (replicate a (bits m)) ≡ a * m
total-equal d zero m = omega arith
total-equal d (suc a) m = let rest = total-equal d a m in let w = width-bits d m in omega (arith, rest, w)

pub arguments-total : (d : Checked) (spec : HostSpec) → IsHost spec → (a : ℕ) → (a ≡ 1) ⊎ (a ≡ 2) → host.arity spec.kind ≡ a → total d (replicate a (bits (spec.in_width / a))) ≡ spec.in_width
arguments-total d spec ok a (inl one) e =
    total-equal d a (spec.in_width / a) ∙ ap (λ k. k * (spec.in_width / k)) one ∙ omega arith
arguments-total d spec ok a (inr two) e =
    let even : spec.in_width % 2 ≡ 0 = ap (λ k. spec.in_width % k) (sym (e ∙ two)) ∙ ok.equal_parts in
    total-equal d a (spec.in_width / a) ∙ ap (λ k. k * (spec.in_width / k)) two ∙ omega (arith, even)

-- the arguments joined
pub joined_arguments-below : (d : Checked) (ts : List ValueType) (vs : List Value) (xs : List BitVector) (z : BitVector) → StandAll d ts vs xs → joined_arguments z vs ≡ below z xs
joined_arguments-below d [] [] [] z h = refl
joined_arguments-below d [] [] (x ∷ xs) z h = absurd h
joined_arguments-below d [] (v ∷ vs) xs z h = absurd h
joined_arguments-below d (t ∷ ts) [] xs z h = absurd h
joined_arguments-below d (t ∷ ts) (v ∷ vs) [] z h = absurd h
joined_arguments-below d (t ∷ ts) (v ∷ vs) (x ∷ xs) z h = ap (λ y. joined_arguments (op.concat z y) vs) h.0.1 ∙ joined_arguments-below d ts vs xs (op.concat z x) h.1

pub comparison-width : (c : SignedComparison) (x y : BitVector) (w : ℕ) → HasWidth x w → HasWidth y w → HasWidth (comparison_value c x y) 1
comparison-width comparisons.Less x y w hx hy = slt-HasWidth x y hx.0 hy.0 (hx.1 ∙ sym hy.1)
comparison-width comparisons.LessOrEqual x y w hx hy = slte-HasWidth x y hx.0 hy.0 (hx.1 ∙ sym hy.1)
comparison-width comparisons.Greater x y w hx hy = slt-HasWidth y x hy.0 hx.0 (hy.1 ∙ sym hx.1)
comparison-width comparisons.GreaterOrEqual x y w hx hy = slte-HasWidth y x hy.0 hx.0 (hy.1 ∙ sym hx.1)

-- the answer's width is one of bit vectors
out-valid : (spec : HostSpec) → IsHost spec → IsWidth (host.out_width spec.kind spec.in_width)
out-valid spec ok =
    let h = host-HasWidth spec.kind (zero_at spec.in_width) (record { some_bit = ok.some_bit; no_wider = omega (arith, ok.no_wider); in_range = pow_pos spec.in_width }) ok in
    (subst (λ w. 1 ≤ w) h.1 h.0.some_bit, subst (λ w. w ≤ 128) h.1 h.0.no_wider)

pub answer_wide : (y : BitVector) (spec : HostSpec) → IsHost spec → HasWidth y spec.in_width → HasWidth (host.value spec.kind y) (host.out_width spec.kind spec.in_width)
answer_wide y spec ok h =
    let r = host-HasWidth spec.kind y h.0 (subst (host.TakesWidth spec.kind) (sym h.1) ok) in (r.0, r.1 ∙ ap (host.out_width spec.kind) h.1)

length-same : (k : ℕ) → length (replicate k binary.Concat) ≡ k
length-same zero = refl
length-same (suc k) = ap suc (length-same k)

-- two operands that are taken from the end
both_last : (a b left right : Lowered) (before init : List Lowered) → a ∷ b ∷ [] ≡ before ++ right ∷ [] → before ≡ init ++ left ∷ [] → (a ≡ left) × (b ≡ right)
both_last a b left right [] init e f = absurd (omega (arith, ap length e))
both_last a b left right (x ∷ []) init e f = let first : a ≡ x = cc in let second : b ≡ right = cc in (first ∙ last_one x left init f, second)
both_last a b left right (x ∷ y ∷ before) init e f = absurd (omega (arith, ap length e, length-append (x ∷ y ∷ before) (right ∷ [])))

module _ (d : Checked) (n depth : ℕ) (names : List Bound) (types : List ValueType) where
  pub host-lowers : (number : ℕ) (ts : List ValueType) (of : Option ValueType) (senses : List Sense) (operands : List Lowered) (j l : Lowered) →
      IsChain (replicate (length operands - 1) binary.Concat) operands j → IsAskedHost d number j l → IsApplied d n depth names types (operation.Host number) ts of senses operands →
      Lowers d n depth names types of (apply_sense (operation.Host number) senses) l
  host-lowers number ts of senses operands j l h asked given = by_types ts given.applies given.all
    where
      by_types : (ts : List ValueType) → Applies d n (operation.Host number) ts of → LowersAll d n depth false names types (map Some ts) senses operands → Lowers d n depth names types of (apply_sense (operation.Host number) senses) l
      by_types [] it all =
          let ok = all-get (λ (x : Host). IsHost x.spec) d.hosts number it.0 given.design.hosts it.1 in
          absurd (omega (arith, ap (total d) it.2, arguments-total d it.0.spec ok (host.arity it.0.spec.kind) (arity-cases it.0.spec.kind) refl, ok.some_bit))
      by_types (t ∷ ts) it all =
          let function : Host = it.0 in
          let spec = function.spec in
          let ok = all-get (λ (x : Host). IsHost x.spec) d.hosts number function given.design.hosts it.1 in
          let whole : total d (t ∷ ts) ≡ spec.in_width = ap (total d) it.2 ∙ arguments-total d spec ok (host.arity spec.kind) (arity-cases spec.kind) refl in
          let few : width_of d t + total d ts ≤ 128 = omega (arith, whole, ok.no_wider) in
          let count : length operands ≡ suc (length ts) = operands-count d n depth names types (t ∷ ts) senses operands all in
          let is : IsChain (replicate (length ts) binary.Concat) operands j = subst (λ k. IsChain (replicate k binary.Concat) operands j) (omega (arith, count)) h in
          let c = is.typed d (bits (width_of d t)) (as_wide d ts) (bits (width_of d t + total d ts)) (are-wide d (t ∷ ts) operands (are-operands d n depth names types (t ∷ ts) senses operands all)) (chains-wide d (width_of d t) ts few) in
          let wide : j.width ≡ spec.in_width = c.0 ∙ width-bits d (width_of d t + total d ts) ∙ whole in
          let core_spec : slice_get (externs_of d).hosts number ≡ Some spec = slice_get-map (λ (x : Host). x.spec) d.hosts number ∙ ap (option_map (λ (x : Host). x.spec)) it.1 in
          let out = host.out_width spec.kind spec.in_width in
          let out_valid : IsWidth out = out-valid spec ok in
          subst (λ (o : Option ValueType). Lowers d n depth names types o (apply_sense (operation.Host number) senses) l) (sym it.3)
          (record {
            valid = valid-bits d out out_valid;
            width = asked.width function it.1 ∙ sym (width-bits d out);
            typed = λ widths f. subst (λ w. ActionHasWidth (declared_by d) l.action widths w) (sym (asked.width function it.1))
                (asked.typed (declared_by d) widths j.width out (c.2 (declared_by d) widths (operands-typed d n depth names types (t ∷ ts) senses operands widths all f)) (omega (arith, wide, ok.some_bit))
                (spec, core_spec, sym wide, refl));
            means = λ inputs ports values locals w p st.
                sim-core (register_widths d) (Stands d (Some (bits out))) (apply_sense (operation.Host number) senses (world d n inputs ports) values) (evaluate (environment d inputs) ports l.action locals)
                (chain_part (replicate (length ts) binary.Concat) (core d n depth names types inputs ports values locals w p st operands) locals >>= λ x. comes_to (answer_of (slice_get (externs_of d).hosts number) x))
                (asked.means (environment d inputs) ports locals ∙
                ap (λ (q : Evaluation BitVector Stopped). q >>= λ x. comes_to (answer_of (slice_get (externs_of d).hosts number) x))
                (is.means (count ∙ ap suc (sym (length-same (length ts)))) (environment d inputs) ports locals))
                (sim-same (register_widths d) (Stands d (Some (bits out))) (apply_sense (operation.Host number) senses (world d n inputs ports) values)
                ((in_turn (meant d n depth names types inputs ports values locals w p st senses) values >>= comes_to) >>= apply (world d n inputs ports) (operation.Host number))
                (chain_part (replicate (length ts) binary.Concat) (core d n depth names types inputs ports values locals w p st operands) locals >>= λ x. comes_to (answer_of (slice_get (externs_of d).hosts number) x))
                (λ events. sym (bind-assoc (in_turn (meant d n depth names types inputs ports values locals w p st senses) values) comes_to (apply (world d n inputs ports) (operation.Host number)) events))
                (sim-bind (register_widths d) (λ vs y. (all_joined vs ≡ y) × HasWidth y spec.in_width) (Stands d (Some (bits out))) (apply (world d n inputs ports) (operation.Host number))
                (λ x. comes_to (answer_of (slice_get (externs_of d).hosts number) x))
                (λ vs y r. bits-come d (register_widths d) out (answer_of (slice_get (externs_of d).hosts number) y) (answer_of (host_by (slice_get (world d n inputs ports).design.hosts number)) (all_joined vs))
                (ap (λ (c : Checked). answer_of (host_by (slice_get c.hosts number)) (all_joined vs)) (world-design d n inputs ports)
                ∙ ap (λ (o : Option Host). answer_of (host_by o) (all_joined vs)) it.1
                ∙ ap (answer_of (Some spec)) r.0
                ∙ ap (λ (o : Option HostSpec). answer_of o y) (sym core_spec))
                (subst (λ (o : Option HostSpec). HasWidth (answer_of o y) out) (sym core_spec) (answer_wide y spec ok r.1)))
                (in_turn (meant d n depth names types inputs ports values locals w p st senses) values >>= comes_to)
                (chain_part (replicate (length ts) binary.Concat) (core d n depth names types inputs ports values locals w p st operands) locals)
                (sim-joined d n depth names types inputs ports values locals w p st (λ vs y. (all_joined vs ≡ y) × HasWidth y spec.in_width) t ts senses operands comes_to all
                (λ v vs x xs each. sim-value (register_widths d) (λ vs y. (all_joined vs ≡ y) × HasWidth y spec.in_width) (v ∷ vs) (below x xs) (
                  ap (λ y. joined_arguments y vs) each.0.1 ∙ joined_arguments-below d ts vs xs x each.1,
                  (let b = below-width d x (width_of d t) ts vs xs each.0.2 each.1 few in (b.0, b.1 ∙ whole)),
                )))));
          })

  pub compare-lowers : (comparison : SignedComparison) (ts : List ValueType) (of : Option ValueType) (senses : List Sense) (operands before init : List Lowered) (left right l : Lowered) (form : Form) →
      operands ≡ before ++ right ∷ [] → before ≡ init ++ left ∷ [] →
      ((x y : BitVector) → form_value form x y ≡ comparison_value comparison x y) → FormFits Compares form → IsFormed form left right l →
      IsApplied d n depth names types (operation.Compare comparison) ts of senses operands → Lowers d n depth names types of (apply_sense (operation.Compare comparison) senses) l
  compare-lowers comparison [] of senses operands before init left right l form e f value fits h given = absurd given.applies
  compare-lowers comparison (t ∷ []) of senses operands before init left right l form e f value fits h given = absurd given.applies
  compare-lowers comparison (t ∷ u ∷ w ∷ ts) of senses operands before init left right l form e f value fits h given = absurd given.applies
  compare-lowers comparison (t ∷ u ∷ []) of senses operands before init left right l form e f value fits h given = by_operands senses operands e given.all
    where
      by_operands : (senses : List Sense) (operands : List Lowered) → operands ≡ before ++ right ∷ [] → LowersAll d n depth false names types (Some t ∷ Some u ∷ []) senses operands →
          Lowers d n depth names types of (apply_sense (operation.Compare comparison) senses) l
      by_operands [] operands e all = absurd all
      by_operands (m ∷ ms) [] e all = absurd all
      by_operands (m ∷ []) (a ∷ ls) e all = absurd all.1
      by_operands (m ∷ k ∷ ms) (a ∷ []) e all = absurd all.1
      by_operands (m ∷ k ∷ []) (a ∷ b ∷ c ∷ ls) e all = absurd all.1.1
      by_operands (m ∷ k ∷ q ∷ ms) (a ∷ b ∷ ls) e all = absurd all.1.1
      by_operands (m ∷ k ∷ []) (a ∷ b ∷ []) e all =
          let it = given.applies in
          let both = both_last a b left right before init e f in
          let first : Lowers d n depth names types (Some t) m left = subst (λ (x : Lowered). Lowers d n depth names types (Some t) m x) both.0 all.0 in
          let second : Lowers d n depth names types (Some u) k right = subst (λ (x : Lowered). Lowers d n depth names types (Some u) k x) both.1 all.1.0 in
          let w = it.1.0 in
          let two : TwoHasWidth form.operator left.width right.width 1 =
          subst (λ r. TwoHasWidth form.operator left.width right.width r) (ap (width_of d) it.1.2 ∙ width-bits d 1)
          (subst (λ r. TwoHasWidth form.operator left.width r (width_of d it.0)) (sym second.width)
          (subst (λ r. TwoHasWidth form.operator r (width_of d u) (width_of d it.0)) (sym first.width) (fits d t u it.0 it.1))) in
          let wide : l.width ≡ 1 = h.width 1 two (omega arith) in
          subst (λ (o : Option ValueType). Lowers d n depth names types o (apply_sense (operation.Compare comparison) (m ∷ k ∷ [])) l) (sym (it.2 ∙ ap Some it.1.2))
          (record {
            valid = valid-bits d 1 (omega arith, omega arith);
            width = wide ∙ sym (width-bits d 1);
            typed = λ widths f. subst (λ r. ActionHasWidth (declared_by d) l.action widths r) (sym wide)
                (h.typed (declared_by d) widths 1 (first.typed widths f) (second.typed widths f) (subst (λ r. 1 ≤ r) (sym first.width) first.valid.0) (subst (λ r. 1 ≤ r) (sym second.width) second.valid.0) (omega arith) two);
            means = λ inputs ports values locals wi p st.
                sim-core (register_widths d) (Stands d (Some (bits 1))) (apply_sense (operation.Compare comparison) (m ∷ k ∷ []) (world d n inputs ports) values) (evaluate (environment d inputs) ports l.action locals)
                (evaluate (environment d inputs) ports left.action locals >>= λ x. evaluate (environment d inputs) ports right.action locals >>= λ y. comes_to (form_value form x y)) (h.means (environment d inputs) ports locals)
                (sim-cons d (register_widths d) (Stands d (Some (bits 1))) t (m (world d n inputs ports)) (k (world d n inputs ports) ∷ []) values (apply (world d n inputs ports) (operation.Compare comparison))
                (evaluate (environment d inputs) ports left.action locals) (λ x. evaluate (environment d inputs) ports right.action locals >>= λ y. comes_to (form_value form x y)) (first.means inputs ports values locals wi p st)
                (λ v x is. sim-one d (register_widths d) (Stands d (Some (bits 1))) u (k (world d n inputs ports)) values (λ vs. apply (world d n inputs ports) (operation.Compare comparison) (v ∷ vs))
                (evaluate (environment d inputs) ports right.action locals) (λ y. comes_to (form_value form x y)) (second.means inputs ports values locals wi p st)
                (λ v' y is'. bits-come d (register_widths d) 1 (form_value form x y) (comparison_value comparison (packed v) (packed v'))
                (ap₂ (comparison_value comparison) is.1 is'.1 ∙ sym (value x y))
                (subst (λ z. HasWidth z 1) (sym (value x y)) (comparison-width comparison x y w (bits-width d t w x it.1.1.0 is.2) (bits-width d u w y it.1.1.1 is'.2))))));
          })
