-- The bit weight of a well typed design is far below what 64 bits hold.
use Rattle.std.proofs.Common.{◌≡◌, ℕ, zero, suc, ◌+◌, ◌-◌, ◌*◌, ◌^◌, ◌<◌, ◌≤◌, min, List, [], ◌∷◌, ◌++◌, length, map, take, get_or, sum_by, slice_get, Option, Some, None, arith, refl, ap, sym, subst, ◌∙◌}
use Rattle.std.specs.Prelude.{reverse}
use Rattle.std.specs.List.{All}
use Rattle.std.specs.Option.{option_map}
use Rattle.std.proofs.Math.Nat.{mul-le-mul_left, mul-le-mul_right}
use Rattle.std.proofs.lemmas.List.{take_all}
use Rattle.std.proofs.lemmas.List.Elements.{All-head, All-tail}
use Rattle.std.proofs.lemmas.List.Sums.{sum_by-cons, sum_by-le}
use Rattle.std.proofs.lemmas.Option.{slice_get-map}
use Rattle.koika_types.proofs.Sizes.{sum_by-map}
use Rattle.typed_core.specs.declared.design.Node.{Node}
use Rattle.koika_check.specs.BitWeights.{bit_weight, bodies_after, node_squares, register_bits, rule_squares, squares, squares_if, squares_of}
use Rattle.koika_check.specs.inner.BitWeights.{cap}
use Rattle.koika_check.specs.Sizes as sizes
use Rattle.koika_check.specs.Sizes.{Size, bodies_behind, design_size, node_weights, rests, rule_sizes, size_of}
use Rattle.koika_check.specs.Typing.{HasType, IsRegister, IsType, IsTypedDesign}
use Rattle.koika_check.specs.declared.checked.Checked.{Checked}
use Rattle.koika_check.specs.declared.checked.CheckedFunction.{CheckedFunction}
use Rattle.koika_check.specs.declared.checked.Register.{Register}
use Rattle.koika_check.specs.declared.checked.CheckedRule.{CheckedRule}
use Rattle.koika_check.proofs.Accumulations.{accumulated, accumulated-at}
use Rattle.koika_check.proofs.Squares.{bodies-are, function_squares}
use Rattle.koika_check.proofs.TypedAdditions.{all-reverse}
use Rattle.koika_check.proofs.TypedSoFar.{all-at}
use Rattle.koika_check.proofs.TypedSquares.{typed-few}

-- ---- functions

-- how much the body of a function weighs, by those before it
abbrev function_size : Checked → List Size → CheckedFunction → Size
function_size d before f = size_of (record { design = d; bodies = before }) f.body

sizes-are : (d : Checked) (before : List Size) (fs : List CheckedFunction) → bodies_behind d before fs ≡ accumulated (function_size d) before fs
sizes-are d before [] = refl
sizes-are d before (f ∷ fs) = sizes-are d (before ++ function_size d before f ∷ []) fs

module _ (d : Checked) (h : IsTypedDesign d) where
  abbrev counted : ℕ → List ℕ
  counted n = accumulated function_squares [] (take n d.functions)

  abbrev weighed : ℕ → List Size
  weighed n = accumulated (function_size d) [] (take n d.functions)

  abbrev BodyFew : ℕ → CheckedFunction → Type 0
  BodyFew number f = squares (counted number) f.body ≤ 16384 * (function_size d (weighed number) f).weight

  abbrev CallsFew : ℕ → Type 0
  CallsFew n = (number : ℕ) (f : CheckedFunction) → number < n → slice_get d.functions number ≡ Some f → squares_if (slice_get (counted n) number) ≤ 16384 * (sizes.body_of (slice_get (weighed n) number)).weight

  -- calls of functions whose bodies have few
  called : (n number : ℕ) (f : CheckedFunction) → number < n → slice_get d.functions number ≡ Some f → BodyFew number f →
      squares_if (slice_get (counted n) number) ≤ 16384 * (sizes.body_of (slice_get (weighed n) number)).weight
  called n number f lt at few =
      subst (λ (o : Option ℕ). squares_if o ≤ 16384 * (sizes.body_of (slice_get (weighed n) number)).weight) (sym (accumulated-at function_squares d.functions n number f lt at))
      (subst (λ (o : Option Size). squares (counted number) f.body ≤ 16384 * (sizes.body_of o).weight) (sym (accumulated-at (function_size d) d.functions n number f lt at)) few)

  bodies-few : (bound number : ℕ) (f : CheckedFunction) → number < bound → slice_get d.functions number ≡ Some f → BodyFew number f
  bodies-few zero number f lt at = absurd (omega arith)
  bodies-few (suc bound) number f lt at =
      let is = h.functions number f at in
      typed-few d h number (counted number) (weighed number) (λ k g below here. called number k g below here (bodies-few bound k g (omega (arith, below, lt)) here))
      f.body (reverse f.parameters) f.result (all-reverse (IsType d) f.parameters is.parameters) is.body

  calls-few : (n : ℕ) → CallsFew n
  calls-few n number f lt at = called n number f lt at (bodies-few (suc number) number f (omega arith) at)

  -- ---- rules

  abbrev rule_weight : CheckedRule → ℕ
  rule_weight r = (size_of (rests d) r.body).weight

  all_functions : take (length d.functions) d.functions ≡ d.functions
  all_functions = take_all (length d.functions) d.functions (omega arith)

  few-of-rule : (r : CheckedRule) → HasType d (length d.functions) r.body [] None → rule_squares d r ≤ 16384 * rule_weight r
  few-of-rule r has =
      let n = length d.functions in
      let few = typed-few d h n (counted n) (weighed n) (calls-few n) r.body [] None (λ k b lt. absurd (omega (arith, lt))) has in
      let same : counted n ≡ bodies_after [] d.functions = ap (accumulated function_squares []) all_functions ∙ sym (bodies-are [] d.functions) in
      let same_too : weighed n ≡ bodies_behind d [] d.functions = ap (accumulated (function_size d) []) all_functions ∙ sym (sizes-are d [] d.functions) in
      subst (λ (bs : List ℕ). squares bs r.body ≤ 16384 * rule_weight r) same
      (subst (λ (ss : List Size). squares (counted n) r.body ≤ 16384 * (size_of (record { design = d; bodies = ss }) r.body).weight) same_too few)

  few-by-item : {X : Type 0} (f g : X → ℕ) (xs : List X) → All (λ x. f x ≤ 16384 * g x) xs → sum_by f xs ≤ 16384 * sum_by g xs
  few-by-item f g [] all = omega arith
  few-by-item {X} f g (x ∷ xs) all =
      let P : X → Type 0 = λ y. f y ≤ 16384 * g y in
      let one = All-head P x xs all in
      let rest = few-by-item f g xs (All-tail P x xs all) in
      omega (arith, one, rest, sum_by-cons f x xs, sum_by-cons g x xs)

  few-of-rules : sum_by (rule_squares d) d.rules ≤ 16384 * sizes.weights (rule_sizes d)
  few-of-rules =
      let each = few-by-item (rule_squares d) rule_weight d.rules (λ k r lt. few-of-rule (get_or d.rules k r) (h.rules k r lt)) in
      let total : sizes.weights (rule_sizes d) ≡ sum_by rule_weight d.rules = sum_by-map (λ (s : Size). s.weight) (λ (r : CheckedRule). size_of (rests d) r.body) d.rules in
      omega (arith, each, total)

  few-of-node : (n : Node) → node_squares d n ≤ 16384 * (sizes.body_of (slice_get (rule_sizes d) n.rule)).weight
  few-of-node n = by_rule (slice_get d.rules n.rule) refl
    where
      mapped : {X : Type 0} (f : CheckedRule → X) (o : Option CheckedRule) → slice_get d.rules n.rule ≡ o → slice_get (map f d.rules) n.rule ≡ option_map f o
      mapped f o e = slice_get-map f d.rules n.rule ∙ ap (option_map f) e

      by_rule : (o : Option CheckedRule) → slice_get d.rules n.rule ≡ o → node_squares d n ≤ 16384 * (sizes.body_of (slice_get (rule_sizes d) n.rule)).weight
      by_rule None e =
          let none : node_squares d n ≡ 0 = ap squares_if (mapped (rule_squares d) None e) in
          omega (arith, none)
      by_rule (Some r) e =
          let some : node_squares d n ≡ rule_squares d r = ap squares_if (mapped (rule_squares d) (Some r) e) in
          let weight : (sizes.body_of (slice_get (rule_sizes d) n.rule)).weight ≡ rule_weight r = ap (λ (o : Option Size). (sizes.body_of o).weight) (mapped (λ (s : CheckedRule). size_of (rests d) s.body) (Some r) e) in
          let few = few-of-rule r (all-at (λ (s : CheckedRule). HasType d (length d.functions) s.body [] None) d.rules n.rule r h.rules e) in
          omega (arith, some, weight, few)

  few-of-nodes : sum_by (node_squares d) d.nodes ≤ 16384 * node_weights (rule_sizes d) d.nodes
  few-of-nodes = few-by-item (node_squares d) (λ (n : Node). (sizes.body_of (slice_get (rule_sizes d) n.rule)).weight) d.nodes (λ k n lt. few-of-node (get_or d.nodes k n))

  few-register-bits : register_bits d ≤ 32768
  few-register-bits =
      let each = sum_by-le (λ (r : Register). r.width) 128 d.registers (λ k r lt. narrow (get_or d.registers k r) (h.registers k r lt)) in
      let few = h.few_registers in
      let most : length d.registers * 128 ≤ 256 * 128 = mul-le-mul_right 128 few in
      omega (arith, each, most)
    where
      narrow : (r : Register) → IsRegister d r → r.width ≤ 128
      narrow r is = let w = is.width in let most = is.of.1 in omega (arith, w, most)

  few-held : length d.nodes * register_bits d ≤ 33554432
  few-held =
      let few = h.few_nodes in
      let bits = few-register-bits in
      let a : length d.nodes * register_bits d ≤ length d.nodes * 32768 = mul-le-mul_left (length d.nodes) bits in
      omega (arith, a, few)

  few-squares : squares_of d ≤ 536870912
  few-squares =
      let a = few-of-rules in
      let b = few-of-nodes in
      let light = h.light in
      omega (arith, a, b, light)

  -- the parts of the bit weight that are counted with saturation are its parts, and so is their sum
  pub counted-whole : (w s b held both result : ℕ) → w ≡ 128 * d.weight → s ≡ cap (squares_of d) → b ≡ cap (register_bits d) → held ≡ cap (length d.nodes * b) → both ≡ cap (w + s) → result ≡ cap (both + held) →
      result ≡ bit_weight d
  counted-whole w s b held both result ew es eb eh eboth e =
      let bits : b ≡ register_bits d = eb ∙ under (register_bits d) (let few = few-register-bits in omega (arith, few)) in
      let all : held ≡ length d.nodes * register_bits d = eh ∙ ap (λ n. cap (length d.nodes * n)) bits ∙ under (length d.nodes * register_bits d) (let few = few-held in omega (arith, few)) in
      let squares : s ≡ squares_of d = es ∙ under (squares_of d) (let few = few-squares in omega (arith, few)) in
      let weight : w ≡ 128 * (design_size d).weight = ew ∙ ap (λ n. 128 * n) h.weight in
      let light = h.light in
      let few_s = few-squares in
      let few_h = few-held in
      let sum : both ≡ w + s = eboth ∙ under (w + s) (omega (arith, weight, light, squares, few_s)) in
      let whole : result ≡ both + held = e ∙ under (both + held) (omega (arith, sum, weight, light, squares, few_s, all, few_h)) in
      omega (arith, whole, sum, weight, squares, all)
    where
      least : (x m : ℕ) → x ≤ m → min x m ≡ x
      least x m le = grind arith

      under : (x : ℕ) → x ≤ 4294967295 → cap x ≡ x
      under x le = least x (2 ^ 64 - 1) (omega (arith, le))
