-- The keyword of each operator has the operator's widths and value.
use Rattle.std.proofs.Common.{◌≡◌, ℕ, ◌+◌, nat_eq, Bool, true, false, ◌&&◌, [], ◌∷◌, refl, sym, ◌∙◌}
use Rattle.std.proofs.lemmas.Bool.{eq-eqb}
use Rattle.kw_bits.specs.BitVector.{BitVector}
use Rattle.net_graph.specs.Operators.{TakesTwo, one_value, one_width, two_value, two_width}
use Rattle.net_graph.specs.declared.node.NetOne.{NetOne}
use Rattle.net_graph.specs.declared.node.NetOne.TheVariants as ones
use Rattle.net_graph.specs.declared.node.NetTwo.{NetTwo}
use Rattle.net_graph.specs.declared.node.NetTwo.TheVariants as twos
use Rattle.btor2_text.specs.declared.kind.ArgumentKind.TheVariants as kinds
use Rattle.btor2_model.specs.Rules.{rule_of}
use Rattle.btor2_model.specs.Run.{binary, unary}
use Rattle.btor2_model.specs.inner.SlowRun.{computes}
use Rattle.btor2_model.specs.declared.rule.FormRule.{FormRule}
use Rattle.btor2_model.specs.declared.rule.FormRule.TheVariants as forms
use Rattle.btor2_model.proofs.KindsByRule.{kinds_by}
use Rattle.btor2_net.specs.Pages.{keyword_of_one, keyword_of_two}
use Rattle.btor2_net.proofs.Asking.{Agrees, Plain, four, all-true}
use Rattle.btor2_net.proofs.WrittenSorts.{Quiet}

-- the rule of an operator is asked nothing special, and no other loop looks for its lines
pub record Computes (rule : FormRule) : Type 0 where
  pub plain : Plain rule
  pub computed : computes rule ≡ true
  pub quiet : (test : FormRule → Bool) → Quiet test → test rule ≡ false

pub unary-computes : Computes forms.Unary
unary-computes = record { plain = λ p given. record { state = refl; first = refl; numeral = refl; fixed = refl }; computed = refl; quiet = λ test quiet. quiet.unary }

pub reduced-computes : Computes forms.Reduced
reduced-computes = record { plain = λ p given. record { state = refl; first = refl; numeral = refl; fixed = refl }; computed = refl; quiet = λ test quiet. quiet.reduced }

pub binary-computes : Computes forms.Binary
binary-computes = record { plain = λ p given. record { state = refl; first = refl; numeral = refl; fixed = refl }; computed = refl; quiet = λ test quiet. quiet.binary }

pub compared-computes : Computes forms.Compared
compared-computes = record { plain = λ p given. record { state = refl; first = refl; numeral = refl; fixed = refl }; computed = refl; quiet = λ test quiet. quiet.compared }

pub boolean-computes : Computes forms.Boolean
boolean-computes = record { plain = λ p given. record { state = refl; first = refl; numeral = refl; fixed = refl }; computed = refl; quiet = λ test quiet. quiet.boolean }

pub joined-computes : Computes forms.Joined
joined-computes = record { plain = λ p given. record { state = refl; first = refl; numeral = refl; fixed = refl }; computed = refl; quiet = λ test quiet. quiet.joined }

pub sliced-computes : Computes forms.Sliced
sliced-computes = record { plain = λ p given. record { state = refl; first = refl; numeral = refl; fixed = refl }; computed = refl; quiet = λ test quiet. quiet.sliced }

pub extended-computes : Computes forms.Extended
extended-computes = record { plain = λ p given. record { state = refl; first = refl; numeral = refl; fixed = refl }; computed = refl; quiet = λ test quiet. quiet.extended }

pub chosen-computes : Computes forms.Chosen
chosen-computes = record { plain = λ p given. record { state = refl; first = refl; numeral = refl; fixed = refl }; computed = refl; quiet = λ test quiet. quiet.chosen }

-- the keyword of an operator on one node
pub record OneKeyword (op : NetOne) : Type 0 where
  pub rule : FormRule
  pub of : rule_of (keyword_of_one op) ≡ rule
  pub form : kinds_by rule ≡ kinds.Sort ∷ kinds.Value ∷ []
  pub computes : Computes rule
  pub agrees : (v : ℕ) → Agrees rule (four (one_width op v) v 0 0)
  pub value : (a : BitVector) → unary (keyword_of_one op) a ≡ one_value op a

unary-keyword : (op : NetOne) → rule_of (keyword_of_one op) ≡ forms.Unary → ((v : ℕ) → one_width op v ≡ v) → ((a : BitVector) → unary (keyword_of_one op) a ≡ one_value op a) → OneKeyword op
unary-keyword op of width value = record {
  rule = forms.Unary;
  of = of;
  form = refl;
  computes = unary-computes;
  agrees = λ v. record { widths = eq-eqb v (one_width op v) (sym (width v)); bounds = refl };
  value = value;
}

reduced-keyword : (op : NetOne) → rule_of (keyword_of_one op) ≡ forms.Reduced → ((v : ℕ) → one_width op v ≡ 1) → ((a : BitVector) → unary (keyword_of_one op) a ≡ one_value op a) → OneKeyword op
reduced-keyword op of width value = record {
  rule = forms.Reduced;
  of = of;
  form = refl;
  computes = reduced-computes;
  agrees = λ v. record { widths = eq-eqb (one_width op v) 1 (width v); bounds = refl };
  value = value;
}

pub one-keyword : (op : NetOne) → OneKeyword op
unfolding one_value one_width
one-keyword ones.Not = unary-keyword ones.Not refl (λ v. refl) (λ a. refl)
one-keyword ones.Neg = unary-keyword ones.Neg refl (λ v. refl) (λ a. refl)
one-keyword ones.Inc = unary-keyword ones.Inc refl (λ v. refl) (λ a. refl)
one-keyword ones.Dec = unary-keyword ones.Dec refl (λ v. refl) (λ a. refl)
one-keyword ones.RedAnd = reduced-keyword ones.RedAnd refl (λ v. refl) (λ a. refl)
one-keyword ones.RedOr = reduced-keyword ones.RedOr refl (λ v. refl) (λ a. refl)
one-keyword ones.RedXor = reduced-keyword ones.RedXor refl (λ v. refl) (λ a. refl)

-- the keyword of an operator on two nodes
pub record TwoKeyword (op : NetTwo) : Type 0 where
  pub rule : FormRule
  pub of : rule_of (keyword_of_two op) ≡ rule
  pub form : kinds_by rule ≡ kinds.Sort ∷ kinds.Value ∷ kinds.Value ∷ []
  pub computes : Computes rule
  pub agrees : (v u : ℕ) → TakesTwo op v u → Agrees rule (four (two_width op v u) v u 0)
  pub value : (a b : BitVector) → binary (keyword_of_two op) a b ≡ two_value op a b

binary-keyword : (op : NetTwo) → rule_of (keyword_of_two op) ≡ forms.Binary → ((v u : ℕ) → two_width op v u ≡ v) → ((v u : ℕ) → TakesTwo op v u → v ≡ u)
    → ((a b : BitVector) → binary (keyword_of_two op) a b ≡ two_value op a b) → TwoKeyword op
binary-keyword op of width takes value = record {
  rule = forms.Binary;
  of = of;
  form = refl;
  computes = binary-computes;
  agrees = λ v u takes_both. record {
    widths = all-true (nat_eq v (two_width op v u)) (nat_eq u (two_width op v u)) (eq-eqb v (two_width op v u) (sym (width v u)))
        (eq-eqb u (two_width op v u) (sym (width v u ∙ takes v u takes_both)));
    bounds = refl;
  };
  value = value;
}

compared-keyword : (op : NetTwo) → rule_of (keyword_of_two op) ≡ forms.Compared → ((v u : ℕ) → two_width op v u ≡ 1) → ((v u : ℕ) → TakesTwo op v u → v ≡ u)
    → ((a b : BitVector) → binary (keyword_of_two op) a b ≡ two_value op a b) → TwoKeyword op
compared-keyword op of width takes value = record {
  rule = forms.Compared;
  of = of;
  form = refl;
  computes = compared-computes;
  agrees = λ v u takes_both. record { widths = all-true (nat_eq (two_width op v u) 1) (nat_eq v u) (eq-eqb (two_width op v u) 1 (width v u)) (eq-eqb v u (takes v u takes_both)); bounds = refl };
  value = value;
}

boolean-keyword : (op : NetTwo) → rule_of (keyword_of_two op) ≡ forms.Boolean → ((v u : ℕ) → two_width op v u ≡ 1) → ((v u : ℕ) → TakesTwo op v u → (v ≡ 1) × (u ≡ 1))
    → ((a b : BitVector) → binary (keyword_of_two op) a b ≡ two_value op a b) → TwoKeyword op
boolean-keyword op of width takes value = record {
  rule = forms.Boolean;
  of = of;
  form = refl;
  computes = boolean-computes;
  agrees = λ v u takes_both. record {
    widths = all-true (nat_eq (two_width op v u) 1) (nat_eq v 1 && nat_eq u 1) (eq-eqb (two_width op v u) 1 (width v u))
        (all-true (nat_eq v 1) (nat_eq u 1) (eq-eqb v 1 (takes v u takes_both).0) (eq-eqb u 1 (takes v u takes_both).1));
    bounds = refl;
  };
  value = value;
}

joined-keyword : (op : NetTwo) → rule_of (keyword_of_two op) ≡ forms.Joined → ((v u : ℕ) → two_width op v u ≡ v + u) → ((a b : BitVector) → binary (keyword_of_two op) a b ≡ two_value op a b) → TwoKeyword op
joined-keyword op of width value = record {
  rule = forms.Joined;
  of = of;
  form = refl;
  computes = joined-computes;
  agrees = λ v u takes_both. record { widths = eq-eqb (two_width op v u) (v + u) (width v u); bounds = refl };
  value = value;
}

pub two-keyword : (op : NetTwo) → TwoKeyword op
unfolding two_value two_width TakesTwo
two-keyword twos.And = binary-keyword twos.And refl (λ v u. refl) (λ v u takes. takes) (λ a b. refl)
two-keyword twos.Or = binary-keyword twos.Or refl (λ v u. refl) (λ v u takes. takes) (λ a b. refl)
two-keyword twos.Xor = binary-keyword twos.Xor refl (λ v u. refl) (λ v u takes. takes) (λ a b. refl)
two-keyword twos.Nand = binary-keyword twos.Nand refl (λ v u. refl) (λ v u takes. takes) (λ a b. refl)
two-keyword twos.Nor = binary-keyword twos.Nor refl (λ v u. refl) (λ v u takes. takes) (λ a b. refl)
two-keyword twos.Xnor = binary-keyword twos.Xnor refl (λ v u. refl) (λ v u takes. takes) (λ a b. refl)
two-keyword twos.Add = binary-keyword twos.Add refl (λ v u. refl) (λ v u takes. takes) (λ a b. refl)
two-keyword twos.Sub = binary-keyword twos.Sub refl (λ v u. refl) (λ v u takes. takes) (λ a b. refl)
two-keyword twos.Mul = binary-keyword twos.Mul refl (λ v u. refl) (λ v u takes. takes) (λ a b. refl)
two-keyword twos.Sll = binary-keyword twos.Sll refl (λ v u. refl) (λ v u takes. takes) (λ a b. refl)
two-keyword twos.Srl = binary-keyword twos.Srl refl (λ v u. refl) (λ v u takes. takes) (λ a b. refl)
two-keyword twos.Sra = binary-keyword twos.Sra refl (λ v u. refl) (λ v u takes. takes) (λ a b. refl)
two-keyword twos.EqBits = compared-keyword twos.EqBits refl (λ v u. refl) (λ v u takes. takes) (λ a b. refl)
two-keyword twos.Neq = compared-keyword twos.Neq refl (λ v u. refl) (λ v u takes. takes) (λ a b. refl)
two-keyword twos.Ult = compared-keyword twos.Ult refl (λ v u. refl) (λ v u takes. takes) (λ a b. refl)
two-keyword twos.Ulte = compared-keyword twos.Ulte refl (λ v u. refl) (λ v u takes. takes) (λ a b. refl)
two-keyword twos.Ugt = compared-keyword twos.Ugt refl (λ v u. refl) (λ v u takes. takes) (λ a b. refl)
two-keyword twos.Ugte = compared-keyword twos.Ugte refl (λ v u. refl) (λ v u takes. takes) (λ a b. refl)
two-keyword twos.Slt = compared-keyword twos.Slt refl (λ v u. refl) (λ v u takes. takes) (λ a b. refl)
two-keyword twos.Slte = compared-keyword twos.Slte refl (λ v u. refl) (λ v u takes. takes) (λ a b. refl)
two-keyword twos.Sgt = compared-keyword twos.Sgt refl (λ v u. refl) (λ v u takes. takes) (λ a b. refl)
two-keyword twos.Sgte = compared-keyword twos.Sgte refl (λ v u. refl) (λ v u takes. takes) (λ a b. refl)
two-keyword twos.Iff = boolean-keyword twos.Iff refl (λ v u. refl) (λ v u takes. takes) (λ a b. refl)
two-keyword twos.Implies = boolean-keyword twos.Implies refl (λ v u. refl) (λ v u takes. takes) (λ a b. refl)
two-keyword twos.Concat = joined-keyword twos.Concat refl (λ v u. refl) (λ a b. refl)
