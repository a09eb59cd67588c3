-- The operator of a line without a fault stands over the nodes of the lines before it, and has the line's width and value.
use Rattle.std.proofs.Common.{◌≡◌, ℕ, ◌+◌, ◌<◌, ◌≤◌, nat_eq, nat_le, true, ◌&&◌, List, [], ◌∷◌, Option, Some, length, refl, sym, ap, ap₂, ◌∙◌, subst, arith}
use Rattle.std.proofs.lemmas.Bool.{eqb-true, leb-true, ltb-true}
use Rattle.std.specs.Option.{option_map, unwrap_or}
use Rattle.std.specs.Str.Parse.{digits_value}
use Rattle.kw_bits.specs.BitVector.{BitVector}
use Rattle.kw_bits.specs.Operators as vector
use Rattle.net_graph.specs.Nets.{Stands, op_width, width_at, widths_of}
use Rattle.net_graph.specs.Operators.{TakesTwo, ite_value, one_value, one_width, sext_value, two_value, two_width, uext_value}
use Rattle.net_graph.specs.Values.{Reads, Sources, op_value, value_at}
use Rattle.net_graph.specs.declared.node.NetOne.{NetOne}
use Rattle.net_graph.specs.declared.node.NetOne.TheVariants as ones
use Rattle.net_graph.specs.declared.node.NetOp.{NetOp}
use Rattle.net_graph.specs.declared.node.NetOp.TheVariants.{Const, One, Two, Slice, Ite}
use Rattle.net_graph.specs.declared.node.NetTwo.{NetTwo}
use Rattle.net_graph.specs.declared.node.NetTwo.TheVariants as twos
use Rattle.net_graph.proofs.OneByOne.{length-one_by_one}
use Rattle.btor2_text.specs.Forms.{kinds_of, radix_of}
use Rattle.btor2_text.specs.Printable.{FitKinds}
use Rattle.btor2_text.specs.declared.keyword.Keyword.{Keyword}
use Rattle.btor2_text.specs.declared.keyword.Keyword.TheVariants as keywords
use Rattle.btor2_text.specs.declared.kind.Base.{Base}
use Rattle.btor2_text.specs.declared.kind.ArgumentKind.{ArgumentKind}
use Rattle.btor2_text.specs.declared.kind.ArgumentKind.TheVariants as kinds
use Rattle.btor2_text.specs.declared.line.Argument.{Argument}
use Rattle.btor2_text.specs.declared.line.Argument.TheVariants as arguments
use Rattle.btor2_text.specs.declared.line.Line.{Line}
use Rattle.btor2_model.specs.Acceptance.{names_state, passes}
use Rattle.btor2_model.specs.Rules.{rule_of, bounds_fit, widths_agree}
use Rattle.btor2_model.specs.Run.{Values, base_of, binary, constant, extended, operator_value, unary}
use Rattle.btor2_model.specs.Scope.{DeclaredIds, measures, measures_of, width_or_none, width_wanted}
use Rattle.btor2_model.specs.inner.SlowRun.{computes, takes_one, takes_alike, width_by}
use Rattle.btor2_model.specs.declared.rule.Measures.{Measures}
use Rattle.btor2_model.specs.declared.rule.FormRule.{FormRule}
use Rattle.btor2_model.specs.declared.rule.FormRule.TheVariants as forms
use Rattle.btor2_model.proofs.Filled.{both, each-measure, passes-at, passes-some, some-same, sort-alone, sort-bounds, sort-number, sort-numeral, sort-one, sort-three, sort-two}
use Rattle.btor2_model.proofs.KindsByRule.{kinds-by, kinds_by}
use Rattle.btor2_model.proofs.Conditions.{Meets}
use Rattle.btor2_net.specs.inner.Nodes.{Numbering, extension, node_at, one_of, op_by, two_of}
use Rattle.btor2_net.specs.inner.Values.{HasNodeOf}

-- what is declared has sorts of 1 to 128 bits, and a node of its width for each value
pub record Holds (scope : DeclaredIds) (n : Numbering) (net : List NetOp) : Type 0 where
  pub sorts : (id width : ℕ) → width_wanted kinds.Sort (scope.meanings id) ≡ Some width → (n.sorts id ≡ Some width) × (1 ≤ width) × (width ≤ 128)
  pub widths : (id width : ℕ) → width_wanted kinds.Value (scope.meanings id) ≡ Some width → HasNodeOf n net id width

-- the nodes have the values of their lines
abbrev pub Follows : Numbering → List BitVector → Values → Type 0
Follows n values text = (id node : ℕ) → n.nodes id ≡ Some node → value_at values node ≡ text id

-- the operator of a form with these arguments stands, and has this width and the line's value
pub record Works (scope : DeclaredIds) (n : Numbering) (net : List NetOp) (keyword : Keyword) (rule : FormRule) (args : List Argument) (width : ℕ) : Type 0 where
  pub op : NetOp
  pub is : op_by n rule keyword args ≡ Some op
  pub stands : Stands (widths_of net) op
  pub width_is : op_width (widths_of net) op ≡ width
  pub reads : (inputs states : List ℕ) → Reads inputs states op
  pub value : (s : Sources) (values : List BitVector) (text : Values) → Follows n values text → op_value s values op ≡ operator_value scope text keyword args

record OneOf (keyword : Keyword) : Type 0 where
  op : NetOne
  is : one_of keyword ≡ Some op
  value : (a : BitVector) → one_value op a ≡ unary keyword a
  width : (w : ℕ) → one_width op w ≡ width_by (rule_of keyword) w

one-of : (keyword : Keyword) → takes_one (rule_of keyword) ≡ true → OneOf keyword
unfolding one_value one_width
one-of keywords.Not takes = record { op = ones.Not; is = refl; value = λ a. refl; width = λ w. refl }
one-of keywords.Neg takes = record { op = ones.Neg; is = refl; value = λ a. refl; width = λ w. refl }
one-of keywords.Inc takes = record { op = ones.Inc; is = refl; value = λ a. refl; width = λ w. refl }
one-of keywords.Dec takes = record { op = ones.Dec; is = refl; value = λ a. refl; width = λ w. refl }
one-of keywords.Redand takes = record { op = ones.RedAnd; is = refl; value = λ a. refl; width = λ w. refl }
one-of keywords.Redor takes = record { op = ones.RedOr; is = refl; value = λ a. refl; width = λ w. refl }
one-of keywords.Redxor takes = record { op = ones.RedXor; is = refl; value = λ a. refl; width = λ w. refl }
one-of other takes = absurd (cc)

record TwoOf (keyword : Keyword) : Type 0 where
  op : NetTwo
  is : two_of keyword ≡ Some op
  value : (a b : BitVector) → two_value op a b ≡ binary keyword a b
  takes : (v w : ℕ) → v ≡ w → (rule_of keyword ≡ forms.Boolean → v ≡ 1) → TakesTwo op v w
  width : (v w : ℕ) → two_width op v w ≡ width_by (rule_of keyword) v

two-of : (keyword : Keyword) → takes_alike (rule_of keyword) ≡ true → TwoOf keyword
unfolding two_value two_width TakesTwo
two-of keywords.And takes = record { op = twos.And; is = refl; value = λ a b. refl; takes = λ v w same boolean. same; width = λ v w. refl }
two-of keywords.Or takes = record { op = twos.Or; is = refl; value = λ a b. refl; takes = λ v w same boolean. same; width = λ v w. refl }
two-of keywords.Xor takes = record { op = twos.Xor; is = refl; value = λ a b. refl; takes = λ v w same boolean. same; width = λ v w. refl }
two-of keywords.Nand takes = record { op = twos.Nand; is = refl; value = λ a b. refl; takes = λ v w same boolean. same; width = λ v w. refl }
two-of keywords.Nor takes = record { op = twos.Nor; is = refl; value = λ a b. refl; takes = λ v w same boolean. same; width = λ v w. refl }
two-of keywords.Xnor takes = record { op = twos.Xnor; is = refl; value = λ a b. refl; takes = λ v w same boolean. same; width = λ v w. refl }
two-of keywords.Add takes = record { op = twos.Add; is = refl; value = λ a b. refl; takes = λ v w same boolean. same; width = λ v w. refl }
two-of keywords.Sub takes = record { op = twos.Sub; is = refl; value = λ a b. refl; takes = λ v w same boolean. same; width = λ v w. refl }
two-of keywords.Mul takes = record { op = twos.Mul; is = refl; value = λ a b. refl; takes = λ v w same boolean. same; width = λ v w. refl }
two-of keywords.Sll takes = record { op = twos.Sll; is = refl; value = λ a b. refl; takes = λ v w same boolean. same; width = λ v w. refl }
two-of keywords.Srl takes = record { op = twos.Srl; is = refl; value = λ a b. refl; takes = λ v w same boolean. same; width = λ v w. refl }
two-of keywords.Sra takes = record { op = twos.Sra; is = refl; value = λ a b. refl; takes = λ v w same boolean. same; width = λ v w. refl }
two-of keywords.Eq takes = record { op = twos.EqBits; is = refl; value = λ a b. refl; takes = λ v w same boolean. same; width = λ v w. refl }
two-of keywords.Neq takes = record { op = twos.Neq; is = refl; value = λ a b. refl; takes = λ v w same boolean. same; width = λ v w. refl }
two-of keywords.Ult takes = record { op = twos.Ult; is = refl; value = λ a b. refl; takes = λ v w same boolean. same; width = λ v w. refl }
two-of keywords.Ulte takes = record { op = twos.Ulte; is = refl; value = λ a b. refl; takes = λ v w same boolean. same; width = λ v w. refl }
two-of keywords.Ugt takes = record { op = twos.Ugt; is = refl; value = λ a b. refl; takes = λ v w same boolean. same; width = λ v w. refl }
two-of keywords.Ugte takes = record { op = twos.Ugte; is = refl; value = λ a b. refl; takes = λ v w same boolean. same; width = λ v w. refl }
two-of keywords.Slt takes = record { op = twos.Slt; is = refl; value = λ a b. refl; takes = λ v w same boolean. same; width = λ v w. refl }
two-of keywords.Slte takes = record { op = twos.Slte; is = refl; value = λ a b. refl; takes = λ v w same boolean. same; width = λ v w. refl }
two-of keywords.Sgt takes = record { op = twos.Sgt; is = refl; value = λ a b. refl; takes = λ v w same boolean. same; width = λ v w. refl }
two-of keywords.Sgte takes = record { op = twos.Sgte; is = refl; value = λ a b. refl; takes = λ v w same boolean. same; width = λ v w. refl }
two-of keywords.Iff takes = record { op = twos.Iff; is = refl; value = λ a b. refl; takes = λ v w same boolean. (boolean refl, sym same ∙ boolean refl); width = λ v w. refl }
two-of keywords.Implies takes = record { op = twos.Implies; is = refl; value = λ a b. refl; takes = λ v w same boolean. (boolean refl, sym same ∙ boolean refl); width = λ v w. refl }
two-of other takes = absurd (cc)

found : (o : Option ℕ) (node : ℕ) → o ≡ Some node → unwrap_or o 0 ≡ node
found o node is = ap (λ (p : Option ℕ). unwrap_or p 0) is

some-op : {A : Type 0} (f : A → NetOp) (o : Option A) (a : A) → o ≡ Some a → option_map f o ≡ Some (f a)
some-op {A} f o a is = ap (option_map f) is

concat-of : (keyword : Keyword) → rule_of keyword ≡ forms.Joined → keyword ≡ keywords.Concat
concat-of keywords.Concat of = refl
concat-of other of = absurd (cc)

constant-width : (keyword : Keyword) (w : ℕ) → rule_of keyword ≡ forms.Constant → (constant keyword w).width ≡ w
constant-width keywords.Zero w of = refl
constant-width keywords.One w of = refl
constant-width keywords.Ones w of = refl
constant-width other w of = absurd (cc)

extension-stands : (ws : List ℕ) (keyword : Keyword) (node more : ℕ) → node < length ws → width_at ws node + more ≤ 128 → Stands ws (extension keyword node more)
extension-stands ws keywords.Sext node more inside most = (inside, most)
extension-stands ws other node more inside most = (inside, most)

extension-width : (ws : List ℕ) (keyword : Keyword) (node more : ℕ) → op_width ws (extension keyword node more) ≡ width_at ws node + more
extension-width ws keywords.Sext node more = refl
extension-width ws other node more = refl

extension-value : (s : Sources) (values : List BitVector) (keyword : Keyword) (node more : ℕ) → op_value s values (extension keyword node more) ≡ extended keyword (value_at values node) more
unfolding uext_value sext_value
extension-value s values keywords.Sext node more = refl
extension-value s values other node more = refl

extension-reads : (keyword : Keyword) (node more : ℕ) (inputs states : List ℕ) → Reads inputs states (extension keyword node more)
extension-reads keywords.Sext node more inputs states = tt
extension-reads other node more inputs states = tt

computed-width : (rule : FormRule) (m : Measures) → computes rule ≡ true → width_or_none rule (Some m) ≡ m.first
computed-width forms.Sort m computed = absurd (cc)
computed-width other m computed = refl

within : (net : List NetOp) (node : ℕ) → node < length net → node < length (widths_of net)
within net node inside = omega (arith, length-one_by_one op_width [] net)

module _ (scope : DeclaredIds) (n : Numbering) (net : List NetOp) (holds : Holds scope n net) where
  -- operators of one operand
  one-works : (keyword : Keyword) (rule : FormRule) (sort a w v : ℕ) → rule_of keyword ≡ rule → takes_one rule ≡ true → width_wanted kinds.Value (scope.meanings a) ≡ Some v → width_by rule v ≡ w
      → let args : List Argument = arguments.Id sort ∷ arguments.Id a ∷ [] in op_by n rule keyword args ≡ option_map (λ operator. One operator (node_at n args 1)) (one_of keyword) → Works scope n net keyword rule args w
  one-works keyword rule sort a w v of takes wanted agree by =
      let node = holds.widths a v wanted in
      let one = one-of keyword (ap takes_one of ∙ takes) in
      let at = found (n.nodes a) node.node node.is in
      record {
        op = One one.op node.node;
        is = by ∙ some-op (λ operator. One operator (unwrap_or (n.nodes a) 0)) (one_of keyword) one.op one.is ∙ ap (λ (k : ℕ). Some (One one.op k)) at;
        stands = within net node.node node.stands;
        width_is = ap (one_width one.op) node.width_is ∙ one.width v ∙ ap (λ (r : FormRule). width_by r v) of ∙ agree;
        reads = λ inputs states. tt;
        value = λ s values text follows. ap (one_value one.op) (follows a node.node node.is) ∙ one.value (text a);
      }

  -- operators of two operands of one width
  alike-works : (keyword : Keyword) (rule : FormRule) (sort a b v u w : ℕ) → rule_of keyword ≡ rule → takes_alike rule ≡ true → width_wanted kinds.Value (scope.meanings a) ≡ Some v → width_wanted kinds.Value (scope.meanings b) ≡ Some u
      → v ≡ u → (rule ≡ forms.Boolean → v ≡ 1) → width_by rule v ≡ w
      → let args : List Argument = arguments.Id sort ∷ arguments.Id a ∷ arguments.Id b ∷ [] in op_by n rule keyword args ≡ option_map (λ operator. Two operator (node_at n args 1) (node_at n args 2)) (two_of keyword) → Works scope n net keyword rule args w
  alike-works keyword rule sort a b v u w of takes wanted also same boolean agree by =
      let x = holds.widths a v wanted in
      let y = holds.widths b u also in
      let two = two-of keyword (ap takes_alike of ∙ takes) in
      record {
        op = Two two.op x.node y.node;
        is = by ∙ some-op (λ operator. Two operator (unwrap_or (n.nodes a) 0) (unwrap_or (n.nodes b) 0)) (two_of keyword) two.op two.is
            ∙ ap₂ (λ (k l : ℕ). Some (Two two.op k l)) (found (n.nodes a) x.node x.is) (found (n.nodes b) y.node y.is);
        stands = (
          within net x.node x.stands,
          within net y.node y.stands,
          two.takes (width_at (widths_of net) x.node) (width_at (widths_of net) y.node) (x.width_is ∙ same ∙ sym y.width_is) (λ is. x.width_is ∙ boolean (sym of ∙ is)),
        );
        width_is = ap₂ (two_width two.op) x.width_is y.width_is ∙ two.width v u ∙ ap (λ (r : FormRule). width_by r v) of ∙ agree;
        reads = λ inputs states. tt;
        value = λ s values text follows. ap₂ (two_value two.op) (follows a x.node x.is) (follows b y.node y.is) ∙ two.value (text a) (text b);
      }

  -- two operands, one above the other
  joined-works : (keyword : Keyword) (sort a b v u w : ℕ) → rule_of keyword ≡ forms.Joined → width_wanted kinds.Value (scope.meanings a) ≡ Some v → width_wanted kinds.Value (scope.meanings b) ≡ Some u
      → w ≡ v + u → w ≤ 128 → Works scope n net keyword forms.Joined (arguments.Id sort ∷ arguments.Id a ∷ arguments.Id b ∷ []) w
  unfolding two_value two_width TakesTwo
  joined-works keyword sort a b v u w of wanted also sum most =
      let x = holds.widths a v wanted in
      let y = holds.widths b u also in
      let is_concat = concat-of keyword of in
      record {
        op = Two twos.Concat x.node y.node;
        is = some-op (λ operator. Two operator (unwrap_or (n.nodes a) 0) (unwrap_or (n.nodes b) 0)) (two_of keyword) twos.Concat (ap two_of is_concat)
            ∙ ap₂ (λ (k l : ℕ). Some (Two twos.Concat k l)) (found (n.nodes a) x.node x.is) (found (n.nodes b) y.node y.is);
        stands = (within net x.node x.stands, within net y.node y.stands, omega (arith, x.width_is, y.width_is, sum, most));
        width_is = ap₂ (λ (k l : ℕ). k + l) x.width_is y.width_is ∙ sym sum;
        reads = λ inputs states. tt;
        value = λ s values text follows. ap₂ (two_value twos.Concat) (follows a x.node x.is) (follows b y.node y.is) ∙ sym (ap (λ (k : Keyword). binary k (text a) (text b)) is_concat);
      }

  -- an operand with more bits
  extended-works : (keyword : Keyword) (sort a more v w : ℕ) → width_wanted kinds.Value (scope.meanings a) ≡ Some v
      → w ≡ v + more → w ≤ 128 → Works scope n net keyword forms.Extended (arguments.Id sort ∷ arguments.Id a ∷ arguments.Number more ∷ []) w
  extended-works keyword sort a more v w wanted sum most =
      let x = holds.widths a v wanted in
      let op = extension keyword x.node more in
      record {
        op = op;
        is = ap (λ (k : ℕ). Some (extension keyword k more)) (found (n.nodes a) x.node x.is);
        stands = extension-stands (widths_of net) keyword x.node more (within net x.node x.stands) (omega (arith, x.width_is, sum, most));
        width_is = extension-width (widths_of net) keyword x.node more ∙ ap (λ (k : ℕ). k + more) x.width_is ∙ sym sum;
        reads = extension-reads keyword x.node more;
        value = λ s values text follows. extension-value s values keyword x.node more ∙ ap (λ (b : BitVector). extended keyword b more) (follows a x.node x.is);
      }

  -- some of an operand's bits
  sliced-works : (keyword : Keyword) (sort a upper lower v w : ℕ) → width_wanted kinds.Value (scope.meanings a) ≡ Some v
      → lower ≤ upper → upper < v → w + lower ≡ upper + 1 → Works scope n net keyword forms.Sliced (arguments.Id sort ∷ arguments.Id a ∷ arguments.Number upper ∷ arguments.Number lower ∷ []) w
  sliced-works keyword sort a upper lower v w wanted order bound sum =
      let x = holds.widths a v wanted in
      record {
        op = Slice x.node upper lower;
        is = ap (λ (k : ℕ). Some (Slice k upper lower)) (found (n.nodes a) x.node x.is);
        stands = (within net x.node x.stands, order, omega (arith, bound, x.width_is));
        width_is = omega (arith, order, sum);
        reads = λ inputs states. tt;
        value = λ s values text follows. ap (λ (b : BitVector). vector.slice b upper lower) (follows a x.node x.is);
      }

  -- one of two operands
  chosen-works : (keyword : Keyword) (sort c a b v u w : ℕ) → width_wanted kinds.Value (scope.meanings c) ≡ Some v → width_wanted kinds.Value (scope.meanings a) ≡ Some u → width_wanted kinds.Value (scope.meanings b) ≡ Some w
      → v ≡ 1 → u ≡ w → Works scope n net keyword forms.Chosen (arguments.Id sort ∷ arguments.Id c ∷ arguments.Id a ∷ arguments.Id b ∷ []) w
  unfolding ite_value
  chosen-works keyword sort c a b v u w wanted one other bit same =
      let z = holds.widths c v wanted in
      let x = holds.widths a u one in
      let y = holds.widths b w other in
      record {
        op = Ite z.node x.node y.node;
        is = ap₂ (λ (k l : ℕ). Some (Ite k l (unwrap_or (n.nodes b) 0))) (found (n.nodes c) z.node z.is) (found (n.nodes a) x.node x.is) ∙ ap (λ (k : ℕ). Some (Ite z.node x.node k)) (found (n.nodes b) y.node y.is);
        stands = (within net z.node z.stands, within net x.node x.stands, within net y.node y.stands, z.width_is ∙ bit, x.width_is ∙ same ∙ sym y.width_is);
        width_is = x.width_is ∙ same;
        reads = λ inputs states. tt;
        value = λ s values text follows. ap₂ (λ (k l : BitVector). ite_value k l (value_at values y.node)) (follows c z.node z.is) (follows a x.node x.is) ∙ ap (ite_value (text c) (text a)) (follows b y.node y.is);
      }

  -- constants
  constant-works : (keyword : Keyword) (sort w : ℕ) → rule_of keyword ≡ forms.Constant → width_wanted kinds.Sort (scope.meanings sort) ≡ Some w
      → Works scope n net keyword forms.Constant (arguments.Id sort ∷ []) w
  constant-works keyword sort w of wanted =
      let known = (holds.sorts sort w wanted).0 in
      record {
        op = Const (constant keyword w);
        is = ap (λ (k : ℕ). Some (Const (constant keyword k))) (found (n.sorts sort) w known);
        stands = tt;
        width_is = constant-width keyword w of;
        reads = λ inputs states. tt;
        value = λ s values text follows. sym (ap (constant keyword) (ap (λ (o : Option ℕ). unwrap_or o 0) wanted));
      }

  numeral-works : (keyword : Keyword) (base : Base) (sort w : ℕ) (digits : List ℕ) → width_wanted kinds.Sort (scope.meanings sort) ≡ Some w
      → Works scope n net keyword (forms.Numeral base) (arguments.Id sort ∷ arguments.Numeral digits ∷ []) w
  numeral-works keyword base sort w digits wanted =
      let known = (holds.sorts sort w wanted).0 in
      let value = λ (k : ℕ). let v : BitVector = record { width = k; number = digits_value (radix_of (base_of keyword)) digits } in v in
      record {
        op = Const (value w);
        is = ap (λ (k : ℕ). Some (Const (value k))) (found (n.sorts sort) w known);
        stands = tt;
        width_is = refl;
        reads = λ inputs states. tt;
        value = λ s values text follows. sym (ap value (ap (λ (o : Option ℕ). unwrap_or o 0) wanted));
      }

  -- a line of an operator or a constant, by the rule of its form
  by-rule : (keyword : Keyword) (rule : FormRule) (args : List Argument) (m : Measures) → rule_of keyword ≡ rule → FitKinds (kinds_by rule) args → measures scope (kinds_by rule) args ≡ Some m
      → widths_agree rule m ≡ true → bounds_fit rule m ≡ true → computes rule ≡ true → Works scope n net keyword rule args m.first
  by-rule keyword forms.Constant args m of fits ms agree bounds computed =
      let (sort, is) = sort-alone args fits in
      let w = each-measure (width_wanted kinds.Sort (scope.meanings sort)) (Some 0) (Some 0) (Some 0) m (sym (ap (measures scope (kinds.Sort ∷ [])) is) ∙ ms) in
      subst (λ (given : List Argument). Works scope n net keyword forms.Constant given m.first) (sym is) (constant-works keyword sort m.first of w.0)
  by-rule keyword (forms.Numeral base) args m of fits ms agree bounds computed =
      let (sort, digits, is) = sort-numeral base args fits in
      let w = each-measure (width_wanted kinds.Sort (scope.meanings sort)) (Some 0) (Some 0) (Some 0) m (sym (ap (measures scope (kinds.Sort ∷ kinds.Numeral base ∷ [])) is) ∙ ms) in
      subst (λ (given : List Argument). Works scope n net keyword (forms.Numeral base) given m.first) (sym is) (numeral-works keyword base sort m.first digits w.0)
  by-rule keyword forms.Unary args m of fits ms agree bounds computed =
      let (sort, a, is) = sort-one args fits in
      let w = each-measure (width_wanted kinds.Sort (scope.meanings sort)) (width_wanted kinds.Value (scope.meanings a)) (Some 0) (Some 0) m (sym (ap (measures scope (kinds.Sort ∷ kinds.Value ∷ [])) is) ∙ ms) in
      subst (λ (given : List Argument). Works scope n net keyword forms.Unary given m.first) (sym is)
      (one-works keyword forms.Unary sort a m.first m.second of refl w.1 (eqb-true m.second m.first agree) refl)
  by-rule keyword forms.Reduced args m of fits ms agree bounds computed =
      let (sort, a, is) = sort-one args fits in
      let w = each-measure (width_wanted kinds.Sort (scope.meanings sort)) (width_wanted kinds.Value (scope.meanings a)) (Some 0) (Some 0) m (sym (ap (measures scope (kinds.Sort ∷ kinds.Value ∷ [])) is) ∙ ms) in
      subst (λ (given : List Argument). Works scope n net keyword forms.Reduced given m.first) (sym is)
      (one-works keyword forms.Reduced sort a m.first m.second of refl w.1 (sym (eqb-true m.first 1 agree)) refl)
  by-rule keyword forms.Binary args m of fits ms agree bounds computed =
      let e = both (nat_eq m.second m.first) (nat_eq m.third m.first) agree in
      let one = eqb-true m.second m.first e.0 in
      let (sort, a, b, is) = sort-two args fits in
      let w = each-measure (width_wanted kinds.Sort (scope.meanings sort)) (width_wanted kinds.Value (scope.meanings a)) (width_wanted kinds.Value (scope.meanings b)) (Some 0) m (sym (ap (measures scope (kinds.Sort ∷ kinds.Value ∷ kinds.Value ∷ [])) is) ∙ ms) in
      subst (λ (given : List Argument). Works scope n net keyword forms.Binary given m.first) (sym is)
      (alike-works keyword forms.Binary sort a b m.second m.third m.first of refl w.1 w.2 (one ∙ sym (eqb-true m.third m.first e.1)) (λ boolean. absurd (cc)) one refl)
  by-rule keyword forms.Compared args m of fits ms agree bounds computed =
      let e = both (nat_eq m.first 1) (nat_eq m.second m.third) agree in
      let (sort, a, b, is) = sort-two args fits in
      let w = each-measure (width_wanted kinds.Sort (scope.meanings sort)) (width_wanted kinds.Value (scope.meanings a)) (width_wanted kinds.Value (scope.meanings b)) (Some 0) m (sym (ap (measures scope (kinds.Sort ∷ kinds.Value ∷ kinds.Value ∷ [])) is) ∙ ms) in
      subst (λ (given : List Argument). Works scope n net keyword forms.Compared given m.first) (sym is)
      (alike-works keyword forms.Compared sort a b m.second m.third m.first of refl w.1 w.2 (eqb-true m.second m.third e.1) (λ boolean. absurd (cc)) (sym (eqb-true m.first 1 e.0)) refl)
  by-rule keyword forms.Boolean args m of fits ms agree bounds computed =
      let e = both (nat_eq m.first 1) (nat_eq m.second 1 && nat_eq m.third 1) agree in
      let f = both (nat_eq m.second 1) (nat_eq m.third 1) e.1 in
      let one = eqb-true m.second 1 f.0 in
      let (sort, a, b, is) = sort-two args fits in
      let w = each-measure (width_wanted kinds.Sort (scope.meanings sort)) (width_wanted kinds.Value (scope.meanings a)) (width_wanted kinds.Value (scope.meanings b)) (Some 0) m (sym (ap (measures scope (kinds.Sort ∷ kinds.Value ∷ kinds.Value ∷ [])) is) ∙ ms) in
      subst (λ (given : List Argument). Works scope n net keyword forms.Boolean given m.first) (sym is)
      (alike-works keyword forms.Boolean sort a b m.second m.third m.first of refl w.1 w.2 (one ∙ sym (eqb-true m.third 1 f.1)) (λ boolean. one) (sym (eqb-true m.first 1 e.0)) refl)
  by-rule keyword forms.Joined args m of fits ms agree bounds computed =
      let (sort, a, b, is) = sort-two args fits in
      let w = each-measure (width_wanted kinds.Sort (scope.meanings sort)) (width_wanted kinds.Value (scope.meanings a)) (width_wanted kinds.Value (scope.meanings b)) (Some 0) m (sym (ap (measures scope (kinds.Sort ∷ kinds.Value ∷ kinds.Value ∷ [])) is) ∙ ms) in
      subst (λ (given : List Argument). Works scope n net keyword forms.Joined given m.first) (sym is)
      (joined-works keyword sort a b m.second m.third m.first of w.1 w.2 (eqb-true m.first (m.second + m.third) agree) (holds.sorts sort m.first w.0).2)
  by-rule keyword forms.Sliced args m of fits ms agree bounds computed =
      let e = both (nat_le m.fourth m.third) (nat_eq (m.first + m.fourth) (m.third + 1)) agree in
      let (sort, a, upper, lower, is) = sort-bounds args fits in
      let w = each-measure (width_wanted kinds.Sort (scope.meanings sort)) (width_wanted kinds.Value (scope.meanings a)) (Some upper) (Some lower) m
      (sym (ap (measures scope (kinds.Sort ∷ kinds.Value ∷ kinds.Number ∷ kinds.Number ∷ [])) is) ∙ ms) in
      let u = some-same upper m.third w.2 in
      let l = some-same lower m.fourth w.3 in
      let order = leb-true m.fourth m.third e.0 in
      let sum = eqb-true (m.first + m.fourth) (m.third + 1) e.1 in
      let bound = ltb-true m.third m.second bounds in
      subst (λ (given : List Argument). Works scope n net keyword forms.Sliced given m.first) (sym is)
      (sliced-works keyword sort a upper lower m.second m.first w.1 (omega (arith, u, l, order)) (omega (arith, u, bound)) (omega (arith, u, l, sum)))
  by-rule keyword forms.Extended args m of fits ms agree bounds computed =
      let (sort, a, more, is) = sort-number args fits in
      let w = each-measure (width_wanted kinds.Sort (scope.meanings sort)) (width_wanted kinds.Value (scope.meanings a)) (Some more) (Some 0) m
      (sym (ap (measures scope (kinds.Sort ∷ kinds.Value ∷ kinds.Number ∷ [])) is) ∙ ms) in
      let sum = eqb-true m.first (m.second + m.third) agree in
      let k = some-same more m.third w.2 in
      subst (λ (given : List Argument). Works scope n net keyword forms.Extended given m.first) (sym is)
      (extended-works keyword sort a more m.second m.first w.1 (omega (arith, k, sum)) (holds.sorts sort m.first w.0).2)
  by-rule keyword forms.Chosen args m of fits ms agree bounds computed =
      let e = both (nat_eq m.second 1) (nat_eq m.third m.first && nat_eq m.fourth m.first) agree in
      let f = both (nat_eq m.third m.first) (nat_eq m.fourth m.first) e.1 in
      let (sort, c, a, b, is) = sort-three args fits in
      let w = each-measure (width_wanted kinds.Sort (scope.meanings sort)) (width_wanted kinds.Value (scope.meanings c)) (width_wanted kinds.Value (scope.meanings a)) (width_wanted kinds.Value (scope.meanings b)) m
      (sym (ap (measures scope (kinds.Sort ∷ kinds.Value ∷ kinds.Value ∷ kinds.Value ∷ [])) is) ∙ ms) in
      let last = eqb-true m.fourth m.first f.1 in
      subst (λ (given : List Argument). Works scope n net keyword forms.Chosen given m.first) (sym is)
      (chosen-works keyword sort c a b m.second m.third m.first w.1 w.2 (w.3 ∙ ap Some last) (eqb-true m.second 1 e.0) (eqb-true m.third m.first f.0))
  by-rule keyword forms.Sort args m of fits ms agree bounds computed = absurd (cc)
  by-rule keyword forms.Input args m of fits ms agree bounds computed = absurd (cc)
  by-rule keyword forms.State args m of fits ms agree bounds computed = absurd (cc)
  by-rule keyword forms.Init args m of fits ms agree bounds computed = absurd (cc)
  by-rule keyword forms.Next args m of fits ms agree bounds computed = absurd (cc)
  by-rule keyword forms.Output args m of fits ms agree bounds computed = absurd (cc)
  by-rule keyword forms.Bad args m of fits ms agree bounds computed = absurd (cc)

  -- a line without a fault of an operator or a constant
  pub line-works : (line : Line) → Meets scope line → FitKinds (kinds_of line.keyword) line.arguments → computes (rule_of line.keyword) ≡ true
      → Works scope n net line.keyword (rule_of line.keyword) line.arguments (width_or_none (rule_of line.keyword) (measures_of scope line))
  line-works line met fits computed =
      let rule = rule_of line.keyword in
      let (m, measured, widths) = passes-some widths_agree rule (measures_of scope line) (both (names_state rule scope line.arguments) (passes widths_agree rule (measures_of scope line)) met.agrees).1 in
      let kinds_are = kinds-by line.keyword in
      let works = by-rule line.keyword rule line.arguments m refl (subst (λ (ks : List ArgumentKind). FitKinds ks line.arguments) kinds_are fits)
      (ap (λ (ks : List ArgumentKind). measures scope ks line.arguments) (sym kinds_are) ∙ measured) widths (passes-at bounds_fit rule (measures_of scope line) m measured met.bounds) computed in
      subst (Works scope n net line.keyword rule line.arguments) (sym (ap (width_or_none rule) measured ∙ computed-width rule m computed)) works
