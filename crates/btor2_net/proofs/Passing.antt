-- One more line of a text has its node.
use Rattle.std.proofs.Common.{◌≡◌, ℕ, ◌^◌, ◌<◌, ◌≤◌, ◌⊎◌, inl, inr, nat_eq, Bool, true, false, cond, List, [], ◌∷◌, Option, None, Some, IfSome, length, refl, sym, ap, ◌∙◌, subst, append-nil}
use Rattle.std.specs.Prelude.{MatchOption, slice_get}
use Rattle.std.specs.Map.{update}
use Rattle.std.specs.Option.{unwrap_or}
use Rattle.std.specs.Str.Parse.{digits_value}
use Rattle.std.proofs.lemmas.Bool.{eq-eqb, eqb-true, ltb-true}
use Rattle.std.proofs.lemmas.Option.{slice_get_within}
use Rattle.kw_bits.specs.BitVector.{BitVector}
use Rattle.net_graph.specs.Nets.{Adds, IsNet, Stands, op_width, widths_of}
use Rattle.net_graph.specs.Values.{AllRead, Reads, Sources, node_value, op_value, value_at, values_of}
use Rattle.net_graph.specs.declared.node.NetOp.{NetOp}
use Rattle.net_graph.specs.declared.node.NetOp.TheVariants.{Input, State}
use Rattle.btor2_text.specs.Forms.{kinds_of, radix_of}
use Rattle.btor2_text.specs.Printable.{FitKinds}
use Rattle.btor2_text.specs.declared.keyword.Keyword.{Keyword}
use Rattle.btor2_text.specs.declared.kind.Base.{Base}
use Rattle.btor2_text.specs.declared.kind.ArgumentKind.{ArgumentKind}
use Rattle.btor2_text.specs.declared.kind.ArgumentKind.TheVariants as kinds
use Rattle.btor2_text.specs.declared.line.Argument.{Argument}
use Rattle.btor2_text.specs.declared.line.Argument.TheVariants as arguments
use Rattle.btor2_text.specs.declared.line.Line.{Line}
use Rattle.btor2_model.specs.Acceptance.{digits_of, names_state, numeral_fits, passes}
use Rattle.btor2_model.specs.Rules.{is_input, is_sort, is_state, role_of, rule_of, widths_agree}
use Rattle.btor2_model.specs.Run.{StepValues, Values, base_of, operator_value, value_by}
use Rattle.btor2_model.specs.Scope.{DeclaredIds, behind, id_at, meaning_of, measures, measures_of, sort_width, sort_width_in, value_width, width_or_none, width_wanted}
use Rattle.btor2_model.specs.SlowRun.{is_constant}
use Rattle.btor2_model.specs.inner.SlowRun.{computes}
use Rattle.btor2_model.specs.declared.meaning.Role.{Role}
use Rattle.btor2_model.specs.declared.meaning.Role.TheVariants as roles
use Rattle.btor2_model.specs.declared.rule.Measures.{Measures}
use Rattle.btor2_model.specs.declared.rule.FormRule.{FormRule}
use Rattle.btor2_model.specs.declared.rule.FormRule.TheVariants as forms
use Rattle.btor2_model.proofs.Conditions.{Meets}
use Rattle.btor2_model.proofs.Filled.{both, each-measure, passes-some, some-same, sort-alone, sort-numeral}
use Rattle.btor2_model.proofs.Filling.{nothing-there, sort-new}
use Rattle.btor2_model.proofs.KindsByRule.{IsBaseOf, base-by, kinds-by, kinds_by}
use Rattle.btor2_net.specs.inner.Nodes.{AddsLine, HasConstant, Numbering, number_at, numeral_at, op_by, op_of, sort_at}
use Rattle.btor2_net.specs.inner.Values.{HasNodeOf}
use Rattle.btor2_net.proofs.Growth.{Begins, grown, inside-more, node-follows, op-width-more, reads-more, value-more, width-more}
use Rattle.net_graph.proofs.NodeWidths.{node_width}
use Rattle.btor2_net.proofs.Operands.{Follows, Holds, line-works}

-- a rule whose lines have no node, and no value
pub record IsSilent (rule : FormRule) : Type 0 where
  pub none : (n : Numbering) (keyword : Keyword) (args : List Argument) → op_by n rule keyword args ≡ None
  pub no_value : (width : ℕ) → value_width (role_of rule) width ≡ None

-- what a line of a rule has for its node
pub data Having (rule : FormRule) : Type 0 where
  computed : (is : computes rule ≡ true) → Having rule
  input : (is : rule ≡ forms.Input) → Having rule
  state : (is : rule ≡ forms.State) → Having rule
  silent : (is : IsSilent rule) → Having rule

pub having : (rule : FormRule) → Having rule
having forms.Sort = silent (record { none = λ n keyword args. refl; no_value = λ width. refl })
having forms.Init = silent (record { none = λ n keyword args. refl; no_value = λ width. refl })
having forms.Next = silent (record { none = λ n keyword args. refl; no_value = λ width. refl })
having forms.Output = silent (record { none = λ n keyword args. refl; no_value = λ width. refl })
having forms.Bad = silent (record { none = λ n keyword args. refl; no_value = λ width. refl })
having forms.Input = input refl
having forms.State = state refl
having other = computed refl

-- the operator of a line stands, and has the width that the line gives its id
pub record Stood (n : Numbering) (net : List NetOp) (line : Line) (width : ℕ) : Type 0 where
  pub op : NetOp
  pub is : op_of n line ≡ Some op
  pub stands : Stands (widths_of net) op
  pub width_is : op_width (widths_of net) op ≡ width

constant-rule : (rule : FormRule) → is_constant rule ≡ true → rule ≡ forms.Constant
constant-rule forms.Constant is = refl
constant-rule other is = absurd (cc)

bitvec-number : (given : List Argument) → FitKinds (kinds.Bitvec ∷ kinds.Number ∷ []) given → (k : ℕ) × (given ≡ arguments.Bitvec ∷ arguments.Number k ∷ [])
bitvec-number given fits =
    let rest = fits.4 in (
      rest.3.0,
      fits.2 ∙ ap (λ (a : Argument). a ∷ fits.1) fits.3 ∙ ap (λ (as_given : List Argument). arguments.Bitvec ∷ as_given)
          (rest.2 ∙ ap (λ (a : Argument). a ∷ rest.1) rest.3.2 ∙ ap (λ (as_given : List Argument). arguments.Number rest.3.0 ∷ as_given) rest.4),
    )

by-sort : (rule : FormRule) → (rule ≡ forms.Sort) ⊎ ((is_sort rule ≡ false) × ((width : ℕ) → sort_width (role_of rule) width ≡ None))
by-sort forms.Sort = inl refl
by-sort other = inr (refl, λ width. refl)

value-is : (role : Role) (v w : ℕ) → value_width role v ≡ Some w → v ≡ w
value-is roles.Value v w is = cc
value-is roles.State v w is = cc
value-is other v w is = absurd (cc)

sort-is : (role : Role) (v w : ℕ) → sort_width role v ≡ Some w → v ≡ w
sort-is roles.Sort v w is = cc
sort-is other v w is = absurd (cc)

-- an operator or a constant has its operator's value
computed-value : (rule : FormRule) (step : StepValues) (scope : DeclaredIds) (values : Values) (line : Line) → computes rule ≡ true → value_by rule step scope values line ≡ operator_value scope values line.keyword line.arguments
computed-value forms.Input step scope values line is = absurd (cc)
computed-value forms.State step scope values line is = absurd (cc)
computed-value other step scope values line is = refl

some-op-same : (a b : NetOp) → Some a ≡ Some b → a ≡ b
some-op-same a b is = cc

some-from-none : {P : Type 0} (o : Option NetOp) (op : NetOp) → o ≡ None → o ≡ Some op → P
some-from-none {P} o op none some = absurd (cc)

-- what stands behind a line without a fault
module _ (scope : DeclaredIds) (n : Numbering) (net : List NetOp) (holds : Holds scope n net) (line : Line) (met : Meets scope line) (fits : FitKinds (kinds_of line.keyword) line.arguments) where
  abbrev rule : FormRule
  rule = rule_of line.keyword

  abbrev width : ℕ
  width = width_or_none rule (measures_of scope line)

  measured : (m : Measures) × (measures scope (kinds_by rule) line.arguments ≡ Some m) × (widths_agree rule m ≡ true) × (width ≡ width_or_none rule (Some m))
  measured =
      let (m, measured, widths) = passes-some widths_agree rule (measures_of scope line) (both (names_state rule scope line.arguments) (passes widths_agree rule (measures_of scope line)) met.agrees).1 in
      (m, ap (λ (ks : List ArgumentKind). measures scope ks line.arguments) (sym (kinds-by line.keyword)) ∙ measured, widths, ap (width_or_none rule) measured)

  -- the sort of a line that has one and no operand
  alone : kinds_by rule ≡ kinds.Sort ∷ [] → (sort w : ℕ) × (line.arguments ≡ arguments.Id sort ∷ []) × (width_wanted kinds.Sort (scope.meanings sort) ≡ Some w) × ((m : Measures) → measures scope (kinds_by rule) line.arguments ≡ Some m → m.first ≡ w)
  alone form =
      let (sort, is) = sort-alone line.arguments (subst (λ (ks : List ArgumentKind). FitKinds ks line.arguments) (kinds-by line.keyword ∙ form) fits) in
      let (m, ms, agree, wide) = measured in
      let each = λ (k : Measures) (ks : measures scope (kinds_by rule) line.arguments ≡ Some k).
      (each-measure (width_wanted kinds.Sort (scope.meanings sort)) (Some 0) (Some 0) (Some 0) k
      (sym (ap (measures scope (kinds.Sort ∷ [])) is) ∙ ap (λ (fs : List ArgumentKind). measures scope fs line.arguments) (sym form) ∙ ks)).0 in
      (sort, m.first, is, each m ms, λ k ks. some-same k.first m.first (sym (each k ks) ∙ each m ms))

  -- a line of this form names one sort and no more, and its operator is made of that sort's width
  pub source : (make : ℕ → NetOp) → kinds_by rule ≡ kinds.Sort ∷ [] → ((m : Measures) → width_or_none rule (Some m) ≡ m.first) → op_of n line ≡ Some (make (sort_at n line.arguments))
      → (op_of n line ≡ Some (make width)) × (1 ≤ width) × (width ≤ 128)
  source make form first by =
      let (sort, w, is, wanted, same) = alone form in
      let (m, ms, agree, wide) = measured in
      let known = holds.sorts sort w wanted in
      let width_is : width ≡ w = wide ∙ first m ∙ same m ms in
      let at : sort_at n line.arguments ≡ w = ap (λ (given : List Argument). sort_at n given) is ∙ ap (λ (o : Option ℕ). unwrap_or o 0) known.0 in
      (by ∙ ap (λ (k : ℕ). Some (make k)) (at ∙ sym width_is), subst (λ (k : ℕ). 1 ≤ k) (sym width_is) known.1, subst (λ (k : ℕ). k ≤ 128) (sym width_is) known.2)

  pub input-op : rule ≡ forms.Input → (op_of n line ≡ Some (Input n.inputs width)) × (1 ≤ width) × (width ≤ 128)
  input-op is =
      source (Input n.inputs) (ap kinds_by is) (λ m. ap (λ (r : FormRule). width_or_none r (Some m)) is) (ap (λ (r : FormRule). op_by n r line.keyword line.arguments) is)

  pub state-op : rule ≡ forms.State → (op_of n line ≡ Some (State n.states width)) × (1 ≤ width) × (width ≤ 128)
  state-op is =
      source (State n.states) (ap kinds_by is) (λ m. ap (λ (r : FormRule). width_or_none r (Some m)) is) (ap (λ (r : FormRule). op_by n r line.keyword line.arguments) is)

  -- each line with a node
  stood-by : Having rule → IsSilent rule ⊎ Stood n net line width
  stood-by (computed is) = let w = line-works scope n net holds line met fits is in inr (record { op = w.op; is = w.is; stands = w.stands; width_is = w.width_is })
  stood-by (input is) = let i = input-op is in inr (record { op = Input n.inputs width; is = i.0; stands = (i.1, i.2); width_is = refl })
  stood-by (state is) = let i = state-op is in inr (record { op = State n.states width; is = i.0; stands = (i.1, i.2); width_is = refl })
  stood-by (silent is) = inl is

  pub stood : IsSilent rule ⊎ Stood n net line width
  stood = stood-by (having rule)

  -- the operator that is added stands
  pub may-add : IfSome (op_of n line) (Stands (widths_of net))
  may-add = by stood
    where
      by : IsSilent rule ⊎ Stood n net line width → IfSome (op_of n line) (Stands (widths_of net))
      by (inl is) = subst (λ (o : Option NetOp). IfSome o (Stands (widths_of net))) (sym (is.none n line.keyword line.arguments)) tt
      by (inr s) = subst (λ (o : Option NetOp). IfSome o (Stands (widths_of net))) (sym s.is) s.stands

  -- the width of the sort that the line names first
  known-sort : (sort w : ℕ) → id_at line.arguments 0 ≡ sort → width_wanted kinds.Sort (scope.meanings sort) ≡ Some w
      → (sort_at n line.arguments ≡ w) × (sort_width_in scope (id_at line.arguments 0) ≡ w) × (1 ≤ w) × (w ≤ 128)
  known-sort sort w is wanted =
      let known = holds.sorts sort w wanted in (
        ap (λ (id : ℕ). unwrap_or (n.sorts id) 0) is ∙ ap (λ (o : Option ℕ). unwrap_or o 0) known.0,
        ap (sort_width_in scope) is ∙ ap (λ (o : Option ℕ). unwrap_or o 0) wanted,
        known.1,
        known.2,
      )

  -- a constant is a bit vector
  named-fits : is_constant rule ≡ true → (1 ≤ sort_at n line.arguments) × (sort_at n line.arguments ≤ 128)
  named-fits named =
      let is = constant-rule rule named in
      let (sort, w, args, wanted, same) = alone (ap kinds_by is) in
      let k = known-sort sort w (ap (λ (given : List Argument). id_at given 0) args) wanted in
      (subst (λ (x : ℕ). 1 ≤ x) (sym k.0) k.2, subst (λ (x : ℕ). x ≤ 128) (sym k.0) k.3)

  written-fits : (base : Base) → rule ≡ forms.Numeral base
      → (1 ≤ sort_at n line.arguments) × (sort_at n line.arguments ≤ 128) × (numeral_at line.keyword line.arguments < 2 ^ sort_at n line.arguments)
  written-fits base is =
      let form = ap kinds_by is in
      let (sort, digits, args) = sort-numeral base line.arguments (subst (λ (ks : List ArgumentKind). FitKinds ks line.arguments) (kinds-by line.keyword ∙ form) fits) in
      let (m, ms, agree, wide) = measured in
      let wanted = (each-measure (width_wanted kinds.Sort (scope.meanings sort)) (Some 0) (Some 0) (Some 0) m
      (sym (ap (measures scope (kinds.Sort ∷ kinds.Numeral base ∷ [])) args) ∙ ap (λ (fs : List ArgumentKind). measures scope fs line.arguments) (sym form) ∙ ms)).0 in
      let k = known-sort sort m.first (ap (λ (given : List Argument). id_at given 0) args) wanted in
      let written : base_of line.keyword ≡ base = subst (λ (r : FormRule). IsBaseOf r (base_of line.keyword)) is (base-by line.keyword) in
      let digits_are = digits_of (slice_get line.arguments 1) in
      let small = ltb-true (digits_value (radix_of base) digits_are) (2 ^ sort_width_in scope (id_at line.arguments 0)) (sym (ap (λ (r : FormRule). numeral_fits r scope line.arguments) is) ∙ met.numeral) in (
        subst (λ (x : ℕ). 1 ≤ x) (sym k.0) k.2,
        subst (λ (x : ℕ). x ≤ 128) (sym k.0) k.3,
        subst (λ (b : Base). digits_value (radix_of b) digits_are < 2 ^ sort_at n line.arguments) (sym written)
            (subst (λ (x : ℕ). digits_value (radix_of base) digits_are < 2 ^ x) (k.1 ∙ sym k.0) small),
      )

  pub has-constant : HasConstant n line
  has-constant = record { named = named-fits; written = written-fits }

  -- the width that a sort declares is its second argument
  pub declared-width : rule ≡ forms.Sort → number_at line.arguments 1 ≡ width
  declared-width is =
      let (m, ms, agree, wide) = measured in
      let form = ap kinds_by is in
      let (k, args) = bitvec-number line.arguments (subst (λ (ks : List ArgumentKind). FitKinds ks line.arguments) (kinds-by line.keyword ∙ form) fits) in
      let second = (each-measure (Some 0) (Some k) (Some 0) (Some 0) m
      (sym (ap (measures scope (kinds.Bitvec ∷ kinds.Number ∷ [])) args) ∙ ap (λ (fs : List ArgumentKind). measures scope fs line.arguments) (sym form) ∙ ms)).1 in
      ap (λ (given : List Argument). number_at given 1) args ∙ some-same k m.second second ∙ sym (wide ∙ ap (λ (r : FormRule). width_or_none r (Some m)) is)

  -- behind the line
  module _ (m : Numbering) (new : List NetOp) (is_net : IsNet new) (adds : AddsLine line n m net new) (inside : (id node : ℕ) → n.nodes id ≡ Some node → node < length net) where
    -- what a line with an operator adds
    pub added : (op : NetOp) → op_of n line ≡ Some op → (id : ℕ) × Adds net op id new × (m.nodes ≡ update nat_eq n.nodes line.id (Some id))
    added op is = subst (λ (o : Option NetOp). MatchOption o ((new ≡ net) × (m.nodes ≡ n.nodes)) (λ op. (id : ℕ) × Adds net op id new × (m.nodes ≡ update nat_eq n.nodes line.id (Some id)))) is adds.node

    -- and one without
    pub same : IsSilent rule → (new ≡ net) × (m.nodes ≡ n.nodes)
    same is =
        subst (λ (o : Option NetOp). MatchOption o ((new ≡ net) × (m.nodes ≡ n.nodes)) (λ op. (id : ℕ) × Adds net op id new × (m.nodes ≡ update nat_eq n.nodes line.id (Some id))))
        (is.none n line.keyword line.arguments) adds.node

    pub begins : Begins net new
    begins = by stood
      where
        by : IsSilent rule ⊎ Stood n net line width → Begins net new
        by (inl is) = record { more = []; is = (same is).0 ∙ sym (append-nil net) }
        by (inr s) = grown net new s.op (added s.op s.is).0 (added s.op s.is).1

    -- the nodes of other ids stay
    pub kept : (id node : ℕ) → nat_eq line.id id ≡ false → n.nodes id ≡ Some node → m.nodes id ≡ Some node
    kept id node apart is = by stood
      where
        by : IsSilent rule ⊎ Stood n net line width → m.nodes id ≡ Some node
        by (inl silent_is) = ap (λ (f : ℕ → Option ℕ). f id) (same silent_is).1 ∙ is
        by (inr s) = let a = added s.op s.is in ap (λ (f : ℕ → Option ℕ). f id) a.2 ∙ ap (λ (b : Bool). cond b (Some a.0) (n.nodes id)) apart ∙ is

    -- the node of the line
    new-node : (st : Stood n net line width) → HasNodeOf m new line.id width
    new-node st =
        let a = added st.op st.is in
        record {
          node = a.0;
          is = ap (λ (f : ℕ → Option ℕ). f line.id) a.2 ∙ ap (λ (b : Bool). cond b (Some a.0) (n.nodes line.id)) (eq-eqb line.id line.id refl);
          stands = slice_get_within new a.0 st.op a.1.at;
          width_is = node_width new a.0 st.op is_net a.1.at ∙ op-width-more net new st.op begins st.stands ∙ st.width_is;
        }

    sorts-next : (here : Bool) (id w : ℕ) → nat_eq line.id id ≡ here → width_wanted kinds.Sort (cond here (Some (meaning_of scope line)) (scope.meanings id)) ≡ Some w → (m.sorts id ≡ Some w) × (1 ≤ w) × (w ≤ 128)
    sorts-next false id w apart wanted =
        let old = holds.sorts id w wanted in
        (ap (λ (f : ℕ → Option ℕ). f id) adds.sorts ∙ other (is_sort rule) ∙ old.0, old.1, old.2)
      where
        other : (sort : Bool) → cond sort (update nat_eq n.sorts line.id (Some (number_at line.arguments 1))) n.sorts id ≡ n.sorts id
        other true = ap (λ (b : Bool). cond b (Some (number_at line.arguments 1)) (n.sorts id)) apart
        other false = refl
    sorts-next true id w here wanted = by (by-sort rule)
      where
        by : (rule ≡ forms.Sort) ⊎ ((is_sort rule ≡ false) × ((width : ℕ) → sort_width (role_of rule) width ≡ None)) → (m.sorts id ≡ Some w) × (1 ≤ w) × (w ≤ 128)
        by (inl is) =
            let bounds = sort-new rule (measures_of scope line) w met.bounds wanted in
            let wide = sort-is (role_of rule) width w wanted in (
              ap (λ (f : ℕ → Option ℕ). f id) adds.sorts ∙ ap (λ (r : FormRule). cond (is_sort r) (update nat_eq n.sorts line.id (Some (number_at line.arguments 1))) n.sorts id) is
                  ∙ ap (λ (b : Bool). cond b (Some (number_at line.arguments 1)) (n.sorts id)) here ∙ ap Some (declared-width is ∙ wide),
              bounds.0,
              bounds.1,
            )
        by (inr not_one) = let none = not_one.1 width in absurd (cc)

    widths-next : (here : Bool) (id w : ℕ) → nat_eq line.id id ≡ here → width_wanted kinds.Value (cond here (Some (meaning_of scope line)) (scope.meanings id)) ≡ Some w → HasNodeOf m new id w
    widths-next false id w apart wanted =
        let old = holds.widths id w wanted in
        record {
          node = old.node;
          is = kept id old.node apart old.is;
          stands = inside-more net new old.node begins old.stands;
          width_is = width-more net new old.node begins old.stands ∙ old.width_is;
        }
    widths-next true id w here wanted = by stood
      where
        by : IsSilent rule ⊎ Stood n net line width → HasNodeOf m new id w
        by (inl is) = let none = is.no_value width in absurd (cc)
        by (inr st) =
            subst (λ (q : ℕ). HasNodeOf m new q w) (eqb-true line.id id here) (subst (HasNodeOf m new line.id) (value-is (role_of rule) width w wanted) (new-node st))

    -- what is declared behind the line has its nodes
    pub holds-next : Holds (behind scope line) m new
    holds-next = record {
      sorts = λ id w wanted. sorts-next (nat_eq line.id id) id w refl wanted;
      widths = λ id w wanted. widths-next (nat_eq line.id id) id w refl wanted;
    }

    -- the value of the line's operator is the line's
    value-of-op : (op : NetOp) (s : Sources) (values : List BitVector) (step : StepValues) (before : Values) → op_of n line ≡ Some op → Follows n values before
        → (is_input rule ≡ true → step.inputs line.id ≡ value_at s.inputs n.inputs) → (is_state rule ≡ true → step.states line.id ≡ value_at s.states n.states) → op_value s values op ≡ value_by rule step scope before line
    value-of-op op s values step before is follows inputs states = by (having rule)
      where
        by : Having rule → op_value s values op ≡ value_by rule step scope before line
        by (computed sure) =
            let w = line-works scope n net holds line met fits sure in
            ap (op_value s values) (some-op-same op w.op (sym is ∙ w.is)) ∙ w.value s values before follows ∙ sym (computed-value rule step scope before line sure)
        by (input sure) =
            ap (op_value s values) (some-op-same op (Input n.inputs width) (sym is ∙ (input-op sure).0)) ∙ sym (inputs (ap is_input sure)) ∙ sym (ap (λ (r : FormRule). value_by r step scope before line) sure)
        by (state sure) =
            ap (op_value s values) (some-op-same op (State n.states width) (sym is ∙ (state-op sure).0)) ∙ sym (states (ap is_state sure)) ∙ sym (ap (λ (r : FormRule). value_by r step scope before line) sure)
        by (silent sure) = some-from-none (op_of n line) op (sure.none n line.keyword line.arguments) is

    module _ (absent : (id : ℕ) → scope.meanings id ≡ None → n.nodes id ≡ None) where
      fresh : n.nodes line.id ≡ None
      fresh = absent line.id (nothing-there (scope.meanings line.id) met.fresh)

      follows-old : (s : Sources) (before : Values) → Follows n (values_of s net) before → Follows n (values_of s new) before
      follows-old s before follows = λ id node is. value-more s net new node begins (inside id node is) ∙ follows id node is

      follows-at : (here : Bool) (s : Sources) (step : StepValues) (before : Values) (id node : ℕ) → nat_eq line.id id ≡ here → Follows n (values_of s net) before
          → (is_input rule ≡ true → step.inputs line.id ≡ value_at s.inputs n.inputs) → (is_state rule ≡ true → step.states line.id ≡ value_at s.states n.states)
          → m.nodes id ≡ Some node → node_value s new node ≡ cond here (value_by rule step scope before line) (before id)
      follows-at here s step before id node at follows inputs states is = by stood here at
        where
          by : IsSilent rule ⊎ Stood n net line width → (now : Bool) → nat_eq line.id id ≡ now → node_value s new node ≡ cond now (value_by rule step scope before line) (before id)
          by (inl sure) true same_id =
              let none : n.nodes id ≡ None = ap n.nodes (sym (eqb-true line.id id same_id)) ∙ fresh in
              let some : n.nodes id ≡ Some node = sym (ap (λ (f : ℕ → Option ℕ). f id) (same sure).1) ∙ is in
              absurd (cc)
          by (inl sure) false apart = follows-old s before follows id node (sym (ap (λ (f : ℕ → Option ℕ). f id) (same sure).1) ∙ is)
          by (inr st) true same_id =
              let a = added st.op st.is in
              let node_is : a.0 ≡ node = some-same a.0 node (sym (ap (λ (f : ℕ → Option ℕ). f id) a.2 ∙ ap (λ (b : Bool). cond b (Some a.0) (n.nodes id)) same_id) ∙ is) in
              ap (node_value s new) (sym node_is) ∙ node-follows s new a.0 st.op is_net a.1.at
              ∙ value-of-op st.op s (values_of s new) step before st.is (follows-old s before follows) inputs states
          by (inr st) false apart =
              let a = added st.op st.is in
              follows-old s before follows id node (sym (ap (λ (f : ℕ → Option ℕ). f id) a.2 ∙ ap (λ (b : Bool). cond b (Some a.0) (n.nodes id)) apart) ∙ is)

      -- the nodes have the values of the lines with it
      pub follows-next : (s : Sources) (step : StepValues) (before : Values) → Follows n (values_of s net) before
          → (is_input rule ≡ true → step.inputs line.id ≡ value_at s.inputs n.inputs) → (is_state rule ≡ true → step.states line.id ≡ value_at s.states n.states)
          → Follows m (values_of s new) (λ id. cond (nat_eq line.id id) (value_by rule step scope before line) (before id))
      follows-next s step before follows inputs states = λ id node is. follows-at (nat_eq line.id id) s step before id node refl follows inputs states is

      absent-at : (here : Bool) (id : ℕ) → nat_eq line.id id ≡ here → cond here (Some (meaning_of scope line)) (scope.meanings id) ≡ None → m.nodes id ≡ None
      absent-at true id at none = absurd (cc)
      absent-at false id apart none = by stood
        where
          by : IsSilent rule ⊎ Stood n net line width → m.nodes id ≡ None
          by (inl sure) = ap (λ (f : ℕ → Option ℕ). f id) (same sure).1 ∙ absent id none
          by (inr st) = let a = added st.op st.is in ap (λ (f : ℕ → Option ℕ). f id) a.2 ∙ ap (λ (b : Bool). cond b (Some a.0) (n.nodes id)) apart ∙ absent id none

      pub absent-next : (id : ℕ) → (behind scope line).meanings id ≡ None → m.nodes id ≡ None
      absent-next id none = absent-at (nat_eq line.id id) id refl none

      inside-at : (here : Bool) (id node : ℕ) → nat_eq line.id id ≡ here → m.nodes id ≡ Some node → node < length new
      inside-at here id node at is = by stood here at
        where
          old : n.nodes id ≡ Some node → node < length new
          old some = inside-more net new node begins (inside id node some)

          by : IsSilent rule ⊎ Stood n net line width → (now : Bool) → nat_eq line.id id ≡ now → node < length new
          by (inl sure) now at_now = old (sym (ap (λ (f : ℕ → Option ℕ). f id) (same sure).1) ∙ is)
          by (inr st) true same_id =
              let a = added st.op st.is in
              let node_is : a.0 ≡ node = some-same a.0 node (sym (ap (λ (f : ℕ → Option ℕ). f id) a.2 ∙ ap (λ (b : Bool). cond b (Some a.0) (n.nodes id)) same_id) ∙ is) in
              subst (λ (k : ℕ). k < length new) node_is (slice_get_within new a.0 st.op a.1.at)
          by (inr st) false apart =
              let a = added st.op st.is in
              old (sym (ap (λ (f : ℕ → Option ℕ). f id) a.2 ∙ ap (λ (b : Bool). cond b (Some a.0) (n.nodes id)) apart) ∙ is)

      pub inside-next : (id node : ℕ) → m.nodes id ≡ Some node → node < length new
      inside-next id node is = inside-at (nat_eq line.id id) id node refl is

    -- the net reads the inputs and states that there are, where the line's is one
    pub reads-next : (inputs states : List ℕ) → AllRead inputs states net → (rule ≡ forms.Input → slice_get inputs n.inputs ≡ Some width) → (rule ≡ forms.State → slice_get states n.states ≡ Some width) → AllRead inputs states new
    reads-next inputs states all input_is state_is = by stood
      where
        read : (op : NetOp) → op_of n line ≡ Some op → Having rule → Reads inputs states op
        read op is (computed sure) = let w = line-works scope n net holds line met fits sure in subst (Reads inputs states) (some-op-same w.op op (sym w.is ∙ is)) (w.reads inputs states)
        read op is (input sure) = subst (Reads inputs states) (some-op-same (Input n.inputs width) op (sym (input-op sure).0 ∙ is)) (input_is sure)
        read op is (state sure) = subst (Reads inputs states) (some-op-same (State n.states width) op (sym (state-op sure).0 ∙ is)) (state_is sure)
        read op is (silent sure) = some-from-none (op_of n line) op (sure.none n line.keyword line.arguments) is

        by : IsSilent rule ⊎ Stood n net line width → AllRead inputs states new
        by (inl sure) = subst (λ (ops : List NetOp). AllRead inputs states ops) (sym (same sure).0) all
        by (inr st) = let a = added st.op st.is in reads-more inputs states net new st.op a.0 a.1 (read st.op st.is (having rule)) all
