-- The lines of a net's nodes: which line each node has, and that no other line is an operator's.
use Rattle.std.proofs.Common.{◌≡◌, ℕ, zero, suc, ◌+◌, ◌<◌, ◌≤◌, ◌⊎◌, inl, inr, Bool, true, false, List, [], ◌∷◌, ◌++◌, Option, None, Some, length, map, refl, sym, ap, ◌∙◌, subst, arith, append_assoc, append-nil, length-append}
use Rattle.std.specs.List.{Contains}
use Rattle.std.specs.Prelude.{slice_get, decimal}
use Rattle.std.proofs.lemmas.List.{get_or_append_left}
use Rattle.std.proofs.lemmas.List.Elements.{Contains-append_cases, Contains-append_left, Contains-push, Contains-push_cases}
use Rattle.std.proofs.lemmas.Option.{get_or_from_slice_get, slice_get_within}
use Rattle.net_graph.specs.Nets.{width_at}
use Rattle.net_graph.specs.declared.node.NetOp.{NetOp}
use Rattle.net_graph.specs.declared.node.NetOp.TheVariants.{Const, Input, State, One, Two, Slice, Uext, Sext, Ite}
use Rattle.circuit_eval.specs.Tidy.{operands}
use Rattle.btor2_text.specs.declared.keyword.Keyword.TheVariants as keywords
use Rattle.btor2_text.specs.declared.line.Argument.{Argument}
use Rattle.btor2_text.specs.declared.line.Argument.TheVariants as arguments
use Rattle.btor2_text.specs.declared.line.Line.{Line}
use Rattle.btor2_model.specs.Rules.{rule_of}
use Rattle.btor2_net.specs.Pages.{Draft, Page, arguments_of, id_in, line_on, next_id, put, sort_id, with_node, with_nodes, with_sort, with_sort_by}
use Rattle.btor2_net.specs.TidyLines.{is_operator}
use Rattle.btor2_net.proofs.OperatorLines.{is_op, keyword_of, numbers_of, operator-line}
use Rattle.btor2_net.proofs.WrittenLines.{map-each}

-- a node that is a line: a constant or an operator
abbrev pub has_line : NetOp → Bool
has_line (Input number width) = false
has_line (State number width) = false
has_line other = true

-- the line is that of a node's operator, by the ids of nodes
pub record IsLineOf (ids : List ℕ) (op : NetOp) (line : Line) : Type 0 where
  pub keyword : line.keyword ≡ keyword_of op
  pub sort : ℕ
  pub given : is_op op ≡ true → line.arguments ≡ arguments_of sort (map (id_in ids) (operands op)) (numbers_of op)

-- such a line of this id is among lines
pub record HasLineOf (lines : List Line) (ids : List ℕ) (id : ℕ) (op : NetOp) : Type 0 where
  pub line : Line
  pub there : Contains lines line
  pub id_is : line.id ≡ id
  pub of : IsLineOf ids op line

-- ids are only added
line-of-more : (ids more : List ℕ) (op : NetOp) (line : Line) → ((a : ℕ) → Contains (operands op) a → a < length ids) → IsLineOf ids op line → IsLineOf (ids ++ more) op line
line-of-more ids more op line before of = record {
  keyword = of.keyword;
  sort = of.sort;
  given = λ is. of.given is ∙ ap (λ (given : List ℕ). arguments_of of.sort given (numbers_of op))
      (map-each (id_in ids) (id_in (ids ++ more)) (operands op)
      (λ k a at. sym (get_or_append_left ids more 0 a (before a (k, slice_get_within (operands op) k a at, get_or_from_slice_get (operands op) k a a at)))));
}

-- a page with a sort has at most its line more
record HasSorts (p q : Page) : Type 0 where
  more : List Line
  lines : q.lines ≡ p.lines ++ more
  quiet : (line : Line) → Contains more line → is_operator (rule_of line.keyword) ≡ false

none-there : {X : Type 0} (x : X) → Contains [] x → ⊥
none-there {X} x there = omega (arith, there.1)

sort-quiet : (p : Page) (width : ℕ) (line : Line) → Contains [] line ⊎ (line_on p keywords.Sort (arguments.Bitvec ∷ arguments.Number width ∷ []) None ≡ line) → is_operator (rule_of line.keyword) ≡ false
sort-quiet p width line (inl there) = absurd (none-there line there)
sort-quiet p width line (inr same) = ap (λ (l : Line). is_operator (rule_of l.keyword)) (sym same)

has-sorts : (p : Page) (width : ℕ) → HasSorts p (with_sort p width)
has-sorts p width = by (p.sorts width)
  where
    by : (o : Option ℕ) → HasSorts p (with_sort_by p width o)
    by (Some id) = record { more = []; lines = sym (append-nil p.lines); quiet = λ line there. absurd (none-there line there) }
    by None =
        let sort : Line = line_on p keywords.Sort (arguments.Bitvec ∷ arguments.Number width ∷ []) None in
        record { more = sort ∷ []; lines = refl; quiet = λ line there. sort-quiet p width line (Contains-push_cases [] sort line there) }

-- the operator's line of a node
pub record IsNodeLine (ids new : List ℕ) (ops : List NetOp) (line : Line) : Type 0 where
  pub node : ℕ
  pub op : NetOp
  pub id_at : slice_get new node ≡ Some line.id
  pub at : slice_get ops node ≡ Some op
  pub is : is_op op ≡ true
  pub of : IsLineOf ids op line

-- operands are nodes before
abbrev pub StandBehind : ℕ → List NetOp → Type 0
StandBehind count ops = (k a : ℕ) (op : NetOp) → slice_get ops k ≡ Some op → Contains (operands op) a → a < count + k

module _ (inputs states : List ℕ) where
  -- the id of an input's or a state's node is that of its line
  abbrev pub IsRead : ℕ → NetOp → Type 0
  IsRead id (Input number width) = id ≡ id_in inputs number
  IsRead id (State number width) = id ≡ id_in states number
  IsRead id other = Unit {0}

  -- those lines stand among the first ones
  abbrev pub AreLow : ℕ → Type 0
  AreLow count = (number : ℕ) → (id_in inputs number ≤ count) × (id_in states number ≤ count)

  -- a draft with one more node
  record AddsNode (d next : Draft) (op : NetOp) : Type 0 where
    id : ℕ
    ids : next.ids ≡ d.ids ++ id ∷ []
    more : List Line
    lines : next.page.lines ≡ d.page.lines ++ more
    low : AreLow (length d.page.lines) → id ≤ length next.page.lines
    own : has_line op ≡ true → HasLineOf next.page.lines d.ids id op × (length d.page.lines < id)
    read : IsRead id op
    back : (line : Line) → Contains more line → is_operator (rule_of line.keyword) ≡ true → (is_op op ≡ true) × (line.id ≡ id) × IsLineOf d.ids op line

  -- one that is a line
  adds-line : (d : Draft) (width : ℕ) (op : NetOp) (sort : ℕ) (given : List Argument) → IsRead (next_id (with_sort d.page width)) op
      → (is_op op ≡ true → given ≡ arguments_of sort (map (id_in d.ids) (operands op)) (numbers_of op)) → (is_operator (rule_of (keyword_of op)) ≡ true → is_op op ≡ true)
      → AddsNode d (record { page = put (with_sort d.page width) (keyword_of op) given None; ids = d.ids ++ next_id (with_sort d.page width) ∷ [] }) op
  adds-line d width op sort given read given_is operator =
      let one = with_sort d.page width in
      let sorts = has-sorts d.page width in
      let count : length one.lines ≡ length d.page.lines + length sorts.more = ap length sorts.lines ∙ length-append d.page.lines sorts.more in
      record {
        id = next_id one;
        ids = refl;
        more = sorts.more ++ line ∷ [];
        lines = ap (λ (ls : List Line). ls ++ line ∷ []) sorts.lines ∙ append_assoc d.page.lines sorts.more (line ∷ []);
        low = λ low. omega (arith, length-append one.lines (line ∷ []));
        own = λ is. (record { line = line; there = Contains-push one.lines line; id_is = refl; of = of }, omega (arith, count));
        read = read;
        back = λ other there is. back sorts.more other sorts.quiet is (Contains-push_cases sorts.more line other there);
      }
    where
      line : Line
      line = line_on (with_sort d.page width) (keyword_of op) given None

      of : IsLineOf d.ids op line
      of = record { keyword = refl; sort = sort; given = given_is }

      back : (sorts : List Line) (other : Line) → ((l : Line) → Contains sorts l → is_operator (rule_of l.keyword) ≡ false) → is_operator (rule_of other.keyword) ≡ true → Contains sorts other ⊎ (line ≡ other)
          → (is_op op ≡ true) × (other.id ≡ line.id) × IsLineOf d.ids op other
      back sorts other quiet is (inl sorted) = let quiet_is = quiet other sorted in absurd (cc)
      back sorts other quiet is (inr same) =
          (operator (ap (λ (l : Line). is_operator (rule_of l.keyword)) same ∙ is), ap (λ (l : Line). l.id) (sym same), subst (IsLineOf d.ids op) same of)

  operator-node : (d : Draft) (width : ℕ) (op : NetOp) → ((id : ℕ) → IsRead id op) → is_op op ≡ true → AddsNode d (with_node inputs states d width op) op
  operator-node d width op read is =
      let one = with_sort d.page width in
      let sort = sort_id one width in
      subst (λ (next : Draft). AddsNode d next op) (sym (operator-line inputs states d width op is))
      (adds-line d width op sort (arguments_of sort (map (id_in d.ids) (operands op)) (numbers_of op)) (read (next_id one)) (λ same. refl) (λ rule. is))

  -- and one that isn't
  there-node : (d : Draft) (op : NetOp) (id : ℕ) → (has_line op ≡ true → ⊥) → IsRead id op → (AreLow (length d.page.lines) → id ≤ length d.page.lines) → AddsNode d (record { page = d.page; ids = d.ids ++ id ∷ [] }) op
  there-node d op id never read low = record {
    id = id;
    ids = refl;
    more = [];
    lines = sym (append-nil d.page.lines);
    low = low;
    own = λ is. absurd (never is);
    read = read;
    back = λ line there is. absurd (none-there line there);
  }

  adds-node : (d : Draft) (width : ℕ) (op : NetOp) → AddsNode d (with_node inputs states d width op) op
  adds-node d width (Const value) =
      adds-line d value.width (Const value) 0 (arguments.Id (sort_id (with_sort d.page value.width) value.width) ∷ arguments.Numeral (decimal value.number) ∷ []) tt (λ is. absurd (cc)) (λ is. absurd (cc))
  adds-node d width (Input number of_width) = there-node d (Input number of_width) (id_in inputs number) (λ is. cc) refl (λ low. (low number).0)
  adds-node d width (State number of_width) = there-node d (State number of_width) (id_in states number) (λ is. cc) refl (λ low. (low number).1)
  adds-node d width (One operator a) = operator-node d width (One operator a) (λ id. tt) refl
  adds-node d width (Two operator a b) = operator-node d width (Two operator a b) (λ id. tt) refl
  adds-node d width (Slice a upper lower) = operator-node d width (Slice a upper lower) (λ id. tt) refl
  adds-node d width (Uext a added) = operator-node d width (Uext a added) (λ id. tt) refl
  adds-node d width (Sext a added) = operator-node d width (Sext a added) (λ id. tt) refl
  adds-node d width (Ite condition a b) = operator-node d width (Ite condition a b) (λ id. tt) refl

  -- a draft with these nodes behind another
  pub record HasNodeLines (d last : Draft) (ops : List NetOp) : Type 0 where
    pub new : List ℕ
    pub ids : last.ids ≡ d.ids ++ new
    pub count : length new ≡ length ops
    pub more : List Line
    pub lines : last.page.lines ≡ d.page.lines ++ more
    pub own : (k id : ℕ) (op : NetOp) → slice_get new k ≡ Some id → slice_get ops k ≡ Some op → has_line op ≡ true → HasLineOf last.page.lines last.ids id op × (length d.page.lines < id)
    pub read : (k id : ℕ) (op : NetOp) → slice_get new k ≡ Some id → slice_get ops k ≡ Some op → IsRead id op
    pub rise : (j k a b : ℕ) (op : NetOp) → j < k → slice_get new j ≡ Some a → slice_get new k ≡ Some b → slice_get ops k ≡ Some op → has_line op ≡ true → a < b
    pub back : (line : Line) → Contains more line → is_operator (rule_of line.keyword) ≡ true → IsNodeLine last.ids new ops line

  one-more : (d next : Draft) (op : NetOp) (ops : List NetOp) (last : Draft) → AddsNode d next op → ((a : ℕ) → Contains (operands op) a → a < length d.ids) → AreLow (length d.page.lines) → HasNodeLines next last ops → HasNodeLines d last (op ∷ ops)
  one-more d next op ops last n before low r = record {
    new = n.id ∷ r.new;
    ids = ids;
    count = ap suc r.count;
    more = n.more ++ r.more;
    lines = r.lines ∙ ap (λ (ls : List Line). ls ++ r.more) n.lines ∙ append_assoc d.page.lines n.more r.more;
    own = own;
    read = read;
    rise = rise;
    back = λ line there is. back line is (Contains-append_cases n.more r.more line there);
  }
    where
      ids : last.ids ≡ d.ids ++ (n.id ∷ r.new)
      ids = r.ids ∙ ap (λ (xs : List ℕ). xs ++ r.new) n.ids ∙ append_assoc d.ids (n.id ∷ []) r.new

      longer : length d.page.lines ≤ length next.page.lines
      longer = omega (arith, ap length n.lines, length-append d.page.lines n.more)

      moved : (line : Line) → IsLineOf d.ids op line → IsLineOf last.ids op line
      moved line of = subst (λ (xs : List ℕ). IsLineOf xs op line) (sym ids) (line-of-more d.ids (n.id ∷ r.new) op line before of)

      here : HasLineOf next.page.lines d.ids n.id op → HasLineOf last.page.lines last.ids n.id op
      here h = record {
        line = h.line;
        there = subst (λ (ls : List Line). Contains ls h.line) (sym r.lines) (Contains-append_left next.page.lines r.more h.line h.there);
        id_is = h.id_is;
        of = moved h.line h.of;
      }

      own : (k id : ℕ) (o : NetOp) → slice_get (n.id ∷ r.new) k ≡ Some id → slice_get (op ∷ ops) k ≡ Some o → has_line o ≡ true → HasLineOf last.page.lines last.ids id o × (length d.page.lines < id)
      own zero id o at op_at is =
          let same : n.id ≡ id = cc in
          let alike : op ≡ o = cc in
          let first = n.own (ap has_line alike ∙ is) in
          subst (λ (i : ℕ). HasLineOf last.page.lines last.ids i o × (length d.page.lines < i)) same (subst (λ (p : NetOp). HasLineOf last.page.lines last.ids n.id p × (length d.page.lines < n.id)) alike (here first.0, first.1))
      own (suc k) id o at op_at is = let rest = r.own k id o at op_at is in (rest.0, omega (arith, rest.1, longer))

      read : (k id : ℕ) (o : NetOp) → slice_get (n.id ∷ r.new) k ≡ Some id → slice_get (op ∷ ops) k ≡ Some o → IsRead id o
      read zero id o at op_at =
          let same : n.id ≡ id = cc in
          let alike : op ≡ o = cc in subst (λ (i : ℕ). IsRead i o) same (subst (IsRead n.id) alike n.read)
      read (suc k) id o at op_at = r.read k id o at op_at

      rise : (j k a b : ℕ) (o : NetOp) → j < k → slice_get (n.id ∷ r.new) j ≡ Some a → slice_get (n.id ∷ r.new) k ≡ Some b → slice_get (op ∷ ops) k ≡ Some o → has_line o ≡ true → a < b
      rise j zero a b o before at other op_at is = absurd (omega (arith, before))
      rise zero (suc k) a b o before at other op_at is =
          let same : n.id ≡ a = cc in
          let rest = (r.own k b o other op_at is).1 in omega (arith, same, rest, n.low low)
      rise (suc j) (suc k) a b o before at other op_at is = r.rise j k a b o (omega (arith, before)) at other op_at is

      back : (line : Line) → is_operator (rule_of line.keyword) ≡ true → Contains n.more line ⊎ Contains r.more line → IsNodeLine last.ids (n.id ∷ r.new) (op ∷ ops) line
      back line is (inl there) =
          let b = n.back line there is in
          record { node = 0; op = op; id_at = ap Some (sym b.1); at = refl; is = b.0; of = moved line b.2 }
      back line is (inr there) =
          let b = r.back line there is in
          record { node = suc b.node; op = b.op; id_at = b.id_at; at = b.at; is = b.is; of = b.of }

  pub has-node-lines : (widths : List ℕ) (d : Draft) (ops : List NetOp) → StandBehind (length d.ids) ops → AreLow (length d.page.lines) → HasNodeLines d (with_nodes inputs states widths d ops) ops
  has-node-lines widths d [] behind low = record {
    new = [];
    ids = sym (append-nil d.ids);
    count = refl;
    more = [];
    lines = sym (append-nil d.page.lines);
    own = λ k id op at op_at is. absurd (cc);
    read = λ k id op at op_at. absurd (cc);
    rise = λ j k a b op before at other op_at is. absurd (cc);
    back = λ line there is. absurd (none-there line there);
  }
  has-node-lines widths d (op ∷ ops) behind low =
      let width = width_at widths (length d.ids) in
      let next = with_node inputs states d width op in
      let n = adds-node d width op in
      let count : length next.ids ≡ length d.ids + 1 = omega (arith, ap length n.ids, length-append d.ids (n.id ∷ [])) in
      let longer : length d.page.lines ≤ length next.page.lines = omega (arith, ap length n.lines, length-append d.page.lines n.more) in
      one-more d next op ops (with_nodes inputs states widths next ops) n (λ a there. omega (arith, behind 0 a op refl there)) low
      (has-node-lines widths next ops (λ k a o at there. omega (arith, behind (suc k) a o at there, count)) (λ number. (omega (arith, (low number).0, longer), omega (arith, (low number).1, longer))))
