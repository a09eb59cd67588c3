-- A line of an operator tells the operator: its keyword, its operands and its numbers.
use Rattle.std.proofs.Common.{◌≡◌, ℕ, Bool, true, false, List, [], ◌∷◌, Option, None, Some, map, refl, sym, ap, ap₂, ◌∙◌}
use Rattle.std.specs.List.{filter_map}
use Rattle.std.specs.Option.{option_map}
use Rattle.net_graph.specs.declared.node.NetOne.{NetOne}
use Rattle.net_graph.specs.declared.node.NetOne.TheVariants as ones
use Rattle.net_graph.specs.declared.node.NetOp.{NetOp}
use Rattle.net_graph.specs.declared.node.NetOp.TheVariants.{Const, Input, State, One, Two, Slice, Uext, Sext, Ite}
use Rattle.net_graph.specs.declared.node.NetTwo.{NetTwo}
use Rattle.net_graph.specs.declared.node.NetTwo.TheVariants as twos
use Rattle.circuit_eval.specs.Tidy.{operands}
use Rattle.btor2_text.specs.declared.keyword.Keyword.{Keyword}
use Rattle.btor2_text.specs.declared.keyword.Keyword.TheVariants as keywords
use Rattle.btor2_text.specs.declared.line.Argument.{Argument}
use Rattle.btor2_text.specs.declared.line.Argument.TheVariants as arguments
use Rattle.btor2_model.specs.Rules.{rule_of}
use Rattle.btor2_net.specs.inner.Nodes.{extension, one_of, two_of}
use Rattle.btor2_net.specs.Pages.{Draft, arguments_of, id_in, keyword_of_one, keyword_of_two, with_node, with_node_line}
use Rattle.btor2_net.specs.TidyLines.{is_operator, operand_ids}

-- an operator on other nodes
abbrev pub is_op : NetOp → Bool
is_op (Const value) = false
is_op (Input number width) = false
is_op (State number width) = false
is_op other = true

-- the keyword and the numbers of its line
abbrev pub keyword_of : NetOp → Keyword
keyword_of (Const value) = keywords.Constd
keyword_of (Input number width) = keywords.Input
keyword_of (State number width) = keywords.State
keyword_of (One operator a) = keyword_of_one operator
keyword_of (Two operator a b) = keyword_of_two operator
keyword_of (Slice a upper lower) = keywords.Slice
keyword_of (Uext a added) = keywords.Uext
keyword_of (Sext a added) = keywords.Sext
keyword_of (Ite condition a b) = keywords.Ite

abbrev pub numbers_of : NetOp → List ℕ
numbers_of (Slice a upper lower) = upper ∷ lower ∷ []
numbers_of (Uext a added) = added ∷ []
numbers_of (Sext a added) = added ∷ []
numbers_of other = []

-- the operator that they make
rebuilt : Keyword → List ℕ → List ℕ → Option NetOp
rebuilt keyword (a ∷ []) [] = option_map (λ operator. One operator a) (one_of keyword)
rebuilt keyword (a ∷ b ∷ []) [] = option_map (λ operator. Two operator a b) (two_of keyword)
rebuilt keyword (a ∷ []) (added ∷ []) = Some (extension keyword a added)
rebuilt keyword (a ∷ []) (upper ∷ lower ∷ []) = Some (Slice a upper lower)
rebuilt keyword (condition ∷ a ∷ b ∷ []) [] = Some (Ite condition a b)
rebuilt keyword others numbers = None

one-found : (op : NetOne) → one_of (keyword_of_one op) ≡ Some op
one-found ones.Not = refl
one-found ones.Neg = refl
one-found ones.Inc = refl
one-found ones.Dec = refl
one-found ones.RedAnd = refl
one-found ones.RedOr = refl
one-found ones.RedXor = refl

two-found : (op : NetTwo) → two_of (keyword_of_two op) ≡ Some op
two-found twos.And = refl
two-found other = refl

rebuilds : (op : NetOp) → is_op op ≡ true → rebuilt (keyword_of op) (operands op) (numbers_of op) ≡ Some op
unfolding rebuilt
rebuilds (Const value) is = absurd (cc)
rebuilds (Input number width) is = absurd (cc)
rebuilds (State number width) is = absurd (cc)
rebuilds (One operator a) is = ap (option_map (λ (o : NetOne). One o a)) (one-found operator)
rebuilds (Two operator a b) is = ap (option_map (λ (o : NetTwo). Two o a b)) (two-found operator)
rebuilds (Slice a upper lower) is = refl
rebuilds (Uext a added) is = refl
rebuilds (Sext a added) is = refl
rebuilds (Ite condition a b) is = refl

some-op : (a b : NetOp) → Some a ≡ Some b → a ≡ b
some-op a b is = cc

-- operators of the same keyword, operands and numbers are the same
pub same-op : (a b : NetOp) → is_op a ≡ true → is_op b ≡ true → keyword_of a ≡ keyword_of b → operands a ≡ operands b → numbers_of a ≡ numbers_of b → a ≡ b
same-op a b first second keyword given numbers =
    some-op a b
    (sym (rebuilds a first) ∙ ap (λ (k : Keyword). rebuilt k (operands a) (numbers_of a)) keyword ∙ ap₂ (rebuilt (keyword_of b)) given numbers ∙ rebuilds b second)

one-operator : (op : NetOne) → is_operator (rule_of (keyword_of_one op)) ≡ true
one-operator ones.Not = refl
one-operator other = refl

two-operator : (op : NetTwo) → is_operator (rule_of (keyword_of_two op)) ≡ true
two-operator twos.And = refl
two-operator other = refl

-- its line is that of an operator
pub operator-rule : (op : NetOp) → is_op op ≡ true → is_operator (rule_of (keyword_of op)) ≡ true
operator-rule (Const value) is = absurd (cc)
operator-rule (Input number width) is = absurd (cc)
operator-rule (State number width) is = absurd (cc)
operator-rule (One operator a) is = one-operator operator
operator-rule (Two operator a b) is = two-operator operator
operator-rule other is = refl

-- and is added as such
pub operator-line : (inputs states : List ℕ) (d : Draft) (w : ℕ) (op : NetOp) → is_op op ≡ true → with_node inputs states d w op ≡ with_node_line d w (keyword_of op) (map (id_in d.ids) (operands op)) (numbers_of op)
operator-line inputs states d w (Const value) is = absurd (cc)
operator-line inputs states d w (Input number width) is = absurd (cc)
operator-line inputs states d w (State number width) is = absurd (cc)
operator-line inputs states d w other is = refl

-- the ids and the numbers among arguments
abbrev number_given : Argument → Option ℕ
number_given (arguments.Number number) = Some number
number_given other = None

abbrev numbers_in : List Argument → List ℕ
numbers_in given = filter_map number_given given

pub ids-of-arguments : (sort : ℕ) (ids numbers : List ℕ) → operand_ids (arguments_of sort ids numbers) ≡ ids
ids-of-arguments sort [] [] = refl
ids-of-arguments sort [] (number ∷ numbers) = ids-of-arguments sort [] numbers
ids-of-arguments sort (id ∷ ids) numbers = ap (λ (rest : List ℕ). id ∷ rest) (ids-of-arguments sort ids numbers)

numbers-of-arguments : (sort : ℕ) (ids numbers : List ℕ) → numbers_in (arguments_of sort ids numbers) ≡ numbers
numbers-of-arguments sort [] [] = refl
numbers-of-arguments sort [] (number ∷ numbers) = ap (λ (rest : List ℕ). number ∷ rest) (numbers-of-arguments sort [] numbers)
numbers-of-arguments sort (id ∷ ids) numbers = numbers-of-arguments sort ids numbers

-- the same arguments have the same ids and numbers
pub same-ids : (one other : ℕ) (ids others numbers more : List ℕ) → arguments_of one ids numbers ≡ arguments_of other others more → ids ≡ others
same-ids one other ids others numbers more same = sym (ids-of-arguments one ids numbers) ∙ ap operand_ids same ∙ ids-of-arguments other others more

pub same-numbers : (one other : ℕ) (ids others numbers more : List ℕ) → arguments_of one ids numbers ≡ arguments_of other others more → numbers ≡ more
same-numbers one other ids others numbers more same = sym (numbers-of-arguments one ids numbers) ∙ ap numbers_in same ∙ numbers-of-arguments other others more

-- an operator whose keyword is `not`
two-not : (op : NetTwo) → keyword_of_two op ≡ keywords.Not → ⊥
two-not twos.And is = cc
two-not other is = cc

pub is-not : (op : NetOp) → is_op op ≡ true → keyword_of op ≡ keywords.Not → (b : ℕ) × (op ≡ One ones.Not b)
is-not (One ones.Not b) is keyword = (b, refl)
is-not (One other b) is keyword = absurd (cc)
is-not (Two operator a b) is keyword = absurd (two-not operator keyword)
is-not other is keyword = absurd (cc)
