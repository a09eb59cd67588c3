-- What each form asks of the widths of its sort and operands, and of its numbers. BTOR2 (Niemetz et al., CAV 2018).
use Rattle.std.specs.Prelude.{ℕ, ◌+◌, ◌==◌, nat_le, nat_lt, Bool, true, false, ◌&&◌}
use Rattle.btor2_text.specs.declared.keyword.Keyword.{Keyword}
use Rattle.btor2_text.specs.declared.keyword.Keyword.TheVariants as keywords
use Rattle.btor2_text.specs.declared.kind.Base.TheVariants as bases
use Rattle.btor2_model.specs.declared.meaning.Role.{Role}
use Rattle.btor2_model.specs.declared.meaning.Role.TheVariants as roles
use Rattle.btor2_model.specs.declared.rule.FormRule.{FormRule}
use Rattle.btor2_model.specs.declared.rule.FormRule.TheVariants as forms
use Rattle.btor2_model.specs.declared.rule.Measures.{Measures}

-- the rule of a keyword's form
abbrev pub rule_of : Keyword → FormRule
rule_of keywords.Sort = forms.Sort
rule_of keywords.Input = forms.Input
rule_of keywords.State = forms.State
rule_of keywords.Zero = forms.Constant
rule_of keywords.One = forms.Constant
rule_of keywords.Ones = forms.Constant
rule_of keywords.Const = forms.Numeral bases.Binary
rule_of keywords.Constd = forms.Numeral bases.Decimal
rule_of keywords.Consth = forms.Numeral bases.Hexadecimal
rule_of keywords.Not = forms.Unary
rule_of keywords.Neg = forms.Unary
rule_of keywords.Inc = forms.Unary
rule_of keywords.Dec = forms.Unary
rule_of keywords.Redand = forms.Reduced
rule_of keywords.Redor = forms.Reduced
rule_of keywords.Redxor = forms.Reduced
rule_of keywords.And = forms.Binary
rule_of keywords.Or = forms.Binary
rule_of keywords.Xor = forms.Binary
rule_of keywords.Nand = forms.Binary
rule_of keywords.Nor = forms.Binary
rule_of keywords.Xnor = forms.Binary
rule_of keywords.Add = forms.Binary
rule_of keywords.Sub = forms.Binary
rule_of keywords.Mul = forms.Binary
rule_of keywords.Sll = forms.Binary
rule_of keywords.Srl = forms.Binary
rule_of keywords.Sra = forms.Binary
rule_of keywords.Eq = forms.Compared
rule_of keywords.Neq = forms.Compared
rule_of keywords.Ult = forms.Compared
rule_of keywords.Ulte = forms.Compared
rule_of keywords.Ugt = forms.Compared
rule_of keywords.Ugte = forms.Compared
rule_of keywords.Slt = forms.Compared
rule_of keywords.Slte = forms.Compared
rule_of keywords.Sgt = forms.Compared
rule_of keywords.Sgte = forms.Compared
rule_of keywords.Iff = forms.Boolean
rule_of keywords.Implies = forms.Boolean
rule_of keywords.Concat = forms.Joined
rule_of keywords.Slice = forms.Sliced
rule_of keywords.Uext = forms.Extended
rule_of keywords.Sext = forms.Extended
rule_of keywords.Ite = forms.Chosen
rule_of keywords.Init = forms.Init
rule_of keywords.Next = forms.Next
rule_of keywords.Output = forms.Output
rule_of keywords.Bad = forms.Bad

-- what a line of the form is for later lines
abbrev pub role_of : FormRule → Role
role_of forms.Sort = roles.Sort
role_of forms.State = roles.State
role_of forms.Init = roles.NoValue
role_of forms.Next = roles.NoValue
role_of forms.Output = roles.NoValue
role_of forms.Bad = roles.NoValue
role_of other = roles.Value

-- the width that a line gives its id
abbrev pub width_given : FormRule → Measures → ℕ
width_given forms.Sort m = m.second
width_given other m = m.first

-- the lines of single forms
abbrev pub is_sort : FormRule → Bool
is_sort forms.Sort = true
is_sort other = false

-- a line of an input
abbrev pub is_input : FormRule → Bool
is_input forms.Input = true
is_input other = false

-- a line of a state
abbrev pub is_state : FormRule → Bool
is_state forms.State = true
is_state other = false

-- a line of a state's first value
abbrev pub is_init : FormRule → Bool
is_init forms.Init = true
is_init other = false

-- a line of a state's next value
abbrev pub is_next : FormRule → Bool
is_next forms.Next = true
is_next other = false

-- a line of an output
abbrev pub is_output : FormRule → Bool
is_output forms.Output = true
is_output other = false

-- a line of a bad state
abbrev pub is_bad : FormRule → Bool
is_bad forms.Bad = true
is_bad other = false

-- the widths and numbers of a line, in the order of its tokens, belong together as the form asks
abbrev pub widths_agree : FormRule → Measures → Bool
widths_agree forms.Unary m = m.second == m.first
widths_agree forms.Binary m = (m.second == m.first) && (m.third == m.first)
widths_agree forms.Reduced m = m.first == 1
widths_agree forms.Compared m = (m.first == 1) && (m.second == m.third)
widths_agree forms.Boolean m = (m.first == 1) && ((m.second == 1) && (m.third == 1))
widths_agree forms.Joined m = m.first == m.second + m.third
widths_agree forms.Sliced m = nat_le m.fourth m.third && (m.first + m.fourth == m.third + 1)
widths_agree forms.Extended m = m.first == m.second + m.third
widths_agree forms.Chosen m = (m.second == 1) && ((m.third == m.first) && (m.fourth == m.first))
widths_agree forms.Init m = (m.second == m.first) && (m.third == m.first)
widths_agree forms.Next m = (m.second == m.first) && (m.third == m.first)
widths_agree forms.Bad m = m.first == 1
widths_agree other m = true

-- a sort has 1 to 128 bits, and the upper bound of a slice is below its operand's width
abbrev pub bounds_fit : FormRule → Measures → Bool
bounds_fit forms.Sort m = nat_le 1 m.second && nat_le m.second 128
bounds_fit forms.Sliced m = nat_lt m.third m.second
bounds_fit other m = true
