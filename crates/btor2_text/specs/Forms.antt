-- The forms of lines: each keyword with its bytes, and what the tokens after it are. BTOR2 (Niemetz et al.,
-- "Btor2, BtorMC and Boolector 3.0", CAV 2018), without arrays, division and remainder, overflow operators,
-- rotations, and the constraints on traces.
use Rattle.std.specs.Prelude.{ℕ, Bool, true, false, List, [], ◌∷◌, codes}
use Rattle.btor2_text.specs.declared.kind.Base.{Base}
use Rattle.btor2_text.specs.declared.kind.Base.TheVariants as bases
use Rattle.btor2_text.specs.declared.kind.ArgumentKind.{ArgumentKind}
use Rattle.btor2_text.specs.declared.kind.ArgumentKind.TheVariants as kinds
use Rattle.btor2_text.specs.declared.keyword.Keyword.{Keyword}
use Rattle.btor2_text.specs.declared.keyword.Keyword.TheVariants as keywords

-- the bytes of a keyword
abbrev pub keyword_text : Keyword → List ℕ
keyword_text keywords.Sort = codes "sort"
keyword_text keywords.Input = codes "input"
keyword_text keywords.State = codes "state"
keyword_text keywords.Zero = codes "zero"
keyword_text keywords.One = codes "one"
keyword_text keywords.Ones = codes "ones"
keyword_text keywords.Const = codes "const"
keyword_text keywords.Constd = codes "constd"
keyword_text keywords.Consth = codes "consth"
keyword_text keywords.Not = codes "not"
keyword_text keywords.Neg = codes "neg"
keyword_text keywords.Inc = codes "inc"
keyword_text keywords.Dec = codes "dec"
keyword_text keywords.Redand = codes "redand"
keyword_text keywords.Redor = codes "redor"
keyword_text keywords.Redxor = codes "redxor"
keyword_text keywords.And = codes "and"
keyword_text keywords.Or = codes "or"
keyword_text keywords.Xor = codes "xor"
keyword_text keywords.Nand = codes "nand"
keyword_text keywords.Nor = codes "nor"
keyword_text keywords.Xnor = codes "xnor"
keyword_text keywords.Add = codes "add"
keyword_text keywords.Sub = codes "sub"
keyword_text keywords.Mul = codes "mul"
keyword_text keywords.Sll = codes "sll"
keyword_text keywords.Srl = codes "srl"
keyword_text keywords.Sra = codes "sra"
keyword_text keywords.Eq = codes "eq"
keyword_text keywords.Neq = codes "neq"
keyword_text keywords.Ult = codes "ult"
keyword_text keywords.Ulte = codes "ulte"
keyword_text keywords.Ugt = codes "ugt"
keyword_text keywords.Ugte = codes "ugte"
keyword_text keywords.Slt = codes "slt"
keyword_text keywords.Slte = codes "slte"
keyword_text keywords.Sgt = codes "sgt"
keyword_text keywords.Sgte = codes "sgte"
keyword_text keywords.Iff = codes "iff"
keyword_text keywords.Implies = codes "implies"
keyword_text keywords.Concat = codes "concat"
keyword_text keywords.Slice = codes "slice"
keyword_text keywords.Uext = codes "uext"
keyword_text keywords.Sext = codes "sext"
keyword_text keywords.Ite = codes "ite"
keyword_text keywords.Init = codes "init"
keyword_text keywords.Next = codes "next"
keyword_text keywords.Output = codes "output"
keyword_text keywords.Bad = codes "bad"

-- the kinds of the tokens after a keyword, in order
abbrev pub kinds_of : Keyword → List ArgumentKind
kinds_of keywords.Sort = kinds.Bitvec ∷ kinds.Number ∷ []
kinds_of keywords.Input = kinds.Sort ∷ []
kinds_of keywords.State = kinds.Sort ∷ []
kinds_of keywords.Zero = kinds.Sort ∷ []
kinds_of keywords.One = kinds.Sort ∷ []
kinds_of keywords.Ones = kinds.Sort ∷ []
kinds_of keywords.Const = kinds.Sort ∷ (kinds.Numeral bases.Binary) ∷ []
kinds_of keywords.Constd = kinds.Sort ∷ (kinds.Numeral bases.Decimal) ∷ []
kinds_of keywords.Consth = kinds.Sort ∷ (kinds.Numeral bases.Hexadecimal) ∷ []
kinds_of keywords.Not = kinds.Sort ∷ kinds.Value ∷ []
kinds_of keywords.Neg = kinds.Sort ∷ kinds.Value ∷ []
kinds_of keywords.Inc = kinds.Sort ∷ kinds.Value ∷ []
kinds_of keywords.Dec = kinds.Sort ∷ kinds.Value ∷ []
kinds_of keywords.Redand = kinds.Sort ∷ kinds.Value ∷ []
kinds_of keywords.Redor = kinds.Sort ∷ kinds.Value ∷ []
kinds_of keywords.Redxor = kinds.Sort ∷ kinds.Value ∷ []
kinds_of keywords.And = kinds.Sort ∷ kinds.Value ∷ kinds.Value ∷ []
kinds_of keywords.Or = kinds.Sort ∷ kinds.Value ∷ kinds.Value ∷ []
kinds_of keywords.Xor = kinds.Sort ∷ kinds.Value ∷ kinds.Value ∷ []
kinds_of keywords.Nand = kinds.Sort ∷ kinds.Value ∷ kinds.Value ∷ []
kinds_of keywords.Nor = kinds.Sort ∷ kinds.Value ∷ kinds.Value ∷ []
kinds_of keywords.Xnor = kinds.Sort ∷ kinds.Value ∷ kinds.Value ∷ []
kinds_of keywords.Add = kinds.Sort ∷ kinds.Value ∷ kinds.Value ∷ []
kinds_of keywords.Sub = kinds.Sort ∷ kinds.Value ∷ kinds.Value ∷ []
kinds_of keywords.Mul = kinds.Sort ∷ kinds.Value ∷ kinds.Value ∷ []
kinds_of keywords.Sll = kinds.Sort ∷ kinds.Value ∷ kinds.Value ∷ []
kinds_of keywords.Srl = kinds.Sort ∷ kinds.Value ∷ kinds.Value ∷ []
kinds_of keywords.Sra = kinds.Sort ∷ kinds.Value ∷ kinds.Value ∷ []
kinds_of keywords.Eq = kinds.Sort ∷ kinds.Value ∷ kinds.Value ∷ []
kinds_of keywords.Neq = kinds.Sort ∷ kinds.Value ∷ kinds.Value ∷ []
kinds_of keywords.Ult = kinds.Sort ∷ kinds.Value ∷ kinds.Value ∷ []
kinds_of keywords.Ulte = kinds.Sort ∷ kinds.Value ∷ kinds.Value ∷ []
kinds_of keywords.Ugt = kinds.Sort ∷ kinds.Value ∷ kinds.Value ∷ []
kinds_of keywords.Ugte = kinds.Sort ∷ kinds.Value ∷ kinds.Value ∷ []
kinds_of keywords.Slt = kinds.Sort ∷ kinds.Value ∷ kinds.Value ∷ []
kinds_of keywords.Slte = kinds.Sort ∷ kinds.Value ∷ kinds.Value ∷ []
kinds_of keywords.Sgt = kinds.Sort ∷ kinds.Value ∷ kinds.Value ∷ []
kinds_of keywords.Sgte = kinds.Sort ∷ kinds.Value ∷ kinds.Value ∷ []
kinds_of keywords.Iff = kinds.Sort ∷ kinds.Value ∷ kinds.Value ∷ []
kinds_of keywords.Implies = kinds.Sort ∷ kinds.Value ∷ kinds.Value ∷ []
kinds_of keywords.Concat = kinds.Sort ∷ kinds.Value ∷ kinds.Value ∷ []
kinds_of keywords.Slice = kinds.Sort ∷ kinds.Value ∷ kinds.Number ∷ kinds.Number ∷ []
kinds_of keywords.Uext = kinds.Sort ∷ kinds.Value ∷ kinds.Number ∷ []
kinds_of keywords.Sext = kinds.Sort ∷ kinds.Value ∷ kinds.Number ∷ []
kinds_of keywords.Ite = kinds.Sort ∷ kinds.Value ∷ kinds.Value ∷ kinds.Value ∷ []
kinds_of keywords.Init = kinds.Sort ∷ kinds.Value ∷ kinds.Value ∷ []
kinds_of keywords.Next = kinds.Sort ∷ kinds.Value ∷ kinds.Value ∷ []
kinds_of keywords.Output = kinds.Value ∷ []
kinds_of keywords.Bad = kinds.Value ∷ []

-- the keywords that no form has
abbrev pub left_out : List (List ℕ)
left_out =
    codes "udiv" ∷
    codes "sdiv" ∷
    codes "urem" ∷
    codes "srem" ∷
    codes "smod" ∷
    codes "rol" ∷
    codes "ror" ∷
    codes "read" ∷
    codes "write" ∷
    codes "constraint" ∷
    codes "fair" ∷
    codes "justice" ∷
    codes "uaddo" ∷
    codes "saddo" ∷
    codes "usubo" ∷
    codes "ssubo" ∷
    codes "umulo" ∷
    codes "smulo" ∷
    codes "sdivo" ∷ []

-- how many digits a base has
abbrev pub radix_of : Base → ℕ
radix_of bases.Binary = 2
radix_of bases.Decimal = 10
radix_of bases.Hexadecimal = 16

-- a minus sign before a token of this kind belongs to a form that is left out: a negated operand, or a negative numeral
abbrev pub may_be_negative : ArgumentKind → Bool
may_be_negative kinds.Bitvec = false
may_be_negative kinds.Number = false
may_be_negative kinds.Sort = false
may_be_negative kinds.Value = true
may_be_negative (kinds.Numeral base) = true
