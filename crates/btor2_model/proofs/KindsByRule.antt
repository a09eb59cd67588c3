-- The arguments of a line that has no fault, by the rule of its form.
use Rattle.std.proofs.Common.{◌≡◌, List, [], ◌∷◌, refl}
use Rattle.btor2_text.specs.Forms.{kinds_of}
use Rattle.btor2_text.specs.declared.keyword.Keyword.{Keyword}
use Rattle.btor2_text.specs.declared.keyword.Keyword.TheVariants as keywords
use Rattle.btor2_text.specs.declared.kind.ArgumentKind.{ArgumentKind}
use Rattle.btor2_text.specs.declared.kind.ArgumentKind.TheVariants as kinds
use Rattle.btor2_text.specs.declared.kind.Base.{Base}
use Rattle.btor2_model.specs.Rules.{rule_of}
use Rattle.btor2_model.specs.Run.{base_of}
use Rattle.btor2_model.specs.declared.rule.FormRule.{FormRule}
use Rattle.btor2_model.specs.declared.rule.FormRule.TheVariants as forms

-- the kinds of a rule's arguments
abbrev pub kinds_by : FormRule → List ArgumentKind
kinds_by forms.Sort = kinds.Bitvec ∷ kinds.Number ∷ []
kinds_by forms.Input = kinds.Sort ∷ []
kinds_by forms.State = kinds.Sort ∷ []
kinds_by forms.Constant = kinds.Sort ∷ []
kinds_by (forms.Numeral base) = kinds.Sort ∷ (kinds.Numeral base) ∷ []
kinds_by forms.Unary = kinds.Sort ∷ kinds.Value ∷ []
kinds_by forms.Reduced = kinds.Sort ∷ kinds.Value ∷ []
kinds_by forms.Binary = kinds.Sort ∷ kinds.Value ∷ kinds.Value ∷ []
kinds_by forms.Compared = kinds.Sort ∷ kinds.Value ∷ kinds.Value ∷ []
kinds_by forms.Boolean = kinds.Sort ∷ kinds.Value ∷ kinds.Value ∷ []
kinds_by forms.Joined = kinds.Sort ∷ kinds.Value ∷ kinds.Value ∷ []
kinds_by forms.Sliced = kinds.Sort ∷ kinds.Value ∷ kinds.Number ∷ kinds.Number ∷ []
kinds_by forms.Extended = kinds.Sort ∷ kinds.Value ∷ kinds.Number ∷ []
kinds_by forms.Chosen = kinds.Sort ∷ kinds.Value ∷ kinds.Value ∷ kinds.Value ∷ []
kinds_by forms.Init = kinds.Sort ∷ kinds.Value ∷ kinds.Value ∷ []
kinds_by forms.Next = kinds.Sort ∷ kinds.Value ∷ kinds.Value ∷ []
kinds_by forms.Output = kinds.Value ∷ []
kinds_by forms.Bad = kinds.Value ∷ []

-- all forms of a rule have them
pub kinds-by : (keyword : Keyword) → kinds_of keyword ≡ kinds_by (rule_of keyword)
kinds-by keywords.Sort = refl
kinds-by keywords.Input = refl
kinds-by keywords.State = refl
kinds-by keywords.Zero = refl
kinds-by keywords.One = refl
kinds-by keywords.Ones = refl
kinds-by keywords.Const = refl
kinds-by keywords.Constd = refl
kinds-by keywords.Consth = refl
kinds-by keywords.Not = refl
kinds-by keywords.Neg = refl
kinds-by keywords.Inc = refl
kinds-by keywords.Dec = refl
kinds-by keywords.Redand = refl
kinds-by keywords.Redor = refl
kinds-by keywords.Redxor = refl
kinds-by keywords.And = refl
kinds-by keywords.Or = refl
kinds-by keywords.Xor = refl
kinds-by keywords.Nand = refl
kinds-by keywords.Nor = refl
kinds-by keywords.Xnor = refl
kinds-by keywords.Add = refl
kinds-by keywords.Sub = refl
kinds-by keywords.Mul = refl
kinds-by keywords.Sll = refl
kinds-by keywords.Srl = refl
kinds-by keywords.Sra = refl
kinds-by keywords.Eq = refl
kinds-by keywords.Neq = refl
kinds-by keywords.Ult = refl
kinds-by keywords.Ulte = refl
kinds-by keywords.Ugt = refl
kinds-by keywords.Ugte = refl
kinds-by keywords.Slt = refl
kinds-by keywords.Slte = refl
kinds-by keywords.Sgt = refl
kinds-by keywords.Sgte = refl
kinds-by keywords.Iff = refl
kinds-by keywords.Implies = refl
kinds-by keywords.Concat = refl
kinds-by keywords.Slice = refl
kinds-by keywords.Uext = refl
kinds-by keywords.Sext = refl
kinds-by keywords.Ite = refl
kinds-by keywords.Init = refl
kinds-by keywords.Next = refl
kinds-by keywords.Output = refl
kinds-by keywords.Bad = refl

-- the base is that of the rule, where it is one of a numeral
abbrev pub IsBaseOf : FormRule → Base → Type 0
IsBaseOf (forms.Numeral base) other = other ≡ base
IsBaseOf rule other = Unit {0}

pub base-by : (keyword : Keyword) → IsBaseOf (rule_of keyword) (base_of keyword)
base-by keywords.Sort = tt
base-by keywords.Input = tt
base-by keywords.State = tt
base-by keywords.Zero = tt
base-by keywords.One = tt
base-by keywords.Ones = tt
base-by keywords.Const = refl
base-by keywords.Constd = refl
base-by keywords.Consth = refl
base-by keywords.Not = tt
base-by keywords.Neg = tt
base-by keywords.Inc = tt
base-by keywords.Dec = tt
base-by keywords.Redand = tt
base-by keywords.Redor = tt
base-by keywords.Redxor = tt
base-by keywords.And = tt
base-by keywords.Or = tt
base-by keywords.Xor = tt
base-by keywords.Nand = tt
base-by keywords.Nor = tt
base-by keywords.Xnor = tt
base-by keywords.Add = tt
base-by keywords.Sub = tt
base-by keywords.Mul = tt
base-by keywords.Sll = tt
base-by keywords.Srl = tt
base-by keywords.Sra = tt
base-by keywords.Eq = tt
base-by keywords.Neq = tt
base-by keywords.Ult = tt
base-by keywords.Ulte = tt
base-by keywords.Ugt = tt
base-by keywords.Ugte = tt
base-by keywords.Slt = tt
base-by keywords.Slte = tt
base-by keywords.Sgt = tt
base-by keywords.Sgte = tt
base-by keywords.Iff = tt
base-by keywords.Implies = tt
base-by keywords.Concat = tt
base-by keywords.Slice = tt
base-by keywords.Uext = tt
base-by keywords.Sext = tt
base-by keywords.Ite = tt
base-by keywords.Init = tt
base-by keywords.Next = tt
base-by keywords.Output = tt
base-by keywords.Bad = tt
