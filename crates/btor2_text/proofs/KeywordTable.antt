-- Each keyword stands in the table, and no two have the same bytes.
use Rattle.std.proofs.Common.{◌≡◌, ℕ, List, Option, Some, refl, sym, ap, ◌∙◌, lit<}
use Rattle.std.specs.List.{find}
use Rattle.std.specs.Prelude.{bytes_eq, Contains}
use Rattle.btor2_text.specs.Forms.{keyword_text}
use Rattle.btor2_text.specs.declared.keyword.TheConstants.{KEYWORDS}
use Rattle.btor2_text.specs.declared.keyword.Keyword.{Keyword}
use Rattle.btor2_text.specs.declared.keyword.Keyword.TheVariants as keywords

-- the place of each keyword
pub stands : (keyword : Keyword) → Contains KEYWORDS keyword
stands keywords.Sort = (0, lit< tt, refl)
stands keywords.Input = (1, lit< tt, refl)
stands keywords.State = (2, lit< tt, refl)
stands keywords.Zero = (3, lit< tt, refl)
stands keywords.One = (4, lit< tt, refl)
stands keywords.Ones = (5, lit< tt, refl)
stands keywords.Const = (6, lit< tt, refl)
stands keywords.Constd = (7, lit< tt, refl)
stands keywords.Consth = (8, lit< tt, refl)
stands keywords.Not = (9, lit< tt, refl)
stands keywords.Neg = (10, lit< tt, refl)
stands keywords.Inc = (11, lit< tt, refl)
stands keywords.Dec = (12, lit< tt, refl)
stands keywords.Redand = (13, lit< tt, refl)
stands keywords.Redor = (14, lit< tt, refl)
stands keywords.Redxor = (15, lit< tt, refl)
stands keywords.And = (16, lit< tt, refl)
stands keywords.Or = (17, lit< tt, refl)
stands keywords.Xor = (18, lit< tt, refl)
stands keywords.Nand = (19, lit< tt, refl)
stands keywords.Nor = (20, lit< tt, refl)
stands keywords.Xnor = (21, lit< tt, refl)
stands keywords.Add = (22, lit< tt, refl)
stands keywords.Sub = (23, lit< tt, refl)
stands keywords.Mul = (24, lit< tt, refl)
stands keywords.Sll = (25, lit< tt, refl)
stands keywords.Srl = (26, lit< tt, refl)
stands keywords.Sra = (27, lit< tt, refl)
stands keywords.Eq = (28, lit< tt, refl)
stands keywords.Neq = (29, lit< tt, refl)
stands keywords.Ult = (30, lit< tt, refl)
stands keywords.Ulte = (31, lit< tt, refl)
stands keywords.Ugt = (32, lit< tt, refl)
stands keywords.Ugte = (33, lit< tt, refl)
stands keywords.Slt = (34, lit< tt, refl)
stands keywords.Slte = (35, lit< tt, refl)
stands keywords.Sgt = (36, lit< tt, refl)
stands keywords.Sgte = (37, lit< tt, refl)
stands keywords.Iff = (38, lit< tt, refl)
stands keywords.Implies = (39, lit< tt, refl)
stands keywords.Concat = (40, lit< tt, refl)
stands keywords.Slice = (41, lit< tt, refl)
stands keywords.Uext = (42, lit< tt, refl)
stands keywords.Sext = (43, lit< tt, refl)
stands keywords.Ite = (44, lit< tt, refl)
stands keywords.Init = (45, lit< tt, refl)
stands keywords.Next = (46, lit< tt, refl)
stands keywords.Output = (47, lit< tt, refl)
stands keywords.Bad = (48, lit< tt, refl)

-- the keyword that a word is, if it is one
pub keyword_at : List ℕ → Option Keyword
keyword_at bytes = find (λ keyword. bytes_eq (keyword_text keyword) bytes) KEYWORDS

pub keyword_at-keyword_text : (keyword : Keyword) → keyword_at (keyword_text keyword) ≡ Some keyword
unfolding keyword_at
keyword_at-keyword_text keywords.Sort = refl
keyword_at-keyword_text keywords.Input = refl
keyword_at-keyword_text keywords.State = refl
keyword_at-keyword_text keywords.Zero = refl
keyword_at-keyword_text keywords.One = refl
keyword_at-keyword_text keywords.Ones = refl
keyword_at-keyword_text keywords.Const = refl
keyword_at-keyword_text keywords.Constd = refl
keyword_at-keyword_text keywords.Consth = refl
keyword_at-keyword_text keywords.Not = refl
keyword_at-keyword_text keywords.Neg = refl
keyword_at-keyword_text keywords.Inc = refl
keyword_at-keyword_text keywords.Dec = refl
keyword_at-keyword_text keywords.Redand = refl
keyword_at-keyword_text keywords.Redor = refl
keyword_at-keyword_text keywords.Redxor = refl
keyword_at-keyword_text keywords.And = refl
keyword_at-keyword_text keywords.Or = refl
keyword_at-keyword_text keywords.Xor = refl
keyword_at-keyword_text keywords.Nand = refl
keyword_at-keyword_text keywords.Nor = refl
keyword_at-keyword_text keywords.Xnor = refl
keyword_at-keyword_text keywords.Add = refl
keyword_at-keyword_text keywords.Sub = refl
keyword_at-keyword_text keywords.Mul = refl
keyword_at-keyword_text keywords.Sll = refl
keyword_at-keyword_text keywords.Srl = refl
keyword_at-keyword_text keywords.Sra = refl
keyword_at-keyword_text keywords.Eq = refl
keyword_at-keyword_text keywords.Neq = refl
keyword_at-keyword_text keywords.Ult = refl
keyword_at-keyword_text keywords.Ulte = refl
keyword_at-keyword_text keywords.Ugt = refl
keyword_at-keyword_text keywords.Ugte = refl
keyword_at-keyword_text keywords.Slt = refl
keyword_at-keyword_text keywords.Slte = refl
keyword_at-keyword_text keywords.Sgt = refl
keyword_at-keyword_text keywords.Sgte = refl
keyword_at-keyword_text keywords.Iff = refl
keyword_at-keyword_text keywords.Implies = refl
keyword_at-keyword_text keywords.Concat = refl
keyword_at-keyword_text keywords.Slice = refl
keyword_at-keyword_text keywords.Uext = refl
keyword_at-keyword_text keywords.Sext = refl
keyword_at-keyword_text keywords.Ite = refl
keyword_at-keyword_text keywords.Init = refl
keyword_at-keyword_text keywords.Next = refl
keyword_at-keyword_text keywords.Output = refl
keyword_at-keyword_text keywords.Bad = refl

-- no two keywords have the same bytes
pub same_keyword : (a b : Keyword) → keyword_text a ≡ keyword_text b → a ≡ b
same_keyword a b same =
    let e : Some a ≡ Some b = sym (keyword_at-keyword_text a) ∙ ap keyword_at same ∙ keyword_at-keyword_text b in cc
