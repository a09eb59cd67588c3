-- The run of small texts, computed.
use Rattle.std.proofs.Common.{◌≡◌, ℕ, Bool, true, false, nat_eq, if◌then◌else◌, List, [], ◌∷◌, None, codes, refl}
use Rattle.kw_bits.specs.BitVector.{BitVector}
use Rattle.kw_bits.specs.Operators.{not, neg, add, sub, mul, redand, redor, redxor, and, or, xor, sll, srl, signed, residue, sra, flag, eq_bits, ult, ulte, slt, slte, concat, slice, zext, sext}
use Rattle.btor2_text.specs.declared.keyword.Keyword.{Keyword}
use Rattle.btor2_text.specs.declared.keyword.Keyword.TheVariants as keywords
use Rattle.btor2_text.specs.declared.line.Argument.{Argument}
use Rattle.btor2_text.specs.declared.line.Argument.TheVariants as arguments
use Rattle.btor2_text.specs.declared.line.Line.{Line}
use Rattle.one_rule.specs.declared.rows.Row.{Row}
use Rattle.btor2_model.specs.Acceptance.{first_fault}
use Rattle.btor2_model.specs.Run.{operator_value, run_of}
use Rattle.btor2_model.specs.Scope.{no_lines, behind_all}

line : ℕ → Keyword → List Argument → Line
line id keyword given = record { id = id; keyword = keyword; arguments = given; symbol = None; number = id }

row : List BitVector → List Bool → Row
row regs fired = record { regs = regs; fired = fired }

bits : ℕ → ℕ → BitVector
bits width number = record { width = width; number = number }

counter : List Line
counter =
    line 1 keywords.Sort (arguments.Bitvec ∷ arguments.Number 8 ∷ [])
    ∷ line 2 keywords.Zero (arguments.Id 1 ∷ [])
    ∷ line 3 keywords.State (arguments.Id 1 ∷ [])
    ∷ line 4 keywords.Init (arguments.Id 1 ∷ arguments.Id 3 ∷ arguments.Id 2 ∷ [])
    ∷ line 5 keywords.One (arguments.Id 1 ∷ [])
    ∷ line 6 keywords.Add (arguments.Id 1 ∷ arguments.Id 3 ∷ arguments.Id 5 ∷ [])
    ∷ line 7 keywords.Next (arguments.Id 1 ∷ arguments.Id 3 ∷ arguments.Id 6 ∷ [])
    ∷ []

counter_is_accepted : first_fault counter ≡ None
unfolding counter line
counter_is_accepted = refl

counter_counts : run_of counter (λ _. []) 2 ≡ row (bits 8 0 ∷ []) [] ∷ row (bits 8 1 ∷ []) [] ∷ row (bits 8 2 ∷ []) [] ∷ []
unfolding counter line row bits add
counter_counts = refl

-- an input of 4 bits, a state of 8 that takes its high half and the input below it, and whether the input is below 5
shifter : List Line
shifter =
    line 1 keywords.Sort (arguments.Bitvec ∷ arguments.Number 1 ∷ [])
    ∷ line 2 keywords.Sort (arguments.Bitvec ∷ arguments.Number 4 ∷ [])
    ∷ line 3 keywords.Sort (arguments.Bitvec ∷ arguments.Number 8 ∷ [])
    ∷ line 4 keywords.Input (arguments.Id 2 ∷ [])
    ∷ line 5 keywords.State (arguments.Id 3 ∷ [])
    ∷ line 6 keywords.Slice (arguments.Id 2 ∷ arguments.Id 5 ∷ arguments.Number 3 ∷ arguments.Number 0 ∷ [])
    ∷ line 7 keywords.Concat (arguments.Id 3 ∷ arguments.Id 6 ∷ arguments.Id 4 ∷ [])
    ∷ line 8 keywords.Next (arguments.Id 3 ∷ arguments.Id 5 ∷ arguments.Id 7 ∷ [])
    ∷ line 9 keywords.Constd (arguments.Id 2 ∷ arguments.Numeral (53 ∷ []) ∷ [])
    ∷ line 10 keywords.Ult (arguments.Id 1 ∷ arguments.Id 4 ∷ arguments.Id 9 ∷ [])
    ∷ line 11 keywords.Output (arguments.Id 10 ∷ [])
    ∷ line 12 keywords.Output (arguments.Id 5 ∷ [])
    ∷ []

given : ℕ → List BitVector
given cycle = if nat_eq cycle 1 then bits 4 3 ∷ [] else (bits 4 9 ∷ [])

shifter_shifts : run_of shifter given 2 ≡ row (bits 8 0 ∷ []) (false ∷ []) ∷ row (bits 8 3 ∷ []) (true ∷ []) ∷ row (bits 8 57 ∷ []) (false ∷ []) ∷ []
unfolding shifter line row bits given slice concat ult flag
shifter_shifts = refl

-- sorts named by their widths
sorts : List Line
sorts =
    line 1 keywords.Sort (arguments.Bitvec ∷ arguments.Number 1 ∷ [])
    ∷ line 2 keywords.Sort (arguments.Bitvec ∷ arguments.Number 2 ∷ [])
    ∷ line 4 keywords.Sort (arguments.Bitvec ∷ arguments.Number 4 ∷ [])
    ∷ line 8 keywords.Sort (arguments.Bitvec ∷ arguments.Number 8 ∷ [])
    ∷ []

-- 9 and 3 of four bits, and 0 and 1 of one
operands : ℕ → BitVector
operands id = if nat_eq id 10 then bits 4 9 else (if nat_eq id 11 then bits 4 3 else (if nat_eq id 12 then bits 1 0 else bits 1 1))

-- the number that an operator gives of these
computed : Keyword → List Argument → ℕ
computed keyword given = (operator_value (behind_all no_lines sorts) operands keyword given).number

unary_operators : computed keywords.Not (arguments.Id 4 ∷ arguments.Id 10 ∷ [])
    ∷ computed keywords.Neg (arguments.Id 4 ∷ arguments.Id 10 ∷ [])
    ∷ computed keywords.Inc (arguments.Id 4 ∷ arguments.Id 10 ∷ [])
    ∷ computed keywords.Dec (arguments.Id 4 ∷ arguments.Id 10 ∷ [])
    ∷ computed keywords.Redand (arguments.Id 1 ∷ arguments.Id 10 ∷ [])
    ∷ computed keywords.Redor (arguments.Id 1 ∷ arguments.Id 10 ∷ [])
    ∷ computed keywords.Redxor (arguments.Id 1 ∷ arguments.Id 10 ∷ [])
    ∷ []
    ≡ 6 ∷ 7 ∷ 10 ∷ 8 ∷ 0 ∷ 1 ∷ 0 ∷ []
unfolding computed operands sorts line bits not neg add sub redand redor redxor flag lib.Count.ones
unary_operators = refl

binary_operators : computed keywords.And (arguments.Id 4 ∷ arguments.Id 10 ∷ arguments.Id 11 ∷ [])
    ∷ computed keywords.Or (arguments.Id 4 ∷ arguments.Id 10 ∷ arguments.Id 11 ∷ [])
    ∷ computed keywords.Xor (arguments.Id 4 ∷ arguments.Id 10 ∷ arguments.Id 11 ∷ [])
    ∷ computed keywords.Nand (arguments.Id 4 ∷ arguments.Id 10 ∷ arguments.Id 11 ∷ [])
    ∷ computed keywords.Nor (arguments.Id 4 ∷ arguments.Id 10 ∷ arguments.Id 11 ∷ [])
    ∷ computed keywords.Xnor (arguments.Id 4 ∷ arguments.Id 10 ∷ arguments.Id 11 ∷ [])
    ∷ computed keywords.Add (arguments.Id 4 ∷ arguments.Id 10 ∷ arguments.Id 11 ∷ [])
    ∷ computed keywords.Sub (arguments.Id 4 ∷ arguments.Id 10 ∷ arguments.Id 11 ∷ [])
    ∷ computed keywords.Mul (arguments.Id 4 ∷ arguments.Id 10 ∷ arguments.Id 11 ∷ [])
    ∷ computed keywords.Sll (arguments.Id 4 ∷ arguments.Id 10 ∷ arguments.Id 11 ∷ [])
    ∷ computed keywords.Srl (arguments.Id 4 ∷ arguments.Id 10 ∷ arguments.Id 11 ∷ [])
    ∷ computed keywords.Sra (arguments.Id 4 ∷ arguments.Id 10 ∷ arguments.Id 11 ∷ [])
    ∷ []
    ≡ 1 ∷ 11 ∷ 10 ∷ 14 ∷ 4 ∷ 5 ∷ 12 ∷ 6 ∷ 11 ∷ 8 ∷ 1 ∷ 15 ∷ []
unfolding computed operands sorts line bits not and or xor add sub mul sll srl sra signed residue
binary_operators = refl

comparisons : computed keywords.Eq (arguments.Id 1 ∷ arguments.Id 10 ∷ arguments.Id 11 ∷ [])
    ∷ computed keywords.Neq (arguments.Id 1 ∷ arguments.Id 10 ∷ arguments.Id 11 ∷ [])
    ∷ computed keywords.Ult (arguments.Id 1 ∷ arguments.Id 10 ∷ arguments.Id 11 ∷ [])
    ∷ computed keywords.Ulte (arguments.Id 1 ∷ arguments.Id 10 ∷ arguments.Id 11 ∷ [])
    ∷ computed keywords.Ugt (arguments.Id 1 ∷ arguments.Id 10 ∷ arguments.Id 11 ∷ [])
    ∷ computed keywords.Ugte (arguments.Id 1 ∷ arguments.Id 10 ∷ arguments.Id 11 ∷ [])
    ∷ computed keywords.Slt (arguments.Id 1 ∷ arguments.Id 10 ∷ arguments.Id 11 ∷ [])
    ∷ computed keywords.Slte (arguments.Id 1 ∷ arguments.Id 10 ∷ arguments.Id 11 ∷ [])
    ∷ computed keywords.Sgt (arguments.Id 1 ∷ arguments.Id 10 ∷ arguments.Id 11 ∷ [])
    ∷ computed keywords.Sgte (arguments.Id 1 ∷ arguments.Id 10 ∷ arguments.Id 11 ∷ [])
    ∷ computed keywords.Iff (arguments.Id 1 ∷ arguments.Id 12 ∷ arguments.Id 13 ∷ [])
    ∷ computed keywords.Implies (arguments.Id 1 ∷ arguments.Id 12 ∷ arguments.Id 13 ∷ [])
    ∷ computed keywords.Implies (arguments.Id 1 ∷ arguments.Id 13 ∷ arguments.Id 12 ∷ [])
    ∷ []
    ≡ 0 ∷ 1 ∷ 0 ∷ 0 ∷ 1 ∷ 1 ∷ 1 ∷ 1 ∷ 0 ∷ 0 ∷ 0 ∷ 1 ∷ 0 ∷ []
unfolding computed operands sorts line bits not or eq_bits ult ulte slt slte signed flag
comparisons = refl

other_operators : computed keywords.Concat (arguments.Id 8 ∷ arguments.Id 10 ∷ arguments.Id 11 ∷ [])
    ∷ computed keywords.Slice (arguments.Id 2 ∷ arguments.Id 10 ∷ arguments.Number 3 ∷ arguments.Number 2 ∷ [])
    ∷ computed keywords.Uext (arguments.Id 8 ∷ arguments.Id 10 ∷ arguments.Number 4 ∷ [])
    ∷ computed keywords.Sext (arguments.Id 8 ∷ arguments.Id 10 ∷ arguments.Number 4 ∷ [])
    ∷ computed keywords.Ite (arguments.Id 4 ∷ arguments.Id 13 ∷ arguments.Id 10 ∷ arguments.Id 11 ∷ [])
    ∷ computed keywords.Ite (arguments.Id 4 ∷ arguments.Id 12 ∷ arguments.Id 10 ∷ arguments.Id 11 ∷ [])
    ∷ computed keywords.Zero (arguments.Id 4 ∷ [])
    ∷ computed keywords.One (arguments.Id 4 ∷ [])
    ∷ computed keywords.Ones (arguments.Id 4 ∷ [])
    ∷ computed keywords.Const (arguments.Id 4 ∷ arguments.Numeral (codes "0101") ∷ [])
    ∷ computed keywords.Constd (arguments.Id 4 ∷ arguments.Numeral (codes "12") ∷ [])
    ∷ computed keywords.Consth (arguments.Id 4 ∷ arguments.Numeral (codes "f") ∷ [])
    ∷ []
    ≡ 147 ∷ 2 ∷ 9 ∷ 249 ∷ 9 ∷ 3 ∷ 0 ∷ 1 ∷ 15 ∷ 5 ∷ 12 ∷ 15 ∷ []
unfolding computed operands sorts line bits concat slice zext sext signed residue
other_operators = refl
