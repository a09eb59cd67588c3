-- What is read of a text line by line is one result.
use Rattle.std.proofs.Common.{◌≡◌, ℕ, List, [], ◌∷◌, ◌++◌, length, Option, Some, None, Ok, Err, refl, sym, ap, ◌∙◌, subst, arith, inl, inr, ⊎_elim}
use Rattle.std.specs.Option.{option_to_list}
use Rattle.std.proofs.lemmas.List.{append-nil, append_assoc}
use Rattle.kw_base.specs.declared.fault.Fault.{Fault}
use Rattle.kw_base.specs.declared.fault.Refusal.{Refusal}
use Rattle.kw_base.specs.declared.fault.Refusal.TheVariants as refusals
use Rattle.kw_base.specs.Fault.{IfFault, IsOkUnlessNoMemory, IsFaultUnlessNoMemory}
use Rattle.btor2_text.specs.Cut.{lines_of, number_after, tokens_of}
use Rattle.btor2_text.specs.inner.Flaws.{GivesLine, IsRefusal}
use Rattle.kw_bits.specs.declared.failure.Failure.{Failure}
use Rattle.kw_bits.specs.declared.failure.Failure.TheVariants as failures
use Rattle.btor2_text.specs.declared.reader.Unread.{Unread}
use Rattle.btor2_text.specs.declared.reader.Unread.TheVariants as unread
use Rattle.btor2_text.specs.Reading.{Gives, AreLines, IsFirstLineFault, AreLinesOf, IsFirstFaultOf}
use Rattle.btor2_text.specs.Forms.{kinds_of}
use Rattle.btor2_text.specs.Lines.{IsArgument, BeginWithArguments, IsLine, IsOutside}
use Rattle.btor2_text.specs.declared.keyword.Keyword.{Keyword}
use Rattle.btor2_text.specs.declared.kind.ArgumentKind.{ArgumentKind}
use Rattle.btor2_text.specs.declared.kind.ArgumentKind.TheVariants as kinds
use Rattle.btor2_text.specs.declared.line.Argument.{Argument}
use Rattle.btor2_text.specs.declared.line.Argument.TheVariants as arguments
use Rattle.btor2_text.specs.declared.line.Line.{Line}
use Rattle.btor2_text.proofs.FormsOfLines.{parts_of}
use Rattle.btor2_text.proofs.NotOutside.{line_not_outside}

-- the first texts give these lines, and others are left, numbered from here on
pub record ReadTo (all : List (List ℕ)) (lines : List Line) (number : ℕ) (left : List (List ℕ)) : Type 0 where
  pub forth : (others : List Line) → AreLines (number_after number) left others → AreLines 1 all (lines ++ others)
  pub fault : (fault : Fault) → IsFirstLineFault (number_after number) left fault → IsFirstLineFault 1 all fault

pub ReadTo-start : (all : List (List ℕ)) → ReadTo all [] 0 all
ReadTo-start all = record { forth = λ others are. are; fault = λ fault is. is }

pub ReadTo-next : (all : List (List ℕ)) (lines : List Line) (number : ℕ) (left : List (List ℕ)) → ReadTo all lines number left
    → (text : List ℕ) (texts : List (List ℕ)) → left ≡ text ∷ texts → (here : ℕ) → here ≡ number_after number → (read : Option Line) → Gives here (tokens_of text) (Ok read)
    → ReadTo all (lines ++ option_to_list read) here texts
ReadTo-next all lines number left to text texts splits here is_here read gives = record {
  forth = λ others are.
      let whole : AreLines here left (option_to_list read ++ others) = rw splits (read, others, refl, gives, are) in
      rw append_assoc (to.forth (option_to_list read ++ others) (rw is_here at whole));
  fault = λ fault is.
      let whole : IsFirstLineFault here left fault = rw splits (inr (read, gives, is)) in to.fault fault (rw is_here at whole);
}

pub ReadTo-fault : (all : List (List ℕ)) (lines : List Line) (number : ℕ) (left : List (List ℕ)) → ReadTo all lines number left
    → (text : List ℕ) (texts : List (List ℕ)) → left ≡ text ∷ texts → (fault : Fault) → Gives (number_after number) (tokens_of text) (Err fault) → IsFirstLineFault 1 all fault
ReadTo-fault all lines number left to text texts splits fault gives =
    let whole : IsFirstLineFault (number_after number) left fault = rw splits (inl gives) in to.fault fault whole

pub ReadTo-end : (all : List (List ℕ)) (lines : List Line) (number : ℕ) (left : List (List ℕ)) → ReadTo all lines number left → left ≡ [] → AreLines 1 all lines
ReadTo-end all lines number left to none =
    let whole : AreLines (number_after number) left [] = rw none refl in
    subst (λ found. AreLines 1 all found) (append-nil lines) (to.forth [] whole)

same_arguments : (kind : ArgumentKind) (token : List ℕ) (a b : Argument) → IsArgument kind token a → IsArgument kind token b → a ≡ b
same_arguments kinds.Bitvec token a b p q = p.1 ∙ sym q.1
same_arguments kinds.Number token a b p q = p.2 ∙ ap (λ n. arguments.Number n) (p.1.value ∙ sym q.1.value) ∙ sym q.2
same_arguments kinds.Sort token a b p q = p.2 ∙ ap (λ n. arguments.Id n) (p.1.value ∙ sym q.1.value) ∙ sym q.2
same_arguments kinds.Value token a b p q = p.2 ∙ ap (λ n. arguments.Id n) (p.1.value ∙ sym q.1.value) ∙ sym q.2
same_arguments (kinds.Numeral base) token a b p q = p.1 ∙ sym q.1

-- a form's tokens are one list of arguments
one_list : (kinds : List ArgumentKind) (tokens : List (List ℕ)) (a b : List Argument) → BeginWithArguments kinds tokens a → BeginWithArguments kinds tokens b → a ≡ b
one_list [] tokens a b p q = p ∙ sym q
one_list (kind ∷ kinds) [] a b p q = absurd p
one_list (kind ∷ kinds) (token ∷ tokens) a b p q =
    let first = same_arguments kind token p.0 q.0 p.3 q.3 in
    let others = one_list kinds tokens p.1 q.1 p.4 q.4 in
    p.2 ∙ ap (λ x. x ∷ p.1) first ∙ ap (λ xs. q.0 ∷ xs) others ∙ sym q.2

same_symbol : (a b : Option (List ℕ)) → option_to_list a ≡ option_to_list b → a ≡ b
same_symbol None None e = refl
same_symbol None (Some b) e = absurd (cc)
same_symbol (Some a) None e = absurd (cc)
same_symbol (Some a) (Some b) e = cc

same_lines : (a b : Line) → a.id ≡ b.id → a.keyword ≡ b.keyword → a.arguments ≡ b.arguments → a.symbol ≡ b.symbol → a.number ≡ b.number → a ≡ b
same_lines a b id keyword given symbol number =
    let with_id : ℕ → Line = λ x. record { id = x; keyword = a.keyword; arguments = a.arguments; symbol = a.symbol; number = a.number } in
    let with_keyword : Keyword → Line = λ x. record { id = b.id; keyword = x; arguments = a.arguments; symbol = a.symbol; number = a.number } in
    let with_arguments : List Argument → Line = λ x. record { id = b.id; keyword = b.keyword; arguments = x; symbol = a.symbol; number = a.number } in
    let with_symbol : Option (List ℕ) → Line = λ x. record { id = b.id; keyword = b.keyword; arguments = b.arguments; symbol = x; number = a.number } in
    let with_number : ℕ → Line = λ x. record { id = b.id; keyword = b.keyword; arguments = b.arguments; symbol = b.symbol; number = x } in
    ap with_id id ∙ ap with_keyword keyword ∙ ap with_arguments given ∙ ap with_symbol symbol ∙ ap with_number number

-- a row of tokens is one line
one_line : (number : ℕ) (tokens : List (List ℕ)) (a b : Line) → IsLine number tokens a → IsLine number tokens b → a ≡ b
one_line number tokens a b p q =
    let other = parts_of number p.id_token a.keyword p.others b (subst (λ ts. IsLine number ts b) p.parts q) in
    same_lines a b
    (p.id.value ∙ sym other.id.value)
    (sym other.same)
    (one_list (kinds_of a.keyword) p.others a.arguments b.arguments p.arguments other.arguments)
    (same_symbol a.symbol b.symbol (sym p.symbol ∙ other.symbol))
    (p.number_is ∙ sym q.number_is)

-- no tokens are no line, and no fault
no_tokens_no_line : (number : ℕ) (tokens : List (List ℕ)) (line : Line) → tokens ≡ [] → ¬ IsLine number tokens line
no_tokens_no_line number tokens line none = λ is. let parts = is.parts in cc

no_tokens_inside : (tokens : List (List ℕ)) → tokens ≡ [] → ¬ IsOutside tokens
no_tokens_inside tokens none = λ outside. ⊎_elim (λ left. let parts = left.parts in cc) (λ negated. let parts = negated.parts in cc) outside

no_tokens_no_fault : (number : ℕ) (tokens : List (List ℕ)) (fault : Fault) → tokens ≡ [] → ¬ Gives number tokens (Err fault)
no_tokens_no_fault number tokens fault none = λ gives.
    ⊎_elim (λ outside. no_tokens_inside tokens none outside.0) (λ wrong. omega (arith, wrong.0.some_token, ap length none)) gives

line_no_fault : (number : ℕ) (tokens : List (List ℕ)) (line : Line) (fault : Fault) → IsLine number tokens line → ¬ Gives number tokens (Err fault)
line_no_fault number tokens line fault is = λ gives.
    ⊎_elim (λ outside. line_not_outside number tokens line is outside.0) (λ wrong. wrong.0.no_line number line is) gives

one_fault_here : (number : ℕ) (tokens : List (List ℕ)) (a b : Fault) → Gives number tokens (Err a) → Gives number tokens (Err b) → a ≡ b
one_fault_here number tokens a b p q = ⊎_elim
    (λ first. ⊎_elim (λ second. first.1 ∙ sym second.1) (λ second. absurd (second.0.not_outside first.0)) q)
    (λ first. ⊎_elim (λ second. absurd (first.0.not_outside second.0)) (λ second. first.1 ∙ sym second.1) q)
    p

-- the tokens of a line give one result
pub one_read : (number : ℕ) (tokens : List (List ℕ)) (a b : Option Line) → Gives number tokens (Ok a) → Gives number tokens (Ok b) → a ≡ b
one_read number tokens None None p q = refl
one_read number tokens None (Some b) p q = absurd (no_tokens_no_line number tokens b p q)
one_read number tokens (Some a) None p q = absurd (no_tokens_no_line number tokens a q p)
one_read number tokens (Some a) (Some b) p q = ap (λ line. Some line) (one_line number tokens a b p q)

pub not_both : (number : ℕ) (tokens : List (List ℕ)) (read : Option Line) (fault : Fault) → Gives number tokens (Ok read) → ¬ Gives number tokens (Err fault)
not_both number tokens None fault p = no_tokens_no_fault number tokens fault p
not_both number tokens (Some line) fault p = line_no_fault number tokens line fault p

-- the texts give one list of lines
pub same_readings : (number : ℕ) (texts : List (List ℕ)) (a b : List Line) → AreLines number texts a → AreLines number texts b → a ≡ b
same_readings number [] a b p q = p ∙ sym q
same_readings number (text ∷ texts) a b p q =
    let first = one_read number (tokens_of text) p.0 q.0 p.3 q.3 in
    let others = same_readings (number_after number) texts p.1 q.1 p.4 q.4 in
    p.2 ∙ ap (λ read. option_to_list read ++ p.1) first ∙ ap (λ lines. option_to_list q.0 ++ lines) others ∙ sym q.2

-- or one first fault
pub same_faults : (number : ℕ) (texts : List (List ℕ)) (a b : Fault) → IsFirstLineFault number texts a → IsFirstLineFault number texts b → a ≡ b
same_faults number [] a b p q = absurd p
same_faults number (text ∷ texts) a b p q = ⊎_elim
    (λ first. ⊎_elim
    (λ second. one_fault_here number (tokens_of text) a b first second)
    (λ second. absurd (not_both number (tokens_of text) second.0 a second.1 first)) q)
    (λ first. ⊎_elim
    (λ second. absurd (not_both number (tokens_of text) first.0 b first.1 second))
    (λ second. same_faults (number_after number) texts a b first.2 second.2) q)
    p

-- and never both
pub lines_or_fault : (number : ℕ) (texts : List (List ℕ)) (lines : List Line) (fault : Fault) → AreLines number texts lines → ¬ IsFirstLineFault number texts fault
lines_or_fault number [] lines fault p = λ q. q
lines_or_fault number (text ∷ texts) lines fault p = λ q. ⊎_elim
    (λ here. not_both number (tokens_of text) p.0 fault p.3 here)
    (λ later. lines_or_fault (number_after number) texts p.1 fault p.4 later.2)
    q

-- what holds of the fault of a refusal, if it has one
abbrev pub OnFault : Refusal → (Fault → Type 0) → Type 0
OnFault (refusals.Fault fault) P = P fault
OnFault refusals.NoMemory P = Unit {0}

-- the refusal of a line's flaw has the line's fault
pub fault_of_flaw : (number : ℕ) (tokens : List (List ℕ)) (flaw : Failure Unread) (refusal : Refusal) → GivesLine number tokens (Err flaw) → IsRefusal flaw number refusal
    → OnFault refusal (λ fault. Gives number tokens (Err fault))
fault_of_flaw number tokens (failures.Why unread.Malformed) refusal gives is = rw is (inr (gives, refl))
fault_of_flaw number tokens (failures.Why unread.LeftOut) refusal gives is = rw is (inl (gives, refl))
fault_of_flaw number tokens failures.NoMemory refusal gives is = rw is tt

-- the answers of a reader whose refusal has the first fault
pub is_first_fault : (text : List ℕ) (refusal : Refusal) → OnFault refusal (IsFirstFaultOf text) → IfFault {X = List Line} (Err refusal) (IsFirstFaultOf text)
is_first_fault text (refusals.Fault fault) is = is
is_first_fault text refusals.NoMemory is = tt

pub no_lines : (text : List ℕ) (refusal : Refusal) → OnFault refusal (IsFirstFaultOf text) → (lines : List Line) → AreLinesOf text lines → IsOkUnlessNoMemory {X = List Line} (Err refusal) (λ found. found ≡ lines)
no_lines text (refusals.Fault fault) is lines are = absurd (lines_or_fault 1 (lines_of text) lines fault are is)
no_lines text refusals.NoMemory is lines are = tt

pub same_fault : (text : List ℕ) (refusal : Refusal) → OnFault refusal (IsFirstFaultOf text) → (fault : Fault) → IsFirstFaultOf text fault → IsFaultUnlessNoMemory {X = List Line} (Err refusal) fault
same_fault text (refusals.Fault found) is fault other = same_faults 1 (lines_of text) found fault is other
same_fault text refusals.NoMemory is fault other = tt

first_fault : (text : List ℕ) (lines : List Line) (number : ℕ) (left : List (List ℕ)) → ReadTo (lines_of text) lines number left
    → (line : List ℕ) (texts : List (List ℕ)) → left ≡ line ∷ texts → (refusal : Refusal) → OnFault refusal (λ fault. Gives (number_after number) (tokens_of line) (Err fault)) → OnFault refusal (IsFirstFaultOf text)
first_fault text lines number left to line texts splits (refusals.Fault fault) gives = ReadTo-fault (lines_of text) lines number left to line texts splits fault gives
first_fault text lines number left to line texts splits refusals.NoMemory gives = tt

pub ReadTo-refused : (text : List ℕ) (lines : List Line) (number : ℕ) (left : List (List ℕ)) → ReadTo (lines_of text) lines number left
    → (line : List ℕ) (texts : List (List ℕ)) → left ≡ line ∷ texts → (here : ℕ) → here ≡ number_after number → (flaw : Failure Unread) → GivesLine here (tokens_of line) (Err flaw)
    → (refusal : Refusal) → IsRefusal flaw here refusal → OnFault refusal (IsFirstFaultOf text)
ReadTo-refused text lines number left to line texts splits here is_here flaw gives refusal is =
    first_fault text lines number left to line texts splits refusal (rw is_here at (fault_of_flaw here (tokens_of line) flaw refusal gives is))
