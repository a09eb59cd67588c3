-- The names of a typed design are names of its tree, which are words.
use Rattle.std.proofs.Common.{◌≡◌, ℕ, List, [], ◌∷◌, Some, None, refl, sym, subst}
use Rattle.std.specs.Prelude.{All, ⊤}
use Rattle.std.specs.List.{AllByRecursion}
use Rattle.std.proofs.lemmas.List.Elements.{All-from_recursion, All-push, recursion_from_All}
use Rattle.koika_syntax.specs.Grammar.{IsDeclaration, IsName}
use Rattle.koika_syntax.specs.Lexemes.{IsWord}
use Rattle.koika_syntax.specs.declared.tree.Block.{Block}
use Rattle.koika_syntax.specs.declared.tree.Constant.{Constant}
use Rattle.koika_syntax.specs.declared.tree.Declaration.{Declaration}
use Rattle.koika_syntax.specs.declared.tree.Declaration.TheVariants as declarations
use Rattle.koika_syntax.specs.declared.tree.Name.{Name}
use Rattle.koika_syntax.specs.declared.tree.Tree.{Tree}
use Rattle.koika_syntax.specs.declared.tree.TypeExpression.{TypeExpression}
use Rattle.koika_check.specs.Checks.{checked, scheduled}
use Rattle.koika_check.specs.Constants.{constant_of}
use Rattle.koika_check.specs.Declarations.{assert_with, declare, enum_with, function_with, host_with, input_of, input_typed, input_with, new_name, nothing, register_known, register_of, register_typed, register_with, rule_of, rule_typed, rule_with, struct_with, table_with}
use Rattle.koika_check.specs.Expressions.{block_in}
use Rattle.koika_check.specs.Outcomes.{Condition, Fails, Gives, CheckResult, ◌>>=◌, one_by_one, unless}
use Rattle.koika_check.specs.Schedule.{scheduler_nodes}
use Rattle.koika_check.specs.Types.{type_of}
use Rattle.koika_check.specs.declared.checked.Checked.{Checked}
use Rattle.koika_check.specs.declared.checked.Input.{Input}
use Rattle.koika_check.specs.declared.checked.Register.{Register}
use Rattle.koika_check.specs.declared.checked.CheckedRule.{CheckedRule}
use Rattle.kw_bits.specs.declared.host.HostSpec.{HostSpec}
use Rattle.front_end.specs.Names.{HasWordNames}

-- ---- what outcomes give

-- what is given, if anything is, is such
abbrev pub GivesSuch : {X : Type 0} → (X → Type 0) → CheckResult X → Type 0
GivesSuch P (Gives x) = P x
GivesSuch P (Fails fault) = ⊤

pub given : {X : Type 0} (P : X → Type 0) (o : CheckResult X) (x : X) → GivesSuch P o → o ≡ Gives x → P x
given P o x such is = subst (GivesSuch P) is such

pub unless-such : {X : Type 0} (P : X → Type 0) (c : Condition) (x : X) → P x → GivesSuch P (unless c x)
unless-such P None x h = h
unless-such P (Some fault) x h = tt

pub behind : {X Y : Type 0} (Q : X → Type 0) (P : Y → Type 0) (o : CheckResult X) (next : X → CheckResult Y) → GivesSuch Q o → ((x : X) → Q x → GivesSuch P (next x)) → GivesSuch P (o >>= next)
behind Q P (Gives x) next such h = h x such
behind Q P (Fails fault) next such h = tt

pub behind-any : {X Y : Type 0} (P : Y → Type 0) (o : CheckResult X) (next : X → CheckResult Y) → ((x : X) → GivesSuch P (next x)) → GivesSuch P (o >>= next)
behind-any P (Gives x) next h = h x
behind-any P (Fails fault) next h = tt

-- ---- declarations

-- a name that is declared is the written one
new-name : (d : Checked) (n : Name) → GivesSuch (λ name. name ≡ n.text) (new_name d n)
new-name d n = unless-such (λ name. name ≡ n.text) _ n.text refl

named-register : (d : Checked) (n : Name) (written : TypeExpression) (first : Constant) → GivesSuch (λ (one : Register). one.name ≡ n.text) (register_with d n written first)
named-register d n written first =
    behind (λ name. name ≡ n.text) (λ (one : Register). one.name ≡ n.text) (new_name d n) (register_of d written first) (new-name d n) (λ name e.
    behind-any (λ (one : Register). one.name ≡ n.text) (type_of d written) (register_typed d first name) (λ of.
    behind-any (λ (one : Register). one.name ≡ n.text) (constant_of first d) (register_known d name of) (λ known.
    unless-such (λ (one : Register). one.name ≡ n.text) _ _ e)))

named-input : (d : Checked) (n : Name) (written : TypeExpression) → GivesSuch (λ (one : Input). one.name ≡ n.text) (input_with d n written)
named-input d n written =
    behind (λ name. name ≡ n.text) (λ (one : Input). one.name ≡ n.text) (new_name d n) (input_of d written) (new-name d n) (λ name e.
    behind-any (λ (one : Input). one.name ≡ n.text) (type_of d written) (input_typed d name) (λ of. e))

named-rule : (d : Checked) (n : Name) (body : Block) → GivesSuch (λ (one : CheckedRule). one.name ≡ n.text) (rule_with d n body)
named-rule d n body =
    behind (λ name. name ≡ n.text) (λ (one : CheckedRule). one.name ≡ n.text) (new_name d n) (rule_of d body) (new-name d n) (λ name e.
    behind-any (λ (one : CheckedRule). one.name ≡ n.text) (block_in body (record { design = d; locals = [] })) (rule_typed name) (λ typing.
    unless-such (λ (one : CheckedRule). one.name ≡ n.text) _ _ e))

-- the names of the grammar's trees are words
name-word : (n : Name) (name : List ℕ) → IsName n → name ≡ n.text → IsWord name
name-word n name is e = subst IsWord (sym e) is.0

declared : (hosts : List HostSpec) (x : Declaration) (d : Checked) → IsDeclaration x → HasWordNames d → GivesSuch HasWordNames (declare hosts x d)
declared hosts (declarations.Enum n width members) d is h =
    behind-any HasWordNames (enum_with d n width members) _ (λ one. record { inputs = h.inputs; registers = h.registers; rules = h.rules })
declared hosts (declarations.Struct n fields) d is h =
    behind-any HasWordNames (struct_with d n fields) _ (λ one. record { inputs = h.inputs; registers = h.registers; rules = h.rules })
declared hosts (declarations.Register n of first) d is h =
    behind (λ (one : Register). one.name ≡ n.text) HasWordNames (register_with d n of first) _ (named-register d n of first) (λ one e. record {
      inputs = h.inputs;
      registers = All-push (λ (r : Register). IsWord r.name) d.registers one h.registers (name-word n one.name is.0 e);
      rules = h.rules;
    })
declared hosts (declarations.Input n of) d is h =
    behind (λ (one : Input). one.name ≡ n.text) HasWordNames (input_with d n of) _ (named-input d n of) (λ one e. record {
      inputs = All-push (λ (i : Input). IsWord i.name) d.inputs one h.inputs (name-word n one.name is.0 e);
      registers = h.registers;
      rules = h.rules;
    })
declared hosts (declarations.Table n input output entries) d is h =
    behind-any HasWordNames (table_with d n input output entries) _ (λ one. record { inputs = h.inputs; registers = h.registers; rules = h.rules })
declared hosts (declarations.Host n input output) d is h =
    behind-any HasWordNames (host_with hosts d n input output) _ (λ one. record { inputs = h.inputs; registers = h.registers; rules = h.rules })
declared hosts (declarations.Function n parameters written body) d is h =
    behind-any HasWordNames (function_with d n parameters written body) _ (λ one. record { inputs = h.inputs; registers = h.registers; rules = h.rules })
declared hosts (declarations.Rule n body) d is h =
    behind (λ (one : CheckedRule). one.name ≡ n.text) HasWordNames (rule_with d n body) _ (named-rule d n body) (λ one e. record {
      inputs = h.inputs;
      registers = h.registers;
      rules = All-push (λ (r : CheckedRule). IsWord r.name) d.rules one h.rules (name-word n one.name is.0 e);
    })
declared hosts (declarations.Assert n) d is h =
    behind-any HasWordNames (assert_with d n) _ (λ one. record { inputs = h.inputs; registers = h.registers; rules = h.rules })

all-declared : (hosts : List HostSpec) (xs : List Declaration) (d : Checked) → AllByRecursion IsDeclaration xs → HasWordNames d → GivesSuch HasWordNames (one_by_one (declare hosts) xs d)
all-declared hosts [] d is h = h
all-declared hosts (x ∷ xs) d is h =
    behind HasWordNames HasWordNames (declare hosts x d) (one_by_one (declare hosts) xs) (declared hosts x d is.0 h) (λ next k. all-declared hosts xs next is.1 k)

-- nothing is named at first
none : HasWordNames nothing
none = record {
  inputs = All-from_recursion (λ (i : Input). IsWord i.name) [] tt;
  registers = All-from_recursion (λ (r : Register). IsWord r.name) [] tt;
  rules = All-from_recursion (λ (r : CheckedRule). IsWord r.name) [] tt;
}

-- the names of a tree's design are words
pub word-names : (hosts : List HostSpec) (tree : Tree) (d : Checked) → All IsDeclaration tree.declarations → checked hosts tree ≡ Gives d → HasWordNames d
word-names hosts tree d is e =
    given HasWordNames (checked hosts tree) d
    (behind HasWordNames HasWordNames (one_by_one (declare hosts) tree.declarations nothing) (scheduled tree) (all-declared hosts tree.declarations nothing (recursion_from_All IsDeclaration tree.declarations is) none) (λ found h.
    behind-any HasWordNames (scheduler_nodes tree.scheduler found [] 0) _ (λ nodes.
    unless-such HasWordNames _ _ (record { inputs = h.inputs; registers = h.registers; rules = h.rules }))))
    e
