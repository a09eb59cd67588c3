-- No two names that a typed design declares are equal: a declaration of a name that is there is refused.
use Rattle.std.proofs.Common.{◌≡◌, ◌≢◌, ◌<◌, ◌≤◌, ◌+◌, ℕ, suc, Bool, true, false, cond, List, [], ◌∷◌, ◌++◌, length, map, Option, Some, None, refl, sym, ◌∙◌, arith}
use Rattle.std.specs.Prelude.{AllPairs, ⊤, bytes_eq, find, is_some, not, position}
use Rattle.std.specs.List.{AllByRecursion, position_or_len}
use Rattle.std.proofs.lemmas.Bool.{ltb-false, or_parts, true≢false}
use Rattle.std.proofs.lemmas.List.Elements.{All-from_recursion}
use Rattle.std.proofs.lemmas.List.Kept.{AllPairs-cons}
use Rattle.std.proofs.lemmas.Slice.Eq.{bytes_eq-Decides}
use Rattle.kw_base.specs.declared.fault_number.TheConstants.{REPEATED_NAME, UNKNOWN_HOST_FUNCTION}
use Rattle.kw_bits.specs.declared.host.HostSpec.{HostSpec}
use Rattle.koika_syntax.specs.declared.tree.Block.{Block}
use Rattle.koika_syntax.specs.declared.tree.Constant.{Constant}
use Rattle.koika_syntax.specs.declared.tree.Declaration.{Declaration}
use Rattle.koika_syntax.specs.declared.tree.Declaration.TheVariants as declarations
use Rattle.koika_syntax.specs.declared.tree.Field.{Field as WrittenField}
use Rattle.koika_syntax.specs.declared.tree.Literal.{Literal as WrittenLiteral}
use Rattle.koika_syntax.specs.declared.tree.EnumMember.{EnumMember as WrittenMember}
use Rattle.koika_syntax.specs.declared.tree.Name.{Name}
use Rattle.koika_syntax.specs.declared.tree.Tree.{Tree}
use Rattle.koika_syntax.specs.declared.tree.TypeExpression.{TypeExpression}
use Rattle.koika_syntax.specs.declared.tree.Width.{Width}
use Rattle.koika_types.specs.declared.declarations.EnumDecl.{EnumDecl}
use Rattle.koika_check.specs.Checks.{checked, scheduled}
use Rattle.koika_check.specs.Constants.{constant_of}
use Rattle.koika_check.specs.Declarations.{add_field, add_member, add_parameter, assert_with, declare, enum_of, enum_typed, enum_with, function_body, function_of, function_result, function_typed, function_with, host_of, host_with, input_of, is_host, input_typed, input_with, is_declared, new_name, nothing, register_known, register_of, register_typed, register_with, result_of, rule_of, rule_typed, rule_with, struct_of, struct_typed, struct_with, table_of, table_with}
use Rattle.koika_check.specs.Expressions.{block_in}
use Rattle.koika_check.specs.Outcomes.{Gives, CheckResult, ◌>>=◌, found, holds, one_by_one, where_all, wrong}
use Rattle.koika_check.specs.Schedule.{scheduler_nodes}
use Rattle.koika_check.specs.Types.{type_of}
use Rattle.koika_check.specs.declared.checked.Checked.{Checked}
use Rattle.koika_check.specs.declared.checked.CheckedFunction.{CheckedFunction}
use Rattle.koika_check.specs.declared.checked.Host.{Host}
use Rattle.koika_check.specs.declared.checked.Input.{Input}
use Rattle.koika_check.specs.declared.checked.Register.{Register}
use Rattle.koika_check.specs.declared.checked.CheckedRule.{CheckedRule}
use Rattle.koika_check.specs.declared.checked.Struct.{Struct}
use Rattle.koika_check.specs.declared.checked.Table.{Table}
use Rattle.front_end.specs.Names.{AreDistinct, global_names, names_of}
use Rattle.front_end.specs.Sources.{SpellsDesign, name_of}
use Rattle.front_end.proofs.WordNames.{GivesSuch, behind, behind-any, given, unless-such}

-- ---- distinct names

-- a name is none of these
abbrev Fresh : List ℕ → List (List ℕ) → Type 0
Fresh name names = AllByRecursion (λ (other : List ℕ). name ≢ other) names

-- no name is one of those after it
abbrev Distinct : List (List ℕ) → Type 0
Distinct [] = ⊤
Distinct (name ∷ names) = Fresh name names × Distinct names

-- no name of the first is one of the second
abbrev Apart : List (List ℕ) → List (List ℕ) → Type 0
Apart names others = AllByRecursion (λ (name : List ℕ). Fresh name others) names

are-distinct : (names : List (List ℕ)) → Distinct names → AreDistinct names
are-distinct [] all = λ i j d lt within. absurd (omega (arith, within))
are-distinct (name ∷ names) all =
    AllPairs-cons (λ (a b : List ℕ). a ≢ b) name names (All-from_recursion (λ (other : List ℕ). name ≢ other) names all.0) (are-distinct names all.1)

fresh-both : (name : List ℕ) (xs ys : List (List ℕ)) → Fresh name xs → Fresh name ys → Fresh name (xs ++ ys)
fresh-both name [] ys front back = back
fresh-both name (x ∷ xs) ys front back = (front.0, fresh-both name xs ys front.1 back)

-- ---- parts of distinct names

fresh-front : (name : List ℕ) (xs ys : List (List ℕ)) → Fresh name (xs ++ ys) → Fresh name xs
fresh-front name [] ys all = tt
fresh-front name (x ∷ xs) ys all = (all.0, fresh-front name xs ys all.1)

fresh-back : (name : List ℕ) (xs ys : List (List ℕ)) → Fresh name (xs ++ ys) → Fresh name ys
fresh-back name [] ys all = all
fresh-back name (x ∷ xs) ys all = fresh-back name xs ys all.1

distinct-front : (xs ys : List (List ℕ)) → Distinct (xs ++ ys) → Distinct xs
distinct-front [] ys all = tt
distinct-front (x ∷ xs) ys all = (fresh-front x xs ys all.0, distinct-front xs ys all.1)

distinct-back : (xs ys : List (List ℕ)) → Distinct (xs ++ ys) → Distinct ys
distinct-back [] ys all = all
distinct-back (x ∷ xs) ys all = distinct-back xs ys all.1

distinct-apart : (xs ys : List (List ℕ)) → Distinct (xs ++ ys) → Apart xs ys
distinct-apart [] ys all = tt
distinct-apart (x ∷ xs) ys all = (fresh-back x xs ys all.0, distinct-apart xs ys all.1)

distinct-both : (xs ys : List (List ℕ)) → Distinct xs → Distinct ys → Apart xs ys → Distinct (xs ++ ys)
distinct-both [] ys front back apart = back
distinct-both (x ∷ xs) ys front back apart = (fresh-both x xs ys front.0 apart.0, distinct-both xs ys front.1 back apart.1)

apart-front : (names xs ys : List (List ℕ)) → Apart names (xs ++ ys) → Apart names xs
apart-front [] xs ys all = tt
apart-front (name ∷ names) xs ys all = (fresh-front name xs ys all.0, apart-front names xs ys all.1)

apart-back : (names xs ys : List (List ℕ)) → Apart names (xs ++ ys) → Apart names ys
apart-back [] xs ys all = tt
apart-back (name ∷ names) xs ys all = (fresh-back name xs ys all.0, apart-back names xs ys all.1)

apart-both : (xs ys others : List (List ℕ)) → Apart xs others → Apart ys others → Apart (xs ++ ys) others
apart-both [] ys others front back = back
apart-both (x ∷ xs) ys others front back = (front.0, apart-both xs ys others front.1 back)

apart-turned : (xs ys : List (List ℕ)) → Apart xs ys → Apart ys xs
apart-turned [] ys all = none ys
  where
    none : (ys : List (List ℕ)) → Apart ys []
    none [] = tt
    none (y ∷ ys) = (tt, none ys)
apart-turned (x ∷ xs) ys all = one ys all.0 (apart-turned xs ys all.1)
  where
    one : (ys : List (List ℕ)) → Fresh x ys → Apart ys xs → Apart ys (x ∷ xs)
    one [] front rest = tt
    one (y ∷ ys) front rest = ((λ same. front.0 (sym same), rest.0), one ys front.1 rest.1)

-- ---- one more name

-- the second names are the first ones and one more
record Adds (name : List ℕ) (old new : List (List ℕ)) : Type 0 where
  fresh : (other : List ℕ) → other ≢ name → Fresh other old → Fresh other new
  distinct : Fresh name old → Distinct old → Distinct new

-- behind the last of a kind, before other names
adds-here : {X : Type 0} (f : X → List ℕ) (xs : List X) (one : X) (rest : List (List ℕ)) → Adds (f one) (map f xs ++ rest) (map f (xs ++ one ∷ []) ++ rest)
adds-here {X} f xs one rest = record { fresh = free xs; distinct = apart xs }
  where
    free : (xs : List X) (other : List ℕ) → other ≢ f one → Fresh other (map f xs ++ rest) → Fresh other (map f (xs ++ one ∷ []) ++ rest)
    free [] other is all = (is, all)
    free (x ∷ xs) other is all = (all.0, free xs other is all.1)

    apart : (xs : List X) → Fresh (f one) (map f xs ++ rest) → Distinct (map f xs ++ rest) → Distinct (map f (xs ++ one ∷ []) ++ rest)
    apart [] new all = (new, all)
    apart (x ∷ xs) new all = (free xs (f x) (λ same. new.0 (sym same)) all.0, apart xs new.1 all.1)

-- behind all names
adds-last : {X : Type 0} (f : X → List ℕ) (xs : List X) (one : X) → Adds (f one) (map f xs) (map f (xs ++ one ∷ []))
adds-last {X} f xs one = record { fresh = free xs; distinct = apart xs }
  where
    free : (xs : List X) (other : List ℕ) → other ≢ f one → Fresh other (map f xs) → Fresh other (map f (xs ++ one ∷ []))
    free [] other is all = (is, tt)
    free (x ∷ xs) other is all = (all.0, free xs other is all.1)

    apart : (xs : List X) → Fresh (f one) (map f xs) → Distinct (map f xs) → Distinct (map f (xs ++ one ∷ []))
    apart [] new all = (tt, tt)
    apart (x ∷ xs) new all = (free xs (f x) (λ same. new.0 (sym same)) all.0, apart xs new.1 all.1)

-- behind names that stay
adds-behind : (name : List ℕ) (front old new : List (List ℕ)) → Adds name old new → Adds name (front ++ old) (front ++ new)
adds-behind name front old new adds = record { fresh = free front; distinct = apart front }
  where
    free : (front : List (List ℕ)) (other : List ℕ) → other ≢ name → Fresh other (front ++ old) → Fresh other (front ++ new)
    free [] other is all = adds.fresh other is all
    free (x ∷ front) other is all = (all.0, free front other is all.1)

    apart : (front : List (List ℕ)) → Fresh name (front ++ old) → Distinct (front ++ old) → Distinct (front ++ new)
    apart [] new all = adds.distinct new all
    apart (x ∷ front) new all = (free front x (λ same. new.0 (sym same)) all.0, apart front new.1 all.1)

-- ---- names that are declared

module _ (d : Checked) where
  abbrev enums : List (List ℕ)
  enums = map (λ (e : EnumDecl). e.name) d.enums

  abbrev structs : List (List ℕ)
  structs = map (λ (s : Struct). s.name) d.structs

  abbrev registers : List (List ℕ)
  registers = map (λ (r : Register). r.name) d.registers

  abbrev inputs : List (List ℕ)
  inputs = map (λ (i : Input). i.name) d.inputs

  abbrev tables : List (List ℕ)
  tables = map (λ (t : Table). t.name) d.tables

  abbrev hosts : List (List ℕ)
  hosts = map (λ (h : Host). h.name) d.hosts

  abbrev functions : List (List ℕ)
  functions = map (λ (f : CheckedFunction). f.name) d.functions

  abbrev rules : List (List ℕ)
  rules = map name_of d.rules

-- a name that isn't found is none of them
not-found : (b : Bool) (n : ℕ) → is_some (cond b (Some n) None) ≡ false → b ≡ false
not-found true n none = none
not-found false n none = refl

other-name : (name other : List ℕ) → bytes_eq name other ≡ false → name ≢ other
other-name name other is same = true≢false (sym ((bytes_eq-Decides name other).1 same) ∙ is)

beyond : (name : List ℕ) (names : List (List ℕ)) → length names ≤ position_or_len (bytes_eq name) names → Fresh name names
beyond name [] past = tt
beyond name (other ∷ names) past = of (bytes_eq name other) refl past (beyond name names)
  where
    of : (b : Bool) → bytes_eq name other ≡ b → length (other ∷ names) ≤ cond (not b) (1 + position_or_len (bytes_eq name) names) 0
        → (length names ≤ position_or_len (bytes_eq name) names → Fresh name names) → Fresh name (other ∷ names)
    of true is past rest = absurd (omega (arith, past))
    of false is past rest = (other-name name other is, rest (omega (arith, past)))

absent : (name : List ℕ) (names : List (List ℕ)) → is_some (position (bytes_eq name) names) ≡ false → Fresh name names
absent name names none =
    let n = position_or_len (bytes_eq name) names in
    beyond name names (ltb-false n (length names) (not-found _ n none))

-- a name is declared neither as one thing nor as another
abbrev IsNew : Checked → List ℕ → Type 0
IsNew d name = is_declared d name ≡ false

-- a new name is none of those that are there
fresh-new : (d : Checked) (name : List ℕ) → IsNew d name → Fresh name (global_names d)
fresh-new d name new =
    let rule = or_parts _ _ new in
    let function = or_parts _ _ rule.0 in
    let host = or_parts _ _ function.0 in
    let table = or_parts _ _ host.0 in
    let input = or_parts _ _ table.0 in
    let register = or_parts _ _ input.0 in
    let struct = or_parts _ _ register.0 in
    fresh-both name (enums d) _ (absent name (enums d) struct.0)
    (fresh-both name (structs d) _ (absent name (structs d) struct.1)
    (fresh-both name (registers d) _ (absent name (registers d) register.1)
    (fresh-both name (inputs d) _ (absent name (inputs d) input.1)
    (fresh-both name (tables d) _ (absent name (tables d) table.1)
    (fresh-both name (hosts d) _ (absent name (hosts d) host.1)
    (fresh-both name (functions d) _ (absent name (functions d) function.1) (absent name (rules d) rule.1)))))))

-- a name that is taken is new
new-name : (d : Checked) (n : Name) → GivesSuch (IsNew d) (new_name d n)
new-name d n = of (is_declared d n.text) refl
  where
    of : (b : Bool) → is_declared d n.text ≡ b → GivesSuch (IsNew d) (where_all (holds (not b) (wrong REPEATED_NAME n.place) ∷ []) n.text)
    of true is = tt
    of false is = is

-- what a declaration names is new
module _ (d : Checked) (n : Name) where
  new-enum : (width : Width) (members : List WrittenMember) → GivesSuch (λ (one : EnumDecl). IsNew d one.name) (enum_with d n width members)
  new-enum width members =
      behind (IsNew d) (λ (one : EnumDecl). IsNew d one.name) (new_name d n) (enum_of width members) (new-name d n) (λ name new.
      behind-any (λ (one : EnumDecl). IsNew d one.name) (one_by_one add_member members []) (enum_typed width members name) (λ declared.
      unless-such (λ (one : EnumDecl). IsNew d one.name) _ _ new))

  new-struct : (fields : List WrittenField) → GivesSuch (λ (one : Struct). IsNew d one.name) (struct_with d n fields)
  new-struct fields =
      behind (IsNew d) (λ (one : Struct). IsNew d one.name) (new_name d n) (struct_of d fields) (new-name d n) (λ name new.
      behind-any (λ (one : Struct). IsNew d one.name) (one_by_one (add_field d) fields []) (struct_typed d name) (λ declared. new))

  new-register : (written : TypeExpression) (first : Constant) → GivesSuch (λ (one : Register). IsNew d one.name) (register_with d n written first)
  new-register written first =
      behind (IsNew d) (λ (one : Register). IsNew d one.name) (new_name d n) (register_of d written first) (new-name d n) (λ name new.
      behind-any (λ (one : Register). IsNew d one.name) (type_of d written) (register_typed d first name) (λ of.
      behind-any (λ (one : Register). IsNew d one.name) (constant_of first d) (register_known d name of) (λ known.
      unless-such (λ (one : Register). IsNew d one.name) _ _ new)))

  new-input : (written : TypeExpression) → GivesSuch (λ (one : Input). IsNew d one.name) (input_with d n written)
  new-input written =
      behind (IsNew d) (λ (one : Input). IsNew d one.name) (new_name d n) (input_of d written) (new-name d n) (λ name new.
      behind-any (λ (one : Input). IsNew d one.name) (type_of d written) (input_typed d name) (λ of. new))

  new-table : (input output : Width) (entries : List WrittenLiteral) → GivesSuch (λ (one : Table). IsNew d one.name) (table_with d n input output entries)
  new-table input output entries =
      behind (IsNew d) (λ (one : Table). IsNew d one.name) (new_name d n) (table_of n input output entries) (new-name d n) (λ name new.
      unless-such (λ (one : Table). IsNew d one.name) _ _ new)

  new-host : (offered : List HostSpec) (input output : Width) → GivesSuch (λ (one : Host). IsNew d one.name) (host_with offered d n input output)
  new-host offered input output =
      behind (IsNew d) (λ (one : Host). IsNew d one.name) (new_name d n) (host_of offered n input output) (new-name d n) (λ name new.
      behind-any (λ (one : Host). IsNew d one.name) (found (find (is_host name input.number.value output.number.value) offered) (wrong UNKNOWN_HOST_FUNCTION n.place)) (λ (spec : HostSpec). Gives (record { name = name; spec = spec })) (λ spec. new))

  new-function : (parameters : List WrittenField) (written : Option TypeExpression) (body : Block) → GivesSuch (λ (one : CheckedFunction). IsNew d one.name) (function_with d n parameters written body)
  new-function parameters written body =
      behind (IsNew d) (λ (one : CheckedFunction). IsNew d one.name) (new_name d n) (function_of d parameters written body) (new-name d n) (λ name new.
      behind-any (λ (one : CheckedFunction). IsNew d one.name) (one_by_one (add_parameter d) parameters []) (function_result d written body name) (λ locals.
      behind-any (λ (one : CheckedFunction). IsNew d one.name) (result_of d written) (function_body d body name locals) (λ gives.
      behind-any (λ (one : CheckedFunction). IsNew d one.name) (block_in body (record { design = d; locals = locals })) (function_typed name locals gives) (λ typing.
      unless-such (λ (one : CheckedFunction). IsNew d one.name) _ _ new))))

  new-rule : (body : Block) → GivesSuch (λ (one : CheckedRule). IsNew d one.name) (rule_with d n body)
  new-rule body =
      behind (IsNew d) (λ (one : CheckedRule). IsNew d one.name) (new_name d n) (rule_of d body) (new-name d n) (λ name new.
      behind-any (λ (one : CheckedRule). IsNew d one.name) (block_in body (record { design = d; locals = [] })) (rule_typed name) (λ typing.
      unless-such (λ (one : CheckedRule). IsNew d one.name) _ _ new))

-- ---- designs

abbrev Fine : Checked → Type 0
Fine d = Distinct (global_names d)

-- each kind of declaration keeps the names distinct
module _ (d : Checked) (fine : Fine d) where
  with-enum : (one : EnumDecl) → IsNew d one.name → Fine (record d { enums = d.enums ++ one ∷ [] })
  with-enum one new = (adds-here (λ (e : EnumDecl). e.name) d.enums one _).distinct (fresh-new d one.name new) fine

  with-struct : (one : Struct) → IsNew d one.name → Fine (record d { structs = d.structs ++ one ∷ [] })
  with-struct one new =
      (adds-behind one.name (enums d) _ _
      (adds-here (λ (s : Struct). s.name) d.structs one _)).distinct (fresh-new d one.name new) fine

  with-register : (one : Register) → IsNew d one.name → Fine (record d { registers = d.registers ++ one ∷ [] })
  with-register one new =
      (adds-behind one.name (enums d) _ _ (adds-behind one.name (structs d) _ _
      (adds-here (λ (r : Register). r.name) d.registers one _))).distinct (fresh-new d one.name new) fine

  with-input : (one : Input) → IsNew d one.name → Fine (record d { inputs = d.inputs ++ one ∷ [] })
  with-input one new =
      (adds-behind one.name (enums d) _ _ (adds-behind one.name (structs d) _ _ (adds-behind one.name (registers d) _ _
      (adds-here (λ (i : Input). i.name) d.inputs one _)))).distinct (fresh-new d one.name new) fine

  with-table : (one : Table) → IsNew d one.name → Fine (record d { tables = d.tables ++ one ∷ [] })
  with-table one new =
      (adds-behind one.name (enums d) _ _ (adds-behind one.name (structs d) _ _ (adds-behind one.name (registers d) _ _ (adds-behind one.name (inputs d) _ _
      (adds-here (λ (t : Table). t.name) d.tables one _))))).distinct (fresh-new d one.name new) fine

  with-host : (one : Host) → IsNew d one.name → Fine (record d { hosts = d.hosts ++ one ∷ [] })
  with-host one new =
      (adds-behind one.name (enums d) _ _ (adds-behind one.name (structs d) _ _ (adds-behind one.name (registers d) _ _ (adds-behind one.name (inputs d) _ _ (adds-behind one.name (tables d) _ _
      (adds-here (λ (h : Host). h.name) d.hosts one _)))))).distinct (fresh-new d one.name new) fine

  with-function : (one : CheckedFunction) → IsNew d one.name → Fine (record d { functions = d.functions ++ one ∷ [] })
  with-function one new =
      (adds-behind one.name (enums d) _ _ (adds-behind one.name (structs d) _ _ (adds-behind one.name (registers d) _ _ (adds-behind one.name (inputs d) _ _ (adds-behind one.name (tables d) _ _ (adds-behind one.name (hosts d) _ _
      (adds-here (λ (f : CheckedFunction). f.name) d.functions one _))))))).distinct (fresh-new d one.name new) fine

  with-rule : (one : CheckedRule) → IsNew d one.name → Fine (record d { rules = d.rules ++ one ∷ [] })
  with-rule one new =
      (adds-behind one.name (enums d) _ _ (adds-behind one.name (structs d) _ _ (adds-behind one.name (registers d) _ _ (adds-behind one.name (inputs d) _ _ (adds-behind one.name (tables d) _ _ (adds-behind one.name (hosts d) _ _ (adds-behind one.name (functions d) _ _
      (adds-last name_of d.rules one)))))))).distinct (fresh-new d one.name new) fine

declared : (offered : List HostSpec) (x : Declaration) (d : Checked) → Fine d → GivesSuch Fine (declare offered x d)
declared offered (declarations.Enum n width members) d fine =
    behind (λ (one : EnumDecl). IsNew d one.name) Fine (enum_with d n width members) _ (new-enum d n width members) (with-enum d fine)
declared offered (declarations.Struct n fields) d fine =
    behind (λ (one : Struct). IsNew d one.name) Fine (struct_with d n fields) _ (new-struct d n fields) (with-struct d fine)
declared offered (declarations.Register n of first) d fine =
    behind (λ (one : Register). IsNew d one.name) Fine (register_with d n of first) _ (new-register d n of first) (with-register d fine)
declared offered (declarations.Input n of) d fine =
    behind (λ (one : Input). IsNew d one.name) Fine (input_with d n of) _ (new-input d n of) (with-input d fine)
declared offered (declarations.Table n input output entries) d fine =
    behind (λ (one : Table). IsNew d one.name) Fine (table_with d n input output entries) _ (new-table d n input output entries) (with-table d fine)
declared offered (declarations.Host n input output) d fine =
    behind (λ (one : Host). IsNew d one.name) Fine (host_with offered d n input output) _ (new-host d n offered input output) (with-host d fine)
declared offered (declarations.Function n parameters written body) d fine =
    behind (λ (one : CheckedFunction). IsNew d one.name) Fine (function_with d n parameters written body) _ (new-function d n parameters written body) (with-function d fine)
declared offered (declarations.Rule n body) d fine =
    behind (λ (one : CheckedRule). IsNew d one.name) Fine (rule_with d n body) _ (new-rule d n body) (with-rule d fine)
declared offered (declarations.Assert n) d fine =
    behind-any Fine (assert_with d n) _ (λ one. fine)

all-declared : (offered : List HostSpec) (xs : List Declaration) (d : Checked) → Fine d → GivesSuch Fine (one_by_one (declare offered) xs d)
all-declared offered [] d fine = fine
all-declared offered (x ∷ xs) d fine =
    behind Fine Fine (declare offered x d) (one_by_one (declare offered) xs) (declared offered x d fine) (λ next still. all-declared offered xs next still)

-- the names of a tree's design
fine-design : (offered : List HostSpec) (tree : Tree) → GivesSuch Fine (checked offered tree)
fine-design offered tree =
    behind Fine Fine (one_by_one (declare offered) tree.declarations nothing) (scheduled tree) (all-declared offered tree.declarations nothing tt) (λ after fine.
    behind-any Fine (scheduler_nodes tree.scheduler after [] 0) _ (λ nodes. unless-such Fine _ _ fine))

-- ---- sources

module _ (offered : List HostSpec) (source : List ℕ) (d : Checked) (spelled : SpellsDesign offered source d) where
  fine : Fine d
  fine = given Fine (checked offered spelled.tree) d (fine-design offered spelled.tree) spelled.typed

  behind-structs : Distinct (registers d ++ (inputs d ++ (tables d ++ (hosts d ++ (functions d ++ rules d)))))
  behind-structs = distinct-back (structs d) _ (distinct-back (enums d) _ fine)

  behind-registers : Distinct (inputs d ++ (tables d ++ (hosts d ++ (functions d ++ rules d))))
  behind-registers = distinct-back (registers d) _ behind-structs

  distinct-rules : Distinct (rules d)
  distinct-rules = distinct-back (functions d) _ (distinct-back (hosts d) _ (distinct-back (tables d) _ (distinct-back (inputs d) _ behind-registers)))

  -- what is apart from the inputs and all behind them is apart from the rules
  from-rules : (names : List (List ℕ)) → Apart names (tables d ++ (hosts d ++ (functions d ++ rules d))) → Apart names (rules d)
  from-rules names all = apart-back names (functions d) _ (apart-back names (hosts d) _ (apart-back names (tables d) _ all))

  registers-apart : Apart (registers d) (inputs d ++ (tables d ++ (hosts d ++ (functions d ++ rules d))))
  registers-apart = distinct-apart (registers d) _ behind-structs

  shown-distinct : Distinct (names_of d)
  shown-distinct =
      let inputs-rules = from-rules (inputs d) (distinct-apart (inputs d) _ behind-registers) in
      let inputs-registers = apart-turned (registers d) (inputs d) (apart-front (registers d) (inputs d) _ registers-apart) in
      let rules-registers = apart-turned (registers d) (rules d) (from-rules (registers d) (apart-back (registers d) (inputs d) _ registers-apart)) in
      distinct-both (inputs d ++ rules d) (registers d) (distinct-both (inputs d) (rules d) (distinct-front (inputs d) _ behind-registers) distinct-rules inputs-rules)
      (distinct-front (registers d) _ behind-structs) (apart-both (inputs d) (rules d) (registers d) inputs-registers rules-registers)

  pub distinct-global : AreDistinct (global_names d)
  distinct-global = are-distinct (global_names d) fine

  -- those of inputs, rules and registers
  pub distinct-names : AreDistinct (names_of d)
  distinct-names = are-distinct (names_of d) shown-distinct

  -- those of registers
  pub distinct-registers : AreDistinct (registers d)
  distinct-registers = are-distinct (registers d) (distinct-front (registers d) _ behind-structs)
