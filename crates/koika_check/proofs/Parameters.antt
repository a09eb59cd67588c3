-- What is bound while the parameters of a function are read, and what the function and a rule come to.
use Rattle.std.proofs.Common.{◌≡◌, ℕ, List, [], ◌∷◌, ◌++◌, length, map, not, take, Option, None, refl, ap, ap₂, sym, ◌∙◌, subst, arith}
use Rattle.std.specs.Prelude.{is_some}
use Rattle.std.specs.List.{All}
use Rattle.std.proofs.lemmas.List.Elements.{All-nil, All-push}
use Rattle.kw_base.specs.Names.{number_of}
use Rattle.kw_base.specs.declared.fault_number.TheConstants.{REPEATED_NAME}
use Rattle.kw_bits.specs.Host.{TakesWidth}
use Rattle.koika_syntax.specs.declared.tree.Block.{Block}
use Rattle.koika_syntax.specs.declared.tree.Field.{Field}
use Rattle.koika_syntax.specs.declared.tree.Name.{Name}
use Rattle.koika_syntax.specs.declared.tree.TypeExpression.{TypeExpression}
use Rattle.kw_bits.specs.declared.host.HostSpec.{HostSpec}
use Rattle.koika_check.specs.inner.Checking.{AreTypes, Grows, IsChecker, IsPart, IsSignature, IsType, IsTypeIf, Stands, arrays_of, scope_of}
use Rattle.koika_check.specs.Constructs.{Typing}
use Rattle.koika_check.specs.Declarations.{add_parameter, function_body, function_of, function_result, function_typed, function_with, names_of_locals, new_name, other_name, result_of, rule_of, rule_typed, rule_with, types_in_order}
use Rattle.koika_check.specs.Expressions.{block_in}
use Rattle.koika_check.specs.inner.Locals.{AreLocals, inside_of, local_of, locals_of, shapes_of}
use Rattle.koika_check.specs.Outcomes.{Condition, Gives, ◌>>=◌, holds, one_by_one, where_all, wrong}
use Rattle.koika_check.specs.inner.Parameters.{AreParameters}
use Rattle.koika_check.specs.Scopes.{Local, Scope}
use Rattle.koika_check.specs.inner.Settled.{IsSettled}
use Rattle.koika_check.specs.inner.Shapes.{AreArrays, AreShapes, IsShapeIf, part_of, type_if, type_of_shape}
use Rattle.koika_check.specs.inner.Things.{AreParts, AreThings, position_of, thing, thing_named}
use Rattle.koika_check.specs.Types.{TypedPart as TypedPart, agrees, type_of}
use Rattle.koika_check.specs.declared.agreement.Part.{Part}
use Rattle.koika_check.specs.declared.checked.Checked.{Checked}
use Rattle.koika_check.specs.declared.checker.Checker.{Checker}
use Rattle.koika_check.specs.declared.functions.Parameters.{Parameters}
use Rattle.koika_check.specs.declared.locals.Bound.{Bound}
use Rattle.koika_check.specs.declared.locals.Locals.{Locals}
use Rattle.koika_check.specs.declared.shapes.Shape.{Shape}
use Rattle.koika_check.specs.declared.things.Thing.{Thing}
use Rattle.koika_check.specs.declared.typed.Typed.{Typed}
use Rattle.koika_check.specs.declared.typed.ValueType.{ValueType}
use Rattle.koika_check.specs.declared.things.Kind.TheVariants as kind
use Rattle.koika_check.proofs.Added.{types-push}
use Rattle.koika_check.proofs.Checkers.{empty, empty-checker}
use Rattle.koika_check.proofs.Declaring.{named-gives, settled-scope}
use Rattle.koika_check.proofs.Growth.{grows-trans, locals-kept, same-locals, same-type-if, type-if-grows, types-grow, unbound}
use Rattle.koika_check.proofs.PartTypes.{part-shape}

-- a name and a type of values that is bound
abbrev pub local : List ℕ → ValueType → Local
local name of = let l : Local = record { name = name; of = of } in l

abbrev pub at : Checked → List Local → Scope
at d locals = let s : Scope = record { design = d; locals = locals } in s

-- ---- parameters

-- one more name is bound
pub bound-kept : (b : Checker) → IsChecker b → (l : Locals) (s : Shape) → IsType b s → AreLocals l → shapes_of l ≡ shapes_of b.locals ++ s ∷ [] → IsChecker (record b { locals = l })
bound-kept b h l s t are e = locals-kept b h l are (subst (All (IsType b)) (sym e) (All-push (IsType b) (shapes_of b.locals) s h.bound t))

-- what was bound before further types stays
pub same-bound : (a b : Checker) → IsChecker a → Grows a b → b.locals ≡ a.locals → (scope_of b).locals ≡ (scope_of a).locals
same-bound a b h g e = ap (locals_of (arrays_of b)) e ∙ same-locals a b g a.locals h.bound

-- one more parameter is bound
pub parameters-push : (a b : Checker) (l : Locals) (all : Parameters) (name : List ℕ) (s : Shape) (of : ValueType) → IsChecker a → AreParameters a all → Grows a b → b.locals ≡ a.locals → Stands b s of →
    locals_of (arrays_of b) l ≡ local name (type_of_shape (arrays_of b) s) ∷ locals_of (arrays_of b) b.locals → shapes_of l ≡ shapes_of b.locals ++ s ∷ [] →
    AreParameters (record b { locals = l }) (record { of = all.of ++ of ∷ []; shapes = all.shapes ++ s ∷ [] })
parameters-push a b l all name s of h p g e stands bound shapes = record {
  shapes = shapes ∙ ap (λ (ss : List Shape). ss ++ s ∷ []) (ap shapes_of e ∙ p.shapes);
  types = types-grow b (record b { locals = l }) (unbound b l) (all.shapes ++ s ∷ []) (all.of ++ of ∷ []) (types-push b all.shapes all.of s of (types-grow a b g all.shapes all.of p.types) stands);
  order = ap₂ (λ (ts : List ValueType) (t : ValueType). ts ++ t ∷ []) (p.order ∙ ap types_in_order (sym (same-bound a b h g e))) stands.0 ∙ ap types_in_order (sym bound);
}

pub scope-behind : (a p g : Checker) (found : List Local) → IsChecker p → Grows a p → Grows p g → g.locals ≡ p.locals → (scope_of p).locals ≡ found → scope_of g ≡ at a.design found
scope-behind a p g found h ap_grows pg e is = ap₂ at (pg.design ∙ ap_grows.design) (same-bound p g h pg e ∙ is)

-- what is bound behind one more parameter
pub locals-push : (a b : Checker) (l : Locals) (name name' : List ℕ) (s : Shape) (of : ValueType) → IsChecker a → Grows a b → b.locals ≡ a.locals → name' ≡ name → of ≡ type_of_shape (arrays_of b) s →
    locals_of (arrays_of b) l ≡ local name' (type_of_shape (arrays_of b) s) ∷ locals_of (arrays_of b) b.locals → locals_of (arrays_of b) l ≡ local name of ∷ (scope_of a).locals
locals-push a b l name name' s of h g e same is bound =
    bound ∙ ap₂ (λ (x : Local) (xs : List Local). x ∷ xs) (ap₂ local same (sym is)) (same-bound a b h g e)

pub parameter-chain : (d : Checked) (f : Field) (locals : List Local) (name : List ℕ) (of : ValueType) → other_name (names_of_locals locals) f.name ≡ Gives name → name ≡ f.name.text → type_of d f.of ≡ Gives of →
    add_parameter d f locals ≡ Gives (local f.name.text of ∷ locals)
parameter-chain d f locals name of e q t =
    ap (λ o. o >>= λ n. type_of d f.of >>= λ u. Gives (local n u ∷ locals)) e ∙ ap (λ o. o >>= λ u. Gives (local name u ∷ locals)) t ∙ ap (λ n. Gives (local n of ∷ locals)) q

-- a name that no parameter has
pub other-name : (names : List (List ℕ)) (n : Name) → number_of names n.text ≡ None → other_name names n ≡ Gives n.text
other-name names n e = ap (λ o. where_all (holds (not (is_some o)) (wrong REPEATED_NAME n.place) ∷ []) n.text) e

-- nothing is bound in front of a function
no_bound : (arrays : List ValueType) (names : List (List ℕ)) (bs : List Bound) → map (local_of arrays names) (inside_of [] bs) ≡ [] → bs ≡ []
no_bound arrays names [] e = refl
no_bound arrays names (b ∷ bs) e = absurd (some [] b bs e)
  where
    some : (inner : List Bound) (c : Bound) (cs : List Bound) → map (local_of arrays names) (inside_of (c ∷ inner) cs) ≡ [] → ⊥
    some inner c [] e = cc
    some inner c (d ∷ cs) e = some (c ∷ inner) d cs e

pub no-parameters : (a : Checker) → IsSettled a → AreParameters a (record { of = []; shapes = [] })
no-parameters a h = record {
  shapes = ap (λ (bs : List Bound). map (λ (b : Bound). b.shape) bs) (no_bound (arrays_of a) a.locals.names a.locals.bound h.unbound);
  types = record { are = refl; each = All-nil (IsType a) };
  order = sym (ap types_in_order h.unbound);
}

-- nothing is bound behind a function
pub left-kept : (b : Checker) → IsChecker b → (l : Locals) → AreLocals l → shapes_of l ≡ take 0 (shapes_of b.locals) → IsChecker (record b { locals = l })
left-kept b h l are e = locals-kept b h l are (subst (All (IsType b)) (sym e) (All-nil (IsType b)))

pub none-bound : (arrays : List ValueType) (l : Locals) → length l.bound ≡ 0 → locals_of arrays l ≡ []
none-bound arrays l e = ap (λ (bs : List Bound). map (local_of arrays l.names) (inside_of [] bs)) (no_item l.bound e)
  where
    no_item : (bs : List Bound) → length bs ≡ 0 → bs ≡ []
    no_item [] e = refl
    no_item (b ∷ bs) e = absurd (omega (arith, e))

-- where nothing is declared yet
pub empty-settled : (c : Checker) → c.design ≡ empty → c.registers ≡ [] → c.inputs ≡ [] → c.fields ≡ [] → c.functions ≡ [] → c.asserted ≡ [] → c.shapes.arrays ≡ [] → c.locals.bound ≡ [] →
    AreThings c.things → ((name : List ℕ) → thing_named c.things name ≡ None) → AreParts c.parts → ((of : Thing) (name : List ℕ) → position_of c.parts of name ≡ None) → AreShapes c.shapes → AreLocals c.locals →
    All (λ (h : HostSpec). TakesWidth h.kind h.in_width) c.hosts → IsSettled c
empty-settled c d registers inputs fields functions asserted arrays bound things none are parts shapes locals hosts = record {
  checker = empty-checker c d registers inputs fields functions asserted arrays bound things none are shapes locals hosts;
  unbound = none-bound (arrays_of c) c.locals (ap (λ (bs : List Bound). length bs) bound);
  no_members = λ number name small le. parts (thing kind.Enum number) name;
  no_fields = λ number name small le. parts (thing kind.Struct number) name;
}

pub left-settled : (a b : Checker) → IsSettled a → IsChecker b → Grows a b → (l : Locals) → AreLocals l → shapes_of l ≡ take 0 (shapes_of b.locals) → length l.bound ≡ 0 → IsSettled (record b { locals = l })
left-settled a b h kept g l are shapes none =
    let c : Checker = record b { locals = l } in
    settled-scope a c h (left-kept b kept l are shapes) (grows-trans a b c g (unbound b l)) (ap₂ at g.design (none-bound (arrays_of b) l none ∙ sym h.unbound))

-- ---- what a function gives

pub gives-grows : (a b : Checker) → Grows a b → (s : Option Shape) (of : Option ValueType) → IsTypeIf a s of → IsTypeIf b s of
gives-grows a b g s of h = record { is = h.is ∙ sym (same-type-if a b g s h.known); known = type-if-grows a b g s h.known }

-- the type of a body is asked for where further types were added
pub body-agrees : (a b : Checker) → Grows a b → AreArrays (arrays_of b) → (s : Option Shape) (of given : Option ValueType) (p : Part) (x : TypedPart) (r : Condition) → IsTypeIf a s of → of ≡ given → IsPart b p → x ≡ part_of (arrays_of b) p →
    ((arrays : List ValueType) → AreArrays arrays → IsShapeIf arrays s → IsShapeIf arrays p.of → r ≡ agrees (type_if arrays s) (part_of arrays p)) → r ≡ agrees given x
body-agrees a b g are s of given p x r h same part is f =
    let h' = gives-grows a b g s of h in
    f (arrays_of b) are (part-shape b s h'.known) (part-shape b p.of part) ∙ ap₂ agrees (sym h'.is ∙ same) (sym is)

pub signature : (a g c : Checker) → Grows a g → Grows g c → (all : Parameters) (s : Option Shape) (of : Option ValueType) → AreTypes a all.shapes all.of → IsTypeIf g s of → (name : List ℕ) (body : Typed) →
    IsSignature c (record { parameters = all.shapes; result = s }) (record { name = name; parameters = all.of; result = of; body = body })
signature a g c ag gc all s of types h name body = record {
  parameters = types-grow a c (grows-trans a g c ag gc) all.shapes all.of types;
  result = gives-grows g c gc s of h;
}

-- ---- functions and rules by their parts

pub function-chain : (d : Checked) (n : Name) (ps : List Field) (w : Option TypeExpression) (body : Block) (name : List ℕ) (locals : List Local) (gives : Option ValueType) (scope : Scope) →
    new_name d n ≡ Gives name → name ≡ n.text → one_by_one (add_parameter d) ps [] ≡ Gives locals → result_of d w ≡ Gives gives → scope ≡ at d locals →
    function_with d n ps w body ≡ (block_in body scope >>= function_typed n.text locals gives)
function-chain d n ps w body name locals gives scope e q p r s =
    named-gives d n (function_of d ps w body) name e q ∙ ap (λ o. o >>= function_result d w body n.text) p ∙ ap (λ o. o >>= function_body d body n.text locals) r
    ∙ ap (λ u. block_in body u >>= function_typed n.text locals gives) (sym s)

pub rule-chain : (d : Checked) (n : Name) (body : Block) (name : List ℕ) (scope : Scope) (x : Typing) → new_name d n ≡ Gives name → name ≡ n.text → scope ≡ at d [] → block_in body scope ≡ Gives x → rule_with d n body ≡ rule_typed n.text x
rule-chain d n body name scope x e q s f =
    named-gives d n (rule_of d body) name e q ∙ ap (λ u. block_in body u >>= rule_typed n.text) (sym s) ∙ ap (λ o. o >>= rule_typed n.text) f
