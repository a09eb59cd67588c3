-- A checker with one more register, input, table, host function, function or rule.
use Rattle.std.proofs.Common.{◌≡◌, ℕ, zero, suc, ◌<◌, ◌≤◌, inl, inr, Bool, true, false, nat_eq, List, [], ◌∷◌, ◌++◌, length, map, set, get_or, None, refl, ap, ap₂, sym, ◌∙◌, subst, arith, append-nil, length-append}
use Rattle.std.specs.List.{All, list_any}
use Rattle.std.proofs.lemmas.List.{length-set, map-append}
use Rattle.std.proofs.lemmas.List.Elements.{All-push, All-weaker}
use Rattle.kw_base.specs.Names.{number_of}
use Rattle.kw_bits.specs.Host.{TakesWidth}
use Rattle.koika_types.specs.declared.declarations.Member.{Member}
use Rattle.kw_bits.specs.declared.host.HostSpec.{HostSpec}
use Rattle.koika_check.specs.inner.Checking.{AreTypes, AreWidths, IsChecker, IsDeclared, IsSignature, IsType, IsWidth, Stands, arrays_of}
use Rattle.koika_check.specs.Composites.{field_named, fields_of, members_of}
use Rattle.koika_check.specs.inner.Locals.{AreLocals, shapes_of}
use Rattle.koika_check.specs.inner.Settled.{IsSettled}
use Rattle.koika_check.specs.inner.Shapes.{AreShapes, type_of_shape}
use Rattle.koika_check.specs.inner.Things.{AreParts, AreThings, position_of, thing, thing_named}
use Rattle.koika_check.specs.Kinds.{names_of}
use Rattle.koika_check.specs.Types.{bits, width_of}
use Rattle.koika_check.specs.declared.checked.Checked.{Checked}
use Rattle.koika_check.specs.declared.checked.CheckedField.{CheckedField}
use Rattle.koika_check.specs.declared.checked.CheckedFunction.{CheckedFunction}
use Rattle.koika_check.specs.declared.checked.Host.{Host}
use Rattle.koika_check.specs.declared.checked.Input.{Input}
use Rattle.koika_check.specs.declared.checked.Register.{Register}
use Rattle.koika_check.specs.declared.checked.CheckedRule.{CheckedRule}
use Rattle.koika_check.specs.declared.checked.Table.{Table}
use Rattle.koika_check.specs.declared.checker.Checker.{Checker}
use Rattle.koika_check.specs.declared.checker.Signature.{Signature}
use Rattle.koika_check.specs.declared.shapes.Shape.{Shape}
use Rattle.koika_check.specs.declared.things.Thing.{Thing}
use Rattle.koika_check.specs.declared.things.Things.{Things}
use Rattle.koika_check.specs.declared.typed.ValueType.{ValueType}
use Rattle.koika_check.specs.declared.things.Kind.TheVariants as kind
use Rattle.koika_check.proofs.ArrayTypes.{get-last, get-push, le_split}
use Rattle.koika_check.proofs.Declared.{Adds_name, declared-push, each-kind, name-push, with_thing}
use Rattle.koika_check.proofs.Declaring.{marked}
use Rattle.koika_check.proofs.Extensions.{Extends, signature-extends, type-extends, types-extend, width-more}

-- what the second checker knows, told of the types that the first one knows
pub record Knows (a b : Checker) : Type 0 where
  pub things : AreThings b.things
  pub names : (name : List ℕ) → IsDeclared b.design name (thing_named b.things name)
  pub parts : AreParts b.parts
  pub members : (number : ℕ) → number < length b.design.enums → (name : List ℕ) →
      position_of b.parts (thing kind.Enum number) name ≡ number_of (map (λ (m : Member). m.name) (members_of b.design number)) name
  pub named_fields : (number : ℕ) → number < length b.design.structs → (name : List ℕ) →
      position_of b.parts (thing kind.Struct number) name ≡ field_named (fields_of b.design number) name
  pub widths : AreWidths b.design
  pub registers : AreTypes a b.registers (map (λ (r : Register). r.of) b.design.registers)
  pub inputs : AreTypes a b.inputs (map (λ (i : Input). i.of) b.design.inputs)
  pub each_fields : length b.fields ≡ length b.design.structs
  pub fields : (number : ℕ) (d : List Shape) → number < length b.fields → AreTypes a (get_or b.fields number d) (map (λ (f : CheckedField). f.of) (fields_of b.design number))
  pub each_function : length b.functions ≡ length b.design.functions
  pub functions : (number : ℕ) (s : Signature) (f : CheckedFunction) → number < length b.functions → IsSignature a (get_or b.functions number s) (get_or b.design.functions number f)
  pub locals : AreLocals b.locals
  pub bound : All (IsType a) (shapes_of b.locals)
  pub hosts : All (λ (h : HostSpec). TakesWidth h.kind h.in_width) b.hosts
  pub each_rule : length b.asserted ≡ length b.design.rules
  pub marks : (rule : ℕ) → get_or b.asserted rule false ≡ list_any (nat_eq rule) b.design.asserts

pub kept : (a b : Checker) → Extends a b → IsChecker a → Knows a b → IsChecker b
kept a b e h k = record {
  things = k.things;
  names = k.names;
  parts = k.parts;
  members = k.members;
  named_fields = k.named_fields;
  widths = k.widths;
  shapes = subst AreShapes (sym e.shapes) h.shapes;
  arrays = λ i d lt.
      let here : i < length a.shapes.arrays = omega (arith, lt, ap (λ s. length s.arrays) e.shapes) in
      let le : 1 ≤ width_of a.design (get_or (arrays_of a) i (bits 0)) = omega (arith, h.arrays i d here, (h.array_widths i d here).some) in
      ap (λ s. (get_or s.arrays i d).width) e.shapes ∙ h.arrays i d here ∙ sym (width-more a.design b.design e.design (get_or (arrays_of a) i (bits 0)) le)
      ∙ ap (λ (ts : List ValueType). width_of b.design (get_or ts i (bits 0))) (sym (same a b e));
  array_widths = λ i d lt.
      let here : i < length a.shapes.arrays = omega (arith, lt, ap (λ s. length s.arrays) e.shapes) in
      subst (λ s. IsWidth (get_or s.arrays i d).width) (sym e.shapes) (h.array_widths i d here);
  registers = types-extend a b e b.registers (map (λ (r : Register). r.of) b.design.registers) k.registers;
  inputs = types-extend a b e b.inputs (map (λ (i : Input). i.of) b.design.inputs) k.inputs;
  each_fields = k.each_fields;
  fields = λ number d lt. types-extend a b e (get_or b.fields number d) (map (λ (f : CheckedField). f.of) (fields_of b.design number)) (k.fields number d lt);
  each_function = k.each_function;
  functions = λ number s f lt. signature-extends a b e (get_or b.functions number s) (get_or b.design.functions number f) (k.functions number s f lt);
  locals = k.locals;
  bound = All-weaker (IsType a) (IsType b) (type-extends a b e) (shapes_of b.locals) k.bound;
  hosts = k.hosts;
  each_rule = k.each_rule;
  marks = k.marks;
}
  where
    same : (a b : Checker) → Extends a b → arrays_of b ≡ arrays_of a
    same a b e = ap (λ s. arrays_of (record a { shapes = s })) e.shapes

-- one more shape, and one more type
pub types-push : (a : Checker) (shapes : List Shape) (types : List ValueType) (s : Shape) (of : ValueType) → AreTypes a shapes types → Stands a s of → AreTypes a (shapes ++ s ∷ []) (types ++ of ∷ [])
types-push a shapes types s of h stands = record {
  are = ap₂ (λ (ts : List ValueType) (t : ValueType). ts ++ t ∷ []) h.are stands.0 ∙ sym (map-append (type_of_shape (arrays_of a)) shapes (s ∷ []));
  each = All-push (IsType a) shapes s h.each stands.1;
}

-- a name that wasn't declared is declared as a thing, and no other name
abbrev pub Declares : Things → List ℕ → Thing → Things → Type 0
Declares old name t new = AreThings new × ((other : List ℕ) → thing_named new other ≡ with_thing name t (thing_named old) other)

pub declares-at : (old new : Things) (name name' : List ℕ) (t t' : Thing) → name' ≡ name → t' ≡ t → AreThings new → ((other : List ℕ) → thing_named new other ≡ with_thing name' t' (thing_named old) other) → Declares old name t new
declares-at old new name name' t t' e f are h = (are, λ other. h other ∙ ap₂ (λ n u. with_thing n u (thing_named old) other) e f)

pub added-register : (a : Checker) → IsSettled a → (x : Register) (s : Shape) (name : List ℕ) (t : Things) → x.name ≡ name → thing_named a.things name ≡ None → Stands a s x.of → Declares a.things name (thing kind.Register (length a.design.registers)) t →
    IsSettled (record a { design = record a.design { registers = a.design.registers ++ x ∷ [] }; things = t; registers = a.registers ++ s ∷ [] })
added-register a h x s name t is new extra declares = record {
  checker = kept a _ (record { design = record { enums = ([], sym (append-nil a.design.enums)); structs = ([], sym (append-nil a.design.structs)) }; shapes = refl }) h.checker (record {
    things = declares.0;
    names = declared-push a.design (record a.design { registers = a.design.registers ++ x ∷ [] }) kind.Register name (thing_named a.things) (thing_named t)
        (each-kind (Adds_name a.design kind.Register name (record a.design { registers = a.design.registers ++ x ∷ [] })) refl refl (name-push (λ (y : Register). y.name) a.design.registers x name is) refl refl refl refl refl) new h.checker.names declares.1;
    parts = h.checker.parts;
    members = h.checker.members;
    named_fields = h.checker.named_fields;
    widths = record {
      enums = h.checker.widths.enums;
      structs = h.checker.widths.structs;
      tables = h.checker.widths.tables;
      hosts = h.checker.widths.hosts;
    };
    registers = subst (AreTypes a (a.registers ++ s ∷ [])) (sym (map-append (λ (y : Register). y.of) a.design.registers (x ∷ []))) (types-push a a.registers (map (λ (y : Register). y.of) a.design.registers) s x.of h.checker.registers extra);
    inputs = h.checker.inputs;
    each_fields = h.checker.each_fields;
    fields = h.checker.fields;
    each_function = h.checker.each_function;
    functions = h.checker.functions;
    locals = h.checker.locals;
    bound = h.checker.bound;
    hosts = h.checker.hosts;
    each_rule = h.checker.each_rule;
    marks = h.checker.marks;
  });
  unbound = h.unbound;
  no_members = h.no_members;
  no_fields = h.no_fields;
}

pub added-input : (a : Checker) → IsSettled a → (x : Input) (s : Shape) (name : List ℕ) (t : Things) → x.name ≡ name → thing_named a.things name ≡ None → Stands a s x.of → Declares a.things name (thing kind.Input (length a.design.inputs)) t →
    IsSettled (record a { design = record a.design { inputs = a.design.inputs ++ x ∷ [] }; things = t; inputs = a.inputs ++ s ∷ [] })
added-input a h x s name t is new extra declares = record {
  checker = kept a _ (record { design = record { enums = ([], sym (append-nil a.design.enums)); structs = ([], sym (append-nil a.design.structs)) }; shapes = refl }) h.checker (record {
    things = declares.0;
    names = declared-push a.design (record a.design { inputs = a.design.inputs ++ x ∷ [] }) kind.Input name (thing_named a.things) (thing_named t)
        (each-kind (Adds_name a.design kind.Input name (record a.design { inputs = a.design.inputs ++ x ∷ [] })) refl refl refl (name-push (λ (y : Input). y.name) a.design.inputs x name is) refl refl refl refl) new h.checker.names declares.1;
    parts = h.checker.parts;
    members = h.checker.members;
    named_fields = h.checker.named_fields;
    widths = record {
      enums = h.checker.widths.enums;
      structs = h.checker.widths.structs;
      tables = h.checker.widths.tables;
      hosts = h.checker.widths.hosts;
    };
    registers = h.checker.registers;
    inputs = subst (AreTypes a (a.inputs ++ s ∷ [])) (sym (map-append (λ (y : Input). y.of) a.design.inputs (x ∷ []))) (types-push a a.inputs (map (λ (y : Input). y.of) a.design.inputs) s x.of h.checker.inputs extra);
    each_fields = h.checker.each_fields;
    fields = h.checker.fields;
    each_function = h.checker.each_function;
    functions = h.checker.functions;
    locals = h.checker.locals;
    bound = h.checker.bound;
    hosts = h.checker.hosts;
    each_rule = h.checker.each_rule;
    marks = h.checker.marks;
  });
  unbound = h.unbound;
  no_members = h.no_members;
  no_fields = h.no_fields;
}

pub added-table : (a : Checker) → IsSettled a → (x : Table) (name : List ℕ) (t : Things) → x.name ≡ name → thing_named a.things name ≡ None → IsWidth x.spec.in_width × IsWidth x.spec.out_width → Declares a.things name (thing kind.Table (length a.design.tables)) t →
    IsSettled (record a { design = record a.design { tables = a.design.tables ++ x ∷ [] }; things = t })
added-table a h x name t is new extra declares = record {
  checker = kept a _ (record { design = record { enums = ([], sym (append-nil a.design.enums)); structs = ([], sym (append-nil a.design.structs)) }; shapes = refl }) h.checker (record {
    things = declares.0;
    names = declared-push a.design (record a.design { tables = a.design.tables ++ x ∷ [] }) kind.Table name (thing_named a.things) (thing_named t)
        (each-kind (Adds_name a.design kind.Table name (record a.design { tables = a.design.tables ++ x ∷ [] })) refl refl refl refl (name-push (λ (y : Table). y.name) a.design.tables x name is) refl refl refl) new h.checker.names declares.1;
    parts = h.checker.parts;
    members = h.checker.members;
    named_fields = h.checker.named_fields;
    widths = record {
      enums = h.checker.widths.enums;
      structs = h.checker.widths.structs;
      tables = All-push (λ (y : Table). IsWidth y.spec.in_width × IsWidth y.spec.out_width) a.design.tables x h.checker.widths.tables extra;
      hosts = h.checker.widths.hosts;
    };
    registers = h.checker.registers;
    inputs = h.checker.inputs;
    each_fields = h.checker.each_fields;
    fields = h.checker.fields;
    each_function = h.checker.each_function;
    functions = h.checker.functions;
    locals = h.checker.locals;
    bound = h.checker.bound;
    hosts = h.checker.hosts;
    each_rule = h.checker.each_rule;
    marks = h.checker.marks;
  });
  unbound = h.unbound;
  no_members = h.no_members;
  no_fields = h.no_fields;
}

pub added-host : (a : Checker) → IsSettled a → (x : Host) (name : List ℕ) (t : Things) → x.name ≡ name → thing_named a.things name ≡ None → TakesWidth x.spec.kind x.spec.in_width → Declares a.things name (thing kind.Host (length a.design.hosts)) t →
    IsSettled (record a { design = record a.design { hosts = a.design.hosts ++ x ∷ [] }; things = t })
added-host a h x name t is new extra declares = record {
  checker = kept a _ (record { design = record { enums = ([], sym (append-nil a.design.enums)); structs = ([], sym (append-nil a.design.structs)) }; shapes = refl }) h.checker (record {
    things = declares.0;
    names = declared-push a.design (record a.design { hosts = a.design.hosts ++ x ∷ [] }) kind.Host name (thing_named a.things) (thing_named t)
        (each-kind (Adds_name a.design kind.Host name (record a.design { hosts = a.design.hosts ++ x ∷ [] })) refl refl refl refl refl (name-push (λ (y : Host). y.name) a.design.hosts x name is) refl refl) new h.checker.names declares.1;
    parts = h.checker.parts;
    members = h.checker.members;
    named_fields = h.checker.named_fields;
    widths = record {
      enums = h.checker.widths.enums;
      structs = h.checker.widths.structs;
      tables = h.checker.widths.tables;
      hosts = All-push (λ (y : Host). TakesWidth y.spec.kind y.spec.in_width) a.design.hosts x h.checker.widths.hosts extra;
    };
    registers = h.checker.registers;
    inputs = h.checker.inputs;
    each_fields = h.checker.each_fields;
    fields = h.checker.fields;
    each_function = h.checker.each_function;
    functions = h.checker.functions;
    locals = h.checker.locals;
    bound = h.checker.bound;
    hosts = h.checker.hosts;
    each_rule = h.checker.each_rule;
    marks = h.checker.marks;
  });
  unbound = h.unbound;
  no_members = h.no_members;
  no_fields = h.no_fields;
}

pub added-function : (a : Checker) → IsSettled a → (x : CheckedFunction) (s : Signature) (name : List ℕ) (t : Things) → x.name ≡ name → thing_named a.things name ≡ None → IsSignature a s x → Declares a.things name (thing kind.Function (length a.design.functions)) t →
    IsSettled (record a { design = record a.design { functions = a.design.functions ++ x ∷ [] }; things = t; functions = a.functions ++ s ∷ [] })
added-function a h x s name t is new extra declares = record {
  checker = kept a _ (record { design = record { enums = ([], sym (append-nil a.design.enums)); structs = ([], sym (append-nil a.design.structs)) }; shapes = refl }) h.checker (record {
    things = declares.0;
    names = declared-push a.design (record a.design { functions = a.design.functions ++ x ∷ [] }) kind.Function name (thing_named a.things) (thing_named t)
        (each-kind (Adds_name a.design kind.Function name (record a.design { functions = a.design.functions ++ x ∷ [] })) refl refl refl refl refl refl (name-push (λ (y : CheckedFunction). y.name) a.design.functions x name is) refl) new h.checker.names declares.1;
    parts = h.checker.parts;
    members = h.checker.members;
    named_fields = h.checker.named_fields;
    widths = record {
      enums = h.checker.widths.enums;
      structs = h.checker.widths.structs;
      tables = h.checker.widths.tables;
      hosts = h.checker.widths.hosts;
    };
    registers = h.checker.registers;
    inputs = h.checker.inputs;
    each_fields = h.checker.each_fields;
    fields = h.checker.fields;
    each_function = omega (arith, length-append a.functions (s ∷ []), length-append a.design.functions (x ∷ []), h.checker.each_function);
    functions = λ number s' f' lt.
        elim (le_split number (length a.functions) (omega (arith, lt, length-append a.functions (s ∷ [])))) [
          | inl below ↦ subst (λ (u : Signature). IsSignature a u (get_or (a.design.functions ++ x ∷ []) number f')) (sym (get-push a.functions s s' number below))
              (subst (λ (g : CheckedFunction). IsSignature a (get_or a.functions number s') g) (sym (get-push a.design.functions x f' number (omega (arith, below, h.checker.each_function)))) (h.checker.functions number s' f' below))
          | inr last ↦ subst (λ (u : Signature). IsSignature a u (get_or (a.design.functions ++ x ∷ []) number f')) (sym (get-last a.functions s s' number last))
              (subst (λ (g : CheckedFunction). IsSignature a s g) (sym (get-last a.design.functions x f' number (omega (arith, last, h.checker.each_function)))) extra)
        ];
    locals = h.checker.locals;
    bound = h.checker.bound;
    hosts = h.checker.hosts;
    each_rule = h.checker.each_rule;
    marks = h.checker.marks;
  });
  unbound = h.unbound;
  no_members = h.no_members;
  no_fields = h.no_fields;
}

pub added-rule : (a : Checker) → IsSettled a → (x : CheckedRule) (name : List ℕ) (t : Things) → x.name ≡ name → thing_named a.things name ≡ None → Declares a.things name (thing kind.Rule (length a.design.rules)) t →
    IsSettled (record a { design = record a.design { rules = a.design.rules ++ x ∷ [] }; things = t; asserted = a.asserted ++ false ∷ [] })
added-rule a h x name t is new declares = record {
  checker = kept a _ (record { design = record { enums = ([], sym (append-nil a.design.enums)); structs = ([], sym (append-nil a.design.structs)) }; shapes = refl }) h.checker (record {
    things = declares.0;
    names = declared-push a.design (record a.design { rules = a.design.rules ++ x ∷ [] }) kind.Rule name (thing_named a.things) (thing_named t)
        (each-kind (Adds_name a.design kind.Rule name (record a.design { rules = a.design.rules ++ x ∷ [] })) refl refl refl refl refl refl refl (name-push (λ (y : CheckedRule). y.name) a.design.rules x name is)) new h.checker.names declares.1;
    parts = h.checker.parts;
    members = h.checker.members;
    named_fields = h.checker.named_fields;
    widths = record {
      enums = h.checker.widths.enums;
      structs = h.checker.widths.structs;
      tables = h.checker.widths.tables;
      hosts = h.checker.widths.hosts;
    };
    registers = h.checker.registers;
    inputs = h.checker.inputs;
    each_fields = h.checker.each_fields;
    fields = h.checker.fields;
    each_function = h.checker.each_function;
    functions = h.checker.functions;
    locals = h.checker.locals;
    bound = h.checker.bound;
    hosts = h.checker.hosts;
    each_rule = omega (arith, length-append a.asserted (false ∷ []), length-append a.design.rules (x ∷ []), h.checker.each_rule);
    marks = λ rule. unmarked a.asserted rule ∙ h.checker.marks rule;
  });
  unbound = h.unbound;
  no_members = h.no_members;
  no_fields = h.no_fields;
}
  where
    unmarked : (xs : List Bool) (i : ℕ) → get_or (xs ++ false ∷ []) i false ≡ get_or xs i false
    unmarked [] zero = refl
    unmarked [] (suc i) = refl
    unmarked (y ∷ xs) zero = refl
    unmarked (y ∷ xs) (suc i) = unmarked xs i

-- a rule that is marked
abbrev marked_in : Checked → ℕ → Checked
marked_in d rule = record d { asserts = d.asserts ++ rule ∷ [] }

pub added-assert : (a : Checker) → IsSettled a → (rule : ℕ) → rule < length a.design.rules → IsSettled (record a { design = record a.design { asserts = a.design.asserts ++ rule ∷ [] }; asserted = set a.asserted rule true })
added-assert a h rule lt = record {
  checker = kept a _ (record { design = record { enums = ([], sym (append-nil a.design.enums)); structs = ([], sym (append-nil a.design.structs)) }; shapes = refl }) h.checker (record {
    things = h.checker.things;
    names = λ name j. h.checker.names name j ∙ ap (λ names. number_of names name) (each-kind (λ k. names_of k a.design ≡ names_of k (marked_in a.design rule)) refl refl refl refl refl refl refl refl j);
    parts = h.checker.parts;
    members = h.checker.members;
    named_fields = h.checker.named_fields;
    widths = record { enums = h.checker.widths.enums; structs = h.checker.widths.structs; tables = h.checker.widths.tables; hosts = h.checker.widths.hosts };
    registers = h.checker.registers;
    inputs = h.checker.inputs;
    each_fields = h.checker.each_fields;
    fields = h.checker.fields;
    each_function = h.checker.each_function;
    functions = h.checker.functions;
    locals = h.checker.locals;
    bound = h.checker.bound;
    hosts = h.checker.hosts;
    each_rule = length-set a.asserted rule true ∙ h.checker.each_rule;
    marks = marked a.asserted a.design.asserts rule (omega (arith, lt, h.checker.each_rule)) h.checker.marks;
  });
  unbound = h.unbound;
  no_members = h.no_members;
  no_fields = h.no_fields;
}
