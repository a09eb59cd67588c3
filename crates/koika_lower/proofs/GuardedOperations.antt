-- Operations on values of the types that they take are never stuck, and come to a value of their type.
use Rattle.std.proofs.Common.{◌≡◌, ℕ, ◌<◌, ◌≤◌, ◌+◌, ◌/◌, ◌^◌, List, [], ◌∷◌, length, map, replicate, Option, Some, None, slice_get, slice_index_or, option_map, if◌then◌else◌, nat_eq, nat_lt, arith, refl, ap, sym, subst, ◌∙◌}
use Rattle.std.specs.Prelude.{reverse}
use Rattle.std.proofs.lemmas.Bool.{eq-eqb, lt-ltb}
use Rattle.std.proofs.lemmas.List.{length-map, length-replicate}
use Rattle.std.proofs.lemmas.Option.{slice_get-get_or, slice_get-map}
use Rattle.kw_bits.specs.BitVector.{BitVector}
use Rattle.kw_bits.specs.Host as host
use Rattle.kw_bits.specs.Laws.{HasWidth}
use Rattle.kw_bits.specs.declared.host.HostSpec.{HostSpec}
use Rattle.koika_types.specs.Values.{packed}
use Rattle.koika_types.specs.declared.value.Value.{Value}
use Rattle.koika_types.specs.declared.value.Value.TheOpen.{Value-F}
use Rattle.koika_types.specs.declared.value.Value.TheVariants as value
use Rattle.typed_core.specs.Evaluation.{Evaluation, Ports, ◌>>=◌, answer_of, comes_to, entry_of, unit}
use Rattle.typed_core.specs.Fits.{PortsFit, ValueFits}
use Rattle.typed_core.specs.Valid.{IsHost, IsPort, IsTable, IsWidth}
use Rattle.typed_core.specs.declared.limits.TheConstants.{PORTS}
use Rattle.typed_core.specs.declared.outcome.Stopped.{Stopped}
use Rattle.koika_check.specs.Composites.{fields_by, fields_of}
use Rattle.koika_check.specs.Meaning.{Meaning, RuleSetting, all_selected, apply, body_by, chained, comparison_value, extension_value, gives, host_by, joined_arguments, prefixed, read_as, updated, table_by, unpacked}
use Rattle.koika_check.specs.Types.{array, bits, of_base, width_of}
use Rattle.koika_check.specs.Typing.{Applies, IsOf, IsRegister, IsType, IsTypedDesign, Pairwise}
use Rattle.koika_check.specs.declared.checked.Checked.{Checked}
use Rattle.koika_check.specs.declared.checked.CheckedField.{CheckedField}
use Rattle.koika_check.specs.declared.checked.CheckedFunction.{CheckedFunction}
use Rattle.koika_check.specs.declared.checked.Host.{Host}
use Rattle.koika_check.specs.declared.checked.Register.{Register}
use Rattle.koika_check.specs.declared.checked.Struct.{Struct}
use Rattle.koika_check.specs.declared.checked.Table.{Table}
use Rattle.koika_check.specs.declared.typed.BaseType.TheVariants as base
use Rattle.koika_check.specs.declared.typed.Operation.{Operation}
use Rattle.koika_check.specs.declared.typed.Operation.TheVariants as operation
use Rattle.koika_check.specs.declared.typed.ValueType.{ValueType}
use Rattle.koika_lower.specs.Guarded.{Cause, all_at, chained_if, gives_number, guarded_apply, replaced_at, stuck, unpacked_if, unstuck, unstuck_ports, with_register, with_some}
use Rattle.koika_lower.specs.Lowering.{register_widths}
use Rattle.koika_lower.proofs.Agreements.{Agrees, AllHave, Has, HasIf, agrees-bind, agrees-port, agrees-some, agrees-stop, agrees-test, agrees-value, all-are}
use Rattle.koika_lower.proofs.Constructs.{bits-width, extended-width, prefixed-width}
use Rattle.koika_lower.proofs.Groups.{below-width, chains-bits}
use Rattle.koika_lower.proofs.GuardedParts.{all-there, bits-have, chain-there, number-has, pair-count, replaced-there, selected-has, stand-all, stands, unpacked-there}
use Rattle.koika_lower.proofs.Hosts.{answer_wide, arguments-total, arity-cases, comparison-width, joined_arguments-below}
use Rattle.koika_lower.proofs.Operands.{onto, onto-reverse}
use Rattle.koika_check.proofs.TypingLayers.{close-IsOf}
use Rattle.koika_lower.proofs.Values.{all-get, declared-struct, updated-stands, total, unpacked-stands}

-- the body of a function, and the guarded one
pub record Body (d : Checked) (f : CheckedFunction) (o : Option (Meaning Stopped)) (q : Option (Meaning Cause)) : Type 0 where
  pub body : Meaning Stopped
  pub guarded : Meaning Cause
  pub is : o ≡ Some body
  pub guarded_is : q ≡ Some guarded
  pub agrees : (values : List Value) → AllHave d values (reverse f.parameters) → Agrees (register_widths d) (HasIf d f.result) (body values) (guarded values)

-- arguments the other way round
onto-have : (d : Checked) (vs : List Value) (ts : List ValueType) (ws : List Value) (us : List ValueType) → AllHave d vs ts → AllHave d ws us → AllHave d (onto vs ws) (onto ts us)
onto-have d [] [] ws us have more = more
onto-have d [] (t ∷ ts) ws us have more = absurd have
onto-have d (v ∷ vs) [] ws us have more = absurd have
onto-have d (v ∷ vs) (t ∷ ts) ws us have more = onto-have d vs ts (v ∷ ws) (t ∷ us) have.1 (have.0, more)

reverse-have : (d : Checked) (vs : List Value) (ts : List ValueType) → AllHave d vs ts → AllHave d (reverse vs) (reverse ts)
reverse-have d vs ts have =
    subst (λ us. AllHave d (reverse vs) us) (onto-reverse ts) (subst (λ ws. AllHave d ws (onto ts [])) (onto-reverse vs) (onto-have d vs ts [] [] have tt))

module _ (d : Checked) (is : IsTypedDesign d) (n : ℕ) (inputs : List BitVector) (ports : Ports Stopped) (fit : PortsFit (register_widths d) ports) (bodies : List (Meaning Stopped)) (guarded : List (Meaning Cause))
    (callable : (number : ℕ) (f : CheckedFunction) → number < n → slice_get d.functions number ≡ Some f → Body d f (slice_get bodies number) (slice_get guarded number)) where
  abbrev pub regs : List ℕ
  regs = register_widths d

  abbrev pub plain_setting : RuleSetting Stopped
  plain_setting = record { design = d; inputs = inputs; ports = ports; bodies = bodies }

  abbrev pub guarded_one : RuleSetting Cause
  guarded_one = record { design = d; inputs = inputs; ports = unstuck_ports ports; bodies = guarded }

  -- the operation on these values
  abbrev Fine : Operation → Option ValueType → List Value → Type 0
  Fine o of vs = Agrees regs (HasIf d of) (apply plain_setting o vs) (guarded_apply guarded_one o vs)

  -- a value of the type
  pub comes : (of : Option ValueType) (t : ValueType) (v : Value) → of ≡ Some t → Has d v t → Agrees regs (HasIf d of) (gives v) (gives v)
  comes of t v e has = subst (λ (o : Option ValueType). Agrees regs (HasIf d o) (gives v) (gives v)) (sym e) (agrees-value regs (HasIf d (Some t)) (Some v) has)

  number-comes : (of : Option ValueType) (width : ℕ) (x : BitVector) → of ≡ Some (bits width) → HasWidth x width → Agrees regs (HasIf d of) (gives (value.Number x)) (gives_number x)
  number-comes of width x e h = comes of (bits width) (value.Number x) e (number-has d width x h)

  -- what bits are unpacked to
  pub unpacks : (of : Option ValueType) (t : ValueType) (x : BitVector) → of ≡ Some t → IsType d t → HasWidth x (width_of d t) → Agrees regs (HasIf d of) (gives (unpacked d t x)) (with_some gives (unpacked_if d t x))
  unpacks of t x e valid h =
      agrees-some regs (HasIf d of) (gives (unpacked d t x)) gives (unpacked_if d t x) (unpacked d t x) (unpacked-there d is t x valid) (comes of t (unpacked d t x) e ((unpacked-stands d is t x valid h).0, valid))

  -- as many values as types
  none : (A : List Value → Type 0) (vs : List Value) → AllHave d vs [] → A [] → A vs
  none A [] have next = next
  none A (v ∷ vs) have next = absurd have

  one : (A : List Value → Type 0) (t : ValueType) (vs : List Value) → AllHave d vs (t ∷ []) → ((v : Value) → Has d v t → A (v ∷ [])) → A vs
  one A t [] have next = absurd have
  one A t (v ∷ []) have next = next v have.0
  one A t (v ∷ w ∷ vs) have next = absurd have.1

  two : (A : List Value → Type 0) (t u : ValueType) (vs : List Value) → AllHave d vs (t ∷ u ∷ []) → ((v w : Value) → Has d v t → Has d w u → A (v ∷ w ∷ [])) → A vs
  two A t u [] have next = absurd have
  two A t u (v ∷ []) have next = absurd have.1
  two A t u (v ∷ w ∷ []) have next = next v w have.0 have.1.0
  two A t u (v ∷ w ∷ x ∷ vs) have next = absurd have.1.1

  -- the bits of a value of a type of bits
  own_bits : (v : Value) (t : ValueType) (width : ℕ) → Has d v t → t ≡ bits width → HasWidth (packed v) width
  own_bits v t width has e = bits-width d t width (packed v) e (bits-have d is v t has)

  -- ---- tables and host functions

  table-fine : (number : ℕ) (t : ValueType) (of : Option ValueType) (v : Value) → Has d v t → Applies d n (operation.Table number) (t ∷ []) of → Fine (operation.Table number) of (v ∷ [])
  table-fine number t of v has h =
      let table : Table = h.0 in
      let ok = all-get (λ (x : Table). IsTable x.spec × IsWidth x.spec.out_width) d.tables number table is.tables h.1 in
      let x : BitVector = packed v in
      let wide : HasWidth x table.spec.in_width = own_bits v t table.spec.in_width has h.2 in
      let within : x.number < length table.spec.entries = subst (λ k. x.number < k) (sym (ok.0.count ∙ ap (λ w. 2 ^ w) (sym wide.1))) wide.0.in_range in
      let entry : BitVector = slice_index_or table.spec.entries x.number unit in
      subst (λ (o : Option Table). Agrees regs (HasIf d of) (gives (value.Number (entry_of (table_by o) x))) (with_some (λ (t : Table). with_some gives_number (slice_get t.spec.entries x.number)) o)) (sym h.1)
      (agrees-some regs (HasIf d of) (gives (value.Number entry)) gives_number (slice_get table.spec.entries x.number) entry (slice_get-get_or table.spec.entries x.number unit within)
      (number-comes of table.spec.out_width entry h.3 (ok.0.entries x.number unit within)))

  host-fine : (number : ℕ) (t : ValueType) (ts : List ValueType) (of : Option ValueType) (v : Value) (vs : List Value) → AllHave d (v ∷ vs) (t ∷ ts) → Applies d n (operation.Host number) (t ∷ ts) of →
      Fine (operation.Host number) of (v ∷ vs)
  host-fine number t ts of v vs have h =
      let function : Host = h.0 in
      let spec : HostSpec = function.spec in
      let ok = all-get (λ (x : Host). IsHost x.spec) d.hosts number function is.hosts h.1 in
      let whole : total d (t ∷ ts) ≡ spec.in_width = ap (total d) h.2 ∙ arguments-total d spec ok (host.arity spec.kind) (arity-cases spec.kind) refl in
      let few : width_of d t + total d ts ≤ 128 = omega (arith, whole, ok.no_wider) in
      let all = stand-all d is vs ts have.1 in
      let b = below-width d (packed v) (width_of d t) ts vs (map packed vs) (bits-have d is v t have.0) all few in
      let x : BitVector = joined_arguments (packed v) vs in
      let wide : HasWidth x spec.in_width = subst (λ y. HasWidth y spec.in_width) (sym (joined_arguments-below d ts vs (map packed vs) (packed v) all)) (b.0, b.1 ∙ whole) in
      let count : length (v ∷ vs) ≡ host.arity spec.kind =
      pair-count (Has d) (v ∷ vs) (t ∷ ts) have ∙ ap length h.2 ∙ length-replicate (host.arity spec.kind) (bits (spec.in_width / host.arity spec.kind)) in
      subst (λ (o : Option Host). Agrees regs (HasIf d of) (gives (value.Number (answer_of (host_by o) x)))
      (with_some (λ (k : Host). if nat_eq (length (v ∷ vs)) (host.arity k.spec.kind) then gives_number (host.value k.spec.kind x) else stuck) o)) (sym h.1)
      (agrees-test regs (HasIf d of) (nat_eq (length (v ∷ vs)) (host.arity spec.kind)) (gives (value.Number (host.value spec.kind x))) (gives_number (host.value spec.kind x)) stuck
      (eq-eqb (length (v ∷ vs)) (host.arity spec.kind) count)
      (number-comes of (host.out_width spec.kind spec.in_width) (host.value spec.kind x) h.3 (answer_wide x spec ok wide)))

  no-host : (number : ℕ) (of : Option ValueType) → Applies d n (operation.Host number) [] of → ⊥
  no-host number of h =
      let ok = all-get (λ (x : Host). IsHost x.spec) d.hosts number h.0 is.hosts h.1 in
      omega (arith, ap (total d) h.2, arguments-total d h.0.spec ok (host.arity h.0.spec.kind) (arity-cases h.0.spec.kind) refl, ok.some_bit)

  -- ---- registers

  register-width : (register : ℕ) (r : Register) → slice_get d.registers register ≡ Some r → slice_get regs register ≡ Some (width_of d r.of)
  register-width register r at =
      let ok = all-get (IsRegister d) d.registers register r is.registers at in
      slice_get-map (λ (x : Register). x.width) d.registers register ∙ ap (option_map (λ (x : Register). x.width)) at ∙ ap Some ok.width

  -- a register that is declared, at a port that there is
  held : (port register : ℕ) (r : Register) (of : Option ValueType) (m : Evaluation (Option Value) Stopped) (next : Register → Evaluation (Option Value) Cause) → IsPort port → slice_get d.registers register ≡ Some r →
      Agrees regs (HasIf d of) m (next r) → Agrees regs (HasIf d of) m (with_register guarded_one port register next)
  held port register r of m next there at agrees =
      agrees-test regs (HasIf d of) (nat_lt port PORTS) m (with_some next (slice_get d.registers register)) stuck (lt-ltb port PORTS there)
      (agrees-some regs (HasIf d of) m next (slice_get d.registers register) r at agrees)

  read-fine : (port register : ℕ) (of : Option ValueType) → Applies d n (operation.Read port register) [] of → Fine (operation.Read port register) of []
  read-fine port register of h =
      let r : Register = h.0 in
      let ok = all-get (IsRegister d) d.registers register r is.registers h.2 in
      held port register r of (apply plain_setting (operation.Read port register) []) (λ (q : Register). (unstuck_ports ports).read port register >>= λ x. with_some gives (unpacked_if d q.of x)) h.1 h.2
      (agrees-bind regs (ValueFits (width_of d r.of)) (HasIf d of) (λ x. read_as d (slice_get d.registers register) x) (λ x. with_some gives (unpacked_if d r.of x))
      (λ x fits.
      subst (λ (o : Option Register). Agrees regs (HasIf d of) (read_as d o x) (with_some gives (unpacked_if d r.of x))) (sym h.2)
      (unpacks of r.of x h.3 ok.of (fits.bits ok.of.0, fits.as_wide)))
      (ports.read port register) (λ events. unstuck (ports.read port register events))
      (agrees-port regs (width_of d r.of) (ports.read port register) (λ events known. fit.read port register (width_of d r.of) events h.1 (register-width register r h.2) known)))

  write-fine : (port register : ℕ) (t : ValueType) (of : Option ValueType) (v : Value) → Has d v t → Applies d n (operation.Write port register) (t ∷ []) of → Fine (operation.Write port register) of (v ∷ [])
  write-fine port register t of v has h =
      let r : Register = h.0 in
      let wide : HasWidth (packed v) (width_of d r.of) = subst (λ (q : ValueType). HasWidth (packed v) (width_of d q)) h.3 (bits-have d is v t has) in
      held port register r of (apply plain_setting (operation.Write port register) (v ∷ [])) (λ _. (unstuck_ports ports).write port register (packed v) >>= λ _. comes_to None) h.1 h.2
      (agrees-bind regs (ValueFits 0) (HasIf d of) (λ _. comes_to None) (λ _. comes_to None)
      (λ x fits. subst (λ (o : Option ValueType). Agrees regs (HasIf d o) (comes_to None) (comes_to None)) (sym h.4) (agrees-value regs (HasIf d None) None tt))
      (ports.write port register (packed v)) (λ events. unstuck (ports.write port register (packed v) events))
      (agrees-port regs 0 (ports.write port register (packed v)) (λ events known. fit.write port register (width_of d r.of) (packed v) events h.1 (register-width register r h.2) wide known)))

  -- ---- calls

  call-fine : (number : ℕ) (ts : List ValueType) (of : Option ValueType) (vs : List Value) → AllHave d vs ts → Applies d n (operation.Call number) ts of → Fine (operation.Call number) of vs
  call-fine number ts of vs have h =
      let f : CheckedFunction = h.0 in
      let b = callable number f h.1 h.2 in
      let arguments : AllHave d (reverse vs) (reverse f.parameters) = subst (λ us. AllHave d (reverse vs) (reverse us)) h.3 (reverse-have d vs ts have) in
      let count : length vs ≡ length f.parameters = pair-count (Has d) vs ts have ∙ ap length h.3 in
      let called : Evaluation (Option Value) Stopped = body_by (slice_get bodies number) (reverse vs) in
      let guarded_call : Evaluation (Option Value) Cause = with_some (λ (body : Meaning Cause). body (reverse vs)) (slice_get guarded number) in
      subst (λ (o : Option ValueType). Fine (operation.Call number) o vs) (sym h.4)
      (agrees-some regs (HasIf d f.result) called (λ (q : CheckedFunction). if nat_eq (length vs) (length q.parameters) then guarded_call else stuck) (slice_get d.functions number) f h.2
      (agrees-test regs (HasIf d f.result) (nat_eq (length vs) (length f.parameters)) called guarded_call stuck (eq-eqb (length vs) (length f.parameters) count)
      (agrees-some regs (HasIf d f.result) called (λ (body : Meaning Cause). body (reverse vs)) (slice_get guarded number) b.guarded b.guarded_is
      (subst (λ (o : Option (Meaning Stopped)). Agrees regs (HasIf d f.result) (body_by o (reverse vs)) (b.guarded (reverse vs))) (sym b.is) (b.agrees (reverse vs) arguments)))))

  -- ---- all operations

  pub applies-fine : (o : Operation) (ts : List ValueType) (of : Option ValueType) (vs : List Value) → AllHave d vs ts → Applies d n o ts of → Agrees regs (HasIf d of) (apply plain_setting o vs) (guarded_apply guarded_one o vs)
  applies-fine (operation.Unary operators) [] of vs have h = absurd h
  applies-fine (operation.Unary operators) (t ∷ u ∷ ts) of vs have h = absurd h
  applies-fine (operation.Unary operators) (t ∷ []) of vs have h = one (Fine (operation.Unary operators) of) t vs have
      (λ v has. number-comes of h.0 (prefixed operators (packed v)) (h.2 ∙ ap Some h.1) (prefixed-width operators (packed v) h.0 (own_bits v t h.0 has h.1)))
  applies-fine (operation.Chain operators width) [] of vs have h = absurd h
  applies-fine (operation.Chain operators width) (t ∷ ts) of [] have h = absurd have
  applies-fine (operation.Chain operators width) (t ∷ ts) of (v ∷ vs) have h =
      let there = chain-there d is operators t ts h.1 (packed v) vs have.1 h.2 (bits-have d is v t have.0) in
      let b = chains-bits operators t ts h.1 h.0 h.2 in
      let x : BitVector = chained operators (packed v) vs in
      agrees-some regs (HasIf d of) (gives (value.Number x)) gives_number (chained_if operators (packed v) vs) x there.0 (number-comes of b.width x (h.3 ∙ ap Some b.is) (bits-width d h.1 b.width x b.is there.1))
  applies-fine (operation.Select selections) [] of vs have h = absurd h
  applies-fine (operation.Select selections) (t ∷ u ∷ ts) of vs have h = absurd h
  applies-fine (operation.Select selections) (t ∷ []) of vs have h = one (Fine (operation.Select selections) of) t vs have
      (λ v has. agrees-some regs (HasIf d of) (gives (all_selected v selections)) gives (all_at (Some v) selections) (all_selected v selections) (all-there d is selections t h.0 v has h.1)
      (comes of h.0 (all_selected v selections) h.2 (selected-has d is selections t h.0 v has h.1)))
  applies-fine (operation.Update s) [] of vs have h = absurd h
  applies-fine (operation.Update s) (t ∷ []) of vs have h = absurd h
  applies-fine (operation.Update s) (t ∷ u ∷ w ∷ ts) of vs have h = absurd h
  applies-fine (operation.Update s) (t ∷ u ∷ []) of vs have h = two (Fine (operation.Update s) of) t u vs have
      (λ v new has has'. agrees-some regs (HasIf d of) (gives (updated v s new)) (λ _. gives (updated v s new)) (replaced_at v s) _ (replaced-there d is s t u v has h.0)
      (comes of t (updated v s new) h.1 ((updated-stands d is s t u v new (packed v) (packed new) has.1 h.0 (stands d is v t has) (stands d is new u has')).0, has.1)))
  applies-fine (operation.Struct number) ts of vs have h =
      let it = declared-struct d number h.1 in
      let count : length vs ≡ length it.struct.fields =
      pair-count (Has d) vs ts have ∙ ap length h.0 ∙ length-map (fields_of d number) (λ (f : CheckedField). f.of) ∙ ap (λ (o : Option Struct). length (fields_by o)) it.is in
      agrees-some regs (HasIf d of) (gives (value.Fields number vs)) (λ (struct : Struct). if nat_eq (length vs) (length struct.fields) then gives (value.Fields number vs) else stuck) (slice_get d.structs number) it.struct it.is
      (agrees-test regs (HasIf d of) (nat_eq (length vs) (length it.struct.fields)) (gives (value.Fields number vs)) (gives (value.Fields number vs)) stuck (eq-eqb (length vs) (length it.struct.fields) count)
      (comes of (of_base (base.Struct number)) (value.Fields number vs) h.2
      (close-IsOf d (value.Fields number vs) (Value-F.Fields number vs) (value.rolls-Fields number vs) (of_base (base.Struct number)) (refl, subst (λ us. Pairwise (IsOf d) vs us) h.0 (all-are d vs ts have)), h.1)))
  applies-fine operation.Array ts of vs have h =
      let count : length vs ≡ length ts = pair-count (Has d) vs ts have in
      let item : ValueType = h.0 in
      comes of (array (length ts) item) (value.Items vs) h.3 (
        close-IsOf d (value.Items vs) (Value-F.Items vs) (value.rolls-Items vs) (array (length ts) item)
            (item, ap (λ k. array k item) (sym count), subst (λ k. Pairwise (IsOf d) vs (replicate k item)) (sym count) (subst (λ us. Pairwise (IsOf d) vs us) h.1 (all-are d vs ts have))),
        h.2,
      )
  applies-fine operation.Pack [] of vs have h = absurd h
  applies-fine operation.Pack (t ∷ u ∷ ts) of vs have h = absurd h
  applies-fine operation.Pack (t ∷ []) of vs have h = one (Fine operation.Pack of) t vs have (λ v has. number-comes of (width_of d t) (packed v) h (bits-have d is v t has))
  applies-fine (operation.Unpack to) [] of vs have h = absurd h
  applies-fine (operation.Unpack to) (t ∷ u ∷ ts) of vs have h = absurd h
  applies-fine (operation.Unpack to) (t ∷ []) of vs have h = one (Fine (operation.Unpack to) of) t vs have
      (λ v has. unpacks of to (packed v) h.2 h.0 (own_bits v t (width_of d to) has h.1))
  applies-fine (operation.Extend extension width) [] of vs have h = absurd h
  applies-fine (operation.Extend extension width) (t ∷ u ∷ ts) of vs have h = absurd h
  applies-fine (operation.Extend extension width) (t ∷ []) of vs have h = one (Fine (operation.Extend extension width) of) t vs have
      (λ v has. number-comes of width (extension_value extension (packed v) width) h.4 (extended-width extension (packed v) h.0 width (own_bits v t h.0 has h.1) h.2 h.3))
  applies-fine (operation.Compare comparison) [] of vs have h = absurd h
  applies-fine (operation.Compare comparison) (t ∷ []) of vs have h = absurd h
  applies-fine (operation.Compare comparison) (t ∷ u ∷ w ∷ ts) of vs have h = absurd h
  applies-fine (operation.Compare comparison) (t ∷ u ∷ []) of vs have h = two (Fine (operation.Compare comparison) of) t u vs have
      (λ v w has has'. number-comes of 1 (comparison_value comparison (packed v) (packed w)) (h.2 ∙ ap Some h.1.2)
      (comparison-width comparison (packed v) (packed w) h.1.0 (own_bits v t h.1.0 has h.1.1.0) (own_bits w u h.1.0 has' h.1.1.1)))
  applies-fine (operation.Table number) [] of vs have h = absurd h
  applies-fine (operation.Table number) (t ∷ u ∷ ts) of vs have h = absurd h
  applies-fine (operation.Table number) (t ∷ []) of vs have h = one (Fine (operation.Table number) of) t vs have (λ v has. table-fine number t of v has h)
  applies-fine (operation.Host number) [] of vs have h = absurd (no-host number of h)
  applies-fine (operation.Host number) (t ∷ ts) of [] have h = absurd have
  applies-fine (operation.Host number) (t ∷ ts) of (v ∷ vs) have h = host-fine number t ts of v vs have h
  applies-fine (operation.Call number) ts of vs have h = call-fine number ts of vs have h
  applies-fine (operation.Read port register) (t ∷ ts) of vs have h = absurd h
  applies-fine (operation.Read port register) [] of vs have h = none (Fine (operation.Read port register) of) vs have (read-fine port register of h)
  applies-fine (operation.Write port register) [] of vs have h = absurd h
  applies-fine (operation.Write port register) (t ∷ u ∷ ts) of vs have h = absurd h
  applies-fine (operation.Write port register) (t ∷ []) of vs have h = one (Fine (operation.Write port register) of) t vs have (λ v has. write-fine port register t of v has h)
  applies-fine operation.Abort (t ∷ ts) of vs have h = absurd h
  applies-fine operation.Abort [] of vs have h = none (Fine operation.Abort of) vs have (agrees-stop regs (HasIf d of) ports.abort)
