-- Tables, host functions, reads and writes are lowered.
use Rattle.std.proofs.Common.{◌≡◌, ℕ, ◌<◌, List, [], ◌∷◌, ◌++◌, length, Option, Some, None, option_map, slice_get, false, refl, ap, sym, subst, ◌∙◌}
use Rattle.std.specs.Prelude.{◌^◌}
use Rattle.std.proofs.lemmas.Option.{slice_get-map}
use Rattle.kw_bits.specs.BitVector.{BitVector}
use Rattle.kw_bits.specs.Laws.{HasWidth}
use Rattle.koika_types.specs.Values.{packed}
use Rattle.typed_core.specs.Evaluation.{Ending, Value as Reached, Stop, Evaluation, Ports, ◌>>=◌, comes_to, entry_of, stops, unit}
use Rattle.typed_core.specs.Fits.{EventsFit, ProgressFits, ValueFits, EndingFits}
use Rattle.typed_core.specs.Valid.{ActionHasWidth, IsTable, IsWidth}
use Rattle.typed_core.specs.declared.access.Event.{Event}
use Rattle.typed_core.specs.declared.action.Action.TheVariants as action
use Rattle.kw_bits.specs.declared.table.TableSpec.{TableSpec}
use Rattle.typed_core.specs.declared.outcome.Stopped.{Stopped}
use Rattle.koika_check.specs.Meaning.{read_as, table_by, unpacked}
use Rattle.koika_check.specs.Types.{bits, width_of}
use Rattle.koika_check.specs.Typing.{IsRegister}
use Rattle.koika_check.specs.declared.checked.Checked.{Checked}
use Rattle.koika_check.specs.declared.checked.Register.{Register}
use Rattle.koika_check.specs.declared.checked.Table.{Table}
use Rattle.koika_check.specs.declared.typed.Operation.TheVariants as operation
use Rattle.koika_check.specs.declared.typed.ValueType.{ValueType}
use Rattle.koika_lower.specs.inner.Applied.{IsAskedTable, IsWritten}
use Rattle.koika_lower.specs.Lowering.{register_widths}
use Rattle.koika_lower.specs.inner.Simulation.{EndAlike, IsApplied, Lowers, LowersAll, Sense, Simulates, Stands, apply_sense, declared_by, externs_of, world}
use Rattle.koika_lower.specs.declared.lowered.Bound.{Bound}
use Rattle.koika_lower.specs.declared.lowered.Lowered.{Lowered}
use Rattle.koika_lower.proofs.Constructs.{bits-come, one-lowers, single, valid-bits, world-design, world-ports}
use Rattle.koika_lower.proofs.Simulations.{sim-stop, sim-then, sim-value}
use Rattle.koika_lower.proofs.Values.{all-get, unpacked-stands}
use Rattle.koika_lower.proofs.Widths.{width-bits}

-- ---- tables

module _ (d : Checked) (n depth : ℕ) (names : List Bound) (types : List ValueType) where
  pub table-lowers : (number : ℕ) (ts : List ValueType) (of : Option ValueType) (senses : List Sense) (operands init : List Lowered) (last l : Lowered) →
      operands ≡ init ++ last ∷ [] → IsAskedTable d number last l → IsApplied d n depth names types (operation.Table number) ts of senses operands →
      Lowers d n depth names types of (apply_sense (operation.Table number) senses) l
  table-lowers number [] of senses operands init last l e h given = absurd given.applies
  table-lowers number (t ∷ u ∷ ts) of senses operands init last l e h given = absurd given.applies
  table-lowers number (t ∷ []) of senses operands init last l e h given =
      let it = given.applies in
      let table : Table = it.0 in
      let lone = (single d n depth false names types t senses operands init last e given.all).lowers in
      let ok = all-get (λ (x : Table). IsTable x.spec × IsWidth x.spec.out_width) d.tables number table given.design.tables it.1 in
      let from : width_of d t ≡ table.spec.in_width = ap (width_of d) it.2 ∙ width-bits d table.spec.in_width in
      let core : slice_get (externs_of d).tables number ≡ Some table.spec = slice_get-map (λ (x : Table). x.spec) d.tables number ∙ ap (option_map (λ (x : Table). x.spec)) it.1 in
      subst (λ (r : Option ValueType). Lowers d n depth names types r (apply_sense (operation.Table number) senses) l) (sym it.3)
      (one-lowers d n depth names types (operation.Table number) t (Some (bits table.spec.out_width)) senses operands init last l e false given.all (valid-bits d table.spec.out_width ok.1)
      (λ env ports x. comes_to (entry_of (slice_get env.externs.tables number) x)) h.means (h.width table it.1 ∙ sym (width-bits d table.spec.out_width))
      (λ widths a valid. subst (λ w. ActionHasWidth (declared_by d) l.action widths w) (sym (width-bits d table.spec.out_width))
      (h.typed (declared_by d) widths (width_of d t) table.spec.out_width a valid.0 (table.spec, core, sym from, refl)))
      (λ inputs ports v x p is. bits-come d (register_widths d) table.spec.out_width (entry_of (slice_get (externs_of d).tables number) x)
      (entry_of (table_by (slice_get (world d n inputs ports).design.tables number)) (packed v))
      (ap (λ (c : Checked). entry_of (table_by (slice_get c.tables number)) (packed v)) (world-design d n inputs ports)
      ∙ ap (λ (o : Option Table). entry_of (table_by o) (packed v)) it.1
      ∙ ap (entry_of (Some table.spec)) is.1
      ∙ ap (λ (o : Option TableSpec). entry_of o x) (sym core))
      (subst (λ (o : Option TableSpec). HasWidth (entry_of o x) table.spec.out_width) (sym core)
      (ok.0.entries x.number unit (entry_within x table.spec ok.0 (is.2.0, is.2.1 ∙ from))))))
    where
      entry_within : (x : BitVector) (spec : TableSpec) → IsTable spec → HasWidth x spec.in_width → x.number < length spec.entries
      entry_within x spec ok h = subst (λ k. x.number < k) (sym (ok.count ∙ ap (λ w. 2 ^ w) (sym h.1))) h.0.in_range

  -- ---- ports

  port_ends : (regs : List ℕ) (w : ℕ) (x : Ending BitVector Stopped) → EndingFits w x → EndAlike (λ a b. (a ≡ b) × ValueFits w b) x x
  port_ends regs w (Reached v) h = (refl, h)
  port_ends regs w (Stop c) h = refl

  sim-port : (regs : List ℕ) (w : ℕ) (m : Evaluation BitVector Stopped) → ((events : List Event) → EventsFit regs events → ProgressFits regs w (m events)) → Simulates regs (λ a b. (a ≡ b) × ValueFits w b) m m
  sim-port regs w m h events fit = let p = h events fit in (refl, p.0, port_ends regs w (m events).ending p.1)

  pub write-lowers : (port register : ℕ) (ts : List ValueType) (of : Option ValueType) (senses : List Sense) (operands init : List Lowered) (last l : Lowered) →
      operands ≡ init ++ last ∷ [] → IsWritten port register last l → IsApplied d n depth names types (operation.Write port register) ts of senses operands →
      Lowers d n depth names types of (apply_sense (operation.Write port register) senses) l
  write-lowers port register [] of senses operands init last l e h given = absurd given.applies
  write-lowers port register (t ∷ u ∷ ts) of senses operands init last l e h given = absurd given.applies
  write-lowers port register (t ∷ []) of senses operands init last l e h given =
      let it = given.applies in
      let r : Register = it.0 in
      let ok = all-get (IsRegister d) d.registers register r given.design.registers it.2 in
      let held : slice_get (register_widths d) register ≡ Some (width_of d t) =
      slice_get-map (λ (x : Register). x.width) d.registers register ∙ ap (option_map (λ (x : Register). x.width)) it.2 ∙ ap Some (ok.width ∙ ap (width_of d) (sym it.3)) in
      subst (λ (r : Option ValueType). Lowers d n depth names types r (apply_sense (operation.Write port register) senses) l) (sym it.4)
      (one-lowers d n depth names types (operation.Write port register) t None senses operands init last l e false given.all tt
      (λ env ports x. ports.write port register x) h.means h.width
      (λ widths a valid. h.typed (declared_by d) widths (width_of d t) a it.1 held)
      (λ inputs ports v x p is.
      subst (λ (q : Ports Stopped). Simulates (register_widths d) (Stands d None) (q.write port register (packed v) >>= λ _. comes_to None) (ports.write port register x)) (sym (world-ports d n inputs ports))
      (subst (λ y. Simulates (register_widths d) (Stands d None) (ports.write port register y >>= λ _. comes_to None) (ports.write port register x)) (sym is.1)
      (sim-then (register_widths d) (λ a b. (a ≡ b) × ValueFits 0 b) (Stands d None) (ports.write port register x) (ports.write port register x) (λ _. comes_to None)
      (sim-port (register_widths d) 0 (ports.write port register x) (λ events fit. p.write port register (width_of d t) x events it.1 held is.2 fit))
      (λ a b same. sim-value (register_widths d) (Stands d None) None b same.1.as_wide)))))

  -- an operation without operands
  no_operands : (rising : _) (senses : List Sense) (operands : List Lowered) → LowersAll d n depth rising names types [] senses operands → senses ≡ []
  no_operands rising [] [] all = refl
  no_operands rising [] (l ∷ ls) all = absurd all
  no_operands rising (m ∷ ms) ls all = absurd all

  pub read-lowers : (port register : ℕ) (ts : List ValueType) (of : Option ValueType) (senses : List Sense) (operands : List Lowered) (l : Lowered) →
      ((r : Register) → slice_get d.registers register ≡ Some r → l ≡ record { action = action.Read port register; width = r.width }) →
      IsApplied d n depth names types (operation.Read port register) ts of senses operands → Lowers d n depth names types of (apply_sense (operation.Read port register) senses) l
  read-lowers port register (t ∷ ts) of senses operands l h given = absurd given.applies
  read-lowers port register [] of senses operands l h given =
      let it = given.applies in
      let r : Register = it.0 in
      let ok = all-get (IsRegister d) d.registers register r given.design.registers it.2 in
      let held : slice_get (register_widths d) register ≡ Some (width_of d r.of) =
      slice_get-map (λ (x : Register). x.width) d.registers register ∙ ap (option_map (λ (x : Register). x.width)) it.2 ∙ ap Some ok.width in
      subst (λ (o : Option ValueType). Lowers d n depth names types o (apply_sense (operation.Read port register) senses) l) (sym it.3)
      (subst (λ (ms : List Sense). Lowers d n depth names types (Some r.of) (apply_sense (operation.Read port register) ms) l) (sym (no_operands false senses operands given.all))
      (subst (λ (x : Lowered). Lowers d n depth names types (Some r.of) (apply_sense (operation.Read port register) []) x) (sym (h r it.2))
      (record {
        valid = ok.of;
        width = ok.width;
        typed = λ widths f. (it.1, held ∙ ap Some (sym ok.width));
        means = λ inputs ports values locals w p st.
            subst (λ (c : Checked). Simulates (register_widths d) (Stands d (Some r.of)) ((world d n inputs ports).ports.read port register >>= λ x. read_as c (slice_get c.registers register) x) (ports.read port register)) (sym (world-design d n inputs ports))
            (subst (λ (q : Ports Stopped). Simulates (register_widths d) (Stands d (Some r.of)) (q.read port register >>= λ x. read_as d (slice_get d.registers register) x) (ports.read port register)) (sym (world-ports d n inputs ports))
            (subst (λ (o : Option Register). Simulates (register_widths d) (Stands d (Some r.of)) (ports.read port register >>= λ x. read_as d o x) (ports.read port register)) (sym it.2)
            (sim-then (register_widths d) (λ a b. (a ≡ b) × ValueFits (width_of d r.of) b) (Stands d (Some r.of)) (ports.read port register) (ports.read port register) (λ x. read_as d (Some r) x)
            (sim-port (register_widths d) (width_of d r.of) (ports.read port register) (λ events fit. p.read port register (width_of d r.of) events it.1 held fit))
            (λ a b same. sim-value (register_widths d) (Stands d (Some r.of)) (Some (unpacked d r.of a)) b
            (subst (λ y. Stands d (Some r.of) (Some (unpacked d r.of y)) b) (sym same.0)
            (unpacked-stands d given.design r.of b ok.of (same.1.bits ok.of.0, same.1.as_wide)))))));
      })))

  pub abort-lowers : (ts : List ValueType) (of : Option ValueType) (senses : List Sense) (operands : List Lowered) → IsApplied d n depth names types operation.Abort ts of senses operands →
      Lowers d n depth names types of (apply_sense operation.Abort senses) (record { action = action.Abort; width = 0 })
  abort-lowers (t ∷ ts) of senses operands given = absurd given.applies
  abort-lowers [] of senses operands given =
      subst (λ (o : Option ValueType). Lowers d n depth names types o (apply_sense operation.Abort senses) (record { action = action.Abort; width = 0 })) (sym given.applies)
      (subst (λ (ms : List Sense). Lowers d n depth names types None (apply_sense operation.Abort ms) (record { action = action.Abort; width = 0 })) (sym (no_operands false senses operands given.all))
      (record {
        valid = tt;
        width = refl;
        typed = λ widths f. refl;
        means = λ inputs ports values locals w p st.
            subst (λ (q : Ports Stopped). Simulates (register_widths d) (Stands d None) (stops q.abort) (stops ports.abort)) (sym (world-ports d n inputs ports))
            (sim-stop (register_widths d) (Stands d None) ports.abort);
      }))
