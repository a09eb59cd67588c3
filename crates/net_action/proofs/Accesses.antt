-- What reads and writes at ports mean as wires.
use Rattle.std.proofs.Common.{◌≡◌, ℕ, suc, ◌+◌, ◌*◌, ◌≤◌, ◌<◌, ◌⊎◌, inl, inr, Bool, true, false, List, [], ◌∷◌, ◌++◌, length, refl, sym, ap, ap₂, subst, ◌∙◌, arith, Some, None, eqb-true, eq-eqb}
use Rattle.std.specs.Prelude.{◌==◌, ◌&&◌, ◌||◌, ◌↔◌, not, slice_get, slice_index_or, if◌then◌else◌}
use Rattle.std.proofs.lemmas.Bool.{and_parts, both_ways, cases_Bool}
use Rattle.std.proofs.lemmas.List.{get_or-set_same, get_or-set_other, length-set}
use Rattle.std.proofs.lemmas.Option.{slice_get_within}
use Rattle.kw_bits.specs.BitVector.{BitVector}
use Rattle.kw_bits.specs.Laws.{HasWidth}
use Rattle.typed_core.specs.Alone.{is_refused, seen}
use Rattle.typed_core.specs.Evaluation.{Progress, notes, stops, unit}
use Rattle.typed_core.specs.Valid.{IsPort}
use Rattle.typed_core.specs.declared.access.Access.{Access}
use Rattle.typed_core.specs.declared.access.Event.{Event}
use Rattle.typed_core.specs.declared.limits.TheConstants.{PORTS}
use Rattle.typed_core.specs.declared.outcome.Stopped.{Stopped}
use Rattle.typed_core.specs.declared.outcome.Stopped.TheVariants.{Refused}
use Rattle.rule_log.specs.StandsFor.{Tells, is_access}
use Rattle.rule_log.proofs.Telling.{NoneSet, or_none, read_refused, refused_by_flags, seen_more, tells_both, tells_one}
use Rattle.one_rule.specs.PortRun.{read_behind, write_behind}
use Rattle.net_graph.specs.Values.{value_at}
use Rattle.net_graph.specs.declared.node.NetOp.{NetOp}
use Rattle.net_action.specs.inner.Parts.{ComesTo, Means, Puts}
use Rattle.net_action.specs.Wires.{AreLogWires, HasWire, LogStandsFor, is_set, is_up, wire_at, written}
use Rattle.net_action.specs.declared.wires.LogWires.{LogWires}
use Rattle.net_action.specs.declared.wires.RuleNet.{RuleNet}

-- ---- truth values

and_true : (a b : Bool) → b ≡ true → (a && b) ≡ a
and_true true b e = e
and_true false b e = refl

and_false : (a b : Bool) → b ≡ false → (a && b) ≡ false
and_false true b e = e
and_false false b e = refl

-- ---- a wire in the place of another

-- one port of one register
abbrev pub is_here : ℕ → ℕ → ℕ → ℕ → Bool
is_here port register at other = (register == other) && (port == at)

pub put_here : (old new : List ℕ) (port register wire : ℕ) → Puts old port register new wire → PORTS * register + port < length old → wire_at new port register ≡ wire
put_here old new port register wire puts within =
    ap (λ (ws : List ℕ). wire_at ws port register) puts ∙ get_or-set_same old (PORTS * register + port) wire 0 within

pub put_other : (old new : List ℕ) (port register wire at other : ℕ) → Puts old port register new wire → IsPort port → IsPort at → is_here port register at other ≡ false → wire_at new at other ≡ wire_at old at other
put_other old new port register wire at other puts p q h =
    ap (λ (ws : List ℕ). wire_at ws at other) puts ∙ get_or-set_other old (PORTS * register + port) (PORTS * other + at) wire 0 apart
  where
    apart : PORTS * other + at ≡ PORTS * register + port → ⊥
    apart e =
        let r : register ≡ other = omega arith in
        let i : port ≡ at = omega arith in
        both_ways _ h (ap₂ (λ (x y : Bool). x && y) (eq-eqb register other r) (eq-eqb port at i))

here_parts : (port register at other : ℕ) → is_here port register at other ≡ true → (other ≡ register) × (at ≡ port)
here_parts port register at other h =
    let both = and_parts (register == other) (port == at) h in
    (sym (eqb-true register other both.0), sym (eqb-true port at both.1))

put_length : (old new : List ℕ) (port register wire : ℕ) → Puts old port register new wire → length new ≡ length old
put_length old new port register wire puts = ap length puts ∙ length-set old (PORTS * register + port) wire

-- a list of wires, of which each port of each register has one of a width
put_wires : (net : List NetOp) (old new : List ℕ) (port register wire width at other : ℕ) → Puts old port register new wire → IsPort port → IsPort at → PORTS * register + port < length old
    → (register ≡ other → HasWire net wire width) → HasWire net (wire_at old at other) width → HasWire net (wire_at new at other) width
put_wires net old new port register wire width at other puts p q inside own others = by (cases_Bool (is_here port register at other))
  where
    by : (is_here port register at other ≡ true) ⊎ (is_here port register at other ≡ false) → HasWire net (wire_at new at other) width
    by (inl h) =
        let parts = here_parts port register at other h in
        subst (λ (w : ℕ). HasWire net w width) (sym (ap₂ (λ (i k : ℕ). wire_at new i k) parts.1 parts.0 ∙ put_here old new port register wire puts inside)) (own (sym parts.0))
    by (inr h) = subst (λ (w : ℕ). HasWire net w width) (sym (put_other old new port register wire at other puts p q h)) others

pub read_put : (net : List NetOp) (widths : List ℕ) (log : LogWires) (port register : ℕ) (reads : List ℕ) (flag : ℕ) → IsPort port → register < length widths → AreLogWires net widths log → Puts log.was_read port register reads flag → HasWire net flag 1
    → AreLogWires net widths (record { was_read = reads; was_written = log.was_written; values = log.values })
read_put net widths log port register reads flag p within are puts wire = record {
  was_read = put_length log.was_read reads port register flag puts ∙ are.was_read;
  was_written = are.was_written;
  values = are.values;
  each_read = λ at other q inside. put_wires net log.was_read reads port register flag 1 at other puts p q (omega (arith, are.was_read)) (λ e. wire) (are.each_read at other q inside);
  each_written = are.each_written;
  each_value = are.each_value;
}

pub write_put : (net : List NetOp) (widths : List ℕ) (log : LogWires) (port register width : ℕ) (writes kept : List ℕ) (flag value : ℕ) → IsPort port → slice_get widths register ≡ Some width → AreLogWires net widths log
    → Puts log.was_written port register writes flag → HasWire net flag 1 → Puts log.values port register kept value → HasWire net value width
    → AreLogWires net widths (record { was_read = log.was_read; was_written = writes; values = kept })
write_put net widths log port register width writes kept flag value p declared are puts wire puts' wire' =
    let within : register < length widths = slice_get_within widths register width declared in
    record {
      was_read = are.was_read;
      was_written = put_length log.was_written writes port register flag puts ∙ are.was_written;
      values = put_length log.values kept port register value puts' ∙ are.values;
      each_read = are.each_read;
      each_written = λ at other q inside. put_wires net log.was_written writes port register flag 1 at other puts p q (omega (arith, are.was_written)) (λ e. wire) (are.each_written at other q inside);
      each_value = λ at other w q h. put_wires net log.values kept port register value w at other puts' p q (omega (arith, are.values)) (λ e. own other w h e) (are.each_value at other w q h);
    }
  where
    some_same : (a b : ℕ) → Some a ≡ Some b → a ≡ b
    some_same a b e = cc

    own : (other w : ℕ) → slice_get widths other ≡ Some w → register ≡ other → HasWire net value w
    own other w h e = subst (λ (n : ℕ). HasWire net value n) (some_same width w (sym declared ∙ ap (slice_get widths) e ∙ h)) wire'

-- ---- what is refused, and what is seen

module _ (widths : List ℕ) (set : Bool → ℕ → ℕ → Bool) (wr : ℕ → ℕ → BitVector) (events : List Event) (tells : Tells widths set wr events) (register : ℕ) (within : register < length widths) where
  pub read_up : (port : ℕ) (up : Bool) → ((up ≡ false) ↔ NoneSet (λ write at. set write at register) true (λ at. port ≤ at)) → up ≡ is_refused events (record { write = false; port = port; register = register })
  read_up port up is = read_refused widths set wr events tells port register within (λ write at. set write at register) (λ write at. refl) up is

  pub write_up : (port : ℕ) (up writes reads : Bool) → up ≡ (writes || reads) → ((writes ≡ false) ↔ NoneSet (λ write at. set write at register) true (λ at. port ≤ at))
      → ((reads ≡ false) ↔ NoneSet (λ write at. set write at register) false (λ at. port < at)) → up ≡ is_refused events (record { write = true; port = port; register = register })
  write_up port up writes reads e w r =
      e ∙ refused_by_flags widths set wr events tells (record { write = true; port = port; register = register }) within (λ write at. set write at register) (λ write at. refl) writes reads w (λ h. r)

  pub seen_next : (port next : ℕ) (start : BitVector) → next ≡ suc port → IsPort port → seen next register events start ≡ (if set true port register then wr port register else seen port register events start)
  seen_next port next start e p =
      ap (λ (n : ℕ). seen n register events start) e ∙ seen_more wr port register events start tells.values tells.ascending
      ∙ ap (λ (b : Bool). if b then wr port register else seen port register events start) (sym (tells.flags true port register p within))

-- ---- reads and writes

module _ (widths : List ℕ) (values : List BitVector) (port register width : ℕ) (p : IsPort port) (declared : slice_get widths register ≡ Some width) (r0 : RuleNet) (events : List Event) (fires : ℕ) where
  abbrev Up : ℕ → Bool
  Up wire = is_up values wire

  abbrev access : Bool → Access
  access write = record { write = write; port = port; register = register }

  -- a flag that was set where the rule runs
  abbrev pub Marks : List ℕ → List ℕ → Type 0
  Marks old new = (at other : ℕ) → IsPort at → Up (wire_at new at other) ≡ (Up (wire_at old at other) || (is_here port register at other && Up fires))

  pub marked : (old new : List ℕ) (flag : ℕ) → Puts old port register new flag → PORTS * register + port < length old → Up flag ≡ (Up (wire_at old port register) || Up fires) → Marks old new
  marked old new flag puts inside is at other q = by (cases_Bool (is_here port register at other))
    where
      by : (is_here port register at other ≡ true) ⊎ (is_here port register at other ≡ false) → Up (wire_at new at other) ≡ (Up (wire_at old at other) || (is_here port register at other && Up fires))
      by (inl h) =
          let parts = here_parts port register at other h in
          ap₂ (λ (i k : ℕ). Up (wire_at new i k)) parts.1 parts.0 ∙ ap Up (put_here old new port register flag puts inside) ∙ is
          ∙ ap₂ (λ (i k : ℕ). Up (wire_at old i k) || Up fires) (sym parts.1) (sym parts.0)
          ∙ ap (λ (b : Bool). Up (wire_at old at other) || (b && Up fires)) (sym h)
      by (inr h) =
          ap Up (put_other old new port register flag at other puts p q h) ∙ or_none _ ∙ ap (λ (b : Bool). Up (wire_at old at other) || (b && Up fires)) (sym h)

  -- a value that was kept where the rule runs
  abbrev pub Keeps : List ℕ → List ℕ → ℕ → Type 0
  Keeps old new wire = (at other : ℕ) → IsPort at → value_at values (wire_at new at other) ≡ (if is_here port register at other && Up fires then value_at values wire else value_at values (wire_at old at other))

  pub kept_where : (old new : List ℕ) (kept wire : ℕ) → Puts old port register new kept → PORTS * register + port < length old
      → value_at values kept ≡ (if Up fires then value_at values wire else value_at values (wire_at old port register)) → Keeps old new wire
  kept_where old new kept wire puts inside is at other q = by (cases_Bool (is_here port register at other))
    where
      by : (is_here port register at other ≡ true) ⊎ (is_here port register at other ≡ false) → value_at values (wire_at new at other) ≡ (if is_here port register at other && Up fires then value_at values wire else value_at values (wire_at old at other))
      by (inl h) =
          let parts = here_parts port register at other h in
          ap₂ (λ (i k : ℕ). value_at values (wire_at new i k)) parts.1 parts.0 ∙ ap (value_at values) (put_here old new port register kept puts inside) ∙ is
          ∙ ap₂ (λ (i k : ℕ). if Up fires then value_at values wire else value_at values (wire_at old i k)) (sym parts.1) (sym parts.0)
          ∙ ap (λ (b : Bool). if b && Up fires then value_at values wire else value_at values (wire_at old at other)) (sym h)
      by (inr h) =
          ap (value_at values) (put_other old new port register kept at other puts p q h)
          ∙ ap (λ (b : Bool). if b && Up fires then value_at values wire else value_at values (wire_at old at other)) (sym h)

  still_marked : (old new : List ℕ) → Marks old new → Up fires ≡ false → (at other : ℕ) → IsPort at → Up (wire_at new at other) ≡ Up (wire_at old at other)
  still_marked old new marks off at other q =
      marks at other q ∙ ap (λ (b : Bool). Up (wire_at old at other) || b) (and_false (is_here port register at other) (Up fires) off) ∙ sym (or_none _)

  on_marked : (old new : List ℕ) → Marks old new → Up fires ≡ true → (at other : ℕ) → IsPort at → Up (wire_at new at other) ≡ (Up (wire_at old at other) || is_here port register at other)
  on_marked old new marks on at other q =
      marks at other q ∙ ap (λ (b : Bool). Up (wire_at old at other) || b) (and_true (is_here port register at other) (Up fires) on)

  module _ (wire : ℕ) (wide : HasWidth (value_at values wire) width) (refused : Bool) (goes_on : Up fires ≡ (Up r0.fires && not refused)) where
    off_before : Up r0.fires ≡ false → Up fires ≡ false
    off_before off = goes_on ∙ ap (λ (b : Bool). b && not refused) off

    off_refused : refused ≡ true → Up fires ≡ false
    off_refused h = goes_on ∙ and_false (Up r0.fires) (not refused) (ap not h)

    on : Up r0.fires ≡ true → refused ≡ false → Up fires ≡ true
    on up h = goes_on ∙ ap₂ (λ (a b : Bool). a && not b) up h

    module _ (reads : List ℕ) (marks : Marks r0.log.was_read reads) where
      abbrev pub read_log : LogWires
      read_log = record { was_read = reads; was_written = r0.log.was_written; values = r0.log.values }

      read_noted : Up fires ≡ true → (own : List Event) (value : BitVector) → HasWidth value width → LogStandsFor widths values r0.log own
          → LogStandsFor widths values read_log (own ++ record { access = access false; value = value } ∷ [])
      read_noted up own value fit stands =
          let e : Event = record { access = access false; value = value } in
          tells_both widths (is_set values r0.log) (λ write at other. is_access write at other e) (is_set values read_log) (written values read_log) (written values r0.log) (λ at other. e.value)
          own (e ∷ []) stands (tells_one widths e (record { port = p; value = (width, declared, fit) })) ((λ w. absurd cc), tt)
          flagged (λ at other q within. refl)
        where
          flagged : (write : Bool) (at other : ℕ) → IsPort at → other < length widths → is_set values read_log write at other ≡ (is_set values r0.log write at other || is_access write at other (record { access = access false; value = value }))
          flagged true at other q within = or_none _
          flagged false at other q within = on_marked r0.log.was_read reads marks up at other q

      pub read_means : (regs : List BitVector) → refused ≡ is_refused events (access false)
          → ((own : List Event) → LogStandsFor widths values r0.log own → value_at values wire ≡ seen port register own (seen port register events (slice_index_or regs register unit)))
          → Means widths values r0 (record { fires = fires; log = read_log }) (Some wire) (read_behind events regs port register)
      read_means regs is value = record {
        runs = λ own up stands. by own up stands (is_refused events (access false)) is _ (value own stands);
        stands_still = λ off. (
          off_before off,
          record {
            flags = λ write at other q within. flags write at other q off;
            value = λ at other q within. refl;
          },
        );
      }
        where
          flags : (write : Bool) (at other : ℕ) → IsPort at → Up r0.fires ≡ false → is_set values read_log write at other ≡ is_set values r0.log write at other
          flags true at other q off = refl
          flags false at other q off = still_marked r0.log.was_read reads marks (off_before off) at other q

          by : (own : List Event) → Up r0.fires ≡ true → LogStandsFor widths values r0.log own → (b : Bool) → refused ≡ b → (v : BitVector) → value_at values wire ≡ v
              → let e : Event = record { access = access false; value = v } in
              let end : Progress BitVector Stopped = (if b then stops (Refused (access false)) own else notes e v own) in
              ComesTo widths values (record { fires = fires; log = read_log }) (Some wire) end.events end.ending
          by own up stands true h v same = off_refused h
          by own up stands false h v same =
              (on up h, read_noted (on up h) own v (subst (λ (x : BitVector). HasWidth x width) same wide) stands, sym same)

    module _ (writes kept : List ℕ) (marks : Marks r0.log.was_written writes)
        (keeps : (at other : ℕ) → IsPort at → value_at values (wire_at kept at other) ≡ (if is_here port register at other && Up fires then value_at values wire else value_at values (wire_at r0.log.values at other))) where
      abbrev pub write_log : LogWires
      write_log = record { was_read = r0.log.was_read; was_written = writes; values = kept }

      write_noted : Up fires ≡ true → (own : List Event) → is_refused own (access true) ≡ false → LogStandsFor widths values r0.log own
          → LogStandsFor widths values write_log (own ++ record { access = access true; value = value_at values wire } ∷ [])
      write_noted up own passes stands =
          let e : Event = record { access = access true; value = value_at values wire } in
          tells_both widths (is_set values r0.log) (λ write at other. is_access write at other e) (is_set values write_log) (written values write_log) (written values r0.log) (λ at other. e.value)
          own (e ∷ []) stands (tells_one widths e (record { port = p; value = (width, declared, wide) })) ((λ w. passes), tt)
          flagged (λ at other q within. keeps at other q ∙ ap (λ (b : Bool). if b then value_at values wire else value_at values (wire_at r0.log.values at other)) (and_true (is_here port register at other) (Up fires) up))
        where
          flagged : (write : Bool) (at other : ℕ) → IsPort at → other < length widths → is_set values write_log write at other ≡ (is_set values r0.log write at other || is_access write at other (record { access = access true; value = value_at values wire }))
          flagged false at other q within = or_none _
          flagged true at other q within = on_marked r0.log.was_written writes marks up at other q

      pub write_means : ((own : List Event) → LogStandsFor widths values r0.log own → refused ≡ (is_refused events (access true) || is_refused own (access true)))
          → Means widths values r0 (record { fires = fires; log = write_log }) None (write_behind events port register (value_at values wire))
      write_means is = record {
        runs = λ own up stands. by own up stands (is_refused events (access true)) (is_refused own (access true)) refl (is own stands);
        stands_still = λ off. (
          off_before off,
          record {
            flags = λ write at other q within. flags write at other q off;
            value = λ at other q within. keeps at other q ∙ ap (λ (b : Bool). if b then value_at values wire else value_at values (wire_at r0.log.values at other)) (and_false (is_here port register at other) (Up fires) (off_before off));
          },
        );
      }
        where
          flags : (write : Bool) (at other : ℕ) → IsPort at → Up r0.fires ≡ false → is_set values write_log write at other ≡ is_set values r0.log write at other
          flags false at other q off = refl
          flags true at other q off = still_marked r0.log.was_written writes marks (off_before off) at other q

          by : (own : List Event) → Up r0.fires ≡ true → LogStandsFor widths values r0.log own → (b d : Bool) → is_refused own (access true) ≡ d → refused ≡ (b || d)
              → let e : Event = record { access = access true; value = value_at values wire } in
              let end : Progress BitVector Stopped = (if b || d then stops (Refused (access true)) own else notes e unit own) in
              ComesTo widths values (record { fires = fires; log = write_log }) None end.events end.ending
          by own up stands true d k h = off_refused h
          by own up stands false true k h = off_refused h
          by own up stands false false k h = (on up h, write_noted (on up h) own k stands, refl)
