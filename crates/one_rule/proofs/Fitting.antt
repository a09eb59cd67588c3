-- The row of a cycle of a valid design fits it.
use Rattle.std.proofs.Common.{◌≡◌, ℕ, ◌<◌, Bool, true, false, List, [], length, map, get_or, Option, Some, None, refl, sym, ap, ◌∙◌, subst, arith}
use Rattle.std.specs.Prelude.{option_map, slice_get, slice_index_or, if◌then◌else◌}
use Rattle.std.proofs.lemmas.List.{get_or-map, length-map, same_lists}
use Rattle.std.proofs.lemmas.List.Elements.{All-map}
use Rattle.std.proofs.lemmas.List.FromFn.{length-map-range_with_len}
use Rattle.std.proofs.lemmas.Option.{get_or_from_slice_get, slice_get_within, slice_get-get_or, slice_get-map}
use Rattle.kw_bits.specs.BitVector.{BitVector}
use Rattle.kw_bits.specs.Laws.{HasWidth}
use Rattle.typed_core.specs.Evaluation.{unit}
use Rattle.typed_core.specs.Fits.{EnvironmentFits, EventsFit}
use Rattle.typed_core.specs.Valid.{ActionHasWidth, IsRegister, IsValid, IsWidth, declarations}
use Rattle.typed_core.specs.Widths.{HaveWidths, input_widths, register_widths}
use Rattle.typed_core.specs.declared.design.Parts.{Parts}
use Rattle.typed_core.specs.declared.design.RegDecl.{RegDecl}
use Rattle.typed_core.specs.declared.design.Rule.{Rule}
use Rattle.typed_core.specs.declared.outcome.Alone.{Alone}
use Rattle.typed_core.proofs.Events.{after_fits}
use Rattle.typed_core.proofs.Typed.{alone_fits}
use Rattle.one_rule.specs.Cycle.{alone_if, begin, cycle, environment, fire, fires, is_among, join, numbers, system_of, walk_of}
use Rattle.one_rule.specs.Rows.{RowFits}
use Rattle.one_rule.specs.Run.{first_values}
use Rattle.one_rule.specs.Walk.{start}
use Rattle.one_rule.specs.declared.cycle.State.{State}
use Rattle.one_rule.proofs.WalkLaws.{walk_past_keeps}

-- a valid design's rules can be evaluated with inputs that fit it
pub environment_fits : (design : Parts) → IsValid design → (inputs : List BitVector) → HaveWidths (input_widths design) inputs → EnvironmentFits (declarations design) (environment design inputs)
environment_fits design valid inputs i =
    record {
      registers = All-map IsWidth (λ (decl : RegDecl). decl.width) design.regs (λ k d inside. is_width (slice_index_or design.regs k d) (valid.registers k d inside));
      externs = refl;
      tables = valid.tables;
      hosts = valid.hosts;
      inputs = i;
    }
  where
    is_width : (decl : RegDecl) → IsRegister decl → IsWidth decl.width
    is_width decl h = (omega (arith, h.0.some_bit, h.1), omega (arith, h.0.no_wider, h.1))

-- the body of a rule that was found is typed
pub body_typed : (design : Parts) → IsValid design → (rule : ℕ) (found : Rule) → slice_get design.rules rule ≡ Some found → ActionHasWidth (declarations design) found.body [] 0
body_typed design valid rule found h =
    subst (λ (x : Rule). ActionHasWidth (declarations design) x.body [] 0) (get_or_from_slice_get design.rules rule found found h) (valid.rules rule found (slice_get_within design.rules rule found h))

-- a rule that runs alone notes events that fit
pub run_fits : (design : Parts) → IsValid design → (inputs regs : List BitVector) → HaveWidths (input_widths design) inputs → HaveWidths (register_widths design) regs → (rule : ℕ) → EventsFit (register_widths design) ((system_of design).alone rule inputs regs).events
run_fits design valid inputs regs i r rule = of_rule (slice_get design.rules rule) refl
  where
    of_rule : (found : Option Rule) → slice_get design.rules rule ≡ found → EventsFit (register_widths design) (alone_if (environment design inputs) regs found).events
    of_rule None h = tt
    of_rule (Some found) h = alone_fits (declarations design) (environment design inputs) regs found.body (environment_fits design valid inputs i) r (0, body_typed design valid rule found h)

-- where a rule fires on registers that fit, it leaves ones that fit
pub fire_fits : (design : Parts) → IsValid design → (inputs : List BitVector) → HaveWidths (input_widths design) inputs → (rule : ℕ) (state fired : State) → HaveWidths (register_widths design) state.regs → fire (system_of design) inputs rule state ≡ Some fired → HaveWidths (register_widths design) fired.regs
fire_fits design valid inputs i rule state fired r is = chosen (fires state.past run) is
  where
    run : Alone
    run = (system_of design).alone rule inputs state.regs

    chosen : (b : Bool) → (if b then Some (join state rule run.events) else None) ≡ Some fired → HaveWidths (register_widths design) fired.regs
    chosen true e =
        let same : join state rule run.events ≡ fired = cc in
        subst (λ (s : State). HaveWidths (register_widths design) s.regs) same (after_fits (register_widths design) run.events state.regs (run_fits design valid inputs state.regs i r rule) r)
    chosen false e = absurd cc

-- a cycle leaves a row that fits
pub cycle_fits : (design : Parts) → IsValid design → (inputs regs : List BitVector) → HaveWidths (input_widths design) inputs → HaveWidths (register_widths design) regs → RowFits design (cycle (system_of design) inputs regs)
cycle_fits design valid inputs regs i r =
    record {
      registers = walk_past_keeps (λ (s : State). HaveWidths (register_widths design) s.regs) (fire (system_of design) inputs) (fire_fits design valid inputs i) 0 design.nodes (start design.nodes (begin regs)) r;
      flags = length-map-range_with_len (is_among (numbers (walk_of (system_of design) inputs regs).state.past)) 0 (length design.rules);
    }

-- the registers start at values that fit
pub first_values_fit : (design : Parts) → IsValid design → HaveWidths (register_widths design) (first_values design)
first_values_fit design valid =
    record {
      count = length-map design.regs (λ (decl : RegDecl). decl.first) ∙ sym (length-map design.regs (λ (decl : RegDecl). decl.width));
      each = λ register width is. of_decl register width (slice_get design.regs register) refl (sym (slice_get-map (λ (decl : RegDecl). decl.width) design.regs register) ∙ is);
    }
  where
    of_decl : (register width : ℕ) (found : Option RegDecl) → slice_get design.regs register ≡ found → option_map (λ (decl : RegDecl). decl.width) (slice_get design.regs register) ≡ Some width → HasWidth (slice_index_or (first_values design) register unit) width
    of_decl register width None found is =
        let none = ap (option_map (λ (decl : RegDecl). decl.width)) found in
        absurd cc
    of_decl register width (Some decl) found is =
        let inside = slice_get_within design.regs register decl found in
        let here = get_or_from_slice_get design.regs register decl decl found in
        let mine = subst IsRegister here (valid.registers register decl inside) in
        let first = get_or-map (λ (d : RegDecl). d.first) design.regs register decl unit inside ∙ ap (λ (d : RegDecl). d.first) here in
        let some = ap (option_map (λ (d : RegDecl). d.width)) found in
        let wide : decl.width ≡ width = cc in
        subst (λ (v : BitVector). HasWidth v width) (sym first) (subst (λ (n : ℕ). HasWidth decl.first n) wide mine)

-- values have the widths that they have
pub widths-same : (widths : List ℕ) (values : List BitVector) → HaveWidths widths values → map (λ (value : BitVector). value.width) values ≡ widths
widths-same widths values h =
    let size : length (map (λ (value : BitVector). value.width) values) ≡ length widths = length-map values (λ (value : BitVector). value.width) ∙ h.count in
    same_lists (map (λ (value : BitVector). value.width) values) widths size (λ k d inside.
    let here : k < length widths = omega (arith, inside, size) in
    get_or-map (λ (value : BitVector). value.width) values k unit d (omega (arith, here, h.count))
    ∙ (h.each k (get_or widths k d) (slice_get-get_or widths k d here)).1)

-- registers that fit have the widths that they have
pub HaveWidths-own : (widths : List ℕ) (values : List BitVector) → HaveWidths widths values → HaveWidths (map (λ (value : BitVector). value.width) values) values
HaveWidths-own widths values h = subst (λ (ws : List ℕ). HaveWidths ws values) (sym (widths-same widths values h)) h
