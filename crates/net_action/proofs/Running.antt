-- What parts of a rule mean as wires, put together.
use Rattle.std.proofs.Common.{◌≡◌, ℕ, zero, suc, ◌^◌, ◌<◌, Bool, true, false, List, [], ◌∷◌, refl, sym, ap, ap₂, subst, ◌∙◌, arith, Option}
use Rattle.std.specs.Prelude.{◌&&◌, ◌||◌, not, nat_eq, if◌then◌else◌}
use Rattle.std.specs.List.{AllByRecursion}
use Rattle.std.proofs.lemmas.Option.{slice_get_within}
use Rattle.kw_bits.specs.BitVector.{BitVector}
use Rattle.kw_bits.specs.Laws.{HasWidth}
use Rattle.typed_core.specs.Evaluation.{Ending, Evaluation, Progress, Stop, Value, bind, choose, comes_to, ◌>>=◌}
use Rattle.typed_core.specs.Fits.{EventsFit}
use Rattle.typed_core.specs.declared.access.Event.{Event}
use Rattle.typed_core.specs.declared.outcome.Stopped.{Stopped}
use Rattle.rule_log.specs.StandsFor.{IsWrittenIn}
use Rattle.net_graph.specs.Values.{value_at}
use Rattle.net_action.specs.inner.Parts.{ComesTo, Means, SameLog, wire_value}
use Rattle.net_action.specs.Wires.{LogStandsFor, is_up, written}
use Rattle.net_action.specs.declared.wires.LogWires.{LogWires}
use Rattle.net_action.specs.declared.wires.RuleNet.{RuleNet}

module _ (widths : List ℕ) (values : List BitVector) where
  -- ---- logs of equal values

  pub same_self : (log : LogWires) → SameLog widths values log log
  same_self log = record { flags = λ write port register p r. refl; value = λ port register p r. refl }

  pub same_on : (a b c : LogWires) → SameLog widths values a b → SameLog widths values b c → SameLog widths values a c
  same_on a b c s t = record {
    flags = λ write port register p r. t.flags write port register p r ∙ s.flags write port register p r;
    value = λ port register p r. t.value port register p r ∙ s.value port register p r;
  }

  same_values : (a b : LogWires) → SameLog widths values a b → (events : List Event) → EventsFit widths events → AllByRecursion (IsWrittenIn (written values a)) events → AllByRecursion (IsWrittenIn (written values b)) events
  same_values a b s [] fit h = tt
  same_values a b s (e ∷ events) fit h = (
    λ w. s.value e.access.port e.access.register fit.0.port (slice_get_within widths e.access.register fit.0.value.0 fit.0.value.1) ∙ h.0 w,
    same_values a b s events fit.1 h.1,
  )

  pub stands_same : (a b : LogWires) (events : List Event) → SameLog widths values a b → LogStandsFor widths values a events → LogStandsFor widths values b events
  stands_same a b events s t = record {
    flags = λ write port register p r. s.flags write port register p r ∙ t.flags write port register p r;
    values = same_values a b s events t.fit t.values;
    ascending = t.ascending;
    fit = t.fit;
  }

  -- ---- one part after another

  -- a part that comes to a value and changes nothing
  pub means_value : (run : RuleNet) (wire : Option ℕ) (w : BitVector) → w ≡ wire_value values wire → Means widths values run run wire (comes_to w)
  means_value run wire w e = record { runs = λ events up stands. (up, stands, e); stands_still = λ down. (down, same_self run.log) }

  pub means_then : (r0 r1 r2 : RuleNet) (x wire : Option ℕ) (first : Evaluation BitVector Stopped) (next : BitVector → Evaluation BitVector Stopped)
      → Means widths values r0 r1 x first → Means widths values r1 r2 wire (next (wire_value values x)) → Means widths values r0 r2 wire (first >>= next)
  means_then r0 r1 r2 x wire first next m n = record {
    runs = λ events up stands. by (first events).events (first events).ending (m.runs events up stands);
    stands_still = λ down. let a = m.stands_still down in let b = n.stands_still a.0 in (b.0, same_on r0.log r1.log r2.log a.1 b.1);
  }
    where
      by : (events : List Event) (ending : Ending BitVector Stopped) → ComesTo widths values r1 x events ending → ComesTo widths values r2 wire (bind events ending next).events (bind events ending next).ending
      by events (Value w) (up, stands, is) =
          subst (λ (v : BitVector). ComesTo widths values r2 wire (next v events).events (next v events).ending) (sym is) (n.runs events up stands)
      by events (Stop cause) down = (n.stands_still down).0

  -- ---- a choice between two parts

  abbrev Up : ℕ → Bool
  Up wire = is_up values wire

  zero_or_one : (n : ℕ) → n < 2 → nat_eq n 0 ≡ not (nat_eq n 1)
  zero_or_one zero lt = refl
  zero_or_one (suc zero) lt = refl
  zero_or_one (suc (suc n)) lt = absurd (omega arith)

  module _ (r1 r3 r5 : RuleNet) (x g1 g2 g3 : ℕ) (a b wire : Option ℕ) (P Q : Evaluation BitVector Stopped)
      (is1 : Up g1 ≡ (Up r1.fires && Up x)) (m1 : Means widths values (record { fires = g1; log = r1.log }) r3 a P)
      (is2 : Up g2 ≡ (Up r1.fires && not (Up x))) (m2 : Means widths values (record { fires = g2; log = r3.log }) r5 b Q)
      (is3 : Up g3 ≡ (Up r3.fires || Up r5.fires))
      (is : wire_value values wire ≡ (if Up x then wire_value values a else wire_value values b))
      (bit : HasWidth (value_at values x) 1) where
    abbrev pub after : RuleNet
    after = record { fires = g3; log = r5.log }

    abbrev Comes : Progress BitVector Stopped → Type 0
    Comes p = ComesTo widths values after wire p.events p.ending

    first_taken : Up x ≡ true → Up r5.fires ≡ false → SameLog widths values r3.log r5.log → (events : List Event) (ending : Ending BitVector Stopped)
        → ComesTo widths values r3 a events ending → ComesTo widths values after wire events ending
    first_taken e off same events (Value w) (up, stands, v) = (
      is3 ∙ ap (λ (p : Bool). p || Up r5.fires) up,
      stands_same r3.log r5.log events same stands,
      v ∙ sym (is ∙ ap (λ (p : Bool). if p then wire_value values a else wire_value values b) e),
    )
    first_taken e off same events (Stop cause) down = is3 ∙ ap₂ (λ (p q : Bool). p || q) down off

    second_taken : Up x ≡ false → Up r3.fires ≡ false → (events : List Event) (ending : Ending BitVector Stopped)
        → ComesTo widths values r5 b events ending → ComesTo widths values after wire events ending
    second_taken e off events (Value w) (up, stands, v) = (
      is3 ∙ ap₂ (λ (p q : Bool). p || q) off up,
      stands,
      v ∙ sym (is ∙ ap (λ (p : Bool). if p then wire_value values a else wire_value values b) e),
    )
    second_taken e off events (Stop cause) down = is3 ∙ ap₂ (λ (p q : Bool). p || q) off down

    is_zero : nat_eq (value_at values x).number 0 ≡ not (Up x)
    is_zero = zero_or_one (value_at values x).number (small (value_at values x) bit)
      where
        small : (v : BitVector) → HasWidth v 1 → v.number < 2
        small v h = subst (λ (w : ℕ). v.number < 2 ^ w) h.1 h.0.in_range

    taken : (t : Bool) → Up x ≡ t → (events : List Event) → Up r1.fires ≡ true → LogStandsFor widths values r1.log events
        → Comes ((if not t then Q else P) events)
    taken true e events up stands =
        let off = m2.stands_still (is2 ∙ ap₂ (λ (p q : Bool). p && not q) up e) in
        first_taken e off.0 off.1 (P events).events (P events).ending (m1.runs events (is1 ∙ ap₂ (λ (p q : Bool). p && q) up e) stands)
    taken false e events up stands =
        let off = m1.stands_still (is1 ∙ ap₂ (λ (p q : Bool). p && q) up e) in
        second_taken e off.0 (Q events).events (Q events).ending (m2.runs events (is2 ∙ ap₂ (λ (p q : Bool). p && not q) up e) (stands_same r1.log r3.log events off.1 stands))

    pub means_choice : Means widths values r1 after wire (choose (value_at values x) P Q)
    means_choice = record {
      runs = λ events up stands.
          subst (λ (t : Bool). Comes ((if t then Q else P) events)) (sym is_zero) (taken (Up x) refl events up stands);
      stands_still = λ down.
          let first = m1.stands_still (is1 ∙ ap (λ (p : Bool). p && Up x) down) in
          let second = m2.stands_still (is2 ∙ ap (λ (p : Bool). p && not (Up x)) down) in
          (is3 ∙ ap₂ (λ (p q : Bool). p || q) first.0 second.0, same_on r1.log r3.log r5.log first.1 second.1);
    }
