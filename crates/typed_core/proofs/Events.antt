-- Events that fit registers of some widths, and what they leave of the registers.
use Rattle.std.proofs.Common.{◌≡◌, ℕ, ◌<◌, Bool, true, false, List, [], ◌∷◌, ◌++◌, length, Some, refl, sym, subst, eqb-true}
use Rattle.std.specs.Prelude.{slice_get, slice_set, if◌then◌else◌, ◌==◌, ◌&&◌}
use Rattle.std.specs.List.{AllByRecursion}
use Rattle.std.proofs.lemmas.Bool.{and_parts}
use Rattle.std.proofs.lemmas.List.Elements.{All-from_recursion}
use Rattle.kw_bits.specs.BitVector.{BitVector}
use Rattle.kw_bits.specs.Laws.{HasWidth}
use Rattle.typed_core.specs.Alone.{after, after_one, is_write_below, seen}
use Rattle.typed_core.specs.Fits.{AreOf, EventFits, EventsFit}
use Rattle.typed_core.specs.Widths.{HaveWidths}
use Rattle.typed_core.specs.declared.access.Access.{Access}
use Rattle.typed_core.specs.declared.access.Event.{Event}
use Rattle.typed_core.proofs.WidthLists.{HaveWidths-set, found-same, within}

pub EventsFit-append : (widths : List ℕ) (xs ys : List Event) → EventsFit widths xs → EventsFit widths ys → EventsFit widths (xs ++ ys)
EventsFit-append widths [] ys f g = g
EventsFit-append widths (x ∷ xs) ys f g = (f.0, EventsFit-append widths xs ys f.1 g)

-- events that fit are of registers that there are
pub are_of_registers : (widths : List ℕ) (regs : List BitVector) (events : List Event) → EventsFit widths events → HaveWidths widths regs → AreOf (length regs) events
are_of_registers widths regs events fit have = All-from_recursion (λ e. e.access.register < length regs) events (each events fit)
  where
    each : (events : List Event) → EventsFit widths events → AllByRecursion (λ (e : Event). e.access.register < length regs) events
    each [] f = f
    each (e ∷ events) f = (within widths regs e.access.register f.0.value.0 have f.0.value.1, each events f.1)

of_register : (port register : ℕ) (a : Access) → is_write_below port register a ≡ true → a.register ≡ register
of_register port register a h =
    eqb-true a.register register (and_parts a.write (a.register == register) (and_parts (a.write && (a.register == register)) _ h).0).1

chosen_fits : (width : ℕ) (b : Bool) (x y : BitVector) → (b ≡ true → HasWidth x width) → HasWidth y width → HasWidth (if b then x else y) width
chosen_fits width true x y f g = f refl
chosen_fits width false x y f g = g

-- what a read sees has the register's width
pub seen_fits : (widths : List ℕ) (port register width : ℕ) (events : List Event) (start : BitVector) → slice_get widths register ≡ Some width → EventsFit widths events → HasWidth start width → HasWidth (seen port register events start) width
seen_fits widths port register width [] start r f s = s
seen_fits widths port register width (e ∷ events) start r f s =
    let b = is_write_below port register e.access in
    let first : b ≡ true → HasWidth e.value width =
    λ h.
    let mine = subst (λ (n : ℕ). slice_get widths n ≡ Some width) (sym (of_register port register e.access h)) r in
    subst (λ (n : ℕ). HasWidth e.value n) (found-same widths e.access.register f.0.value.0 width f.0.value.1 mine) f.0.value.2 in
    seen_fits widths port register width events _ r f.1 (chosen_fits width b e.value start first s)

-- the registers after an event that fits have their widths
pub after_one_fits : (widths : List ℕ) (regs : List BitVector) (e : Event) → HaveWidths widths regs → EventFits widths e → HaveWidths widths (after_one regs e)
after_one_fits widths regs e fits f = chosen e.access.write
  where
    chosen : (b : Bool) → HaveWidths widths (if b then slice_set regs e.access.register e.value else regs)
    chosen true = HaveWidths-set widths regs e.access.register f.value.0 e.value fits f.value.1 f.value.2
    chosen false = fits

-- the same after many
pub after_fits : (widths : List ℕ) (events : List Event) (regs : List BitVector) → EventsFit widths events → HaveWidths widths regs → HaveWidths widths (after events regs)
after_fits widths [] regs e fits = fits
after_fits widths (e ∷ events) regs f fits = after_fits widths events _ f.1 (after_one_fits widths regs e fits f.0)
