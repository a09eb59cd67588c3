use Rattle.std.proofs.Common.{ℕ, ◌+◌, ◌-◌, List, length, take, drop, sym, ap, ap₂, ◌∙◌}
use Rattle.one_rule.specs.declared.rows.Row.{Row}
use Rattle.koika_assert.specs.Violations.{Watched, watched_on}
use Rattle.koika_assert.proofs.FirstsJoined.{behind_first, watched_joined, watched_more}
use Rattle.koika_assert.proofs.watch.Watch.add.Goals as goal

pub returns-clause-fields : goal.returns-clause-fields
returns-clause-fields c =
    let inside = c.self.inside in
    let rows = c.args.rows.now in
    let known : Watched = record { names = inside.names; marks = inside.marks; cycles = inside.cycles; firsts = inside.firsts.items } in
    let later = behind_first c.as_slice.result.now ∙ ap (λ (rs : List Row). drop 1 rs) c.as_slice.ensures in
    let from = c.from-from.ensures ∙ c.requires.goes_on ∙ ap (λ (w : Watched). w.cycles) (sym c.self.view_is) in
    let adds = rw (c.as_slice-2.ensures, from, later) at c.add_firsts.ensures in
    watched_more rows known c.add_firsts.new.firsts.items (c.from-from.result + length (take (length c.as_slice.result.now - 1) (drop 1 c.as_slice.result.now)))
    c.self.invariant.first_each adds (ap₂ (λ (f : ℕ) (rs : List Row). f + length rs) from later)
    ∙ ap (λ (w : Watched). watched_on w rows) c.self.view_is

pub returns-clause-joined : goal.returns-clause-joined
returns-clause-joined c = λ names marks before is.
    let inside = c.self.inside in
    let rows = c.args.rows.now in
    let known : Watched = record { names = inside.names; marks = inside.marks; cycles = inside.cycles; firsts = inside.firsts.items } in
    let later = behind_first c.as_slice.result.now ∙ ap (λ (rs : List Row). drop 1 rs) c.as_slice.ensures in
    let from = c.from-from.ensures ∙ c.requires.goes_on ∙ ap (λ (w : Watched). w.cycles) (sym c.self.view_is) in
    let adds = rw (c.as_slice-2.ensures, from, later) at c.add_firsts.ensures in
    watched_joined names marks before rows known c.add_firsts.new.firsts.items
    (c.from-from.result + length (take (length c.as_slice.result.now - 1) (drop 1 c.as_slice.result.now))) (c.self.view_is ∙ is) c.requires.some adds
    (ap₂ (λ (f : ℕ) (rs : List Row). f + length rs) from later)
