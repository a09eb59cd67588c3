use Rattle.std.proofs.Common.{◌≡◌, ℕ, ◌<◌, false, true, List, [], ◌∷◌, length, sym, subst, ◌∙◌}
use Rattle.std.specs.Prelude.{slice_index_or}
use Rattle.std.proofs.lemmas.List.{get_or_default}
use Rattle.board_lock.specs.inner.Notes.{heads}
use Rattle.board_lock.specs.declared.notes.Note.{Note}
use Rattle.board_lock.proofs.Nexts.{none_left, one_taken}
use Rattle.board_lock.proofs.notes.next.Goals as goal

pub returns-in-Some : goal.returns-in-Some
returns-in-Some c h a =
    let lists : List (List Note) = c.args.lists.now.items in
    let n : ℕ = c.in-Some.number in
    let at = subst (λ (ls : List (List Note)). (n < length ls) × (heads c.args.place (slice_index_or ls n []) ≡ true)) c.as_slice.ensures.value c.in-Some.ensures in
    let is : slice_index_or lists n [] ≡ c.pop.result ∷ c.pop.new.self = get_or_default lists n [] c.index_mut.result.now at.0 ∙ (sym c.index_mut.ensures.value ∙ c.pop.ensures) in
    one_taken c.args.place h lists n c.pop.result c.pop.new.self a at.0 at.1 is

pub returns-in-None : goal.returns-in-None
returns-in-None c h a =
    none_left c.args.place h c.args.lists.now.items a (subst (λ (ls : List (List Note)). (i : ℕ) → i < length ls → heads c.args.place (slice_index_or ls i []) ≡ false) c.as_slice.ensures.value c.in-None.ensures)
