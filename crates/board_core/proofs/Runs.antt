-- Events that are made one after another are a board run.
use Rattle.std.proofs.Common.{◌≡◌, List, [], ◌∷◌, ◌++◌, refl, sym, ap, ◌∙◌, subst, append-nil, append_assoc}
use Rattle.board_core.specs.Board.{Board, Opening, run_events, step}
use Rattle.board_core.specs.Kept.{Does, Kept, Runs, StandsFor}
use Rattle.board_core.specs.declared.event.BoardAnswer.{BoardAnswer}
use Rattle.board_core.specs.declared.event.BoardEvent.{BoardEvent}

-- the answers so far, and those to the events that are left, are those to all
abbrev pub Goes : Kept → List BoardEvent → Kept → List BoardAnswer → List BoardEvent → Type 0
Goes old all now answers left =
    (board : Board) → StandsFor old board
    → (at : Board) × StandsFor now at × (answers ++ (run_events old.opening at left).answers ≡ (run_events old.opening board all).answers) × ((run_events old.opening at left).board ≡ (run_events old.opening board all).board)

pub goes_first : (old : Kept) (all : List BoardEvent) → Goes old all old [] all
goes_first old all board st = (board, st, refl, refl)

-- one event more
pub goes_on : (old now next : Kept) (all : List BoardEvent) (answers : List BoardAnswer) (event : BoardEvent) (left : List BoardEvent) (told : BoardAnswer) → now.opening ≡ old.opening → Does (λ o board. step o board event) now told next → Goes old all now answers (event ∷ left) → Goes old all next (answers ++ told ∷ []) left
goes_on old now next all answers event left told same does goes board st =
    let g = goes board st in
    let after = (step old.opening g.0 event).board in
    let rest = (run_events old.opening after left).answers in
    let d = subst (λ (o : Opening). (told ≡ (step o g.0 event).answer) × StandsFor next (step o g.0 event).board) same (does g.0 g.1) in
    (after, d.1, append_assoc answers (told ∷ []) rest ∙ ap (λ (t : BoardAnswer). answers ++ t ∷ rest) d.0 ∙ g.2, g.3)

-- where none is left it is the run
pub goes_last : (old now : Kept) (all : List BoardEvent) (answers : List BoardAnswer) → Goes old all now answers [] → Runs all old answers now
goes_last old now all answers goes board st =
    let g = goes board st in
    (sym (append-nil answers) ∙ g.2, subst (StandsFor now) g.3 g.1)
