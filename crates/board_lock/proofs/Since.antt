-- A seat's own entries are those of its number after what it had seen at its start.
use Rattle.std.proofs.Common.{◌≡◌, List, [], ◌++◌, length, take, drop, sym, ap, ◌∙◌, subst, append-nil, take-append-drop}
use Rattle.std.proofs.lemmas.List.{append_cancel_left}
use Rattle.std.proofs.Math.Seq.{drop-append_seam, take-append_seam}
use Rattle.attempt_log.specs.declared.entry.Entry.{Entry}
use Rattle.board_lock.specs.Histories.{StartsWith, by}
use Rattle.board_lock.specs.Plays.{Mine, OwnSince}
use Rattle.board_lock.specs.declared.view.Part.{Part}
use Rattle.board_lock.proofs.Own.{by-append, starts_through}

own_since : (p : Part) (log : List Entry) → StartsWith log p.base → Mine p log → OwnSince p log
own_since p log s mine =
    let after : drop (length p.base) log ≡ s.0 = ap (λ (l : List Entry). drop (length p.base) l) s.1 ∙ drop-append_seam p.base s.0 in
    let own : by p.worker s.0 ≡ p.own = append_cancel_left (by p.worker p.base) (by p.worker s.0) p.own (sym (ap (by p.worker) s.1 ∙ by-append p.worker p.base s.0) ∙ mine) in
    (ap (λ (l : List Entry). take (length p.base) l) s.1 ∙ take-append_seam p.base s.0, ap (by p.worker) after ∙ own)

started : (p : Part) (log : List Entry) → OwnSince p log → StartsWith log p.base
started p log since =
    (drop (length p.base) log, sym (take-append-drop (length p.base) log) ∙ ap (λ (l : List Entry). l ++ drop (length p.base) log) since.0)

-- a new seat has seen what it had seen at its start
pub since_new : (p : Part) (log : List Entry) → p.base ≡ log → Mine p log → OwnSince p log
since_new p log begun mine = own_since p log ([], sym begun ∙ sym (append-nil p.base)) mine

-- more was seen
pub since_more : (p q : Part) (old log : List Entry) → OwnSince p old → StartsWith log old → q.base ≡ p.base → Mine q log → OwnSince q log
since_more p q old log since more same mine =
    own_since q log (subst (StartsWith log) (sym same) (starts_through log old p.base more (started p old since))) mine
